-- Nodes that are told one by one which of them are reached.
use Rattle.std.proofs.Common.{◌≡◌, ◌<◌, ◌≤◌, ◌+◌, ℕ, zero, suc, Bool, List, [], ◌∷◌, ◌++◌, length, take, drop, get_or, refl, ap, ◌∙◌, arith}
use Rattle.std.proofs.Math.ListN.{set}
use Rattle.std.proofs.lemmas.List.{append-nil, drop_all, take_all}
use Rattle.structure_rules.specs.declared.graph.Node.{Node}
use Rattle.structure_rules.specs.Graph.{told}

-- the first i nodes are told, and the others as they were
abbrev pub told_first : List Bool → List Node → ℕ → List Node
told_first marks ns i = told (take i marks) ns ++ drop i ns

pub told_none : (marks : List Bool) (ns : List Node) → told_first marks ns 0 ≡ ns
told_none marks ns = refl

pub still : (marks : List Bool) (ns : List Node) (i : ℕ) (d : Node) → i < length marks → get_or (told_first marks ns i) i d ≡ get_or ns i d
still [] ns i d h = absurd (omega (arith, h))
still (m ∷ marks) [] zero d h = refl
still (m ∷ marks) (n ∷ ns) zero d h = refl
still (m ∷ marks) [] (suc i) d h = refl
still (m ∷ marks) (n ∷ ns) (suc i) d h = still marks ns i d (omega (arith, h))

step : (marks : List Bool) (ns : List Node) (i : ℕ) (d : Node) (e : Bool) → i < length marks → length marks ≡ length ns → set (told_first marks ns i) i (record (get_or ns i d) { reached = get_or marks i e }) ≡ told_first marks ns (suc i)
step [] ns i d e h size = absurd (omega (arith, h))
step (m ∷ marks) [] i d e h size = absurd (omega (arith, size))
step (m ∷ marks) (n ∷ ns) zero d e h size = refl
step (m ∷ marks) (n ∷ ns) (suc i) d e h size = ap (λ xs. record n { reached = m } ∷ xs) (step marks ns i d e (omega (arith, h)) (omega (arith, size)))

-- one node more is told
pub told_step : (marks : List Bool) (ns now : List Node) (i : ℕ) (d : Node) (e : Bool) → now ≡ told_first marks ns i → i < length marks → length marks ≡ length ns → set now i (record (get_or now i d) { reached = get_or marks i e }) ≡ told_first marks ns (i + 1)
told_step marks ns now i d e is h size =
    let next : suc i ≡ i + 1 = omega arith in
    ap (λ xs. set xs i (record (get_or xs i d) { reached = get_or marks i e })) is
    ∙ (ap (λ (x : Node). set (told_first marks ns i) i (record x { reached = get_or marks i e })) (still marks ns i d h)
    ∙ (step marks ns i d e h size ∙ ap (told_first marks ns) next))

pub told_read : (marks : List Bool) (ns now : List Node) (i : ℕ) (d m : Node) (e : Bool) → m ≡ get_or now i d → now ≡ told_first marks ns i → i < length marks → length marks ≡ length ns → set now i (record m { reached = get_or marks i e }) ≡ told_first marks ns (i + 1)
told_read marks ns now i d m e read is h size =
    ap (λ (x : Node). set now i (record x { reached = get_or marks i e })) read ∙ told_step marks ns now i d e is h size

pub told_end : (marks : List Bool) (ns : List Node) (i : ℕ) → length marks ≤ i → length marks ≡ length ns → told_first marks ns i ≡ told marks ns
told_end marks ns i all size =
    let past : length ns ≤ i = omega (arith, all, size) in
    ap (λ xs. told (take i marks) ns ++ xs) (drop_all i ns past) ∙ (append-nil (told (take i marks) ns) ∙ ap (λ ms. told ms ns) (take_all i marks all))

pub ruleset told_rules = (told_none, told_end)
