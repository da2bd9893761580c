-- The moves of edges in a list, in which the first of a block counts.
use Rattle.std.proofs.Common.{◌≡◌, ◌==◌, ℕ, Bool, true, false, List, [], ◌∷◌, ◌++◌, Option, Some, None, is_some, cond, if◌then◌else◌, refl, sym, ◌∙◌, ap, subst}
use Rattle.std.specs.Prelude.{option_map, find}
use Rattle.std.specs.BTreeMap.{BTreeMap, get, is_at}
use Rattle.std.specs.Ordering.{nat_cmp}
use Rattle.std.specs.declared.vec.Vec.{Vec}
use Rattle.std.specs.declared.alloc.Global.{Global}
use Rattle.std.proofs.lemmas.Bool.{eqb-true}
use Rattle.list_law.proofs.Numbers.{order_at}
use Rattle.phi_copies.specs.declared.moves.Move.{Move}
use Rattle.phi_copies.specs.Sequence.{Pair}
use Rattle.function_plan.specs.Moved.{or_moves, is_from, first_from, single, left_moves}

abbrev pub Edge : Type 0
Edge = ℕ × Vec Move Global

-- an edge behind the others counts where its block has none before
pub first_append : (edges : List Edge) (e : Edge) (b : ℕ) → first_from (edges ++ e ∷ []) b ≡ or_moves (first_from edges b) (if e.0 == b then Some e.1 else None)
first_append [] e b = step (e.0 == b)
  where
    step : (x : Bool) → option_map (λ (d : Edge). d.1) (cond x (Some e) None) ≡ (if x then Some e.1 else None)
    step true = refl
    step false = refl
first_append (d ∷ edges) e b = step (d.0 == b) (first_append edges e b)
  where
    step : (x : Bool) → first_from (edges ++ e ∷ []) b ≡ or_moves (first_from edges b) (if e.0 == b then Some e.1 else None)
        → option_map (λ (d : Edge). d.1) (cond x (Some d) (find (is_from b) (edges ++ e ∷ []))) ≡ or_moves (option_map (λ (d : Edge). d.1) (cond x (Some d) (find (is_from b) edges))) (if e.0 == b then Some e.1 else None)
    step true rest = refl
    step false rest = rest

-- the moves of a pair, behind those of others
left_or : (o : Option (Vec Move Global)) (x : Bool) (own : Vec Move Global) (pair : Pair) (ps : List Pair) → own.items ≡ single pair → left_moves (or_moves o (if x then Some own else None)) ps ≡ left_moves o ((if x then pair ∷ [] else []) ++ ps)
left_or (Some m) x own pair ps made = refl
left_or None true own pair ps made = made
left_or None false own pair ps made = refl

pub left_pushed : (old new : List Edge) (from : ℕ) (own : Vec Move Global) (pair : Pair) → new ≡ old ++ (from, own) ∷ [] → own.items ≡ single pair
    → (b : ℕ) (ps : List Pair) → left_moves (first_from new b) ps ≡ left_moves (first_from old b) ((if from == b then pair ∷ [] else []) ++ ps)
left_pushed old new from own pair pushed made b ps =
    ap (λ (edges : List Edge). left_moves (first_from edges b) ps) pushed
    ∙ (ap (λ o. left_moves o ps) (first_append old (from, own) b)
    ∙ left_or (first_from old b) (from == b) own pair ps made)

-- a block that has moves keeps them, and another gets its first
kept : (o next : Option (Vec Move Global)) → is_some o ≡ true → o ≡ or_moves o next
kept (Some m) next some = refl
kept None next some = cc

nothing : (o next : Option (Vec Move Global)) → is_some o ≡ false → next ≡ or_moves o next
nothing None next e = refl
nothing (Some m) next e = cc

pub same : (o : Option (Vec Move Global)) → o ≡ or_moves o None
same None = refl
same (Some m) = refl

abbrev pub Tree : Type 0
Tree = BTreeMap ℕ (Vec Move Global)

pub put_kept : (tree : Tree) (from : ℕ) (own : Vec Move Global) → is_some (get nat_cmp tree from) ≡ true
    → (b : ℕ) → get nat_cmp tree b ≡ or_moves (get nat_cmp tree b) (if from == b then Some own else None)
put_kept tree from own some b = step (from == b) refl
  where
    step : (x : Bool) → (from == b) ≡ x → get nat_cmp tree b ≡ or_moves (get nat_cmp tree b) (if x then Some own else None)
    step true e = kept (get nat_cmp tree b) (Some own) (subst (λ q. is_some (get nat_cmp tree q) ≡ true) (eqb-true from b e) some)
    step false e = same (get nat_cmp tree b)

pub put_new : (old new : Tree) (from : ℕ) (own : Vec Move Global) → is_some (get nat_cmp old from) ≡ false → ((b : ℕ) → get nat_cmp new b ≡ cond (is_at (nat_cmp from) b) (Some own) (get nat_cmp old b))
    → (b : ℕ) → get nat_cmp new b ≡ or_moves (get nat_cmp old b) (if from == b then Some own else None)
put_new old new from own free put b = step (from == b) refl
  where
    found : (x : Bool) → (from == b) ≡ x → get nat_cmp new b ≡ cond x (Some own) (get nat_cmp old b)
    found x e = put b ∙ ap (λ y. cond y (Some own) (get nat_cmp old b)) (order_at from b ∙ e)

    step : (x : Bool) → (from == b) ≡ x → get nat_cmp new b ≡ or_moves (get nat_cmp old b) (if x then Some own else None)
    step true e = found true e ∙ nothing (get nat_cmp old b) (Some own) (subst (λ q. is_some (get nat_cmp old q) ≡ false) (eqb-true from b e) free)
    step false e = found false e ∙ same (get nat_cmp old b)

-- one more of a list
pub tree_more : (old new : Tree) (done : List Edge) (e : Edge) → ((b : ℕ) → get nat_cmp new b ≡ or_moves (get nat_cmp old b) (if e.0 == b then Some e.1 else None)) → ((b : ℕ) → get nat_cmp old b ≡ first_from done b)
    → (b : ℕ) → get nat_cmp new b ≡ first_from (done ++ e ∷ []) b
tree_more old new done e put before b =
    put b ∙ (ap (λ o. or_moves o (if e.0 == b then Some e.1 else None)) (before b) ∙ sym (first_append done e b))
