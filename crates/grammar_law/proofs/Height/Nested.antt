-- In the tree of a function at most two constructs more stand in one another than round a block, as the last of them may hold none.
use Rattle.std.proofs.Common.{◌≡◌, ◌<◌, ◌≤◌, ◌+◌, ◌==◌, ℕ, zero, suc, Bool, true, false, List, [], ◌∷◌, ◌++◌, length, filter, map, inl, inr, refl, sym, ap, subst, arith, nat_le, if◌then◌else◌}
use Rattle.std.specs.Prelude.{◌⊎◌}
use Rattle.std.proofs.lemmas.Bool.{cases_Bool}
use Rattle.std.proofs.lemmas.Bool.Decides.{eqb_tells, nat_tests}
use Rattle.std.proofs.lemmas.List.{length-append}
use Rattle.spv_module.specs.declared.inst.Function.{Function}
use Rattle.structure_rules.specs.declared.graph.Node.{Node}
use Rattle.structure_rules.specs.declared.graph.Role.{Role}
use Rattle.structure_rules.specs.declared.graph.Role.TheVariants.{First, Merge as MergeOf, Continue, Case as CaseOf, Inside}
use Rattle.structure_rules.specs.declared.graph.Part.{Part}
use Rattle.structure_rules.specs.declared.graph.Part.TheVariants.{If, Loop, Cont, Case}
use Rattle.structure_rules.specs.Graph.{nth, graph}
use Rattle.structure_rules.specs.Nesting.{role, outward, own_part, is_loose, deeper, nesting_step, nesting}
use Rattle.structure_rules.specs.Structure.{IsTooDeep}
use Rattle.nest_place.specs.Nests.{IsSound}
use Rattle.nest_place.proofs.Outward.{reached_inside}
use Rattle.structure_recover.specs.declared.edges.Start.TheVariants.{Block, Body}
use Rattle.structure_recover.specs.declared.edges.Next.{Next}
use Rattle.structure_recover.specs.declared.edges.Next.TheVariants.{At, Stop}
use Rattle.structure_recover.specs.Tree.{Region, ends, item, Item, plain, choose, loose, loop, loop_on, switch, Groups, none, group}
use Rattle.structure_recover.specs.Follows.{heads_loop, Follows, FollowsItem, FollowsGroups, first, IsTree}
use Rattle.structure_recover.specs.Once.{Around, within, branch, own_around, round_step, round, around, stands, item_stands, group_stands, standing, StandsOnce}
use Rattle.structure_recover.proofs.Standing.{tree_once}
use Rattle.grammar_law.specs.Shallow.{most_nested}
use Rattle.grammar_law.specs.Nest.{nest, item_nest, groups_nest}

-- as many stand round each of these at most
abbrev Short : ℕ → List (ℕ × List Around) → Type 0
Short k [] = Unit {0}
Short k (s ∷ ss) = (length s.1 ≤ k) × Short k ss

short-left : (k : ℕ) (xs ys : List (ℕ × List Around)) → Short k (xs ++ ys) → Short k xs
short-left k [] ys short = tt
short-left k (x ∷ xs) ys short = (short.0, short-left k xs ys short.1)

short-right : (k : ℕ) (xs ys : List (ℕ × List Around)) → Short k (xs ++ ys) → Short k ys
short-right k [] ys short = short
short-right k (x ∷ xs) ys short = short-right k xs ys short.1

module _ (f : Function) (g : List Node) (k : ℕ) where
  -- the body of a loop begins with its header
  header-short : (x : Region) (h : ℕ) (qs : List Around) → Follows f g x (At (Body h)) → Short k (stands qs x) → length qs ≤ k
  header-short (ends e) h qs follows short = cc
  header-short (item (plain b) r) h qs follows short = short.0
  header-short (item (choose b x y) r) h qs follows short = short.0
  header-short (item (loose b x y) r) h qs follows short = short.0
  header-short (item (loop b x) r) h qs follows short = let never : true ≡ false = follows.0.1 in absurd cc
  header-short (item (loop_on b z x) r) h qs follows short = let never : true ≡ false = follows.0.1 in absurd cc
  header-short (item (switch b gs) r) h qs follows short = short.0

  mutual
    region-nest : (r : Region) (n : Next) (ps : List Around) → Follows f g r n → Short k (stands ps r) → length ps ≤ k + 1 → nest r + length ps ≤ k + 1
    region-nest (ends e) n ps follows short p = omega (arith, p)
    region-nest (item i r) (Stop e) ps follows short p = absurd follows
    region-nest (item i r) (At s) ps follows short p =
        let one = item-nest i ps follows.1 (short-left k (item_stands ps i) (stands ps r) short) p in
        let rest = region-nest r follows.2.0 ps follows.2.2 (short-right k (item_stands ps i) (stands ps r) short) p in
        omega (arith, one, rest)

    item-nest : (i : Item) (ps : List Around) → FollowsItem f g i → Short k (item_stands ps i) → length ps ≤ k + 1 → item_nest i + length ps ≤ k + 1
    item-nest (plain b) ps follows short p = omega (arith, p)
    item-nest (choose h x y) ps follows short p =
        let few = short.0 in
        let a : nest x + suc (length ps) ≤ k + 1 = region-nest x follows.2.0 (within (If h) ∷ ps) follows.2.2 (short-left k (stands (within (If h) ∷ ps) x) (stands (within (If h) ∷ ps) y) short.1) (omega (arith, few)) in
        let b : nest y + suc (length ps) ≤ k + 1 = region-nest y follows.3.0 (within (If h) ∷ ps) follows.3.2 (short-right k (stands (within (If h) ∷ ps) x) (stands (within (If h) ∷ ps) y) short.1) (omega (arith, few)) in
        omega (arith, a, b)
    item-nest (loose h x y) ps follows short p =
        let few = short.0 in
        let a : nest x + suc (length ps) ≤ k + 1 = region-nest x follows.2.0 (branch h ∷ ps) follows.2.2 (short-left k (stands (branch h ∷ ps) x) (stands (branch h ∷ ps) y) short.1) (omega (arith, few)) in
        let b : nest y + suc (length ps) ≤ k + 1 = region-nest y follows.3.0 (branch h ∷ ps) follows.3.2 (short-right k (stands (branch h ∷ ps) x) (stands (branch h ∷ ps) y) short.1) (omega (arith, few)) in
        omega (arith, a, b)
    item-nest (loop h x) ps follows short p =
        let few : suc (length ps) ≤ k = header-short x h (within (Loop h) ∷ ps) follows.1 short in
        let a : nest x + suc (length ps) ≤ k + 1 = region-nest x (At (Body h)) (within (Loop h) ∷ ps) follows.1 short (omega (arith, few)) in
        omega (arith, a)
    item-nest (loop_on h z x) ps follows short p =
        let body = short-right k (stands (within (Cont h) ∷ ps) z) (stands (within (Loop h) ∷ ps) x) short in
        let few : suc (length ps) ≤ k = header-short x h (within (Loop h) ∷ ps) follows.1 body in
        let a : nest z + suc (length ps) ≤ k + 1 = region-nest z (At (Block follows.0.0)) (within (Cont h) ∷ ps) follows.0.2 (short-left k (stands (within (Cont h) ∷ ps) z) (stands (within (Loop h) ∷ ps) x) short) (omega (arith, few)) in
        let b : nest x + suc (length ps) ≤ k + 1 = region-nest x (At (Body h)) (within (Loop h) ∷ ps) follows.1 body (omega (arith, few)) in
        omega (arith, a, b)
    item-nest (switch h gs) ps follows short p =
        let few = short.0 in
        let a = groups-nest gs h ps follows.2 short.1 few in
        omega (arith, a, few)

    groups-nest : (gs : Groups) (h : ℕ) (ps : List Around) → FollowsGroups f g gs h → Short k (group_stands ps h gs) → length ps ≤ k → groups_nest gs + length ps ≤ k
    groups-nest none h ps follows short p = omega (arith, p)
    groups-nest (group t labels default x gs) h ps follows short p =
        let a : nest x + suc (length ps) ≤ k + 1 = region-nest x follows.2.0 (within (Case h t) ∷ ps) follows.2.2 (short-left k (stands (within (Case h t) ∷ ps) x) (group_stands ps h gs) short) (omega (arith, p)) in
        let b = groups-nest gs h ps follows.3 (short-right k (stands (within (Case h t) ∷ ps) x) (group_stands ps h gs) short) p in
        omega (arith, a, b)

-- as many stand round a block as it is nested deep
own-length : (g : List Node) (p : ℕ) → length (own_around g p) ≡ deeper g p
own-length g p = by_test (is_loose (nth g p)) (own_part g p)
  where
    mapped : (ps : List Part) → length (map within ps) ≡ length ps
    mapped [] = refl
    mapped (q ∷ ps) = ap suc (mapped ps)

    by_test : (b : Bool) (ps : List Part) → length (if b then branch p ∷ map within ps else map within ps) ≡ length ps + (if b then 1 else 0)
    by_test true ps = let e = mapped ps in omega (arith, e)
    by_test false ps = let e = mapped ps in omega (arith, e)

rounds-length : (g : List Node) (n b : ℕ) → length (outward (round_step g) [] g n b) ≡ outward (nesting_step g) 0 g n b
unfolding outward
rounds-length g zero b = refl
rounds-length g (suc n) b = by_role (role g b) (rounds-length g n)
  where
    by_role : (r : Role) → ((c : ℕ) → length (outward (round_step g) [] g n c) ≡ outward (nesting_step g) 0 g n c) → length (round_step g b r (outward (round_step g) [] g n)) ≡ nesting_step g b r (outward (nesting_step g) 0 g n)
    by_role First up = refl
    by_role (MergeOf h) up = up h
    by_role (Continue h) up = let e = up h in omega (arith, e)
    by_role (CaseOf s) up = let e = up s in omega (arith, e)
    by_role (Inside p) up =
        let both : length (own_around g p ++ outward (round_step g) [] g n p) ≡ length (own_around g p) + length (outward (round_step g) [] g n p) = length-append (own_around g p) (outward (round_step g) [] g n p) in
        let own = own-length g p in
        let e = up p in
        omega (arith, both, own, e)

round-length : (g : List Node) (b : ℕ) → length (round g b) ≡ nesting g b
round-length g b = rounds-length g (suc b) b

around-length : (g : List Node) (b : ℕ) → length (around g b) ≤ 1 + nesting g b
around-length g b = by_test (heads_loop g b)
  where
    by_test : (x : Bool) → length (if x then within (Loop b) ∷ round g b else round g b) ≤ 1 + nesting g b
    by_test true = let e = round-length g b in omega (arith, e)
    by_test false = let e = round-length g b in omega (arith, e)

module _ (g : List Node) (shallow : IsTooDeep g → ⊥) where
  nested-le : (b : ℕ) → (nth g b).reached ≡ true → nesting g b ≤ 127
  nested-le b here = by_order (order (nesting g b))
    where
      order : (n : ℕ) → (n ≤ 127) ⊎ (127 < n)
      order n = elim (cases_Bool (nat_le n 127)) [
        | inl e ↦ inl (grind (arith, nat_tests, e))
        | inr e ↦ inr (grind (arith, nat_tests, e))
      ]

      by_order : (nesting g b ≤ 127) ⊎ (127 < nesting g b) → nesting g b ≤ 127
      by_order (inl low) = low
      by_order (inr high) = absurd (shallow (b, reached_inside g b here, here, high))

  module _ (r : Region) (once : StandsOnce g r) where
    one-short : (b : ℕ) (x : Bool) → (nth g b).reached ≡ x → (qs : List Around) → Short 128 (if x then (b, around g b) ∷ [] else [])
    one-short b true here qs = (let low = nested-le b here in let few = around-length g b in omega (arith, low, few), tt)
    one-short b false here qs = tt

    standing-short : (b : ℕ) → Short 128 (standing r b)
    standing-short b = subst (Short 128) (sym (once b)) (one-short b (nth g b).reached refl [])

    -- of those that are chosen by their blocks, each
    chosen-short : (ss : List (ℕ × List Around)) → ((b : ℕ) → Short 128 (filter (λ (s : ℕ × List Around). s.0 == b) ss)) → Short 128 ss
    chosen-short [] each = tt
    chosen-short (s ∷ ss) each = (own (s.0 == s.0) (elim (eqb_tells s.0 s.0) [ inl w ↦ w.0 | inr w ↦ absurd (w.1 refl) ]) (each s.0), chosen-short ss (λ b. less (s.0 == b) b (each b)))
      where
        own : (x : Bool) → x ≡ true → Short 128 (if x then s ∷ filter (λ (t : ℕ × List Around). t.0 == s.0) ss else filter (λ (t : ℕ × List Around). t.0 == s.0) ss) → length s.1 ≤ 128
        own true is short = short.0
        own false is short = cc

        less : (x : Bool) (b : ℕ) → Short 128 (if x then s ∷ filter (λ (t : ℕ × List Around). t.0 == b) ss else filter (λ (t : ℕ × List Around). t.0 == b) ss) → Short 128 (filter (λ (t : ℕ × List Around). t.0 == b) ss)
        less true b short = short.1
        less false b short = short

    all-short : Short 128 (stands [] r)
    all-short = chosen-short (stands [] r) standing-short

-- the law: where the limit on nesting is not exceeded
pub nest-le : (f : Function) (r : Region) → IsSound (graph f) → (IsTooDeep (graph f) → ⊥) → IsTree f r → nest r ≤ most_nested
nest-le f r sound shallow tree =
    let once : StandsOnce (graph f) r = tree_once f (graph f) r sound refl tree in
    let low = region-nest f (graph f) 128 r (first (graph f)) [] tree (all-short (graph f) shallow r once) (omega arith) in
    omega (arith, low)
