-- The moves of the edges into a block, one after another.
use Rattle.std.proofs.Common.{◌≡◌, ◌==◌, ◌<◌, ◌+◌, ◌||◌, ℕ, zero, suc, Bool, true, false, List, [], ◌∷◌, ◌++◌, Option, Some, None, is_some, take, get_or, length, refl, sym, ◌∙◌, ap, subst, cond, arith}
use Rattle.std.proofs.lemmas.List.{take_more, append-nil}
use Rattle.std.proofs.lemmas.List.Folds.{list_any-append}
use Rattle.std.proofs.lemmas.Bool.{eqb-true}
use Rattle.std.specs.Prelude.{if◌then◌else◌, slice_get}
use Rattle.std.specs.Option.{option_map_or}
use Rattle.std.specs.List.{AllZip, list_any}
use Rattle.std.specs.BTreeMap.{get, is_at, keys}
use Rattle.std.proofs.lemmas.Map.Made.{is_some-lookup}
use Rattle.std.specs.Ordering.{nat_cmp}
use Rattle.std.specs.declared.vec.Vec.{Vec}
use Rattle.std.specs.declared.alloc.Global.{Global}
use Rattle.list_law.proofs.Numbers.{turned, order_at}
use Rattle.spv_module.specs.declared.inst.Inst.{Inst}
use Rattle.spv_module.specs.declared.inst.Block.{Block}
use Rattle.spv_module.specs.declared.inst.Function.{Function}
use Rattle.hoist_plan.specs.declared.form.Form.{Form}
use Rattle.phi_copies.specs.declared.moves.Move.{Move}
use Rattle.phi_copies.specs.Sequence.{Pair, IsSequence, IsLeft}
use Rattle.function_plan.specs.declared.edge_moves.Moves.{Moves}
use Rattle.function_plan.specs.Phis.{pairs_into, firsts}
use Rattle.function_plan.proofs.Edges.{same}
use Rattle.function_plan.specs.Moved.{items_at, or_moves, moves_in, PairsByBlock, pairs_from, AreListed, AreMovesFor}

-- no copies make no moves
pub none_left : IsSequence [] []
none_left = record { next = tt; whole = λ i left. absurd (nothing i left) }
  where
    nothing : (i : ℕ) → IsLeft [] [] i → ⊥
    nothing i left = let below : i < 0 = left.below in omega arith

-- the moves of the edge from a block are there, where it is among those that are done
pub record AreMovesOf (pairs : PairsByBlock) (done : List ℕ) (b : ℕ) (found : Option (Vec Move Global)) : Type 0 where
  pub made : list_any (λ c. c == b) done ≡ true → IsSequence (firsts (pairs_from pairs b)) (items_at found)
  pub rest : list_any (λ c. c == b) done ≡ false → found ≡ None

-- the moves of the edges into each block
abbrev pub AreMovesInto : List Inst → (ℕ → Form) → Function → List Block → List (Moves) → Type 0
AreMovesInto gs form f blocks moves = AllZip (AreMovesFor gs form f) blocks moves

pub zip_push : {A B : Type 0} (R : A → B → Type 0) (xs : List A) (ys : List B) (x : A) (y : B) → AllZip R xs ys → R x y → AllZip R (xs ++ x ∷ []) (ys ++ y ∷ [])
zip_push R [] [] x y all now = (now, tt)
zip_push R [] (z ∷ ys) x y all now = absurd all
zip_push R (w ∷ xs) [] x y all now = absurd all
zip_push R (w ∷ xs) (z ∷ ys) x y all now = (all.0, zip_push R xs ys x y all.1 now)

pub zipped : (gs : List Inst) (form : ℕ → Form) (f : Function) (blocks : List Block) (moves : List (Moves)) → AreMovesInto gs form f blocks moves
    → (b t : ℕ) → IsSequence (firsts (option_map_or (pairs_into gs form f b) (slice_get blocks t) [])) (moves_in moves b t)
zipped gs form f [] [] all b t = none_left
zipped gs form f [] (m ∷ ms) all b t = absurd all
zipped gs form f (x ∷ xs) [] all b t = absurd all
zipped gs form f (x ∷ xs) (m ∷ ms) all b zero = all.0 b
zipped gs form f (x ∷ xs) (m ∷ ms) all b (suc t) = zipped gs form f xs ms all.1 b t

is_nothing : {A : Type 0} (o : Option A) → (is_some o ≡ true → ⊥) → o ≡ None
is_nothing None no_more = refl
is_nothing (Some a) no_more = absurd (no_more refl)

true_false : true ≡ false → ⊥
true_false e = cc

pub all_made : (given : PairsByBlock) (blocks : List ℕ) (b : ℕ) (found : Option (Vec Move Global)) → AreListed given blocks → AreMovesOf given blocks b found → IsSequence (firsts (pairs_from given b)) (items_at found)
all_made given blocks b found listed are = step (list_any (λ c. c == b) blocks) refl
  where
    step : (x : Bool) → list_any (λ c. c == b) blocks ≡ x → IsSequence (firsts (pairs_from given b)) (items_at found)
    step true e = are.made e
    step false e =
        let gone : get nat_cmp given b ≡ None = is_nothing (get nat_cmp given b) (λ h. true_false (sym (listed b h) ∙ e)) in
        let P : Option (Vec Move Global) → Type 0 = λ x. IsSequence (firsts (pairs_from given b)) (items_at x) in
        let Q : Option (Vec Pair Global) → Type 0 = λ x. IsSequence (firsts (items_at x)) [] in
        subst P (sym (are.rest e)) (subst Q (sym gone) none_left)

or_true : (a : Bool) → (a || (true || false)) ≡ false → ⊥
or_true true e = true_false e
or_true false e = true_false e

or_left : (a x : Bool) → (a || (false || false)) ≡ x → a ≡ x
or_left true x e = e
or_left false x e = e

some_none : (m : Vec Move Global) → Some m ≡ None → ⊥
some_none m e = cc

-- one more of the blocks from which edges come
pub moved_more : (given : PairsByBlock) (blocks : List ℕ) (i from b : ℕ) (old new : Option (Vec Move Global)) (moves : Vec Move Global) → i < length blocks → from ≡ get_or blocks i 0
    → IsSequence (firsts (pairs_from given from)) moves.items → new ≡ or_moves old (if from == b then Some moves else None)
    → AreMovesOf given (take i blocks) b old → AreMovesOf given (take (i + 1) blocks) b new
moved_more given blocks i from b old new moves less at made put before = step (from == b) refl
  where
    grown : (x : Bool) → (from == b) ≡ x → list_any (λ c. c == b) (take (i + 1) blocks) ≡ (list_any (λ c. c == b) (take i blocks) || (x || false))
    grown x e =
        ap (list_any (λ c. c == b)) (take_more blocks i 0 less ∙ ap (λ y. take i blocks ++ y ∷ []) (sym at))
        ∙ (list_any-append (λ c. c == b) (take i blocks) (from ∷ []) ∙ ap (λ y. list_any (λ c. c == b) (take i blocks) || (y || false)) e)

    found : (x : Bool) → (from == b) ≡ x → new ≡ or_moves old (if x then Some moves else None)
    found x e = put ∙ ap (λ y. or_moves old (if y then Some moves else None)) e

    Made : Option (Vec Move Global) → Type 0
    Made o = IsSequence (firsts (pairs_from given b)) (items_at o)

    own : from ≡ b → Made (Some moves)
    own same = subst (λ (n : ℕ). IsSequence (firsts (pairs_from given n)) moves.items) same made

    first : (o : Option (Vec Move Global)) (d : Bool) → list_any (λ c. c == b) (take i blocks) ≡ d → AreMovesOf given (take i blocks) b o → from ≡ b → Made (or_moves o (Some moves))
    first None d e are same = own same
    first (Some m) true e are same = are.made e
    first (Some m) false e are same = absurd (some_none m (are.rest e))

    step : (x : Bool) → (from == b) ≡ x → AreMovesOf given (take (i + 1) blocks) b new
    step true e = record {
      made = λ h. subst Made (sym (found true e)) (first old (list_any (λ c. c == b) (take i blocks)) refl before (eqb-true from b e));
      rest = λ h. absurd (or_true (list_any (λ c. c == b) (take i blocks)) (sym (grown true e) ∙ h));
    }
    step false e = record {
      made = λ h. subst Made (sym (found false e ∙ sym (same old))) (before.made (or_left (list_any (λ c. c == b) (take i blocks)) true (sym (grown false e) ∙ h)));
      rest = λ h. (found false e ∙ sym (same old)) ∙ before.rest (or_left (list_any (λ c. c == b) (take i blocks)) false (sym (grown false e) ∙ h));
    }

-- one more pair of the edge from a block
pub pair_put : (given left new : PairsByBlock) (from : ℕ) (before list : Vec Pair Global) (pair : Pair) → before.items ≡ pairs_from given from → list.items ≡ before.items ++ pair ∷ []
    → ((b : ℕ) → get nat_cmp left b ≡ (if is_at (nat_cmp from) b then None else get nat_cmp given b)) → ((b : ℕ) → get nat_cmp new b ≡ cond (is_at (nat_cmp from) b) (Some list) (get nat_cmp left b))
    → (b : ℕ) → pairs_from new b ≡ pairs_from given b ++ (if from == b then pair ∷ [] else [])
pair_put given left new from before list pair taken pushed rest put b = step (from == b) refl
  where
    step : (x : Bool) → (from == b) ≡ x → pairs_from new b ≡ pairs_from given b ++ (if x then pair ∷ [] else [])
    step true e =
        ap items_at (put b ∙ ap (λ y. cond y (Some list) (get nat_cmp left b)) (order_at from b ∙ e))
        ∙ (pushed ∙ ap (λ ps. ps ++ pair ∷ []) (taken ∙ ap (pairs_from given) (eqb-true from b e)))
    step false e =
        ap items_at (put b ∙ ap (λ y. cond y (Some list) (get nat_cmp left b)) (order_at from b ∙ e))
        ∙ (ap items_at (rest b ∙ ap (λ y. if y then None else get nat_cmp given b) (order_at from b ∙ e))
        ∙ sym (append-nil (pairs_from given b)))

-- the keys are all blocks that have pairs
any_same : (b : ℕ) (ks : List ℕ) → list_any (is_at (nat_cmp b)) ks ≡ list_any (λ c. c == b) ks
any_same b ks = ap (λ p. list_any p ks) (λ i c. (order_at b c ∙ turned b c) i)

pub listed : (given : PairsByBlock) (blocks : List ℕ) → blocks ≡ keys given → AreListed given blocks
listed given blocks are = λ b has.
    ap (list_any (λ c. c == b)) are ∙ (sym (any_same b (keys given)) ∙ (sym (is_some-lookup (is_at (nat_cmp b)) given.entries) ∙ has))

-- and one block more into which edges lead
pub moves_push : (gs : List Inst) (form : ℕ → Form) (f : Function) (blocks : List Block) (i : ℕ) (d : Block) (moves : List (Moves)) (new : Moves) → i < length blocks
    → AreMovesFor gs form f (get_or blocks i d) new → AreMovesInto gs form f (take i blocks) moves → AreMovesInto gs form f (take (i + 1) blocks) (moves ++ new ∷ [])
moves_push gs form f blocks i d moves new less now before =
    subst (λ bs. AreMovesInto gs form f bs (moves ++ new ∷ [])) (sym (take_more blocks i d less)) (zip_push (AreMovesFor gs form f) (take i blocks) moves (get_or blocks i d) new before now)
