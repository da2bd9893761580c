-- The instructions of a function stand in the order of the module's words, and have results as those have them.
use Rattle.std.proofs.Common.{◌≡◌, ◌<◌, ◌≤◌, ◌+◌, ℕ, zero, suc, List, [], ◌∷◌, ◌++◌, length, map, inr, refl, sym, subst, if◌then◌else◌, arith}
use Rattle.std.specs.Prelude.{◌/◌, ◌-◌, flat_map, drop, slice_index}
use Rattle.spv_words.specs.Words.{insts, insts_from, nth_inst}
use Rattle.spv_words.specs.declared.rule.Rule.TheVariants.{P3}
use Rattle.spv_words.specs.declared.words.Inst1.{Inst1}
use Rattle.spv_module.specs.declared.kind.Kind.{Kind}
use Rattle.spv_module.specs.declared.kind.Kind.TheVariants.{Debug, Global, Undef, Variable, Function as Opening, End, Label}
use Rattle.spv_module.specs.declared.kind.Place.{Place}
use Rattle.spv_module.specs.declared.kind.Place.TheVariants.{Outside}
use Rattle.spv_module.specs.declared.inst.Inst.{Inst}
use Rattle.spv_module.specs.declared.inst.Block.{Block}
use Rattle.spv_module.specs.Inst.{inst_of}
use Rattle.spv_module.specs.Kinds.{kind_of}
use Rattle.spv_module.specs.Form.{after}
use Rattle.spv_module.specs.Broken.{Broken}
use Rattle.spv_module.specs.Ids.{result_by, result_of, results, IsRepeated}
use Rattle.spv_module.specs.Lists.{is_global, globals_from, globals, with_inst, block_insts, block, with_block, blocks, function, with_function, functions_from, functions}
pub use Rattle.list_law.proofs.Lists.{map_length}
use Rattle.plan_law.specs.InOrder.{AreRising, HaveNot, AreApart}
use Rattle.plan_law.specs.Distinct.{IsNone, AreDistinct, AllRise, AllApart}

abbrev Rise : ℕ → List Inst1 → Type 0
Rise n [] = Unit {0}
Rise n (i ∷ is) = (n ≤ i.start) × Rise (i.start + 1) is

rise_below : (n m : ℕ) → n ≤ m → (is : List Inst1) → Rise m is → Rise n is
rise_below n m le [] rise = tt
rise_below n m le (i ∷ is) rise = let first = rise.0 in (let low : n ≤ i.start = omega (arith, le, first) in low, rise.1)

rising_below : (n m : ℕ) → n ≤ m → (is : List Inst) → AreRising m is → AreRising n is
rising_below n m le [] rise = tt
rising_below n m le (i ∷ is) rise = let first = rise.0 in (let low : n ≤ i.at = omega (arith, le, first) in low, rise.1)

-- each instruction starts behind the one before
starts_rise : (at skip : ℕ) (ws : List ℕ) → Rise at (insts_from at skip ws)
starts_rise at skip [] = tt
starts_rise at zero (w ∷ ws) =
    (let low : at ≤ at = omega arith in low, subst (λ n. Rise n (insts_from (suc at) (w / 65536 - 1) ws)) (let next : suc at ≡ at + 1 = omega arith in next) (starts_rise (suc at) (w / 65536 - 1) ws))
starts_rise at (suc skip) (w ∷ ws) = rise_below at (suc at) (let low : at ≤ suc at = omega arith in low) (insts_from (suc at) skip ws) (starts_rise (suc at) skip ws)

abbrev pub flat : List Block → List Inst
flat bs = flat_map (λ (b : Block). b.insts) bs

-- a result that does not stand twice stands once
none_at : (x : ℕ) (xs : List ℕ) → ((k : ℕ) → k < length xs → slice_index xs k ≡ x → ⊥) → IsNone x xs
none_at x [] far = tt
none_at x (y ∷ xs) far = (far 0 (let less : 0 < suc (length xs) = omega arith in less), none_at x xs (λ k less. far (suc k) (let more : suc k < suc (length xs) = omega (arith, less) in more)))

distinct_from : (xs : List ℕ) → ((k : ℕ) → k < length xs → IsRepeated xs k → ⊥) → AreDistinct xs
distinct_from [] far = tt
distinct_from (x ∷ xs) far = (
  λ some. none_at x xs (λ k less same.
      let here : slice_index (x ∷ xs) (suc k) ≡ x = same in
      let positive : 0 < slice_index (x ∷ xs) (suc k) = subst (λ n. 0 < n) (sym here) (let above : 0 < x = above_zero x some in above) in
      far (suc k) (let more : suc k < suc (length xs) = omega (arith, less) in more) (positive, (0, (let before : 0 < suc k = omega arith in before), sym here))),
  distinct_from xs (λ k less twice. far (suc k) (let more : suc k < suc (length xs) = omega (arith, less) in more)
      (twice.0, (suc twice.1.0, (let earlier = twice.1.1 in let before : suc twice.1.0 < suc k = omega (arith, earlier) in before), twice.1.2))),
)
  where
    above_zero : (x : ℕ) → (x ≡ 0 → ⊥) → 0 < x
    above_zero zero some = absurd (some refl)
    above_zero (suc x) some = omega arith

module _ (ws : List ℕ) where
  -- those up to the next label, with those of the blocks behind it
  insts_rise : (is : List Inst1) (n : ℕ) → Rise n is → AreRising n (block_insts ws is ++ flat (blocks ws is)) × AreRising n (flat (blocks ws is))
  insts_rise [] n rise = (tt, tt)
  insts_rise (i ∷ is) n rise = by_kind (kind_of ws i) (insts_rise is (i.start + 1) rise.1)
    where
      low : n ≤ i.start + 1
      low = let first = rise.0 in omega (arith, first)

      by_kind : (k : Kind) (rest : AreRising (i.start + 1) (block_insts ws is ++ flat (blocks ws is)) × AreRising (i.start + 1) (flat (blocks ws is))) → AreRising n (with_inst k (inst_of ws i) (block_insts ws is) ++ flat (with_block k (block ws i is) (blocks ws is))) × AreRising n (flat (with_block k (block ws i is) (blocks ws is)))
      by_kind Label rest = (rising_below n (i.start + 1) low (block_insts ws is ++ flat (blocks ws is)) rest.0, rising_below n (i.start + 1) low (block_insts ws is ++ flat (blocks ws is)) rest.0)
      by_kind End rest = (tt, tt)
      by_kind Debug rest = (rising_below n (i.start + 1) low (block_insts ws is ++ flat (blocks ws is)) rest.0, rising_below n (i.start + 1) low (flat (blocks ws is)) rest.1)
      by_kind k rest = ((rise.0, rest.0), rising_below n (i.start + 1) low (flat (blocks ws is)) rest.1)

  functions_rise : (is : List Inst1) (n : ℕ) → Rise n is → AllRise (functions_from ws is)
  functions_rise [] n rise = tt
  functions_rise (i ∷ is) n rise = by_kind (kind_of ws i) (functions_rise is (i.start + 1) rise.1)
    where
      by_kind : (k : Kind) (more : AllRise (functions_from ws is)) → AllRise (with_function k (function ws i is) (functions_from ws is))
      by_kind Opening more = (rising_below 0 (i.start + 1) (let low : 0 ≤ i.start + 1 = omega arith in low) (flat (blocks ws is)) (insts_rise is (i.start + 1) rise.1).1, more)
      by_kind k more = more

  -- a result that none of the words' instructions has, none of a function has
  pub none_has : (id : ℕ) (is : List Inst1) → IsNone id (map (result_of ws) is) → HaveNot id (block_insts ws is ++ flat (blocks ws is)) × HaveNot id (flat (blocks ws is))
  none_has id [] gives = (tt, tt)
  none_has id (i ∷ is) gives = by_kind (kind_of ws i) (none_has id is gives.1) gives.0
    where
      by_kind : (k : Kind) (rest : HaveNot id (block_insts ws is ++ flat (blocks ws is)) × HaveNot id (flat (blocks ws is))) → (result_by k (inst_of ws i) ≡ id → ⊥) → HaveNot id (with_inst k (inst_of ws i) (block_insts ws is) ++ flat (with_block k (block ws i is) (blocks ws is))) × HaveNot id (flat (with_block k (block ws i is) (blocks ws is)))
      by_kind Label rest far = (rest.0, rest.0)
      by_kind End rest far = (tt, tt)
      by_kind Debug rest far = rest
      by_kind k rest far = ((far, rest.0), rest.1)

  insts_apart : (is : List Inst1) → AreDistinct (map (result_of ws) is) → AreApart (block_insts ws is ++ flat (blocks ws is)) × AreApart (flat (blocks ws is))
  insts_apart [] distinct = (tt, tt)
  insts_apart (i ∷ is) distinct = by_kind (kind_of ws i) (insts_apart is distinct.1) distinct.0
    where
      by_kind : (k : Kind) (rest : AreApart (block_insts ws is ++ flat (blocks ws is)) × AreApart (flat (blocks ws is))) → ((result_by k (inst_of ws i) ≡ 0 → ⊥) → IsNone (result_by k (inst_of ws i)) (map (result_of ws) is)) → AreApart (with_inst k (inst_of ws i) (block_insts ws is) ++ flat (with_block k (block ws i is) (blocks ws is))) × AreApart (flat (with_block k (block ws i is) (blocks ws is)))
      by_kind Label rest far = (rest.0, rest.0)
      by_kind End rest far = (tt, tt)
      by_kind Debug rest far = rest
      by_kind k rest far = ((λ some. (none_has (inst_of ws i).result is (far some)).0, rest.0), rest.1)

  functions_apart : (is : List Inst1) → AreDistinct (map (result_of ws) is) → AllApart (functions_from ws is)
  functions_apart [] distinct = tt
  functions_apart (i ∷ is) distinct = by_kind (kind_of ws i) (functions_apart is distinct.1)
    where
      by_kind : (k : Kind) (more : AllApart (functions_from ws is)) → AllApart (with_function k (function ws i is) (functions_from ws is))
      by_kind Opening more = ((insts_apart is distinct.1).1, more)
      by_kind k more = more

  -- the globals from a place on
  rise_global : (p : Place) (is : List Inst1) (n : ℕ) → Rise n is → AreRising n (globals_from ws p is)
  rise_global p [] n rise = tt
  rise_global p (i ∷ is) n rise = by_kind p (kind_of ws i) (rise_global (after p (kind_of ws i)) is (i.start + 1) rise.1)
    where
      low : n ≤ i.start + 1
      low = let first = rise.0 in omega (arith, first)

      by_kind : (p : Place) (k : Kind) → AreRising (i.start + 1) (globals_from ws (after p k) is) → AreRising n (if is_global p k then inst_of ws i ∷ globals_from ws (after p k) is else globals_from ws (after p k) is)
      by_kind p Global rest = (rise.0, rest)
      by_kind Outside Undef rest = (rise.0, rest)
      by_kind Outside Variable rest = (rise.0, rest)
      by_kind p k rest = rising_below n (i.start + 1) low (globals_from ws (after p k) is) rest

  pub globals_rise : AreRising 0 (globals ws)
  globals_rise = rising_below 0 5 (let low : 0 ≤ 5 = omega arith in low) (globals ws) (rise_global Outside (insts ws) 5 (starts_rise 5 0 (drop 5 ws)))

  -- the functions of a module
  pub all_rise : AllRise (functions ws)
  all_rise = functions_rise (insts ws) 5 (starts_rise 5 0 (drop 5 ws))

  -- where P3 is not broken
  pub distinct : ((at : ℕ) → Broken ws P3 at → ⊥) → AreDistinct (results ws)
  distinct unbroken =
      distinct_from (results ws) (λ k less twice.
      let inside : k < length (insts ws) = subst (λ n. k < n) (map_length (result_of ws) (insts ws)) less in
      unbroken (nth_inst ws k).start (k, inside, refl, inr twice))

  pub all_apart : ((at : ℕ) → Broken ws P3 at → ⊥) → AllApart (functions ws)
  all_apart unbroken = functions_apart (insts ws) (distinct unbroken)
