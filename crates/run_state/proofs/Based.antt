-- Chains that are based on another, one instruction after the other.
use Rattle.std.proofs.Common.{◌≡◌, ◌<◌, ◌≤◌, ◌+◌, ◌==◌, ◌||◌, not, ℕ, suc, Bool, true, false, List, [], ◌∷◌, ◌++◌, refl, ap, sym, ◌∙◌, subst, arith, add-one, length, drop, get_or}
use Rattle.std.specs.Prelude.{filter, Option, None, if◌then◌else◌}
use Rattle.std.specs.List.{flat_map}
use Rattle.std.proofs.Math.Seq.{drop-cons}
use Rattle.std.proofs.Math.ListN.{drop_of_length-le}
use Rattle.std.proofs.lemmas.Bool.Decides.{nat_tests}
use Rattle.std.proofs.Math.Bool.{or-true}
use Rattle.list_law.proofs.Numbers.{number_other}
use Rattle.spv_module.specs.declared.inst.Inst.{Inst}
use Rattle.spv_module.specs.declared.inst.Block.{Block}
use Rattle.module_semantics.specs.State as state
use Rattle.module_semantics.specs.Steps.{with_based, based_among}
use Rattle.module_semantics.specs.Setting.{is_listed}
use Rattle.run_state.specs.Ids.{without, with_held}

or_false : (b : Bool) → (b || false) ≡ b
or_false true = refl
or_false false = refl

-- one more is listed
pub listed_push : (xs : List ℕ) (x q : ℕ) → is_listed (xs ++ x ∷ []) q ≡ (if x == q then true else is_listed xs q)
listed_push [] x q = or_false (x == q) ∙ (elim (x == q) as (λ b. b ≡ (if b then true else false)) [ true ↦ refl | false ↦ refl ])
listed_push (y ∷ xs) x q =
    ap (λ b. (y == q) || b) (listed_push xs x q)
    ∙ (elim (x == q) as (λ b. ((y == q) || (if b then true else is_listed xs q)) ≡ (if b then true else ((y == q) || is_listed xs q))) [ true ↦ or-true (y == q) | false ↦ refl ])

abbrev others : ℕ → List ℕ → List ℕ
others x xs = filter (λ y. not (y == x)) xs

out_step : (b : Bool) (y x : ℕ) (ys : List ℕ) → (y == x) ≡ b → is_listed ys x ≡ false → is_listed (if not b then y ∷ ys else ys) x ≡ false
out_step true y x ys t h = h
out_step false y x ys t h = ap (λ c. c || is_listed ys x) t ∙ h

out_same : (xs : List ℕ) (x : ℕ) → is_listed (others x xs) x ≡ false
out_same [] x = refl
out_same (y ∷ xs) x = out_step (y == x) y x (others x xs) refl (out_same xs x)

other_step : (b : Bool) (y x q : ℕ) (xs ys : List ℕ) → (x ≡ q → ⊥) → (y == x) ≡ b → is_listed ys q ≡ is_listed xs q → is_listed (if not b then y ∷ ys else ys) q ≡ is_listed (y ∷ xs) q
other_step true y x q xs ys apart t h =
    let same : y ≡ x = grind (arith, nat_tests, t) in
    h ∙ sym (ap (λ c. c || is_listed xs q) (number_other y q (λ e. apart (sym same ∙ e))))
other_step false y x q xs ys apart t h = ap (λ c. (y == q) || c) h

out_other : (xs : List ℕ) (x q : ℕ) → (x ≡ q → ⊥) → is_listed (others x xs) q ≡ is_listed xs q
out_other [] x q h = refl
out_other (y ∷ xs) x q h = other_step (y == x) y x q xs (others x xs) h refl (out_other xs x q h)

-- one is listed no more
pub listed_out : (xs : List ℕ) (x q : ℕ) → is_listed (others x xs) q ≡ (if x == q then false else is_listed xs q)
listed_out xs x q = step (x == q) refl
  where
    step : (b : Bool) → (x == q) ≡ b → is_listed (others x xs) q ≡ (if b then false else is_listed xs q)
    step true t = let same : x ≡ q = grind (arith, nat_tests, t) in subst (λ z. is_listed (others x xs) z ≡ false) same (out_same xs x)
    step false t = out_other xs x q (λ e. absurd (grind (arith, nat_tests, t, e)))

-- the chains that are based on one, by more instructions
pub based_more : (chain : ℕ) (insts : List Inst) (k : ℕ) (i : Inst) (old new : ℕ → Bool) → k < length insts → i ≡ get_or insts k i → ((q : ℕ) → new q ≡ with_based chain old i q) → based_among chain new (drop (k + 1) insts) ≡ based_among chain old (drop k insts)
based_more chain insts k i old new inside is h =
    ap (λ f. based_among chain f (drop (k + 1) insts)) (λ j q. h q j)
    ∙ ap (λ n. based_among chain (with_based chain old i) (drop n insts)) (add-one k)
    ∙ ap (λ x. based_among chain (with_based chain old x) (drop (suc k) insts)) is
    ∙ sym (ap (based_among chain old) (drop-cons insts k i inside))

pub based_end : (chain : ℕ) (insts : List Inst) (k : ℕ) (f : ℕ → Bool) → length insts ≤ k → based_among chain f (drop k insts) ≡ f
based_end chain insts k f past = ap (based_among chain f) (drop_of_length-le insts past)

based_append : (chain : ℕ) (xs ys : List Inst) (f : ℕ → Bool) → based_among chain f (xs ++ ys) ≡ based_among chain (based_among chain f xs) ys
based_append chain [] ys f = refl
based_append chain (x ∷ xs) ys f = based_append chain xs ys (with_based chain f x)

abbrev pub insts_in : List Block → List Inst
insts_in bs = flat_map (λ (b : Block). b.insts) bs

-- by more blocks
pub blocks_more : (chain : ℕ) (bs : List Block) (k : ℕ) (b : Block) (old new : ℕ → Bool) → k < length bs → b ≡ get_or bs k b → ((q : ℕ) → new q ≡ based_among chain old b.insts q) → based_among chain new (insts_in (drop (k + 1) bs)) ≡ based_among chain old (insts_in (drop k bs))
blocks_more chain bs k b old new inside is h =
    ap (λ f. based_among chain f (insts_in (drop (k + 1) bs))) (λ j q. h q j)
    ∙ ap (λ n. based_among chain (based_among chain old b.insts) (insts_in (drop n bs))) (add-one k)
    ∙ ap (λ (x : Block). based_among chain (based_among chain old x.insts) (insts_in (drop (suc k) bs))) is
    ∙ sym (based_append chain (get_or bs k b).insts (insts_in (drop (suc k) bs)) old)
    ∙ sym (ap (λ l. based_among chain old (insts_in l)) (drop-cons bs k b inside))

pub blocks_end : (chain : ℕ) (bs : List Block) (k : ℕ) (f : ℕ → Bool) → length bs ≤ k → based_among chain f (insts_in (drop k bs)) ≡ f
blocks_end chain bs k f past = ap (λ l. based_among chain f (insts_in l)) (drop_of_length-le bs past)

-- the ids of a list have nothing, but for one
abbrev pub forgotten : ℕ → (ℕ → Option state.Held) → List ℕ → ℕ → Option state.Held
forgotten but f list q = if q == but then f q else without (is_listed list) f q

-- one id more
module _ (but : ℕ) (list : List ℕ) (k x : ℕ) (old new : ℕ → Option state.Held) (inside : k < length list) (is : x ≡ get_or list k x) where
  at_front : drop k list ≡ x ∷ drop (k + 1) list
  at_front = drop-cons list k x inside ∙ ap (λ y. y ∷ drop (suc k) list) (sym is) ∙ ap (λ n. x ∷ drop n list) (sym (add-one k))

  pub forgot_more : ((q : ℕ) → new q ≡ with_held old x None q) → (x ≡ but → ⊥) → (q : ℕ) → forgotten but new (drop (k + 1) list) q ≡ forgotten but old (drop k list) q
  forgot_more h apart q = by_but (q == but) refl ∙ ap (λ l. forgotten but old l q) (sym at_front)
    where
      L : Bool
      L = is_listed (drop (k + 1) list) q

      by_same : (b : Bool) → (q == x) ≡ b → (if L then None else new q) ≡ (if (x == q) || L then None else old q)
      by_same true t =
          let e : q ≡ x = grind (arith, nat_tests, t) in
          let back : (x == q) ≡ true = grind (arith, nat_tests, e) in
          ap (λ v. if L then None else v) (h q ∙ ap (λ b. elim b as (λ _. Option state.Held) [ true ↦ None | false ↦ old q ]) t)
          ∙ (elim L as (λ b. (if b then None else None) ≡ (if true || b then None else old q)) [ true ↦ refl | false ↦ refl ])
          ∙ ap (λ b. if b || L then None else old q) (sym back)
      by_same false t =
          let back : (x == q) ≡ false = number_other x q (λ e. absurd (grind (arith, nat_tests, t, e))) in
          ap (λ v. if L then None else v) (h q ∙ ap (λ b. elim b as (λ _. Option state.Held) [ true ↦ None | false ↦ old q ]) t)
          ∙ ap (λ b. if b || L then None else old q) (sym back)

      by_but : (b : Bool) → (q == but) ≡ b → (if q == but then new q else (if L then None else new q)) ≡ (if q == but then old q else (if (x == q) || L then None else old q))
      by_but true t =
          let e : q ≡ but = grind (arith, nat_tests, t) in
          ap (λ b. if b then new q else (if L then None else new q)) t
          ∙ h q
          ∙ ap (λ b. elim b as (λ _. Option state.Held) [ true ↦ None | false ↦ old q ]) (number_other q x (λ w. apart (sym w ∙ e)))
          ∙ sym (ap (λ b. if b then old q else (if (x == q) || L then None else old q)) t)
      by_but false t =
          ap (λ b. if b then new q else (if L then None else new q)) t
          ∙ by_same (q == x) refl
          ∙ sym (ap (λ b. if b then old q else (if (x == q) || L then None else old q)) t)

  -- the one that is left alone
  pub kept_more : x ≡ but → (q : ℕ) → forgotten but old (drop (k + 1) list) q ≡ forgotten but old (drop k list) q
  kept_more same q = by_but (q == but) refl ∙ ap (λ l. forgotten but old l q) (sym at_front)
    where
      L : Bool
      L = is_listed (drop (k + 1) list) q

      by_but : (b : Bool) → (q == but) ≡ b → (if q == but then old q else (if L then None else old q)) ≡ (if q == but then old q else (if (x == q) || L then None else old q))
      by_but true t = ap (λ b. if b then old q else (if L then None else old q)) t ∙ sym (ap (λ b. if b then old q else (if (x == q) || L then None else old q)) t)
      by_but false t = ap (λ c. if q == but then old q else (if c || L then None else old q)) (sym (number_other x q (λ e. absurd (grind (arith, nat_tests, t, e, same)))))

pub forgot_end : (but : ℕ) (list : List ℕ) (k : ℕ) (f : ℕ → Option state.Held) (q : ℕ) → length list ≤ k → forgotten but f (drop k list) q ≡ f q
forgot_end but list k f q past = ap (λ l. forgotten but f l q) (drop_of_length-le list past) ∙ (elim (q == but) as (λ b. (if b then f q else f q) ≡ f q) [ true ↦ refl | false ↦ refl ])

pub ruleset listed_rules = (listed_push, listed_out)
