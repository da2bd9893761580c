-- A value that stands in the expression of another is lower than it, and each such value is at most 16 high.
use Rattle.std.proofs.Common.{◌≡◌, ◌<◌, ◌≤◌, ◌+◌, ◌==◌, ◌&&◌, ◌||◌, not, ℕ, zero, suc, Bool, true, false, List, [], ◌∷◌, ◌++◌, Option, Some, None, IfSome, IsSomeAnd, append_assoc, max, min, fold, unwrap_or, if◌then◌else◌, inl, inr, refl, sym, ap, ◌∙◌, subst, arith}
use Rattle.std.proofs.lemmas.Bool.Decides.{eqb_tells}
use Rattle.std.proofs.lemmas.Option.{same_Some}
use Rattle.spv_ops.specs.Opcode.{is}
use Rattle.spv_ops.specs.declared.Op.TheVariants as code
use Rattle.spv_module.specs.declared.inst.Inst.{Inst}
use Rattle.spv_module.specs.declared.inst.Function.{Function}
use Rattle.use_chains.specs.declared.slot.SlotPlace.{SlotPlace}
use Rattle.hoist_plan.specs.declared.form.Form.{Form}
use Rattle.hoist_plan.specs.declared.form.Form.TheVariants.{Gone, Forwarded, Local, Hoisted}
use Rattle.hoist_plan.specs.Plan.{Placed, user, is_live, is_value, is_named_by_use, own_height, is_named, is_hoisted, form_by, form_with, with_told, raised_by, raised, operand_if, with_operand, Known, with_result, nothing, known, Scope, results, form}
use Rattle.plan_law.specs.Ordered.{NoOperand, NoneMentioned, NoneIs, AreOrdered, IsOperand}

abbrev Told : Type 0
Told = ℕ → Option ℕ

-- a form that is none is gone
told_form : (o : Option Form) → unwrap_or o Gone ≡ Forwarded → o ≡ Some Forwarded
told_form None e = cc
told_form (Some x) e = ap (λ q. Some q) e

abbrev at_least : Told → ℕ → ℕ
at_least k n = unwrap_or (k n) 0

-- one mention raises what mentions it, and nothing else
told_here : {A : Type 0} (k : ℕ → Option A) (m : ℕ) (h : A) (n : ℕ) → m ≡ n → with_told k m h n ≡ Some h
told_here {A} k m h n same = ap (λ (b : Bool). elim b as (λ b. Option A) [ true ↦ Some h | false ↦ k n ]) (elim (eqb_tells m n) [ inl w ↦ w.0 | inr w ↦ absurd (w.1 same) ])

told_other : {A : Type 0} (k : ℕ → Option A) (m : ℕ) (h : A) (n : ℕ) → (m ≡ n → ⊥) → with_told k m h n ≡ k n
told_other {A} k m h n apart =
    let off : (m == n) ≡ false = elim (eqb_tells m n) [ inl w ↦ absurd (apart w.1) | inr w ↦ w.0 ] in
    ap (λ (b : Bool). elim b as (λ b. Option A) [ true ↦ Some h | false ↦ k n ]) off

raised_other : (h n : ℕ) (k : Told) (o : Option Inst) → IfSome o (λ (i : Inst). i.result ≡ n → ⊥) → raised_by h k o n ≡ k n
raised_other h n k None apart = refl
raised_other h n k (Some i) apart = told_other k i.result (max (at_least k i.result) h) n apart

raised_grows : (h n : ℕ) (k : Told) (o : Option Inst) → at_least k n ≤ at_least (raised_by h k o) n
raised_grows h n k None = omega arith
raised_grows h n k (Some i) = elim (eqb_tells i.result n) [
  | inl w ↦
      let now : at_least (raised_by h k (Some i)) n ≡ max (at_least k i.result) h = ap (λ q. unwrap_or q 0) (told_here k i.result (max (at_least k i.result) h) n w.1) in
      let own : at_least k i.result ≡ at_least k n = ap (at_least k) w.1 in
      omega (arith, now, own)
  | inr w ↦ let now : at_least (raised_by h k (Some i)) n ≡ at_least k n = ap (λ q. unwrap_or q 0) (told_other k i.result (max (at_least k i.result) h) n w.1) in omega (arith, now)
]

raised_to : (h n : ℕ) (k : Told) (o : Option Inst) → IsSomeAnd o (λ (i : Inst). i.result ≡ n) → h ≤ at_least (raised_by h k o) n
raised_to h n k None same = absurd same
raised_to h n k (Some i) same =
    let now : at_least (raised_by h k (Some i)) n ≡ max (at_least k i.result) h = ap (λ q. unwrap_or q 0) (told_here k i.result (max (at_least k i.result) h) n same) in
    omega (arith, now)

below_of : (h m : ℕ) → h ≤ suc m → (h ≡ suc m → ⊥) → h ≤ m
below_of zero m le far = omega arith
below_of (suc h) zero le far = absurd (far (omega (arith, le)))
below_of (suc h) (suc m) le far = let less = below_of h m (omega (arith, le)) (λ e. far (ap (λ q. suc q) e)) in omega (arith, less)

module _ (f : Function) (h n : ℕ) where
  all_other : (k : Told) (places : List SlotPlace) → NoOperand f n places → fold (raised f h) k places n ≡ k n
  all_other k [] apart = refl
  all_other k (at ∷ places) apart = all_other (raised f h k at) places apart.1 ∙ raised_other h n k (user f at) apart.0

  all_grow : (k : Told) (places : List SlotPlace) → at_least k n ≤ at_least (fold (raised f h) k places) n
  all_grow k [] = omega arith
  all_grow k (at ∷ places) = let one = raised_grows h n k (user f at) in let rest = all_grow (raised f h k at) places in omega (arith, one, rest)

  all_to : (k : Told) (places : List SlotPlace) → IsOperand f n places → h ≤ at_least (fold (raised f h) k places) n
  all_to k [] is = absurd is
  all_to k (at ∷ places) (inl is) = let one = raised_to h n k (user f at) is in let rest = all_grow (raised f h k at) places in omega (arith, one, rest)
  all_to k (at ∷ places) (inr is) = all_to (raised f h k at) places is

module _ (gs : List Inst) (f : Function) where
  -- the heights of operands alone
  abbrev W : Told → Placed → Told
  W = with_operand gs f

  heights_of : (k : Known) (ps : List Placed) → (fold (with_result gs f) k ps).operands ≡ fold W k.operands ps
  heights_of k [] = refl
  heights_of k (p ∷ ps) = heights_of (with_result gs f k p) ps

  one_other : (k : Told) (p : Placed) (n : ℕ) → NoOperand f n p.mentions → W k p n ≡ k n
  one_other k p n apart = by_test (is_value gs p.ty && not (is_named gs f k p))
    where
      by_test : (b : Bool) → operand_if b f k p n ≡ k n
      by_test true = all_other f (own_height k p) n k p.mentions apart
      by_test false = refl

  one_grows : (k : Told) (p : Placed) (n : ℕ) → at_least k n ≤ at_least (W k p) n
  one_grows k p n = by_test (is_value gs p.ty && not (is_named gs f k p))
    where
      by_test : (b : Bool) → at_least k n ≤ at_least (operand_if b f k p) n
      by_test true = all_grow f (own_height k p) n k p.mentions
      by_test false = omega arith

  some_other : (k : Told) (ps : List Placed) (n : ℕ) → NoneMentioned f n ps → fold W k ps n ≡ k n
  some_other k [] n apart = refl
  some_other k (p ∷ ps) n apart = some_other (W k p) ps n apart.1 ∙ one_other k p n apart.0

  some_grow : (k : Told) (ps : List Placed) (n : ℕ) → at_least k n ≤ at_least (fold W k ps) n
  some_grow k [] n = omega arith
  some_grow k (p ∷ ps) n = let one = one_grows k p n in let rest = some_grow (W k p) ps n in omega (arith, one, rest)

  over_both : (k : Told) (xs ys : List Placed) → fold W k (xs ++ ys) ≡ fold W (fold W k xs) ys
  over_both k [] ys = refl
  over_both k (x ∷ xs) ys = over_both (W k x) xs ys

  -- the height of a result is told where it stands: what comes later changes it no more
  settled : (k : Told) (front back : List Placed) (p : Placed) → NoneMentioned f p.result (p ∷ back) → fold W k (front ++ p ∷ back) p.result ≡ fold W k front p.result
  settled k front back p apart = ap (λ (t : Told). t p.result) (over_both k front (p ∷ back)) ∙ some_other (fold W k front) (p ∷ back) p.result apart

  height_settled : (k t : Told) (p : Placed) → t p.result ≡ k p.result → own_height t p ≡ own_height k p
  height_settled k t p same = ap (λ o. if is p.op code.Undef then 0 else min 16 (unwrap_or o 0) + 1) same

  -- an operand without a variable raises what mentions it to its own height at least
  raises : (k : Told) (p : Placed) (n : ℕ) → is_value gs p.ty ≡ true → is_named gs f k p ≡ false → IsOperand f n p.mentions → own_height k p ≤ at_least (W k p) n
  raises k p n value named is = by_test (is_value gs p.ty && not (is_named gs f k p)) (ap (λ b. b && not (is_named gs f k p)) value ∙ ap not named)
    where
      by_test : (b : Bool) → b ≡ true → own_height k p ≤ at_least (operand_if b f k p) n
      by_test true e = all_to f (own_height k p) n k p.mentions is
      by_test false e = cc

  -- the forms of results
  forms_both : (k : Known) (xs ys : List Placed) → fold (with_result gs f) k (xs ++ ys) ≡ fold (with_result gs f) (fold (with_result gs f) k xs) ys
  forms_both k [] ys = refl
  forms_both k (x ∷ xs) ys = forms_both (with_result gs f k x) xs ys

  form_later : (k : Known) (ps : List Placed) (n : ℕ) → NoneIs n ps → (fold (with_result gs f) k ps).forms n ≡ k.forms n
  form_later k [] n apart = refl
  form_later k (p ∷ ps) n apart = form_later (with_result gs f k p) ps n apart.1 ∙ told_other k.forms p.result (form_with gs f k.operands p) n apart.0

  form_here : (k : Known) (front back : List Placed) (p : Placed) → NoneIs p.result back → (fold (with_result gs f) k (front ++ p ∷ back)).forms p.result ≡ Some (form_with gs f (fold W k.operands front) p)
  form_here k front back p apart =
      ap (λ (t : Known). t.forms p.result) (forms_both k front (p ∷ back))
      ∙ (form_later (with_result gs f (fold (with_result gs f) k front) p) back p.result apart
      ∙ (told_here (fold (with_result gs f) k front).forms p.result (form_with gs f (fold (with_result gs f) k front).operands p) p.result refl ∙ ap (λ (t : Told). Some (form_with gs f t p)) (heights_of k front)))

  -- what is forwarded has no variable
  not_named : (b : Bool) (p : Placed) → form_by f b p ≡ Forwarded → b ≡ false
  not_named false p e = refl
  not_named true p e = absurd (by_live (is_live p) (is_hoisted f p) e)
    where
      by_live : (l h : Bool) → (if l then (if true then (if h then Hoisted else Local) else Forwarded) else Gone) ≡ Forwarded → ⊥
      by_live true true e = cc
      by_live true false e = cc
      by_live false h e = cc

  live_of : (b : Bool) (p : Placed) → form_by f b p ≡ Forwarded → is_live p ≡ true
  live_of b p e = by_live (is_live p) refl e
    where
      by_live : (l : Bool) → is_live p ≡ l → (if l then (if b then (if is_hoisted f p then Hoisted else Local) else Forwarded) else Gone) ≡ Forwarded → is_live p ≡ true
      by_live true is e = is
      by_live false is e = cc

  -- a live value without a variable is no higher than 16
  low_by : (v l u e : Bool) → v ≡ true → l ≡ true → (v && (l && (u || e))) ≡ false → e ≡ false
  low_by true true true e p q h = cc
  low_by true true false e p q h = h
  low_by true false u e p q h = cc
  low_by false l u e p q h = cc

  height_low : (k : Told) (p : Placed) → is_value gs p.ty ≡ true → is_live p ≡ true → is_named gs f k p ≡ false → own_height k p ≤ 16
  height_low k p value live named =
      let not_high = low_by (is_value gs p.ty) (is_live p) (is_named_by_use gs f p) (own_height k p == 17) value live named in
      by_undef (is p.op code.Undef) refl (apart (own_height k p) not_high)
    where
      apart : (h : ℕ) → (h == 17) ≡ false → h ≡ 17 → ⊥
      apart h e same = elim (eqb_tells h 17) [ inl w ↦ let never : true ≡ false = sym w.0 ∙ e in cc | inr w ↦ w.1 same ]

      by_undef : (b : Bool) → is p.op code.Undef ≡ b → (own_height k p ≡ 17 → ⊥) → own_height k p ≤ 16
      by_undef true is far = let now : own_height k p ≡ 0 = ap (λ b. if b then 0 else min 16 (at_least k p.result) + 1) is in omega (arith, now)
      by_undef false is far =
          let now : own_height k p ≡ min 16 (at_least k p.result) + 1 = ap (λ b. if b then 0 else min 16 (at_least k p.result) + 1) is in
          bounded (at_least k p.result) now far
        where
          bounded : (m : ℕ) → own_height k p ≡ min 16 m + 1 → (own_height k p ≡ 17 → ⊥) → own_height k p ≤ 16
          bounded m now far = below_of (own_height k p) 16 (let le : own_height k p ≤ 17 = omega (arith, now) in le) far

  module _ (ps : List Placed) (ordered : AreOrdered f ps) where
    abbrev H : Told
    H = (known gs f ps).operands

    told : H ≡ fold W (λ n. None) ps
    told = heights_of nothing ps

    -- the height of a result, and its form, by the heights of all operands
    pub height_is : (front back : List Placed) (p : Placed) → ps ≡ front ++ p ∷ back → is p.op code.Phi ≡ false → own_height H p ≡ own_height (fold W (λ n. None) front) p
    height_is front back p split phi =
        height_settled (fold W (λ n. None) front) H p
        (ap (λ (t : Told). t p.result) told ∙ (ap (λ qs. fold W (λ n. None) qs p.result) split ∙ settled (λ n. None) front back p (ordered.before front back p split phi)))

    pub form_is : (front back : List Placed) (p : Placed) → ps ≡ front ++ p ∷ back → (known gs f ps).forms p.result ≡ Some (form_with gs f (fold W (λ n. None) front) p)
    form_is front back p split = ap (λ qs. (known gs f qs).forms p.result) split ∙ form_here nothing front back p (ordered.once front back p split)

    -- a value that stands in expressions is at most 16 high
    pub forwarded_low : (front back : List Placed) (p : Placed) → ps ≡ front ++ p ∷ back → is p.op code.Phi ≡ false → is_value gs p.ty ≡ true → (known gs f ps).forms p.result ≡ Some Forwarded → own_height H p ≤ 16
    forwarded_low front back p split phi value is =
        let k = fold W (λ n. None) front in
        let form : form_with gs f k p ≡ Forwarded = same_Some (form_with gs f k p) Forwarded (sym (form_is front back p split) ∙ is) in
        let low = height_low k p value (live_of (is_named gs f k p) p form) (not_named (is_named gs f k p) p form) in
        subst (λ h. h ≤ 16) (sym (height_is front back p split phi)) low

    -- and higher than each of its operands that does
    pub forwarded_falls : (front middle back : List Placed) (q p : Placed) → ps ≡ front ++ (q ∷ (middle ++ (p ∷ back))) → is q.op code.Phi ≡ false → is p.op code.Phi ≡ false → is p.op code.Undef ≡ false → is_value gs q.ty ≡ true → is_value gs p.ty ≡ true
        → (known gs f ps).forms q.result ≡ Some Forwarded → (known gs f ps).forms p.result ≡ Some Forwarded → IsOperand f p.result q.mentions → own_height H q < own_height H p
    forwarded_falls front middle back q p split q_phi p_phi undef q_value p_value q_form p_form is =
        let k = fold W (λ n. None) front in
        let t = fold W (λ n. None) (front ++ q ∷ middle) in
        let whole : (front ++ (q ∷ middle)) ++ (p ∷ back) ≡ front ++ (q ∷ (middle ++ (p ∷ back))) = append_assoc front (q ∷ middle) (p ∷ back) in
        let again : ps ≡ (front ++ (q ∷ middle)) ++ (p ∷ back) = split ∙ sym whole in
        let q_own : form_with gs f k q ≡ Forwarded = same_Some (form_with gs f k q) Forwarded (sym (form_is front (middle ++ p ∷ back) q split) ∙ q_form) in
        let up = raises k q p.result q_value (not_named (is_named gs f k q) q q_own) is in
        let grown = some_grow (W k q) middle p.result in
        let same : at_least t p.result ≡ at_least (fold W (W k q) middle) p.result = ap (λ (t : Told). at_least t p.result) (over_both (λ n. None) front (q ∷ middle)) in
        let p_height : own_height H p ≡ min 16 (at_least t p.result) + 1 = height_is (front ++ q ∷ middle) back p again p_phi ∙ ap (λ b. if b then 0 else min 16 (at_least t p.result) + 1) undef in
        let q_height : own_height H q ≡ own_height k q = height_is front (middle ++ p ∷ back) q split q_phi in
        let low = forwarded_low (front ++ q ∷ middle) back p again p_phi p_value p_form in
        lower (own_height H q) (own_height k q) (at_least (W k q) p.result) (at_least (fold W (W k q) middle) p.result) (at_least t p.result) (own_height H p) q_height up grown same p_height low
      where
        lower : (a b c d e h : ℕ) → a ≡ b → b ≤ c → c ≤ d → e ≡ d → h ≡ min 16 e + 1 → h ≤ 16 → a < h
        lower a b c d e h ab bc cd ed he low = omega (arith, ab, bc, cd, ed, he, low)

-- the same of the forms of a function
pub forms_fall : (s : Scope) (ordered : AreOrdered s.function (results s.links s.function)) (front middle back : List Placed) (q p : Placed) → results s.links s.function ≡ front ++ (q ∷ (middle ++ (p ∷ back))) → is q.op code.Phi ≡ false → is p.op code.Phi ≡ false → is p.op code.Undef ≡ false
    → is_value s.globals q.ty ≡ true → is_value s.globals p.ty ≡ true → form s q.result ≡ Forwarded → form s p.result ≡ Forwarded → IsOperand s.function p.result q.mentions
    → own_height (known s.globals s.function (results s.links s.function)).operands q < own_height (known s.globals s.function (results s.links s.function)).operands p
forms_fall s ordered front middle back q p split q_phi p_phi undef q_value p_value q_form p_form is =
    forwarded_falls s.globals s.function (results s.links s.function) ordered front middle back q p split q_phi p_phi undef q_value p_value
    (told_form ((known s.globals s.function (results s.links s.function)).forms q.result) q_form) (told_form ((known s.globals s.function (results s.links s.function)).forms p.result) p_form) is

pub form_low : (s : Scope) (ordered : AreOrdered s.function (results s.links s.function)) (front back : List Placed) (p : Placed) → results s.links s.function ≡ front ++ p ∷ back → is p.op code.Phi ≡ false → is_value s.globals p.ty ≡ true → form s p.result ≡ Forwarded
    → own_height (known s.globals s.function (results s.links s.function)).operands p ≤ 16
form_low s ordered front back p split phi value is =
    forwarded_low s.globals s.function (results s.links s.function) ordered front back p split phi value (told_form ((known s.globals s.function (results s.links s.function)).forms p.result) is)
