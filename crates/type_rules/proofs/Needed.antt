-- What is needed, in whatever order it is looked for, and of which operands.
use Rattle.std.proofs.Common.{◌≡◌, ◌≤◌, ◌<◌, ◌+◌, ◌%◌, ◌==◌, ◌&&◌, ◌||◌, ℕ, zero, suc, not, nat_lt, Bool, true, false, List, [], ◌∷◌, length, take, Option, Some, None, IfSome, refl, ap, ◌∙◌, sym, subst, arith, if◌then◌else◌}
use Rattle.std.specs.Option.{option_map_or}
use Rattle.std.specs.List.{list_any, enumerate_from}
use Rattle.std.proofs.Math.Seq.{take-nil}
use Rattle.std.proofs.lemmas.Bool.Decides.{nat_tests}
use Rattle.spv_ops.specs.declared.Op.{Op}
use Rattle.spv_ops.specs.OpGroups.{takes_of}
use Rattle.spv_ops.specs.declared.Takes.{Takes}
use Rattle.spv_ops.specs.declared.Takes.TheVariants.{Values, Types, TypeAndConstants, Constants, Labels, ValueAndLabels, ValuesWithLabels, ImportAndValues, FunctionAndValues}
use Rattle.spv_ops.specs.Operands.{is_id}
use Rattle.spv_ops.specs.declared.operands.IdWords.TheVariants.{Range, OneAndFrom}
use Rattle.spv_module.specs.declared.inst.Inst.{Inst}
use Rattle.profile_rules.specs.declared.needs.Need.{Need}
use Rattle.profile_rules.specs.declared.needs.Need.TheVariants.{AnyType, Constant, Value, PhiValue, Label}
use Rattle.profile_rules.specs.Operands.{need, need_by, first_or, lacks_operand}
use Rattle.type_rules.specs.Needed.{AreNeeds, AreBelow, needs_by, needs_of, lacks_of}

pub in_any_order : (r g p : Bool) → (r || (g || p)) ≡ (g || (p || r))
in_any_order true true p = refl
in_any_order true false true = refl
in_any_order true false false = refl
in_any_order false true p = refl
in_any_order false false true = refl
in_any_order false false false = refl

pub last_first : (x y z : Bool) → (z && (x && y)) ≡ (x && (y && z))
last_first true y true = elim y as (λ b. b ≡ (b && true)) [ true ↦ refl | false ↦ refl ]
last_first true y false = elim y as (λ b. false ≡ (b && false)) [ true ↦ refl | false ↦ refl ]
last_first false y true = refl
last_first false y false = refl

pub none_suits : {X : Type 0} (o : Option X) → option_map_or (λ x. false) o false ≡ false
none_suits None = refl
none_suits (Some x) = refl

same_need : (n : Need) (k : ℕ) → n ≡ first_or k n n
same_need n k = elim (k == 0) as (λ b. n ≡ (if b then n else n)) [ true ↦ refl | false ↦ refl ]

-- what the table says, and where it says nothing
of_takes : (t : Takes) → IfSome (needs_by t) (λ needs. (k : ℕ) → need_by t k ≡ first_or k needs.0 needs.1)
of_takes ValuesWithLabels = tt
of_takes TypeAndConstants = λ k. refl
of_takes ValueAndLabels = λ k. refl
of_takes ImportAndValues = λ k. refl
of_takes FunctionAndValues = λ k. refl
of_takes Values = λ k. same_need Value k
of_takes Types = λ k. same_need AnyType k
of_takes Constants = λ k. same_need Constant k
of_takes Labels = λ k. same_need Label k

pub needs_are : (o : Op) (needs : Need × Need) → needs_of o ≡ Some needs → AreNeeds o needs
unfolding needs_of need
needs_are o needs is = let P : Option (Need × Need) → Type 0 = λ x. IfSome x (λ needs. (k : ℕ) → need o k ≡ first_or k needs.0 needs.1) in record { each = subst P is (of_takes (takes_of o)) }

pub need_first : (o : Op) (k : ℕ) (needs : Need × Need) → needs_of o ≡ Some needs → k ≡ 0 → needs.0 ≡ need o k
need_first o k needs is first = sym ((needs_are o needs is).each k ∙ ap (λ n. first_or n needs.0 needs.1) first)

pub need_other : (o : Op) (k : ℕ) (needs : Need × Need) → needs_of o ≡ Some needs → (k == 0) ≡ false → needs.1 ≡ need o k
need_other o k needs is other = sym ((needs_are o needs is).each k ∙ ap (λ b. if b then needs.0 else needs.1) other)

alternates : (t : Takes) (k : ℕ) → needs_by t ≡ None → need_by t k ≡ (if k % 2 == 0 then PhiValue else Label)
alternates ValuesWithLabels k none = refl
alternates t k none = cc

pub need_alternates : (o : Op) (k : ℕ) → needs_of o ≡ None → need o k ≡ (if k % 2 == 0 then PhiValue else Label)
unfolding needs_of need
need_alternates o k none = alternates (takes_of o) k none

pub range_below : (many n : ℕ) → AreBelow (Range 0 n) many n
range_below many n = record { all = λ k inside. grind (arith, nat_tests) }

pub from_first : (many one : ℕ) → AreBelow (OneAndFrom one 0) many many
from_first many one = record { all = λ k inside. grind (arith, nat_tests, inside) }

below_suc : (j n : ℕ) → nat_lt (suc j) (suc n) ≡ nat_lt j n
below_suc j n = grind (arith, nat_tests)

below_none : (j : ℕ) → nat_lt j 0 ≡ false
below_none j = grind (arith, nat_tests)

module _ (there : Need → ℕ → Bool) (i : Inst) where
  none_lack : (k : ℕ) (ids : List ℕ) → ((j : ℕ) → j < length ids → is_id i.op i.args (k + j) ≡ false) → false ≡ list_any (lacks_operand there i) (enumerate_from k ids)
  none_lack k [] no_ids = refl
  none_lack k (id ∷ ids) no_ids =
      let first : k + 0 ≡ k = omega arith in
      let here : is_id i.op i.args k ≡ false = ap (is_id i.op i.args) (sym first) ∙ no_ids 0 (omega arith) in
      none_lack (k + 1) ids (λ j inside. let next : k + 1 + j ≡ k + suc j = omega arith in ap (is_id i.op i.args) next ∙ no_ids (suc j) (omega (arith, inside)))
      ∙ ap (λ b. (b && not (there (need i.op k) id)) || list_any (lacks_operand there i) (enumerate_from (k + 1) ids)) (sym here)

  module _ (needs : Need × Need) (are : (k : ℕ) → need i.op k ≡ first_or k needs.0 needs.1) where
    others_lack : (k n : ℕ) (ids : List ℕ) → 1 ≤ k → ((j : ℕ) → j < length ids → is_id i.op i.args (k + j) ≡ nat_lt j n) → list_any (λ other. not (there needs.1 other)) (take n ids) ≡ list_any (lacks_operand there i) (enumerate_from k ids)
    others_lack k n [] above same = ap (list_any (λ other. not (there needs.1 other))) (take-nil n)
    others_lack k zero (id ∷ ids) above same = none_lack k (id ∷ ids) (λ j inside. same j inside ∙ below_none j)
    others_lack k (suc n) (id ∷ ids) above same =
        let first : k + 0 ≡ k = omega arith in
        let some : nat_lt 0 (suc n) ≡ true = grind (arith, nat_tests) in
        let here : is_id i.op i.args k ≡ true = ap (is_id i.op i.args) (sym first) ∙ same 0 (omega arith) ∙ some in
        let later : (k == 0) ≡ false = grind (arith, nat_tests, above) in
        let which : need i.op k ≡ needs.1 = are k ∙ ap (λ b. if b then needs.0 else needs.1) later in
        ap (λ b. not (there needs.1 id) || b) (others_lack (k + 1) n ids (omega (arith, above)) (λ j inside. let next : k + 1 + j ≡ k + suc j = omega arith in ap (is_id i.op i.args) next ∙ same (suc j) (omega (arith, inside)) ∙ below_suc j n))
        ∙ ap (λ x. not (there x id) || list_any (lacks_operand there i) (enumerate_from (k + 1) ids)) (sym which)
        ∙ ap (λ b. (b && not (there (need i.op k) id)) || list_any (lacks_operand there i) (enumerate_from (k + 1) ids)) (sym here)

    -- where the first n operands are the ids
    pub first_lack : (n : ℕ) (ids : List ℕ) → ((j : ℕ) → j < length ids → is_id i.op i.args j ≡ nat_lt j n) → lacks_of there needs (take n ids) ≡ list_any (lacks_operand there i) (enumerate_from 0 ids)
    first_lack n [] same = ap (lacks_of there needs) (take-nil n)
    first_lack zero (id ∷ ids) same = none_lack 0 (id ∷ ids) (λ j inside. let from : 0 + j ≡ j = omega arith in ap (is_id i.op i.args) from ∙ same j inside ∙ below_none j)
    first_lack (suc n) (id ∷ ids) same =
        let some : nat_lt 0 (suc n) ≡ true = grind (arith, nat_tests) in
        let here : is_id i.op i.args 0 ≡ true = same 0 (omega arith) ∙ some in
        ap (λ b. not (there needs.0 id) || b) (others_lack 1 n ids (omega arith) (λ j inside. let next : 1 + j ≡ suc j = omega arith in ap (is_id i.op i.args) next ∙ same (suc j) (omega (arith, inside)) ∙ below_suc j n))
        ∙ ap (λ x. not (there x id) || list_any (lacks_operand there i) (enumerate_from 1 ids)) (sym (are 0))
        ∙ ap (λ b. (b && not (there (need i.op 0) id)) || list_any (lacks_operand there i) (enumerate_from 1 ids)) (sym here)
