-- What an instruction with an effect reads it mentions: it is live; so does a terminator its first operand, and a live OpArrayLength.
use Rattle.std.proofs.Common.{◌≡◌, ◌≤◌, ◌+◌, ◌&&◌, ℕ, Bool, true, false, List, [], ◌∷◌, length, Some, refl, ap, subst, arith}
use Rattle.std.specs.Prelude.{slice_get, slice_index, slice_index_or}
use Rattle.std.proofs.lemmas.Bool.{and_from}
use Rattle.spv_ops.specs.Opcode.{is, number}
use Rattle.spv_ops.specs.OpGroups.{group_of, takes_of}
use Rattle.spv_ops.specs.Operands.{is_id}
use Rattle.spv_ops.specs.Shape.{shape, count_of, is_pure}
use Rattle.spv_ops.specs.declared.Op.{Op}
use Rattle.spv_ops.specs.declared.Op.TheVariants as code
use Rattle.spv_module.specs.Inst.{has_type, has_result}
use Rattle.spv_module.specs.declared.inst.Inst.{Inst}
use Rattle.spv_module.specs.declared.inst.Function.{Function}
use Rattle.module_semantics.specs.Steps.{array_length, step_kind}
use Rattle.use_chains.specs.Slots.{is_value, is_label_reached, is_taken, inst_at, IsLive}
use Rattle.list_law.proofs.Tests.{unless}
use Rattle.grammar_law.specs.Mentioned.{IsMentioned}

-- an operand that is an id of a value, of a live instruction of a reached block that is no phi
pub live_mentions : (f : Function) (reached : List Bool) (block place : ℕ) (i : Inst) → inst_at f block place ≡ Some i → slice_index_or reached block false ≡ true → IsLive f reached block place → is i.op code.Phi ≡ false
    → (k n : ℕ) → slice_get i.args k ≡ Some n → is_id i.op i.args k ≡ true → is_value i.op k ≡ true → IsMentioned f reached block i n
live_mentions f reached block place i there here live no_phi k n word names value = record {
  place = place;
  arg = k;
  there = there;
  here = here;
  live = live;
  slot = and_from (is_id i.op i.args k) (is_value i.op k && is_taken f reached i k) names
      (and_from (is_value i.op k) (is_taken f reached i k) value (unless (is i.op code.Phi) (is_label_reached f reached (slice_index i.args (k + 1))) no_phi));
  word = word;
}

-- so of one that has an effect
pub effect_mentions : (f : Function) (reached : List Bool) (block place : ℕ) (i : Inst) → inst_at f block place ≡ Some i → slice_index_or reached block false ≡ true → is_pure i.op ≡ false → is i.op code.Phi ≡ false
    → (k n : ℕ) → slice_get i.args k ≡ Some n → is_id i.op i.args k ≡ true → is_value i.op k ≡ true → IsMentioned f reached block i n
effect_mentions f reached block place i there here effect no_phi k n word names value =
    live_mentions f reached block place i there here (λ set closed. closed.effects block place i there effect) no_phi k n word names value

-- terminators that read their first operand
abbrev pub reads_first : Op → Bool
reads_first code.BranchConditional = true
reads_first code.Switch = true
reads_first code.ReturnValue = true
reads_first _ = false

pub return_reads : (o : Op) → is o code.ReturnValue ≡ true → reads_first o ≡ true
unfolding number
return_reads code.ReturnValue on = refl
return_reads o on = cc

first_effect : (o : Op) → reads_first o ≡ true → is_pure o ≡ false
unfolding shape
first_effect code.BranchConditional on = refl
first_effect code.Switch on = refl
first_effect code.ReturnValue on = refl
first_effect o on = cc

pub first_no_phi : (o : Op) → reads_first o ≡ true → is o code.Phi ≡ false
unfolding number
first_no_phi code.BranchConditional on = refl
first_no_phi code.Switch on = refl
first_no_phi code.ReturnValue on = refl
first_no_phi o on = cc

first_value : (o : Op) → reads_first o ≡ true → is_value o 0 ≡ true
unfolding takes_of group_of
first_value code.BranchConditional on = refl
first_value code.Switch on = refl
first_value code.ReturnValue on = refl
first_value o on = cc

first_id : (o : Op) (args : List ℕ) → reads_first o ≡ true → is_id o args 0 ≡ true
unfolding is_id
first_id code.BranchConditional args on = refl
first_id code.Switch args on = refl
first_id code.ReturnValue args on = refl
first_id o args on = cc

first_least : (o : Op) (n : ℕ) → reads_first o ≡ true → (shape o).least ≤ 1 + count_of (has_type o) + count_of (has_result o) + n → 1 ≤ n
unfolding shape
first_least code.BranchConditional n on le = omega (arith, le)
first_least code.Switch n on le = omega (arith, le)
first_least code.ReturnValue n on le = omega (arith, le)
first_least o n on le = cc

pub first_word : (args : List ℕ) → 1 ≤ length args → slice_get args 0 ≡ Some (slice_index args 0)
first_word [] le = absurd (omega (arith, le))
first_word (a ∷ args) le = refl

-- the law: such a terminator of a reached block mentions it
pub terminator_mentions : (f : Function) (reached : List Bool) (block place : ℕ) (i : Inst) → inst_at f block place ≡ Some i → slice_index_or reached block false ≡ true → reads_first i.op ≡ true
    → (shape i.op).least ≤ 1 + count_of (has_type i.op) + count_of (has_result i.op) + length i.args → IsMentioned f reached block i (slice_index i.args 0)
terminator_mentions f reached block place i there here on least =
    effect_mentions f reached block place i there here (first_effect i.op on) (first_no_phi i.op on) 0 (slice_index i.args 0)
    (first_word i.args (first_least i.op (length i.args) on least)) (first_id i.op i.args on) (first_value i.op on)

-- OpArrayLength reads its first operand
pub length_op : (o : Op) → step_kind o ≡ array_length → o ≡ code.ArrayLength
unfolding step_kind group_of
length_op code.ArrayLength e = refl
length_op o e = cc

length_no_phi : (o : Op) → o ≡ code.ArrayLength → is o code.Phi ≡ false
unfolding number
length_no_phi o e = ap (λ (q : Op). is q code.Phi) e

pub length_value : (o : Op) → o ≡ code.ArrayLength → is_value o 0 ≡ true
unfolding takes_of group_of
length_value o e = ap (λ (q : Op). is_value q 0) e

pub length_id : (o : Op) (args : List ℕ) → o ≡ code.ArrayLength → is_id o args 0 ≡ true
unfolding is_id
length_id o args e = ap (λ (q : Op). is_id q args 0) e

pub length_least : (n : ℕ) → (shape code.ArrayLength).least ≤ 1 + count_of (has_type code.ArrayLength) + count_of (has_result code.ArrayLength) + n → 1 ≤ n
unfolding shape
length_least n le = omega (arith, le)

-- it mentions it where it is live
pub length_mentions : (f : Function) (reached : List Bool) (block place : ℕ) (i : Inst) → inst_at f block place ≡ Some i → slice_index_or reached block false ≡ true → IsLive f reached block place → step_kind i.op ≡ array_length
    → (shape i.op).least ≤ 1 + count_of (has_type i.op) + count_of (has_result i.op) + length i.args → IsMentioned f reached block i (slice_index i.args 0)
length_mentions f reached block place i there here live step least =
    let op = length_op i.op step in
    live_mentions f reached block place i there here live (length_no_phi i.op op) 0 (slice_index i.args 0)
    (first_word i.args (length_least (length i.args) (subst (λ (q : Op). (shape q).least ≤ 1 + count_of (has_type q) + count_of (has_result q) + length i.args) op least)))
    (length_id i.op i.args op) (length_value i.op op)

pub length_no_undef : (o : Op) → step_kind o ≡ array_length → is o code.Undef ≡ false
unfolding number
length_no_undef o step = ap (λ (q : Op). is q code.Undef) (length_op o step)
