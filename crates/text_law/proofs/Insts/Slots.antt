-- What an instruction of a block reads without effect is an operand that has to stand before it.
use Rattle.std.proofs.Common.{◌≡◌, ◌≤◌, ◌+◌, ◌<◌, ℕ, zero, suc, true, false, List, [], ◌∷◌, drop, length, Some, inl, inr, refl, sym, ap, ◌∙◌, subst, arith}
use Rattle.std.specs.Prelude.{slice_get, slice_index}
use Rattle.spv_ops.specs.Opcode.{is, number}
use Rattle.spv_ops.specs.OpGroups.{group_of, takes_of}
use Rattle.spv_ops.specs.Operands.{operands, is_id}
use Rattle.spv_ops.specs.Shape.{shape, count_of}
use Rattle.spv_ops.specs.declared.Op.{Op}
use Rattle.spv_ops.specs.declared.Op.TheVariants as code
use Rattle.spv_module.specs.Inst.{has_type, has_result}
use Rattle.spv_module.specs.State.{ModuleState}
use Rattle.spv_module.specs.declared.inst.Inst.{Inst}
use Rattle.spv_module.specs.declared.inst.Function.{Function}
use Rattle.spv_index.specs.Locals.{insts_of, inst_in}
use Rattle.profile_rules.specs.Operands.{need, is_there_in}
use Rattle.use_chains.specs.Slots.{is_value}
use Rattle.module_semantics.specs.Operands.{value_operands}
use Rattle.module_semantics.specs.Steps as steps
use Rattle.module_semantics.specs.Steps.{step_kind, is_phi}
use Rattle.list_law.proofs.Lists.{place_of}
use Rattle.region_law.specs.Leads.{In}
use Rattle.agree_law.specs.Blocks.{read_ids, reads}
use Rattle.plan_law.specs.InOrder.{IsAmong, IsOwn, AreInOrder}
use Rattle.plan_law.proofs.Order.{found, before_of}
use Rattle.global_law.proofs.Path.Based.{chain_op}
use Rattle.typed_law.specs.Conforms.{IsFormed}
use Rattle.typed_law.proofs.Rules.{operand_there}
use Rattle.grammar_law.proofs.Unit.Operands.{has_id, has_of, dropped_at, among_slot, not_one, not_zero}
use Rattle.grammar_law.proofs.Unit.Sets.{chain_id, chain_value}
use Rattle.grammar_law.proofs.Formed.Inner.{is_inner}
use Rattle.text_law.proofs.Written.Mentions.{first_word, length_op, length_value, length_id, length_least}
use Rattle.text_law.proofs.Written.Expressed.{as_in, is_operation}

-- an operand that is an id of a value
abbrev pub HasSlot : Op → List ℕ → ℕ → Type 0
HasSlot o args n = (k : ℕ) × (slice_get args k ≡ Some n) × (is_id o args k ≡ true) × (is_value o k ≡ true)

value_by : (o : Op) (k : ℕ) → is_inner (group_of o) ≡ true → is o code.Phi ≡ false → is_operation (step_kind o) ≡ true → is o code.ExtInst ≡ false → is_value o k ≡ true
unfolding step_kind group_of takes_of number
value_by code.ExtInst k inner phi step other = cc
value_by o k inner phi step other = cc

operation_slot : (o : Op) (args : List ℕ) (n : ℕ) → is_inner (group_of o) ≡ true → is o code.Phi ≡ false → is_operation (step_kind o) ≡ true → has_id n (value_operands o args) ≡ true → HasSlot o args n
unfolding is_id takes_of group_of number
operation_slot code.ExtInst args n inner phi step on = let w = dropped_at 2 args n on in (w.0, w.1, not_one w.0 w.2, not_zero w.0 w.2)
operation_slot o args n inner phi step on = let w = among_slot (operands o) args n on in (w.0, w.1, w.2, value_by o w.0 inner phi step refl)

chain_least : (o : Op) (n : ℕ) → step_kind o ≡ steps.chain → (shape o).least ≤ 1 + count_of (has_type o) + count_of (has_result o) + n → 1 ≤ n
unfolding step_kind group_of shape
chain_least code.AccessChain n step least = omega (arith, least)
chain_least code.InBoundsAccessChain n step least = omega (arith, least)
chain_least o n step least = cc

word_at_place : (xs : List ℕ) (n : ℕ) → In n xs → (k : ℕ) × (slice_get xs k ≡ Some n)
word_at_place [] n among = absurd among
word_at_place (x ∷ xs) n (inl same) = (zero, ap (λ (y : ℕ). Some y) (sym same))
word_at_place (x ∷ xs) n (inr later) = let w = word_at_place xs n later in (suc w.0, w.1)

-- the first, and those behind it
from_first : (args : List ℕ) (n : ℕ) → 1 ≤ length args → In n (slice_index args 0 ∷ drop 1 args) → In n args
from_first [] n some among = absurd (let none : 1 ≤ zero = some in omega (arith, none))
from_first (a ∷ args) n some among = among

slot_by : (i : Inst) → IsFormed i → is_inner (group_of i.op) ≡ true → is_phi i ≡ false → (n : ℕ) (q : steps.StepKind) → step_kind i.op ≡ q → In n (read_ids q i) → HasSlot i.op i.args n
slot_by i formed inner phi n steps.operation step read = operation_slot i.op i.args n inner phi (ap is_operation step) (has_of n (value_operands i.op i.args) (as_in n (value_operands i.op i.args) read))
slot_by i formed inner phi n steps.chain step read =
    let w = word_at_place i.args n (from_first i.args n (chain_least i.op (length i.args) step formed.least) read) in
    (w.0, w.1, chain_id i.op i.args w.0 (chain_op i.op step), chain_value i.op w.0 (chain_op i.op step))
slot_by i formed inner phi n steps.array_length step (inl same) =
    let op = length_op i.op step in
    (0, first_word i.args (length_least (length i.args) (subst (λ (o : Op). (shape o).least ≤ 1 + count_of (has_type o) + count_of (has_result o) + length i.args) op formed.least)) ∙ ap (λ (k : ℕ). Some k) (sym same), length_id i.op i.args op, length_value i.op op)
slot_by i formed inner phi n steps.array_length step (inr none) = absurd none
slot_by i formed inner phi n q step read = absurd read

pub read_slot : (i : Inst) → IsFormed i → is_inner (group_of i.op) ≡ true → is_phi i ≡ false → (n : ℕ) → In n (reads i) → HasSlot i.op i.args n
read_slot i formed inner phi n read = slot_by i formed inner phi n (step_kind i.op) refl read

-- So what makes it stands before, where it is a result of the function.
pub reads_before : (m : ModuleState) (f : Function) → AreInOrder m f → (j : Inst) → IsAmong j (insts_of f) → IsFormed j → is_inner (group_of j.op) ≡ true → is_phi j ≡ false → (n : ℕ) → In n (reads j)
    → (i : Inst) → IsAmong i (insts_of f) → (i.result ≡ 0 → ⊥) → n ≡ i.result → i.at < j.at
reads_before m f order j j_in formed inner phi n read i i_in some same =
    let w = read_slot j formed inner phi n read in
    let word = place_of j.args w.0 n w.1 in
    let there = operand_there (is_there_in m f j.at) j (order.there j j_in) w.0 word.0 w.2 in
    before_of m f j.at n j.op w.0 i w.3 phi (subst (IsOwn m f) (sym same) (order.own i i_in some)) (ap (inst_in f) same ∙ found i (insts_of f) order.apart i_in some)
    (subst (λ (k : ℕ). is_there_in m f j.at (need j.op w.0) k ≡ true) word.1 there)
