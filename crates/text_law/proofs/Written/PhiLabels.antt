-- Every second operand of a phi is a label of its function (T1).
use Rattle.std.proofs.Common.{◌≡◌, ◌+◌, ◌==◌, ◌%◌, ◌||◌, ℕ, zero, suc, Bool, true, false, List, [], ◌∷◌, map, filter, Option, Some, None, is_some, refl, sym, ap, ◌∙◌, subst, if◌then◌else◌, arith}
use Rattle.std.specs.Prelude.{slice_get}
use Rattle.std.specs.Option.{option_map_or}
use Rattle.std.specs.List.{enumerate_from, list_all}
use Rattle.std.proofs.lemmas.Bool.Decides.{nat_tests}
use Rattle.std.proofs.lemmas.Bool.{and_from}
use Rattle.spv_ops.specs.Opcode.{is, number}
use Rattle.spv_ops.specs.OpGroups.{takes_of, group_of}
use Rattle.spv_ops.specs.Operands.{is_id}
use Rattle.spv_ops.specs.declared.Op.{Op}
use Rattle.spv_ops.specs.declared.Op.TheVariants as code
use Rattle.spv_module.specs.State.{ModuleState}
use Rattle.spv_module.specs.declared.inst.Inst.{Inst}
use Rattle.spv_module.specs.declared.inst.Function.{Function}
use Rattle.spv_index.specs.Locals.{block_in, insts_of}
use Rattle.spv_types.specs.Types.{earlier}
use Rattle.profile_rules.specs.declared.needs.Need.{Need}
use Rattle.profile_rules.specs.declared.needs.Need.TheVariants.{PhiValue, Label}
use Rattle.profile_rules.specs.Operands.{need, suits, is_there_in}
use Rattle.profile_rules.specs.FlowRules.{every_second, are_labels}
use Rattle.list_law.proofs.Lists.{place_of}
use Rattle.plan_law.specs.InOrder.{AreInOrder, IsAmong}
use Rattle.typed_law.proofs.Lists.{from_zero}
use Rattle.typed_law.proofs.Rules.{operand_there}

odd_no : (k : ℕ) → (k % 2 == 1) ≡ true → (k % 2 == 0) ≡ false
odd_no k e = grind (arith, nat_tests, e)

-- what holds of each word at an odd place holds of every second
all_seconds : (P : ℕ → Bool) (n : ℕ) (ws : List ℕ) → ((k w : ℕ) → slice_get ws k ≡ Some w → ((n + k) % 2 == 1) ≡ true → P w ≡ true) → list_all P (map (λ (x : ℕ × ℕ). x.1) (filter (λ (x : ℕ × ℕ). x.0 % 2 == 1) (enumerate_from n ws))) ≡ true
all_seconds P n [] each = refl
all_seconds P n (w ∷ ws) each =
    by_test (n % 2 == 1) refl (all_seconds P (n + 1) ws (λ k v at odd. each (suc k) v at (let same : n + suc k ≡ n + 1 + k = omega arith in ap (λ (x : ℕ). x % 2 == 1) same ∙ odd)))
  where
    by_test : (b : Bool) → (n % 2 == 1) ≡ b → list_all P (map (λ (x : ℕ × ℕ). x.1) (filter (λ (x : ℕ × ℕ). x.0 % 2 == 1) (enumerate_from (n + 1) ws))) ≡ true → list_all P (map (λ (x : ℕ × ℕ). x.1) (if b then (n, w) ∷ filter (λ (x : ℕ × ℕ). x.0 % 2 == 1) (enumerate_from (n + 1) ws) else filter (λ (x : ℕ × ℕ). x.0 % 2 == 1) (enumerate_from (n + 1) ws))) ≡ true
    by_test true on rest = and_from (P w) (list_all P (map (λ (x : ℕ × ℕ). x.1) (filter (λ (x : ℕ × ℕ). x.0 % 2 == 1) (enumerate_from (n + 1) ws)))) (each zero w refl (let same : n + zero ≡ n = omega arith in ap (λ (x : ℕ). x % 2 == 1) same ∙ on)) rest
    by_test false off rest = rest

phi_id : (o : Op) (args : List ℕ) (k : ℕ) → is o code.Phi ≡ true → is_id o args k ≡ true
unfolding is_id number
phi_id code.Phi args k on = from_zero k
phi_id o args k on = cc

phi_needs : (o : Op) (k : ℕ) → is o code.Phi ≡ true → need o k ≡ (if k % 2 == 0 then PhiValue else Label)
unfolding need takes_of group_of number
phi_needs code.Phi k on = refl
phi_needs o k on = cc

-- no global is a label
label_there : (m : ModuleState) (f : Function) (n w : ℕ) → is_there_in m f n Label w ≡ true → is_some (block_in f w) ≡ true
label_there m f n w on = by_global (earlier m.globals n w) on
  where
    by_global : (x : Option Inst) → (option_map_or (suits Label) x false || is_some (block_in f w)) ≡ true → is_some (block_in f w) ≡ true
    by_global None on = on
    by_global (Some g) on = on

-- the law
pub phi_labels : (m : ModuleState) (f : Function) → AreInOrder m f → (i : Inst) → IsAmong i (insts_of f) → is i.op code.Phi ≡ true → are_labels f (every_second 1 i.args) ≡ true
phi_labels m f order i there phi = all_seconds (λ (w : ℕ). is_some (block_in f w)) 0 i.args each
  where
    each : (k w : ℕ) → slice_get i.args k ≡ Some w → ((0 + k) % 2 == 1) ≡ true → is_some (block_in f w) ≡ true
    each k w at odd =
        let word = place_of i.args k w at in
        let same : 0 + k ≡ k = omega arith in
        let asks : need i.op k ≡ Label = phi_needs i.op k phi ∙ ap (λ (b : Bool). if b then PhiValue else Label) (odd_no k (ap (λ (x : ℕ). x % 2 == 1) (sym same) ∙ odd)) in
        label_there m f i.at w
        (subst (λ (q : Need). is_there_in m f i.at q w ≡ true) asks
        (subst (λ (x : ℕ). is_there_in m f i.at (need i.op k) x ≡ true) word.1
        (operand_there (is_there_in m f i.at) i (order.there i there) k word.0 (phi_id i.op i.args k phi))))
