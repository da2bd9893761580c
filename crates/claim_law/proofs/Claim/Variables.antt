-- In the text of a module each variable of the module that a function mentions has a name, and so has a block.
use Rattle.std.proofs.Common.{◌≡◌, ◌||◌, ℕ, Bool, true, false, Some, refl, sym, subst}
use Rattle.std.specs.List.{list_any}
use Rattle.std.proofs.lemmas.Bool.{and_from, and_left}
use Rattle.spv_ops.specs.Opcode.{is, number}
use Rattle.spv_ops.specs.Groups.{is_constant as is_constant_op}
use Rattle.spv_ops.specs.declared.Op.{Op}
use Rattle.spv_ops.specs.declared.Op.TheVariants as code
use Rattle.spv_module.specs.State.{ModuleState}
use Rattle.spv_module.specs.Held.{global}
use Rattle.spv_module.specs.Lists.{id}
use Rattle.spv_module.specs.declared.inst.Inst.{Inst}
use Rattle.spv_module.specs.declared.inst.Function.{Function}
use Rattle.spv_index.specs.Locals.{insts_of}
use Rattle.layout_rules.specs.Blocks.{block_of}
use Rattle.conformance.specs.Rules.{Options}
use Rattle.name_alloc.specs.declared.claims.Key.TheVariants.{Id, Block}
use Rattle.name_alloc.specs.Naming.{name_of}
use Rattle.glsl_ast.specs.Tree.{TranslationUnit}
use Rattle.text_rules.specs.Constants.{is_constant}
use Rattle.text_rules.specs.Printed.{Reached, has_operand, is_private, is_workgroup, is_block_variable, is_operand_in, is_written_variable, is_declared_constant}
use Rattle.function_text.specs.Functions.{FunctionPlan, written}
use Rattle.unit_rules.specs.Unit.{reached_of, source_of, IsUnitOf}
use Rattle.list_law.proofs.Tests.{common}
use Rattle.profile_rules.specs.Places.{is_variable}
use Rattle.claim_law.specs.Claimed.{IsIn, HasName}
use Rattle.claim_law.proofs.Claim.Listed.{any_in, in_mapped}
use Rattle.claim_law.proofs.Claim.Keys.{variable_claimed, block_claimed}
use Rattle.claim_law.proofs.Claim.Named.{Plans, has_name_of}
use Rattle.claim_law.proofs.Claim.Constants.{found_in}

pub variable_no_struct : (o : Op) → is o code.Variable ≡ true → is o code.TypeStruct ≡ false
unfolding number
variable_no_struct code.Variable on = refl
variable_no_struct o on = cc

pub variable_no_constant : (o : Op) → is o code.Variable ≡ true → is_constant_op o ≡ false
unfolding number
variable_no_constant code.Variable on = refl
variable_no_constant o on = cc

module _ (m : ModuleState) (o : Options) (unit : TranslationUnit) (u : IsUnitOf m o unit) where
  abbrev r : Reached
  r = reached_of (source_of m o u.entry) u.plans

  abbrev is_of_class : Inst → Bool
  is_of_class g = is_private g || (is_workgroup g || is_block_variable g)

  -- an instruction of a planned function has it as an operand
  pub written_in : (p : FunctionPlan) (i g : Inst) → IsIn p u.plans → IsIn i (insts_of (written p)) → has_operand i g.result ≡ true → is_of_class g ≡ true → is_written_variable r g ≡ true
  written_in p i g among there operand class =
      and_from (is_of_class g) (is_operand_in r.functions g.result) class
      (any_in (λ (f : Function). list_any (λ (j : Inst). has_operand j g.result) (insts_of f)) r.functions (written p) (in_mapped written u.plans p among) (any_in (λ (j : Inst). has_operand j g.result) (insts_of (written p)) i there operand))

  is_one : (g : Inst) → is_of_class g ≡ true → is_variable g ≡ true
  is_one g class = common (is_variable g) _ _ _ class

  pub undeclared : (g : Inst) → is_variable g ≡ true → is_declared_constant (source_of m o u.entry) r g ≡ false
  undeclared g on = and_left (is_constant g) _ (variable_no_constant g.op on)

  pub variable_named : (p : FunctionPlan) (i g : Inst) (n : ℕ) → IsIn p u.plans → IsIn i (insts_of (written p)) → has_operand i n ≡ true → global m.globals n ≡ Some g → is_of_class g ≡ true → HasName (name_of u.claimed) (Id (id n))
  variable_named p i g n among there operand is class =
      let at = found_in m.globals n g is in
      let one = is_one g class in
      subst (λ (k : ℕ). HasName (name_of u.claimed) (Id (id k))) at.1
      (has_name_of m o unit u (Id (id g.result))
      (variable_claimed (source_of m o u.entry) r (Plans m o unit u) g at.0 (variable_no_struct g.op one) (undeclared g one)
      (written_in p i g among there (subst (λ (k : ℕ). has_operand i k ≡ true) (sym at.1) operand) class)))

  pub block_named : (p : FunctionPlan) (i g struct : Inst) (n : ℕ) → IsIn p u.plans → IsIn i (insts_of (written p)) → has_operand i n ≡ true → global m.globals n ≡ Some g → is_of_class g ≡ true → block_of m.globals g ≡ Some struct → HasName (name_of u.claimed) (Block (id n) (id struct.result))
  block_named p i g struct n among there operand is class block =
      let at = found_in m.globals n g is in
      let one = is_one g class in
      subst (λ (k : ℕ). HasName (name_of u.claimed) (Block (id k) (id struct.result))) at.1
      (has_name_of m o unit u (Block (id g.result) (id struct.result))
      (block_claimed (source_of m o u.entry) r (Plans m o unit u) g struct at.0 (variable_no_struct g.op one) (undeclared g one)
      (written_in p i g among there (subst (λ (k : ℕ). has_operand i k ≡ true) (sym at.1) operand) class) block))
