use Rattle.std.proofs.Common.{◌≡◌, ◌∙◌, ℕ, IfOk, option_map, option_and_then, ap, sym, subst, rules}
use Rattle.std.specs.Prelude.{Option, Some, None}
use Rattle.spv_ops.specs.Opcode.{op_of}
use Rattle.spv_ops.specs.Operands.{inner_of}
use Rattle.spv_ops.specs.declared.Op.{Op}
use Rattle.spv_types.specs.Tree.{Tree, ValueTree}
use Rattle.spv_types.specs.View.{tree_of, value_of}
use Rattle.profile_rules.specs.Constants.{if_fits, operation_value}
use Rattle.constant_values.specs.Calculated.{calculated_by}
use Rattle.constant_values.specs.Held.{value_in}
use Rattle.constant_values.proofs.Calculation.{operation_is}
use Rattle.constant_values.proofs.operate.calculated.Goals as goal

pub returns-in-None : goal.returns-in-None
returns-in-None c =
    let t : Tree = tree_of c.args.shape.now in
    let f : ℕ → Option ValueTree = value_in c.args.values.now in
    let none : inner_of c.args.op ≡ None = search rules in
    ap (option_and_then (if_fits t)) (sym (operation_is t f c.args.words.now c.args.op ∙ ap (option_and_then (calculated_by t f c.args.words.now)) none))

pub returns-in-Some : goal.returns-in-Some
returns-in-Some c =
    let t : Tree = tree_of c.args.shape.now in
    let f : ℕ → Option ValueTree = value_in c.args.values.now in
    let some : inner_of c.args.op ≡ Some c.in-Some.op = search rules in
    let is : option_and_then (λ (o : Op). operation_value t f o c.args.words.now) (op_of c.args.op) ≡ calculated_by t f c.args.words.now c.in-Some.op =
    operation_is t f c.args.words.now c.args.op ∙ ap (option_and_then (calculated_by t f c.args.words.now)) some in
    let P : Option ValueTree → Type 0 = λ w. IfOk c.calculated_by.result (λ v. option_map value_of v ≡ option_and_then (if_fits t) w) in
    subst P (sym is) c.calculated_by.ensures
