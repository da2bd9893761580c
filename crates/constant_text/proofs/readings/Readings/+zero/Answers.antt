use Rattle.std.proofs.lemmas.Result.{IfOk-weaker}
use Rattle.glsl_ast.specs.View.{exprs_of, expr_of, type_of}
use Rattle.text_rules.specs.Declarations.{spelling}
use Rattle.constant_text.specs.Named.{id_names}
use Rattle.constant_text.proofs.Members.{struct_zero}
use Rattle.constant_text.proofs.readings.Readings.+zero.Goals as goal

pub zero_expr-returns-in_ok-type_name-in-Struct : goal.zero_expr-returns-in_ok-type_name-in-Struct
zero_expr-returns-in_ok-type_name-in-Struct t c =
    let zeros = rw c.deref-in-Struct.ensures.value at c.in_ok-parts-in-Struct.ensures in
    IfOk-weaker c.build-in-Struct.result _ _
    (λ zero is. struct_zero (spelling c.args.self.now (id_names c.args.names.now)) c.args.shape.now c.in-Struct.field-0 c.in-Struct.members (type_of c.in_ok-type_name-in-Struct.field-0) (exprs_of c.in_ok-parts-in-Struct.parts.items) (expr_of zero) c.in-Struct.is is c.in_ok-type_name-in-Struct.ensures zeros)
    c.build-in-Struct.ensures
