-- A whole text and its tree.
use Rattle.std.proofs.Common.{◌≡◌, ℕ, List, [], ◌∷◌, refl}
use Rattle.std.specs.Prelude.{true, false, codes, Some, None}
use Rattle.glsl_ast.specs.Tree as tree
use Rattle.glsl_ast.specs.Tree.{Text, TypeName, type_name, Expr, lvalue, Stmt, stmts_in, TranslationUnit, translation_unit}
use Rattle.glsl_ast.specs.declared.expressions.Literal.TheVariants as literal
use Rattle.glsl_ast.specs.declared.expressions.BinOp.TheVariants as op
use Rattle.glsl_ast.specs.declared.items.Size.{Size}
use Rattle.glsl_ast.specs.declared.items.BlockPlace.TheVariants as place
use Rattle.glsl_ast.specs.declared.items.BlockRules.TheVariants as rules
use Rattle.glsl_grammar.specs.Lex.{is_white, is_digit, is_word, name_token, sign_token, ended, is_sign, lengthens, begun, lex, after_version, glsl_tokens, number_parts, fitting, hex_token}
use Rattle.glsl_grammar.specs.Read.{tree_of_tokens}
use Rattle.glsl_grammar.specs.Reading.{glsl_read}

opened : Unit {0}
unfolding is_white is_digit is_word name_token sign_token ended is_sign lengthens begun lex number_parts fitting hex_token after_version glsl_tokens glsl_read tree_of_tokens
opened = tt

abbrev size_of_axis : ℕ → ℕ → Size
size_of_axis a k = record { axis = a; by_id = false; number = k }

abbrev uint : TypeName
uint = type_name tree.Base.uint []

abbrev element : Expr
element = tree.Expr.index (tree.Expr.member (tree.Expr.name (codes "v5")) (codes "m0")) (tree.Expr.name (codes "v18"))

abbrev body : List Stmt
body =
    tree.Stmt.declare uint (codes "v18") (Some (tree.Expr.member (tree.Expr.name (codes "gl_GlobalInvocationID")) (codes "x")))
    ∷ tree.Stmt.declare uint (codes "v20") (Some element)
    ∷ tree.Stmt.assign (lvalue (codes "v5") (tree.LStep.member (codes "m0") ∷ tree.LStep.index (tree.Expr.name (codes "v18")) ∷ []))
    (tree.Expr.binary op.Add (tree.Expr.name (codes "v20")) (tree.Expr.literal (literal.Uint 1)))
    ∷ tree.Stmt.give None
    ∷ []

abbrev adds_one : TranslationUnit
adds_one = translation_unit (size_of_axis 0 64 ∷ size_of_axis 1 1 ∷ size_of_axis 2 1 ∷ [])
    (tree.Decl.block (place.Set 0 0) rules.Std430 [] true (codes "v3") (tree.Member.member 0 [] (type_name tree.Base.uint (tree.open_end ∷ [])) (codes "m0") ∷ []) (codes "v5")
    ∷ tree.Decl.function None (codes "main") [] (stmts_in body)
    ∷ [])

laid_out : glsl_read (codes "#version 460\nlayout(local_size_x = 64, local_size_y = 1, local_size_z = 1) in;\nlayout(set = 0, binding = 0, std430) buffer v3 {\n    layout(offset = 0) uint[] m0;\n} v5;\nvoid main() {\n    uint v18 = gl_GlobalInvocationID.x;\n    uint v20 = v5.m0[v18];\n    v5.m0[v18] = v20 + 1u;\n    return;\n}\n") ≡ Some adds_one
unfolding opened
laid_out = refl

-- white space only separates
in_one_line : glsl_read (codes "#version 460\nlayout(local_size_x=64,local_size_y=1,local_size_z=1)in;layout(set=0,binding=0,std430)buffer v3{layout(offset=0)uint[]m0;}v5;void main(){uint v18=gl_GlobalInvocationID.x;uint v20=v5.m0[v18];v5.m0[v18]=(v20+01u);return;}") ≡ Some adds_one
unfolding opened
in_one_line = refl

without_the_end : glsl_read (codes "#version 460\nlayout(local_size_x = 64) in;\nvoid main() {") ≡ None
unfolding opened
without_the_end = refl
