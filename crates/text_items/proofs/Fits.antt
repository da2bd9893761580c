-- Members of blocks, calculated constants and items, from what is known of their parts.
use Rattle.std.proofs.Common.{◌≡◌, ℕ, Bool, true, false, List, [], ◌∷◌, map, drop, ap, ◌∙◌}
use Rattle.std.specs.Prelude.{is_some, unwrap_or, if◌then◌else◌}
use Rattle.spv_ops.specs.Enumerants.{decoration_number}
use Rattle.spv_ops.specs.declared.Decoration.TheVariants as decoration
use Rattle.spv_ops.specs.declared.Op.{Op}
use Rattle.spv_module.specs.Lists.{id}
use Rattle.spv_module.specs.declared.inst.Inst.{Inst}
use Rattle.spv_decor.specs.Rows.{member_value_of}
use Rattle.name_alloc.specs.declared.claims.Key.TheVariants as key
use Rattle.name_alloc.specs.declared.claims.Names.{Names as Given}
use Rattle.spv_types.specs.Tree.{Tree}
use Rattle.profile_rules.specs.Constants.{inner_operands, inner_literals}
use Rattle.layout_rules.specs.Blocks.{block_of}
use Rattle.name_alloc.specs.Lookup.{name_in}
use Rattle.glsl_ast.specs.Tree.{Text, TypeName, Expr, member}
use Rattle.glsl_ast.specs.declared.items.Qual.{Qual}
use Rattle.vec_lowering.specs.Named.{naming_of}
use Rattle.vec_lowering.specs.Composite.{Argument}
use Rattle.vec_lowering.specs.Lowered.{lowered_vector}
use Rattle.constant_text.specs.Named.{id_names}
use Rattle.text_rules.specs.Constants.{Source}
use Rattle.text_rules.specs.Printed.{Reached, is_written_struct, is_declared_constant, is_written_variable}
use Rattle.text_rules.specs.Declarations.{Names, is_buffer, qualifiers_by, shape_at, type_at, member_decl, struct_decl, constant_decl, variable_decl, declaration}
use Rattle.text_items.specs.Names.{key_text, item_names, operand, calculated_by}

pub member_is : (s other : Source) (names : Given) (v g : Inst) (k part number : ℕ) (heads : List Inst) (buffer : Bool) (offset : ℕ) (quals : List Qual) (t : TypeName) (w : Text)
    → number ≡ k → heads ≡ s.of.heads → other ≡ s → buffer ≡ is_buffer s v g
    → offset ≡ unwrap_or (member_value_of heads g.result number (decoration_number decoration.Offset)) 0
    → quals ≡ qualifiers_by buffer (λ d. is_some (member_value_of heads g.result number d))
    → t ≡ type_at other (item_names other names) part
    → w ≡ key_text names (key.Member (id g.result) number)
    → member offset quals t w ≡ member_decl s (item_names s names) v g (k, part)
member_is s other names v g k part number heads buffer offset quals t w same held source is placed qualified typed named =
    let first : offset ≡ unwrap_or (member_value_of s.of.heads g.result k (decoration_number decoration.Offset)) 0 =
    placed ∙ (ap (λ (h : List Inst). unwrap_or (member_value_of h g.result number (decoration_number decoration.Offset)) 0) held ∙ ap (λ (n : ℕ). unwrap_or (member_value_of s.of.heads g.result n (decoration_number decoration.Offset)) 0) same) in
    let second : quals ≡ qualifiers_by (is_buffer s v g) (λ d. is_some (member_value_of s.of.heads g.result k d)) =
    qualified ∙ (ap (λ (b : Bool). qualifiers_by b (λ d. is_some (member_value_of heads g.result number d))) is
    ∙ (ap (λ (h : List Inst). qualifiers_by (is_buffer s v g) (λ d. is_some (member_value_of h g.result number d))) held
    ∙ ap (λ (n : ℕ). qualifiers_by (is_buffer s v g) (λ d. is_some (member_value_of s.of.heads g.result n d))) same)) in
    let third : t ≡ type_at s (item_names s names) part = typed ∙ ap (λ (o : Source). type_at o (item_names o names) part) source in
    let fourth : w ≡ key_text names (key.Member (id g.result) k) = named ∙ ap (λ (n : ℕ). key_text names (key.Member (id g.result) n)) same in
    ap (λ (o : ℕ). member o quals t w) first
    ∙ (ap (λ (q : List Qual). member (unwrap_or (member_value_of s.of.heads g.result k (decoration_number decoration.Offset)) 0) q t w) second
    ∙ (ap (λ (u : TypeName). member (unwrap_or (member_value_of s.of.heads g.result k (decoration_number decoration.Offset)) 0) (qualifiers_by (is_buffer s v g) (λ d. is_some (member_value_of s.of.heads g.result k d))) u w) third
    ∙ ap (member (unwrap_or (member_value_of s.of.heads g.result k (decoration_number decoration.Offset)) 0) (qualifiers_by (is_buffer s v g) (λ d. is_some (member_value_of s.of.heads g.result k d))) (type_at s (item_names s names) part)) fourth))

pub calculated_is : (s : Source) (names : Given) (g : Inst) (op : Op) (words ids literals : List ℕ) (t : Tree) (args : List Argument) (e : Expr)
    → words ≡ drop 1 g.args → ids ≡ inner_operands op words → literals ≡ inner_literals op words → t ≡ shape_at s g.ty
    → args ≡ map (operand s (id_names names)) ids
    → e ≡ lowered_vector (naming_of names) op 0 t literals args
    → e ≡ calculated_by s (name_in names) (id_names names) g (drop 1 g.args) op
unfolding naming_of
calculated_is s names g op words ids literals t args e second third fourth shaped same is =
    is
    ∙ (ap (λ (u : Tree). lowered_vector (name_in names) op 0 u literals args) shaped
    ∙ (ap (λ (l : List ℕ). lowered_vector (name_in names) op 0 (shape_at s g.ty) l args) fourth
    ∙ (ap (λ (xs : List Argument). lowered_vector (name_in names) op 0 (shape_at s g.ty) (inner_literals op words) xs) (same ∙ ap (map (operand s (id_names names))) third)
    ∙ ap (λ (l : List ℕ). calculated_by s (name_in names) (id_names names) g l op) second)))

-- what is written for a constant
pub constant_item : (s : Source) (r : Reached) (names : Names) (g : Inst) → is_written_struct s r g ≡ false → is_declared_constant s r g ≡ true → declaration s r names g ≡ constant_decl s names g ∷ []
constant_item s r names g unwritten declared =
    ap (λ (b : Bool). if b then struct_decl s names g ∷ [] else (if is_declared_constant s r g then constant_decl s names g ∷ [] else (if is_written_variable r g then variable_decl s names g (block_of s.of.globals g) else []))) unwritten
    ∙ ap (λ (b : Bool). if b then constant_decl s names g ∷ [] else (if is_written_variable r g then variable_decl s names g (block_of s.of.globals g) else [])) declared
