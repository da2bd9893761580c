-- A variable that is written has a name, and a type of declared words; one that is a block has a block's name, and members; one of class Private a first value.
use Rattle.std.proofs.Common.{◌≡◌, ◌≤◌, ◌<◌, ◌==◌, ◌&&◌, ◌||◌, not, ℕ, Bool, true, false, List, [], ◌∷◌, length, Option, Some, None, refl, sym, ap, ◌∙◌, subst, if◌then◌else◌, arith}
use Rattle.std.specs.Prelude.{nat_le, nat_lt, option_map, option_and_then, unwrap_or, slice_get, slice_index}
use Rattle.std.specs.Option.{option_map_or}
use Rattle.std.specs.List.{count_by, list_any}
use Rattle.std.proofs.lemmas.Bool.{and_from, not-false, or_left as or_on_left, or_right as or_on_right}
use Rattle.std.proofs.lemmas.Option.{same_Some, none-some}
use Rattle.spv_ops.specs.Opcode.{is, number}
use Rattle.spv_ops.specs.Operands.{is_id}
use Rattle.spv_ops.specs.Groups.{is_constant as is_constant_op}
use Rattle.spv_ops.specs.Enumerants.{class_number, decoration_number}
use Rattle.spv_ops.specs.declared.Op.{Op}
use Rattle.spv_ops.specs.declared.Op.TheVariants as code
use Rattle.spv_ops.specs.declared.StorageClass.TheVariants as storage
use Rattle.spv_ops.specs.declared.Decoration.TheVariants as decoration
use Rattle.spv_module.specs.State.{ModuleState}
use Rattle.spv_module.specs.Held.{global}
use Rattle.spv_module.specs.Lists.{id}
use Rattle.spv_module.specs.declared.inst.Inst.{Inst}
use Rattle.spv_types.specs.Tree.{Tree, Trees, struct}
use Rattle.spv_types.specs.Types.{all_trees, tree_by_kind, tree_before, tree_at, type_tree}
use Rattle.spv_decor.specs.Rows.{word, value_of}
use Rattle.spv_decor.specs.Decorations.{local_insts}
use Rattle.spv_index.specs.BlockStructs.{is_block_struct, is_some_block}
use Rattle.spv_index.specs.Pointers.{pointee}
use Rattle.layout_rules.specs.Blocks.{is_block_class, as_struct, block_of}
use Rattle.profile_rules.specs.Places.{body_insts, is_defined_elsewhere, is_variable}
use Rattle.profile_rules.specs.TypeRows.{is_type, type_row}
use Rattle.profile_rules.specs.Variables.{is_pointee, is_no_block, is_unbound, is_other_block, is_of_other_type, is_other_value}
use Rattle.profile_rules.specs.Variables as rules
use Rattle.conformance.specs.Rules.{Options}
use Rattle.name_alloc.specs.declared.claims.Key.TheVariants.{Id, Block}
use Rattle.name_alloc.specs.Naming.{name_of}
use Rattle.glsl_ast.specs.Tree.{literal, Decl, TranslationUnit}
use Rattle.glsl_ast.specs.declared.expressions.Literal.TheVariants.{Uint}
use Rattle.glsl_ast.specs.declared.items.BlockPlace.TheVariants.{Set, Push}
use Rattle.glsl_grammar.specs.Spelled.{IsSpelledPlace}
use Rattle.text_rules.specs.Constants.{constant_expr}
use Rattle.text_rules.specs.Declarations.{Names, members, pointee_at, zero_at, type_at, expr_at, initial, place_of, block_decl, variable_decl}
use Rattle.text_rules.specs.Printed.{class, is_private, is_workgroup, is_block_variable, is_operand_in, is_written_variable, is_declared_constant, is_length_of, needs_constant, has_operand, has_struct, have_struct}
use Rattle.unit_rules.specs.Unit.{source_of, IsUnitOf}
use Rattle.list_law.proofs.Numbers.{same_number, less_is}
use Rattle.list_law.proofs.Lists.{second_at}
use Rattle.list_law.proofs.Tests.{common}
use Rattle.list_law.proofs.Options.{none_some}
use Rattle.claim_law.specs.Uses.{Words, UsesType, UsesExpr}
use Rattle.claim_law.specs.Units.{UsesDecl, UseDecls}
use Rattle.claim_law.specs.Blocks.{FitWords}
use Rattle.plan_law.proofs.Order.{among_left as inst_left}
use Rattle.type_law.proofs.Parts.{struct_kind}
use Rattle.typed_law.specs.Conforms.{IsConforming}
use Rattle.typed_law.specs.Words.{AreGivenWords}
use Rattle.typed_law.proofs.Lists.{and_left, and_right, and_off, or_left, or_right, none_at_fault}
use Rattle.typed_law.proofs.Rules.{initializer_right}
use Rattle.typed_law.proofs.Types.{row_is, pointee_shaped}
use Rattle.typed_law.proofs.Values.{variable_type_is, global_row, global_typed_some}
use Rattle.typed_law.proofs.Calls.{variable_typed}
use Rattle.global_law.specs.Within.{IsWithin, IsNoBlock}
use Rattle.global_law.proofs.Constant.Needed.{operand_at}
use Rattle.global_law.proofs.Constant.Within.{pointee_before, pointee_within}
use Rattle.global_law.proofs.Constant.Written.{held_by, pointed_type}
use Rattle.claim_law.specs.Claimed.{IsIn, HasName}
use Rattle.claim_law.proofs.Claim.Listed.{any_in}
use Rattle.claim_law.proofs.Claim.Keys.{variable_claimed, block_claimed}
use Rattle.claim_law.proofs.Claim.Constants.{found_in}
use Rattle.claim_law.proofs.Claim.Named.{Plans, has_name_of}
use Rattle.claim_law.proofs.Claim.Variables.{variable_no_struct, undeclared}
use Rattle.grammar_law.specs.Words.{words_of, AreOfStructs}
use Rattle.grammar_law.proofs.Unit.Lists.{as_among}
use Rattle.grammar_law.proofs.Unit.Structs.{block_member_named}
use Rattle.grammar_law.proofs.Meets.OuterRoots.{buffer_on}
use Rattle.grammar_law.proofs.Grammar.Readings.{none_fits, constant_uses}
use Rattle.grammar_law.proofs.Grammar.Lengths.{lengths_use, declared_named, needed_declared, first_needed}
use Rattle.grammar_law.proofs.Grammar.Held.{Written, Run, Held, AreDeclaredBefore, type_stands, zero_stands}
use Rattle.grammar_law.proofs.Grammar.TypeNames.{kind_type}
use Rattle.grammar_law.proofs.Grammar.StructItems.{N, key_is_name, value_fits, some_members, members_use, block_members_use, some_members_written}

variable_id : (o : Op) (args : List ℕ) → is o code.Variable ≡ true → is_id o args 1 ≡ true
unfolding is_id number
variable_id code.Variable args on = refl
variable_id o args on = cc

-- a class that is none of blocks
private_no_block : (heads gs : List Inst) (v : Inst) (q : ℕ) → pointee gs v.ty ≡ Some q → (class v == class_number storage.Private) ≡ true → is_some_block heads gs v ≡ false
private_no_block heads gs v q points on =
    ap (λ (c : ℕ). option_map_or (is_block_struct heads c) (pointee gs v.ty) false) (same_number (class v) (class_number storage.Private) on)
    ∙ ap (λ (x : Option ℕ). option_map_or (is_block_struct heads (class_number storage.Private)) x false) points

workgroup_no_block : (heads gs : List Inst) (v : Inst) (q : ℕ) → pointee gs v.ty ≡ Some q → (class v == class_number storage.Workgroup) ≡ true → is_some_block heads gs v ≡ false
workgroup_no_block heads gs v q points on =
    ap (λ (c : ℕ). option_map_or (is_block_struct heads c) (pointee gs v.ty) false) (same_number (class v) (class_number storage.Workgroup) on)
    ∙ ap (λ (x : Option ℕ). option_map_or (is_block_struct heads (class_number storage.Workgroup)) x false) points

-- P15
block_off : (a b c x y : Bool) → (a && ((b && c) || x || y)) ≡ false → a ≡ true → b ≡ true → c ≡ false
block_off true true false x y off a_on b_on = refl
block_off true true true x y off a_on b_on = cc
block_off true false c x y off a_on b_on = cc
block_off false b c x y off a_on b_on = cc

other_off : (heads gs : List Inst) (pushes : ℕ) (v : Inst) → is_other_block heads gs pushes v ≡ false → is_variable v ≡ true → (rules.is_buffer v || rules.is_push v) ≡ true → is_pointee gs (is_no_block heads (word v 0)) v ≡ false
unfolding is_other_block
other_off heads gs pushes v off one on =
    block_off (is_variable v) (rules.is_buffer v || rules.is_push v) (is_pointee gs (is_no_block heads (word v 0)) v) (rules.is_buffer v && is_unbound heads v) (rules.is_push v && nat_le 2 pushes) off one on

class_of_block : (v a b c : Bool) → (v && (a || b || c)) ≡ true → (v && (a || (b || c))) ≡ true
class_of_block true true b c on = refl
class_of_block true false true c on = refl
class_of_block true false false c on = on
class_of_block false a b c on = cc

shaped_type : (gs : List Inst) (h : Inst) (t : Tree) → tree_at gs h ≡ Some t → is_type h ≡ true
shaped_type gs h t shaped = by_test (is_type h) refl
  where
    by_test : (b : Bool) → is_type h ≡ b → b ≡ true
    by_test true on = refl
    by_test false off = none_some (sym (ap (tree_by_kind gs (tree_before gs h.at) h) (kind_type h.op off)) ∙ shaped)

module _ (m : ModuleState) (entry : Option (List ℕ)) (right : IsConforming m entry) (o : Options) (unit : TranslationUnit) (u : IsUnitOf m o unit) (v : Inst) (there : IsIn v m.globals) (written : is_written_variable (Written m entry right o unit u) v ≡ true) where
  abbrev Names_of : Names
  Names_of = N m entry right o unit u

  abbrev Gs : List Inst
  Gs = m.globals

  pub one : is_variable v ≡ true
  one = common (is_variable v) _ _ _ (and_left (is_private v || (is_workgroup v || is_block_variable v)) (is_operand_in (Written m entry right o unit u).functions v.result) written)

  classed : (is_private v || (is_workgroup v || is_block_variable v)) ≡ true
  classed = and_left (is_private v || (is_workgroup v || is_block_variable v)) (is_operand_in (Written m entry right o unit u).functions v.result) written

  pub variable_has : HasName (name_of u.claimed) (Id (id v.result))
  variable_has = has_name_of m o unit u (Id (id v.result)) (variable_claimed (source_of m o u.entry) (Written m entry right o unit u) (Plans m o unit u) v there (variable_no_struct v.op one) (undeclared m o unit u v one) written)

  pub block_has : (g : Inst) → block_of Gs v ≡ Some g → HasName (name_of u.claimed) (Block (id v.result) (id g.result))
  block_has g of_it = has_name_of m o unit u (Block (id v.result) (id g.result)) (block_claimed (source_of m o u.entry) (Written m entry right o unit u) (Plans m o unit u) v g there (variable_no_struct v.op one) (undeclared m o unit u v one) written of_it)

  -- to what it points
  row : (g : Inst) × (global Gs v.ty ≡ Some g) × (is g.op code.TypePointer ≡ true)
  row =
      let w = global_row (Run m entry right o unit u) entry right v (as_among Gs v there) (global_typed_some (Run m entry right o unit u) entry right v (as_among Gs v there) (variable_typed v.op one)) in
      (w.0, w.1, variable_type_is v.op w.0 one w.2)

  pub points : (q : ℕ) × (t : Tree) × (pointee Gs v.ty ≡ Some q) × (type_tree Gs q ≡ Some t)
  points = pointee_shaped m entry right v.ty row.0 row.1 row.2

  held : (j : ℕ) → has_struct j points.1 ≡ true → Held m entry right o unit u j
  held j has =
      held_by (Run m entry right o unit u) entry right o.overrides (Written m entry right o unit u) v j (as_among Gs v there)
      (or_on_left (is_written_variable (Written m entry right o unit u) v) (is_declared_constant (source_of m o u.entry) (Written m entry right o unit u) v) written)
      (pointed_type (Run m entry right o unit u) entry right o.overrides (Written m entry right o unit u) v.ty points.0 j points.1 points.2 points.3 has)

  -- what it points to is declared by a row
  pub pointed : (h : Inst) × (global Gs points.0 ≡ Some h) × (tree_at Gs h ≡ Some points.1)
  pointed = by_row (global Gs points.0) refl points.3
    where
      by_row : (x : Option Inst) → global Gs points.0 ≡ x → option_map_or (tree_at Gs) x None ≡ Some points.1 → (h : Inst) × (global Gs points.0 ≡ Some h) × (tree_at Gs h ≡ Some points.1)
      by_row None at e = cc
      by_row (Some h) at e = (h, at, e)

  -- a variable of a block's class points to a struct, which is its block
  module _ (blocked : is_block_variable v ≡ true) where
    pointed_struct : is pointed.0.op code.TypeStruct ≡ true
    pointed_struct =
        let off = other_off m.heads Gs (count_by rules.is_push (body_insts m)) v (none_at_fault (is_other_block m.heads Gs (count_by rules.is_push (body_insts m))) (body_insts m) v right.declared.1.1.1.1.1.1.1.1.1.1.0 (inst_left v Gs (local_insts m) (as_among Gs v there))) one (buffer_on (is_variable v) (class v == class_number storage.Uniform) (class v == class_number storage.PushConstant) (class v == class_number storage.StorageBuffer) blocked) in
        let row_at : type_row Gs points.0 ≡ Some pointed.0 = row_is m entry right points.0 pointed.0 pointed.1 (shaped_type Gs pointed.0 points.1 pointed.2) in
        let told : is_no_block m.heads (class v) pointed.0 ≡ false = sym (ap (λ (x : Option ℕ). option_map_or (is_no_block m.heads (class v)) (option_and_then (type_row Gs) x) false) points.2 ∙ ap (λ (x : Option Inst). option_map_or (is_no_block m.heads (class v)) x false) row_at) ∙ off in
        and_left (is pointed.0.op code.TypeStruct) (is_block_struct m.heads (class v) pointed.0.result) (not-false ((is pointed.0.op code.TypeStruct) && is_block_struct m.heads (class v) pointed.0.result) told)

    pub block_is : block_of Gs v ≡ Some pointed.0
    block_is =
        ap (λ (b : Bool). if b then option_and_then as_struct (option_and_then (global Gs) (pointee Gs v.ty)) else None) (class_of_block (is_variable v) (class v == class_number storage.Uniform) (class v == class_number storage.PushConstant) (class v == class_number storage.StorageBuffer) blocked)
        ∙ (ap (λ (x : Option ℕ). option_and_then as_struct (option_and_then (global Gs) x)) points.2
        ∙ (ap (option_and_then as_struct) pointed.1 ∙ ap (λ (b : Bool). if b then Some pointed.0 else None) pointed_struct))

  -- so one that is no block is of class Private or Workgroup
  no_block_class : block_of Gs v ≡ None → is_some_block m.heads Gs v ≡ false
  no_block_class none = by_class (is_private v) refl (is_workgroup v) refl (is_block_variable v) refl classed
    where
      by_class : (a : Bool) → is_private v ≡ a → (b : Bool) → is_workgroup v ≡ b → (c : Bool) → is_block_variable v ≡ c → (a || (b || c)) ≡ true → is_some_block m.heads Gs v ≡ false
      by_class true private b workgroup c block on = private_no_block m.heads Gs v points.0 points.2 (and_right (is_variable v) (class v == class_number storage.Private) private)
      by_class false private true workgroup c block on = workgroup_no_block m.heads Gs v points.0 points.2 (and_right (is_variable v) (class v == class_number storage.Workgroup) workgroup)
      by_class false private false workgroup true block on = absurd (none-some pointed.0 (sym none ∙ block_is block))
      by_class false private false workgroup false block on = cc

  module _ (words : (h : Inst) → IsIn h m.globals → FitWords h.args) (given : AreGivenWords o.overrides) (names : List (List ℕ)) (structs : AreOfStructs m.globals (name_of u.claimed) names) (declared : AreDeclaredBefore m entry right o unit u names v.at) where
    abbrev W : Words
    W = words_of m.globals (name_of u.claimed) names

    -- one that is no block
    module _ (plain : block_of Gs v ≡ None) where
      shaped_there : type_tree Gs (pointee_at (source_of m o u.entry) v.ty) ≡ Some points.1
      shaped_there = ap (λ (x : Option ℕ). type_tree Gs (unwrap_or x v.ty)) points.2 ∙ points.3

      within : IsWithin (IsNoBlock m) m v.at points.1
      within = pointee_within m entry right v points.0 points.1 (as_among Gs v there) one (no_block_class plain) points.2 points.3

      type_made : UsesType W (type_at (source_of m o u.entry) Names_of (pointee_at (source_of m o u.entry) v.ty))
      type_made = type_stands m entry right o unit u names v.at declared (lengths_use m entry right o unit u words given names structs) Names_of refl (pointee_at (source_of m o u.entry) v.ty) points.1 shaped_there within held

      zero_made : UsesExpr W (zero_at (source_of m o u.entry) Names_of (pointee_at (source_of m o u.entry) v.ty))
      zero_made = zero_stands m entry right o unit u names v.at declared (lengths_use m entry right o unit u words given names structs) Names_of refl (pointee_at (source_of m o u.entry) v.ty) points.1 shaped_there within held

      -- the first value of one of class Private is a constant that is needed (P16)
      module _ (private : is_private v ≡ true) where
        constant_made : (n : ℕ) (h : Inst) → slice_get v.args 1 ≡ Some n → global Gs n ≡ Some h → UsesExpr W (constant_expr (source_of m o u.entry) Names_of.id h)
        constant_made n h second at = constant_uses m entry right o unit u words given names structs h own.0 constant (λ reads. declared_named m entry right o unit u h own.0 constant (needed_declared m entry right o unit u h constant reads (first_needed m entry right o unit u h.result needs)))
          where
            place : (1 < length v.args) × (slice_index v.args 1 ≡ n)
            place = second_at v.args n second

            own : IsIn h Gs × (h.result ≡ n)
            own = found_in Gs n h at

            constant : is_constant_op h.op ≡ true
            constant =
                let off = or_right (not ((word v 0 == class_number storage.Function) || (word v 0 == class_number storage.Private))) (is_other_value m v (word v 1))
                (and_off (is_variable v && nat_lt 1 (length v.args)) (not ((word v 0 == class_number storage.Function) || (word v 0 == class_number storage.Private)) || is_other_value m v (word v 1)) (initializer_right m entry right v (inst_left v Gs (local_insts m) (as_among Gs v there))) (and_from (is_variable v) (nat_lt 1 (length v.args)) one (less_is 1 (length v.args) place.0))) in
                let there_is : global Gs (word v 1) ≡ Some h = ap (global Gs) place.1 ∙ at in
                not-false (is_constant_op h.op) (or_left (not (is_constant_op h.op)) (is_of_other_type Gs v h) (ap (λ (x : Option Inst). option_map_or (λ (g : Inst). not (is_constant_op g.op) || is_of_other_type Gs v g) x (is_defined_elsewhere m (word v 1))) (sym there_is) ∙ off))

            operand : has_operand v h.result ≡ true
            operand = subst (λ (k : ℕ). has_operand v k ≡ true) (place.1 ∙ sym own.1) (operand_at (is_id v.op v.args) v.args 0 1 place.0 (variable_id v.op v.args one))

            needs : needs_constant (source_of m o u.entry) (Written m entry right o unit u) h.result ≡ true
            needs =
                or_on_right (list_any (λ (k : ℕ). k == h.result) (Written m entry right o unit u).mentions) _
                (or_on_right (list_any (is_length_of h.result) Gs) _
                (any_in (λ (g : Inst). is_private g && (is_written_variable (Written m entry right o unit u) g && has_operand g h.result)) Gs v there
                (and_from (is_private v) (is_written_variable (Written m entry right o unit u) v && has_operand v h.result) private (and_from (is_written_variable (Written m entry right o unit u) v) (has_operand v h.result) written operand))))

        first_made : UsesExpr W (initial (source_of m o u.entry) Names_of v)
        first_made = by_second (slice_get v.args 1) refl
          where
            by_global : (n : ℕ) → slice_get v.args 1 ≡ Some n → (x : Option Inst) → global Gs n ≡ x → UsesExpr W (option_map_or (constant_expr (source_of m o u.entry) Names_of.id) x (literal (Uint 0)))
            by_global n second None at = none_fits
            by_global n second (Some h) at = constant_made n h second at

            by_second : (x : Option ℕ) → slice_get v.args 1 ≡ x → UsesExpr W (option_map_or (expr_at (source_of m o u.entry) Names_of) x (zero_at (source_of m o u.entry) Names_of (pointee_at (source_of m o u.entry) v.ty)))
            by_second None second = zero_made
            by_second (Some n) second = by_global n second (global Gs n) refl

      plain_made : UseDecls (words_of m.globals (name_of u.claimed)) names (variable_decl (source_of m o u.entry) Names_of v None)
      plain_made = by_class (is_private v) refl
        where
          by_class : (b : Bool) → is_private v ≡ b → UseDecls (words_of m.globals (name_of u.claimed)) names ((if b then Decl.global (type_at (source_of m o u.entry) Names_of (pointee_at (source_of m o u.entry) v.ty)) (Names_of.id v.result) (initial (source_of m o u.entry) Names_of v) else Decl.shared (type_at (source_of m o u.entry) Names_of (pointee_at (source_of m o u.entry) v.ty)) (Names_of.id v.result)) ∷ [])
          by_class true private = ((type_made, key_is_name m entry right o unit u (Id (id v.result)) variable_has, first_made private), tt)
          by_class false other = ((type_made, key_is_name m entry right o unit u (Id (id v.result)) variable_has), tt)

    -- a block
    module _ (rows : (h : Inst) → IsIn h m.heads → FitWords h.args) (g : Inst) (of_it : block_of Gs v ≡ Some g) where
      same_block : (pointed.0 ≡ g) × (is g.op code.TypeStruct ≡ true)
      same_block = by_class (is v.op code.Variable && is_block_class (slice_index v.args 0)) of_it
        where
          by_struct : (h : Inst) (b : Bool) → is h.op code.TypeStruct ≡ b → (if b then Some h else None) ≡ Some g → (h ≡ g) × (is g.op code.TypeStruct ≡ true)
          by_struct h true on e = let same = same_Some h g e in (same, ap (λ (x : Inst). is x.op code.TypeStruct) (sym same) ∙ on)
          by_struct h false off e = cc

          by_class : (b : Bool) → (if b then option_and_then as_struct (option_and_then (global Gs) (pointee Gs v.ty)) else None) ≡ Some g → (pointed.0 ≡ g) × (is g.op code.TypeStruct ≡ true)
          by_class true e = by_struct pointed.0 (is pointed.0.op code.TypeStruct) refl (sym (ap (λ (x : Option ℕ). option_and_then as_struct (option_and_then (global Gs) x)) points.2 ∙ ap (option_and_then as_struct) pointed.1) ∙ e)
          by_class false e = cc

      found : global Gs points.0 ≡ Some g
      found = pointed.1 ∙ ap (λ (x : Inst). Some x) same_block.0

      g_in : IsIn g Gs
      g_in = (found_in Gs points.0 g found).0

      before : g.at < v.at
      before = pointee_before m entry right v points.0 g (as_among Gs v there) one points.2 found

      -- its members have a shape
      parts : (ts : Trees) × (all_trees (tree_before Gs g.at) g.args ≡ Some ts) × (points.1 ≡ struct g.result ts)
      parts = by_parts (all_trees (tree_before Gs g.at) g.args) refl (sym (ap (tree_by_kind Gs (tree_before Gs g.at) g) (struct_kind g.op same_block.1)) ∙ (sym (ap (λ (x : Option Inst). option_map_or (tree_at Gs) x None) found) ∙ points.3))
        where
          by_parts : (x : Option Trees) → all_trees (tree_before Gs g.at) g.args ≡ x → option_map (struct g.result) x ≡ Some points.1 → (ts : Trees) × (all_trees (tree_before Gs g.at) g.args ≡ Some ts) × (points.1 ≡ struct g.result ts)
          by_parts None at e = cc
          by_parts (Some ts) at e = (ts, at, sym (same_Some (struct g.result ts) points.1 e))

      inner : (j : ℕ) (ts : Trees) → all_trees (tree_before Gs g.at) g.args ≡ Some ts → have_struct j ts ≡ true → Held m entry right o unit u j
      inner j ts all has =
          let same : parts.0 ≡ ts = same_Some parts.0 ts (sym parts.1 ∙ all) in
          held j (ap (has_struct j) parts.2 ∙ or_on_right (g.result == j) (have_struct j parts.0) (ap (have_struct j) same ∙ has))

      low : g.at ≤ v.at
      low = let less = before in omega (arith, less)

      place_fits : IsSpelledPlace (place_of (source_of m o u.entry) v)
      place_fits = by_push (class v == class_number storage.PushConstant)
        where
          by_push : (b : Bool) → IsSpelledPlace (if b then Push else Set (unwrap_or (value_of m.heads v.result (decoration_number decoration.DescriptorSet)) 0) (unwrap_or (value_of m.heads v.result (decoration_number decoration.Binding)) 0))
          by_push true = tt
          by_push false = (value_fits m.heads rows v.result (decoration_number decoration.DescriptorSet), value_fits m.heads rows v.result (decoration_number decoration.Binding))

      block_made : UsesDecl W (block_decl (source_of m o u.entry) Names_of v g)
      block_made = (
        place_fits,
        key_is_name m entry right o unit u (Block (id v.result) (id g.result)) (block_has g of_it),
        some_members_written m entry right o unit u g g_in same_block.1 words given names structs v.at low declared inner parts.0 parts.1 v rows g.args (some_members m entry right o unit u g g_in same_block.1),
        block_members_use m entry right o unit u g g_in same_block.1 words given names structs v.at low declared inner parts.0 parts.1 v rows (members g)
            (members_use m entry right o unit u g g_in same_block.1 words given names structs v.at low declared inner parts.0 parts.1 (λ k ty at. block_member_named m o unit u v g k ty there written of_it g_in same_block.1 at)),
        key_is_name m entry right o unit u (Id (id v.result)) variable_has,
      )

    -- the law
    pub variable_made : (rows : (h : Inst) → IsIn h m.heads → FitWords h.args) → UseDecls (words_of m.globals (name_of u.claimed)) names (variable_decl (source_of m o u.entry) Names_of v (block_of Gs v))
    variable_made rows = by_block (block_of Gs v) refl
      where
        by_block : (x : Option Inst) → block_of Gs v ≡ x → UseDecls (words_of m.globals (name_of u.claimed)) names (variable_decl (source_of m o u.entry) Names_of v x)
        by_block None plain = plain_made plain
        by_block (Some g) of_it = (block_made rows g of_it, tt)
