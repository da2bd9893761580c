-- In the text of a module a struct that the type of something written has is written: so it has a name, and so have its members.
use Rattle.std.proofs.Common.{◌≡◌, ◌==◌, ◌&&◌, ◌||◌, not, ℕ, true, false, List, Option, Some, refl, sym, ap, ◌∙◌, subst}
use Rattle.std.specs.Prelude.{slice_get}
use Rattle.std.specs.Option.{option_map_or}
use Rattle.std.specs.List.{list_any}
use Rattle.std.proofs.lemmas.Bool.{and_from, or_left, or_right}
use Rattle.spv_ops.specs.Opcode.{is}
use Rattle.spv_ops.specs.declared.Op.TheVariants as code
use Rattle.spv_module.specs.State.{ModuleState}
use Rattle.spv_module.specs.Lists.{id}
use Rattle.spv_module.specs.declared.inst.Inst.{Inst}
use Rattle.spv_module.specs.declared.tree.Length.{Length}
use Rattle.spv_types.specs.Tree.{Tree}
use Rattle.spv_types.specs.Types.{type_tree}
use Rattle.spv_index.specs.BlockStructs.{is_block}
use Rattle.layout_rules.specs.Blocks.{block_of}
use Rattle.conformance.specs.Rules.{Options}
use Rattle.name_alloc.specs.declared.claims.Key.TheVariants.{Id, Member}
use Rattle.name_alloc.specs.Naming.{name_of}
use Rattle.glsl_ast.specs.Tree.{TranslationUnit}
use Rattle.glsl_grammar.specs.Read.{is_declared}
use Rattle.text_rules.specs.Constants.{Source}
use Rattle.text_rules.specs.Claims.{has_block, is_written_block}
use Rattle.text_rules.specs.Declarations.{length_extent, type_at, zero_at}
use Rattle.text_rules.specs.Printed.{Reached, has_struct, pointee_or_self, type_has_struct, written_types, is_written_variable, is_written_struct}
use Rattle.unit_rules.specs.Translation.{Naming, id_text, names_of}
use Rattle.unit_rules.specs.Unit.{reached_of, source_of, IsUnitOf}
use Rattle.list_law.proofs.Numbers.{number_same}
use Rattle.claim_law.specs.Uses.{Words, UsesExtent, UsesType, UsesExpr}
use Rattle.typed_law.specs.Conforms.{IsConforming}
use Rattle.claim_law.specs.Claimed.{IsIn, HasName}
use Rattle.claim_law.proofs.Claim.Listed.{any_in}
use Rattle.claim_law.proofs.Claim.Keys.{struct_claimed, member_claimed}
use Rattle.claim_law.proofs.Claim.Named.{Plans, has_name_of}
use Rattle.claim_law.proofs.Claim.Told.{named_is}
use Rattle.grammar_law.specs.Types.{IsLengthOf}
use Rattle.grammar_law.specs.Words.{words_of}
use Rattle.grammar_law.proofs.Unit.Types.{AreNamedIn, type_uses, zero_at_uses}
use Rattle.grammar_law.proofs.Unit.Free.{AreFree}

module _ (m : ModuleState) (o : Options) (unit : TranslationUnit) (u : IsUnitOf m o unit) where
  abbrev S : Source
  S = source_of m o u.entry

  abbrev pub Written : Reached
  Written = reached_of (source_of m o u.entry) u.plans

  abbrev Found : Naming
  Found = name_of u.claimed

  -- it is written where something written has it, and is no block's
  pub struct_written : (g : Inst) (ty : ℕ) → is g.op code.TypeStruct ≡ true → is_block m.heads g.result ≡ false → IsIn ty (written_types S Written) → type_has_struct m.globals g.result ty ≡ true → is_written_struct S Written g ≡ true
  struct_written g ty struct free among has =
      and_from (is g.op code.TypeStruct) (not (is_block m.heads g.result) && list_any (type_has_struct m.globals g.result) (written_types S Written)) struct
      (and_from (not (is_block m.heads g.result)) (list_any (type_has_struct m.globals g.result) (written_types S Written)) (ap not free) (any_in (type_has_struct m.globals g.result) (written_types S Written) ty among has))

  pub struct_named : (g : Inst) → IsIn g m.globals → is g.op code.TypeStruct ≡ true → is_written_struct S Written g ≡ true → HasName Found (Id (id g.result))
  struct_named g among struct written = has_name_of m o unit u (Id (id g.result)) (struct_claimed S Written (Plans m o unit u) g among struct written)

  -- its members, and those of a block that is written
  pub member_named : (g : Inst) (k ty : ℕ) → IsIn g m.globals → is g.op code.TypeStruct ≡ true → (is_written_struct S Written g || is_written_block S Written g.result) ≡ true → slice_get g.args k ≡ Some ty → HasName Found (Member (id g.result) k)
  member_named g k ty among struct written at = has_name_of m o unit u (Member (id g.result) k) (member_claimed S Written (Plans m o unit u) g k ty among struct written at)

  pub part_named : (g : Inst) (k ty : ℕ) → IsIn g m.globals → is g.op code.TypeStruct ≡ true → is_written_struct S Written g ≡ true → slice_get g.args k ≡ Some ty → HasName Found (Member (id g.result) k)
  part_named g k ty among struct written at = member_named g k ty among struct (or_left (is_written_struct S Written g) (is_written_block S Written g.result) written) at

  pub block_member_named : (v g : Inst) (k ty : ℕ) → IsIn v m.globals → is_written_variable Written v ≡ true → block_of m.globals v ≡ Some g → IsIn g m.globals → is g.op code.TypeStruct ≡ true → slice_get g.args k ≡ Some ty → HasName Found (Member (id g.result) k)
  block_member_named v g k ty there written block among struct at =
      member_named g k ty among struct
      (or_right (is_written_struct S Written g) (is_written_block S Written g.result)
      (any_in (λ (x : Inst). is_written_variable Written x && has_block S g.result x) m.globals v there
      (and_from (is_written_variable Written v) (has_block S g.result v) written
      (ap (λ (q : Option Inst). option_map_or (λ (h : Inst). h.result == g.result) q false) block ∙ number_same g.result g.result refl))))
      at

  -- a struct of this id is written
  pub record IsWrittenStruct (n : ℕ) : Type 0 where
    pub ty : Inst
    pub among : IsIn ty m.globals
    pub is_struct : is ty.op code.TypeStruct ≡ true
    pub result : ty.result ≡ n
    pub written : is_written_struct S Written ty ≡ true

  abbrev pub HasNames : Tree → Type 0
  HasNames t = (n : ℕ) → has_struct n t ≡ true → IsWrittenStruct n

  -- so are those of a type of something written, where none is a block's
  pub written_names : (entry : Option (List ℕ)) (right : IsConforming m entry) (p ty : ℕ) (t : Tree) → IsIn p (written_types S Written) → pointee_or_self m.globals p ≡ ty → type_tree m.globals ty ≡ Some t → AreFree m entry right t → HasNames t
  written_names entry right p ty t among points shaped free n has =
      let g = free n has in
      let has_it : type_has_struct m.globals g.ty.result p ≡ true =
      ap (λ (k : ℕ). option_map_or (has_struct g.ty.result) (type_tree m.globals k) false) points
      ∙ (ap (λ (q : Option Tree). option_map_or (has_struct g.ty.result) q false) shaped ∙ (ap (λ (k : ℕ). has_struct k t) g.result ∙ has)) in
      record {
        ty = g.ty;
        among = g.among;
        is_struct = g.is_struct;
        result = g.result;
        written = struct_written g.ty p g.is_struct (subst (λ (k : ℕ). is_block m.heads k ≡ false) (sym g.result) g.free) among has_it;
      }

  -- the name of such a type, and its zero, are made of names: where the structs that are written are declared
  module _ (names : List (List ℕ)) (declared : (g : Inst) → IsIn g m.globals → is_written_struct S Written g ≡ true → is_declared names (id_text Found g.result) ≡ true)
      (lengths : (l : Length) → IsLengthOf m.globals l → UsesExtent (words_of m.globals Found names) (length_extent S (id_text Found) l)) where
    abbrev W : Words
    W = words_of m.globals Found names

    pub structs_named : (t : Tree) → HasNames t → AreNamedIn W m.globals S (id_text Found) lengths t
    structs_named t has n there =
        let g = has n there in
        subst (λ (k : ℕ). W.struct (id_text Found k)) g.result ((Id (id g.ty.result), named_is Found (Id (id g.ty.result)) (struct_named g.ty g.among g.is_struct g.written)), declared g.ty g.among g.written)

    pub named_type_uses : (ty : ℕ) (t : Tree) → type_tree m.globals ty ≡ Some t → HasNames t → UsesType W (type_at S (names_of Found) ty)
    named_type_uses ty t shaped has = type_uses W m.globals S (id_text Found) lengths refl (names_of Found) refl ty t shaped (structs_named t has)

    pub named_zero_uses : (ty : ℕ) (t : Tree) → type_tree m.globals ty ≡ Some t → HasNames t → UsesExpr W (zero_at S (names_of Found) ty)
    named_zero_uses ty t shaped has = zero_at_uses W m.globals S (id_text Found) lengths refl (names_of Found) refl ty t shaped (structs_named t has)
