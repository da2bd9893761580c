-- The name of any type of a module is made of declared words, where the structs in its shape are written: a type without a shape is named as uint.
use Rattle.std.proofs.Common.{◌≡◌, ◌&&◌, ◌==◌, ℕ, Bool, true, false, List, Option, Some, None, nat_le, refl, sym, ap, ◌∙◌, subst, if◌then◌else◌}
use Rattle.std.specs.Prelude.{slice_index}
use Rattle.std.specs.Option.{option_map_or}
use Rattle.std.proofs.lemmas.Option.{same_Some}
use Rattle.spv_ops.specs.Groups.{is_type as is_type_op}
use Rattle.spv_ops.specs.declared.Op.{Op}
use Rattle.spv_ops.specs.declared.Op.TheVariants as code
use Rattle.spv_module.specs.State.{ModuleState}
use Rattle.spv_module.specs.Held.{global}
use Rattle.spv_module.specs.declared.inst.Inst.{Inst}
use Rattle.spv_module.specs.declared.tree.Elem.{Elem}
use Rattle.spv_module.specs.declared.tree.Length.{Length}
use Rattle.spv_types.specs.declared.kind.TypeKind.{TypeKind}
use Rattle.spv_types.specs.declared.kind.TypeKind.TheVariants as kinds
use Rattle.spv_types.specs.Tree as plain
use Rattle.spv_types.specs.Tree.{Tree}
use Rattle.spv_types.specs.Types.{is_shapeless, kind, elem_of, sized_vector, vector_tree, tree_by_kind, tree_before, tree_at, type_tree}
use Rattle.profile_rules.specs.TypeRows.{is_type}
use Rattle.conformance.specs.Rules.{Options}
use Rattle.name_alloc.specs.Naming.{name_of}
use Rattle.glsl_ast.specs.Tree.{TranslationUnit}
use Rattle.glsl_grammar.specs.Read.{is_declared}
use Rattle.text_rules.specs.Declarations.{length_extent, spelling, type_at}
use Rattle.text_rules.specs.Outlines.{basic_of, outline_by, outline_before, outline_at, outline}
use Rattle.text_rules.specs.Printed.{has_struct, is_written_struct}
use Rattle.text_rules.specs.Types.{type_text}
use Rattle.function_text.specs.Live.{is_composite_type, is_composite}
use Rattle.unit_rules.specs.Translation.{id_text, names_of}
use Rattle.unit_rules.specs.Unit.{source_of, IsUnitOf}
use Rattle.list_law.proofs.Tests.{clash}
use Rattle.claim_law.specs.Uses.{Words, UsesExtent, UsesType}
use Rattle.typed_law.specs.Conforms.{IsConforming}
use Rattle.typed_law.proofs.Types.{type_shaped}
use Rattle.claim_law.specs.Claimed.{IsIn}
use Rattle.grammar_law.specs.Types.{IsLengthOf}
use Rattle.grammar_law.specs.Words.{words_of}
use Rattle.grammar_law.proofs.Unit.Structs.{HasNames, named_type_uses}
use Rattle.grammar_law.proofs.Meets.OperandNames.{array_composite, runtime_composite, struct_composite}
use Rattle.grammar_law.proofs.Grammar.Held.{Written}

-- opcodes
pub kind_type : (o : Op) → is_type_op o ≡ false → kind o ≡ kinds.Other
unfolding kind
kind_type code.TypeBool off = cc
kind_type o off = cc

shapeless_kind : (o : Op) → is_shapeless o ≡ true → kind o ≡ kinds.Other
unfolding kind
shapeless_kind code.TypeVoid on = refl
shapeless_kind o on = cc

-- scalars and vectors have no struct in them
module _ (gs : List Inst) (g : Inst) (off : is_composite_type g.op ≡ false) (n : ℕ) where
  clash_of : {A : Type 0} → is_composite_type g.op ≡ true → A
  clash_of on = clash (sym on ∙ off)

  vector_flat : (q : Option Tree) (k : ℕ) (t : Tree) → vector_tree q k ≡ Some t → has_struct n t ≡ false
  vector_flat None k t e = cc
  vector_flat (Some u) k t e = by_elem (elem_of u) e
    where
      by_size : (d : Elem) (a b : Bool) → (if a && b then Some (plain.vector d k) else None) ≡ Some t → has_struct n t ≡ false
      by_size d true true e = ap (has_struct n) (sym (same_Some (plain.vector d k) t e))
      by_size d true false e = cc
      by_size d false b e = cc

      by_elem : (q : Option Elem) → option_map_or (sized_vector k) q None ≡ Some t → has_struct n t ≡ false
      by_elem None e = cc
      by_elem (Some d) e = by_size d (nat_le 2 k) (nat_le k 4) e

  int_flat : (w a b : Bool) (t : Tree) → (if w then (if a then Some plain.uint else (if b then Some plain.int else None)) else None) ≡ Some t → has_struct n t ≡ false
  int_flat true true b t e = ap (has_struct n) (sym (same_Some plain.uint t e))
  int_flat true false true t e = ap (has_struct n) (sym (same_Some plain.int t e))
  int_flat true false false t e = cc
  int_flat false a b t e = cc

  kind_flat : (k : TypeKind) (t : Tree) → kind g.op ≡ k → tree_by_kind gs (tree_before gs g.at) g k ≡ Some t → has_struct n t ≡ false
  kind_flat kinds.Bool t on e = ap (has_struct n) (sym (same_Some plain.boolean t e))
  kind_flat kinds.Int t on e = int_flat (slice_index g.args 0 == 32) (slice_index g.args 1 == 0) (slice_index g.args 1 == 1) t e
  kind_flat kinds.Vector t on e = vector_flat (tree_before gs g.at (slice_index g.args 0)) (slice_index g.args 1) t e
  kind_flat kinds.Array t on e = clash_of (array_composite g.op on)
  kind_flat kinds.Runtime t on e = clash_of (runtime_composite g.op on)
  kind_flat kinds.Struct t on e = clash_of (struct_composite g.op on)
  kind_flat kinds.Other t on e = cc

  pub tree_flat : (t : Tree) → tree_at gs g ≡ Some t → has_struct n t ≡ false
  tree_flat t e = kind_flat (kind g.op) t refl e

module _ (m : ModuleState) (entry : Option (List ℕ)) (right : IsConforming m entry) (o : Options) (unit : TranslationUnit) (u : IsUnitOf m o unit) (names : List (List ℕ))
    (declared : (g : Inst) → IsIn g m.globals → is_written_struct (source_of m o u.entry) (Written m entry right o unit u) g ≡ true → is_declared names (id_text (name_of u.claimed) g.result) ≡ true)
    (lengths : (l : Length) → IsLengthOf m.globals l → UsesExtent (words_of m.globals (name_of u.claimed) names) (length_extent (source_of m o u.entry) (id_text (name_of u.claimed)) l)) where
  abbrev W : Words
  W = words_of m.globals (name_of u.claimed) names

  -- what is named as uint
  plain_uses : (ty : ℕ) → outline m.globals ty ≡ plain.uint → UsesType W (type_at (source_of m o u.entry) (names_of (name_of u.claimed)) ty)
  plain_uses ty is_it = subst (λ (t : Tree). UsesType W (type_text (spelling (source_of m o u.entry) (id_text (name_of u.claimed))) t)) (sym is_it) (tt, tt)

  -- the law
  pub any_type_uses : (ty : ℕ) → ((g : Inst) (t : Tree) → global m.globals ty ≡ Some g → type_tree m.globals ty ≡ Some t → HasNames m o unit u t) → UsesType W (type_at (source_of m o u.entry) (names_of (name_of u.claimed)) ty)
  any_type_uses ty has = by_global (global m.globals ty) refl
    where
      basic : (g : Inst) → kind g.op ≡ kinds.Other → outline_at m.globals g ≡ plain.uint
      basic g other =
          ap (outline_by m.globals (outline_before m.globals g.at) g) other
          ∙ ap basic_of (ap (tree_by_kind m.globals (tree_before m.globals g.at) g) other)

      by_shapeless : (g : Inst) → global m.globals ty ≡ Some g → is_type g ≡ true → (b : Bool) → is_shapeless g.op ≡ b → UsesType W (type_at (source_of m o u.entry) (names_of (name_of u.claimed)) ty)
      by_shapeless g at typed true none = plain_uses ty (ap (λ (q : Option Inst). option_map_or (outline_at m.globals) q plain.uint) at ∙ basic g (shapeless_kind g.op none))
      by_shapeless g at typed false some =
          let t = type_shaped m entry right ty g at typed some in
          named_type_uses m o unit u names declared lengths ty t.0 t.1 (has g t.0 at t.1)

      by_type : (g : Inst) → global m.globals ty ≡ Some g → (b : Bool) → is_type g ≡ b → UsesType W (type_at (source_of m o u.entry) (names_of (name_of u.claimed)) ty)
      by_type g at true typed = by_shapeless g at typed (is_shapeless g.op) refl
      by_type g at false other = plain_uses ty (ap (λ (q : Option Inst). option_map_or (outline_at m.globals) q plain.uint) at ∙ basic g (kind_type g.op other))

      by_global : (q : Option Inst) → global m.globals ty ≡ q → UsesType W (type_at (source_of m o u.entry) (names_of (name_of u.claimed)) ty)
      by_global None at = plain_uses ty (ap (λ (q : Option Inst). option_map_or (outline_at m.globals) q plain.uint) at)
      by_global (Some g) at = by_type g at (is_type g) refl

  -- of scalars and vectors
  pub flat_has : (ty : ℕ) → is_composite m.globals ty ≡ false → (g : Inst) (t : Tree) → global m.globals ty ≡ Some g → type_tree m.globals ty ≡ Some t → HasNames m o unit u t
  flat_has ty off g t at shaped n there = clash (sym there ∙ tree_flat m.globals g (sym (ap (λ (q : Option Inst). option_map_or (λ (x : Inst). is_composite_type x.op) q false) at) ∙ off) n t (sym (ap (λ (q : Option Inst). option_map_or (tree_at m.globals) q None) at) ∙ shaped))
