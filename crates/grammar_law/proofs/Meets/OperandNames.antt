-- The structs in the type of a value of a block are written, and so they and their members have names.
use Rattle.std.proofs.Common.{◌≡◌, ◌==◌, ◌&&◌, not, ℕ, Bool, true, false, List, [], ◌∷◌, ◌++◌, map, Option, Some, None, find, unwrap_or, option_map, inl, inr, refl, sym, ap, ◌∙◌, subst, if◌then◌else◌}
use Rattle.std.specs.Prelude.{◌⊎◌, flat_map, nat_le, slice_get, slice_index, slice_index_or, option_and_then}
use Rattle.std.specs.Option.{option_map_or, option_or}
use Rattle.std.proofs.lemmas.Bool.{or_left, or_right}
use Rattle.std.proofs.lemmas.Option.{same_Some}
use Rattle.spv_ops.specs.Opcode.{is}
use Rattle.spv_ops.specs.Groups.{is_constant as is_constant_op}
use Rattle.spv_ops.specs.declared.Op.{Op}
use Rattle.spv_ops.specs.declared.Op.TheVariants as code
use Rattle.spv_module.specs.Held.{global}
use Rattle.spv_module.specs.declared.inst.Id.{Id as IdOf}
use Rattle.spv_module.specs.declared.inst.Inst.{Inst}
use Rattle.spv_module.specs.declared.inst.Block.{Block}
use Rattle.spv_module.specs.declared.inst.Function.{Function}
use Rattle.spv_module.specs.declared.tree.Elem.{Elem}
use Rattle.spv_module.specs.declared.tree.Length.{Length}
use Rattle.spv_types.specs.declared.kind.TypeKind.{TypeKind}
use Rattle.spv_types.specs.declared.kind.TypeKind.TheVariants as kinds
use Rattle.spv_types.specs.Tree.{Tree, boolean, int, uint, vector}
use Rattle.spv_types.specs.Types.{kind, elem_of, sized_vector, vector_tree, tree_by_kind, tree_before, tree_at, type_tree}
use Rattle.spv_decor.specs.Decorations.{local_insts}
use Rattle.spv_index.specs.Locals.{insts_of, inst_in, parameter_in, typed, global_type, local_type, type_in}
use Rattle.spv_index.specs.BlockStructs.{is_some_block}
use Rattle.profile_rules.specs.Places.{is_among}
use Rattle.profile_rules.specs.TypeForm.{parts_of, pointees, signature, value_types, signature_types, block_misuses}
use Rattle.conformance.specs.Rules.{Options}
use Rattle.list_law.proofs.Numbers.{number_same}
use Rattle.list_law.proofs.Tests.{off_on}
use Rattle.list_law.proofs.Options.{none_some}
use Rattle.plan_law.proofs.Order.{among_left as insts_left}
use Rattle.module_semantics.specs.Setting.{Setting}
use Rattle.hoist_plan.specs.declared.form.Form.TheVariants.{Forwarded, Local}
use Rattle.name_alloc.specs.Naming.{name_of}
use Rattle.glsl_ast.specs.Tree.{TranslationUnit}
use Rattle.glsl_grammar.specs.Read.{is_declared}
use Rattle.text_rules.specs.Printed.{has_struct, is_written_variable, is_declared_constant, is_written_struct}
use Rattle.text_rules.specs.Declarations.{length_extent}
use Rattle.expr_forward.specs.Scope.{Scope, type_of}
use Rattle.function_plan.specs.Phis.{is_gone}
use Rattle.function_text.specs.Live.{is_composite_type, is_composite}
use Rattle.function_text.specs.Functions.{FunctionPlan}
use Rattle.unit_rules.specs.Translation.{id_text}
use Rattle.unit_rules.specs.Unit.{claims_by, source_of, IsUnitOf}
use Rattle.claim_law.specs.Uses.{UsesExtent}
use Rattle.typed_law.specs.Conforms.{IsConforming}
use Rattle.typed_law.proofs.Lists.{some_part}
use Rattle.typed_law.proofs.Used.{among_left, among_right as ids_right}
use Rattle.typed_law.proofs.Values.{inside, typed_result, has_a_type, global_row, variable_type_is}
use Rattle.global_law.proofs.Constant.Within.{constant_no_variable, value_misused}
use Rattle.claim_law.specs.Claimed.{IsIn, IsOf}
use Rattle.claim_law.proofs.Claim.Constants.{found_in}
use Rattle.grammar_law.specs.Mentioned.{IsMentioned, Stands, IsValueIn}
use Rattle.grammar_law.specs.Words.{words_of, AreOfStructs}
use Rattle.grammar_law.specs.Types.{IsLengthOf}
use Rattle.grammar_law.proofs.Unit.Lists.{found_by, of_contained, as_among}
use Rattle.grammar_law.proofs.Unit.Shaped.{pointer_none, shaped_value}
use Rattle.grammar_law.proofs.Unit.Ways.{HaveKinds, S, F, R, V, plan_is, written_is, in_module, own_type_of, mapped_some, stands, home, counts_here}
use Rattle.grammar_law.proofs.Unit.Free.{misused_free}
use Rattle.grammar_law.proofs.Unit.Structs.{Written, HasNames, written_names}
use Rattle.grammar_law.proofs.Unit.TypesWritten.{global_type_written, parameter_type_written, top_type_written}
use Rattle.grammar_law.proofs.Unit.ValueNames.{no_pointer, result_names}
use Rattle.grammar_law.proofs.Unit.Sets.{names_there}

-- a type that has a struct in it is a composite
pub array_composite : (o : Op) → kind o ≡ kinds.Array → is_composite_type o ≡ true
unfolding kind
array_composite code.TypeArray on = refl
array_composite o on = cc

pub runtime_composite : (o : Op) → kind o ≡ kinds.Runtime → is_composite_type o ≡ true
unfolding kind
runtime_composite code.TypeRuntimeArray on = refl
runtime_composite o on = cc

pub struct_composite : (o : Op) → kind o ≡ kinds.Struct → is_composite_type o ≡ true
unfolding kind
struct_composite code.TypeStruct on = refl
struct_composite o on = cc

module _ (gs : List Inst) (g : Inst) (t : Tree) (n : ℕ) (has : has_struct n t ≡ true) where
  no_int : (a b c : Bool) → (if a then (if b then Some uint else (if c then Some int else None)) else None) ≡ Some t → false ≡ true
  no_int true true c is_it = ap (has_struct n) (same_Some uint t is_it) ∙ has
  no_int true false true is_it = ap (has_struct n) (same_Some int t is_it) ∙ has
  no_int true false false is_it = cc
  no_int false b c is_it = cc

  no_vector : (o : Option Tree) (k : ℕ) → vector_tree o k ≡ Some t → false ≡ true
  no_vector None k is_it = cc
  no_vector (Some v) k is_it = by_elem (elem_of v) is_it
    where
      by_size : (e : Elem) (a b : Bool) → (if a && b then Some (vector e k) else None) ≡ Some t → false ≡ true
      by_size e true true is_it = ap (has_struct n) (same_Some (vector e k) t is_it) ∙ has
      by_size e true false is_it = cc
      by_size e false b is_it = cc

      by_elem : (q : Option Elem) → option_map_or (sized_vector k) q None ≡ Some t → false ≡ true
      by_elem None is_it = cc
      by_elem (Some e) is_it = by_size e (nat_le 2 k) (nat_le k 4) is_it

  kind_composite : (k : TypeKind) → kind g.op ≡ k → tree_by_kind gs (tree_before gs g.at) g k ≡ Some t → is_composite_type g.op ≡ true
  kind_composite kinds.Bool on is_it = off_on (ap (has_struct n) (same_Some boolean t is_it) ∙ has)
  kind_composite kinds.Int on is_it = off_on (no_int (slice_index g.args 0 == 32) (slice_index g.args 1 == 0) (slice_index g.args 1 == 1) is_it)
  kind_composite kinds.Vector on is_it = off_on (no_vector (tree_before gs g.at (slice_index g.args 0)) (slice_index g.args 1) is_it)
  kind_composite kinds.Array on is_it = array_composite g.op on
  kind_composite kinds.Runtime on is_it = runtime_composite g.op on
  kind_composite kinds.Struct on is_it = struct_composite g.op on
  kind_composite kinds.Other on is_it = cc

pub composite_of : (gs : List Inst) (ty : ℕ) (t : Tree) (n : ℕ) → type_tree gs ty ≡ Some t → has_struct n t ≡ true → is_composite gs ty ≡ true
composite_of gs ty t n shaped has = by_global (global gs ty) refl shaped
  where
    by_global : (q : Option Inst) → global gs ty ≡ q → option_map_or (tree_at gs) q None ≡ Some t → is_composite gs ty ≡ true
    by_global None at is_it = cc
    by_global (Some g) at is_it = ap (λ (q : Option Inst). option_map_or (λ (h : Inst). is_composite_type h.op) q false) at ∙ kind_composite gs g t n has (kind g.op) refl is_it

-- types of parameters
in_signature : (fs : List Function) (f : Function) (ty : ℕ) → IsIn f fs → is_among (signature f) ty ≡ true → is_among (flat_map signature fs) ty ≡ true
in_signature [] f ty there own = absurd there
in_signature (g ∷ fs) f ty (inl same) own = among_left (signature g) (flat_map signature fs) ty (subst (λ (h : Function). is_among (signature h) ty ≡ true) (sym same) own)
in_signature (g ∷ fs) f ty (inr there) own = ids_right (signature g) (flat_map signature fs) ty (in_signature fs f ty there own)

parameter_type : (ps : List (IdOf × IdOf)) (q : IdOf × IdOf) → IsIn q ps → is_among (map (λ (r : IdOf × IdOf). r.1.0) ps) q.1.0 ≡ true
parameter_type [] q there = absurd there
parameter_type (r ∷ ps) q (inl same) = or_left (r.1.0 == q.1.0) (is_among (map (λ (x : IdOf × IdOf). x.1.0) ps) q.1.0) (number_same r.1.0 q.1.0 (ap (λ (x : IdOf × IdOf). x.1.0) same))
parameter_type (r ∷ ps) q (inr there) = or_right (r.1.0 == q.1.0) (is_among (map (λ (x : IdOf × IdOf). x.1.0) ps) q.1.0) (parameter_type ps q there)

module _ (s : Setting) (entry : Option (List ℕ)) (right : IsConforming s.of entry) (kinds_of : HaveKinds s.of.globals) (o : Options) (unit : TranslationUnit) (u : IsUnitOf s.of o unit) (p : FunctionPlan) (among : IsIn p u.plans) (names : List (List ℕ)) (structs : AreOfStructs s.of.globals (name_of u.claimed) names)
    (declared : (g : Inst) → IsIn g s.of.globals → is_written_struct (source_of s.of o u.entry) (Written s.of o unit u) g ≡ true → is_declared names (id_text (name_of u.claimed) g.result) ≡ true)
    (lengths : (l : Length) → IsLengthOf s.of.globals l → UsesExtent (words_of s.of.globals (name_of u.claimed) names) (length_extent (source_of s.of o u.entry) (id_text (name_of u.claimed)) l)) where
  abbrev Gs : List Inst
  Gs = s.of.globals

  abbrev Fn : Function
  Fn = F s entry right kinds_of o unit u p among

  abbrev Marks : List Bool
  Marks = R s entry right kinds_of o unit u p among

  abbrev Where : Scope
  Where = V s entry right kinds_of o unit u p among

  abbrev Here : Tree → Type 0
  Here = HasNames s.of o unit u

  -- of a parameter
  parameter_names : (q : IdOf × IdOf) → IsIn q Fn.params → (v : Tree) → type_tree Gs q.1.0 ≡ Some v → Here v
  parameter_names q there v shaped =
      let own : is_among (signature Fn) q.1.0 ≡ true = or_right (Fn.result.0 == q.1.0) (is_among (map (λ (r : IdOf × IdOf). r.1.0) Fn.params) q.1.0) (parameter_type Fn.params q there) in
      let misused : is_among (block_misuses s.of) q.1.0 ≡ true =
      ids_right (flat_map parts_of Gs ++ pointees s.of (λ v. not (is_some_block s.of.heads Gs v)) ++ value_types s.of) (signature_types s.of) q.1.0 (in_signature s.of.functions Fn q.1.0 (of_contained s.of.functions Fn (in_module s entry right kinds_of o unit u p among)) own) in
      written_names s.of o unit u entry right q.1.0 q.1.0 v
      (parameter_type_written s.of o unit u p among q (subst (λ (f : Function). IsIn q f.params) (sym (written_is s entry right kinds_of o unit u p among)) there))
      (no_pointer Gs q.1.0 v shaped) shaped (misused_free s.of entry right q.1.0 v misused shaped)

  -- of a constant that is declared
  constant_names : (g : Inst) → IsIn g Gs → is_constant_op g.op ≡ true → is_declared_constant (source_of s.of o u.entry) (Written s.of o unit u) g ≡ true → (v : Tree) → type_tree Gs g.ty ≡ Some v → Here v
  constant_names g there constant written_so v shaped =
      let body = insts_left g Gs (local_insts s.of) (as_among Gs g there) in
      let misused = value_misused s.of entry right g body (constant_no_variable g.op constant) in
      written_names s.of o unit u entry right g.ty g.ty v
      (global_type_written s.of o unit u g there (or_right (is_written_variable (Written s.of o unit u) g) (is_declared_constant (source_of s.of o u.entry) (Written s.of o unit u) g) written_so))
      (no_pointer Gs g.ty v shaped) shaped (misused_free s.of entry right g.ty v misused shaped)

  -- of what an instruction makes
  module _ (b n : ℕ) (i j : Inst) (m : IsMentioned Fn Marks b i n) (no_phi : is i.op code.Phi ≡ false) (made : inst_in Fn n ≡ Some j) (some : j.ty ≡ 0 → ⊥) (v : Tree) (shaped : type_tree Gs j.ty ≡ Some v) where
    found : IsIn j (insts_of Fn) × (j.result ≡ n)
    found = found_in (insts_of Fn) n j made

    abbrev at_home : (c : ℕ) × (holder : Block) × (slice_get Fn.blocks c ≡ Some holder) × IsIn j holder.insts
    at_home = home s entry right kinds_of o unit u p among b n i j m b (counts_here s entry right kinds_of o unit u p among b i n m no_phi) made some (shaped_value Gs j.ty v shaped)

    made_some : j.result ≡ 0 → ⊥
    made_some =
        let formed = (inside s entry right Fn (in_module s entry right kinds_of o unit u p among)).formed j (as_among (insts_of Fn) j found.0) in
        formed.result (typed_result j.op (has_a_type j formed some))

    of_it : IsOf (claims_by (S s entry right kinds_of o unit u p among) p) j
    of_it = record { number = at_home.0; block = at_home.1; there = subst (λ (f : Function). slice_get f.blocks at_home.0 ≡ Some at_home.1) (sym (written_is s entry right kinds_of o unit u p among)) at_home.2; among = at_home.3 }

    by_stands : Stands (Where.form n) at_home.0 b → Here v
    by_stands (inl top) k has =
        result_names s entry right kinds_of o unit u p among j found.0 some v shaped
        (top_type_written s.of o unit u p among j of_it (ap (λ (w : Scope). w.form j.result) (plan_is s entry right kinds_of o unit u p among).scope_is ∙ (ap Where.form found.1 ∙ top)) (composite_of Gs j.ty v k shaped has)) k has
    by_stands (inr own) k has =
        names_there s entry right kinds_of o unit u p among names structs at_home.0 at_home.1 j at_home.2 at_home.3 made_some (ap (λ (c : ℕ). slice_index_or Marks c false) own.1 ∙ m.here) some v shaped declared lengths (Where.form j.result) refl (not_gone own.0) k has
      where
        not_gone : (Where.form n ≡ Local) ⊎ (Where.form n ≡ Forwarded) → is_gone (Where.form j.result) ≡ false
        not_gone (inl local) = ap is_gone (ap Where.form found.1 ∙ local)
        not_gone (inr forwarded) = ap is_gone (ap Where.form found.1 ∙ forwarded)

    inst_names : Here v
    inst_names = by_stands (stands s entry right kinds_of o unit u p among b n i j m b (counts_here s entry right kinds_of o unit u p among b i n m no_phi) made some (shaped_value Gs j.ty v shaped))

  -- of a value of a block, where constants that are read so are declared, or have no structs
  module _ (constants : (n : ℕ) (g : Inst) → IsIn n (Written s.of o unit u).mentions → global s.of.globals n ≡ Some g → is_constant_op g.op ≡ true → (v : Tree) → type_tree s.of.globals g.ty ≡ Some v
      → (is_declared_constant (source_of s.of o u.entry) (Written s.of o unit u) g ≡ true) ⊎ ((k : ℕ) → has_struct k v ≡ true → ⊥))
      (mentioned : (b n : ℕ) (i : Inst) → IsMentioned Fn Marks b i n → IsIn n (Written s.of o unit u).mentions) where
    pub operand_names : (b n : ℕ) (v : Tree) → IsValueIn Where Marks b n → type_tree Gs (type_of Where n) ≡ Some v → Here v
    operand_names b n v value shaped = by_type (type_in Gs Fn n) refl shaped
      where
        by_constant : (g : Inst) → IsIn g Gs → global Gs n ≡ Some g → is_constant_op g.op ≡ true → type_tree Gs g.ty ≡ Some v → Here v
        by_constant g there held constant at = elim (constants n g (mentioned b n value.user value.mentioned) held constant v at) [
          | inl written_so ↦ constant_names g there constant written_so v at
          | inr structless ↦ (λ k has. absurd (structless k has))
        ]

        by_kind : (g : Inst) → IsIn g Gs → global Gs n ≡ Some g → (g.ty ≡ 0 → ⊥) → type_tree Gs g.ty ≡ Some v → (is_constant_op g.op ≡ true) ⊎ (is g.op code.Variable ≡ true) → Here v
        by_kind g there held some at (inl constant) = by_constant g there held constant at
        by_kind g there held some at (inr variable) =
            let row = global_row s entry right g (as_among Gs g there) some in
            absurd (pointer_none Gs row.0 v (variable_type_is g.op row.0 variable row.2) (ap (λ x. option_map_or (tree_at Gs) x None) (sym row.1) ∙ at))

        by_inst : (ty : ℕ) → option_and_then typed (inst_in Fn n) ≡ Some ty → type_tree Gs ty ≡ Some v → Here v
        by_inst ty is_it at =
            let j = some_part typed (inst_in Fn n) ty is_it in
            let own = own_type_of j.0 ty j.2 in
            inst_names b n value.user j.0 value.mentioned value.no_phi j.1 own.1 v (ap (type_tree Gs) own.0 ∙ at)

        by_local : (x : Option ℕ) → parameter_in Fn n ≡ x → (ty : ℕ) → option_or x (option_and_then typed (inst_in Fn n)) ≡ Some ty → type_tree Gs ty ≡ Some v → Here v
        by_local None made ty is_it at = by_inst ty is_it at
        by_local (Some y) made ty is_it at =
            let q = mapped_some (λ (r : IdOf × IdOf). r.1.0) (find (λ (r : IdOf × IdOf). r.0.0 == n) Fn.params) y made in
            let w = found_by (λ (r : IdOf × IdOf). r.0.0 == n) Fn.params q.0 q.1 in
            let same : q.0.1.0 ≡ ty = same_Some q.0.1.0 y (ap (option_map (λ (r : IdOf × IdOf). r.1.0)) (sym q.1) ∙ made) ∙ same_Some y ty is_it in
            parameter_names q.0 w.0 v (ap (type_tree Gs) same ∙ at)

        by_global : (x : Option ℕ) → global_type Gs n ≡ x → (ty : ℕ) → option_or x (local_type Fn n) ≡ Some ty → type_tree Gs ty ≡ Some v → Here v
        by_global None told ty is_it at = by_local (parameter_in Fn n) refl ty is_it at
        by_global (Some y) told ty is_it at =
            let g = some_part typed (global Gs n) y told in
            let own = own_type_of g.0 y g.2 in
            let there = found_in Gs n g.0 g.1 in
            by_kind g.0 there.0 g.1 own.1 (ap (type_tree Gs) (own.0 ∙ same_Some y ty is_it) ∙ at) (kinds_of g.0 there.0 own.1)

        by_type : (x : Option ℕ) → type_in Gs Fn n ≡ x → type_tree Gs (unwrap_or x 0) ≡ Some v → Here v
        by_type None told at = none_some (sym (ap (λ x. option_map_or (tree_at Gs) x None) right.results.none) ∙ at)
        by_type (Some ty) told at = by_global (global_type Gs n) refl ty told at
