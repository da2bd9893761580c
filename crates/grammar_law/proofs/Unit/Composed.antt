-- Composites and vectors that are put together ask for words that are declared.
use Rattle.std.proofs.Common.{◌≡◌, ◌&&◌, ◌||◌, ◌+◌, not, ℕ, Bool, true, false, List, drop, Option, Some, refl, ap}
use Rattle.std.specs.Prelude.{slice_get, slice_index, slice_index_or}
use Rattle.std.proofs.lemmas.Bool.{and_from}
use Rattle.spv_ops.specs.Opcode.{is, number}
use Rattle.spv_ops.specs.OpGroups.{takes_of, group_of}
use Rattle.spv_ops.specs.Operands.{is_id}
use Rattle.spv_ops.specs.declared.Op.{Op}
use Rattle.spv_ops.specs.declared.Op.TheVariants as code
use Rattle.spv_module.specs.declared.inst.Inst.{Inst}
use Rattle.spv_module.specs.declared.inst.Block.{Block}
use Rattle.spv_module.specs.declared.inst.Function.{Function}
use Rattle.spv_module.specs.declared.tree.Length.{Length}
use Rattle.spv_types.specs.Tree.{Tree}
use Rattle.spv_types.specs.Types.{type_tree}
use Rattle.spv_index.specs.Locals.{type_in}
use Rattle.conformance.specs.Rules.{Options}
use Rattle.module_semantics.specs.Setting.{Setting}
use Rattle.use_chains.specs.Slots.{inst_at, is_value, is_taken, is_label_reached, IsLive}
use Rattle.hoist_plan.specs.Plan.{is_always_named}
use Rattle.name_alloc.specs.Naming.{name_of}
use Rattle.glsl_ast.specs.Tree.{TranslationUnit}
use Rattle.expr_forward.specs.Scope.{Scope}
use Rattle.expr_forward.specs.declared.kinds.InstKind.TheVariants as kind
use Rattle.function_plan.specs.Phis.{is_gone}
use Rattle.function_text.specs.Functions.{FunctionPlan}
use Rattle.unit_rules.specs.Translation.{Naming, id_text}
use Rattle.unit_rules.specs.Unit.{source_of, IsUnitOf}
use Rattle.glsl_grammar.specs.Read.{is_declared}
use Rattle.text_rules.specs.Printed.{is_written_struct}
use Rattle.text_rules.specs.Declarations.{length_extent}
use Rattle.fits_law.specs.State.{value_shape}
use Rattle.fits_law.specs.Takes.{shape_at}
use Rattle.claim_law.specs.Blocks.{FitWords}
use Rattle.claim_law.specs.Uses.{Words, UsesExtent}
use Rattle.claim_law.specs.Statements.{MeetsInst}
use Rattle.typed_law.specs.Conforms.{IsConforming}
use Rattle.claim_law.specs.Claimed.{IsIn}
use Rattle.grammar_law.specs.Mentioned.{IsValueIn}
use Rattle.grammar_law.specs.Words.{words_of, AreOfStructs}
use Rattle.grammar_law.specs.Types.{IsLengthOf}
use Rattle.grammar_law.proofs.Unit.Shaped.{shaped_value}
use Rattle.grammar_law.proofs.Unit.Ways.{HaveKinds, F, R, V}
use Rattle.grammar_law.proofs.Unit.Parts.{steps_use}
use Rattle.grammar_law.proofs.Unit.Structs.{Written, HasNames}
use Rattle.grammar_law.proofs.Unit.Sets.{names_there, set_asked}
use Rattle.grammar_law.proofs.Unit.Kept.{shaped_type}
use Rattle.grammar_law.proofs.Unit.Carried.{always_text}

-- what is put together, and with what, are values that are mentioned
insert_id : (o : Op) (args : List ℕ) → is o code.CompositeInsert ≡ true → (is_id o args 0 ≡ true) × (is_id o args 1 ≡ true)
unfolding is_id number
insert_id code.CompositeInsert args on = (refl, refl)
insert_id o args on = cc

insert_value : (o : Op) → is o code.CompositeInsert ≡ true → (is_value o 0 ≡ true) × (is_value o 1 ≡ true)
unfolding takes_of group_of number
insert_value code.CompositeInsert on = (refl, refl)
insert_value o on = cc

insert_named : (o : Op) → is o code.CompositeInsert ≡ true → is_always_named o ≡ true
unfolding number
insert_named code.CompositeInsert on = refl
insert_named o on = cc

insert_no_phi : (o : Op) → is o code.CompositeInsert ≡ true → is o code.Phi ≡ false
unfolding number
insert_no_phi code.CompositeInsert on = refl
insert_no_phi o on = cc

put_id : (o : Op) (args : List ℕ) → is o code.VectorInsertDynamic ≡ true → (is_id o args 0 ≡ true) × (is_id o args 1 ≡ true) × (is_id o args 2 ≡ true)
unfolding is_id number
put_id code.VectorInsertDynamic args on = (refl, refl, refl)
put_id o args on = cc

put_value : (o : Op) → is o code.VectorInsertDynamic ≡ true → (is_value o 0 ≡ true) × (is_value o 1 ≡ true) × (is_value o 2 ≡ true)
unfolding takes_of group_of number
put_value code.VectorInsertDynamic on = (refl, refl, refl)
put_value o on = cc

put_named : (o : Op) → is o code.VectorInsertDynamic ≡ true → is_always_named o ≡ true
unfolding number
put_named code.VectorInsertDynamic on = refl
put_named o on = cc

put_no_phi : (o : Op) → is o code.VectorInsertDynamic ≡ true → is o code.Phi ≡ false
unfolding number
put_no_phi code.VectorInsertDynamic on = refl
put_no_phi o on = cc

module _ (s : Setting) (entry : Option (List ℕ)) (right : IsConforming s.of entry) (kinds : HaveKinds s.of.globals) (o : Options) (unit : TranslationUnit) (u : IsUnitOf s.of o unit) (p : FunctionPlan) (among : IsIn p u.plans) (names : List (List ℕ)) (structs : AreOfStructs s.of.globals (name_of u.claimed) names) where
  abbrev Gs : List Inst
  Gs = s.of.globals

  abbrev Found : Naming
  Found = name_of u.claimed

  abbrev Fn : Function
  Fn = F s entry right kinds o unit u p among

  abbrev Marks : List Bool
  Marks = R s entry right kinds o unit u p among

  abbrev Where : Scope
  Where = V s entry right kinds o unit u p among

  abbrev W : Words
  W = words_of s.of.globals (name_of u.claimed) names

  module _ (block place : ℕ) (i : Inst) (at : inst_at Fn block place ≡ Some i) (here : slice_index_or Marks block false ≡ true) (live : IsLive Fn Marks block place) where
    -- an operand with a shape that is mentioned as a value
    pub operand_value : (k n : ℕ) (t : Tree) → is_id i.op i.args k ≡ true → is_value i.op k ≡ true → is i.op code.Phi ≡ false → slice_get i.args k ≡ Some n → value_shape s Fn n ≡ Some t → IsValueIn Where Marks block n
    operand_value k n t names_id value no_phi arg shaped = record {
      user = i;
      mentioned = record {
        place = place;
        arg = k;
        there = at;
        here = here;
        live = live;
        slot = and_from (is_id i.op i.args k) (is_value i.op k && is_taken Fn Marks i k) names_id
            (and_from (is_value i.op k) (is_taken Fn Marks i k) value (ap (λ (b : Bool). not b || is_label_reached Fn Marks (slice_index i.args (k + 1))) no_phi));
        word = arg;
      };
      no_phi = no_phi;
      shape = t;
      shaped = shaped_type (type_tree Gs) (type_in Gs Fn n) t shaped;
    }

    module _ (holder : Block) (there : slice_get Fn.blocks block ≡ Some holder) (inside : IsIn i holder.insts) (some : i.result ≡ 0 → ⊥) (typed : i.ty ≡ 0 → ⊥) (t : Tree) (shaped : type_tree s.of.globals i.ty ≡ Some t) (kept : is_gone (Where.form i.result) ≡ false)
        (declared : (g : Inst) → IsIn g s.of.globals → is_written_struct (source_of s.of o u.entry) (Written s.of o unit u) g ≡ true → is_declared names (id_text (name_of u.claimed) g.result) ≡ true)
        (lengths : (l : Length) → IsLengthOf s.of.globals l → UsesExtent (words_of s.of.globals (name_of u.claimed) names) (length_extent (source_of s.of o u.entry) (id_text (name_of u.claimed)) l)) where
      has_names : HasNames s.of o unit u t
      has_names = names_there s entry right kinds o unit u p among names structs block holder i there inside some here typed t shaped declared lengths (Where.form i.result) refl kept

      -- a composite with another part, where the shapes are those of T11
      pub insert_meets : (v : Tree) → is i.op code.CompositeInsert ≡ true → slice_get i.args 0 ≡ Some (slice_index i.args 0) → slice_get i.args 1 ≡ Some (slice_index i.args 1) → value_shape s Fn (slice_index i.args 0) ≡ Some v → value_shape s Fn (slice_index i.args 1) ≡ Some t → FitWords (drop 2 i.args) → shape_at t (drop 2 i.args) ≡ Some v
          → MeetsInst W Found Where (IsValueIn Where Marks block) block i kind.CompositeInsert
      insert_meets v on first second part whole fit is_it = (
        set_asked s entry right kinds o unit u p among names structs block holder i there inside some here typed t shaped declared lengths (Where.form i.result) refl,
        always_text s entry right kinds o unit u p among block holder i there inside some names structs (shaped_value Gs i.ty t shaped) (insert_named i.op on) kept here,
        operand_value 1 (slice_index i.args 1) t (insert_id i.op i.args on).1 (insert_value i.op on).1 (insert_no_phi i.op on) second whole,
        steps_use s entry right Fn o unit u names Where.setting.global (drop 2 i.args) i.ty t v shaped has_names fit is_it,
        operand_value 0 (slice_index i.args 0) v (insert_id i.op i.args on).0 (insert_value i.op on).0 (insert_no_phi i.op on) first part,
      )

      -- and a vector with another component, where the operands have shapes
      pub put_meets : (a b c : Tree) → is i.op code.VectorInsertDynamic ≡ true → slice_get i.args 0 ≡ Some (slice_index i.args 0) → slice_get i.args 1 ≡ Some (slice_index i.args 1) → slice_get i.args 2 ≡ Some (slice_index i.args 2)
          → value_shape s Fn (slice_index i.args 0) ≡ Some a → value_shape s Fn (slice_index i.args 1) ≡ Some b → value_shape s Fn (slice_index i.args 2) ≡ Some c → MeetsInst W Found Where (IsValueIn Where Marks block) block i kind.VectorInsertDynamic
      put_meets a b c on first second third one two three = (
        set_asked s entry right kinds o unit u p among names structs block holder i there inside some here typed t shaped declared lengths (Where.form i.result) refl,
        always_text s entry right kinds o unit u p among block holder i there inside some names structs (shaped_value Gs i.ty t shaped) (put_named i.op on) kept here,
        operand_value 0 (slice_index i.args 0) a (put_id i.op i.args on).0 (put_value i.op on).0 (put_no_phi i.op on) first one,
        operand_value 2 (slice_index i.args 2) c (put_id i.op i.args on).2 (put_value i.op on).2 (put_no_phi i.op on) third three,
        operand_value 1 (slice_index i.args 1) b (put_id i.op i.args on).1 (put_value i.op on).1 (put_no_phi i.op on) second two,
      )
