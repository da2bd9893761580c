-- The semantics of the barriers of an accepted module are the word of their constant: that is an OpConstant (A5) and an int (T25), so it is written as a literal.
use Rattle.std.proofs.Common.{◌≡◌, ◌<◌, ◌&&◌, ◌∙◌, ℕ, Bool, true, false, List, length, Contains, Option, Some, None, refl, sym, ap, arith, unwrap_or, if◌then◌else◌}
use Rattle.std.specs.Prelude.{is_some, option_and_then, slice_index}
use Rattle.std.specs.Option.{option_map_or, option_or}
use Rattle.std.specs.List.{list_any}
use Rattle.spv_ops.specs.OpGroups.{takes_of, group_of}
use Rattle.spv_ops.specs.Operands.{is_id}
use Rattle.spv_ops.specs.Shape.{shape}
use Rattle.spv_ops.specs.declared.Op.{Op}
use Rattle.spv_ops.specs.declared.Op.TheVariants as code
use Rattle.spv_module.specs.Held.{global}
use Rattle.spv_module.specs.Inst.{has_type}
use Rattle.spv_module.specs.declared.inst.Inst.{Inst}
use Rattle.spv_module.specs.declared.inst.Function.{Function}
use Rattle.spv_types.specs.Tree as plain
use Rattle.spv_types.specs.Tree.{Tree}
use Rattle.spv_types.specs.Types.{elem_of, type_tree}
use Rattle.spv_decor.specs.Rows.{word}
use Rattle.spv_index.specs.Locals.{typed, insts_of, local_type, type_in}
use Rattle.profile_rules.specs.declared.needs.Need.TheVariants.{Value}
use Rattle.profile_rules.specs.TypeRows.{is_int, value_fails}
use Rattle.profile_rules.specs.Operands.{need, is_there_in}
use Rattle.profile_rules.specs.AtomicRules.{is_other_value, is_semantics, barrier_semantics_of}
use Rattle.conformance.specs.Rules.{Options}
use Rattle.module_semantics.specs.Setting.{Setting}
use Rattle.text_rules.specs.Constants.{Source, is_constant, is_scalar, reading, plain_value}
use Rattle.text_rules.specs.Declarations.{word_of}
use Rattle.expr_forward.specs.declared.kinds.InstKind.TheVariants as kind
use Rattle.expr_forward.specs.Kinds.{kind_of}
use Rattle.expr_forward.specs.Scope.{Scope, globals_in}
use Rattle.expr_forward.specs.Scope as scope
use Rattle.expr_forward.specs.Paths.{is_plain, is_number, literal_word, word_at}
use Rattle.expr_forward.specs.Statements.{semantics}
use Rattle.unit_rules.specs.Unit.{source_of}
use Rattle.plan_law.specs.InOrder.{IsAmong}
use Rattle.fits_law.specs.Takes.{numbers, Has}
use Rattle.type_law.proofs.Operands.{int_scalar}
use Rattle.typed_law.specs.Conforms.{IsConforming}
use Rattle.typed_law.proofs.Lists.{from_zero, or_left, found_in}
use Rattle.typed_law.proofs.Rules.{operand_there, value_right, number_right}
use Rattle.typed_law.proofs.Values.{int_shaped, typed_is, inside, global_typed_some, HasType, passing}
use Rattle.typed_law.proofs.Operations.{Facts}
use Rattle.typed_law.proofs.Others.{typed_operand}
use Rattle.global_law.specs.Items.{AreSpecIds}
use Rattle.claim_law.proofs.Claim.Listed.{at_place}
use Rattle.grammar_law.proofs.Unit.Lists.{of_contained, none_passes}
use Rattle.grammar_law.proofs.Unit.Steps.{at_index}
use Rattle.grammar_law.proofs.Grammar.Literals.{semantics_right, control_op, memory_op, made_constant, literal_is}
use Rattle.text_law.specs.Shape.{constant_word}

literal_read : (w : scope.Setting) (g : Inst) → is_some (literal_word w g) ≡ true → unwrap_or (literal_word w g) 0 ≡ word_of (plain_value w.source g)
unfolding literal_word
literal_read w g on = by_test (is_constant g && (is_plain (reading w.source g) && is_number (option_and_then elem_of (type_tree (globals_in w) g.ty)))) on
  where
    by_test : (b : Bool) → is_some (if b then Some (word_of (plain_value w.source g)) else None) ≡ true → unwrap_or (if b then Some (word_of (plain_value w.source g)) else None) 0 ≡ word_of (plain_value w.source g)
    by_test true on = refl
    by_test false on = cc

-- what is written as a literal is the word of its constant
semantics_read : (w : Scope) (n : ℕ) → is_some (word_at w.setting n) ≡ true → semantics w n ≡ constant_word w.setting.source n
semantics_read w n on = by_global (global (globals_in w.setting) n) on
  where
    by_global : (x : Option Inst) → is_some (option_and_then (literal_word w.setting) x) ≡ true → unwrap_or (option_and_then (literal_word w.setting) x) 0 ≡ option_map_or (λ (g : Inst). word_of (plain_value w.setting.source g)) x 0
    by_global None on = cc
    by_global (Some g) on = literal_read w.setting g on

number_of : (t : Tree) → Has numbers None t → (is_scalar t ≡ true) × (is_number (elem_of t) ≡ true)
number_of plain.int has = (refl, refl)
number_of plain.uint has = (refl, refl)
number_of plain.boolean has = absurd has
number_of (plain.vector e n) has = absurd has
number_of (plain.array t l) has = absurd has
number_of (plain.runtime t) has = absurd has
number_of (plain.struct n ts) has = absurd has

constant_typed : (o : Op) → o ≡ code.Constant → has_type o ≡ true
unfolding shape
constant_typed o same = ap has_type same

module _ (s : Setting) (entry : Option (List ℕ)) (right : IsConforming s.of entry) (f : Function) (in_it : Contains s.of.functions f) (o : Options) (e : ℕ) (spec_ids : AreSpecIds (source_of s.of o e)) (w : Scope) (source_is : w.setting.source ≡ source_of s.of o e) where
  abbrev Gs : List Inst
  Gs = s.of.globals

  abbrev T : ℕ → Option ℕ
  T = type_in s.of.globals f

  -- an int that is an OpConstant
  word_some : (n : ℕ) → HasType s entry right f in_it n → is_other_value Gs f is_semantics n ≡ false → value_fails is_int Gs T n ≡ false → is_some (word_at w.setting n) ≡ true
  word_some n typed_as wanted int =
      let c = made_constant Gs f n wanted (ap is_some typed_as.1) in
      let there = found_in Gs n c.0 c.1 in
      let some = global_typed_some s entry right c.0 there (constant_typed c.0.op c.2) in
      let t = passing s entry right f in_it is_int (λ g on. int_shaped g.op on) n typed_as int in
      let own : T n ≡ Some c.0.ty = ap (λ (x : Option ℕ). option_or x (local_type f n)) (ap (option_and_then typed) c.1 ∙ typed_is c.0 some) in
      let whole : type_tree Gs c.0.ty ≡ Some t.0 = sym (ap (option_and_then (type_tree Gs)) own) ∙ t.1 in
      let number = number_of t.0 (int_scalar s f n t.0 int t.1) in
      ap (λ (x : Source). is_some (option_and_then (literal_word w.setting) (global x.of.globals n))) source_is
      ∙ (ap (λ (q : Option Inst). is_some (option_and_then (literal_word w.setting) q)) c.1
      ∙ ap is_some (literal_is (source_of s.of o e) spec_ids c.0 there c.2 t.0 whole number.0 w.setting source_is number.1))

  module _ (i : Inst) (there : IsAmong i (insts_of f)) where
    facts : Facts s entry right f in_it i there i.op
    facts = record {
      value = value_right s.of entry right f in_it i there;
      number = number_right s.of entry right f in_it i there;
      least = ((inside s entry right f in_it).formed i there).least;
      most = ((inside s entry right f in_it).formed i there).most;
      has = operand_there (is_there_in s.of f i.at) i ((inside s entry right f in_it).order.there i there);
    }

    -- an operand of a barrier
    read_at : (c : Op) → i.op ≡ c → Facts s entry right f in_it i there c → (k : ℕ) → k < length i.args → is_id c i.args k ≡ true → need c k ≡ Value → list_any (value_fails is_int Gs T) i.args ≡ false → is_other_value Gs f is_semantics (slice_index i.args k) ≡ false → semantics w (slice_index i.args k) ≡ constant_word w.setting.source (slice_index i.args k)
    read_at c same known k less id needed ints wanted =
        semantics_read w (slice_index i.args k)
        (word_some (slice_index i.args k) (typed_operand s entry right f in_it i there c known k less id needed) wanted
        (none_passes (value_fails is_int Gs T) i.args (slice_index i.args k) (at_place i.args k (slice_index i.args k) (at_index i.args k less)) ints))

    rule_of_it : list_any (is_other_value Gs f is_semantics) (barrier_semantics_of i.op i) ≡ false
    rule_of_it = semantics_right s.of entry right f (of_contained s.of.functions f in_it) i there

    control_by : (c : Op) → i.op ≡ c → c ≡ code.ControlBarrier → Facts s entry right f in_it i there c → list_any (is_other_value Gs f is_semantics) (barrier_semantics_of c i) ≡ false → semantics w (slice_index i.args 2) ≡ constant_word w.setting.source (slice_index i.args 2)
    unfolding group_of takes_of need is_id shape
    control_by code.ControlBarrier same is known wanted =
        read_at code.ControlBarrier same known 2 (let least = known.least in let less : 2 < length i.args = omega (arith, least) in less) (from_zero 2) refl known.number (or_left (is_other_value Gs f is_semantics (word i 2)) false wanted)
    control_by c same is known wanted = cc

    memory_by : (c : Op) → i.op ≡ c → c ≡ code.MemoryBarrier → Facts s entry right f in_it i there c → list_any (is_other_value Gs f is_semantics) (barrier_semantics_of c i) ≡ false → semantics w (slice_index i.args 1) ≡ constant_word w.setting.source (slice_index i.args 1)
    unfolding group_of takes_of need is_id shape
    memory_by code.MemoryBarrier same is known wanted =
        read_at code.MemoryBarrier same known 1 (let least = known.least in let less : 1 < length i.args = omega (arith, least) in less) (from_zero 1) refl known.number (or_left (is_other_value Gs f is_semantics (word i 1)) false wanted)
    memory_by c same is known wanted = cc

    -- The law.
    pub control_read : kind_of i.op ≡ kind.ControlBarrier → semantics w (slice_index i.args 2) ≡ constant_word w.setting.source (slice_index i.args 2)
    control_read on = control_by i.op refl (control_op i.op on) facts rule_of_it

    pub memory_read : kind_of i.op ≡ kind.MemoryBarrier → semantics w (slice_index i.args 1) ≡ constant_word w.setting.source (slice_index i.args 1)
    memory_read on = memory_by i.op refl (memory_op i.op on) facts rule_of_it
