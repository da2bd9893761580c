-- The text of a module has the shape of the module, where no SpecId stands on what is no specialization constant.
use Rattle.std.proofs.Common.{◌≡◌, ◌==◌, ◌∙◌, ℕ, Bool, true, false, List, [], ◌∷◌, inl, inr, refl, sym, subst, if◌then◌else◌}
use Rattle.std.proofs.lemmas.List.Elements.{All-contains}
use Rattle.spv_module.specs.State.{ModuleState}
use Rattle.spv_module.specs.declared.inst.Id.{Id as IdOf}
use Rattle.spv_module.specs.declared.inst.Inst.{Inst}
use Rattle.spv_module.specs.declared.inst.Function.{Function}
use Rattle.structure_rules.specs.Graph.{graph}
use Rattle.conformance.specs.Rules.{Options}
use Rattle.module_check.specs.Judged.{IsRead, IsFine}
use Rattle.module_check.specs.ReadFrom.{IsReadFrom}
use Rattle.module_check.specs.Structure.{IsStructured}
use Rattle.name_alloc.specs.Naming.{name_of}
use Rattle.glsl_ast.specs.Tree.{Text, TranslationUnit, stmts_in}
use Rattle.glsl_grammar.specs.Read.{is_declared}
use Rattle.module_semantics.specs.Setting.{Setting}
use Rattle.text_rules.specs.Constants.{Source}
use Rattle.text_rules.specs.Printed.{is_written_struct}
use Rattle.expr_forward.specs.Kinds.{operation_kind_of}
use Rattle.expr_forward.specs.Statements.{insts_at, kind_of}
use Rattle.expr_forward.specs.Values.{length_text}
use Rattle.expr_forward.specs.declared.kinds.OperationKind.TheVariants as kind
use Rattle.function_text.specs.Functions.{FunctionPlan, written, body_text}
use Rattle.unit_rules.specs.Translation.{id_text}
use Rattle.unit_rules.specs.Unit.{is_called, called, source_of, IsUnitOf}
use Rattle.claim_law.specs.Uses.{UsesExpr}
use Rattle.claim_law.specs.Blocks.{FitWords}
use Rattle.call_law.specs.Known.{IsFunctionOf}
use Rattle.typed_law.specs.Conforms.{IsConforming}
use Rattle.typed_law.specs.Words.{AreBytes, AreGivenWords}
use Rattle.grammar_law.proofs.Ruled.Ruled.{contains_of}
use Rattle.claim_law.specs.Claimed.{IsIn}
use Rattle.claim_law.specs.Apart.{IsFlow}
use Rattle.claim_law.proofs.Claim.Flags.{again_is_flow, leave_is_flow, fell_is_flow}
use Rattle.claim_law.specs.Told.{is_among}
use Rattle.grammar_law.proofs.Height.Closed.{sound-of}
use Rattle.grammar_law.specs.Switches.{IsReached, Chooses, Leads}
use Rattle.grammar_law.proofs.Unit.ArgWords.{args_words}
use Rattle.grammar_law.proofs.Unit.Switching.{switch_at}
use Rattle.grammar_law.specs.Words.{AreOfStructs}
use Rattle.grammar_law.proofs.Unit.Ways.{HaveKinds, F, V, plan_is, reached_nth}
use Rattle.grammar_law.proofs.Meets.LiveOrGone.{IsRun}
use Rattle.grammar_law.proofs.Meets.BlocksMade.{AreKnown}
use Rattle.grammar_law.proofs.Grammar.Held.{any_invocation, Run, Written}
use Rattle.grammar_law.proofs.Grammar.Called.{right, kinds}
use Rattle.grammar_law.proofs.Grammar.Lives.{lives}
use Rattle.grammar_law.proofs.Grammar.Accepted.{words, few, sound, all_known, made_function, Structs, of_structs, declared_structs}
use Rattle.text_law.proofs.Naming.Functions.{function_of_plan, planned_of, has_plan}
use Rattle.text_law.proofs.Naming.Keys.{some_in, equal}
use Rattle.text_law.specs.Walks.{Outer}
use Rattle.text_law.specs.Pairs.{Naming}
use Rattle.text_law.specs.Unseen.{unseen}
use Rattle.text_law.specs.Asked.{AllAskSeen}
use Rattle.text_law.specs.Shape.{memory_ids, outer_of, IsShaped, IsShapedIn, AreShaped, HasShape}
use Rattle.text_law.proofs.Shape.Functions.{function_shaped}
use Rattle.text_law.proofs.Shape.Planned.{flags_keyed, again_written, orders_whole, plan_whole}
use Rattle.text_law.proofs.Shape.Found.{in_numbers, body_found}
use Rattle.text_law.proofs.Shape.Named.{flow_unseen}
use Rattle.text_law.proofs.Shape.UnseenFunctions.{condition_unseen, result_unseen, tops_still, edges_unseen}
use Rattle.spv_words.specs.declared.rule.Rule.TheVariants.{P11}
use Rattle.spv_decor.specs.Broken.{Broken}
use Rattle.expr_forward.specs.Scope.{Scope}
use Rattle.global_law.specs.Items.{AreSpecIds}
use Rattle.global_law.proofs.Constant.Conforming.{spec_ids_are}
use Rattle.text_law.proofs.Shape.Places.{length_unseen}
use Rattle.text_law.proofs.Shape.Called.{callee_seen}
use Rattle.text_law.proofs.Shape.Asks.{all_ask}

module _ (bytes : List ℕ) (m : ModuleState) (o : Options) (read : IsReadFrom bytes m) (fine : IsFine m o) (octets : AreBytes bytes) (given : AreGivenWords o.overrides) (decorated : (at : ℕ) → Broken m P11 at → ⊥) (unit : TranslationUnit) (u : IsUnitOf m o unit) where
  abbrev src : Source
  src = source_of m o u.entry

  abbrev found : Naming
  found = name_of u.claimed

  abbrev outer : FunctionPlan → Outer
  outer p = outer_of src found unit (written p)

  abbrev was_read : IsRead m
  was_read = record { bytes = bytes; is = read }

  abbrev Right : IsConforming m o.entry
  Right = right m o unit (record { bytes = bytes; is = read }) fine u

  abbrev Kinds : HaveKinds m.globals
  Kinds = kinds m o unit (record { bytes = bytes; is = read }) fine u

  abbrev S : Setting
  S = Run m o.entry (right m o unit (record { bytes = bytes; is = read }) fine u) o unit u

  unseen_flow : (p : FunctionPlan) (x : Text) → IsFlow found x → is_among (outer p).memory x ≡ false
  unseen_flow p x flow = flow_unseen found u.lawful (memory_ids src (written p)) x flow

  abbrev Names : List (List ℕ)
  Names = Structs m o unit was_read fine u octets given

  of_names : AreOfStructs m.globals (name_of u.claimed) Names
  of_names = of_structs m o unit was_read fine u octets given

  declared_names : (g : Inst) → IsIn g m.globals → is_written_struct src (Written m o.entry Right o unit u) g ≡ true → is_declared Names (id_text (name_of u.claimed) g.result) ≡ true
  declared_names = declared_structs m o unit was_read fine u octets given

  module_words : (g : Inst) → IsIn g m.globals → FitWords g.args
  module_words = words m o unit was_read fine u octets given

  known : (p : FunctionPlan) (among : IsIn p u.plans) → AreKnown S o.entry Right Kinds o unit u p among Names of_names
  known p among = all_known m o unit was_read fine u octets given p among Names of_names declared_names

  -- a SpecId stands on specialization constants alone (P11)
  spec_ids : AreSpecIds (source_of m o u.entry)
  spec_ids = spec_ids_are S o.entry Right o.overrides decorated

  sized : (p : FunctionPlan) (among : IsIn p u.plans) (b : ℕ) (i : Inst) → IsRun S o.entry Right Kinds o unit u p among b i → operation_kind_of i.op ≡ kind.ArrayLength → UsesExpr (unseen (outer_of src found unit (F S o.entry Right Kinds o unit u p among))) (length_text (V S o.entry Right Kinds o unit u p among) b i)
  sized p among b i run on = length_unseen S o.entry Right Kinds o unit u p among module_words given Names of_names b i

  asks : (p : FunctionPlan) (among : IsIn p u.plans) (h : ℕ) → IsReached (graph (written p)) h → AllAskSeen src (outer p) p.scope h (λ i. kind_of i.op) (insts_at p.scope h)
  asks p among h =
      subst (λ (w : Scope). IsReached (graph w.setting.function) h → AllAskSeen src (outer_of src found unit w.setting.function) w h (λ i. kind_of i.op) (insts_at w h)) (sym (plan_is S o.entry Right Kinds o unit u p among).scope_is)
      (λ here. all_ask S o.entry Right Kinds o unit u p among module_words given Names of_names (known p among) spec_ids (λ i i_in on. callee_seen m o unit was_read fine u p among i i_in on) h (reached_nth (graph (F S o.entry Right Kinds o unit u p among)) h ∙ here))

  plan_shaped : (p : FunctionPlan) → IsIn p u.plans → IsShaped src found (outer p) (written p) (stmts_in (body_text p))
  plan_shaped p among =
      let planned = planned_of bytes m o read fine unit u p among in
      let there = contains_of m.functions (written p) (function_of_plan bytes m o read fine unit u p among) in
      let whole_sound = sound-of (written p) (All-contains IsStructured m.functions (written p) fine.later.structure there).unbroken in
      let whole =
      plan_whole src found (written p) p planned whole_sound
      (switch_at (written p) (λ i i_in. (Right.inside (written p) there).formed i i_in) (λ i i_in. (args_words bytes m read octets (written p) there i i_in).args)) in
      function_shaped src found (outer p) p (IsReached (graph (written p))) (Chooses (graph (written p))) (Leads (graph (written p))) whole_sound planned.tree whole (asks p among)
      (tops_still S o.entry Right Kinds o unit u p among module_words given Names of_names (known p among) (sized p among) declared_names (made_function m o unit was_read fine u octets given p among Names of_names declared_names).variables)
      (condition_unseen S o.entry Right Kinds o unit u p among module_words given Names of_names (known p among) (sized p among)) (result_unseen S o.entry Right Kinds o unit u p among module_words given Names of_names (known p among) (sized p among))
      (edges_unseen S o.entry Right Kinds o unit u p among module_words given Names of_names (known p among) (sized p among) declared_names (λ c place i at kept. lives S o.entry Right Kinds o unit u p among c place i at kept)
      (sound m o unit was_read fine u octets given p among Names of_names declared_names) (few m o unit was_read fine u octets given p among Names of_names declared_names))
      (λ b x is. unseen_flow p x (again_is_flow m o unit u p among b x is)) (λ b x is. unseen_flow p x (leave_is_flow m o unit u p among b x is)) (λ b x is. unseen_flow p x (fell_is_flow m o unit u p among b x is))
      (again_written src found (written p) p planned whole_sound) (flags_keyed m o unit u p among) (orders_whole src found (written p) p planned whole_sound)

  called_shaped : (f : Function) → IsFunctionOf f m.functions → is_called u.order f ≡ true → IsShapedIn src found unit f
  called_shaped f one on =
      let n = some_in (λ (i : IdOf). i.0 == f.id.0) u.order on in
      let has = has_plan bytes m o read fine unit u f n.0 one (sym (equal n.0.0 f.id.0 n.2)) (in_numbers u.order n.0 n.1) in
      subst (IsShapedIn src found unit) has.of_it
      (stmts_in (body_text has.plan), body_found m o unit u any_invocation n.0 has.plan has.at n.1, plan_shaped has.plan has.among)

  all_shaped : (fs : List Function) → ((f : Function) → IsFunctionOf f fs → IsFunctionOf f m.functions) → AreShaped src found unit (called u.order fs)
  all_shaped [] of_module = tt
  all_shaped (f ∷ fs) of_module = by_test (is_called u.order f) refl (all_shaped fs (λ g one. of_module g (inr one)))
    where
      by_test : (b : Bool) → is_called u.order f ≡ b → AreShaped src found unit (called u.order fs) → AreShaped src found unit (if b then f ∷ called u.order fs else called u.order fs)
      by_test true on later = (called_shaped f (of_module f (inl refl)) on, later)
      by_test false off later = later

  -- The law.
  pub has_shape : HasShape m o found unit
  has_shape = record { entry = u.entry; is_entry = u.is_entry; order = u.order; calls = u.calls; shaped = all_shaped m.functions (λ f one. one) }
