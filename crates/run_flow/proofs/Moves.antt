-- What the steps of the definition do, by what the program finds.
use Rattle.std.proofs.Common.{◌≡◌, ℕ, true, false, List, [], ◌∷◌, refl, ap, sym, ◌∙◌, subst, map, length, drop, arith}
use Rattle.std.specs.Prelude.{Option, Some, None, option_map, slice_get}
use Rattle.std.specs.BTreeMap.{BTreeMap}
use Rattle.std.proofs.lemmas.Option.{same_Some}
use Rattle.std.proofs.lemmas.List.{length-append}
use Rattle.spv_ops.specs.declared.Terminator.{Terminator}
use Rattle.spv_module.specs.declared.inst.Id.{Id}
use Rattle.spv_module.specs.declared.inst.Inst.{Inst}
use Rattle.spv_module.specs.declared.inst.Block.{Block}
use Rattle.spv_module.specs.declared.inst.Function.{Function}
use Rattle.spv_types.specs.Tree.{ValueTree}
use Rattle.spv_index.specs.Locals.{block_in}
use Rattle.op_semantics.specs.Component.{each_one}
use Rattle.traces.specs.Invocations.{Invocation}
use Rattle.traces.specs.Runs.{Act, goes, stops}
use Rattle.profile_rules.specs.Entry.{function_of}
use Rattle.step_run.specs.declared.program.Step.{Step}
use Rattle.step_run.specs.declared.program.Step.TheVariants.{Moves, Fails}
use Rattle.module_semantics.specs.Setting.{Setting}
use Rattle.module_semantics.specs.State as state
use Rattle.module_semantics.specs.Operands.{arg, held, value_at}
use Rattle.module_semantics.specs.Steps.{with_some, label_of, present_label, phis, phi_value, gone_to, target_label, edge_step, branch_step, return_step, given_to, return_value_step, passed, argument_of, entered, called, call_step}
use Rattle.memory_places.specs.Kernel.{Kernel, setting_for}
use Rattle.run_state.specs.declared.held.Held.{Held}
use Rattle.run_state.specs.declared.conf.Frame.{Frame}
use Rattle.run_state.specs.declared.conf.Conf.{Conf}
use Rattle.run_state.specs.Ids.{ids_of}
use Rattle.run_state.specs.Confs.{function_at, frame_of, behind, calls_of, conf_of, HasLeft}
use Rattle.run_calls.specs.Entered.{with_call_on, HasGiven}
use Rattle.run_acts.specs.Narrowed.{narrowed}
use Rattle.run_acts.specs.Acts.{IsAct, IsStepOf}
use Rattle.run_acts.proofs.Acts.{acts_without, acts_with}
use Rattle.run_flow.specs.Flow.{all_held, phi_by, passed_by, IsMoveOf, edge_to, edge_by, branch_by, call_to, return_value_by, first_of}
use Rattle.run_flow.proofs.Lists.{each_mapped, none_mapped}

pub its_blocks : (f g : Function) (bs : List Block) → bs ≡ f.blocks → f ≡ g → bs ≡ g.blocks
its_blocks f g bs is same = is ∙ ap (λ (h : Function). h.blocks) same

pub its_parameters : (f g : Function) (ps : List (Id × Id)) → ps ≡ f.params → f ≡ g → ps ≡ g.params
its_parameters f g ps is same = is ∙ ap (λ (h : Function). h.params) same

-- Returns
pub has_left : (fs : List Function) (old new : Conf) → HasLeft fs true old new → narrowed (return_step (conf_of fs old) (conf_of fs old).below) ≡ goes [] (conf_of fs new)
unfolding return_step
has_left fs old new h = ap (λ bs. narrowed (return_step (conf_of fs old) bs)) h.1.1.0 ∙ ap (goes []) (sym h.1.1.1)

pub has_ended : (fs : List Function) (old new : Conf) → HasLeft fs false old new → (narrowed (return_step (conf_of fs old) (conf_of fs old).below) ≡ stops) × (conf_of fs new ≡ conf_of fs old)
unfolding return_step
has_ended fs old new h = (ap (λ bs. narrowed (return_step (conf_of fs old) bs)) h.0, h.1)

pub has_given : (fs : List Function) (old new : Conf) (v : ValueTree) → HasGiven fs old new v true → narrowed (given_to v (conf_of fs old) (conf_of fs old).below) ≡ goes [] (conf_of fs new)
has_given fs old new v h = ap (λ bs. narrowed (given_to v (conf_of fs old) bs)) h.1.1.0 ∙ ap (goes []) (sym h.1.1.1)

pub gives_none : (fs : List Function) (old new : Conf) (v : ValueTree) → HasGiven fs old new v false → (narrowed (given_to v (conf_of fs old) (conf_of fs old).below) ≡ stops) × (conf_of fs new ≡ conf_of fs old)
gives_none fs old new v h = (ap (λ bs. narrowed (given_to v (conf_of fs old) bs)) h.0, h.1)

-- with what was found, changed by g
with_found : (o : Option (List state.Held)) (g : List state.Held → List state.Held) (hs : List state.Held) (c : List state.Held → state.Conf) → Some hs ≡ option_map g o → narrowed (with_some o (λ found. goes [] (c (g found)))) ≡ goes [] (c hs)
with_found None g hs c h = cc
with_found (Some found) g hs c h = ap (λ l. goes [] (c l)) (sym (same_Some hs (g found) h))

length_calls : (fs : List Function) (cs : List (Frame × ℕ)) → length (calls_of fs cs) ≡ length cs
length_calls fs [] = refl
length_calls fs (c ∷ cs) = omega (arith, length-append (calls_of fs cs) ((frame_of fs c.0, c.1) ∷ []), length_calls fs cs)

module _ (k : Kernel) (told : Invocation) where
  abbrev s : Setting
  s = setting_for k told

  abbrev fs : List Function
  fs = k.of.functions

  -- Edges
  module _ (gs : List Function) (old new : Conf) (t : ℕ) (b : Block) (blocks : List Block) (from : ℕ) (same : gs ≡ fs) (here : (function_at gs old.top.function).blocks ≡ blocks) (label : from ≡ label_of (slice_get blocks old.top.block)) where
    from_here : each_one (phi_by k (ids_of old.top.ids) from) (phis b) ≡ each_one (phi_value s (frame_of gs old.top) (present_label (frame_of gs old.top))) (phis b)
    from_here = ap (λ l. each_one (phi_by k (ids_of old.top.ids) l) (phis b)) (label ∙ ap (λ bs. label_of (slice_get bs old.top.block)) (sym here))

    abbrev with_values : List ValueTree → Act state.Conf
    with_values values = goes [] (gone_to (conf_of gs old) t b values)

    abbrev all_taken : Option (List ValueTree)
    all_taken = each_one (phi_value s (frame_of gs old.top) (present_label (frame_of gs old.top))) (phis b)

    pub edge_goes : (vs : List ValueTree) → Some vs ≡ each_one (phi_by k (ids_of old.top.ids) from) (phis b) → conf_of gs new ≡ gone_to (conf_of gs old) t b vs → IsMoveOf (edge_to t b) s old new Moves
    edge_goes vs some gone =
        subst (λ hs. IsAct (narrowed (edge_to t b s (conf_of hs old))) (conf_of hs old) (conf_of hs new) Moves) same
        (acts_with vs all_taken with_values (conf_of gs old) (conf_of gs new) Moves (some ∙ from_here) (ap (goes []) (sym gone)))

    pub edge_fails : None ≡ each_one (phi_by k (ids_of old.top.ids) from) (phis b) → IsMoveOf (edge_to t b) s old old Fails
    edge_fails none =
        subst (λ hs. IsAct (narrowed (edge_to t b s (conf_of hs old))) (conf_of hs old) (conf_of hs old) Fails) same
        (acts_without all_taken with_values (conf_of gs old) (conf_of gs old) (none ∙ from_here) refl)

  module _ (old new : Conf) where
    abbrev c : state.Conf
    c = conf_of fs old

    abbrev d : state.Conf
    d = conf_of fs new

    abbrev rest : List Inst
    rest = behind fs old

    module _ (f : Function) (here : function_at fs old.top.function ≡ f) (label : ℕ) where
      abbrev to : ℕ → Act state.Conf
      to t = with_some (slice_get c.top.function.blocks t) (λ b. edge_to t b s c)

      block_is : block_in f label ≡ block_in c.top.function label
      block_is = ap (λ (g : Function). block_in g label) (sym here)

      place_is : (t : ℕ) → slice_get f.blocks t ≡ slice_get c.top.function.blocks t
      place_is t = ap (λ (g : Function). slice_get g.blocks t) (sym here)

      pub no_block : None ≡ block_in f label → IsMoveOf (edge_by label) s old old Fails
      unfolding edge_step
      no_block none = acts_without (block_in c.top.function label) to c c (none ∙ block_is) refl

      pub no_place : (t : ℕ) → Some t ≡ block_in f label → None ≡ slice_get f.blocks t → IsMoveOf (edge_by label) s old old Fails
      unfolding edge_step
      no_place t some none = acts_with t (block_in c.top.function label) to c c Fails (some ∙ block_is) (acts_without (slice_get c.top.function.blocks t) (λ b. edge_to t b s c) c c (none ∙ place_is t) refl)

      pub at_block : (t : ℕ) (b : Block) (step : Step) → Some t ≡ block_in f label → Some b ≡ slice_get f.blocks t → IsMoveOf (edge_to t b) s old new step → IsMoveOf (edge_by label) s old new step
      unfolding edge_step
      at_block t b step some there is = acts_with t (block_in c.top.function label) to c d step (some ∙ block_is) (acts_with b (slice_get c.top.function.blocks t) (λ b. edge_to t b s c) c d step (there ∙ place_is t) is)

    module _ (end : Terminator) (i : Inst) where
      pub no_target : None ≡ target_label end s c.top i → IsStepOf (branch_by end) s old old i Fails
      unfolding branch_step
      no_target none = acts_without (target_label end s c.top i) (edge_step s c) c c none refl

      pub to_target : (label : ℕ) (step : Step) → Some label ≡ target_label end s c.top i → IsMoveOf (edge_by label) s old new step → IsStepOf (branch_by end) s old new i step
      unfolding branch_step
      to_target label step some is = acts_with label (target_label end s c.top i) (edge_step s c) c d step some is

    module _ (i : Inst) where
      pub no_value : None ≡ value_at s c.top (arg i 0) → IsStepOf return_value_by s old old i Fails
      unfolding return_value_step
      no_value none = acts_without (value_at s c.top (arg i 0)) (λ v. given_to v c c.below) c c none refl

      pub with_value : (v : ValueTree) (step : Step) → Some v ≡ value_at s c.top (arg i 0) → IsAct (narrowed (given_to v c c.below)) c d step → IsStepOf return_value_by s old new i step
      unfolding return_value_step
      with_value v step some is = acts_with v (value_at s c.top (arg i 0)) (λ v. given_to v c c.below) c d step some is

      -- Calls
      pub no_function : function_of fs (arg i 0) ≡ None → IsStepOf call_step s old old i Fails
      unfolding call_step
      no_function none = acts_without (function_of fs (arg i 0)) (λ f. call_to f s c rest i) c c (sym none) refl

      pub of_function : (f : Function) (step : Step) → function_of fs (arg i 0) ≡ Some f → IsStepOf (call_to f) s old new i step → IsStepOf call_step s old new i step
      unfolding call_step
      of_function f step some is = acts_with f (function_of fs (arg i 0)) (λ f. call_to f s c rest i) c d step (sym some) is

      module _ (f : Function) (depth : ℕ) (is_depth : depth ≡ length old.below.items) where
        abbrev list : List ℕ
        list = drop 1 i.args

        abbrev given : Option (List state.Held)
        given = each_one (held s c.top) list

        pub no_argument : None ≡ each_one (passed_by k (ids_of old.top.ids) depth) list → IsStepOf (call_to f) s old old i Fails
        no_argument none = acts_without given (λ hs. goes [] (called s c rest i f hs)) c c (none_mapped (map (passed depth)) given (none ∙ each_mapped (held s c.top) (passed depth) list)) refl

        abbrev below : List (state.Frame × ℕ)
        below = (record c.top { rest = rest }, i.result) ∷ c.below

        pub call_goes : (hs : List Held) (ids : BTreeMap ℕ (Option Held)) (frame : Frame) → Some (all_held hs) ≡ each_one (passed_by k (ids_of old.top.ids) depth) list → ((q : ℕ) → ids_of ids q ≡ argument_of f.params (all_held hs) q) → frame_of fs frame ≡ first_of s f (ids_of ids) → d ≡ with_call_on fs old frame i.result → IsStepOf (call_to f) s old new i Moves
        unfolding entered
        call_goes hs ids frame some its first is =
            with_found given (map (passed (length c.below))) (all_held hs) (λ l. record c { top = entered s f l; below = below }) some_held
            ∙ ap (goes []) (sym new_is)
          where
            some_held : Some (all_held hs) ≡ option_map (map (passed (length c.below))) given
            some_held = some ∙ each_mapped (held s c.top) (passed depth) list ∙ ap (λ n. option_map (map (passed n)) given) (is_depth ∙ sym (length_calls fs old.below.items))

            top : frame_of fs frame ≡ entered s f (all_held hs)
            top = first ∙ ap (first_of s f) (λ j q. its q j)

            new_is : d ≡ record c { top = entered s f (all_held hs); below = below }
            new_is = is ∙ ap (λ t. record c { top = t; below = below }) top
