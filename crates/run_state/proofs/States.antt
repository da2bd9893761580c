-- What changes of the program's own state are to the state that it stands for.
use Rattle.std.proofs.Common.{◌≡◌, ℕ, ◌+◌, List, [], ◌∷◌, ◌++◌, refl, ap, ◌∙◌}
use Rattle.std.specs.Prelude.{Option}
use Rattle.spv_module.specs.declared.inst.Function.{Function}
use Rattle.spv_module.specs.declared.inst.Inst.{Inst}
use Rattle.module_semantics.specs.State as state
use Rattle.module_semantics.specs.Steps as steps
use Rattle.run_state.specs.declared.conf.Frame.{Frame}
use Rattle.run_state.specs.declared.conf.Conf.{Conf}
use Rattle.run_state.specs.Ids.{ids_of, variables_of}
use Rattle.run_state.specs.Confs.{function_at, left_at, frame_of, behind, calls_of, conf_of, IsAdvanced, IsSet, IsSame}

-- a frame by its parts
module _ (fs : List Function) (old new : Conf) (below : new.below ≡ old.below) (privates : new.privates ≡ old.privates) where
  same_rest : (top : state.Frame) → frame_of fs new.top ≡ top → conf_of fs new ≡ record (conf_of fs old) { top = top }
  same_rest top is =
      ap (λ t. record { top = t; below = calls_of fs new.below.items; privates = variables_of new.privates }) is
      ∙ ap (λ b. record { top = top; below = calls_of fs b.items; privates = variables_of new.privates }) below
      ∙ ap (λ p. record { top = top; below = calls_of fs old.below.items; privates = variables_of p }) privates

abbrev frame_by : List Function → ℕ → ℕ → ℕ → (ℕ → Option state.Held) → Frame → state.Frame
frame_by fs function block at ids f = record { function = function_at fs function; block = block; rest = left_at (function_at fs function) block at; ids = ids; variables = variables_of f.variables }

frame_is : (fs : List Function) (old new : Frame) (at : ℕ) (ids : ℕ → Option state.Held) → new.function ≡ old.function → new.block ≡ old.block → new.at ≡ at → ids_of new.ids ≡ ids → new.variables ≡ old.variables → frame_of fs new ≡ frame_by fs old.function old.block at ids old
frame_is fs old new at ids function block at_is ids_is variables =
    ap (λ n. frame_by fs n new.block new.at (ids_of new.ids) new) function
    ∙ ap (λ n. frame_by fs old.function n new.at (ids_of new.ids) new) block
    ∙ ap (λ n. frame_by fs old.function old.block n (ids_of new.ids) new) at_is
    ∙ ap (λ n. frame_by fs old.function old.block at n new) ids_is
    ∙ ap (λ v. record { function = function_at fs old.function; block = old.block; rest = left_at (function_at fs old.function) old.block at; ids = ids; variables = variables_of v }) variables

pub same_conf : (fs : List Function) (old new : Conf) → IsSame old new → conf_of fs new ≡ conf_of fs old
same_conf fs old new s = same_rest fs old new s.below s.privates (frame_of fs old.top) (frame_is fs old.top new.top old.top.at (ids_of old.top.ids) s.function s.block s.at (λ k q. s.ids q k) s.variables)

pub advanced_conf : (fs : List Function) (old new : Conf) → IsAdvanced old new → conf_of fs new ≡ steps.advanced (conf_of fs old) (behind fs old)
advanced_conf fs old new s =
    same_rest fs old new s.below s.privates (frame_by fs old.top.function old.top.block (old.top.at + 1) (ids_of old.top.ids) old.top)
    (frame_is fs old.top new.top (old.top.at + 1) (ids_of old.top.ids) s.function s.block s.at (ap ids_of s.ids) s.variables)

pub set_conf : (fs : List Function) (old new : Conf) (i : Inst) (h : state.Held) → IsSet old i.result h new → conf_of fs new ≡ steps.set (conf_of fs old) (behind fs old) i h
set_conf fs old new i h s =
    same_rest fs old new s.below s.privates (frame_by fs old.top.function old.top.block (old.top.at + 1) (state.put (ids_of old.top.ids) i.result h) old.top)
    (frame_is fs old.top new.top (old.top.at + 1) (state.put (ids_of old.top.ids) i.result h) s.function s.block s.at (λ k q. s.ids q k) s.variables)

-- the call that began last
pub calls_push : (fs : List Function) (cs : List (Frame × ℕ)) (c : Frame × ℕ) → calls_of fs (cs ++ c ∷ []) ≡ (frame_of fs c.0, c.1) ∷ calls_of fs cs
calls_push fs [] c = refl
calls_push fs (x ∷ cs) c = ap (λ l. l ++ (frame_of fs x.0, x.1) ∷ []) (calls_push fs cs c)
