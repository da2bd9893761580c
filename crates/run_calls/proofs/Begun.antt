-- A call that has begun.
use Rattle.std.proofs.Common.{◌≡◌, ◌+◌, ℕ, List, [], ◌∷◌, ◌++◌, ap, ◌∙◌}
use Rattle.spv_module.specs.declared.inst.Function.{Function}
use Rattle.run_state.specs.declared.conf.Frame.{Frame}
use Rattle.run_state.specs.declared.conf.Conf.{Conf}
use Rattle.run_state.specs.Confs.{conf_of, frame_of, calls_of}
use Rattle.run_state.proofs.States.{calls_push}
use Rattle.run_calls.specs.Entered.{with_call_on}

pub begun : (fs : List Function) (old : Conf) (frame top w : Frame) (below : List (Frame × ℕ)) (waits : ℕ) → top ≡ frame → w ≡ old.top → below ≡ old.below.items ++ (record w { at = w.at + 1 }, waits) ∷ []
    → record (conf_of fs old) { top = frame_of fs top; below = calls_of fs below } ≡ with_call_on fs old frame waits
begun fs old frame top w below waits new is list =
    ap (λ f. record (conf_of fs old) { top = frame_of fs f; below = calls_of fs below }) new
    ∙ ap (λ l. record (conf_of fs old) { top = frame_of fs frame; below = l }) (ap (calls_of fs) list ∙ calls_push fs old.below.items (record w { at = w.at + 1 }, waits))
    ∙ ap (λ (f : Frame). record (conf_of fs old) { top = frame_of fs frame; below = (frame_of fs (record f { at = f.at + 1 }), waits) ∷ calls_of fs old.below.items }) is
