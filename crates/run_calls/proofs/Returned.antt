-- A call that has returned a value.
use Rattle.std.proofs.Common.{◌≡◌, ℕ, List, [], ◌∷◌, ◌++◌, ap, sym, ◌∙◌}
use Rattle.std.specs.Prelude.{Option}
use Rattle.std.specs.BTreeMap.{BTreeMap}
use Rattle.spv_module.specs.declared.inst.Function.{Function}
use Rattle.spv_types.specs.Tree.{ValueTree}
use Rattle.module_semantics.specs.State as state
use Rattle.run_state.specs.declared.conf.Frame.{Frame}
use Rattle.run_state.specs.declared.conf.Conf.{Conf}
use Rattle.run_state.specs.declared.held.Held.{Held}
use Rattle.run_state.specs.Ids.{ids_of}
use Rattle.run_state.specs.Confs.{conf_of, frame_of, calls_of}
use Rattle.run_state.proofs.States.{calls_push}
use Rattle.module_semantics.specs.Steps.{given}

pub gave : (fs : List Function) (old : Conf) (f : Frame) (id : ℕ) (m : BTreeMap ℕ (Option Held)) (below : List (Frame × ℕ)) (v : ValueTree) → old.below.items ≡ below ++ (f, id) ∷ [] → ((q : ℕ) → ids_of m q ≡ state.put (ids_of f.ids) id (state.value v) q)
    → (b : state.Frame × ℕ) × ((rest : List (state.Frame × ℕ)) × ((calls_of fs old.below.items ≡ b ∷ rest) × (record (conf_of fs old) { top = frame_of fs (record f { ids = m }); below = calls_of fs below } ≡ record (conf_of fs old) { top = given v b; below = rest })))
gave fs old f id m below v items set =
    ((frame_of fs f, id), (calls_of fs below, (ap (calls_of fs) items ∙ calls_push fs below (f, id), λ i. record (conf_of fs old) { top = record (frame_of fs f) { ids = λ q. set q i }; below = calls_of fs below })))

pub back : (fs : List Function) (old : Conf) (f : Frame) (id : ℕ) (m : BTreeMap ℕ (Option Held)) (below new : List (Frame × ℕ)) → old.below.items ≡ below ++ (f, id) ∷ [] → new ≡ below ++ (record f { ids = m }, id) ∷ [] → ((q : ℕ) → ids_of m q ≡ ids_of f.ids q)
    → record (conf_of fs old) { below = calls_of fs new } ≡ conf_of fs old
back fs old f id m below new items pushed same =
    let frame : frame_of fs (record f { ids = m }) ≡ frame_of fs f = λ i. record (frame_of fs f) { ids = λ q. same q i } in
    ap (λ l. record (conf_of fs old) { below = l })
    (ap (calls_of fs) pushed ∙ calls_push fs below (record f { ids = m }, id) ∙ ap (λ x. (x, id) ∷ calls_of fs below) frame ∙ sym (calls_push fs below (f, id)) ∙ sym (ap (calls_of fs) items))
