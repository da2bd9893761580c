-- Behind a call its caller is inside of the call under way as it was before: what the call was lent lay inside.
use Rattle.std.proofs.Common.{◌≡◌, ◌≤◌, ◌⊎◌, ℕ, suc, List, [], ◌∷◌, length, map, Some, inl, inr, sym, ◌∙◌, subst, arith}
use Rattle.spv_module.specs.declared.inst.Inst.{Inst}
use Rattle.spv_types.specs.Tree.{ValueTree}
use Rattle.op_semantics.specs.Component.{each_one}
use Rattle.module_semantics.specs.Setting.{Setting}
use Rattle.module_semantics.specs.State.{global, own, lent, Held, value, pointer, Frame, Conf, put}
use Rattle.module_semantics.specs.Operands.{held}
use Rattle.module_semantics.specs.Steps.{passed}
use Rattle.agree_law.specs.Agree.{IfPointer}
use Rattle.call_law.specs.Waits.{IsAsBefore, Wait, IsWithin, FrameWithin, Within, IsInside, LentBy}
use Rattle.call_law.proofs.Inside.{wait_length}
use Rattle.call_law.proofs.LeftBehind.{waiting}
use Rattle.call_law.proofs.Valued.{put_so, AllSo, all_held_so}

module _ (s : Setting) (IsLent : ℕ → ℕ → Type 0) (start : List (Frame × ℕ)) where
  -- Later: what was lent to the call that comes back
  module _ (Later : ℕ → ℕ → Type 0) where
    as_again : (depth : ℕ) (f b d : Frame) → ((n : ℕ) → Later depth n → IsLent depth n) → IsAsBefore IsLent depth f b → IsAsBefore Later depth b d → IsAsBefore IsLent depth f d
    as_again depth f b d more w v = record { function = v.function ∙ w.function; block = v.block ∙ w.block; rest = v.rest ∙ w.rest; ids = λ n. v.ids n ∙ w.ids n; variables = λ n. by_variable n (v.variables n) (w.variables n) }
      where
        by_variable : (n : ℕ) → Later depth n ⊎ (d.variables n ≡ b.variables n) → IsLent depth n ⊎ (b.variables n ≡ f.variables n) → IsLent depth n ⊎ (d.variables n ≡ f.variables n)
        by_variable n (inl is) old = inl (more n is)
        by_variable n (inr same) (inl is) = inl is
        by_variable n (inr same) (inr old) = inr (same ∙ old)

    wait_again : (fs bs ds : List (Frame × ℕ)) → ((depth n : ℕ) → suc depth ≤ length fs → Later depth n → IsLent depth n) → Wait IsLent fs bs → Wait Later bs ds → Wait IsLent fs ds
    wait_again [] [] [] more w v = tt
    wait_again [] [] (d ∷ ds) more w v = absurd v
    wait_again [] (b ∷ bs) ds more w v = absurd w
    wait_again (f ∷ fs) [] ds more w v = absurd w
    wait_again (f ∷ fs) (b ∷ bs) [] more w v = absurd v
    wait_again (f ∷ fs) (b ∷ bs) (d ∷ ds) more w v = (
      v.0 ∙ w.0,
      as_again (length fs) f.0 b.0 d.0 (λ n is. more (length fs) n (let le : suc (length fs) ≤ suc (length fs) = omega arith in le) is) w.1 (subst (λ l. IsAsBefore Later l b.0 d.0) (wait_length s IsLent start fs bs w.2) v.1),
      wait_again fs bs ds (λ depth n le is. more depth n (let further : suc depth ≤ suc (length fs) = omega (arith, le) in further) is) w.2 v.2,
    )

    frame_again : (b d : Frame) → ((n : ℕ) → d.ids n ≡ b.ids n) → FrameWithin IsLent start b → FrameWithin IsLent start d
    frame_again b d same in_it n = subst (λ o. IfPointer o (λ r path. IsWithin IsLent start r)) (sym (same n)) (in_it n)

    within_again : (bs ds : List (Frame × ℕ)) → ((depth n : ℕ) → suc depth ≤ length bs → Later depth n → IsWithin IsLent start (lent depth n)) → Within IsLent start bs → Wait Later bs ds → Within IsLent start ds
    within_again [] [] more w v = w
    within_again [] (d ∷ ds) more w v = absurd v
    within_again (b ∷ bs) [] more w v = absurd v
    within_again (b ∷ bs) (d ∷ ds) more (inl w) v = inl (wait_again start (b ∷ bs) (d ∷ ds) lent_so w v)
      where
        lent_so : (depth n : ℕ) → suc depth ≤ length start → Later depth n → IsLent depth n
        lent_so depth n le is =
            let same : suc (length bs) ≡ length start = wait_length s IsLent start start (b ∷ bs) w in
            elim (more depth n (let further : suc depth ≤ suc (length bs) = omega (arith, le, same) in further) is) [
              | inl far ↦ absurd (omega (arith, le, far))
              | inr mine ↦ mine
            ]
    within_again (b ∷ bs) (d ∷ ds) more (inr w) v = inr (frame_again b.0 d.0 v.1.ids w.0, within_again bs ds (λ depth n le is. more depth n (let further : suc depth ≤ suc (length bs) = omega (arith, le) in further) is) w.1 v.2)

  lent_within : (hs : List Held) (height depth n : ℕ) → suc depth ≤ height → AllSo (IsWithin IsLent start) hs → LentBy (map (passed height) hs) depth n → IsWithin IsLent start (lent depth n)
  lent_within [] height depth n le all is = absurd is
  lent_within (h ∷ hs) height depth n le all (inr is) = lent_within hs height depth n le all.1 is
  lent_within (value v ∷ hs) height depth n le all (inl is) = absurd is
  lent_within (pointer (global k) path ∷ hs) height depth n le all (inl is) = absurd is
  lent_within (pointer (own k) path ∷ hs) height depth n le all (inl is) = let same = is.0 in absurd (omega (arith, le, same))
  lent_within (pointer (lent d k) path ∷ hs) height depth n le all (inl is) = subst (λ j. IsWithin IsLent start (lent depth j)) is.1 (subst (λ e. IsWithin IsLent start (lent e k)) is.0 all.0)

  -- the caller goes on inside, without a result of the call and with one
  pub inside_again : (c d : Conf) (rest : List Inst) (i : Inst) (ns : List ℕ) (hs : List Held) (frame : Frame) (id : ℕ) (below : List (Frame × ℕ)) → each_one (held s c.top) ns ≡ Some hs → Wait (LentBy (map (passed (length c.below)) hs)) (waiting c rest i) ((frame, id) ∷ below) → IsInside IsLent start c
      → IsInside IsLent start (record d { top = frame; below = below })
  inside_again c d rest i ns hs frame id below have w at =
      let Later : ℕ → ℕ → Type 0 = LentBy (map (passed (length c.below)) hs) in
      let all : AllSo (IsWithin IsLent start) hs = all_held_so s (IsWithin IsLent start) c.top (λ k. tt) at.top ns hs have in
      record {
        top = frame_again Later c.top frame w.1.ids at.top;
        below = within_again Later c.below below (λ depth n le is. lent_within hs (length c.below) depth n le all is) at.below w.2;
      }

  pub inside_given : (c d : Conf) (rest : List Inst) (i : Inst) (ns : List ℕ) (hs : List Held) (frame : Frame) (id : ℕ) (below : List (Frame × ℕ)) (v : ValueTree) → each_one (held s c.top) ns ≡ Some hs → Wait (LentBy (map (passed (length c.below)) hs)) (waiting c rest i) ((frame, id) ∷ below) → IsInside IsLent start c
      → IsInside IsLent start (record d { top = record frame { ids = put frame.ids id (value v) }; below = below })
  inside_given c d rest i ns hs frame id below v have w at =
      let again = inside_again c d rest i ns hs frame id below have w at in
      record { top = put_so (IsWithin IsLent start) frame.ids id (value v) again.top tt; below = again.below }
