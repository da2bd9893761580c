-- Each step of a module keeps what is known of its state; and what is known of the call under way, until that returns. So it is known of the caller again.
use Rattle.std.proofs.Common.{◌≡◌, ℕ, Bool, true, false, List, [], ◌∷◌, length, Option, Some, None, refl, ◌∙◌, subst, arith}
use Rattle.spv_module.specs.declared.inst.Inst.{Inst}
use Rattle.spv_module.specs.declared.inst.Function.{Function}
use Rattle.traces.specs.Events.{Event, event_of}
use Rattle.traces.specs.Runs.{go, told, Act, goes, asks, stops, fails, Supplied, supplied}
use Rattle.module_semantics.specs.Setting.{Setting}
use Rattle.module_semantics.specs.State.{Held, Frame, Conf}
use Rattle.module_semantics.specs.Steps.{step_kind, act}
use Rattle.fits_law.specs.State.{ConfFits, ActFits}
use Rattle.fits_law.specs.Typed.{IsTyped}
use Rattle.fits_law.proofs.Steps.{fits_step}
use Rattle.agree_law.specs.Answers.{are_words, told_words, move}
use Rattle.agree_law.specs.Evaluates.{IsKept}
use Rattle.agree_law.proofs.Machine.{machine}
use Rattle.call_law.proofs.Inside.{inside_kept}
use Rattle.call_law.specs.Known.{IsValued, IsLending, KeepsParameters}
use Rattle.call_law.proofs.CodeKept.{next_of}
use Rattle.call_law.proofs.FramesKept.{all_kept}
use Rattle.call_law.proofs.Valued.{valued_closed}
use Rattle.call_law.proofs.Lending.{lending_closed}
use Rattle.call_law.proofs.Parameters.{parameters_closed}
use Rattle.function_law.specs.UnderWay.{IsKnown, IsUnderWay, IsRuled}

module _ (s : Setting) (More : Conf → Type 0) (ruled : IsRuled s More) where
  typed_next : (c : Conf) → IsKnown s More c → (i : Inst) (rest : List Inst) → c.top.rest ≡ i ∷ rest → IsTyped s c.top.function i (step_kind i.op)
  typed_next c known i rest next =
      let here : IsLending s c.below c.top = known.lending.top (omega arith) in
      ruled.typed c.top.function here.code.of_module i (next_of s c.top i rest next here.code)

  fits_kept : (c d : Supplied Conf) (e : List Event) → machine s c ≡ go e d → IsKnown s More c.at → ConfFits s d.at
  fits_kept c d e is known = by_act (act s c.at) (fits_step s ruled.fits c.at known.fits (typed_next c.at known)) c.answers is
    where
      to : (f : Conf) (answers : List (List ℕ)) → ConfFits s f → supplied f answers ≡ d → ConfFits s d.at
      to f answers there same = subst (λ (q : Supplied Conf). ConfFits s q.at) same there

      by_event : (words : List ℕ) (g : List ℕ → Conf) (o : Option Event) (more : List (List ℕ)) → ((x : Event) → o ≡ Some x → ConfFits s (g words)) → told o (g words) more ≡ go e d → ConfFits s d.at
      by_event words g None more there is = cc
      by_event words g (Some x) more there is = to (g words) more (there x refl) (let same : supplied (g words) more ≡ d = cc in same)

      by_act : (a : Act Conf) → ActFits s a → (answers : List (List ℕ)) → move a answers ≡ go e d → ConfFits s d.at
      by_act (goes x f) there answers is = to f answers there (let same : supplied f answers ≡ d = cc in same)
      by_act (asks a f) there [] is = cc
      by_act (asks a f) there (words ∷ more) is = by_words (are_words words) is
        where
          by_words : (b : Bool) → told_words b a f words more ≡ go e d → ConfFits s d.at
          by_words true is = by_event words f (event_of a words) more (there words) is
          by_words false is = cc
      by_act stops there answers is = cc
      by_act fails there answers is = cc

  pub known_kept : (c d : Supplied Conf) (e : List Event) → machine s c ≡ go e d → IsKnown s More c.at → IsKnown s More d.at
  known_kept c d e is known = record {
    fits = fits_kept c d e is known;
    valued = all_kept 0 IsValued s (valued_closed s) c d e is (omega arith) known.valued;
    lending = all_kept 0 (IsLending s) s (lending_closed s ruled.lends) c d e is (omega arith) known.lending;
    more = ruled.more c d e is known.more;
  }

  -- while the call is under way
  pub way_kept : (IsLent : ℕ → ℕ → Type 0) (start : List (Frame × ℕ)) (g : Function) (given : ℕ → Option Held) → IsKept (machine s) (IsUnderWay s More IsLent start g given)
  way_kept IsLent start g given c d e same is way =
      let height : length d.at.below ≡ length start = same ∙ way.height in
      let now = way.height in
      record {
        known = known_kept c d e is way.known;
        inside = inside_kept s IsLent start c d e (omega (arith, height)) is way.inside;
        parameters = all_kept (length start) (KeepsParameters s (length start) g given) s (parameters_closed s ruled.lends (length start) g given) c d e is (omega (arith, now)) way.parameters;
        height = height;
      }
