-- A call of a function: the step into it, what is known there, and what is known of the caller where the call has come back.
use Rattle.std.proofs.Common.{◌≡◌, ◌≤◌, ℕ, true, false, List, [], ◌∷◌, length, map, drop, Option, Some, None, refl, sym, ap, ◌∙◌, subst, arith}
use Rattle.spv_module.specs.declared.inst.Inst.{Inst}
use Rattle.spv_module.specs.declared.inst.Function.{Function}
use Rattle.spv_types.specs.Tree.{ValueTree}
use Rattle.op_semantics.specs.Component.{each_one}
use Rattle.profile_rules.specs.Entry.{function_of}
use Rattle.traces.specs.Runs.{Act, goes, fails, go, wrong, Supplied, supplied}
use Rattle.module_semantics.specs.Setting.{Setting}
use Rattle.module_semantics.specs.State.{Held, value, Frame, Conf, put}
use Rattle.module_semantics.specs.Operands.{held, arg}
use Rattle.module_semantics.specs.Steps.{with_some, passed, argument_of, entered, called, call, call_step, step_kind}
use Rattle.agree_law.proofs.Changes.{put_other}
use Rattle.agree_law.proofs.Machine.{machine, kind_is}
use Rattle.call_law.specs.Waits.{Wait, LentBy}
use Rattle.call_law.specs.Known.{is_parameter, IsLending, KeepsParameters}
use Rattle.call_law.specs.Frames.{AllWait, HoldsOfAll}
use Rattle.call_law.proofs.LeftBehind.{waiting, call_begins}
use Rattle.call_law.proofs.Again.{inside_again, inside_given}
use Rattle.function_law.specs.UnderWay.{IsKnown, IsUnderWay, IsRuled}
use Rattle.function_law.proofs.UnderWay.{known_kept}
use Rattle.agree_law.specs.Answers.{move}

call_goes : (s : Setting) (c : Conf) (rest : List Inst) (i : Inst) (g : Function) (hs : List Held) → function_of s.of.functions (arg i 0) ≡ Some g → each_one (held s c.top) (drop 1 i.args) ≡ Some hs → call_step s c rest i ≡ goes [] (called s c rest i g hs)
unfolding call_step
call_goes s c rest i g hs is have =
    ap (λ (o : Option Function). with_some o (λ f. with_some (each_one (held s c.top) (drop 1 i.args)) (λ arguments. goes [] (called s c rest i f arguments)))) is
    ∙ ap (λ (o : Option (List Held)). with_some o (λ arguments. goes [] (called s c rest i g arguments))) have

call_fails : (s : Setting) (c : Conf) (rest : List Inst) (i : Inst) (g : Function) → function_of s.of.functions (arg i 0) ≡ Some g → each_one (held s c.top) (drop 1 i.args) ≡ None → call_step s c rest i ≡ fails
unfolding call_step
call_fails s c rest i g is have =
    ap (λ (o : Option Function). with_some o (λ f. with_some (each_one (held s c.top) (drop 1 i.args)) (λ arguments. goes [] (called s c rest i f arguments)))) is
    ∙ ap (λ (o : Option (List Held)). with_some o (λ arguments. goes [] (called s c rest i g arguments))) have

-- the step into the call; without a meaning where an argument has nothing
pub goes_into : (s : Setting) (c : Supplied Conf) (rest : List Inst) (i : Inst) (g : Function) (hs : List Held) → c.at.top.rest ≡ i ∷ rest → step_kind i.op ≡ call → function_of s.of.functions (arg i 0) ≡ Some g → each_one (held s c.at.top) (drop 1 i.args) ≡ Some hs
    → machine s c ≡ go [] (supplied (called s c.at rest i g hs) c.answers)
goes_into s c rest i g hs next kind is have = kind_is s c i rest call next kind ∙ ap (λ (a : Act Conf). move a c.answers) (call_goes s c.at rest i g hs is have)

pub goes_wrong : (s : Setting) (c : Supplied Conf) (rest : List Inst) (i : Inst) (g : Function) → c.at.top.rest ≡ i ∷ rest → step_kind i.op ≡ call → function_of s.of.functions (arg i 0) ≡ Some g → each_one (held s c.at.top) (drop 1 i.args) ≡ None → machine s c ≡ wrong
goes_wrong s c rest i g next kind is have = kind_is s c i rest call next kind ∙ ap (λ (a : Act Conf). move a c.answers) (call_fails s c.at rest i g is have)

-- no calls stand so high below
none_waits : (h : ℕ) (J : List (Frame × ℕ) → Frame → Type 0) (ds : List (Frame × ℕ)) → length ds ≤ h → AllWait h J ds
none_waits h J [] le = tt
none_waits h J (d ∷ ds) le = ((λ more. absurd (omega (arith, le, more))), none_waits h J ds (let less : length ds ≤ h = omega (arith, le) in less))

module _ (s : Setting) (More : Conf → Type 0) (ruled : IsRuled s More) where
  -- What the call got of its caller's variables.
  abbrev pub Got : Conf → List Held → ℕ → ℕ → Type 0
  Got c hs = LentBy (map (passed (length c.below)) hs)

  abbrev pub InCall : Conf → List Inst → Inst → Function → List Held → Conf → Type 0
  InCall c rest i g hs = IsUnderWay s More (Got c hs) (waiting c rest i) g (argument_of g.params (map (passed (length c.below)) hs))

  given_at_first : (c : Conf) (rest : List Inst) (i : Inst) (g : Function) (hs : List Held) → (n : ℕ) → (called s c rest i g hs).top.ids n ≡ argument_of g.params (map (passed (length c.below)) hs) n
  unfolding entered
  given_at_first c rest i g hs n = refl

  function_at_first : (c : Conf) (rest : List Inst) (i : Inst) (g : Function) (hs : List Held) → (called s c rest i g hs).top.function ≡ g
  unfolding entered
  function_at_first c rest i g hs = refl

  -- a call is under way from its first moment
  pub way_begins : (c : Supplied Conf) (rest : List Inst) (i : Inst) (g : Function) (hs : List Held) → machine s c ≡ go [] (supplied (called s c.at rest i g hs) c.answers) → IsKnown s More c.at → InCall c.at rest i g hs (called s c.at rest i g hs)
  way_begins c rest i g hs goes_on known =
      let now : IsKnown s More (called s c.at rest i g hs) = known_kept s More ruled c (supplied (called s c.at rest i g hs) c.answers) [] goes_on known in
      let here : IsLending s (called s c.at rest i g hs).below (called s c.at rest i g hs).top = now.lending.top (omega arith) in
      record {
        known = now;
        inside = call_begins s c.at rest i g hs;
        parameters = record {
          top = λ le. record { code = here.code; above = le; same = λ same. (function_at_first c.at rest i g hs, λ n on. given_at_first c.at rest i g hs n) };
          below = none_waits (length (waiting c.at rest i)) _ (waiting c.at rest i) (omega arith);
        };
        height = refl;
      }

  module _ (IsLent : ℕ → ℕ → Type 0) (start : List (Frame × ℕ)) (f : Function) (given : ℕ → Option Held) where
    abbrev Way : Conf → Type 0
    Way = IsUnderWay s More IsLent start f given

    -- the parameters of the caller, where its call has come back
    parameters_again : (c d : Conf) (top : Frame) (below : List (Frame × ℕ)) → Way c → IsLending s below top → length below ≡ length c.below → top.function ≡ c.top.function → ((n : ℕ) → is_parameter c.top.function n ≡ true → top.ids n ≡ c.top.ids n)
        → HoldsOfAll (length start) (KeepsParameters s (length start) f given) (record d { top = top; below = below })
    parameters_again c d top below way lending same function ids =
        let height : length below ≡ length start = same ∙ way.height in
        let was : KeepsParameters s (length start) f given c.below c.top = way.parameters.top (let now = way.height in omega (arith, now)) in
        let first = was.same way.height in
        record {
          top = λ le. record {
            code = lending.code;
            above = le;
            same = λ e. (function ∙ first.0, λ n on. ids n (subst (λ k. is_parameter k n ≡ true) (sym first.0) on) ∙ first.1 n on);
          };
          below = none_waits (length start) _ below (omega (arith, height));
        }

    -- what is known of the caller again, without a result of the call and with one
    pub way_again : (c : Conf) (d : Supplied Conf) (rest : List Inst) (i : Inst) (ns : List ℕ) (hs : List Held) (frame : Frame) (id : ℕ) (below : List (Frame × ℕ)) → each_one (held s c.top) ns ≡ Some hs → Wait (Got c hs) (waiting c rest i) ((frame, id) ∷ below) → length below ≡ length c.below
        → IsKnown s More d.at → machine s d ≡ go [] (supplied (record d.at { top = frame; below = below }) d.answers) → Way c → Way (record d.at { top = frame; below = below })
    way_again c d rest i ns hs frame id below have waits same known goes_on way =
        let now : IsKnown s More (record d.at { top = frame; below = below }) = known_kept s More ruled d (supplied (record d.at { top = frame; below = below }) d.answers) [] goes_on known in
        record {
          known = now;
          inside = inside_again s IsLent start c d.at rest i ns hs frame id below have waits way.inside;
          parameters = parameters_again c d.at frame below way (now.lending.top (omega arith)) same waits.1.function (λ n on. waits.1.ids n);
          height = same ∙ way.height;
        }

    pub way_given : (c : Conf) (d : Supplied Conf) (rest : List Inst) (i : Inst) (ns : List ℕ) (hs : List Held) (frame : Frame) (id : ℕ) (below : List (Frame × ℕ)) (v : ValueTree) → each_one (held s c.top) ns ≡ Some hs → Wait (Got c hs) (waiting c rest i) ((frame, id) ∷ below) → length below ≡ length c.below
        → is_parameter c.top.function id ≡ false → IsKnown s More d.at → machine s d ≡ go [] (supplied (record d.at { top = record frame { ids = put frame.ids id (value v) }; below = below }) d.answers) → Way c
        → Way (record d.at { top = record frame { ids = put frame.ids id (value v) }; below = below })
    way_given c d rest i ns hs frame id below v have waits same result known goes_on way =
        let there : Conf = record d.at { top = record frame { ids = put frame.ids id (value v) }; below = below } in
        let now : IsKnown s More there = known_kept s More ruled d (supplied there d.answers) [] goes_on known in
        record {
          known = now;
          inside = inside_given s IsLent start c d.at rest i ns hs frame id below v have waits way.inside;
          parameters = parameters_again c d.at (record frame { ids = put frame.ids id (value v) }) below way (now.lending.top (omega arith)) same waits.1.function
              (λ n on. put_other frame.ids id n (value v) (λ one. let never : true ≡ false = sym on ∙ (ap (is_parameter c.top.function) one ∙ result) in cc) ∙ waits.1.ids n);
          height = same ∙ way.height;
        }
