-- What following a tree of regions asks of these points: flags may be declared and set, and braces entered and left.
use Rattle.std.proofs.Common.{◌≡◌, ◌++◌, ℕ, Bool, true, false, List, [], ◌∷◌, Option, refl}
use Rattle.spv_module.specs.declared.inst.Function.{Function}
use Rattle.spv_module.specs.declared.inst.Inst.{Inst}
use Rattle.spv_types.specs.Tree.{truth}
use Rattle.traces.specs.Runs.{Supplied}
use Rattle.module_semantics.specs.Setting.{Setting}
use Rattle.module_semantics.specs.State.{Conf}
use Rattle.glsl_ast.specs.Tree.{Text}
use Rattle.glsl_semantics.specs.Shapes.{Typed}
use Rattle.glsl_semantics.specs.States.{Frame, State, put_in, declared, pushed, popped}
use Rattle.region_law.proofs.Regions.{names_of, flag_variable}
use Rattle.agree_law.specs.Agree.{Naming, IsOther}
use Rattle.agree_law.specs.Blocks.{have_result, At}
use Rattle.agree_law.specs.Points.{Body, Starts, Stops, Arrives, Returns}
use Rattle.agree_law.proofs.Braces.{exits, declares_in, puts_in, enters_in}

two_frames : (fs : List Frame) (x y : List Text) (ns : List (List Text)) → names_of fs ≡ x ∷ y ∷ ns → (f : Frame) × (g : Frame) × (gs : List Frame) × (fs ≡ f ∷ g ∷ gs)
two_frames [] x y ns e = cc
two_frames (f ∷ []) x y ns e = cc
two_frames (f ∷ g ∷ fs) x y ns e = (f, g, fs, refl)

module _ (m : Naming) (s : Setting) (Holds : Conf → Type 0) (f : Function) where
  at_declares : (b : ℕ) (done rest : List Inst) (c : Supplied Conf) (z : State) (x : Text) → IsOther m x → At m s Holds f b done rest c z → At m s Holds f b done rest c (record z { frames = declared z.frames x (flag_variable false) })
  at_declares b done rest c z x other a = record {
    stands = record { function = a.stands.function; block = a.stands.block; agree = declares_in m c.at z (have_result done) x (flag_variable false) other a.stands.agree; settled = a.stands.settled; holds = a.stands.holds; answers = a.stands.answers };
    next = a.next;
  }

  at_puts : (b : ℕ) (done rest : List Inst) (c : Supplied Conf) (z : State) (x : Text) (v : Bool) → IsOther m x → At m s Holds f b done rest c z → At m s Holds f b done rest c (record z { frames = put_in z.frames x (truth v) })
  at_puts b done rest c z x v other a = record {
    stands = record { function = a.stands.function; block = a.stands.block; agree = puts_in m c.at z (have_result done) x (truth v) other a.stands.agree; settled = a.stands.settled; holds = a.stands.holds; answers = a.stands.answers };
    next = a.next;
  }

  at_enters : (b : ℕ) (done rest : List Inst) (c : Supplied Conf) (z : State) → At m s Holds f b done rest c z → At m s Holds f b done rest c (pushed z)
  at_enters b done rest c z a = record {
    stands = record { function = a.stands.function; block = a.stands.block; agree = enters_in m c.at z (have_result done) a.stands.agree; settled = a.stands.settled; holds = a.stands.holds; answers = a.stands.answers };
    next = a.next;
  }

  -- at a block's beginning nothing is declared in it
  at_exits : (b : ℕ) (rest : List Inst) (c : Supplied Conf) (z : State) (x y : List Text) (ns : List (List Text)) → names_of z.frames ≡ x ∷ y ∷ ns → At m s Holds f b [] rest c z → At m s Holds f b [] rest c (popped z)
  at_exits b rest c z x y ns e a =
      let two = two_frames z.frames x y ns e in
      record {
        stands = record {
          function = a.stands.function;
          block = a.stands.block;
          agree = record { all = exits m c.at z two.0 two.1 two.2 two.3 a.stands.agree.all; local = λ n d e. let never : false ≡ true = d in cc };
          settled = a.stands.settled;
          holds = a.stands.holds;
          answers = a.stands.answers;
        };
        next = a.next;
      }

  module _ (body : (b : ℕ) → Option (Body f b)) where
    abbrev pub Start : ℕ → Supplied Conf → State → Type 0
    Start = Starts m s Holds f body

    abbrev pub Stop : ℕ → Supplied Conf → State → Type 0
    Stop = Stops m s Holds f body

    abbrev pub Arrive : ℕ → ℕ → Supplied Conf → State → Type 0
    Arrive = Arrives m s Holds f body

    abbrev pub Return : Supplied Conf → Option Typed → State → Type 0
    Return = Returns m s Holds f body

    pub start_declares : (b : ℕ) (c : Supplied Conf) (z : State) (x : Text) → IsOther m x → Start b c z → Start b c (record z { frames = declared z.frames x (flag_variable false) })
    start_declares b c z x other a = record { body_of = a.body_of; is = a.is; at = at_declares b [] (a.body_of.insts ++ a.body_of.last ∷ []) c z x other a.at }

    pub stop_declares : (b : ℕ) (c : Supplied Conf) (z : State) (x : Text) → IsOther m x → Stop b c z → Stop b c (record z { frames = declared z.frames x (flag_variable false) })
    stop_declares b c z x other a = record { body_of = a.body_of; is = a.is; at = at_declares b _ (a.body_of.last ∷ []) c z x other a.at }

    pub start_puts : (b : ℕ) (c : Supplied Conf) (z : State) (x : Text) (v : Bool) → IsOther m x → Start b c z → Start b c (record z { frames = put_in z.frames x (truth v) })
    start_puts b c z x v other a = record { body_of = a.body_of; is = a.is; at = at_puts b [] (a.body_of.insts ++ a.body_of.last ∷ []) c z x v other a.at }

    pub start_enters : (b : ℕ) (c : Supplied Conf) (z : State) → Start b c z → Start b c (pushed z)
    start_enters b c z a = record { body_of = a.body_of; is = a.is; at = at_enters b [] (a.body_of.insts ++ a.body_of.last ∷ []) c z a.at }

    stop_enters : (b : ℕ) (c : Supplied Conf) (z : State) → Stop b c z → Stop b c (pushed z)
    stop_enters b c z a = record { body_of = a.body_of; is = a.is; at = at_enters b _ (a.body_of.last ∷ []) c z a.at }

    pub arrives_enters : (b t : ℕ) (c : Supplied Conf) (z : State) → Arrive b t c z → Arrive b t c (pushed z)
    arrives_enters b t c z a = record { from = a.from; stops = stop_enters b a.from z a.stops; block = a.block; values = a.values; there = a.there; sources = a.sources; at = a.at; holds = a.holds }

    pub start_exits : (b : ℕ) (c : Supplied Conf) (z : State) (x y : List Text) (ns : List (List Text)) → names_of z.frames ≡ x ∷ y ∷ ns → Start b c z → Start b c (popped z)
    start_exits b c z x y ns e a = record { body_of = a.body_of; is = a.is; at = at_exits b (a.body_of.insts ++ a.body_of.last ∷ []) c z x y ns e a.at }

    pub returns_exits : (c : Supplied Conf) (r : Option Typed) (z : State) (x y : List Text) (ns : List (List Text)) → names_of z.frames ≡ x ∷ y ∷ ns → Return c r z → Return c r (popped z)
    returns_exits c r z x y ns e a =
        let two = two_frames z.frames x y ns e in
        record { last = a.last; rest = a.rest; gives = a.gives; agree = exits m c.at z two.0 two.1 two.2 two.3 a.agree; holds = a.holds; answers = a.answers }
