-- What holds of each call under way, whatever it does next.
use Rattle.std.specs.Prelude.{◌≡◌, ◌≤◌, ℕ, Bool, true, false, List, ◌++◌, [], ◌∷◌, length, map, drop, Some, slice_get}
use Rattle.spv_ops.specs.declared.Terminator.{Terminator}
use Rattle.spv_module.specs.declared.inst.Inst.{Inst}
use Rattle.spv_module.specs.declared.inst.Block.{Block}
use Rattle.spv_module.specs.declared.inst.Function.{Function}
use Rattle.spv_types.specs.Tree.{ValueTree}
use Rattle.spv_index.specs.Locals.{block_in}
use Rattle.spv_index.specs.Pointers.{pointee_of}
use Rattle.op_semantics.specs.Component.{each_one}
use Rattle.profile_rules.specs.Entry.{function_of}
use Rattle.traces.specs.Runs.{Act, goes, asks, stops, fails}
use Rattle.module_semantics.specs.Setting.{Setting}
use Rattle.module_semantics.specs.Memory.{are_allowed}
use Rattle.module_semantics.specs.State.{own, Held, value, pointer, Frame, Conf, put, call_at, with_call, with_variable}
use Rattle.module_semantics.specs.Operands.{held, pointer_at, Target, arg, words_at}
use Rattle.module_semantics.specs.Steps.{StepKind, chain, variable, call, branch, step_kind, base, without_based, phis, behind_phis, passed, entered, target_label, phi_value, present_label, with_phis}

-- J: of a call, and of those below it; where at least h calls stand below that one
module _ (h : ℕ) (J : List (Frame × ℕ) → Frame → Type 0) where
  -- of a call that waits, also where its result has got a value
  abbrev pub Waits : List (Frame × ℕ) → Frame × ℕ → Type 0
  Waits ds d = J ds d.0 × ((v : ValueTree) → J ds (record d.0 { ids = put d.0.ids d.1 (value v) }))

  abbrev pub AllWait : List (Frame × ℕ) → Type 0
  AllWait [] = Unit {0}
  AllWait (d ∷ ds) = (h ≤ length ds → Waits ds d) × AllWait ds

  pub record HoldsOfAll (c : Conf) : Type 0 where
    pub top : h ≤ length c.below → J c.below c.top
    pub below : AllWait c.below

  -- what a machine does next leads to states of which it holds
  abbrev pub ActKeeps : Act Conf → Type 0
  ActKeeps (goes e c) = HoldsOfAll c
  ActKeeps (asks a f) = (words : List ℕ) → HoldsOfAll (f words)
  ActKeeps stops = Unit {0}
  ActKeeps fails = Unit {0}

-- its result is a pointer
abbrev pub makes_pointer : StepKind → Bool
makes_pointer chain = true
makes_pointer variable = true
makes_pointer _ = false

-- J: of a call, and of those below it
module _ (J : List (Frame × ℕ) → Frame → Type 0) where
  -- each change that an instruction makes of a call keeps it, and a call that begins has it: where the instruction is the next one
  pub record IsClosed (s : Setting) : Type 0 where
    pub passes : (ds : List (Frame × ℕ)) (f : Frame) (i : Inst) (rest : List Inst) → f.rest ≡ i ∷ rest → J ds f → J ds (record f { rest = rest })
    pub gets : (ds : List (Frame × ℕ)) (f : Frame) (i : Inst) (rest : List Inst) (v : ValueTree) → f.rest ≡ i ∷ rest → makes_pointer (step_kind i.op) ≡ false → J ds f → J ds (record f { rest = rest; ids = put f.ids i.result (value v) })
    pub leads : (ds : List (Frame × ℕ)) (f : Frame) (i : Inst) (rest : List Inst) (p : Target) (indexes : List ℕ) (ty : ℕ) → f.rest ≡ i ∷ rest → step_kind i.op ≡ chain → pointer_at s f (base i) ≡ Some p → words_at s f (drop 1 i.args) ≡ Some indexes → pointee_of s.of.globals f.function (base i) ≡ Some ty → are_allowed s ty indexes ≡ true
        → J ds f → J ds (record f { rest = rest; ids = put (without_based f.function i.result f.ids) i.result (pointer p.0 (p.1 ++ indexes)) })
    pub declares : (ds : List (Frame × ℕ)) (f : Frame) (i : Inst) (rest : List Inst) (v : ValueTree) → f.rest ≡ i ∷ rest → step_kind i.op ≡ variable → f.variables i.result ≡ Some v → J ds f → J ds (record f { rest = rest; ids = put f.ids i.result (pointer (own i.result) []) })
    -- a variable of the call, or of one below it, gets another value
    pub stores : (ds : List (Frame × ℕ)) (f : Frame) (n : ℕ) (v : ValueTree) → J ds f → J ds (with_variable n v f)
    pub lends : (ds : List (Frame × ℕ)) (f : Frame) (depth n : ℕ) (v : ValueTree) (g : Frame) → call_at depth ds ≡ Some g → J ds f → J (with_call depth (with_variable n v g) ds) f
    pub calls : (ds : List (Frame × ℕ)) (f : Frame) (i : Inst) (rest : List Inst) (g : Function) (hs : List Held) → f.rest ≡ i ∷ rest → step_kind i.op ≡ call → function_of s.of.functions (arg i 0) ≡ Some g → each_one (held s f) (drop 1 i.args) ≡ Some hs
        → J ds f → J ((record f { rest = rest }, i.result) ∷ ds) (entered s g (map (passed (length ds)) hs))
    pub goes_to : (ds : List (Frame × ℕ)) (f : Frame) (i : Inst) (rest : List Inst) (o : Terminator) (label t : ℕ) (b : Block) (values : List ValueTree) → f.rest ≡ i ∷ rest → step_kind i.op ≡ branch o → target_label o s f i ≡ Some label → block_in f.function label ≡ Some t → slice_get f.function.blocks t ≡ Some b → each_one (phi_value s f (present_label f)) (phis b) ≡ Some values
        → J ds f → J ds (record f { block = t; rest = behind_phis b; ids = with_phis (phis b) values f.ids })
