-- What the machine of a module does next, by the kind of the instruction: where it goes on, asks or has no meaning.
use Rattle.std.proofs.Common.{◌≡◌, ◌⊎◌, ◌++◌, ℕ, zero, suc, Bool, true, false, List, [], ◌∷◌, Option, Some, None, inl, inr, refl, ap, ◌∙◌}
use Rattle.std.specs.Prelude.{slice_get, option_map, option_and_then}
use Rattle.spv_ops.specs.declared.AtomicOp.{AtomicOp}
use Rattle.spv_ops.specs.declared.Terminator.{Terminator}
use Rattle.spv_module.specs.declared.inst.Inst.{Inst}
use Rattle.spv_module.specs.declared.inst.Block.{Block}
use Rattle.spv_types.specs.Tree.{ValueTree, word}
use Rattle.spv_index.specs.Locals.{block_in}
use Rattle.op_semantics.specs.Component.{each_one}
use Rattle.traces.specs.Events as event
use Rattle.traces.specs.Events.{updating}
use Rattle.traces.specs.Events.{Event, event_of}
use Rattle.traces.specs.Runs.{Act, goes, asks, stops, fails, go, told, before, after, exec, Supplied, supplied, step_of}
use Rattle.traces.specs.Runs as runs
use Rattle.module_semantics.specs.Setting.{Setting}
use Rattle.module_semantics.specs.State.{value, pointer, own, Frame, Conf}
use Rattle.module_semantics.specs.Memory.{location, elements}
use Rattle.module_semantics.specs.Operands.{value_at, word_at, pointer_at, Target, arg}
use Rattle.module_semantics.specs.Accesses.{seen}
pub use Rattle.agree_law.specs.Answers.{machine}
use Rattle.agree_law.specs.Answers.{are_words, AreWorded, told_words, move}
use Rattle.agree_law.specs.Blocks.{measured}
use Rattle.module_semantics.specs.Steps.{StepKind, step_kind, step_by, act, act_on, with_some, advanced, set, set_value, set_found, atomic_step, atomic_operation, atomic_operands, length_step, variable_step, memory_barrier_step, control_barrier_step, memory_barriers, computed, operation_step, load_step, load_from, store_step, store_to, edge_step, branch_step, target_label, phis, phi_value, present_label, gone_to, return_step, return_value_step, given, given_to}

-- a step of it is one of the module's
pub machine_steps : (s : Setting) (c d : Supplied Conf) (e : List Event) → machine s c ≡ go e d → step_of (act s) c ≡ go e d
machine_steps s c d e is = by_act (act s c.at) c.answers is
  where
    by_act : (a : Act Conf) (answers : List (List ℕ)) → move a answers ≡ go e d → runs.move a answers ≡ go e d
    by_act (goes x f) answers is = is
    by_act (asks a f) [] is = cc
    by_act (asks a f) (words ∷ more) is = by_told (are_words words) is
      where
        by_told : (b : Bool) → told_words b a f words more ≡ go e d → told (event_of a words) (f words) more ≡ go e d
        by_told true is = is
        by_told false is = cc
    by_act stops answers is = cc
    by_act fails answers is = cc

-- and where all answers are words it runs as the module
pub machine_runs : (s : Setting) (n : ℕ) (c : Supplied Conf) → AreWorded c.answers → exec (machine s) n c ≡ exec (step_of (act s)) n c
machine_runs s zero c worded = refl
machine_runs s (suc n) c worded = by_act (act s c.at) c.answers worded (machine_runs s n)
  where
    Later : Type 0
    Later = (d : Supplied Conf) → AreWorded d.answers → exec (machine s) n d ≡ exec (step_of (act s)) n d

    by_event : (o : Option Event) (f : Conf) (more : List (List ℕ)) → AreWorded more → Later → after (told o f more) (exec (machine s) n) ≡ after (told o f more) (exec (step_of (act s)) n)
    by_event None f more worded later = refl
    by_event (Some x) f more worded later = ap (before (x ∷ [])) (later (supplied f more) worded)

    by_act : (a : Act Conf) (answers : List (List ℕ)) → AreWorded answers → Later → after (move a answers) (exec (machine s) n) ≡ after (runs.move a answers) (exec (step_of (act s)) n)
    by_act (goes e f) answers worded later = ap (before e) (later (supplied f answers) worded)
    by_act (asks a f) [] worded later = refl
    by_act (asks a f) (words ∷ more) worded later =
        ap (λ (b : Bool). after (told_words b a f words more) (exec (machine s) n)) worded.0
        ∙ by_event (event_of a words) (f words) more worded.1 later
    by_act stops answers worded later = refl
    by_act fails answers worded later = refl

-- the instruction that is next
pub step_is : (s : Setting) (c : Supplied Conf) (i : Inst) (rest : List Inst) → c.at.top.rest ≡ i ∷ rest → machine s c ≡ move (step_by (step_kind i.op) s c.at rest i) c.answers
unfolding act
step_is s c i rest is = ap (λ (r : List Inst). move (act_on s c.at r) c.answers) is

pub kind_is : (s : Setting) (c : Supplied Conf) (i : Inst) (rest : List Inst) (kind : StepKind) → c.at.top.rest ≡ i ∷ rest → step_kind i.op ≡ kind → machine s c ≡ move (step_by kind s c.at rest i) c.answers
kind_is s c i rest kind is same = step_is s c i rest is ∙ ap (λ (q : StepKind). move (step_by q s c.at rest i) c.answers) same

-- an operation
pub operation_goes : (s : Setting) (c : Conf) (rest : List Inst) (i : Inst) (v : ValueTree) → computed s c.top i ≡ Some v → operation_step s c rest i ≡ goes [] (set_value c rest i v)
unfolding operation_step
operation_goes s c rest i v is = ap (λ (o : Option ValueTree). with_some o (λ v. goes [] (set_value c rest i v))) is

pub operation_fails : (s : Setting) (c : Conf) (rest : List Inst) (i : Inst) → computed s c.top i ≡ None → operation_step s c rest i ≡ fails
unfolding operation_step
operation_fails s c rest i is = ap (λ (o : Option ValueTree). with_some o (λ v. goes [] (set_value c rest i v))) is

-- a load: of a variable that others see, and of one that they do not
pub load_is : (s : Setting) (c : Conf) (rest : List Inst) (i : Inst) (p : Target) → pointer_at s c.top (arg i 0) ≡ Some p → load_step s c rest i ≡ load_from s c rest i p (seen s p.0)
unfolding load_step
load_is s c rest i p is = ap (λ (o : Option Target). with_some o (λ p. load_from s c rest i p (seen s p.0))) is

pub load_fails : (s : Setting) (c : Conf) (rest : List Inst) (i : Inst) → pointer_at s c.top (arg i 0) ≡ None → load_step s c rest i ≡ fails
unfolding load_step
load_fails s c rest i is = ap (λ (o : Option Target). with_some o (λ p. load_from s c rest i p (seen s p.0))) is

-- a store
pub store_goes : (s : Setting) (c : Conf) (rest : List Inst) (i : Inst) (p : Target) (v : ValueTree) → pointer_at s c.top (arg i 0) ≡ Some p → value_at s c.top (arg i 1) ≡ Some v → store_step s c rest i ≡ store_to s c rest p v (seen s p.0)
unfolding store_step
store_goes s c rest i p v is has =
    ap (λ (o : Option Target). with_some o (λ p. with_some (value_at s c.top (arg i 1)) (λ v. store_to s c rest p v (seen s p.0)))) is
    ∙ ap (λ (o : Option ValueTree). with_some o (λ v. store_to s c rest p v (seen s p.0))) has

pub store_fails : (s : Setting) (c : Conf) (rest : List Inst) (i : Inst) → (pointer_at s c.top (arg i 0) ≡ None) ⊎ (value_at s c.top (arg i 1) ≡ None) → store_step s c rest i ≡ fails
unfolding store_step
store_fails s c rest i (inl is) = ap (λ (o : Option Target). with_some o (λ p. with_some (value_at s c.top (arg i 1)) (λ v. store_to s c rest p v (seen s p.0)))) is
store_fails s c rest i (inr none) = ap (λ (o : Option ValueTree). with_some (pointer_at s c.top (arg i 0)) (λ p. with_some o (λ v. store_to s c rest p v (seen s p.0)))) none ∙ by_pointer (pointer_at s c.top (arg i 0))
  where
    by_pointer : (o : Option Target) → with_some o (λ p. fails) ≡ fails
    by_pointer None = refl
    by_pointer (Some p) = refl

-- Along an edge the machine comes to the block, or has no meaning, where a phi has no value.
pub record IsAlong (s : Setting) (c : Conf) (label t : ℕ) : Type 0 where
  pub block : Block
  pub values : List ValueTree
  pub there : slice_get c.top.function.blocks t ≡ Some block
  pub sources : each_one (phi_value s c.top (present_label c.top)) (phis block) ≡ Some values
  pub goes_there : edge_step s c label ≡ goes [] (gone_to c t block values)

pub edge_goes : (s : Setting) (c : Conf) (label t : ℕ) → block_in c.top.function label ≡ Some t → IsAlong s c label t ⊎ (edge_step s c label ≡ fails)
unfolding edge_step
edge_goes s c label t is = by_block (slice_get c.top.function.blocks t) refl
  where
    E : Option Block → Act Conf
    E o = with_some o (λ b. with_some (each_one (phi_value s c.top (present_label c.top)) (phis b)) (λ values. goes [] (gone_to c t b values)))

    first : edge_step s c label ≡ E (slice_get c.top.function.blocks t)
    first = ap (λ (o : Option ℕ). with_some o (λ t. with_some (slice_get c.top.function.blocks t) (λ b. with_some (each_one (phi_value s c.top (present_label c.top)) (phis b)) (λ values. goes [] (gone_to c t b values))))) is

    by_values : (b : Block) (o : Option (List ValueTree)) → slice_get c.top.function.blocks t ≡ Some b → each_one (phi_value s c.top (present_label c.top)) (phis b) ≡ o → IsAlong s c label t ⊎ (edge_step s c label ≡ fails)
    by_values b None there e = inr (first ∙ ap E there ∙ ap (λ (o : Option (List ValueTree)). with_some o (λ values. goes [] (gone_to c t b values))) e)
    by_values b (Some vs) there e = inl (record { block = b; values = vs; there = there; sources = e; goes_there = first ∙ ap E there ∙ ap (λ (o : Option (List ValueTree)). with_some o (λ values. goes [] (gone_to c t b values))) e })

    by_block : (o : Option Block) → slice_get c.top.function.blocks t ≡ o → IsAlong s c label t ⊎ (edge_step s c label ≡ fails)
    by_block None there = inr (first ∙ ap E there)
    by_block (Some b) there = by_values b (each_one (phi_value s c.top (present_label c.top)) (phis b)) there refl

-- a terminator that goes to a label, or to none
pub branch_goes : (s : Setting) (c : Conf) (o : Terminator) (i : Inst) (label : ℕ) → target_label o s c.top i ≡ Some label → branch_step o s c i ≡ edge_step s c label
unfolding branch_step
branch_goes s c o i label is = ap (λ (l : Option ℕ). with_some l (edge_step s c)) is

pub branch_fails : (s : Setting) (c : Conf) (o : Terminator) (i : Inst) → target_label o s c.top i ≡ None → branch_step o s c i ≡ fails
unfolding branch_step
branch_fails s c o i is = ap (λ (l : Option ℕ). with_some l (edge_step s c)) is

-- what has no value is not given
pub return_value_fails : (s : Setting) (c : Conf) (i : Inst) → value_at s c.top (arg i 0) ≡ None → return_value_step s c i ≡ fails
unfolding return_value_step
return_value_fails s c i is = ap (λ (o : Option ValueTree). with_some o (λ v. given_to v c c.below)) is

-- an atomic instruction, and what it lacks where it has no meaning
pub atomic_goes : (o : AtomicOp) (s : Setting) (c : Conf) (rest : List Inst) (i : Inst) (p : Target) (v : Inst) (ws : List ℕ) → pointer_at s c.top (arg i 0) ≡ Some p → seen s p.0 ≡ Some v → atomic_operands o s c.top i ≡ Some ws
    → atomic_step o s c rest i ≡ asks (updating (atomic_operation o) (location s v p.1) ws) (set_found c rest i o)
unfolding atomic_step
atomic_goes o s c rest i p v ws is sees has =
    ap (λ (q : Option Target). with_some q (λ p. with_some (seen s p.0) (λ v. with_some (atomic_operands o s c.top i) (λ operands. asks (updating (atomic_operation o) (location s v p.1) operands) (set_found c rest i o))))) is
    ∙ ap (λ (q : Option Inst). with_some q (λ v. with_some (atomic_operands o s c.top i) (λ operands. asks (updating (atomic_operation o) (location s v p.1) operands) (set_found c rest i o)))) sees
    ∙ ap (λ (q : Option (List ℕ)). with_some q (λ operands. asks (updating (atomic_operation o) (location s v p.1) operands) (set_found c rest i o))) has

-- where each of these has something, or one has not
pub record IsUpdate (o : AtomicOp) (s : Setting) (c : Conf) (rest : List Inst) (i : Inst) : Type 0 where
  pub target : Target
  pub variable : Inst
  pub operands : List ℕ
  pub pointer_is : pointer_at s c.top (arg i 0) ≡ Some target
  pub seen_is : seen s target.0 ≡ Some variable
  pub operands_are : atomic_operands o s c.top i ≡ Some operands

pub atomic_cases : (o : AtomicOp) (s : Setting) (c : Conf) (rest : List Inst) (i : Inst) → IsUpdate o s c rest i ⊎ (atomic_step o s c rest i ≡ fails)
unfolding atomic_step
atomic_cases o s c rest i = by_pointer (pointer_at s c.top (arg i 0)) refl
  where
    asked : Target → Inst → Option (List ℕ) → Act Conf
    asked p v q = with_some q (λ operands. asks (updating (atomic_operation o) (location s v p.1) operands) (set_found c rest i o))

    seen_by : Target → Option Inst → Act Conf
    seen_by p q = with_some q (λ v. asked p v (atomic_operands o s c.top i))

    first : Option Target → Act Conf
    first q = with_some q (λ p. seen_by p (seen s p.0))

    by_operands : (p : Target) (v : Inst) (q : Option (List ℕ)) → pointer_at s c.top (arg i 0) ≡ Some p → seen s p.0 ≡ Some v → atomic_operands o s c.top i ≡ q → IsUpdate o s c rest i ⊎ (atomic_step o s c rest i ≡ fails)
    by_operands p v None is sees has = inr (ap first is ∙ ap (seen_by p) sees ∙ ap (asked p v) has)
    by_operands p v (Some ws) is sees has = inl (record { target = p; variable = v; operands = ws; pointer_is = is; seen_is = sees; operands_are = has })

    by_seen : (p : Target) (q : Option Inst) → pointer_at s c.top (arg i 0) ≡ Some p → seen s p.0 ≡ q → IsUpdate o s c rest i ⊎ (atomic_step o s c rest i ≡ fails)
    by_seen p None is sees = inr (ap first is ∙ ap (seen_by p) sees)
    by_seen p (Some v) is sees = by_operands p v (atomic_operands o s c.top i) is sees refl

    by_pointer : (q : Option Target) → pointer_at s c.top (arg i 0) ≡ q → IsUpdate o s c rest i ⊎ (atomic_step o s c rest i ≡ fails)
    by_pointer None is = inr (ap first is)
    by_pointer (Some p) is = by_seen p (seen s p.0) is refl

-- the length of an array
pub length_goes : (s : Setting) (c : Conf) (rest : List Inst) (i : Inst) (w : ℕ) → measured s c.top i ≡ Some (value (word w)) → length_step s c rest i ≡ goes [] (set_value c rest i (word w))
unfolding length_step
length_goes s c rest i w is = by_pointer (pointer_at s c.top (arg i 0)) is
  where
    by_seen : (p : Target) (q : Option Inst) → option_map (λ (v : Inst). value (word (elements s v (arg i 1)))) q ≡ Some (value (word w)) → with_some q (λ v. goes [] (set_value c rest i (word (elements s v (arg i 1))))) ≡ goes [] (set_value c rest i (word w))
    by_seen p None e = cc
    by_seen p (Some v) e = let same : elements s v (arg i 1) ≡ w = cc in ap (λ w. goes [] (set_value c rest i (word w))) same

    by_pointer : (q : Option Target) → option_and_then (λ (p : Target). option_map (λ (v : Inst). value (word (elements s v (arg i 1)))) (seen s p.0)) q ≡ Some (value (word w))
        → with_some q (λ p. with_some (seen s p.0) (λ v. goes [] (set_value c rest i (word (elements s v (arg i 1)))))) ≡ goes [] (set_value c rest i (word w))
    by_pointer None e = cc
    by_pointer (Some p) e = by_seen p (seen s p.0) e

pub length_fails : (s : Setting) (c : Conf) (rest : List Inst) (i : Inst) → measured s c.top i ≡ None → length_step s c rest i ≡ fails
unfolding length_step
length_fails s c rest i is = by_pointer (pointer_at s c.top (arg i 0)) is
  where
    by_seen : (q : Option Inst) → option_map (λ (v : Inst). value (word (elements s v (arg i 1)))) q ≡ None → with_some q (λ v. goes [] (set_value c rest i (word (elements s v (arg i 1))))) ≡ fails
    by_seen None e = refl
    by_seen (Some v) e = cc

    by_pointer : (q : Option Target) → option_and_then (λ (p : Target). option_map (λ (v : Inst). value (word (elements s v (arg i 1)))) (seen s p.0)) q ≡ None
        → with_some q (λ p. with_some (seen s p.0) (λ v. goes [] (set_value c rest i (word (elements s v (arg i 1)))))) ≡ fails
    by_pointer None e = refl
    by_pointer (Some p) e = by_seen (seen s p.0) e

-- it is a word, where there is one
pub length_cases : (s : Setting) (c : Conf) (i : Inst) → ((w : ℕ) × (measured s c.top i ≡ Some (value (word w)))) ⊎ (measured s c.top i ≡ None)
length_cases s c i = by_pointer (pointer_at s c.top (arg i 0))
  where
    by_seen : (q : Option Inst) → ((w : ℕ) × (option_map (λ (v : Inst). value (word (elements s v (arg i 1)))) q ≡ Some (value (word w)))) ⊎ (option_map (λ (v : Inst). value (word (elements s v (arg i 1)))) q ≡ None)
    by_seen None = inr refl
    by_seen (Some v) = inl (elements s v (arg i 1), refl)

    by_pointer : (q : Option Target) → ((w : ℕ) × (option_and_then (λ (p : Target). option_map (λ (v : Inst). value (word (elements s v (arg i 1)))) (seen s p.0)) q ≡ Some (value (word w)))) ⊎ (option_and_then (λ (p : Target). option_map (λ (v : Inst). value (word (elements s v (arg i 1)))) (seen s p.0)) q ≡ None)
    by_pointer None = inr refl
    by_pointer (Some p) = by_seen (seen s p.0)

-- OpVariable in a function
pub variable_goes : (s : Setting) (c : Conf) (rest : List Inst) (i : Inst) → (variable_step s c rest i ≡ goes [] (set c rest i (pointer (own i.result) []))) ⊎ (variable_step s c rest i ≡ fails)
unfolding variable_step
variable_goes s c rest i = by_value (c.top.variables i.result)
  where
    by_value : (o : Option ValueTree) → (with_some o (λ v. goes [] (set c rest i (pointer (own i.result) []))) ≡ goes [] (set c rest i (pointer (own i.result) []))) ⊎ (with_some o (λ v. goes [] (set c rest i (pointer (own i.result) []))) ≡ fails)
    by_value None = inr refl
    by_value (Some v) = inl refl

-- barriers, by the word of the semantics
pub memory_barrier_goes : (s : Setting) (c : Conf) (rest : List Inst) (i : Inst) (w : ℕ) → word_at s c.top (arg i 1) ≡ Some w → memory_barrier_step s c rest i ≡ goes (memory_barriers w) (advanced c rest)
unfolding memory_barrier_step
memory_barrier_goes s c rest i w is = ap (λ (o : Option ℕ). with_some o (λ w. goes (memory_barriers w) (advanced c rest))) is

pub memory_barrier_fails : (s : Setting) (c : Conf) (rest : List Inst) (i : Inst) → word_at s c.top (arg i 1) ≡ None → memory_barrier_step s c rest i ≡ fails
unfolding memory_barrier_step
memory_barrier_fails s c rest i is = ap (λ (o : Option ℕ). with_some o (λ w. goes (memory_barriers w) (advanced c rest))) is

pub control_barrier_goes : (s : Setting) (c : Conf) (rest : List Inst) (i : Inst) (w : ℕ) → word_at s c.top (arg i 2) ≡ Some w → control_barrier_step s c rest i ≡ goes (memory_barriers w ++ event.control_barrier ∷ []) (advanced c rest)
unfolding control_barrier_step
control_barrier_goes s c rest i w is = ap (λ (o : Option ℕ). with_some o (λ w. goes (memory_barriers w ++ event.control_barrier ∷ []) (advanced c rest))) is

pub control_barrier_fails : (s : Setting) (c : Conf) (rest : List Inst) (i : Inst) → word_at s c.top (arg i 2) ≡ None → control_barrier_step s c rest i ≡ fails
unfolding control_barrier_step
control_barrier_fails s c rest i is = ap (λ (o : Option ℕ). with_some o (λ w. goes (memory_barriers w ++ event.control_barrier ∷ []) (advanced c rest))) is

-- a call is left for the one below it
pub return_goes : (c : Conf) (b : Frame × ℕ) (below : List (Frame × ℕ)) → c.below ≡ b ∷ below → return_step c c.below ≡ goes [] (record c { top = b.0; below = below })
unfolding return_step
return_goes c b below is = ap (λ (l : List (Frame × ℕ)). return_step c l) is

pub return_value_goes : (s : Setting) (c : Conf) (i : Inst) (v : ValueTree) (b : Frame × ℕ) (below : List (Frame × ℕ)) → value_at s c.top (arg i 0) ≡ Some v → c.below ≡ b ∷ below → return_value_step s c i ≡ goes [] (record c { top = given v b; below = below })
unfolding return_value_step
return_value_goes s c i v b below has is = ap (λ (o : Option ValueTree). with_some o (λ v. given_to v c c.below)) has ∙ ap (given_to v c) is
