-- What instructions without effect have stays what their operands have, until the block ends: no result is set again in a run of the block, and operands stand before what reads them.
use Rattle.std.proofs.Common.{◌≡◌, ◌≢◌, ◌++◌, ℕ, true, false, List, [], ◌∷◌, drop, Option, Some, None, ◌⊎◌, inl, inr, refl, sym, ap, ap₂, ◌∙◌, subst}
use Rattle.std.specs.Prelude.{option_and_then, option_map}
use Rattle.spv_module.specs.declared.inst.Inst.{Inst}
use Rattle.spv_types.specs.Tree.{Tree, ValueTree, word}
use Rattle.spv_types.specs.Types.{type_tree}
use Rattle.op_semantics.specs.Component.{before}
use Rattle.op_semantics.specs.Value.{op_value}
use Rattle.module_semantics.specs.Setting.{Setting}
use Rattle.module_semantics.specs.State.{Held, value, pointer, Frame, put}
use Rattle.module_semantics.specs.Operands.{of_module, held, as_value, as_word, as_pointer, Target, arg, values_at, words_at, value_operands, literal_operands}
use Rattle.module_semantics.specs.Accesses.{seen}
use Rattle.module_semantics.specs.Memory.{elements}
use Rattle.module_semantics.specs.Steps.{StepKind, operation, chain, array_length, variable, load, store, atomic, memory_barrier, control_barrier, call, merge, branch, return, return_value, unreachable, step_kind, base}
use Rattle.region_law.specs.Leads.{In}
use Rattle.agree_law.specs.Blocks.{IsOf, outcome, has_outcome, read_ids, reads, IsSettled, IsNew}
use Rattle.agree_law.proofs.Changes.{put_same, put_other}

-- g has of these ids what f has
abbrev pub AreAlike : Setting → Frame → Frame → List ℕ → Type 0
AreAlike s f g ids = (n : ℕ) → In n ids → held s g n ≡ held s f n

module _ (s : Setting) (f g : Frame) where
  values_alike : (ids : List ℕ) → AreAlike s f g ids → values_at s g ids ≡ values_at s f ids
  values_alike [] h = refl
  values_alike (x ∷ xs) h = ap₂ before (ap as_value (h x (inl refl))) (values_alike xs (λ n i. h n (inr i)))

  words_alike : (ids : List ℕ) → AreAlike s f g ids → words_at s g ids ≡ words_at s f ids
  words_alike [] h = refl
  words_alike (x ∷ xs) h = ap₂ before (ap (λ h. as_word (as_value h)) (h x (inl refl))) (words_alike xs (λ n i. h n (inr i)))

  -- so an instruction without effect has the same from them
  pub outcome_alike : (kind : StepKind) (i : Inst) → AreAlike s f g (read_ids kind i) → outcome kind s g i ≡ outcome kind s f i
  outcome_alike operation i h = ap (λ (vs : Option (List ValueTree)). option_map value (option_and_then (λ (t : Tree). option_and_then (op_value i.op t (literal_operands i.op i.args)) vs) (type_tree s.of.globals i.ty))) (values_alike (value_operands i.op i.args) h)
  outcome_alike chain i h =
      ap₂ (λ (p : Option Target) (ws : Option (List ℕ)). option_and_then (λ (p : Target). option_map (λ (is : List ℕ). pointer p.0 (p.1 ++ is)) ws) p)
      (ap as_pointer (h (base i) (inl refl))) (words_alike (drop 1 i.args) (λ n k. h n (inr k)))
  outcome_alike array_length i h =
      ap (λ (p : Option Held). option_and_then (λ (p : Target). option_map (λ (v : Inst). value (word (elements s v (arg i 1)))) (seen s p.0)) (as_pointer p)) (h (arg i 0) (inl refl))
  outcome_alike variable i h = refl
  outcome_alike load i h = refl
  outcome_alike store i h = refl
  outcome_alike (atomic o) i h = refl
  outcome_alike memory_barrier i h = refl
  outcome_alike control_barrier i h = refl
  outcome_alike call i h = refl
  outcome_alike merge i h = refl
  outcome_alike (branch o) i h = refl
  outcome_alike return i h = refl
  outcome_alike return_value i h = refl
  outcome_alike unreachable i h = refl

  -- the results of these, and what they read, are as before
  pub record AreKept (done : List Inst) : Type 0 where
    pub result : (i : Inst) → IsOf i done → held s g i.result ≡ held s f i.result
    pub read : (i : Inst) → IsOf i done → AreAlike s f g (reads i)

  pub settled_still : (done : List Inst) → AreKept done → IsSettled s done f → IsSettled s done g
  settled_still done kept a = record { still = λ i is on. kept.result i is ∙ a.still i is on ∙ sym (outcome_alike (step_kind i.op) i (kept.read i is)) }

  -- and one more, which has what its operands have
  pub settled_more : (i : Inst) (done : List Inst) → AreKept done → AreAlike s f g (reads i) → (has_outcome (step_kind i.op) ≡ true → held s g i.result ≡ outcome (step_kind i.op) s f i) → IsSettled s done f → IsSettled s (i ∷ done) g
  settled_more i done kept read now a = record { still = by_place }
    where
      this : (j : Inst) → i ≡ j → has_outcome (step_kind i.op) ≡ true → held s g j.result ≡ outcome (step_kind j.op) s g j
      this j same on = subst (λ (j : Inst). held s g j.result ≡ outcome (step_kind j.op) s g j) same (now on ∙ sym (outcome_alike (step_kind i.op) i read))

      by_place : (j : Inst) → (i ≡ j) ⊎ IsOf j done → has_outcome (step_kind j.op) ≡ true → held s g j.result ≡ outcome (step_kind j.op) s g j
      by_place j (inl same) on = this j same (ap (λ (j : Inst). has_outcome (step_kind j.op)) same ∙ on)
      by_place j (inr is) on = (settled_still done kept a).still j is on

pub held_same : (s : Setting) (f g : Frame) (n : ℕ) → g.ids n ≡ f.ids n → held s g n ≡ held s f n
held_same s f g n is = ap (λ (o : Option Held). elim o as (λ q. Option Held) [ Some h ↦ Some h | None ↦ of_module s n ]) is

-- where nothing is set that these have or read
pub kept_same : (s : Setting) (f g : Frame) (done : List Inst) → ((n : ℕ) → g.ids n ≡ f.ids n) → AreKept s f g done
kept_same s f g done same = record { result = λ i is. held_same s f g i.result (same i.result); read = λ i is n k. held_same s f g n (same n) }

-- what a frame with another entry has of other ids, and of this one
pub held_other : (s : Setting) (f g : Frame) (r n : ℕ) (h : Held) → g.ids ≡ put f.ids r h → n ≢ r → held s g n ≡ held s f n
held_other s f g r n h is other = ap (λ (o : Option Held). elim o as (λ q. Option Held) [ Some h ↦ Some h | None ↦ of_module s n ]) (ap (λ (ids : ℕ → Option Held). ids n) is ∙ put_other f.ids r n h other)

pub held_own : (s : Setting) (f g : Frame) (r : ℕ) (h : Held) → g.ids ≡ put f.ids r h → held s g r ≡ Some h
held_own s f g r h is = ap (λ (o : Option Held). elim o as (λ q. Option Held) [ Some h ↦ Some h | None ↦ of_module s r ]) (ap (λ (ids : ℕ → Option Held). ids r) is ∙ put_same f.ids r h)

-- an instruction with a new result: all others are as before
pub kept_put : (s : Setting) (f g : Frame) (i : Inst) (done : List Inst) (h : Held) → g.ids ≡ put f.ids i.result h → IsNew i done → AreKept s f g done
kept_put s f g i done h is new = record {
  result = λ j k. held_other s f g i.result j.result h is (new.result j k);
  read = λ j k n a. held_other s f g i.result n h is (new.unread j k n a);
}

pub settled_put : (s : Setting) (f g : Frame) (i : Inst) (done : List Inst) (h : Held) → g.ids ≡ put f.ids i.result h → IsNew i done → (has_outcome (step_kind i.op) ≡ true → outcome (step_kind i.op) s f i ≡ Some h) → IsSettled s done f → IsSettled s (i ∷ done) g
settled_put s f g i done h is new now a =
    settled_more s f g i done (kept_put s f g i done h is new) (λ n k. held_other s f g i.result n h is (new.own n k)) (λ on. held_own s f g i.result h is ∙ sym (now on)) a

-- an instruction without a result, or one that is no such
pub settled_pass : (s : Setting) (f g : Frame) (i : Inst) (done : List Inst) → ((n : ℕ) → g.ids n ≡ f.ids n) → has_outcome (step_kind i.op) ≡ false → IsSettled s done f → IsSettled s (i ∷ done) g
settled_pass s f g i done same off a =
    settled_more s f g i done (kept_same s f g done same) (λ n k. ap (λ (o : Option Held). elim o as (λ q. Option Held) [ Some h ↦ Some h | None ↦ of_module s n ]) (same n)) (λ on. let never : true ≡ false = sym on ∙ off in cc) a
