-- What holds of all pointers that ids have still does where an id gets a value or a pointer, where chains are forgotten, and where a call begins.
use Rattle.std.proofs.Common.{◌==◌, ℕ, Bool, true, false, List, [], ◌∷◌, Option, Some, None}
use Rattle.spv_module.specs.declared.inst.Id.{Id}
use Rattle.spv_module.specs.declared.inst.Inst.{Inst}
use Rattle.spv_types.specs.Tree.{ValueTree}
use Rattle.module_semantics.specs.State.{Root, Held, value, Frame, put}
use Rattle.module_semantics.specs.Steps.{without_based, is_based_on, argument_of, with_phis}
use Rattle.agree_law.specs.Agree.{IfPointer}

module _ (P : Root → List ℕ → Type 0) where
  pub put_along : (ids : ℕ → Option Held) (n : ℕ) (h : Held) → ((k : ℕ) → IfPointer (ids k) P) → IfPointer (Some h) P → (k : ℕ) → IfPointer (put ids n h k) P
  put_along ids n h all mine k = by_test (k == n) (all k)
    where
      by_test : (t : Bool) → IfPointer (ids k) P → IfPointer (elim t [ true ↦ Some h | false ↦ ids k ]) P
      by_test true a = mine
      by_test false a = a

  pub phis_along : (is : List Inst) (vs : List ValueTree) (ids : ℕ → Option Held) → ((k : ℕ) → IfPointer (ids k) P) → (k : ℕ) → IfPointer (with_phis is vs ids k) P
  phis_along [] vs ids all = all
  phis_along (i ∷ is) [] ids all = all
  phis_along (i ∷ is) (v ∷ vs) ids all = put_along (with_phis is vs ids) i.result (value v) (phis_along is vs ids all) tt

  pub without_along : (f : Frame) (chain : ℕ) → ((k : ℕ) → IfPointer (f.ids k) P) → (k : ℕ) → IfPointer (without_based f.function chain f.ids k) P
  without_along f chain all k = by_test (is_based_on f.function chain k) (all k)
    where
      by_test : (t : Bool) → IfPointer (f.ids k) P → IfPointer (elim t [ true ↦ None | false ↦ f.ids k ]) P
      by_test true a = tt
      by_test false a = a

  -- of arguments, and of parameters
  abbrev pub AllHeld : List Held → Type 0
  AllHeld [] = Unit {0}
  AllHeld (h ∷ hs) = IfPointer (Some h) P × AllHeld hs

  pub arguments_along : (ps : List (Id × Id)) (hs : List Held) → AllHeld hs → (n : ℕ) → IfPointer (argument_of ps hs n) P
  arguments_along [] hs all n = tt
  arguments_along (p ∷ ps) [] all n = tt
  arguments_along (p ∷ ps) (h ∷ hs) all n = by_test (p.0.0 == n) (arguments_along ps hs all.1 n)
    where
      by_test : (t : Bool) → IfPointer (argument_of ps hs n) P → IfPointer (elim t [ true ↦ Some h | false ↦ argument_of ps hs n ]) P
      by_test true later = all.0
      by_test false later = later
