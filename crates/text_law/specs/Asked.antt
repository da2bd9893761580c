-- What is asked of what is written of an instruction, so that what is seen of it is what the instruction does.
use Rattle.std.specs.Prelude.{◌≡◌, ℕ, Bool, true, false, List, [], ◌∷◌, drop, is_some, slice_index}
use Rattle.spv_module.specs.Lists.{id}
use Rattle.spv_module.specs.declared.inst.Inst.{Inst}
use Rattle.profile_rules.specs.MemoryRules.{pointee_of}
use Rattle.name_alloc.specs.declared.claims.Key.TheVariants.{Id}
use Rattle.text_rules.specs.Constants.{Source}
use Rattle.expr_forward.specs.declared.kinds.InstKind.{InstKind}
use Rattle.expr_forward.specs.declared.kinds.InstKind.TheVariants as kind
use Rattle.expr_forward.specs.Scope.{Scope, globals}
use Rattle.expr_forward.specs.Values.{value}
use Rattle.expr_forward.specs.Paths.{place_text}
use Rattle.expr_forward.specs.Statements.{is_void, callee_text, has_result, comparator, atomic_operand, semantics, is_variable_form, inst_text}
use Rattle.claim_law.specs.Uses.{UsesExpr, UseEach}
use Rattle.claim_law.specs.Statements.{EachStmt}
use Rattle.claim_law.specs.Told.{is_among}
use Rattle.text_law.specs.Walks.{Outer}
use Rattle.text_law.specs.Shape.{constant_word}
use Rattle.text_law.specs.Unseen.{unseen, IsPath}

module _ (s : Source) (o : Outer) (w : Scope) (block : ℕ) where
  -- the result has a variable, which is no memory
  abbrev pub HasVariable : Inst → Type 0
  HasVariable i = (is_variable_form (w.form i.result) ≡ true) × (is_among o.memory (w.setting.key (Id (id i.result))) ≡ false)

  -- an argument of a call: a path to memory, or a value
  abbrev pub IsArgument : ℕ → Bool → Type 0
  IsArgument n true = IsPath o (place_text w.setting block n)
  IsArgument n false = UsesExpr (unseen o) (value w block n)

  abbrev pub AreArguments : List ℕ → Type 0
  AreArguments [] = Unit {0}
  AreArguments (n ∷ ns) = IsArgument n (is_some (pointee_of (globals w) w.setting.function n)) × AreArguments ns

  -- of other instructions nothing is seen
  abbrev pub AsksSeen : Inst → InstKind → Type 0
  AsksSeen i kind.Load = HasVariable i × IsPath o (place_text w.setting block (slice_index i.args 0))
  AsksSeen i kind.Store = IsPath o (place_text w.setting block (slice_index i.args 0)) × UsesExpr (unseen o) (value w block (slice_index i.args 1))
  AsksSeen i kind.Call = (is_void w i.ty ≡ false → HasVariable i) × (is_among o.functions (callee_text w i) ≡ true) × AreArguments (drop 1 i.args)
  AsksSeen i (kind.Atomic a) = (has_result a ≡ true → HasVariable i) × IsPath o (place_text w.setting block (slice_index i.args 0)) × UseEach (unseen o) (comparator w block i a) × UsesExpr (unseen o) (atomic_operand w block i a)
  AsksSeen i kind.ControlBarrier = semantics w (slice_index i.args 2) ≡ constant_word s (slice_index i.args 2)
  AsksSeen i kind.MemoryBarrier = semantics w (slice_index i.args 1) ≡ constant_word s (slice_index i.args 1)
  AsksSeen i k = EachStmt (unseen o) (inst_text w block i k)

  abbrev pub AllAskSeen : (Inst → InstKind) → List Inst → Type 0
  AllAskSeen kind_of [] = Unit {0}
  AllAskSeen kind_of (i ∷ is) = AsksSeen i (kind_of i) × AllAskSeen kind_of is
