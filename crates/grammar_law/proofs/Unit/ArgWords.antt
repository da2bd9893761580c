-- The operands of a module that was read are words, and what has no result has 0 for one.
use Rattle.std.proofs.Common.{◌≡◌, ◌+◌, ℕ, Bool, true, false, List, [], ◌∷◌, ◌++◌, drop, Contains, inl, inr, sym, ap, subst, if◌then◌else◌}
use Rattle.std.specs.Prelude.{flat_map}
use Rattle.spv_ops.specs.Shape.{count_of}
use Rattle.spv_words.specs.Words.{words, insts, slice}
use Rattle.spv_words.specs.declared.words.Inst1.{Inst1}
use Rattle.spv_module.specs.State.{ModuleState}
use Rattle.spv_module.specs.Inst.{word, has_type, has_result, known, inst_of}
use Rattle.spv_module.specs.Kinds.{kind_of}
use Rattle.spv_module.specs.Form.{after}
use Rattle.spv_module.specs.Lists.{is_head, heads_from, is_global, globals_from, with_inst, block_insts, block, with_block, blocks, function, with_function, functions_from}
use Rattle.spv_module.specs.declared.kind.Kind.{Kind}
use Rattle.spv_module.specs.declared.kind.Kind.TheVariants.{Debug, Function as Opening, End, Label}
use Rattle.spv_module.specs.declared.kind.Place.{Place}
use Rattle.spv_module.specs.declared.kind.Place.TheVariants.{Outside}
use Rattle.spv_module.specs.declared.inst.Inst.{Inst}
use Rattle.spv_module.specs.declared.inst.Block.{Block}
use Rattle.spv_module.specs.declared.inst.Function.{Function}
use Rattle.spv_index.specs.Locals.{insts_of}
use Rattle.module_check.specs.ReadFrom.{IsReadFrom}
use Rattle.claim_law.specs.Blocks.{FitWords}
use Rattle.typed_law.specs.Words.{AreAllWords, AreBytes}
use Rattle.typed_law.proofs.LowValues.{drop_low}
use Rattle.typed_law.proofs.OfWords.{words_of_bytes, take_low}
use Rattle.claim_law.specs.Claimed.{IsIn}
use Rattle.grammar_law.proofs.Unit.Lists.{of_contained}

fit_words : (ws : List ℕ) → AreAllWords ws → FitWords ws
fit_words [] all = tt
fit_words (w ∷ ws) all = (all.0, fit_words ws all.1)

-- what is said of each instruction that words make is said of those of a module
module _ (ws : List ℕ) (P : Inst → Type 0) (each : (x : Inst1) → P (inst_of ws x)) where
  heads_each : (is : List Inst1) (g : Inst) → IsIn g (heads_from ws is) → P g
  heads_each [] g there = absurd there
  heads_each (x ∷ is) g there = by_test (is_head (kind_of ws x) x.opcode) there (heads_each is g)
    where
      by_test : (b : Bool) → IsIn g (if b then inst_of ws x ∷ heads_from ws is else heads_from ws is) → (IsIn g (heads_from ws is) → P g) → P g
      by_test true (inl same) rest = subst P same (each x)
      by_test true (inr later) rest = rest later
      by_test false later rest = rest later

  globals_each : (p : Place) (is : List Inst1) (g : Inst) → IsIn g (globals_from ws p is) → P g
  globals_each p [] g there = absurd there
  globals_each p (x ∷ is) g there = by_test (is_global p (kind_of ws x)) there (globals_each (after p (kind_of ws x)) is g)
    where
      by_test : (b : Bool) → IsIn g (if b then inst_of ws x ∷ globals_from ws (after p (kind_of ws x)) is else globals_from ws (after p (kind_of ws x)) is) → (IsIn g (globals_from ws (after p (kind_of ws x)) is) → P g) → P g
      by_test true (inl same) rest = subst P same (each x)
      by_test true (inr later) rest = rest later
      by_test false later rest = rest later

  abbrev flat : List Block → List Inst
  flat bs = flat_map (λ (b : Block). b.insts) bs

  insts_each : (is : List Inst1) (i : Inst) → (IsIn i (block_insts ws is ++ flat (blocks ws is)) → P i) × (IsIn i (flat (blocks ws is)) → P i)
  insts_each [] i = (λ there. absurd there, λ there. absurd there)
  insts_each (x ∷ is) i = by_kind (kind_of ws x) (insts_each is i)
    where
      by_kind : (k : Kind) → (IsIn i (block_insts ws is ++ flat (blocks ws is)) → P i) × (IsIn i (flat (blocks ws is)) → P i)
          → (IsIn i (with_inst k (inst_of ws x) (block_insts ws is) ++ flat (with_block k (block ws x is) (blocks ws is))) → P i) × (IsIn i (flat (with_block k (block ws x is) (blocks ws is))) → P i)
      by_kind Label rest = (λ there. rest.0 there, λ there. rest.0 there)
      by_kind End rest = (λ there. absurd there, λ there. absurd there)
      by_kind Debug rest = (λ there. rest.0 there, λ there. rest.1 there)
      by_kind k rest = (λ there. elim there [ inl same ↦ subst P same (each x) | inr later ↦ rest.0 later ], λ there. rest.1 there)

  functions_each : (is : List Inst1) (f : Function) → IsIn f (functions_from ws is) → (i : Inst) → IsIn i (insts_of f) → P i
  functions_each [] f there i i_in = absurd there
  functions_each (x ∷ is) f there i i_in = by_kind (kind_of ws x) there (λ later. functions_each is f later i i_in)
    where
      by_kind : (k : Kind) → IsIn f (with_function k (function ws x is) (functions_from ws is)) → (IsIn f (functions_from ws is) → P i) → P i
      by_kind Opening (inl same) rest = (insts_each is i).1 (subst (λ (g : Function). IsIn i (insts_of g)) (sym same) i_in)
      by_kind Opening (inr later) rest = rest later
      by_kind k later rest = rest later

-- it is made of words
pub record IsOfWords (i : Inst) : Type 0 where
  pub args : FitWords i.args
  pub none : has_result i.op ≡ false → i.result ≡ 0

module _ (bytes : List ℕ) (m : ModuleState) (read : IsReadFrom bytes m) (octets : AreBytes bytes) where
  abbrev ws : List ℕ
  ws = words bytes

  all : AreAllWords (words bytes)
  all = words_of_bytes bytes octets

  made_of_words : (x : Inst1) → IsOfWords (inst_of (words bytes) x)
  made_of_words x = record {
    args = fit_words (inst_of ws x).args (drop_low (1 + count_of (has_type (known x.opcode)) + count_of (has_result (known x.opcode))) (slice ws x) (take_low x.len (drop x.start ws) (drop_low x.start ws all)));
    none = λ off. ap (λ (b : Bool). if b then word ws x (1 + count_of (has_type (known x.opcode))) else 0) off;
  }

  -- the instructions of its functions, its globals and its heads
  pub args_words : (f : Function) → Contains m.functions f → (i : Inst) → IsIn i (insts_of f) → IsOfWords i
  args_words =
      subst (λ (n : ModuleState). (f : Function) → Contains n.functions f → (i : Inst) → IsIn i (insts_of f) → IsOfWords i) (sym read.made)
      (λ f f_in i i_in. functions_each ws IsOfWords made_of_words (insts ws) f (of_contained (functions_from ws (insts ws)) f f_in) i i_in)

  pub global_words : (g : Inst) → IsIn g m.globals → FitWords g.args
  global_words =
      subst (λ (n : ModuleState). (g : Inst) → IsIn g n.globals → FitWords g.args) (sym read.made)
      (λ g g_in. (globals_each ws IsOfWords made_of_words Outside (insts ws) g g_in).args)

  pub head_words : (h : Inst) → IsIn h m.heads → FitWords h.args
  head_words =
      subst (λ (n : ModuleState). (h : Inst) → IsIn h n.heads → FitWords h.args) (sym read.made)
      (λ h h_in. (heads_each ws IsOfWords made_of_words (insts ws) h h_in).args)
