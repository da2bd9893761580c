-- Where the rule on the form of a module (P4) is not broken, a function's variables stand at the start of its first block.
use Rattle.std.proofs.Common.{◌≡◌, ◌<◌, ◌==◌, ◌&&◌, ℕ, suc, Bool, true, false, List, [], ◌∷◌, length, map, take, Option, Some, None, inl, inr, refl, sym, ap, ◌∙◌, subst, if◌then◌else◌, arith}
use Rattle.std.specs.Prelude.{unwrap_or}
use Rattle.std.specs.Option.{option_map_or}
use Rattle.std.proofs.lemmas.Bool.{false_from_ne_true}
use Rattle.spv_words.specs.Words.{insts, nth_inst}
use Rattle.spv_words.specs.declared.rule.Rule.TheVariants.{P4}
use Rattle.spv_words.specs.declared.words.Inst1.{Inst1}
use Rattle.spv_ops.specs.Opcode.{is, number, op_of}
use Rattle.spv_ops.specs.Shape.{shape}
use Rattle.spv_ops.specs.declared.opcode.Op.{Op}
use Rattle.spv_ops.specs.declared.opcode.Op.TheVariants as op
use Rattle.spv_module.specs.declared.kind.Kind.{Kind}
use Rattle.spv_module.specs.declared.kind.Kind.TheVariants.{Debug, Variable, Function as Opening_of, Parameter, End, Label, Other}
use Rattle.spv_module.specs.declared.kind.Place.{Place}
use Rattle.spv_module.specs.declared.kind.Place.TheVariants.{Outside, Opening, Start, Inside}
use Rattle.spv_module.specs.declared.inst.Function.{Function}
use Rattle.spv_module.specs.Inst.{inst_of, word, known}
use Rattle.spv_module.specs.Kinds.{kind_of, kind_of_op, kind_of_opcode, kinds, is_import}
use Rattle.spv_module.specs.Form.{after, place_from, is_stray, nth_kind, is_function, are_blocks}
use Rattle.spv_module.specs.Broken.{IsUnbroken}
use Rattle.spv_module.specs.Lists.{with_inst, block_insts, block, with_block, blocks, function, with_function, functions_from, functions}
use Rattle.profile_rules.specs.Places.{is_variable}
use Rattle.call_law.specs.Known.{IsFunctionOf}
use Rattle.grammar_law.specs.Declares.{HaveNoVariable, NoneDeclare, IsSplit, DeclaresFirst}
use Rattle.grammar_law.proofs.Formed.Formed.{AreGood, good, inside}

abbrev is_variable_kind : Kind → Bool
is_variable_kind Variable = true
is_variable_kind _ = false

variable_op : (o : Op) → is o op.Variable ≡ is_variable_kind (kind_of_op o)
unfolding kind_of_op number shape
variable_op op.Variable = refl
variable_op o = refl

variable_by : (o : Option Op) → is (unwrap_or o op.Nop) op.Variable ≡ is_variable_kind (option_map_or kind_of_op o Other)
unfolding number
variable_by None = refl
variable_by (Some o) = variable_op o

-- each instruction stands where it may, where the first of them stands at a place
abbrev pub AreStanding : Place → List Kind → Type 0
AreStanding p [] = Unit {0}
AreStanding p (k ∷ ks) = (is_stray p k ≡ false) × AreStanding (after p k) ks

pub standing : (p : Place) (ks : List Kind) → ((k : ℕ) → k < length ks → is_stray (place_from p (take k ks)) (nth_kind ks k) ≡ true → ⊥) → AreStanding p ks
standing p [] far = tt
standing p (x ∷ ks) far = (
  false_from_ne_true (is_stray p x) (λ e. far 0 (let less : 0 < suc (length ks) = omega arith in less) e),
  standing (after p x) ks (λ k less e. far (suc k) (let more : suc k < suc (length ks) = omega (arith, less) in more) e),
)

abbrev AllDeclare : List Function → Type 0
AllDeclare [] = Unit {0}
AllDeclare (f ∷ fs) = DeclaresFirst f.blocks × AllDeclare fs

declares_of : (fs : List Function) → AllDeclare fs → (f : Function) → IsFunctionOf f fs → DeclaresFirst f.blocks
declares_of [] all f one = absurd one
declares_of (g ∷ fs) all f (inl same) = subst (λ (h : Function). DeclaresFirst h.blocks) same all.0
declares_of (g ∷ fs) all f (inr one) = declares_of fs all.1 f one

nothing_split : IsSplit []
nothing_split = record { variables = []; are_variables = tt; rest = []; none_behind = tt; whole = refl }

module _ (ws : List ℕ) where
  abbrev K : List Inst1 → List Kind
  K is = map (kind_of ws) is

  kind_tells : (i : Inst1) (k : Kind) → kind_of ws i ≡ k → (k ≡ Debug → ⊥) → is_variable (inst_of ws i) ≡ is_variable_kind k
  unfolding kind_of_opcode known
  kind_tells i k e some = by_test ((i.opcode == number op.ExtInst) && is_import ws (word ws i 3)) e
    where
      by_test : (b : Bool) → (if b then Debug else kind_of_opcode i.opcode) ≡ k → is_variable (inst_of ws i) ≡ is_variable_kind k
      by_test true e = absurd (some (sym e))
      by_test false e = variable_by (op_of i.opcode) ∙ ap is_variable_kind e

  -- further inside a function no variable stands
  no_variable_from : (is : List Inst1) → AreStanding Inside (K is) → are_blocks (K is) ≡ true → HaveNoVariable (block_insts ws is)
  no_variable_from [] stand e = cc
  no_variable_from (i ∷ is) stand e = by_kind (kind_of ws i) refl stand.0 stand.1 e (no_variable_from is)
    where
      by_kind : (k : Kind) → kind_of ws i ≡ k → is_stray Inside k ≡ false → AreStanding (after Inside k) (K is) → are_blocks (k ∷ K is) ≡ true → (AreStanding Inside (K is) → are_blocks (K is) ≡ true → HaveNoVariable (block_insts ws is)) → HaveNoVariable (with_inst k (inst_of ws i) (block_insts ws is))
      by_kind Label kind right stand e later = tt
      by_kind End kind right stand e later = tt
      by_kind Debug kind right stand e later = later stand e
      by_kind Variable kind right stand e later = cc
      by_kind Opening_of kind right stand e later = cc
      by_kind Parameter kind right stand e later = cc
      by_kind k kind right stand e later = (kind_tells i k kind (λ d. cc), later stand e)

  none_from : (is : List Inst1) → AreStanding Inside (K is) → are_blocks (K is) ≡ true → NoneDeclare (blocks ws is)
  none_from [] stand e = cc
  none_from (i ∷ is) stand e = by_kind (kind_of ws i) stand.1 e (none_from is)
    where
      by_kind : (k : Kind) → AreStanding (after Inside k) (K is) → are_blocks (k ∷ K is) ≡ true → (AreStanding Inside (K is) → are_blocks (K is) ≡ true → NoneDeclare (blocks ws is)) → NoneDeclare (with_block k (block ws i is) (blocks ws is))
      by_kind Label stand e later = (no_variable_from is stand e, later stand e)
      by_kind End stand e later = tt
      by_kind Opening_of stand e later = cc
      by_kind Parameter stand e later = cc
      by_kind k stand e later = later stand e

  -- at the start of the first block
  start_from : (is : List Inst1) → AreStanding Start (K is) → are_blocks (K is) ≡ true → IsSplit (block_insts ws is) × NoneDeclare (blocks ws is)
  start_from [] stand e = cc
  start_from (i ∷ is) stand e = by_kind (kind_of ws i) refl stand.1 e (start_from is)
    where
      by_kind : (k : Kind) → kind_of ws i ≡ k → AreStanding (after Start k) (K is) → are_blocks (k ∷ K is) ≡ true → (AreStanding Start (K is) → are_blocks (K is) ≡ true → IsSplit (block_insts ws is) × NoneDeclare (blocks ws is))
          → IsSplit (with_inst k (inst_of ws i) (block_insts ws is)) × NoneDeclare (with_block k (block ws i is) (blocks ws is))
      by_kind Label kind stand e later = (nothing_split, (no_variable_from is stand e, none_from is stand e))
      by_kind End kind stand e later = (nothing_split, tt)
      by_kind Debug kind stand e later = later stand e
      by_kind Variable kind stand e later =
          let w = later stand e in (
            record { variables = inst_of ws i ∷ w.0.variables; are_variables = (kind_tells i Variable kind (λ d. cc), w.0.are_variables); rest = w.0.rest; none_behind = w.0.none_behind; whole = ap (λ l. inst_of ws i ∷ l) w.0.whole },
            w.1,
          )
      by_kind Opening_of kind stand e later = cc
      by_kind Parameter kind stand e later = cc
      by_kind k kind stand e later = (
        record { variables = []; are_variables = tt; rest = inst_of ws i ∷ block_insts ws is; none_behind = (kind_tells i k kind (λ d. cc), no_variable_from is stand e); whole = refl },
        none_from is stand e,
      )

  opening_from : (is : List Inst1) → AreStanding Opening (K is) → is_function (K is) ≡ true → DeclaresFirst (blocks ws is)
  opening_from [] stand e = cc
  opening_from (i ∷ is) stand e = by_kind (kind_of ws i) stand.1 e (opening_from is)
    where
      by_kind : (k : Kind) → AreStanding (after Opening k) (K is) → is_function (k ∷ K is) ≡ true → (AreStanding Opening (K is) → is_function (K is) ≡ true → DeclaresFirst (blocks ws is)) → DeclaresFirst (with_block k (block ws i is) (blocks ws is))
      by_kind Debug stand e later = later stand e
      by_kind Parameter stand e later = later stand e
      by_kind Label stand e later = let w = start_from is stand e in record { first = block ws i is; others = blocks ws is; whole = refl; split = w.0; none_other = w.1 }
      by_kind k stand e later = cc

  declare_from : (p : Place) (is : List Inst1) → AreStanding p (K is) → AreGood Opening_of is_function (K is) → AllDeclare (functions_from ws is)
  declare_from p [] stand opens = tt
  declare_from p (i ∷ is) stand opens = by_kind (kind_of ws i) stand.1 opens.0 (λ q at. declare_from q is at opens.1)
    where
      by_kind : (k : Kind) → AreStanding (after p k) (K is) → (k ≡ Opening_of → is_function (K is) ≡ true) → ((q : Place) → AreStanding q (K is) → AllDeclare (functions_from ws is)) → AllDeclare (with_function k (function ws i is) (functions_from ws is))
      by_kind Opening_of stand here rest = (opening_from is stand (here refl), rest Opening stand)
      by_kind k stand here rest = rest (after p k) stand

  -- the functions of a module
  pub declares_first : IsUnbroken ws P4 → (f : Function) → IsFunctionOf f (functions ws) → DeclaresFirst f.blocks
  declares_first form f one =
      declares_of (functions ws)
      (declare_from Outside (insts ws)
      (standing Outside (kinds ws) (λ k less e. form (nth_inst ws k).start (k, inside ws k less, refl, inl e)))
      (good Opening_of is_function (kinds ws) (λ k less e off. form (nth_inst ws k).start (k, inside ws k less, refl, inr (inl (e, off)))))) f one
