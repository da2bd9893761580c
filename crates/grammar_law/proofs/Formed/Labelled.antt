-- Where P1 to P3 are not broken, no two blocks of a function have one label, so each is found by its own.
use Rattle.std.proofs.Common.{◌≡◌, ◌≢◌, ◌<◌, ◌+◌, ◌==◌, ◌&&◌, ℕ, zero, suc, Bool, true, false, List, [], ◌∷◌, length, map, find, Option, Some, None, inl, inr, refl, sym, ap, ◌∙◌, subst, if◌then◌else◌, arith}
use Rattle.std.specs.Prelude.{slice_get, slice_index_or, unwrap_or}
use Rattle.std.specs.Option.{option_map_or}
use Rattle.std.specs.List.{position_from}
use Rattle.std.proofs.lemmas.Bool.{false_from_ne_true}
use Rattle.spv_words.specs.Words.{words, insts, no_inst, nth_inst, is_at_fault}
use Rattle.spv_words.specs.declared.words.Inst1.{Inst1}
use Rattle.spv_ops.specs.Opcode.{number, op_of}
use Rattle.spv_ops.specs.Shape.{shape, count_of}
use Rattle.spv_ops.specs.declared.opcode.Op.{Op}
use Rattle.spv_ops.specs.declared.opcode.Op.TheVariants as op
use Rattle.spv_module.specs.declared.kind.Kind.{Kind}
use Rattle.spv_module.specs.declared.kind.Kind.TheVariants.{Debug, Function as Opening_of, End, Label, Other}
use Rattle.spv_module.specs.declared.inst.Block.{Block}
use Rattle.spv_module.specs.declared.inst.Function.{Function}
use Rattle.spv_module.specs.Inst.{inst_of, word, known, has_type, has_result}
use Rattle.spv_module.specs.Kinds.{kind_of, kind_of_op, kind_of_opcode, is_import}
use Rattle.spv_module.specs.Counts.{is_unknown, is_misfit}
use Rattle.spv_module.specs.Ids.{result_by, result_of, HasIdOut}
use Rattle.spv_module.specs.State.{ModuleState}
use Rattle.spv_module.specs.Lists.{block, with_block, blocks, function, with_function, functions_from, functions}
use Rattle.spv_index.specs.Locals.{block_in}
use Rattle.conformance.specs.Rules.{Options}
use Rattle.module_check.specs.Judged.{IsFine}
use Rattle.module_check.specs.ReadFrom.{IsReadFrom}
use Rattle.list_law.proofs.Numbers.{number_same, number_other}
use Rattle.plan_law.specs.Distinct.{IsNone, AreDistinct}
use Rattle.plan_law.proofs.Listed.{distinct}
use Rattle.call_law.specs.Known.{IsFunctionOf}
use Rattle.typed_law.specs.Conforms.{BreakNone}
use Rattle.typed_law.proofs.Words.{formed}
use Rattle.accepted_law.proofs.Accepted.{break_none}

-- OpLabel is the only opcode of its kind
label_op : (o : Op) → kind_of_op o ≡ Label → o ≡ op.Label
unfolding kind_of_op shape
label_op op.Label e = refl
label_op o e = cc

-- its result is its first word
of_label : (o : Op) (w : ℕ → ℕ) → o ≡ op.Label → (if has_result o then w (1 + count_of (has_type o)) else 0) ≡ w 1
unfolding shape
of_label o w same = ap (λ (l : Op). if has_result l then w (1 + count_of (has_type l)) else 0) same

label_by_op : (o : Option Op) (w : ℕ → ℕ) → option_map_or kind_of_op o Other ≡ Label → ((if has_result (unwrap_or o op.Nop) then w (1 + count_of (has_type (unwrap_or o op.Nop))) else 0) ≡ w 1) × (has_result (unwrap_or o op.Nop) ≡ true)
unfolding shape
label_by_op None w e = cc
label_by_op (Some o) w e = (of_label o w (label_op o e), ap has_result (label_op o e))

-- no block has this label, and none that of another
abbrev IsNoLabel : ℕ → List Block → Type 0
IsNoLabel n [] = Unit {0}
IsNoLabel n (b ∷ bs) = (b.label.0 ≢ n) × IsNoLabel n bs

abbrev pub AreOnceLabels : List Block → Type 0
AreOnceLabels [] = Unit {0}
AreOnceLabels (b ∷ bs) = IsNoLabel b.label.0 bs × AreOnceLabels bs

abbrev AllOnce : List Function → Type 0
AllOnce [] = Unit {0}
AllOnce (f ∷ fs) = AreOnceLabels f.blocks × AllOnce fs

once_of : (fs : List Function) → AllOnce fs → (f : Function) → IsFunctionOf f fs → AreOnceLabels f.blocks
once_of [] all f one = absurd one
once_of (g ∷ fs) all f (inl same) = subst (λ (h : Function). AreOnceLabels h.blocks) same all.0
once_of (g ∷ fs) all f (inr one) = once_of fs all.1 f one

no_label : (n : ℕ) (bs : List Block) (k : ℕ) (b : Block) → IsNoLabel n bs → slice_get bs k ≡ Some b → b.label.0 ≢ n
no_label n [] k b none at = cc
no_label n (x ∷ bs) zero b none at = let same : x ≡ b = cc in subst (λ (y : Block). y.label.0 ≢ n) same none.0
no_label n (x ∷ bs) (suc k) b none at = no_label n bs k b none.1 at

-- a block is found by its label
placed_from : (bs : List Block) (n k : ℕ) (b : Block) → AreOnceLabels bs → slice_get bs k ≡ Some b → position_from (λ (x : Block). x.label.0 == b.label.0) n bs ≡ Some (n + k)
placed_from [] n k b once at = cc
placed_from (x ∷ bs) n zero b once at =
    let same : x ≡ b = cc in
    ap (λ (t : Bool). if t then Some n else position_from (λ (y : Block). y.label.0 == b.label.0) (n + 1) bs) (number_same x.label.0 b.label.0 (ap (λ (y : Block). y.label.0) same))
    ∙ ap (λ (j : ℕ). Some j) (let none : n ≡ n + 0 = omega arith in none)
placed_from (x ∷ bs) n (suc k) b once at =
    ap (λ (t : Bool). if t then Some n else position_from (λ (y : Block). y.label.0 == b.label.0) (n + 1) bs) (number_other x.label.0 b.label.0 (λ same. no_label x.label.0 bs k b once.0 at (sym same)))
    ∙ (placed_from bs (n + 1) k b once.1 at ∙ ap (λ (j : ℕ). Some j) (let next : n + 1 + k ≡ n + suc k = omega arith in next))

pub label_found : (f : Function) → AreOnceLabels f.blocks → (k : ℕ) (b : Block) → slice_get f.blocks k ≡ Some b → block_in f b.label.0 ≡ Some k
label_found f once k b at = placed_from f.blocks 0 k b once at ∙ ap (λ (j : ℕ). Some j) (let none : 0 + k ≡ k = omega arith in none)

module _ (ws : List ℕ) where
  label_by : (i : Inst1) → kind_of ws i ≡ Label → ((inst_of ws i).result ≡ word ws i 1) × (has_result (inst_of ws i).op ≡ true)
  unfolding kind_of_opcode known
  label_by i e = by_test ((i.opcode == number op.ExtInst) && is_import ws (word ws i 3)) e
    where
      by_test : (b : Bool) → (if b then Debug else kind_of_opcode i.opcode) ≡ Label → ((inst_of ws i).result ≡ word ws i 1) × (has_result (inst_of ws i).op ≡ true)
      by_test true e = cc
      by_test false e = label_by_op (op_of i.opcode) (word ws i) e

  label_result : (i : Inst1) → kind_of ws i ≡ Label → result_of ws i ≡ word ws i 1
  label_result i e = ap (λ (k : Kind). result_by k (inst_of ws i)) e ∙ (label_by i e).0

  none_from : (n : ℕ) (is : List Inst1) → IsNone n (map (result_of ws) is) → IsNoLabel n (blocks ws is)
  none_from n [] none = tt
  none_from n (i ∷ is) none = by_kind (kind_of ws i) refl (none_from n is none.1)
    where
      by_kind : (k : Kind) → kind_of ws i ≡ k → IsNoLabel n (blocks ws is) → IsNoLabel n (with_block k (block ws i is) (blocks ws is))
      by_kind Label kind later = (λ same. none.0 (label_result i kind ∙ same), later)
      by_kind End kind later = tt
      by_kind k kind later = later

  -- labels that are not 0
  abbrev HaveLabels : List Inst1 → Type 0
  HaveLabels [] = Unit {0}
  HaveLabels (i ∷ is) = (kind_of ws i ≡ Label → result_of ws i ≡ 0 → ⊥) × HaveLabels is

  once_from : (is : List Inst1) → HaveLabels is → AreDistinct (map (result_of ws) is) → AreOnceLabels (blocks ws is)
  once_from [] have apart = tt
  once_from (i ∷ is) have apart = by_kind (kind_of ws i) refl (once_from is have.1 apart.1)
    where
      by_kind : (k : Kind) → kind_of ws i ≡ k → AreOnceLabels (blocks ws is) → AreOnceLabels (with_block k (block ws i is) (blocks ws is))
      by_kind Label kind later = (none_from (word ws i 1) is (subst (λ (n : ℕ). IsNone n (map (result_of ws) is)) (label_result i kind) (apart.0 (have.0 kind))), later)
      by_kind End kind later = tt
      by_kind k kind later = later

  all_once : (is : List Inst1) → HaveLabels is → AreDistinct (map (result_of ws) is) → AllOnce (functions_from ws is)
  all_once [] have apart = tt
  all_once (i ∷ is) have apart = by_kind (kind_of ws i) (all_once is have.1 apart.1)
    where
      by_kind : (k : Kind) → AllOnce (functions_from ws is) → AllOnce (with_function k (function ws i is) (functions_from ws is))
      by_kind Opening_of later = (once_from is have.1 apart.1, later)
      by_kind k later = later

  -- an instruction that breaks none of P1 to P3
  abbrev IsListed : Inst1 → Type 0
  IsListed i = (is_unknown ws i ≡ false) × (is_misfit ws i ≡ false) × (HasIdOut ws i → ⊥)

  have_labels : (is : List Inst1) → find (is_at_fault (length ws)) is ≡ None → ((k : ℕ) → k < length is → IsListed (slice_index_or is k no_inst)) → HaveLabels is
  have_labels [] uncut all = tt
  have_labels (i ∷ is) uncut all = by_test (is_at_fault (length ws) i) refl uncut (λ rest. have_labels is rest (λ k less. all (suc k) (let more : suc k < suc (length is) = omega (arith, less) in more)))
    where
      listed : IsListed i
      listed = all 0 (let some : 0 < suc (length is) = omega arith in some)

      no_debug : kind_of ws i ≡ Label → kind_of ws i ≡ Debug → ⊥
      no_debug label debug = let never : Label ≡ Debug = sym label ∙ debug in cc

      by_test : (b : Bool) → is_at_fault (length ws) i ≡ b → (if b then Some i else find (is_at_fault (length ws)) is) ≡ None → (find (is_at_fault (length ws)) is ≡ None → HaveLabels is) → HaveLabels (i ∷ is)
      by_test true at uncut later = cc
      by_test false at uncut later = (
        λ label zero_is. (formed ws i at listed.0 listed.1 listed.2 (no_debug label)).result (label_by i label).1 (sym (ap (λ (k : Kind). result_by k (inst_of ws i)) label) ∙ zero_is),
        later uncut,
      )

-- a module whose words break no rule, and so one that was read from bytes and that the judges do not refuse
module _ (ws : List ℕ) (entry : Option (List ℕ)) (right : BreakNone ws entry) where
  pub labels_once : (f : Function) → IsFunctionOf f (functions ws) → AreOnceLabels f.blocks
  labels_once f one =
      once_of (functions ws)
      (all_once ws (insts ws)
      (have_labels ws (insts ws) right.uncut (λ k less. (
        false_from_ne_true (is_unknown ws (nth_inst ws k)) (λ on. right.form.0 (nth_inst ws k).start (k, less, refl, on)),
        false_from_ne_true (is_misfit ws (nth_inst ws k)) (λ on. right.form.1.0 (nth_inst ws k).start (k, less, refl, on)),
        λ out. right.form.1.1.0 (nth_inst ws k).start (k, less, refl, inl out),
      )))
      (distinct ws right.form.1.1.0)) f one

module _ (bytes : List ℕ) (m : ModuleState) (o : Options) (read : IsReadFrom bytes m) (fine : IsFine m o) where
  pub accepted_labels : (f : Function) → IsFunctionOf f m.functions → AreOnceLabels f.blocks
  accepted_labels f one = labels_once (words bytes) o.entry (break_none bytes m o read fine) f (subst (λ (n : ModuleState). IsFunctionOf f n.functions) read.made one)

  pub label_place : (f : Function) → IsFunctionOf f m.functions → (k : ℕ) (b : Block) → slice_get f.blocks k ≡ Some b → block_in f b.label.0 ≡ Some k
  label_place f one k b at = label_found f (accepted_labels f one) k b at
