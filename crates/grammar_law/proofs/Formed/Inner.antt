-- Where the rules on the form of a module (P1, P4) are not broken, each instruction of a block is of a group that stands in blocks, and where it has no type it has no result.
use Rattle.std.proofs.Common.{◌≡◌, ◌<◌, ◌+◌, ◌==◌, ◌&&◌, not, ℕ, suc, Bool, true, false, List, [], ◌∷◌, ◌++◌, length, map, Option, Some, None, inl, inr, refl, ap, ◌∙◌, subst, if◌then◌else◌, arith}
use Rattle.std.specs.Prelude.{◌⊎◌, flat_map, slice_index_or, unwrap_or}
use Rattle.std.specs.Option.{option_map_or}
use Rattle.std.proofs.lemmas.Bool.{false_from_ne_true}
use Rattle.spv_words.specs.Words.{words, insts, no_inst, nth_inst}
use Rattle.spv_words.specs.declared.rule.Rule.TheVariants.{P1, P4}
use Rattle.spv_words.specs.declared.words.Inst1.{Inst1}
use Rattle.spv_ops.specs.Opcode.{number, op_of}
use Rattle.spv_ops.specs.OpGroups.{group_of}
use Rattle.spv_ops.specs.Shape.{shape, count_of}
use Rattle.spv_ops.specs.declared.OpGroup.{OpGroup}
use Rattle.spv_ops.specs.declared.OpGroup.TheVariants as groups
use Rattle.spv_ops.specs.declared.opcode.Op.{Op}
use Rattle.spv_ops.specs.declared.opcode.Op.TheVariants as op
use Rattle.spv_module.specs.declared.kind.Kind.{Kind}
use Rattle.spv_module.specs.declared.kind.Kind.TheVariants.{Debug, Head, Global, Function as Opening_of, Parameter, End, Label, Other}
use Rattle.spv_module.specs.declared.kind.Place.{Place}
use Rattle.spv_module.specs.declared.kind.Place.TheVariants.{Outside, Opening, Start}
use Rattle.spv_module.specs.declared.inst.Inst.{Inst}
use Rattle.spv_module.specs.declared.inst.Block.{Block}
use Rattle.spv_module.specs.declared.inst.Function.{Function}
use Rattle.spv_module.specs.Inst.{inst_of, word, known, has_type, has_result}
use Rattle.spv_module.specs.Kinds.{kind_of, kind_of_op, kind_of_opcode, kinds, is_import}
use Rattle.spv_module.specs.Counts.{lacks_inner, is_unknown}
use Rattle.spv_module.specs.Form.{after, is_stray, is_function, are_blocks}
use Rattle.spv_module.specs.Broken.{IsUnbroken}
use Rattle.spv_module.specs.Lists.{with_inst, block_insts, block, with_block, blocks, function, with_function, functions_from, functions}
use Rattle.spv_module.specs.State.{ModuleState}
use Rattle.spv_index.specs.Locals.{insts_of}
use Rattle.module_check.specs.ReadFrom.{IsReadFrom}
use Rattle.list_law.proofs.Tests.{no_flip, and_off}
use Rattle.plan_law.specs.InOrder.{IsAmong}
use Rattle.call_law.specs.Known.{IsFunctionOf}
use Rattle.grammar_law.proofs.Formed.Formed.{AreGood, good, inside}
use Rattle.grammar_law.proofs.Formed.Declares.{AreStanding, standing}

-- groups of opcodes that stand in blocks
abbrev pub is_inner : OpGroup → Bool
is_inner groups.Debug = false
is_inner groups.Head = false
is_inner groups.Type = false
is_inner groups.Truth = false
is_inner groups.Number = false
is_inner groups.Composite = false
is_inner groups.AnyConstant = false
is_inner groups.Function = false
is_inner _ = true

abbrev is_inner_kind : Kind → Bool
is_inner_kind Debug = false
is_inner_kind Head = false
is_inner_kind Global = false
is_inner_kind Opening_of = false
is_inner_kind Parameter = false
is_inner_kind End = false
is_inner_kind Label = false
is_inner_kind _ = true

-- OpFunction, OpFunctionParameter and OpFunctionEnd do not
abbrev pub is_frame : OpGroup → Bool
is_frame groups.Function = true
is_frame _ = false

no_frame : (q : OpGroup) → is_inner q ≡ true → is_frame q ≡ false
no_frame groups.Function on = cc
no_frame q on = refl

inner_op : (o : Op) → is_inner (group_of o) ≡ is_inner_kind (kind_of_op o)
unfolding group_of kind_of_op shape
inner_op op.Function = refl
inner_op o = refl

resultless_op : (o : Op) → (is_inner_kind (kind_of_op o) && (not (has_type o) && has_result o)) ≡ false
unfolding kind_of_op shape
resultless_op op.Function = refl
resultless_op o = refl

abbrev pub IsInner : Inst → Type 0
IsInner i = (is_inner (group_of i.op) ≡ true) × (has_type i.op ≡ false → i.result ≡ 0)

abbrev AreInner : List Inst → Type 0
AreInner [] = Unit {0}
AreInner (i ∷ is) = IsInner i × AreInner is

abbrev AllInner : List Block → Type 0
AllInner [] = Unit {0}
AllInner (b ∷ bs) = AreInner b.insts × AllInner bs

abbrev HaveInner : List Function → Type 0
HaveInner [] = Unit {0}
HaveInner (f ∷ fs) = AllInner f.blocks × HaveInner fs

inner_in : (xs : List Inst) (i : Inst) → AreInner xs → IsAmong i xs → IsInner i
inner_in [] i are there = absurd there
inner_in (x ∷ xs) i are (inl same) = subst IsInner same are.0
inner_in (x ∷ xs) i are (inr there) = inner_in xs i are.1 there

either_among : (xs ys : List Inst) (i : Inst) → IsAmong i (xs ++ ys) → IsAmong i xs ⊎ IsAmong i ys
either_among [] ys i there = inr there
either_among (x ∷ xs) ys i (inl same) = inl (inl same)
either_among (x ∷ xs) ys i (inr there) = elim (either_among xs ys i there) [ inl left ↦ inl (inr left) | inr right ↦ inr right ]

inner_of : (bs : List Block) (i : Inst) → AllInner bs → IsAmong i (flat_map (λ (b : Block). b.insts) bs) → IsInner i
inner_of [] i are there = absurd there
inner_of (b ∷ bs) i are there = elim (either_among b.insts (flat_map (λ (c : Block). c.insts) bs) i there) [
  | inl here ↦ inner_in b.insts i are.0 here
  | inr later ↦ inner_of bs i are.1 later
]

have_of : (fs : List Function) → HaveInner fs → (f : Function) → IsFunctionOf f fs → AllInner f.blocks
have_of [] all f one = absurd one
have_of (g ∷ fs) all f (inl same) = subst (λ (h : Function). AllInner h.blocks) same all.0
have_of (g ∷ fs) all f (inr one) = have_of fs all.1 f one

-- places in a function
abbrev is_in : Place → Bool
is_in Outside = false
is_in _ = true

abbrev is_end : Kind → Bool
is_end End = true
is_end _ = false

stays : (p : Place) (k : Kind) → is_in p ≡ true → is_end k ≡ false → is_in (after p k) ≡ true
stays Outside k on off = cc
stays p End on off = cc
stays p k on off = refl

no_head : (p : Place) → is_in p ≡ true → is_stray p Head ≡ true
no_head Outside on = cc
no_head p on = refl

no_global : (p : Place) → is_in p ≡ true → is_stray p Global ≡ true
no_global Outside on = cc
no_global p on = refl

module _ (ws : List ℕ) where
  abbrev K : List Inst1 → List Kind
  K is = map (kind_of ws) is

  abbrev AreKnown : List Inst1 → Type 0
  AreKnown [] = Unit {0}
  AreKnown (i ∷ is) = (is_unknown ws i ≡ false) × AreKnown is

  inner_by : (i : Inst1) (o : Option Op) → is_inner_kind (option_map_or kind_of_op o Other) ≡ true → option_map_or (lacks_inner ws i) o true ≡ false → (is_inner (group_of (unwrap_or o op.Nop)) ≡ true) × (has_type (unwrap_or o op.Nop) ≡ false → has_result (unwrap_or o op.Nop) ≡ false)
  inner_by i None on told = cc
  inner_by i (Some o) on told = (inner_op o ∙ on, λ off. and_off (not (has_type o)) (has_result o) (and_off (is_inner_kind (kind_of_op o)) (not (has_type o) && has_result o) (resultless_op o) on) (ap not off))

  kind_tells : (i : Inst1) (k : Kind) → kind_of ws i ≡ k → is_inner_kind k ≡ true → is_unknown ws i ≡ false → IsInner (inst_of ws i)
  unfolding kind_of_opcode known
  kind_tells i k e on told = by_test ((i.opcode == number op.ExtInst) && is_import ws (word ws i 3)) e
    where
      by_test : (b : Bool) → (if b then Debug else kind_of_opcode i.opcode) ≡ k → IsInner (inst_of ws i)
      by_test true e = let never : false ≡ true = ap is_inner_kind e ∙ on in cc
      by_test false e =
          let w = inner_by i (op_of i.opcode) (ap is_inner_kind e ∙ on) told in
          (w.0, λ off. ap (λ (b : Bool). if b then word ws i (1 + count_of (has_type (known i.opcode))) else 0) (w.1 off))

  insts_from : (p : Place) (is : List Inst1) → is_in p ≡ true → AreStanding p (K is) → AreKnown is → are_blocks (K is) ≡ true → AreInner (block_insts ws is)
  insts_from p [] within stand told e = cc
  insts_from p (i ∷ is) within stand told e = by_kind (kind_of ws i) refl stand.0 stand.1 e (λ q on at more. insts_from q is on at told.1 more)
    where
      by_kind : (k : Kind) → kind_of ws i ≡ k → is_stray p k ≡ false → AreStanding (after p k) (K is) → are_blocks (k ∷ K is) ≡ true
          → ((q : Place) → is_in q ≡ true → AreStanding q (K is) → are_blocks (K is) ≡ true → AreInner (block_insts ws is)) → AreInner (with_inst k (inst_of ws i) (block_insts ws is))
      by_kind Label kind right at e later = tt
      by_kind End kind right at e later = tt
      by_kind Debug kind right at e later = later (after p Debug) (stays p Debug within refl) at e
      by_kind Head kind right at e later = no_flip (is_stray p Head) (no_head p within) right
      by_kind Global kind right at e later = no_flip (is_stray p Global) (no_global p within) right
      by_kind Opening_of kind right at e later = cc
      by_kind Parameter kind right at e later = cc
      by_kind k kind right at e later = (kind_tells i k kind refl told.0, later (after p k) (stays p k within refl) at e)

  blocks_from : (p : Place) (is : List Inst1) → is_in p ≡ true → AreStanding p (K is) → AreKnown is → are_blocks (K is) ≡ true → AllInner (blocks ws is)
  blocks_from p [] within stand told e = cc
  blocks_from p (i ∷ is) within stand told e = by_kind (kind_of ws i) stand.1 e (λ q on at more. blocks_from q is on at told.1 more)
    where
      by_kind : (k : Kind) → AreStanding (after p k) (K is) → are_blocks (k ∷ K is) ≡ true
          → ((q : Place) → is_in q ≡ true → AreStanding q (K is) → are_blocks (K is) ≡ true → AllInner (blocks ws is)) → AllInner (with_block k (block ws i is) (blocks ws is))
      by_kind Label at e later = (insts_from (after p Label) is (stays p Label within refl) at told.1 e, later (after p Label) (stays p Label within refl) at e)
      by_kind End at e later = tt
      by_kind Opening_of at e later = cc
      by_kind Parameter at e later = cc
      by_kind k at e later = later (after p k) (stays p k within refl) at e

  function_from : (is : List Inst1) → AreStanding Opening (K is) → AreKnown is → is_function (K is) ≡ true → AllInner (blocks ws is)
  function_from [] stand told e = cc
  function_from (i ∷ is) stand told e = by_kind (kind_of ws i) stand.1 e (λ at more. function_from is at told.1 more)
    where
      by_kind : (k : Kind) → AreStanding (after Opening k) (K is) → is_function (k ∷ K is) ≡ true → (AreStanding Opening (K is) → is_function (K is) ≡ true → AllInner (blocks ws is)) → AllInner (with_block k (block ws i is) (blocks ws is))
      by_kind Debug at e later = later at e
      by_kind Parameter at e later = later at e
      by_kind Label at e later = (insts_from Start is refl at told.1 e, blocks_from Start is refl at told.1 e)
      by_kind k at e later = cc

  have_from : (p : Place) (is : List Inst1) → AreStanding p (K is) → AreKnown is → AreGood Opening_of is_function (K is) → HaveInner (functions_from ws is)
  have_from p [] stand told opens = tt
  have_from p (i ∷ is) stand told opens = by_kind (kind_of ws i) stand.1 opens.0 (λ q at. have_from q is at told.1 opens.1)
    where
      by_kind : (k : Kind) → AreStanding (after p k) (K is) → (k ≡ Opening_of → is_function (K is) ≡ true) → ((q : Place) → AreStanding q (K is) → HaveInner (functions_from ws is)) → HaveInner (with_function k (function ws i is) (functions_from ws is))
      by_kind Opening_of at here rest = (function_from is at told.1 (here refl), rest Opening at)
      by_kind k at here rest = rest (after p k) at

  all_known : (is : List Inst1) → ((k : ℕ) → k < length is → is_unknown ws (slice_index_or is k no_inst) ≡ false) → AreKnown is
  all_known [] each = tt
  all_known (i ∷ is) each = (each 0 (let some : 0 < suc (length is) = omega arith in some), all_known is (λ k less. each (suc k) (let more : suc k < suc (length is) = omega (arith, less) in more)))

  -- the functions of a module
  pub inner : IsUnbroken ws P1 → IsUnbroken ws P4 → (f : Function) → IsFunctionOf f (functions ws) → (i : Inst) → IsAmong i (insts_of f) → IsInner i
  inner ops form f one i there =
      inner_of f.blocks i
      (have_of (functions ws)
      (have_from Outside (insts ws)
      (standing Outside (kinds ws) (λ k less e. form (nth_inst ws k).start (k, inside ws k less, refl, inl e)))
      (all_known (insts ws) (λ k less. false_from_ne_true (is_unknown ws (nth_inst ws k)) (λ on. ops (nth_inst ws k).start (k, less, refl, on))))
      (good Opening_of is_function (kinds ws) (λ k less e off. form (nth_inst ws k).start (k, inside ws k less, refl, inr (inl (e, off)))))) f one) there

  pub frameless : IsUnbroken ws P1 → IsUnbroken ws P4 → (f : Function) → IsFunctionOf f (functions ws) → (i : Inst) → IsAmong i (insts_of f) → is_frame (group_of i.op) ≡ false
  frameless ops form f one i there = no_frame (group_of i.op) (inner ops form f one i there).0

-- so of a module that was read from bytes
module _ (bytes : List ℕ) (m : ModuleState) (read : IsReadFrom bytes m) where
  pub accepted_inner : (f : Function) → IsFunctionOf f m.functions → (i : Inst) → IsAmong i (insts_of f) → IsInner i
  accepted_inner f one i there = inner (words bytes) read.form.1.0 read.form.1.1.1.1.0 f (subst (λ (n : ModuleState). IsFunctionOf f n.functions) read.made one) i there

  pub accepted_free : (f : Function) → IsFunctionOf f m.functions → (i : Inst) → IsAmong i (insts_of f) → is_frame (group_of i.op) ≡ false
  accepted_free f one i there = no_frame (group_of i.op) (accepted_inner f one i there).0
