-- Where T1 is not broken, each label to which a terminator leads is that of a block of its function.
use Rattle.std.proofs.Common.{◌≡◌, ◌<◌, ◌==◌, ◌||◌, ◌%◌, ℕ, suc, Bool, true, false, List, [], ◌∷◌, length, find, Option, Some, None, inl, inr, refl, sym, ap, ◌∙◌, subst, if◌then◌else◌, arith}
use Rattle.std.specs.Prelude.{◌⊎◌, is_some, slice_index, Contains}
use Rattle.std.specs.Option.{option_map_or}
use Rattle.std.proofs.lemmas.Bool.Decides.{eqb_tells}
use Rattle.spv_ops.specs.OpGroups.{group_of, takes_of}
use Rattle.spv_ops.specs.Operands.{is_id}
use Rattle.spv_ops.specs.declared.Op.{Op}
use Rattle.spv_ops.specs.declared.Op.TheVariants as code
use Rattle.spv_module.specs.declared.inst.Inst.{Inst}
use Rattle.spv_module.specs.declared.inst.Block.{Block}
use Rattle.spv_module.specs.declared.inst.Function.{Function}
use Rattle.spv_types.specs.Types.{earlier}
use Rattle.spv_index.specs.Locals.{block_in, insts_of}
use Rattle.structure_rules.specs.declared.graph.Exit.TheVariants.{Branch, Conditional, Switch}
use Rattle.structure_rules.specs.Graph.{seconds, exit_of, labels_by}
use Rattle.profile_rules.specs.declared.needs.Need.{Need}
use Rattle.profile_rules.specs.declared.needs.Need.TheVariants.{Value, Label}
use Rattle.profile_rules.specs.Operands.{need, suits, is_global, is_there_in}
use Rattle.list_law.proofs.Tests.{or_true, second_by}
use Rattle.region_law.specs.Leads.{In}
use Rattle.module_semantics.specs.Setting.{Setting}
use Rattle.call_law.specs.Known.{IsFunctionOf}
use Rattle.typed_law.specs.Conforms.{IsConforming}
use Rattle.typed_law.proofs.Rules.{operand_there}
use Rattle.typed_law.proofs.Values.{inside}
use Rattle.grammar_law.proofs.Ruled.Ruled.{contains_of}
use Rattle.claim_law.specs.Claimed.{IsIn}
use Rattle.claim_law.proofs.Claim.Listed.{in_flat, at_place}
use Rattle.text_law.specs.Ends.{HasLabels}
use Rattle.grammar_law.proofs.Unit.Lists.{as_among}

-- the label is an operand, and T1 asks that it is one of a block
abbrev IsLabelOf : Op → List ℕ → ℕ → Type 0
IsLabelOf o args label = (k : ℕ) × (k < length args) × (slice_index args k ≡ label) × (is_id o args k ≡ true) × (need o k ≡ Label)

branch_label : (args : List ℕ) (label : ℕ) → In label (labels_by Branch args) → IsLabelOf code.Branch args label
unfolding need is_id takes_of group_of
branch_label [] label among = absurd among
branch_label (a ∷ args) label (inl same) = (0, (let less : 0 < suc (length args) = omega arith in less), sym same, refl, refl)
branch_label (a ∷ args) label (inr never) = absurd never

conditional_label : (args : List ℕ) (label : ℕ) → In label (labels_by Conditional args) → IsLabelOf code.BranchConditional args label
unfolding need is_id takes_of group_of
conditional_label [] label among = absurd among
conditional_label (c ∷ []) label among = absurd among
conditional_label (c ∷ a ∷ []) label (inl same) = (1, (let less : 1 < 2 = omega arith in less), sym same, refl, refl)
conditional_label (c ∷ a ∷ []) label (inr never) = absurd never
conditional_label (c ∷ a ∷ b ∷ args) label (inl same) = (1, (let less : 1 < suc (suc (suc (length args))) = omega arith in less), sym same, refl, refl)
conditional_label (c ∷ a ∷ b ∷ args) label (inr (inl same)) = (2, (let less : 2 < suc (suc (suc (length args))) = omega arith in less), sym same, refl, refl)
conditional_label (c ∷ a ∷ b ∷ args) label (inr (inr never)) = absurd never

-- the labels of a table stand at the odd places
odd_place : (args : List ℕ) (label : ℕ) → In label (seconds args) → (k : ℕ) × (suc k < length args) × (slice_index args (suc k) ≡ label) × (suc k % 2 ≡ 1)
odd_place [] label among = absurd among
odd_place (w ∷ []) label among = absurd among
odd_place (w ∷ a ∷ args) label (inl same) = (0, (let less : 1 < suc (suc (length args)) = omega arith in less), sym same, refl)
odd_place (w ∷ a ∷ args) label (inr among) =
    let p = odd_place args label among in
    let less = p.1 in
    let odd = p.3 in
    (suc (suc p.0), (let more : suc (suc (suc p.0)) < suc (suc (length args)) = omega (arith, less) in more), p.2, (let next : suc (suc (suc p.0)) % 2 ≡ 1 = omega (arith, odd) in next))

later_label : (k : ℕ) → need code.Switch (suc k) ≡ Label
unfolding need takes_of group_of
later_label k = by_test (suc k == 0) (eqb_tells (suc k) 0)
  where
    by_test : (b : Bool) → ((b ≡ true) × (suc k ≡ 0)) ⊎ ((b ≡ false) × (suc k ≡ 0 → ⊥)) → (if b then Value else Label) ≡ Label
    by_test b (inl w) = let never : suc k ≡ 0 = w.1 in cc
    by_test false (inr w) = refl
    by_test true (inr w) = let off : true ≡ false = w.0 in cc

switch_label : (args : List ℕ) (label : ℕ) → In label (labels_by Switch args) → IsLabelOf code.Switch args label
unfolding is_id
switch_label args label among =
    let p = odd_place args label among in
    (suc p.0, p.1, p.2, ap (λ (n : ℕ). (suc p.0 == 0) || (n == 1)) p.3 ∙ or_true (suc p.0 == 0), later_label p.0)

label_of : (o : Op) (args : List ℕ) (label : ℕ) → In label (labels_by (exit_of o) args) → IsLabelOf o args label
unfolding group_of
label_of code.Branch args label among = branch_label args label among
label_of code.BranchConditional args label among = conditional_label args label among
label_of code.Switch args label among = switch_label args label among
label_of o args label among = absurd among

pub found_among : (test : Inst → Bool) (is : List Inst) (i : Inst) → find test is ≡ Some i → IsIn i is
found_among test [] i e = cc
found_among test (x ∷ is) i e = by_test (test x) e (found_among test is i)
  where
    by_test : (b : Bool) → (if b then Some x else find test is) ≡ Some i → (find test is ≡ Some i → IsIn i is) → IsIn i (x ∷ is)
    by_test true e later = inl (let same : x ≡ i = cc in same)
    by_test false e later = inr (later e)

-- no global is a label
no_global : (o : Option Inst) → option_map_or (suits Label) o false ≡ false
no_global None = refl
no_global (Some g) = refl

module _ (s : Setting) (entry : Option (List ℕ)) (right : IsConforming s.of entry) (f : Function) (is_one : IsFunctionOf f s.of.functions) where
  in_it : Contains s.of.functions f
  in_it = contains_of s.of.functions f is_one

  -- each label is that of a block
  pub labels_there : HasLabels f
  labels_there = record {
    there = λ b block i at has label among.
        let inside_it = as_among (insts_of f) i (in_flat (λ (x : Block). x.insts) f.blocks block i (at_place f.blocks b block at) (found_among _ block.insts i has)) in
        let p = label_of i.op i.args label among in
        let on = operand_there (is_there_in s.of f i.at) i ((inside s entry right f in_it).order.there i inside_it) p.0 p.1 p.3 in
        let its : is_there_in s.of f i.at Label label ≡ true = subst (λ (n : ℕ). is_there_in s.of f i.at Label n ≡ true) p.2 (subst (λ (q : Need). is_there_in s.of f i.at q (slice_index i.args p.0) ≡ true) p.4 on) in
        second_by (is_global s.of.globals i.at Label label) (is_some (block_in f label)) its (no_global (earlier s.of.globals i.at label));
  }
