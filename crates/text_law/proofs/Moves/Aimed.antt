-- Where a live phi takes something from a block, an edge leads from that block to the phi's (T22), so the target of the edge is among those of its block.
use Rattle.std.proofs.Common.{◌≡◌, ◌+◌, ◌%◌, ◌==◌, ◌&&◌, ◌||◌, not, ℕ, zero, suc, Bool, true, false, List, [], ◌∷◌, map, filter, take, drop, Contains, flat_map, Option, Some, unwrap_or, inl, inr, refl, sym, ap, ◌∙◌, subst, if◌then◌else◌, arith}
use Rattle.std.specs.Prelude.{slice_get}
use Rattle.std.specs.List.{enumerate_from, list_any}
use Rattle.std.proofs.lemmas.Bool.{and_parts, or_cases, not-false}
use Rattle.std.proofs.lemmas.Bool.Decides.{nat_tests}
use Rattle.std.proofs.lemmas.Option.{same_Some}
use Rattle.spv_words.specs.declared.rule.Rule.TheVariants.{T1, T21}
use Rattle.spv_ops.specs.Opcode.{is}
use Rattle.spv_ops.specs.OpGroups.{group_of}
use Rattle.spv_ops.specs.Groups.{is_terminator}
use Rattle.spv_ops.specs.declared.Op.{Op}
use Rattle.spv_ops.specs.declared.Op.TheVariants as code
use Rattle.spv_module.specs.State.{ModuleState}
use Rattle.spv_module.specs.declared.inst.Inst.{Inst}
use Rattle.spv_module.specs.declared.inst.Block.{Block}
use Rattle.spv_module.specs.declared.inst.Function.{Function}
use Rattle.spv_index.specs.Locals.{block_in, insts_of, type_in}
use Rattle.spv_index.specs.ValueTypes.{is_no_value_type}
use Rattle.structure_rules.specs.declared.graph.Node.{Node}
use Rattle.structure_rules.specs.Graph.{index_of, seconds, exit_of, labels_by, target_labels, graph, nth}
use Rattle.profile_rules.specs.FlowRules.{every_second, has_repeat, is_target, targets, goes, goes_to, is_predecessor, are_labels, are_no_predecessors, is_from_elsewhere, breaks_t21_of, breaks_t22}
use Rattle.profile_rules.specs.Operands.{breaks_t1_in}
use Rattle.profile_rules.specs.TypeRows.{is_other}
use Rattle.profile_rules.specs.TypeRules.{broken_if, is_value_broken, is_number_broken, is_flow_broken, is_broken_in, broken_by_local, broken_by_block, rule_of}
use Rattle.list_law.proofs.Tests.{off_on, and_off}
use Rattle.agree_law.specs.Points.{Body}
use Rattle.type_law.proofs.Vectors.{three_off}
use Rattle.plan_law.specs.InOrder.{IsAmong, AreInOrder}
use Rattle.typed_law.specs.Conforms.{IsConforming}
use Rattle.typed_law.proofs.Lists.{none_left, none_right, none_among}
use Rattle.typed_law.proofs.Rules.{refused, rest_of}
use Rattle.typed_law.proofs.Others.{phi_group}
use Rattle.claim_law.specs.Claimed.{IsIn}
use Rattle.claim_law.proofs.Claim.Listed.{in_flat, in_mapped, at_place}
use Rattle.grammar_law.proofs.Unit.Lists.{test_same, at_some, in_filter, none_passes, numbered_first, as_among}
use Rattle.function_law.proofs.Nodes.{node_is}
use Rattle.grammar_law.specs.Formed.{IsFormedFunction}
use Rattle.grammar_law.proofs.Formed.Blocks.{reached_body, only_end, end_is}
use Rattle.text_law.proofs.Naming.Ends.{ends_by}
use Rattle.text_law.proofs.Naming.Keys.{some_in}
use Rattle.text_law.proofs.Naming.Firsts.{of_in}
use Rattle.text_law.proofs.Written.PhiLabels.{phi_labels}

last_off : (a b c : Bool) → (a || b || c) ≡ false → c ≡ false
last_off a b c off = (three_off a b c off).2

-- what goes to a label ends its block
target_ends : (o : Op) (k : ℕ) → is_target o k ≡ true → is_terminator o ≡ true
target_ends code.Branch k on = refl
target_ends code.BranchConditional k on = refl
target_ends code.Switch k on = refl
target_ends o k on = cc

-- a word that is kept by its place stands at one that passes
at_kept : (P : ℕ → Bool) (n : ℕ) (ws : List ℕ) (w : ℕ) → IsIn w (map (λ (x : ℕ × ℕ). x.1) (filter (λ (x : ℕ × ℕ). P x.0) (enumerate_from n ws))) → (k : ℕ) × (slice_get ws k ≡ Some w) × (P (n + k) ≡ true)
at_kept P n [] w there = absurd there
at_kept P n (v ∷ ws) w there = by_test (P n) refl there (at_kept P (n + 1) ws w)
  where
    further : (k : ℕ) × (slice_get ws k ≡ Some w) × (P (n + 1 + k) ≡ true) → (k : ℕ) × (slice_get (v ∷ ws) k ≡ Some w) × (P (n + k) ≡ true)
    further r = (suc r.0, r.1, subst (λ (x : ℕ). P x ≡ true) (let same : n + 1 + r.0 ≡ n + suc r.0 = omega arith in same) r.2)

    here : P n ≡ true → v ≡ w → (k : ℕ) × (slice_get (v ∷ ws) k ≡ Some w) × (P (n + k) ≡ true)
    here on same = (zero, ap (λ (x : ℕ). Some x) same, subst (λ (x : ℕ). P x ≡ true) (let first : n ≡ n + zero = omega arith in first) on)

    by_test : (b : Bool) → P n ≡ b → IsIn w (map (λ (x : ℕ × ℕ). x.1) (if b then (n, v) ∷ filter (λ (x : ℕ × ℕ). P x.0) (enumerate_from (n + 1) ws) else filter (λ (x : ℕ × ℕ). P x.0) (enumerate_from (n + 1) ws)))
        → (IsIn w (map (λ (x : ℕ × ℕ). x.1) (filter (λ (x : ℕ × ℕ). P x.0) (enumerate_from (n + 1) ws))) → (k : ℕ) × (slice_get ws k ≡ Some w) × (P (n + 1 + k) ≡ true)) → (k : ℕ) × (slice_get (v ∷ ws) k ≡ Some w) × (P (n + k) ≡ true)
    by_test true on (inl same) later = here on same
    by_test true on (inr among) later = further (later among)
    by_test false off among later = further (later among)

-- the labels of a terminator
in_first : (args : List ℕ) (k l : ℕ) → (k == 0) ≡ true → slice_get args k ≡ Some l → IsIn l (take 1 args)
in_first [] k l on at = cc
in_first (a ∷ args) zero l on at = inl (same_Some a l at)
in_first (a ∷ args) (suc k) l on at = absurd (let same = test_same (suc k) 0 on in omega (arith, same))

in_two : (args : List ℕ) (k l : ℕ) → ((k == 1) || (k == 2)) ≡ true → slice_get args k ≡ Some l → IsIn l (take 2 (drop 1 args))
in_two [] k l on at = cc
in_two (a ∷ args) zero l on at = off_on on
in_two (a ∷ []) (suc k) l on at = cc
in_two (a ∷ b ∷ args) (suc zero) l on at = inl (same_Some b l at)
in_two (a ∷ b ∷ []) (suc (suc k)) l on at = cc
in_two (a ∷ b ∷ c ∷ args) (suc (suc zero)) l on at = inr (inl (same_Some c l at))
in_two (a ∷ b ∷ c ∷ args) (suc (suc (suc k))) l on at = elim (or_cases (suc (suc (suc k)) == 1) (suc (suc (suc k)) == 2) on) [
  | inl one ↦ absurd (let same = test_same (suc (suc (suc k))) 1 one in omega (arith, same))
  | inr two ↦ absurd (let same = test_same (suc (suc (suc k))) 2 two in omega (arith, same))
]

odd_less : (k : ℕ) → (suc (suc k) % 2 == 1) ≡ true → (k % 2 == 1) ≡ true
odd_less k e = grind (arith, nat_tests, e)

in_seconds : (args : List ℕ) (k l : ℕ) → (k % 2 == 1) ≡ true → slice_get args k ≡ Some l → IsIn l (seconds args)
in_seconds [] k l on at = cc
in_seconds (a ∷ args) zero l on at = off_on on
in_seconds (a ∷ []) (suc k) l on at = cc
in_seconds (a ∷ b ∷ args) (suc zero) l on at = inl (same_Some b l at)
in_seconds (a ∷ b ∷ args) (suc (suc k)) l on at = inr (in_seconds args k l (odd_less k on) at)

label_at : (o : Op) (args : List ℕ) (k l : ℕ) → is_target o k ≡ true → slice_get args k ≡ Some l → IsIn l (labels_by (exit_of o) args)
unfolding group_of
label_at code.Branch args k l on at = in_first args k l on at
label_at code.BranchConditional args k l on at = in_two args k l on at
label_at code.Switch args k l on at = in_seconds args k l on at
label_at o args k l on at = cc

-- a predecessor by its terminator
module _ (f : Function) (form : IsFormedFunction f) (places : (k : ℕ) (x : Block) → slice_get f.blocks k ≡ Some x → block_in f x.label.0 ≡ Some k) where
  pub leads_there : (b t l : ℕ) (o : Body f b) → reached_body f form b ≡ Some o → block_in f l ≡ Some b → (holder : Block) → slice_get f.blocks t ≡ Some holder → is_predecessor f holder.label.0 l ≡ true → IsIn t (nth (graph f) b).targets
  leads_there b t l o at from holder held on =
      let w = some_in (λ (x : Block). (x.label.0 == l) && goes_to holder.label.0 x) f.blocks on in
      let parts = and_parts (w.0.label.0 == l) (goes_to holder.label.0 w.0) w.2 in
      let c = at_some f.blocks w.0 w.1 in
      let place : c.0 ≡ b = same_Some c.0 b (sym (places c.0 w.0 c.1) ∙ (ap (block_in f) (test_same w.0.label.0 l parts.0) ∙ from)) in
      let block_is : w.0 ≡ o.block = same_Some w.0 o.block (sym c.1 ∙ (ap (λ (k : ℕ). slice_get f.blocks k) place ∙ o.there)) in
      by_inst (some_in (goes holder.label.0) o.block.insts (subst (λ (x : Block). goes_to holder.label.0 x ≡ true) block_is parts.1))
    where
      targets_are : (nth (graph f) b).targets ≡ map (index_of f) (labels_by (exit_of o.last.op) o.last.args)
      targets_are = ap (λ (n : Node). n.targets) (node_is f b o.block o.there) ∙ ap (λ (x : Option Inst). map (index_of f) (target_labels x)) (ends_by f form b o at).0

      index_is : index_of f holder.label.0 ≡ t
      index_is = ap (λ (x : Option ℕ). unwrap_or x 0) (places t holder held)

      by_label : (i : Inst) → IsIn i o.block.insts → (x : ℕ) × IsIn x (targets i) × ((x == holder.label.0) ≡ true) → IsIn t (nth (graph f) b).targets
      by_label i there x =
          let k = at_kept (is_target i.op) 0 i.args x.0 x.1 in
          let formed = form.blocks b o.block o.there in
          let ends : is_terminator i.op ≡ true = target_ends i.op (0 + k.0) k.2 in
          let last_is : i ≡ o.last = sym (only_end o.block.insts formed i (of_in o.block.insts i there) ends) ∙ same_Some formed.ended.last o.last (sym (end_is o.block formed) ∙ (ends_by f form b o at).0) in
          let label : IsIn holder.label.0 (labels_by (exit_of i.op) i.args) = label_at i.op i.args k.0 holder.label.0 (subst (λ (n : ℕ). is_target i.op n ≡ true) (let first : 0 + k.0 ≡ k.0 = omega arith in first) k.2) (k.1 ∙ ap (λ (n : ℕ). Some n) (test_same x.0 holder.label.0 x.2)) in
          subst (IsIn t) (sym targets_are)
          (subst (λ (n : ℕ). IsIn n (map (index_of f) (labels_by (exit_of o.last.op) o.last.args))) index_is
          (in_mapped (index_of f) (labels_by (exit_of o.last.op) o.last.args) holder.label.0 (subst (λ (j : Inst). IsIn holder.label.0 (labels_by (exit_of j.op) j.args)) last_is label)))

      by_inst : (i : Inst) × IsIn i o.block.insts × (goes holder.label.0 i ≡ true) → IsIn t (nth (graph f) b).targets
      by_inst i = by_label i.0 i.1 (some_in (λ (l : ℕ). l == holder.label.0) (targets i.0) i.2)

-- T22 of a phi, in the very block where it stands
module _ (m : ModuleState) (entry : Option (List ℕ)) (right : IsConforming m entry) (f : Function) (in_it : Contains m.functions f) (order : AreInOrder m f) where
  in_block : (holder : Block) (i : Inst) (bs : List Block) (k : ℕ) → flat_map (broken_by_block m f) bs ≡ [] → slice_get bs k ≡ Some holder → IsAmong i holder.insts → broken_by_local m f holder i ≡ []
  in_block holder i [] k none at there = cc
  in_block holder i (x ∷ bs) zero none at there =
      none_among (broken_by_local m f holder) holder.insts i (subst (λ (y : Block). broken_by_block m f y ≡ []) (same_Some x holder at) (none_left (broken_by_block m f x) (flat_map (broken_by_block m f) bs) none)) there
  in_block holder i (x ∷ bs) (suc k) none at there = in_block holder i bs k (none_right (broken_by_block m f x) (flat_map (broken_by_block m f) bs) none) at there

  by_blocks : flat_map (broken_by_block m f) f.blocks ≡ []
  by_blocks = none_right (broken_if (breaks_t21_of m.globals f) T21 f.at) (flat_map (broken_by_block m f) f.blocks) (rest_of m entry right f in_it)

  -- each label of a phi is that of a block from which an edge leads to the phi's
  pub from_predecessor : (t : ℕ) (holder : Block) → slice_get f.blocks t ≡ Some holder → (i : Inst) → IsIn i holder.insts → is i.op code.Phi ≡ true → (k l : ℕ) → (k % 2 == 1) ≡ true → slice_get i.args k ≡ Some l → is_predecessor f holder.label.0 l ≡ true
  from_predecessor t holder held i there phi k l odd at =
      let local = in_block holder i f.blocks t by_blocks held (as_among holder.insts i there) in
      let broken = refused (is_broken_in m f holder i (group_of i.op)) (rule_of (group_of i.op)) i.at (none_right (broken_if (breaks_t1_in m f i) T1 i.at) (broken_if (is_broken_in m f holder i (group_of i.op)) (rule_of (group_of i.op)) i.at) local) in
      let flow = last_off (is_value_broken m (type_in m.globals f) i (group_of i.op)) (is_number_broken m.globals (type_in m.globals f) i (group_of i.op)) (is_flow_broken m f holder i (group_of i.op)) broken in
      let off : breaks_t22 m.heads m.globals (type_in m.globals f) f holder i ≡ false = ap (is_flow_broken m f holder i) (sym (phi_group i.op phi)) ∙ flow in
      let elsewhere = last_off (is_no_value_type m.heads m.globals i.ty) (list_any (is_other m.globals (type_in m.globals f) i.ty) (every_second 0 i.args)) (is_from_elsewhere f holder.label.0 i) off in
      let among : IsIn i (insts_of f) = in_flat (λ (x : Block). x.insts) f.blocks holder i (at_place f.blocks t holder held) there in
      let labels = and_off (are_labels f (every_second 1 i.args)) (are_no_predecessors f holder.label.0 (every_second 1 i.args)) elsewhere (phi_labels m f order i (as_among (insts_of f) i among) phi) in
      not-false (is_predecessor f holder.label.0 l)
      (none_passes (λ (x : ℕ). not (is_predecessor f holder.label.0 x)) (every_second 1 i.args) l
      (in_mapped (λ (q : ℕ × ℕ). q.1) (filter (λ (q : ℕ × ℕ). q.0 % 2 == 1) (enumerate_from 0 i.args)) (k, l) (in_filter (λ (q : ℕ × ℕ). q.0 % 2 == 1) (enumerate_from 0 i.args) (k, l) (numbered_first i.args k l at) odd))
      (all_off (every_second 1 i.args) labels))
    where
      all_off : (ls : List ℕ) → are_no_predecessors f holder.label.0 ls ≡ false → list_any (λ (x : ℕ). not (is_predecessor f holder.label.0 x)) ls ≡ false
      all_off ls off = last_off _ (has_repeat ls) _ off
