-- Operands stand before what mentions them, where no instruction breaks the rules on ids and on operands.
use Rattle.std.proofs.Common.{◌≡◌, ◌<◌, ◌≤◌, ◌+◌, ◌==◌, ◌&&◌, ◌||◌, not, ℕ, zero, suc, Bool, true, false, List, [], ◌∷◌, ◌++◌, map, filter, Some, None, IfSome, nat_lt, cond, if◌then◌else◌, inl, inr, refl, sym, ap, ◌∙◌, subst, arith}
use Rattle.std.specs.Prelude.{◌⊎◌, flat_map, find, is_some, slice_index_or, slice_get, option_and_then}
use Rattle.std.specs.Option.{option_map_or}
use Rattle.std.specs.List.{enumerate_from, list_any}
use Rattle.std.proofs.lemmas.Bool.{cases_Bool}
use Rattle.std.proofs.lemmas.Bool.Decides.{eqb_tells}
use Rattle.spv_ops.specs.Opcode.{is as is_op, number}
use Rattle.spv_ops.specs.Operands.{is_id}
use Rattle.spv_ops.specs.OpGroups.{takes_of, group_of}
use Rattle.spv_ops.specs.declared.Takes.{Takes}
use Rattle.spv_ops.specs.declared.Takes.TheVariants.{Values, Types, TypeAndConstants, Constants, Labels, ValueAndLabels, ValuesWithLabels, ImportAndValues, FunctionAndValues}
use Rattle.spv_ops.specs.declared.Op.{Op}
use Rattle.spv_ops.specs.declared.Op.TheVariants as code
use Rattle.spv_module.specs.State.{ModuleState}
use Rattle.spv_module.specs.Held.{global}
use Rattle.spv_module.specs.Inst.{has_type}
use Rattle.spv_module.specs.declared.inst.Inst.{Inst}
use Rattle.spv_module.specs.declared.inst.Block.{Block}
use Rattle.spv_module.specs.declared.inst.Function.{Function}
use Rattle.spv_types.specs.Types.{if_earlier}
use Rattle.spv_index.specs.Locals.{insts_of, inst_in, parameter_in, typed}
use Rattle.profile_rules.specs.declared.needs.Need.{Need}
use Rattle.profile_rules.specs.declared.needs.Need.TheVariants.{AnyType, Constant, Value, Label, Callee, Import}
use Rattle.profile_rules.specs.Operands.{need, need_by, suits, type_need, is_in_function, is_local_before, is_there_in, lacks_operand}
use Rattle.use_chains.specs.declared.mention.Mention.{Mention}
use Rattle.use_chains.specs.declared.slot.SlotPlace.{SlotPlace}
use Rattle.use_chains.specs.Slots.{is_value_by, is_value, is_taken, is_base, is_slot, is_slot_in, mention, slots_of_inst, slots_of_block, slots, inst_at}
use Rattle.use_chains.specs.Links.{Link, chain, link_of, AreLiveLinks}
use Rattle.hoist_plan.specs.Plan.{Placed, user, mentions_of, result_of, results_of_block, results}
use Rattle.list_law.proofs.Numbers.{less_of}
use Rattle.list_law.proofs.Tests.{not_both, or_left, or_right, and_right, and_left, but_not}
use Rattle.list_law.proofs.Lists.{same_first, same_rest}
use Rattle.plan_law.specs.Ordered.{NoOperand, NoneMentioned, NoneIs, AreOrdered}
use Rattle.plan_law.specs.InOrder.{IsAmong, AreRising, HaveNot, AreApart, IsOwn, AreInOrder}

-- lists of instructions
pub among_left : (i : Inst) (xs ys : List Inst) → IsAmong i xs → IsAmong i (xs ++ ys)
among_left i [] ys stands = absurd stands
among_left i (x ∷ xs) ys (inl same) = inl same
among_left i (x ∷ xs) ys (inr stands) = inr (among_left i xs ys stands)

pub among_right : (i : Inst) (xs ys : List Inst) → IsAmong i ys → IsAmong i (xs ++ ys)
among_right i [] ys stands = stands
among_right i (x ∷ xs) ys stands = inr (among_right i xs ys stands)

pub not_among : (id : ℕ) (j : Inst) (is : List Inst) → HaveNot id is → IsAmong j is → j.result ≡ id → ⊥
not_among id j [] lacks_it stands same = stands
not_among id j (i ∷ is) lacks_it (inl here) same = lacks_it.0 (ap (λ (x : Inst). x.result) here ∙ same)
not_among id j (i ∷ is) lacks_it (inr stands) same = not_among id j is lacks_it.1 stands same

one_alone : (i j : Inst) (is : List Inst) → AreApart is → IsAmong i is → IsAmong j is → (i.result ≡ 0 → ⊥) → i.result ≡ j.result → i ≡ j
one_alone i j [] apart i_in j_in some same = absurd i_in
one_alone i j (h ∷ is) apart (inl i_here) (inl j_here) some same = sym i_here ∙ j_here
one_alone i j (h ∷ is) apart (inl i_here) (inr j_in) some same =
    let head : h.result ≡ i.result = ap (λ (x : Inst). x.result) i_here in
    absurd (not_among h.result j is (apart.0 (λ lacks_it. some (sym head ∙ lacks_it))) j_in (sym same ∙ sym head))
one_alone i j (h ∷ is) apart (inr i_in) (inl j_here) some same =
    let head : h.result ≡ i.result = ap (λ (x : Inst). x.result) j_here ∙ sym same in
    absurd (not_among h.result i is (apart.0 (λ lacks_it. some (sym head ∙ lacks_it))) i_in (sym head))
one_alone i j (h ∷ is) apart (inr i_in) (inr j_in) some same = one_alone i j is apart.1 i_in j_in some same

pub found : (j : Inst) (is : List Inst) → AreApart is → IsAmong j is → (j.result ≡ 0 → ⊥) → find (λ (i : Inst). i.result == j.result) is ≡ Some j
found j [] apart stands some = absurd stands
found j (h ∷ is) apart (inl here) some =
    let same : h.result ≡ j.result = ap (λ (x : Inst). x.result) here in
    let on : (h.result == j.result) ≡ true = elim (eqb_tells h.result j.result) [ inl w ↦ w.0 | inr w ↦ absurd (w.1 same) ] in
    ap (λ (b : Bool). if b then Some h else find (λ (i : Inst). i.result == j.result) is) on ∙ ap (λ (x : Inst). Some x) here
found j (h ∷ is) apart (inr stands) some =
    let far : h.result ≡ j.result → ⊥ = λ same. not_among h.result j is (apart.0 (λ lacks_it. some (sym same ∙ lacks_it))) stands (sym same) in
    let off : (h.result == j.result) ≡ false = elim (eqb_tells h.result j.result) [ inl w ↦ absurd (far w.1) | inr w ↦ w.0 ] in
    ap (λ (b : Bool). if b then Some h else find (λ (i : Inst). i.result == j.result) is) off ∙ found j is apart.1 stands some

-- what an operand that is no label has to be, but of a phi: in the function, it stands before
phi_alone : (o : Op) → takes_of o ≡ ValuesWithLabels → is_op o code.Phi ≡ true
unfolding takes_of group_of number
phi_alone code.Phi e = refl
phi_alone o e = cc

module _ (m : ModuleState) (f : Function) (n id : ℕ) where
  before_by : (t : Takes) (k : ℕ) → is_value_by t k ≡ true → (t ≡ ValuesWithLabels → ⊥) → is_in_function m f n (need_by t k) id ≡ true → is_local_before f n id ≡ true
  before_by Values k value phi there = there
  before_by Types k value phi there = cc
  before_by TypeAndConstants k value phi there = absurd (by_test (k == 0) there)
    where
      by_test : (b : Bool) → is_in_function m f n (if b then AnyType else Constant) id ≡ true → ⊥
      by_test true e = cc
      by_test false e = cc
  before_by Constants k value phi there = cc
  before_by Labels k value phi there = cc
  before_by ValueAndLabels k value phi there = by_test (k == 0) value there
    where
      by_test : (b : Bool) → b ≡ true → is_in_function m f n (if b then Value else Label) id ≡ true → is_local_before f n id ≡ true
      by_test true on e = e
      by_test false on e = cc
  before_by ValuesWithLabels k value phi there = absurd (phi refl)
  before_by ImportAndValues k value phi there = by_test (k == 0) value there
    where
      by_test : (b : Bool) → not b ≡ true → is_in_function m f n (if b then Import else Value) id ≡ true → is_local_before f n id ≡ true
      by_test true on e = cc
      by_test false on e = e
  before_by FunctionAndValues k value phi there = by_test (k == 0) value there
    where
      by_test : (b : Bool) → not b ≡ true → is_in_function m f n (if b then Callee else Value) id ≡ true → is_local_before f n id ≡ true
      by_test true on e = cc
      by_test false on e = e

  -- an id that is none of a global
  in_function : (which : Need) → global m.globals id ≡ None → is_there_in m f n which id ≡ true → is_in_function m f n which id ≡ true
  in_function which lacks_it there = ap (λ o. option_map_or (suits which) (if_earlier n o) false || is_in_function m f n which id) (sym lacks_it) ∙ there

  before_it : (j : Inst) → parameter_in f id ≡ None → inst_in f id ≡ Some j → is_local_before f n id ≡ true → j.at < n
  before_it j lacks_it is there =
      let now : (is_some (typed j) && nat_lt j.at n) ≡ true =
      ap (λ o. is_some o || (is_some (typed j) && nat_lt j.at n)) (sym lacks_it) ∙ (ap (λ o. is_some (parameter_in f id) || option_map_or (λ (i : Inst). is_some (typed i) && nat_lt i.at n) o false) (sym is) ∙ there) in
      less_of j.at n (and_right (is_some (typed j)) (nat_lt j.at n) now)

  pub before_of : (o : Op) (k : ℕ) (j : Inst) → is_value o k ≡ true → is_op o code.Phi ≡ false → IsOwn m f id → inst_in f id ≡ Some j → is_there_in m f n (need o k) id ≡ true → j.at < n
  unfolding need
  before_of o k j value phi own is there =
      before_it j own.made is (before_by (takes_of o) k value (λ e. not_both (is_op o code.Phi) (phi_alone o e) phi) (in_function (need o k) own.inside there))

-- a slot, and a link: the instruction that mentions the id has it as an operand that is no label
pub record IsUse (m : ModuleState) (f : Function) (at : SlotPlace) (id : ℕ) : Type 0 where
  pub inst : Inst
  pub there : inst_at f at.block at.inst ≡ Some inst
  pub among : IsAmong inst (insts_of f)
  pub names : is_id inst.op inst.args at.arg ≡ true
  pub value : is_value inst.op at.arg ≡ true
  pub right : lacks_operand (is_there_in m f inst.at) inst (at.arg, id) ≡ false

abbrev AreUses : ModuleState → Function → List Mention → Type 0
AreUses m f [] = Unit {0}
AreUses m f (x ∷ xs) = IsUse m f x.place x.id × AreUses m f xs

abbrev AreLinksOf : ModuleState → Function → List Link → Type 0
AreLinksOf m f [] = Unit {0}
AreLinksOf m f (l ∷ ls) = IsUse m f l.place l.id × AreLinksOf m f ls

-- the results of instructions, in their order
pub record IsPlaced (links : List Link) (i : Inst) (p : Placed) : Type 0 where
  pub some : i.result ≡ 0 → ⊥
  pub op : p.op ≡ i.op
  pub result : p.result ≡ i.result
  pub mentions : p.mentions ≡ mentions_of links i.result

abbrev Come : List Link → List Inst → List Placed → Type 0
Come links [] [] = Unit {0}
Come links [] (p ∷ ps) = ⊥
Come links (i ∷ is) [] = (i.result ≡ 0) × Come links is []
Come links (i ∷ is) (p ∷ ps) = ((i.result ≡ 0) × Come links is (p ∷ ps)) ⊎ (IsPlaced links i p × Come links is ps)

module _ (links : List Link) where
  come_past : (i : Inst) (is : List Inst) (ps : List Placed) → i.result ≡ 0 → Come links is ps → Come links (i ∷ is) ps
  come_past i is [] lacks_it come = (lacks_it, come)
  come_past i is (p ∷ ps) lacks_it come = inl (lacks_it, come)

  come_both : (is js : List Inst) (ps qs : List Placed) → Come links is ps → Come links js qs → Come links (is ++ js) (ps ++ qs)
  come_both [] js [] qs a b = b
  come_both [] js (p ∷ ps) qs a b = absurd a
  come_both (i ∷ is) js [] qs a b = come_past i (is ++ js) qs a.0 (come_both is js [] qs a.1 b)
  come_both (i ∷ is) js (p ∷ ps) qs (inl a) b = inl (a.0, come_both is js (p ∷ ps) qs a.1 b)
  come_both (i ∷ is) js (p ∷ ps) qs (inr a) b = inr (a.0, come_both is js ps qs a.1 b)

  come_insts : (block : ℕ) (is : List Inst) → Come links is (flat_map (result_of links block) is)
  come_insts block [] = tt
  come_insts block (i ∷ is) = elim (eqb_tells i.result 0) [
    | inl w ↦ subst (λ (b : Bool). Come links (i ∷ is) ((if b then [] else made ∷ []) ++ flat_map (result_of links block) is)) (sym w.0) (come_past i is (flat_map (result_of links block) is) w.1 (come_insts block is))
    | inr w ↦ subst (λ (b : Bool). Come links (i ∷ is) ((if b then [] else made ∷ []) ++ flat_map (result_of links block) is)) (sym w.0) (inr (record { some = w.1; op = refl; result = refl; mentions = refl }, come_insts block is))
  ]
    where
      made : Placed
      made = record { block = block; op = i.op; ty = i.ty; result = i.result; mentions = mentions_of links i.result }

  come_blocks : (n : ℕ) (bs : List Block) → Come links (flat_map (λ (b : Block). b.insts) bs) (flat_map (results_of_block links) (enumerate_from n bs))
  come_blocks n [] = tt
  come_blocks n (b ∷ bs) =
      come_both b.insts (flat_map (λ (c : Block). c.insts) bs) (flat_map (result_of links n) b.insts) (flat_map (results_of_block links) (enumerate_from (n + 1) bs)) (come_insts n b.insts) (come_blocks (n + 1) bs)

  others_come : (id : ℕ) (is : List Inst) (ps : List Placed) → HaveNot id is → Come links is ps → NoneIs id ps
  others_come id [] [] lacks_it come = tt
  others_come id [] (p ∷ ps) lacks_it come = absurd come
  others_come id (i ∷ is) [] lacks_it come = tt
  others_come id (i ∷ is) (p ∷ ps) lacks_it (inl come) = others_come id is (p ∷ ps) lacks_it.1 come.1
  others_come id (i ∷ is) (p ∷ ps) lacks_it (inr come) = (λ same. lacks_it.0 (sym come.0.result ∙ same), others_come id is ps lacks_it.1 come.1)

module _ (m : ModuleState) (f : Function) (order : AreInOrder m f) where
  abbrev All : List Inst
  All = insts_of f

  lacks_none : (i : Inst) → IsAmong i All → list_any (lacks_operand (is_there_in m f i.at) i) (enumerate_from 0 i.args) ≡ false
  lacks_none i stands =
      or_right (has_type i.op && not (is_there_in m f i.at (type_need i.op) i.ty)) (list_any (lacks_operand (is_there_in m f i.at) i) (enumerate_from 0 i.args)) (order.there i stands)

  module _ (reached : List Bool) where
    both_uses : (xs ys : List Mention) → AreUses m f xs → AreUses m f ys → AreUses m f (xs ++ ys)
    both_uses [] ys a b = b
    both_uses (x ∷ xs) ys a b = (a.0, both_uses xs ys a.1 b)

    uses_of_operands : (here : Bool) (b n : ℕ) (i : Inst) → inst_at f b n ≡ Some i → IsAmong i All → (k : ℕ) (args : List ℕ) → list_any (lacks_operand (is_there_in m f i.at) i) (enumerate_from k args) ≡ false
        → AreUses m f (map (mention b n i) (filter (λ (operand : ℕ × ℕ). is_slot_in f reached here i operand.0) (enumerate_from k args)))
    uses_of_operands here b n i there stands k [] right = tt
    uses_of_operands here b n i there stands k (x ∷ args) right =
        let suited = or_left (lacks_operand (is_there_in m f i.at) i (k, x)) (list_any (lacks_operand (is_there_in m f i.at) i) (enumerate_from (k + 1) args)) right in
        let more = uses_of_operands here b n i there stands (k + 1) args (or_right (lacks_operand (is_there_in m f i.at) i (k, x)) (list_any (lacks_operand (is_there_in m f i.at) i) (enumerate_from (k + 1) args)) right) in
        elim (cases_Bool (is_slot_in f reached here i k)) [
          | inl on ↦ subst (λ t. AreUses m f (map (mention b n i) (cond t ((k, x) ∷ rest) rest))) (sym on) (
            record {
              inst = i;
              there = there;
              among = stands;
              names = and_left (is_id i.op i.args k) (is_value i.op k && is_taken f reached i k) (and_right (here || is_base i k) (is_slot f reached i k) on);
              value = and_left (is_value i.op k) (is_taken f reached i k) (and_right (is_id i.op i.args k) (is_value i.op k && is_taken f reached i k) (and_right (here || is_base i k) (is_slot f reached i k) on));
              right = suited;
            },
            more,
          )
          | inr off ↦ subst (λ t. AreUses m f (map (mention b n i) (cond t ((k, x) ∷ rest) rest))) (sym off) more
        ]
      where
        rest : List (ℕ × ℕ)
        rest = filter (λ (operand : ℕ × ℕ). is_slot_in f reached here i operand.0) (enumerate_from (k + 1) args)

    uses_of_insts : (here : Bool) (b n : ℕ) (is : List Inst) → ((k : ℕ) (i : Inst) → slice_get is k ≡ Some i → inst_at f b (n + k) ≡ Some i) → ((i : Inst) → IsAmong i is → IsAmong i All) → AreUses m f (flat_map (slots_of_inst f reached here b) (enumerate_from n is))
    uses_of_insts here b n [] there all = tt
    uses_of_insts here b n (i ∷ is) there all =
        both_uses (slots_of_inst f reached here b (n, i)) (flat_map (slots_of_inst f reached here b) (enumerate_from (n + 1) is))
        (uses_of_operands here b n i (subst (λ m. inst_at f b m ≡ Some i) (let h : n + 0 ≡ n = omega arith in h) (there zero i refl)) (all i (inl refl)) 0 i.args (lacks_none i (all i (inl refl))))
        (uses_of_insts here b (n + 1) is (λ k j e. subst (λ m. inst_at f b m ≡ Some j) (let h : n + suc k ≡ n + 1 + k = omega arith in h) (there (suc k) j e)) (λ j stands. all j (inr stands)))

    uses_of_blocks : (n : ℕ) (bs : List Block) → ((k : ℕ) (b : Block) → slice_get bs k ≡ Some b → slice_get f.blocks (n + k) ≡ Some b) → ((i : Inst) → IsAmong i (flat_map (λ (b : Block). b.insts) bs) → IsAmong i All)
        → AreUses m f (flat_map (slots_of_block f reached) (enumerate_from n bs))
    uses_of_blocks n [] there all = tt
    uses_of_blocks n (b ∷ bs) there all =
        let here : slice_get f.blocks n ≡ Some b = subst (λ m. slice_get f.blocks m ≡ Some b) (let h : n + 0 ≡ n = omega arith in h) (there zero b refl) in
        both_uses (slots_of_block f reached (n, b)) (flat_map (slots_of_block f reached) (enumerate_from (n + 1) bs))
        (uses_of_insts (slice_index_or reached n false) n 0 b.insts (λ k i e. ap (option_and_then (λ (block : Block). slice_get block.insts (0 + k))) here ∙ (ap (slice_get b.insts) (let h : 0 + k ≡ k = omega arith in h) ∙ e))
        (λ i stands. all i (among_left i b.insts (flat_map (λ (c : Block). c.insts) bs) stands)))
        (uses_of_blocks (n + 1) bs (λ k c e. subst (λ m. slice_get f.blocks m ≡ Some c) (let h : n + suc k ≡ n + 1 + k = omega arith in h) (there (suc k) c e)) (λ i stands. all i (among_right i b.insts (flat_map (λ (c : Block). c.insts) bs) stands)))

    uses : AreUses m f (slots f reached)
    uses = uses_of_blocks 0 f.blocks (λ k b e. ap (slice_get f.blocks) (let h : 0 + k ≡ k = omega arith in h) ∙ e) (λ i stands. stands)

  links_of : (n : ℕ) (ms : List Mention) → AreUses m f ms → AreLinksOf m f (map link_of (enumerate_from n ms))
  links_of n [] are = tt
  links_of n (x ∷ xs) are = (are.0, links_of (n + 1) xs are.1)

  links_among : (test : Link → Bool) (ls : List Link) → AreLinksOf m f ls → AreLinksOf m f (filter test ls)
  links_among test [] are = tt
  links_among test (l ∷ ls) are = elim (cases_Bool (test l)) [
    | inl on ↦ subst (λ t. AreLinksOf m f (cond t (l ∷ filter test ls) (filter test ls))) (sym on) (are.0, links_among test ls are.1)
    | inr off ↦ subst (λ t. AreLinksOf m f (cond t (l ∷ filter test ls) (filter test ls))) (sym off) (links_among test ls are.1)
  ]

  live_links : (reached : List Bool) (links : List Link) → AreLiveLinks f reached links → AreLinksOf m f links
  live_links reached links live =
      subst (AreLinksOf m f) (sym live.1.links_are) (links_among (λ (l : Link). slice_index_or live.0 l.slot false) (map link_of (enumerate_from 0 (slots f reached))) (links_of 0 (slots f reached) (uses reached)))

  -- what mentions the result of an instruction stands behind it
  module _ (i j : Inst) (i_in : IsAmong i All) (j_in : IsAmong j All) (i_some : i.result ≡ 0 → ⊥) (j_some : j.result ≡ 0 → ⊥) (phi : is_op i.op code.Phi ≡ false) (behind : i.at ≤ j.at) where
    not_used : (at : SlotPlace) (id : ℕ) → IsUse m f at id → id ≡ j.result → IfSome (user f at) (λ (u : Inst). u.result ≡ i.result → ⊥)
    not_used at id named same = subst (λ o. IfSome o (λ (u : Inst). u.result ≡ i.result → ⊥)) (sym named.there) (λ again. never (one_alone i named.inst All order.apart i_in named.among i_some (sym again)))
      where
        never : i ≡ named.inst → ⊥
        never is =
            let there = but_not (is_id named.inst.op named.inst.args at.arg) (is_there_in m f named.inst.at (need named.inst.op at.arg) id) named.names named.right in
            let less : j.at < named.inst.at =
            before_of m f named.inst.at j.result named.inst.op at.arg j named.value (ap (λ (x : Inst). is_op x.op code.Phi) (sym is) ∙ phi) (order.own j j_in j_some) (found j All order.apart j_in j_some)
            (subst (λ n. is_there_in m f named.inst.at (need named.inst.op at.arg) n ≡ true) same there) in
            let same_at : i.at ≡ named.inst.at = ap (λ (x : Inst). x.at) is in
            omega (arith, less, same_at, behind)

    none_used : (links : List Link) → AreLinksOf m f links → NoOperand f i.result (map (λ (l : Link). l.place) (chain links j.result))
    none_used [] are = tt
    none_used (l ∷ ls) are = elim (eqb_tells l.id j.result) [
      | inl w ↦ subst (λ t. NoOperand f i.result (map (λ (l : Link). l.place) (cond t (l ∷ chain ls j.result) (chain ls j.result)))) (sym w.0) (not_used l.place l.id are.0 w.1, none_used ls are.1)
      | inr w ↦ subst (λ t. NoOperand f i.result (map (λ (l : Link). l.place) (cond t (l ∷ chain ls j.result) (chain ls j.result)))) (sym w.0) (none_used ls are.1)
    ]

  module _ (links : List Link) (are : AreLinksOf m f links) where
    -- of the results of instructions behind it
    later_none : (i : Inst) → IsAmong i All → (i.result ≡ 0 → ⊥) → is_op i.op code.Phi ≡ false → (n : ℕ) → i.at ≤ n → (is : List Inst) (ps : List Placed) → AreRising n is → ((j : Inst) → IsAmong j is → IsAmong j All) → Come links is ps → NoneMentioned f i.result ps
    later_none i i_in some phi n le [] [] rising all come = tt
    later_none i i_in some phi n le [] (p ∷ ps) rising all come = absurd come
    later_none i i_in some phi n le (j ∷ is) [] rising all come = tt
    later_none i i_in some phi n le (j ∷ is) (p ∷ ps) rising all (inl come) =
        let first = rising.0 in
        later_none i i_in some phi (j.at + 1) (let h : i.at ≤ j.at + 1 = omega (arith, le, first) in h) is (p ∷ ps) rising.1 (λ k stands. all k (inr stands)) come.1
    later_none i i_in some phi n le (j ∷ is) (p ∷ ps) rising all (inr come) =
        let first = rising.0 in (
          subst (NoOperand f i.result) (sym come.0.mentions) (none_used i j i_in (all j (inl refl)) some come.0.some phi (let h : i.at ≤ j.at = omega (arith, le, first) in h) links are),
          later_none i i_in some phi (j.at + 1) (let h : i.at ≤ j.at + 1 = omega (arith, le, first) in h) is ps rising.1 (λ k stands. all k (inr stands)) come.1,
        )

    before_in : (n : ℕ) (is : List Inst) (ps : List Placed) → AreRising n is → ((j : Inst) → IsAmong j is → IsAmong j All) → Come links is ps → (front back : List Placed) (p : Placed) → ps ≡ front ++ p ∷ back → is_op p.op code.Phi ≡ false → NoneMentioned f p.result (p ∷ back)
    before_in n [] [] rising all come [] back p split phi = cc
    before_in n [] [] rising all come (q ∷ front) back p split phi = cc
    before_in n [] (q ∷ ps) rising all come front back p split phi = absurd come
    before_in n (i ∷ is) [] rising all come [] back p split phi = cc
    before_in n (i ∷ is) [] rising all come (q ∷ front) back p split phi = cc
    before_in n (i ∷ is) (q ∷ ps) rising all (inl come) front back p split phi = before_in (i.at + 1) is (q ∷ ps) rising.1 (λ k stands. all k (inr stands)) come.1 front back p split phi
    before_in n (i ∷ is) (q ∷ ps) rising all (inr come) (r ∷ front) back p split phi =
        before_in (i.at + 1) is ps rising.1 (λ k stands. all k (inr stands)) come.1 front back p (same_rest q r ps (front ++ p ∷ back) split) phi
    before_in n (i ∷ is) (q ∷ ps) rising all (inr come) [] back p split phi =
        let same : q ≡ p = same_first q p ps back split in
        let i_in = all i (inl refl) in
        let not_phi : is_op i.op code.Phi ≡ false = ap (λ o. is_op o code.Phi) (sym come.0.op ∙ ap (λ (x : Placed). x.op) same) ∙ phi in
        let own = none_used i i i_in i_in come.0.some come.0.some not_phi (let h : i.at ≤ i.at = omega arith in h) links are in
        let rest = later_none i i_in come.0.some not_phi (i.at + 1) (let h : i.at ≤ i.at + 1 = omega arith in h) is ps rising.1 (λ k stands. all k (inr stands)) come.1 in
        let here : NoneMentioned f q.result (q ∷ ps) = subst (λ n. NoneMentioned f n (q ∷ ps)) (sym come.0.result) (subst (NoOperand f i.result) (sym come.0.mentions) own, rest) in
        subst (λ (l : List Placed). NoneMentioned f p.result l) split (subst (λ (x : Placed). NoneMentioned f x.result (q ∷ ps)) same here)

    once_in : (is : List Inst) (ps : List Placed) → AreApart is → Come links is ps → (front back : List Placed) (p : Placed) → ps ≡ front ++ p ∷ back → NoneIs p.result back
    once_in [] [] apart come [] back p split = cc
    once_in [] [] apart come (q ∷ front) back p split = cc
    once_in [] (q ∷ ps) apart come front back p split = absurd come
    once_in (i ∷ is) [] apart come [] back p split = cc
    once_in (i ∷ is) [] apart come (q ∷ front) back p split = cc
    once_in (i ∷ is) (q ∷ ps) apart (inl come) front back p split = once_in is (q ∷ ps) apart.1 come.1 front back p split
    once_in (i ∷ is) (q ∷ ps) apart (inr come) (r ∷ front) back p split = once_in is ps apart.1 come.1 front back p (same_rest q r ps (front ++ p ∷ back) split)
    once_in (i ∷ is) (q ∷ ps) apart (inr come) [] back p split =
        let lacks_it = others_come links i.result is ps (apart.0 come.0.some) come.1 in
        let named : i.result ≡ p.result = sym come.0.result ∙ ap (λ (x : Placed). x.result) (same_first q p ps back split) in
        subst (NoneIs p.result) (same_rest q p ps back split) (subst (λ n. NoneIs n ps) named lacks_it)

  -- operands stand before what mentions them
  pub in_order : (reached : List Bool) (links : List Link) → AreLiveLinks f reached links → AreOrdered f (results links f)
  in_order reached links live =
      let are = live_links reached links live in
      record {
        before = before_in links are 0 All (results links f) order.rising (λ j stands. stands) (come_blocks links 0 f.blocks);
        once = once_in links are All (results links f) order.apart (come_blocks links 0 f.blocks);
      }
