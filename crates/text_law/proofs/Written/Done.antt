-- What makes a value stands before what mentions it; so in the block of both it is done before that.
use Rattle.std.proofs.Common.{◌≡◌, ◌≤◌, ◌<◌, ◌+◌, ◌&&◌, ◌||◌, ℕ, zero, suc, Bool, true, false, List, [], ◌∷◌, ◌++◌, append_assoc, Some, inl, inr, sym, ap, ◌∙◌, subst, arith}
use Rattle.std.specs.Prelude.{flat_map, slice_get, slice_index, slice_index_or}
use Rattle.spv_ops.specs.Opcode.{is}
use Rattle.spv_ops.specs.Operands.{is_id}
use Rattle.spv_ops.specs.declared.Op.TheVariants as code
use Rattle.spv_module.specs.State.{ModuleState}
use Rattle.spv_module.specs.declared.inst.Inst.{Inst}
use Rattle.spv_module.specs.declared.inst.Block.{Block}
use Rattle.spv_module.specs.declared.inst.Function.{Function}
use Rattle.spv_index.specs.Locals.{insts_of, inst_in}
use Rattle.profile_rules.specs.Operands.{need, is_there_in}
use Rattle.use_chains.specs.Slots.{is_value, is_taken, is_slot, is_base}
use Rattle.module_semantics.specs.Steps.{is_phi}
use Rattle.list_law.proofs.Numbers.{no_less}
use Rattle.list_law.proofs.Lists.{place_of}
use Rattle.list_law.proofs.Tests.{not_both, and_left, and_right}
use Rattle.agree_law.specs.Blocks.{IsOf}
use Rattle.agree_law.specs.Points.{Body, behind}
use Rattle.plan_law.specs.InOrder.{AreRising, IsOwn, AreInOrder}
use Rattle.plan_law.proofs.Order.{before_of}
use Rattle.typed_law.proofs.Rules.{operand_there}
use Rattle.typed_law.proofs.Sized.{rising_low}
use Rattle.claim_law.specs.Claimed.{IsIn}
use Rattle.claim_law.proofs.Claim.Constants.{found_in}
use Rattle.grammar_law.specs.Mentioned.{IsMentioned, IsLinked}
use Rattle.grammar_law.proofs.Unit.Links.{as_linked, linked_in}
use Rattle.grammar_law.proofs.Unit.Lists.{as_among}
use Rattle.grammar_law.specs.Formed.{ArePhis, IsFormedBlock}

-- parts of a rising list rise
rising_right : (n : ℕ) (xs ys : List Inst) → AreRising n (xs ++ ys) → (k : ℕ) × AreRising k ys
rising_right n [] ys rising = (n, rising)
rising_right n (x ∷ xs) ys rising = rising_right (x.at + 1) xs ys rising.1

rising_left : (n : ℕ) (xs ys : List Inst) → AreRising n (xs ++ ys) → AreRising n xs
rising_left n [] ys rising = tt
rising_left n (x ∷ xs) ys rising = (rising.0, rising_left (x.at + 1) xs ys rising.1)

pub rising_in : (n : ℕ) (bs : List Block) (b : ℕ) (block : Block) → AreRising n (flat_map (λ (x : Block). x.insts) bs) → slice_get bs b ≡ Some block → (k : ℕ) × AreRising k block.insts
rising_in n [] b block rising at = cc
rising_in n (x ∷ bs) zero block rising at =
    let same : x ≡ block = cc in
    (n, subst (λ (y : Block). AreRising n y.insts) same (rising_left n x.insts (flat_map (λ (y : Block). y.insts) bs) rising))
rising_in n (x ∷ bs) (suc b) block rising at =
    let later = rising_right n x.insts (flat_map (λ (y : Block). y.insts) bs) rising in
    rising_in later.0 bs b block later.1 at

-- what stands at a lower word than an instruction of a rising list stands before it there
before_it : (n : ℕ) (befores : List Inst) (i : Inst) (rest : List Inst) (j : Inst) → AreRising n (befores ++ i ∷ rest) → IsIn j (befores ++ i ∷ rest) → j.at < i.at → IsOf j befores
before_it n [] i rest j rising (inl here) less = absurd (no_less j.at i.at less (subst (λ (x : Inst). i.at ≤ x.at) here (let itself : i.at ≤ i.at = omega arith in itself)))
before_it n [] i rest j rising (inr there) less = let low = rising_low (i.at + 1) rest j rising.1 (as_among rest j there) in absurd (no_less j.at i.at less (omega (arith, low)))
before_it n (x ∷ befores) i rest j rising (inl here) less = inl here
before_it n (x ∷ befores) i rest j rising (inr there) less = inr (before_it (x.at + 1) befores i rest j rising.1 there less)

-- of phis and others, one that is no phi is one of the others
no_head : (hs xs : List Inst) (j : Inst) → ArePhis hs → is_phi j ≡ false → IsOf j (hs ++ xs) → IsOf j xs
no_head [] xs j phis off one = one
no_head (h ∷ hs) xs j phis off (inl here) = absurd (not_both (is_phi j) (subst (λ (x : Inst). is_phi x ≡ true) here phis.0) off)
no_head (h ∷ hs) xs j phis off (inr later) = no_head hs xs j phis.1 off later

-- what is done is behind
behind_has : (done is : List Inst) (j : Inst) → IsOf j done → IsOf j (behind done is)
behind_has done [] j one = one
behind_has done (i ∷ is) j one = behind_has (i ∷ done) is j (inr one)

pub all_behind : (done is : List Inst) (j : Inst) → IsOf j is → IsOf j (behind done is)
all_behind done [] j one = absurd one
all_behind done (i ∷ is) j (inl here) = behind_has (i ∷ done) is j (inl here)
all_behind done (i ∷ is) j (inr later) = all_behind (i ∷ done) is j later

module _ (m : ModuleState) (f : Function) (order : AreInOrder m f) where
  -- the law: an instruction whose result another mentions that is no phi stands before it
  pub linked_before : (reached : List Bool) (block : ℕ) (i : Inst) (n : ℕ) → IsLinked f reached block i n → is i.op code.Phi ≡ false → (j : Inst) → inst_in f n ≡ Some j → (j.result ≡ 0 → ⊥) → j.at < i.at
  linked_before reached block i n w no_phi j made some =
      let own = found_in (insts_of f) n j made in
      let slot = and_right (slice_index_or reached block false || is_base i w.arg) (is_slot f reached i w.arg) w.slot in
      let names = and_left (is_id i.op i.args w.arg) (is_value i.op w.arg && is_taken f reached i w.arg) slot in
      let value = and_left (is_value i.op w.arg) (is_taken f reached i w.arg) (and_right (is_id i.op i.args w.arg) (is_value i.op w.arg && is_taken f reached i w.arg) slot) in
      let word = place_of i.args w.arg n w.word in
      let there : is_there_in m f i.at (need i.op w.arg) (slice_index i.args w.arg) ≡ true
      = operand_there (is_there_in m f i.at) i (order.there i (as_among (insts_of f) i (linked_in f reached block i n w))) w.arg word.0 names in
      before_of m f i.at n i.op w.arg j value no_phi
      (subst (IsOwn m f) own.1 (order.own j (as_among (insts_of f) j own.0) some)) made
      (subst (λ (k : ℕ). is_there_in m f i.at (need i.op w.arg) k ≡ true) word.1 there)

  pub maker_before : (reached : List Bool) (block : ℕ) (i : Inst) (n : ℕ) → IsMentioned f reached block i n → is i.op code.Phi ≡ false → (j : Inst) → inst_in f n ≡ Some j → (j.result ≡ 0 → ⊥) → j.at < i.at
  maker_before reached block i n w = linked_before reached block i n (as_linked f reached block i n w)

  -- so it is done where both stand in one block
  pub done_before : (b : ℕ) (o : Body f b) (formed : IsFormedBlock o.block.insts) (befores : List Inst) (i : Inst) (rest : List Inst) → formed.behind ≡ befores ++ i ∷ rest → (j : Inst) → IsIn j o.block.insts → is_phi j ≡ false → j.at < i.at → IsOf j befores
  done_before b o formed befores i rest split j there off less =
      let whole : o.block.insts ≡ (formed.heads ++ befores) ++ i ∷ rest = formed.whole ∙ (ap (λ (xs : List Inst). formed.heads ++ xs) split ∙ sym (append_assoc formed.heads befores (i ∷ rest))) in
      let rising = rising_in 0 f.blocks b o.block order.rising o.there in
      no_head formed.heads befores j formed.are_phis off
      (before_it rising.0 (formed.heads ++ befores) i rest j (subst (AreRising rising.0) whole rising.1) (subst (IsIn j) whole there) less)
