-- The result of an instruction of a block is new there: nothing before it in the block has that result, or reads it, or reads what is based on it.
use Rattle.std.proofs.Common.{◌≡◌, ◌<◌, ◌+◌, ◌==◌, ◌&&◌, ℕ, Bool, true, false, List, [], ◌∷◌, ◌++◌, append_assoc, inl, inr, refl, sym, ap, ◌∙◌, subst, arith}
use Rattle.std.specs.Prelude.{◌⊎◌}
use Rattle.std.proofs.lemmas.Bool.Decides.{eqb_tells}
use Rattle.std.proofs.lemmas.Option.{same_Some}
use Rattle.spv_ops.specs.Groups.{is_chain, is_terminator}
use Rattle.spv_ops.specs.OpGroups.{group_of}
use Rattle.spv_module.specs.State.{ModuleState}
use Rattle.spv_module.specs.declared.inst.Inst.{Inst}
use Rattle.spv_module.specs.declared.inst.Block.{Block}
use Rattle.spv_module.specs.declared.inst.Function.{Function}
use Rattle.spv_index.specs.Locals.{insts_of, inst_in}
use Rattle.module_semantics.specs.Steps as steps
use Rattle.module_semantics.specs.Steps.{is_phi, base, with_based, based_among, is_based_on}
use Rattle.list_law.proofs.Lists.{same_first, same_rest}
use Rattle.region_law.specs.Leads.{In}
use Rattle.agree_law.specs.Blocks.{IsOf, read_ids, reads, IsNew}
use Rattle.agree_law.specs.Points.{Body}
use Rattle.agree_law.proofs.Chains.{IsFree}
use Rattle.plan_law.specs.InOrder.{IsAmong, AreRising, AreInOrder}
use Rattle.plan_law.proofs.Order.{found}
use Rattle.global_law.proofs.Path.Based.{op_chain}
use Rattle.typed_law.specs.Conforms.{IsFormed}
use Rattle.typed_law.proofs.Sized.{rising_low}
use Rattle.claim_law.specs.Claimed.{IsIn}
use Rattle.claim_law.proofs.Claim.Listed.{in_right, in_flat, at_place}
use Rattle.grammar_law.proofs.Unit.Lists.{as_among}
use Rattle.grammar_law.specs.Formed.{ArePlain, IsFormedBlock}
use Rattle.grammar_law.proofs.Formed.Blocks.{behind_is}
use Rattle.grammar_law.proofs.Formed.Inner.{is_inner}
use Rattle.text_law.proofs.Naming.Firsts.{of_in as in_of}
use Rattle.text_law.proofs.Written.Done.{rising_in}
use Rattle.text_law.proofs.Insts.Slots.{reads_before}

-- what stands before an instruction of a rising list stands at a lower word
before_low : (n : ℕ) (befores : List Inst) (i : Inst) (rest : List Inst) (j : Inst) → AreRising n (befores ++ i ∷ rest) → IsOf j befores → j.at < i.at
before_low n [] i rest j rising one = absurd one
before_low n (x ∷ befores) i rest j rising (inl here) =
    let low = rising_low (x.at + 1) (befores ++ i ∷ rest) i rising.1 (as_among (befores ++ i ∷ rest) i (in_right i befores (i ∷ rest) (inl refl))) in
    subst (λ (y : Inst). y.at < i.at) here (let less : x.at < i.at = omega (arith, low) in less)
before_low n (x ∷ befores) i rest j rising (inr later) = before_low (x.at + 1) befores i rest j rising.1 later

pub in_left : (xs ys : List Inst) (j : Inst) → IsOf j xs → IsIn j (xs ++ ys)
in_left [] ys j one = absurd one
in_left (x ∷ xs) ys j (inl same) = inl same
in_left (x ∷ xs) ys j (inr later) = inr (in_left xs ys j later)

-- lists with a last element
no_end : (xs : List Inst) (b : Inst) → [] ≡ xs ++ b ∷ [] → ⊥
no_end [] b e = cc
no_end (x ∷ xs) b e = cc

pub all_but_last : (xs : List Inst) (a : Inst) (ys : List Inst) (b : Inst) → xs ++ a ∷ [] ≡ ys ++ b ∷ [] → xs ≡ ys
all_but_last [] a [] b e = refl
all_but_last [] a (y ∷ ys) b e = absurd (no_end ys b (same_rest a y [] (ys ++ b ∷ []) e))
all_but_last (x ∷ xs) a [] b e = absurd (no_end xs a (sym (same_rest x b (xs ++ a ∷ []) [] e)))
all_but_last (x ∷ xs) a (y ∷ ys) b e =
    ap (λ (z : Inst). z ∷ xs) (same_first x y (xs ++ a ∷ []) (ys ++ b ∷ []) e) ∙ ap (λ (zs : List Inst). y ∷ zs) (all_but_last xs a ys b (same_rest x y (xs ++ a ∷ []) (ys ++ b ∷ []) e))

plain_so : (xs : List Inst) (j : Inst) → ArePlain xs → IsOf j xs → (is_phi j ≡ false) × (is_terminator j.op ≡ false)
plain_so [] j plain one = absurd one
plain_so (x ∷ xs) j plain (inl here) = subst (λ (y : Inst). (is_phi y ≡ false) × (is_terminator y.op ≡ false)) here (plain.0, plain.1)
plain_so (x ∷ xs) j plain (inr later) = plain_so xs j plain.2 later

no_less : (a b : ℕ) → a < b → b < a → ⊥
no_less a b less more = omega (arith, less, more)

no_self : (a b : ℕ) → a < b → a ≡ b → ⊥
no_self a b less same = omega (arith, less, same)

module _ (m : ModuleState) (f : Function) (order : AreInOrder m f) (formed : (j : Inst) → IsAmong j (insts_of f) → IsFormed j) (inner : (j : Inst) → IsAmong j (insts_of f) → is_inner (group_of j.op) ≡ true) where
  -- two with one result are one
  same_result : (i j : Inst) → IsAmong i (insts_of f) → IsAmong j (insts_of f) → (i.result ≡ 0 → ⊥) → j.result ≡ i.result → j ≡ i
  same_result i j i_in j_in some same =
      same_Some j i (sym (found j (insts_of f) order.apart j_in (λ zero. some (sym same ∙ zero))) ∙ (ap (inst_in f) same ∙ found i (insts_of f) order.apart i_in some))

  module _ (chains : (j : Inst) → IsAmong j (insts_of f) → is_chain j.op ≡ true → (j.result ≡ 0 → ⊥) × (is_phi j ≡ false)) where
    chain_before : (j : Inst) → IsAmong j (insts_of f) → is_chain j.op ≡ true → (i : Inst) → IsAmong i (insts_of f) → (i.result ≡ 0 → ⊥) → base j ≡ i.result → i.at < j.at
    chain_before j j_in on i i_in some same =
        reads_before m f order j j_in (formed j j_in) (inner j j_in) (chains j j_in on).1 (base j) (subst (λ (q : steps.StepKind). In (base j) (read_ids q j)) (sym (op_chain j.op on)) (inl refl)) i i_in some same

    -- what is based on a result is the result of a chain that stands behind
    abbrev pub IsLater : Inst → ℕ → Type 0
    IsLater i n = (q : Inst) × IsAmong q (insts_of f) × (is_chain q.op ≡ true) × (q.result ≡ n) × (i.at < q.at)

    module _ (i : Inst) (i_in : IsAmong i (insts_of f)) (some : i.result ≡ 0 → ⊥) where
      based_step : (based : ℕ → Bool) → ((n : ℕ) → based n ≡ true → IsLater i n) → (x : Inst) → IsAmong x (insts_of f) → (n : ℕ) → with_based i.result based x n ≡ true → IsLater i n
      based_step based known x x_in n on = by_made (is_chain x.op) refl (x.result == n) (eqb_tells x.result n) on
        where
          by_base : (t : Bool) → ((t ≡ true) × (base x ≡ i.result)) ⊎ ((t ≡ false) × (base x ≡ i.result → ⊥)) → is_chain x.op ≡ true → x.result ≡ n → elim t as (λ t. Bool) [ true ↦ true | false ↦ based (base x) ] ≡ true → IsLater i n
          by_base true (inl w) chain made on = (x, x_in, chain, made, chain_before x x_in chain i i_in some w.1)
          by_base true (inr w) chain made on = cc
          by_base false w chain made on =
              let q = known (base x) on in
              let first = q.4 in
              let less = chain_before x x_in chain q.0 q.1 (chains q.0 q.1 q.2).0 (sym q.3) in
              (x, x_in, chain, made, omega (arith, first, less))

          by_made : (c : Bool) → is_chain x.op ≡ c → (t : Bool) → ((t ≡ true) × (x.result ≡ n)) ⊎ ((t ≡ false) × (x.result ≡ n → ⊥))
              → elim (c && t) as (λ t. Bool) [ true ↦ elim (base x == i.result) as (λ t. Bool) [ true ↦ true | false ↦ based (base x) ] | false ↦ based n ] ≡ true → IsLater i n
          by_made true chain true (inl w) on = by_base (base x == i.result) (eqb_tells (base x) i.result) chain w.1 on
          by_made true chain true (inr w) on = cc
          by_made true chain false w on = known n on
          by_made false chain t w on = known n on

      based_of : (xs : List Inst) → ((x : Inst) → IsAmong x xs → IsAmong x (insts_of f)) → (based : ℕ → Bool) → ((n : ℕ) → based n ≡ true → IsLater i n) → (n : ℕ) → based_among i.result based xs n ≡ true → IsLater i n
      based_of [] sub based known n on = known n on
      based_of (x ∷ xs) sub based known n on = based_of xs (λ y y_in. sub y (inr y_in)) (with_based i.result based x) (based_step based known x (sub x (inl refl))) n on

      none_based : (n : ℕ) → false ≡ true → IsLater i n
      none_based n e = cc

      pub based_later : (n : ℕ) → is_based_on f i.result n ≡ true → IsLater i n
      based_later n on = based_of (insts_of f) (λ x x_in. x_in) (λ id. false) none_based n on

  -- at an instruction of a block
  module _ (b : ℕ) (o : Body f b) (block : IsFormedBlock o.block.insts) (befores : List Inst) (i : Inst) (rest : List Inst) (split : o.insts ≡ befores ++ i ∷ rest) where
    pub split_behind : block.behind ≡ befores ++ i ∷ (rest ++ o.last ∷ [])
    split_behind = sym (behind_is o.block block) ∙ (o.whole ∙ (ap (λ (xs : List Inst). xs ++ o.last ∷ []) split ∙ append_assoc befores (i ∷ rest) (o.last ∷ [])))

    whole : o.block.insts ≡ (block.heads ++ befores) ++ i ∷ (rest ++ o.last ∷ [])
    whole = block.whole ∙ (ap (λ (xs : List Inst). block.heads ++ xs) split_behind ∙ sym (append_assoc block.heads befores (i ∷ (rest ++ o.last ∷ []))))

    plain_is : o.insts ≡ block.ended.plain
    plain_is = all_but_last o.insts o.last block.ended.plain block.ended.last (sym o.whole ∙ (behind_is o.block block ∙ block.ended.whole))

    in_function : (j : Inst) → IsIn j o.block.insts → IsAmong j (insts_of f)
    in_function j j_in = as_among (insts_of f) j (in_flat (λ (x : Block). x.insts) f.blocks o.block j (at_place f.blocks b o.block o.there) j_in)

    pub stands_in : IsIn i o.block.insts
    stands_in = subst (IsIn i) (sym whole) (in_right i (block.heads ++ befores) (i ∷ (rest ++ o.last ∷ [])) (inl refl))

    pub stands_among : IsAmong i (insts_of f)
    stands_among = in_function i stands_in

    before_in : (j : Inst) → IsOf j befores → IsIn j (block.heads ++ befores)
    before_in j one = in_right j block.heads befores (of_in befores j one)
      where
        of_in : (xs : List Inst) (j : Inst) → IsOf j xs → IsIn j xs
        of_in [] j one = absurd one
        of_in (x ∷ xs) j (inl same) = inl same
        of_in (x ∷ xs) j (inr later) = inr (of_in xs j later)

    of_left : (xs ys : List Inst) (j : Inst) → IsIn j xs → IsIn j (xs ++ ys)
    of_left [] ys j one = absurd one
    of_left (x ∷ xs) ys j (inl same) = inl same
    of_left (x ∷ xs) ys j (inr later) = inr (of_left xs ys j later)

    before_among : (j : Inst) → IsOf j befores → IsAmong j (insts_of f)
    before_among j one = in_function j (subst (IsIn j) (sym whole) (of_left (block.heads ++ befores) (i ∷ (rest ++ o.last ∷ [])) j (before_in j one)))

    earlier : (j : Inst) → IsOf j befores → j.at < i.at
    earlier j one =
        let rising = rising_in 0 f.blocks b o.block order.rising o.there in
        before_low rising.0 (block.heads ++ befores) i (rest ++ o.last ∷ []) j (subst (AreRising rising.0) whole rising.1) (in_of (block.heads ++ befores) j (before_in j one))

    of_split : (xs : List Inst) → xs ≡ befores ++ i ∷ rest → ArePlain xs → (j : Inst) → (IsOf j befores ⊎ (i ≡ j)) → (is_phi j ≡ false) × (is_terminator j.op ≡ false)
    of_split xs same plain j one = plain_so xs j plain (subst (IsOf j) (sym same) (of_either befores one))
      where
        of_either : (ys : List Inst) → (IsOf j ys ⊎ (i ≡ j)) → IsOf j (ys ++ i ∷ rest)
        of_either [] (inl none) = absurd none
        of_either [] (inr same) = inl same
        of_either (y ∷ ys) (inl (inl here)) = inl here
        of_either (y ∷ ys) (inl (inr later)) = inr (of_either ys (inl later))
        of_either (y ∷ ys) (inr same) = inr (of_either ys (inr same))

    pub no_phi : (j : Inst) → (IsOf j befores ⊎ (i ≡ j)) → is_phi j ≡ false
    no_phi j one = (of_split block.ended.plain (sym plain_is ∙ split) block.ended.are_plain j one).0

    pub no_terminator : is_terminator i.op ≡ false
    no_terminator = (of_split block.ended.plain (sym plain_is ∙ split) block.ended.are_plain i (inr refl)).1

    -- the law
    module _ (some : i.result ≡ 0 → ⊥) (done : List Inst) (only : (j : Inst) → IsOf j done → IsOf j befores) where
      read_earlier : (j : Inst) → IsOf j befores → (n : ℕ) → In n (reads j) → (k : Inst) → IsAmong k (insts_of f) → (k.result ≡ 0 → ⊥) → n ≡ k.result → k.at < j.at
      read_earlier j one n read k k_in has same = reads_before m f order j (before_among j one) (formed j (before_among j one)) (inner j (before_among j one)) (no_phi j (inl one)) n read k k_in has same

      pub is_new : IsNew i done
      is_new = record {
        result = λ j one same. no_self j.at i.at (earlier j (only j one)) (ap (λ (x : Inst). x.at) (same_result i j stands_among (before_among j (only j one)) some same));
        unread = λ j one n read same. no_less j.at i.at (earlier j (only j one)) (read_earlier j (only j one) n read i stands_among some same);
        own = λ n read same. no_self i.at i.at (reads_before m f order i stands_among (formed i stands_among) (inner i stands_among) (no_phi i (inr refl)) n read i stands_among some same) refl;
      }

      module _ (chains : (j : Inst) → IsAmong j (insts_of f) → is_chain j.op ≡ true → (j.result ≡ 0 → ⊥) × (is_phi j ≡ false)) where
        free_by : (n : ℕ) (t : Bool) → is_based_on f i.result n ≡ t → (IsLater chains i n → ⊥) → t ≡ false
        free_by n true is never = absurd (never (based_later chains i stands_among some n is))
        free_by n false is never = refl

        pub is_free : IsFree f i done
        is_free = record {
          result = λ j one. free_by j.result (is_based_on f i.result j.result) refl (λ q.
              let same : j ≡ q.0 = same_result q.0 j q.1 (before_among j (only j one)) (chains q.0 q.1 q.2).0 (sym q.3) in
              no_less j.at i.at (earlier j (only j one)) (subst (λ (x : Inst). i.at < x.at) (sym same) q.4));
          unread = λ j one n read. free_by n (is_based_on f i.result n) refl (λ q.
              let early = earlier j (only j one) in
              let less = read_earlier j (only j one) n read q.0 q.1 (chains q.0 q.1 q.2).0 (sym q.3) in
              no_less j.at i.at early (let more = q.4 in omega (arith, less, more)));
          own = λ n read. free_by n (is_based_on f i.result n) refl (λ q.
              no_less i.at q.0.at q.4 (reads_before m f order i stands_among (formed i stands_among) (inner i stands_among) (no_phi i (inr refl)) n read q.0 q.1 (chains q.0 q.1 q.2).0 (sym q.3)));
        }
