-- Chains in order: what is based on a chain, and how far each stands behind its base.
use Rattle.std.proofs.Common.{◌≡◌, ◌≢◌, ◌⊎◌, ◌<◌, ◌≤◌, ◌+◌, ◌==◌, ◌&&◌, ℕ, Bool, true, false, List, [], ◌∷◌, inl, inr, refl, sym, ap, ◌∙◌, subst, arith}
use Rattle.std.proofs.lemmas.Bool.Decides.{eqb_tells}
use Rattle.std.proofs.lemmas.Bool.{and_parts}
use Rattle.spv_ops.specs.Groups.{is_chain}
use Rattle.spv_ops.specs.OpGroups.{group_of}
use Rattle.spv_ops.specs.declared.Op.{Op}
use Rattle.spv_ops.specs.declared.Op.TheVariants as code
use Rattle.spv_module.specs.declared.inst.Inst.{Inst}
use Rattle.spv_module.specs.declared.inst.Function.{Function}
use Rattle.spv_index.specs.Locals.{insts_of}
use Rattle.module_semantics.specs.Steps.{chain, step_kind, base, with_based, based_among, is_based_on}
use Rattle.list_law.proofs.Numbers.{number_itself}
use Rattle.agree_law.specs.Blocks.{IsOf}
use Rattle.global_law.specs.Chains.{NoneMakes, ChainsRise}

-- the opcodes of chains
pub chain_op : (o : Op) → step_kind o ≡ chain → is_chain o ≡ true
unfolding step_kind group_of
chain_op code.AccessChain e = refl
chain_op code.InBoundsAccessChain e = refl
chain_op o e = cc

pub op_chain : (o : Op) → is_chain o ≡ true → step_kind o ≡ chain
unfolding step_kind group_of
op_chain code.AccessChain e = refl
op_chain code.InBoundsAccessChain e = refl
op_chain o e = cc

none_of : (n : ℕ) (is : List Inst) (i : Inst) → NoneMakes n is → IsOf i is → is_chain i.op ≡ true → i.result ≢ n
none_of n [] i none is on = absurd is
none_of n (j ∷ js) i none (inl same) on = λ e. none.0 (ap (λ (x : Inst). is_chain x.op) same ∙ on) (ap (λ (x : Inst). x.result) same ∙ e)
none_of n (j ∷ js) i none (inr is) on = none_of n js i none.1 is on

-- two chains with one result are one
pub one_chain : (xs : List Inst) (i j : Inst) → ChainsRise xs → IsOf i xs → IsOf j xs → is_chain i.op ≡ true → is_chain j.op ≡ true → i.result ≡ j.result → i ≡ j
one_chain [] i j rise is js on too same = absurd is
one_chain (x ∷ xs) i j rise (inl a) (inl b) on too same = sym a ∙ b
one_chain (x ∷ xs) i j rise (inl a) (inr b) on too same =
    absurd (none_of x.result xs j (rise.0 (ap (λ (q : Inst). is_chain q.op) a ∙ on)).1 b too (sym same ∙ ap (λ (q : Inst). q.result) (sym a)))
one_chain (x ∷ xs) i j rise (inr a) (inl b) on too same =
    absurd (none_of x.result xs i (rise.0 (ap (λ (q : Inst). is_chain q.op) b ∙ too)).1 a on (same ∙ ap (λ (q : Inst). q.result) (sym b)))
one_chain (x ∷ xs) i j rise (inr a) (inr b) on too same = one_chain xs i j rise.1 a b on too same

abbrev choice : ℕ → (ℕ → Bool) → Inst → ℕ → Bool → Bool
choice n based i k made = elim made [ true ↦ elim (base i == n) [ true ↦ true | false ↦ based (base i) ] | false ↦ based k ]

other : (a b : ℕ) → a ≢ b → (a == b) ≡ false
other a b no_one = elim (eqb_tells a b) [ inl w ↦ absurd (no_one w.1) | inr w ↦ w.0 ]

-- the test of what an instruction makes
makes_not : (i : Inst) (k : ℕ) → (is_chain i.op ≡ true → i.result ≢ k) → (is_chain i.op && (i.result == k)) ≡ false
makes_not i k none = by_test (is_chain i.op) refl none
  where
    by_test : (t : Bool) → is_chain i.op ≡ t → (t ≡ true → i.result ≢ k) → (t && (i.result == k)) ≡ false
    by_test true is none = other i.result k (none refl)
    by_test false is none = refl

-- what is not made stays
based_same : (n : ℕ) (xs : List Inst) (based : ℕ → Bool) (k : ℕ) → NoneMakes k xs → based_among n based xs k ≡ based k
based_same n [] based k none = refl
based_same n (i ∷ is) based k none = based_same n is (with_based n based i) k none.1 ∙ ap (choice n based i k) (makes_not i k none.0)

-- a chain is based on what its base is, or is based on
pub based_by : (n : ℕ) (xs : List Inst) (based : ℕ → Bool) (q : Inst) → ChainsRise xs → IsOf q xs → is_chain q.op ≡ true → based_among n based xs q.result ≡ elim (base q == n) as (λ t. Bool) [ true ↦ true | false ↦ based_among n based xs (base q) ]
based_by n [] based q rise is on = absurd is
based_by n (i ∷ is) based q rise (inr there) on = based_by n is (with_based n based i) q rise.1 there on
based_by n (i ∷ is) based q rise (inl same) on =
    let made = rise.0 (ap (λ (x : Inst). is_chain x.op) same ∙ on) in
    let result : i.result ≡ q.result = ap (λ (x : Inst). x.result) same in
    let from : base i ≡ base q = ap base same in
    let on_i : is_chain i.op ≡ true = ap (λ (x : Inst). is_chain x.op) same ∙ on in
    let test : (is_chain i.op && (i.result == q.result)) ≡ true = ap (λ t. t && (i.result == q.result)) on_i ∙ ap (λ k. i.result == k) (sym result) ∙ number_itself i.result in
    let base_same : based_among n (with_based n based i) is (base q) ≡ based (base q)
    = ap (based_among n (with_based n based i) is) (sym from) ∙ based_same n is (with_based n based i) (base i) made.0.1 ∙ ap (choice n based i (base i)) (makes_not i (base i) made.0.0) ∙ ap based from in
    based_same n is (with_based n based i) q.result (subst (λ k. NoneMakes k is) result made.1) ∙ ap (choice n based i q.result) test
    ∙ ap (λ b. elim (b == n) as (λ t. Bool) [ true ↦ true | false ↦ based b ]) from ∙ ap (λ t. elim (base q == n) as (λ t. Bool) [ true ↦ true | false ↦ t ]) (sym base_same)

pub free_base : (f : Function) (n : ℕ) (q : Inst) → ChainsRise (insts_of f) → IsOf q (insts_of f) → is_chain q.op ≡ true → is_based_on f n q.result ≡ false → (base q ≢ n) × (is_based_on f n (base q) ≡ false)
free_base f n q rise is on off = by_test (base q == n) (eqb_tells (base q) n) (sym (based_by n (insts_of f) (λ k. false) q rise is on) ∙ off)
  where
    by_test : (t : Bool) → ((t ≡ true) × (base q ≡ n)) ⊎ ((t ≡ false) × (base q ≡ n → ⊥)) → elim t as (λ t. Bool) [ true ↦ true | false ↦ is_based_on f n (base q) ] ≡ false → (base q ≢ n) × (is_based_on f n (base q) ≡ false)
    by_test true w e = cc
    by_test false (inl w) e = cc
    by_test false (inr w) e = (w.1, e)

-- no chain is based on number_itself, through whatever chains
none_ahead : (xs : List Inst) (q : Inst) (based : ℕ → Bool) → ChainsRise xs → IsOf q xs → is_chain q.op ≡ true → ((k : ℕ) → based k ≡ false) → based_among q.result based xs (base q) ≡ false
none_ahead [] q based rise is on none = absurd is
none_ahead (i ∷ is) q based rise (inr there) on none = none_ahead is q (with_based q.result based i) rise.1 there on (λ k. still k (is_chain i.op && (i.result == k)) refl)
  where
    by_base : (t : Bool) → ((t ≡ true) × (base i ≡ q.result)) ⊎ ((t ≡ false) × (base i ≡ q.result → ⊥)) → is_chain i.op ≡ true → elim t as (λ t. Bool) [ true ↦ true | false ↦ based (base i) ] ≡ false
    by_base true (inl w) chained = absurd (none_of (base i) (i ∷ is) q (rise.0 chained).0 (inr there) on (sym w.1))
    by_base true (inr w) chained = cc
    by_base false w chained = none (base i)

    still : (k : ℕ) (t : Bool) → (is_chain i.op && (i.result == k)) ≡ t → choice q.result based i k t ≡ false
    still k true made = by_base (base i == q.result) (eqb_tells (base i) q.result) (and_parts (is_chain i.op) (i.result == k) made).0
    still k false made = none k
none_ahead (i ∷ is) q based rise (inl same) on none =
    let on_i : is_chain i.op ≡ true = ap (λ (x : Inst). is_chain x.op) same ∙ on in
    let made = (rise.0 on_i).0 in
    let from : base i ≡ base q = ap base same in
    ap (based_among q.result (with_based q.result based i) is) (sym from) ∙ based_same q.result is (with_based q.result based i) (base i) made.1 ∙ ap (choice q.result based i (base i)) (makes_not i (base i) made.0) ∙ none (base i)

pub own_base : (f : Function) (q : Inst) → ChainsRise (insts_of f) → IsOf q (insts_of f) → is_chain q.op ≡ true → (base q ≢ q.result) × (is_based_on f q.result (base q) ≡ false)
own_base f q rise is on = (not_own (insts_of f) rise is, none_ahead (insts_of f) q (λ k. false) rise is on (λ k. refl))
  where
    not_own : (xs : List Inst) → ChainsRise xs → IsOf q xs → base q ≢ q.result
    not_own [] rise is = absurd is
    not_own (i ∷ is) rise (inr there) = not_own is rise.1 there
    not_own (i ∷ is) rise (inl same) = λ e.
        let on_i : is_chain i.op ≡ true = ap (λ (x : Inst). is_chain x.op) same ∙ on in
        (rise.0 on_i).0.0 on_i (ap (λ (x : Inst). x.result) same ∙ sym e ∙ sym (ap base same))

-- how many of the instructions stand before an id is made by a chain, or 0
abbrev pub rank_from : ℕ → (ℕ → ℕ) → List Inst → ℕ → ℕ
rank_from k known [] = known
rank_from k known (i ∷ is) = rank_from (k + 1) (λ n. elim (is_chain i.op && (i.result == n)) [ true ↦ k + 1 | false ↦ known n ]) is

rank_same : (k : ℕ) (known : ℕ → ℕ) (xs : List Inst) (n : ℕ) → NoneMakes n xs → rank_from k known xs n ≡ known n
rank_same k known [] n none = refl
rank_same k known (i ∷ is) n none = rank_same (k + 1) _ is n none.1 ∙ ap (λ t. elim t as (λ t. ℕ) [ true ↦ k + 1 | false ↦ known n ]) (makes_not i n none.0)

rank_rises : (k : ℕ) (known : ℕ → ℕ) (xs : List Inst) (q : Inst) → ((n : ℕ) → known n ≤ k) → ChainsRise xs → IsOf q xs → is_chain q.op ≡ true → rank_from k known xs (base q) < rank_from k known xs q.result
rank_rises k known [] q low rise is on = absurd is
rank_rises k known (i ∷ is) q low rise (inr there) on = rank_rises (k + 1) _ is q (λ n. lower n (is_chain i.op && (i.result == n))) rise.1 there on
  where
    lower : (n : ℕ) (t : Bool) → elim t as (λ t. ℕ) [ true ↦ k + 1 | false ↦ known n ] ≤ k + 1
    lower n true = let le : k + 1 ≤ k + 1 = omega arith in le
    lower n false = let old = low n in omega (arith, old)
rank_rises k known (i ∷ is) q low rise (inl same) on =
    let on_i : is_chain i.op ≡ true = ap (λ (x : Inst). is_chain x.op) same ∙ on in
    let made = rise.0 on_i in
    let result : i.result ≡ q.result = ap (λ (x : Inst). x.result) same in
    let from : base i ≡ base q = ap base same in
    let test : (is_chain i.op && (i.result == q.result)) ≡ true = ap (λ t. t && (i.result == q.result)) on_i ∙ ap (λ k. i.result == k) (sym result) ∙ number_itself i.result in
    let high : rank_from k known (i ∷ is) q.result ≡ k + 1 = rank_same (k + 1) _ is q.result (subst (λ k. NoneMakes k is) result made.1) ∙ ap (λ t. elim t as (λ t. ℕ) [ true ↦ k + 1 | false ↦ known q.result ]) test in
    let under : rank_from k known (i ∷ is) (base q) ≡ known (base q)
    = ap (rank_from k known (i ∷ is)) (sym from) ∙ rank_same (k + 1) _ is (base i) made.0.1 ∙ ap (λ t. elim t as (λ t. ℕ) [ true ↦ k + 1 | false ↦ known (base i) ]) (makes_not i (base i) made.0.0) ∙ ap known from in
    let le = low (base q) in
    subst (λ a. a < rank_from k known (i ∷ is) q.result) (sym under) (subst (λ a. known (base q) < a) (sym high) (omega (arith, le)))

abbrev pub rank : Function → ℕ → ℕ
rank f n = rank_from 0 (λ n. 0) (insts_of f) n

pub base_lower : (f : Function) (q : Inst) → ChainsRise (insts_of f) → IsOf q (insts_of f) → is_chain q.op ≡ true → rank f (base q) < rank f q.result
base_lower f q rise is on = rank_rises 0 (λ n. 0) (insts_of f) q (λ n. let le : 0 ≤ 0 = omega arith in le) rise is on
