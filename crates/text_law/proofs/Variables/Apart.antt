-- Keys of a function's variables are apart, so no name is declared twice.
use Rattle.std.proofs.Common.{◌≡◌, ◌≤◌, ◌+◌, ◌&&◌, ℕ, Bool, true, false, List, [], ◌∷◌, ◌++◌, map, filter, Some, None, inl, inr, refl, sym, ap, ◌∙◌, subst, arith, if◌then◌else◌}
use Rattle.std.specs.Prelude.{not, flat_map, bytes_eq}
use Rattle.std.specs.List.{enumerate_from}
use Rattle.spv_ops.specs.Groups.{is_chain}
use Rattle.spv_module.specs.declared.inst.Id.{Id as IdOf}
use Rattle.spv_module.specs.declared.inst.Inst.{Inst}
use Rattle.spv_module.specs.declared.inst.Block.{Block}
use Rattle.spv_module.specs.declared.inst.Function.{Function}
use Rattle.structure_rules.specs.Graph.{graph, nth}
use Rattle.hoist_plan.specs.declared.form.Form.{Form}
use Rattle.access_paths.specs.Ways.{captured_indexes, indexes, is_constant_index}
use Rattle.name_alloc.specs.declared.claims.Key.{Key}
use Rattle.name_alloc.specs.declared.claims.Key.TheVariants.{Main, Id, Block as BlockKey, Member, Again, Leave, Fell, Captured, Spare}
use Rattle.name_alloc.specs.Law.{AreNames}
use Rattle.name_alloc.specs.Naming.{space_of}
use Rattle.glsl_ast.specs.Tree.{Text}
use Rattle.plan_law.specs.InOrder.{AreApart}
use Rattle.region_law.specs.Leads.{In, AreApart as AreApartNumbers}
use Rattle.region_law.proofs.Flags.{same_text}
use Rattle.unit_rules.specs.Translation.{Naming, text_of}
use Rattle.claim_law.specs.Claimed.{IsIn, HasName}
use Rattle.claim_law.proofs.Claim.Listed.{in_left, in_right}
use Rattle.claim_law.proofs.Claim.Told.{named_is}
use Rattle.grammar_law.proofs.Unit.Lists.{in_either, of_filter, of_flat}
use Rattle.grammar_law.proofs.Meets.LiveOrGone.{of_mapped}
use Rattle.text_law.proofs.Naming.Once.{have_not, one_inst, apart_left, apart_right, number_from}
use Rattle.text_law.specs.Declarations.{occurs}
use Rattle.text_law.specs.Variables.{of_result, is_local_here, locals_of, index_key, kept_of, flag_key}
use Rattle.text_law.proofs.Variables.Named.{AllKeys, as_in}

abbrev pub KeysApart : List Key → Type 0
KeysApart [] = Unit {0}
KeysApart (k ∷ ks) = (IsIn k ks → ⊥) × KeysApart ks

pub keys_joined : (a b : List Key) → KeysApart a → KeysApart b → ((k : Key) → IsIn k a → IsIn k b → ⊥) → KeysApart (a ++ b)
keys_joined [] b x y far = y
keys_joined (k ∷ a) b x y far = ((λ there. elim (in_either k a b there) [ inl l ↦ x.0 l | inr r ↦ far k (inl refl) r ]), keys_joined a b x.1 y (λ j l r. far j (inr l) r))

-- the kind of a key
abbrev pub class : Key → ℕ
class Main = 0
class (Id i) = 1
class (BlockKey v s) = 2
class (Member s k) = 3
class (Again l) = 4
class (Leave l) = 5
class (Fell l) = 6
class (Captured q k) = 7
class (Spare a b k) = 8

abbrev pub OfClass : ℕ → List Key → Type 0
OfClass n ks = AllKeys (λ k. class k ≡ n) ks

pub classes_far : (n m : ℕ) (a b : List Key) → OfClass n a → OfClass m b → (n ≡ m → ⊥) → (k : Key) → IsIn k a → IsIn k b → ⊥
classes_far n m a b x y apart k l r = apart (sym (x k l) ∙ y k r)

-- names of the whole text
pub class_space : (k : Key) → (class k ≡ 3 → ⊥) → space_of k ≡ None
class_space Main other = refl
class_space (Id i) other = refl
class_space (BlockKey v s) other = refl
class_space (Member s k) other = absurd (other refl)
class_space (Again l) other = refl
class_space (Leave l) other = refl
class_space (Fell l) other = refl
class_space (Captured q k) other = refl
class_space (Spare a b k) other = refl

module _ (found : Naming) (names : AreNames found) (x : Text) where
  abbrev pub IsPlain : Key → Type 0
  IsPlain k = HasName found k × (space_of k ≡ None)

  keys_none : (k : Key) (ks : List Key) → found k ≡ Some x → space_of k ≡ None → (IsIn k ks → ⊥) → AllKeys IsPlain ks → occurs x (map (text_of found) ks) ≡ 0
  keys_none k [] at space none all = refl
  keys_none k (j ∷ ks) at space none all = by_test (bytes_eq x (text_of found j)) refl (keys_none k ks at space (λ i. none (inr i)) (λ q i. all q (inr i)))
    where
      by_test : (b : Bool) → bytes_eq x (text_of found j) ≡ b → occurs x (map (text_of found) ks) ≡ 0 → (if b then 1 else 0) + occurs x (map (text_of found) ks) ≡ 0
      by_test false off rest = omega (arith, rest)
      by_test true on rest =
          let own = all j (inl refl) in
          let its : found j ≡ Some x = named_is found j own.0 ∙ ap (λ (y : Text). Some y) (sym (same_text x (text_of found j) on)) in
          absurd (none (inl (names.apart j k x (own.1 ∙ sym space) its at)))

  pub keys_once : (ks : List Key) → KeysApart ks → AllKeys IsPlain ks → occurs x (map (text_of found) ks) ≤ 1
  keys_once [] apart all = omega arith
  keys_once (k ∷ ks) apart all = by_test (bytes_eq x (text_of found k)) refl (keys_once ks apart.1 (λ q i. all q (inr i)))
    where
      by_test : (b : Bool) → bytes_eq x (text_of found k) ≡ b → occurs x (map (text_of found) ks) ≤ 1 → (if b then 1 else 0) + occurs x (map (text_of found) ks) ≤ 1
      by_test false off rest = omega (arith, rest)
      by_test true on rest =
          let own = all k (inl refl) in
          let none = keys_none k ks (named_is found k own.0 ∙ ap (λ (y : Text). Some y) (sym (same_text x (text_of found k) on))) own.1 apart.0 (λ q i. all q (inr i)) in
          omega (arith, none)

-- results
abbrev number_of : Key → ℕ
number_of (Id i) = i.0
number_of (Captured q k) = q.0
number_of _ = 0

abbrev index_of : Key → ℕ
index_of (Captured q k) = k
index_of _ = 0

pub ids_apart : (test : Inst → Bool) (is : List Inst) → AreApart is → ((i : Inst) → IsIn i is → test i ≡ true → i.result ≡ 0 → ⊥) → KeysApart (map of_result (filter test is))
ids_apart test [] apart some = tt
ids_apart test (i ∷ is) apart some = by_test (test i) refl (ids_apart test is apart.1 (λ j there. some j (inr there)))
  where
    by_test : (b : Bool) → test i ≡ b → KeysApart (map of_result (filter test is)) → KeysApart (map of_result (if b then i ∷ filter test is else filter test is))
    by_test false off rest = rest
    by_test true on rest = (
      (λ there.
          let j = of_mapped of_result (filter test is) (of_result i) there in
          have_not i.result is j.0 (apart.0 (some i (inl refl) on)) (of_filter test is j.0 j.1).0 (ap number_of j.2)),
      rest,
    )

pub ids_far : (a b : Inst → Bool) (is : List Inst) → AreApart is → ((i : Inst) → IsIn i is → a i ≡ true → i.result ≡ 0 → ⊥) → ((i : Inst) → IsIn i is → a i ≡ true → b i ≡ true → ⊥) → (i j : Inst) → IsIn i is → a i ≡ true → IsIn j is → b j ≡ true → of_result i ≡ of_result j → ⊥
ids_far a b is apart some far i j i_in on j_in also same =
    let one = one_inst is i j apart i_in j_in (ap number_of same) (some i i_in on) in
    far j j_in (subst (λ (q : Inst). a q ≡ true) one on) also

-- of lists one behind the other
apart_split : (xs ys : List Inst) (i j : Inst) → AreApart (xs ++ ys) → IsIn i xs → IsIn j ys → j.result ≡ i.result → (i.result ≡ 0 → ⊥) → ⊥
apart_split [] ys i j apart a b same some = a
apart_split (x ∷ xs) ys i j apart (inl a) b same some =
    let one : x.result ≡ i.result = ap (λ (q : Inst). q.result) a in
    have_not x.result (xs ++ ys) j (apart.0 (λ z. some (sym one ∙ z))) (in_right j xs ys b) (same ∙ sym one)
apart_split (x ∷ xs) ys i j apart (inr a) b same some = apart_split xs ys i j apart.1 a b same some

module _ (gs : List Inst) (f : Function) (form : ℕ → Form) (carried : ℕ → Bool) where
  abbrev here : Inst → Bool
  here = is_local_here gs f form carried

  abbrev whole : List Block → List Inst
  whole bs = flat_map (λ (b : Block). b.insts) bs

  -- a local result is that of an instruction
  pub local_of : (bs : List Block) (from : ℕ) (k : Key) → IsIn k (flat_map (locals_of gs f form carried) (enumerate_from from bs)) → (i : Inst) × IsIn i (whole bs) × (here i ≡ true) × (of_result i ≡ k)
  local_of [] from k there = absurd there
  local_of (b ∷ bs) from k there = elim (in_either k (locals_of gs f form carried (from, b)) (flat_map (locals_of gs f form carried) (enumerate_from (from + 1) bs)) there) [
    | inl l ↦ by_reached (nth (graph f) from).reached l
    | inr r ↦ let w = local_of bs (from + 1) k r in (w.0, in_right w.0 b.insts (whole bs) w.1, w.2, w.3)
  ]
    where
      by_reached : (q : Bool) → IsIn k (if q then map of_result (filter here b.insts) else []) → (i : Inst) × IsIn i (whole (b ∷ bs)) × (here i ≡ true) × (of_result i ≡ k)
      by_reached false none = absurd none
      by_reached true l = let j = of_mapped of_result (filter here b.insts) k l in let w = of_filter here b.insts j.0 j.1 in (j.0, in_left j.0 b.insts (whole bs) w.0, w.1, j.2)

  pub locals_apart : (bs : List Block) (from : ℕ) → AreApart (whole bs) → ((i : Inst) → here i ≡ true → i.result ≡ 0 → ⊥) → KeysApart (flat_map (locals_of gs f form carried) (enumerate_from from bs))
  locals_apart [] from apart some = tt
  locals_apart (b ∷ bs) from apart some =
      keys_joined (locals_of gs f form carried (from, b)) (flat_map (locals_of gs f form carried) (enumerate_from (from + 1) bs)) (by_reached (nth (graph f) from).reached)
      (locals_apart bs (from + 1) (apart_right b.insts (whole bs) apart) some) (λ k l r. far (nth (graph f) from).reached k l (local_of bs (from + 1) k r))
    where
      by_reached : (q : Bool) → KeysApart (if q then map of_result (filter here b.insts) else [])
      by_reached false = tt
      by_reached true = ids_apart here b.insts (apart_left b.insts (whole bs) apart) (λ i there on. some i on)

      far : (q : Bool) (k : Key) → IsIn k (if q then map of_result (filter here b.insts) else []) → (i : Inst) × IsIn i (whole bs) × (here i ≡ true) × (of_result i ≡ k) → ⊥
      far false k none w = none
      far true k l w =
          let j = of_mapped of_result (filter here b.insts) k l in
          let own = of_filter here b.insts j.0 j.1 in
          apart_split b.insts (whole bs) j.0 w.0 apart own.0 w.1 (ap number_of (w.3 ∙ sym j.2)) (some j.0 own.1)

  -- flags
  pub flags_apart_keys : (key : IdOf → Key) (needs : ℕ → Bool) (ts : List ℕ) → AreApartNumbers ts → ((a b : ℕ) → In a ts → In b ts → flag_key gs f form carried key a ≡ flag_key gs f form carried key b → a ≡ b) → KeysApart (map (flag_key gs f form carried key) (filter needs ts))
  flags_apart_keys key needs [] apart own = tt
  flags_apart_keys key needs (t ∷ ts) apart own = by_test (needs t) (flags_apart_keys key needs ts apart.1 (λ a b x y. own a b (inr x) (inr y)))
    where
      by_test : (q : Bool) → KeysApart (map (flag_key gs f form carried key) (filter needs ts)) → KeysApart (map (flag_key gs f form carried key) (if q then t ∷ filter needs ts else filter needs ts))
      by_test false rest = rest
      by_test true rest = (
        (λ there.
            let u = of_mapped (flag_key gs f form carried key) (filter needs ts) (flag_key gs f form carried key t) there in
            let u_in = as_in ts u.0 (of_filter needs ts u.0 u.1).0 in
            apart.0 (subst (λ (n : ℕ). In n ts) (own u.0 t (inr u_in) (inl refl) u.2) u_in)),
        rest,
      )

  -- kept indexes
  numbers_apart : (i : Inst) (xs : List ℕ) (from : ℕ) (test : ℕ × ℕ → Bool) → KeysApart (map (index_key gs f form carried i) (filter test (enumerate_from from xs)))
  numbers_apart i [] from test = tt
  numbers_apart i (x ∷ xs) from test = by_test (test (from, x)) (numbers_apart i xs (from + 1) test)
    where
      by_test : (q : Bool) → KeysApart (map (index_key gs f form carried i) (filter test (enumerate_from (from + 1) xs))) → KeysApart (map (index_key gs f form carried i) (if q then (from, x) ∷ filter test (enumerate_from (from + 1) xs) else filter test (enumerate_from (from + 1) xs)))
      by_test false rest = rest
      by_test true rest = (
        (λ there.
            let n = of_mapped (index_key gs f form carried i) (filter test (enumerate_from (from + 1) xs)) (index_key gs f form carried i (from, x)) there in
            let later = number_from xs (from + 1) n.0 (of_filter test (enumerate_from (from + 1) xs) n.0 n.1).0 in
            let same : n.0.0 ≡ from = ap index_of n.2 in
            absurd (omega (arith, later, same))),
        rest,
      )

  kept_number : (i : Inst) (k : Key) → IsIn k (kept_of gs f form carried i) → (number_of k ≡ i.result) × (is_chain i.op ≡ true)
  kept_number i k there = by_test (is_chain i.op) (carried i.result) there
    where
      by_test : (a b : Bool) → IsIn k (if a && b then map (index_key gs f form carried i) (captured_indexes gs i) else []) → (number_of k ≡ i.result) × (a ≡ true)
      by_test true true one = let n = of_mapped (index_key gs f form carried i) (captured_indexes gs i) k one in (sym (ap number_of n.2), refl)
      by_test true false none = absurd none
      by_test false b none = absurd none

  pub kept_apart : (is : List Inst) → AreApart is → ((i : Inst) → IsIn i is → is_chain i.op ≡ true → i.result ≡ 0 → ⊥) → KeysApart (flat_map (kept_of gs f form carried) is)
  kept_apart [] apart some = tt
  kept_apart (i ∷ is) apart some =
      keys_joined (kept_of gs f form carried i) (flat_map (kept_of gs f form carried) is) (by_test (is_chain i.op && carried i.result)) (kept_apart is apart.1 (λ j there. some j (inr there))) (λ k l r.
      let own = kept_number i k l in
      let j = of_flat (kept_of gs f form carried) is k r in
      let other = kept_number j.0 k j.2 in
      have_not i.result is j.0 (apart.0 (some i (inl refl) own.1)) j.1 (sym other.0 ∙ own.0))
    where
      by_test : (q : Bool) → KeysApart (if q then map (index_key gs f form carried i) (captured_indexes gs i) else [])
      by_test true = numbers_apart i (indexes i) 0 (λ (n : ℕ × ℕ). not (is_constant_index gs n.1))
      by_test false = tt
