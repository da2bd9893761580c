-- The SpecIds of the globals so far, each of which is there once.
use Rattle.std.proofs.Common.{◌≡◌, ◌<◌, ◌≤◌, ◌+◌, ◌||◌, ℕ, zero, suc, Bool, true, false, List, [], ◌∷◌, length, take, map, get_or, Option, Some, None, cond, refl, ap, sym, ◌∙◌, subst, arith, inl, inr, nat_le}
use Rattle.std.specs.Prelude.{◌==◌, Contains, filter}
use Rattle.std.specs.Option.{option_map_or}
use Rattle.std.specs.List.{count_by}
use Rattle.std.proofs.lemmas.List.{take_all}
use Rattle.std.proofs.lemmas.List.Sums.{count_by_more_yes, count_by_more_no, sum_by-cons}
use Rattle.spv_decor.proofs.First.{count_by_front}
use Rattle.std.proofs.lemmas.Bool.Decides.{eqb_tells, nat_tests}
use Rattle.list_law.proofs.Lists.{contains_head}
use Rattle.spv_ops.specs.Enumerants.{decoration_number}
use Rattle.spv_ops.specs.declared.Decoration.TheVariants as decoration
use Rattle.spv_ops.specs.declared.Op.TheVariants as code
use Rattle.spv_module.specs.State.{ModuleState}
use Rattle.spv_module.specs.declared.inst.Inst.{Inst}
use Rattle.spv_decor.specs.Rows.{value_of}
use Rattle.profile_rules.specs.Places.{places}
use Rattle.profile_rules.specs.TypeForm.{is_shared, p20}
use Rattle.profile_rules.specs.Entry.{is_same_spec}
use Rattle.declaration_check.proofs.Listed.{contains_tail}

-- an instruction has this SpecId
abbrev pub has_spec : List Inst → ℕ → Inst → Bool
has_spec heads x h = option_map_or (λ t. x == t) (value_of heads h.result (decoration_number decoration.SpecId)) false

pub record IsSeen (heads gs : List Inst) (i : ℕ) (seen : ℕ → Bool) : Type 0 where
  pub are : (x : ℕ) → seen x ≡ nat_le 1 (count_by (has_spec heads x) (take i gs))
  pub once : (x : ℕ) → count_by (has_spec heads x) (take i gs) ≤ 1

module _ (heads gs : List Inst) (i : ℕ) (d : Inst) (seen : ℕ → Bool) (inside : i < length gs) (before : IsSeen heads gs i seen) where
  pub seen_other : value_of heads (get_or gs i d).result (decoration_number decoration.SpecId) ≡ None → IsSeen heads gs (i + 1) seen
  seen_other none =
      let same : (x : ℕ) → count_by (has_spec heads x) (take (i + 1) gs) ≡ count_by (has_spec heads x) (take i gs) =
      λ x. count_by_more_no (has_spec heads x) gs i d inside (ap (λ o. option_map_or (λ t. x == t) o false) none) in
      record {
        are = λ x. before.are x ∙ ap (nat_le 1) (sym (same x));
        once = λ x. let e = same x in let b = before.once x in omega (arith, e, b);
      }

  module _ (s : ℕ) (is : value_of heads (get_or gs i d).result (decoration_number decoration.SpecId) ≡ Some s) where
    has : (x : ℕ) → has_spec heads x (get_or gs i d) ≡ (x == s)
    has x = ap (λ o. option_map_or (λ t. x == t) o false) is

    new_are : (new : Bool) (x : ℕ) → seen s ≡ false → new ≡ (seen x || (s == x)) → (new ≡ nat_le 1 (count_by (has_spec heads x) (take (i + 1) gs))) × (count_by (has_spec heads x) (take (i + 1) gs) ≤ 1)
    new_are new x fresh now =
        elim (eqb_tells x s) [
          | inl w ↦
              let more = count_by_more_yes (has_spec heads x) gs i d inside (has x ∙ w.0) in
              let none : seen x ≡ false = ap seen w.1 ∙ fresh in
              let a = before.are x in
              let zero : count_by (has_spec heads x) (take i gs) ≡ 0 = grind (arith, nat_tests, a, none) in
              let here : (s == x) ≡ true = grind (arith, nat_tests, w.1) in
              (grind (arith, nat_tests, more, zero, now, here, none), omega (arith, more, zero))
          | inr w ↦
              let same = count_by_more_no (has_spec heads x) gs i d inside (has x ∙ w.0) in
              let apart : (s == x) ≡ false = grind (arith, nat_tests, w.1) in
              let a = before.are x in
              let o = before.once x in
              (grind (arith, nat_tests, same, now, apart, a), omega (arith, same, o))
        ]

    pub seen_new : (new : ℕ → Bool) → seen s ≡ false → ((x : ℕ) → new x ≡ (seen x || (s == x))) → IsSeen heads gs (i + 1) new
    seen_new new fresh now = record { are = λ x. (new_are (new x) x fresh (now x)).0; once = λ x. (new_are (new x) x fresh (now x)).1 }

-- where the test passes, the word stands in the list
listed : (test : Inst → Bool) (gs : List Inst) (i : ℕ) (d : Inst) → i < length gs → test (get_or gs i d) ≡ true → Contains (places test gs) (get_or gs i d).at
listed test [] i d inside passes = absurd (omega arith)
listed test (g ∷ gs) zero d inside passes =
    let P : Bool → Type 0 = λ b. Contains (map (λ (k : Inst). k.at) (cond b (g ∷ filter test gs) (filter test gs))) g.at in
    subst P (sym passes) (contains_head g.at (places test gs))
listed test (g ∷ gs) (suc i) d inside passes =
    let later = listed test gs i d (omega arith) passes in
    elim (test g) as (λ b. Contains (map (λ (k : Inst). k.at) (cond b (g ∷ filter test gs) (filter test gs))) (get_or gs i d).at) [
      | true ↦ contains_tail g.at (places test gs) (get_or gs i d).at later
      | false ↦ later
    ]

-- where it never does, there is none
unlisted : (test : Inst → Bool) (gs : List Inst) (d : Inst) → ((i : ℕ) → i < length gs → test (get_or gs i d) ≡ false) → places test gs ≡ []
unlisted test [] d fails = refl
unlisted test (g ∷ gs) d fails =
    let first : test g ≡ false = fails 0 (omega arith) in
    let later : places test gs ≡ [] = unlisted test gs d (λ i inside. fails (suc i) (omega arith)) in
    ap (λ b. map (λ (k : Inst). k.at) (cond b (g ∷ filter test gs) (filter test gs))) first ∙ later

count_never : (gs : List Inst) → count_by (λ (h : Inst). false) gs ≡ 0
count_never [] = refl
count_never (g ∷ gs) =
    let step : count_by (λ (h : Inst). false) (g ∷ gs) ≡ 0 + count_by (λ (h : Inst). false) gs = sum_by-cons (λ (h : Inst). cond false 1 0) g gs in
    let later = count_never gs in
    omega (arith, step, later)

-- by whether an instruction has a SpecId, how many share it
shares : (heads gs : List Inst) (g : Inst) (o : Option ℕ) → value_of heads g.result (decoration_number decoration.SpecId) ≡ o → count_by (λ (h : Inst). is_same_spec heads g.result h.result) gs ≡ option_map_or (λ s. count_by (has_spec heads s) gs) o 0
shares heads gs g None is =
    ap (λ o. count_by (λ (h : Inst). option_map_or (λ s. option_map_or (λ t. s == t) (value_of heads h.result (decoration_number decoration.SpecId)) false) o false) gs) is ∙ count_never gs
shares heads gs g (Some s) is =
    ap (λ o. count_by (λ (h : Inst). option_map_or (λ s. option_map_or (λ t. s == t) (value_of heads h.result (decoration_number decoration.SpecId)) false) o false) gs) is

at_most_one : (heads gs : List Inst) (o : Option ℕ) → ((x : ℕ) → count_by (has_spec heads x) gs ≤ 1) → option_map_or (λ s. count_by (has_spec heads s) gs) o 0 ≤ 1
at_most_one heads gs None once = omega arith
at_most_one heads gs (Some s) once = once s

never_shared : (n : ℕ) → n ≤ 1 → nat_le 2 n ≡ false
never_shared n few = grind (arith, nat_tests, few)

-- a SpecId that is there already is shared
pub seen_twice : (m : ModuleState) (i : ℕ) (d : Inst) (seen : ℕ → Bool) (s : ℕ) → i < length m.globals → IsSeen m.heads m.globals i seen → value_of m.heads (get_or m.globals i d).result (decoration_number decoration.SpecId) ≡ Some s → seen s ≡ true → Contains (p20 m) (get_or m.globals i d).at
seen_twice m i d seen s inside before is there =
    let g : Inst = get_or m.globals i d in
    let own : has_spec m.heads s g ≡ (s == s) = ap (λ o. option_map_or (λ t. s == t) o false) is in
    let same : (s == s) ≡ true = grind (arith, nat_tests) in
    let a = before.are s in
    let some : 1 ≤ count_by (has_spec m.heads s) (take i m.globals) = grind (arith, nat_tests, a, there) in
    let more = count_by_more_yes (has_spec m.heads s) m.globals i d inside (own ∙ same) in
    let front = count_by_front (has_spec m.heads s) (i + 1) m.globals in
    let all : 2 ≤ count_by (has_spec m.heads s) m.globals = omega (arith, some, more, front) in
    let shared : nat_le 2 (count_by (has_spec m.heads s) m.globals) ≡ true = grind (arith, nat_tests, all) in
    listed (is_shared m) m.globals i d inside (ap (nat_le 2) (shares m.heads m.globals g (Some s) is) ∙ shared)

-- where each is there once, none is shared
pub seen_end : (m : ModuleState) (seen : ℕ → Bool) (n : ℕ) → length m.globals ≤ n → IsSeen m.heads m.globals n seen → p20 m ≡ []
seen_end m seen n past done =
    let none : Inst = record { op = code.Nop; at = 0; ty = 0; result = 0; args = [] } in
    let whole : take n m.globals ≡ m.globals = take_all n m.globals past in
    let P : List Inst → Type 0 = λ gs. (x : ℕ) → count_by (has_spec m.heads x) gs ≤ 1 in
    let once : (x : ℕ) → count_by (has_spec m.heads x) m.globals ≤ 1 = subst P whole done.once in
    unlisted (is_shared m) m.globals none (λ i inside.
    let g : Inst = get_or m.globals i none in
    let o : Option ℕ = value_of m.heads g.result (decoration_number decoration.SpecId) in
    ap (nat_le 2) (shares m.heads m.globals g o refl) ∙ never_shared (option_map_or (λ s. count_by (has_spec m.heads s) m.globals) o 0) (at_most_one m.heads m.globals o once))
