-- Different results are mentioned by different slots, so the steps are bounded by the slots and the results.
use Rattle.std.proofs.Common.{◌≡◌, ◌≤◌, ◌+◌, ◌*◌, ◌==◌, ℕ, false, not, List, [], ◌∷◌, ◌++◌, length, filter, map, refl, ap, sym, ◌∙◌, subst, inl, inr, arith}
use Rattle.std.specs.Prelude.{flat_map, sum_by}
use Rattle.std.specs.List.{enumerate_from, AllByRecursion}
use Rattle.std.specs.List.{IsDistinct}
use Rattle.std.proofs.lemmas.Bool.{cases_Bool, eqb-true}
use Rattle.std.proofs.lemmas.List.{length-append, length-map, map-append}
use Rattle.std.proofs.lemmas.List.Sums.{sum_by-cons, sum_by-append}
use Rattle.spv_module.specs.declared.inst.Inst.{Inst}
use Rattle.spv_module.specs.declared.inst.Function.{Function}
use Rattle.use_chains.specs.Links.{Link, chain}
use Rattle.hoist_plan.specs.Plan.{Placed, result_of, results_of_block, results, mentions_of}
use Rattle.hoist_plan.specs.Kept.{steps_of, result_id}

others : List Link → ℕ → List Link
others links id = filter (λ (l : Link). not (l.id == id)) links

split : (links : List Link) (id : ℕ) → length (chain links id) + length (filter (λ (l : Link). not (l.id == id)) links) ≡ length links
split [] id = refl
split (l ∷ links) id =
    let rest = split links id in
    elim (cases_Bool (l.id == id)) [
      | inl here ↦ rw here (let h = rest in omega (arith, h))
      | inr other ↦ rw other (let h = rest in omega (arith, h))
    ]

chain_kept : (links : List Link) (id other : ℕ) → (id == other) ≡ false → chain (filter (λ (l : Link). not (l.id == id)) links) other ≡ chain links other
chain_kept [] id other apart = refl
chain_kept (l ∷ links) id other apart =
    let rest = chain_kept links id other apart in
    elim (cases_Bool (l.id == id)) [
      | inl here ↦ let same : l.id ≡ id = eqb-true l.id id here in
          let not_it : (l.id == other) ≡ false = subst (λ i. (i == other) ≡ false) (sym same) apart in
          rw (here, not_it) rest
      | inr away ↦ elim (cases_Bool (l.id == other)) [
        | inl it ↦ rw (away, it) (ap (λ ls. l ∷ ls) rest)
        | inr none ↦ rw (away, none) rest
      ]
    ]

mentions_count : List Link → ℕ → ℕ
mentions_count links id = length (chain links id)

sum_kept : (links : List Link) (id : ℕ) (ids : List ℕ) → AllByRecursion (λ y. (id == y) ≡ false) ids → sum_by (λ i. length (chain (filter (λ (l : Link). not (l.id == id)) links) i)) ids ≡ sum_by (λ i. length (chain links i)) ids
sum_kept links id [] all = refl
sum_kept links id (i ∷ ids) all =
    let rest = sum_kept links id ids all.1 in
    let first : length (chain (filter (λ (l : Link). not (l.id == id)) links) i) ≡ length (chain links i) = ap length (chain_kept links id i all.0) in
    let a = sum_by-cons (λ i. length (chain (filter (λ (l : Link). not (l.id == id)) links) i)) i ids in
    let b = sum_by-cons (λ i. length (chain links i)) i ids in
    omega (arith, rest, first, a, b)

-- the chains of different ids are parts of the links
pub chains_within : (links : List Link) (ids : List ℕ) → IsDistinct (λ a b. a == b) ids → sum_by (λ i. length (chain links i)) ids ≤ length links
unfolding IsDistinct
chains_within links [] distinct = omega arith
chains_within links (id ∷ ids) distinct =
    let rest = chains_within (filter (λ (l : Link). not (l.id == id)) links) ids distinct.1 in
    let same = sum_kept links id ids distinct.0 in
    let both = split links id in
    let first = sum_by-cons (λ i. length (chain links i)) id ids in
    omega (arith, rest, same, both, first)

-- the steps of results: two for each mention, and one more
pub record AreCounted (links : List Link) (ps : List Placed) : Type 0 where
  pub is : sum_by steps_of ps ≡ 2 * sum_by (λ i. length (chain links i)) (map result_id ps) + length ps

counted_append : (links : List Link) (ps qs : List Placed) → AreCounted links ps → AreCounted links qs → AreCounted links (ps ++ qs)
counted_append links ps qs a b = record {
  is =
      let steps = sum_by-append steps_of ps qs in
      let ids : sum_by (λ i. length (chain links i)) (map result_id (ps ++ qs)) ≡ sum_by (λ i. length (chain links i)) (map result_id ps) + sum_by (λ i. length (chain links i)) (map result_id qs) =
      ap (sum_by (λ i. length (chain links i))) (map-append result_id ps qs) ∙ sum_by-append (λ i. length (chain links i)) (map result_id ps) (map result_id qs) in
      let long = length-append ps qs in
      omega (arith, steps, ids, long, a.is, b.is);
}

counted_all : {X : Type 0} (links : List Link) (g : X → List Placed) (xs : List X) → ((x : X) → AreCounted links (g x)) → AreCounted links (flat_map g xs)
counted_all links g [] each = record { is = refl }
counted_all links g (x ∷ xs) each = counted_append links (g x) (flat_map g xs) (each x) (counted_all links g xs each)

counted_one : (links : List Link) (block : ℕ) (i : Inst) → AreCounted links (result_of links block i)
counted_one links block i = elim (cases_Bool (i.result == 0)) [
  | inl none ↦ rw none (record { is = refl })
  | inr some ↦ rw some (record {
    is =
        let p : Placed = record { block = block; op = i.op; ty = i.ty; result = i.result; mentions = mentions_of links i.result } in
        let steps = sum_by-cons steps_of p [] in
        let ids = sum_by-cons (λ n. length (chain links n)) i.result [] in
        let long : length (mentions_of links i.result) ≡ length (chain links i.result) = length-map (chain links i.result) (λ (l : Link). l.place) in
        omega (arith, steps, ids, long);
  })
]

counted : (links : List Link) (f : Function) → AreCounted links (results links f)
counted links f = counted_all links (results_of_block links) (enumerate_from 0 f.blocks) (λ b. counted_all links (result_of links b.0) b.1.insts (counted_one links b.0))

pub bounded : (links : List Link) (f : Function) → IsDistinct (λ a b. a == b) (map result_id (results links f)) → sum_by steps_of (results links f) ≤ 2 * length links + length (results links f)
bounded links f distinct =
    let all = (counted links f).is in
    let within = chains_within links (map result_id (results links f)) distinct in
    omega (arith, all, within)
