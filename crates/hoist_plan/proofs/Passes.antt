-- The passes over the results, a step at a time.
use Rattle.std.proofs.Common.{◌≡◌, ◌<◌, ◌+◌, ◌==◌, ◌++◌, ◌∙◌, ℕ, Bool, List, [], ◌∷◌, length, get_or, drop, filter, map, refl, ap, sym, subst, inl, inr, Option, true, false, not, ◌&&◌}
use Rattle.std.specs.Prelude.{fold, flat_map, sum_by}
use Rattle.std.specs.List.{enumerate_from}
use Rattle.std.proofs.lemmas.Bool.{and_from, cases_Bool, not_from_false}
use Rattle.std.proofs.lemmas.List.{append_assoc, append-nil, at_drop_more, map-append}
use Rattle.std.proofs.lemmas.List.Elements.{filter-append}
use Rattle.std.proofs.lemmas.List.Sums.{fold-append, sum_by-append}
use Rattle.id_map.specs.Entries.{entry_in}
use Rattle.spv_ops.specs.Groups.{is_chain}
use Rattle.spv_module.specs.declared.inst.Inst.{Inst}
use Rattle.spv_module.specs.declared.inst.Block.{Block}
use Rattle.spv_module.specs.declared.inst.Function.{Function}
use Rattle.use_chains.specs.declared.slot.SlotPlace.{SlotPlace}
use Rattle.use_chains.specs.Links.{Link}
use Rattle.hoist_plan.specs.declared.row.Chain.{Chain}
use Rattle.hoist_plan.specs.declared.row.Row.{Row}
use Rattle.hoist_plan.specs.declared.forms.Forms.{Forms}
use Rattle.hoist_plan.specs.Kept.{chains_among, chains_of, known_in, placed, placed_chain, places_in, result_in}
use Rattle.hoist_plan.specs.Plan.{Known, Placed, own_height, raised, operand_if, with_carried, carried_from, mentions_of, result_of, results_of_block, results}

pub raise_more : (f : Function) (h : ℕ) (old new : ℕ → Option ℕ) (places : List SlotPlace) (k : ℕ) (d : SlotPlace) → k < length places → ((n : ℕ) → new n ≡ raised f h old (get_or places k d) n) → (n : ℕ) → fold (raised f h) new (drop (k + 1) places) n ≡ fold (raised f h) old (drop k places) n
raise_more f h old new places k d less e n =
    let same : new ≡ raised f h old (get_or places k d) = λ i x. e x i in
    ap (λ (hs : ℕ → Option ℕ). fold (raised f h) hs (drop (k + 1) places) n) same
    ∙ sym (at_drop_more (λ (ps : List SlotPlace). fold (raised f h) old ps n) places k d less)

-- a value without a variable has raised its mentions
pub operand_raised : (f : Function) (operands : ℕ → Option ℕ) (value named : Bool) (p : Placed) (g : Function) (h : ℕ) (places : List SlotPlace)
    → value ≡ true → named ≡ false → g ≡ f → h ≡ own_height operands p → places ≡ p.mentions → (n : ℕ) → fold (raised g h) operands places n ≡ operand_if (value && not named) f operands p n
operand_raised f operands value named p g h places on off same height are n =
    ap (λ (x : Function). fold (raised x h) operands places n) same
    ∙ (ap (λ (x : ℕ). fold (raised f x) operands places n) height
    ∙ (ap (λ (xs : List SlotPlace). fold (raised f (own_height operands p)) operands xs n) are
    ∙ sym (ap (λ (b : Bool). operand_if b f operands p n) (and_from value (not named) on (not_from_false named off)))))

pub carried_more : (f : Function) (chains : List Chain) (k j : ℕ) (r : Chain) (old new : ℕ → Bool) → j ≡ k + 1 → k < length chains → r ≡ get_or chains k r → ((n : ℕ) → old n ≡ carried_from f (map placed_chain (drop j chains)) n) → ((n : ℕ) → new n ≡ with_carried f old (placed_chain r) n) → (n : ℕ) → new n ≡ carried_from f (map placed_chain (drop k chains)) n
carried_more f chains k j r old new next less is same e n =
    let equal : old ≡ carried_from f (map placed_chain (drop (k + 1) chains)) = subst (λ i. old ≡ carried_from f (map placed_chain (drop i chains))) next (λ i x. same x i) in
    e n
    ∙ (ap (λ (c : ℕ → Bool). with_carried f c (placed_chain r) n) equal
    ∙ (ap (λ (x : Chain). with_carried f (carried_from f (map placed_chain (drop (k + 1) chains))) (placed_chain x) n) is
    ∙ sym (at_drop_more (λ (rs : List Chain). carried_from f (map placed_chain rs) n) chains k r less)))

-- what comes of one more
module _ {A B : Type 0} (g : A → List B) (xs : List A) (k : ℕ) (x : A) (less : k < length xs) (at : x ≡ get_or xs k x) where
  all_more : flat_map g (drop k xs) ≡ g x ++ flat_map g (drop (k + 1) xs)
  all_more = at_drop_more (flat_map g) xs k x less ∙ ap (λ y. g y ++ flat_map g (drop (k + 1) xs)) (sym at)

  pub list_more : (done : List B) → (done ++ g x) ++ flat_map g (drop (k + 1) xs) ≡ done ++ flat_map g (drop k xs)
  list_more done = append_assoc done (g x) (flat_map g (drop (k + 1) xs)) ∙ ap (λ ys. done ++ ys) (sym all_more)

  pub sum_more : (f : B → ℕ) → sum_by f (flat_map g (drop k xs)) ≡ sum_by f (g x) + sum_by f (flat_map g (drop (k + 1) xs))
  sum_more f = ap (sum_by f) all_more ∙ sum_by-append f (g x) (flat_map g (drop (k + 1) xs))

  pub fold_all_more : {K : Type 0} (step : K → B → K) (old new : K) → new ≡ fold step old (g x) → fold step new (flat_map g (drop (k + 1) xs)) ≡ fold step old (flat_map g (drop k xs))
  fold_all_more step old new is =
      ap (λ s. fold step s (flat_map g (drop (k + 1) xs))) is ∙ (sym (fold-append step old (g x) (flat_map g (drop (k + 1) xs))) ∙ sym (ap (fold step old) all_more))

-- the same of elements with their numbers
module _ {A B : Type 0} (g : ℕ × A → List B) (xs : List A) (k : ℕ) (x : A) (less : k < length xs) (at : x ≡ get_or xs k x) where
  each_more : flat_map g (enumerate_from k (drop k xs)) ≡ g (k, x) ++ flat_map g (enumerate_from (k + 1) (drop (k + 1) xs))
  each_more = at_drop_more (λ ys. flat_map g (enumerate_from k ys)) xs k x less ∙ ap (λ y. g (k, y) ++ flat_map g (enumerate_from (k + 1) (drop (k + 1) xs))) (sym at)

  pub list_each_more : (done : List B) → (done ++ g (k, x)) ++ flat_map g (enumerate_from (k + 1) (drop (k + 1) xs)) ≡ done ++ flat_map g (enumerate_from k (drop k xs))
  list_each_more done = append_assoc done (g (k, x)) (flat_map g (enumerate_from (k + 1) (drop (k + 1) xs))) ∙ ap (λ ys. done ++ ys) (sym each_more)

  pub sum_each_more : (f : B → ℕ) → sum_by f (flat_map g (enumerate_from k (drop k xs))) ≡ sum_by f (g (k, x)) + sum_by f (flat_map g (enumerate_from (k + 1) (drop (k + 1) xs)))
  sum_each_more f = ap (sum_by f) each_more ∙ sum_by-append f (g (k, x)) (flat_map g (enumerate_from (k + 1) (drop (k + 1) xs)))

  pub fold_each_more : {K : Type 0} (step : K → B → K) (old new : K) → new ≡ fold step old (g (k, x)) → fold step new (flat_map g (enumerate_from (k + 1) (drop (k + 1) xs))) ≡ fold step old (flat_map g (enumerate_from k (drop k xs)))
  fold_each_more step old new is =
      ap (λ s. fold step s (flat_map g (enumerate_from (k + 1) (drop (k + 1) xs)))) is
      ∙ (sym (fold-append step old (g (k, x)) (flat_map g (enumerate_from (k + 1) (drop (k + 1) xs)))) ∙ sym (ap (fold step old) each_more))

-- the parts of what comes of each
flat_parts : {A B : Type 0} (q : B → Bool) (g : A → List B) (xs : List A) → flat_map (λ x. filter q (g x)) xs ≡ filter q (flat_map g xs)
flat_parts q g [] = refl
flat_parts q g (x ∷ xs) = ap (λ ys. filter q (g x) ++ ys) (flat_parts q g xs) ∙ sym (filter-append q (g x) (flat_map g xs))

chains_are : (links : List Link) (f : Function) → chains_of links f ≡ filter (λ (p : Placed). is_chain p.op) (results links f)
chains_are links f =
    ap (λ (g : ℕ × Block → List Placed). flat_map g (enumerate_from 0 f.blocks)) (λ i b. flat_parts (λ (p : Placed). is_chain p.op) (result_of links b.0) b.1.insts i)
    ∙ flat_parts (λ (p : Placed). is_chain p.op) (results_of_block links) (enumerate_from 0 f.blocks)

not_carried : (f : Function) (c : ℕ → Bool) (p : Placed) (n : ℕ) → is_chain p.op ≡ false → with_carried f c p n ≡ c n
not_carried f c p n other = rw (other, with_carried) refl

-- a result that is no chain is not carried
chains_alone : (f : Function) (ps : List Placed) (n : ℕ) → carried_from f (filter (λ (p : Placed). is_chain p.op) ps) n ≡ carried_from f ps n
chains_alone f [] n = refl
chains_alone f (p ∷ ps) n =
    let rest : carried_from f (filter (λ (p : Placed). is_chain p.op) ps) ≡ carried_from f ps = λ i m. chains_alone f ps m i in
    elim (cases_Bool (is_chain p.op)) [
      | inl chain ↦ rw chain (ap (λ (c : ℕ → Bool). with_carried f c p n) rest)
      | inr other ↦ rw other (ap (λ (c : ℕ → Bool). c n) rest ∙ sym (not_carried f (carried_from f ps) p n other))
    ]

pub chains_carried : (links : List Link) (f : Function) (n : ℕ) → carried_from f (chains_of links f) n ≡ carried_from f (results links f) n
chains_carried links f n = ap (λ ps. carried_from f ps n) (chains_are links f) ∙ chains_alone f (results links f) n

-- a result, where there is one
of_not : (b c : Bool) → c ≡ not b → c ≡ true → b ≡ false
of_not true c is e = sym e ∙ is
of_not false c is e = refl

of_not_false : (b c : Bool) → c ≡ not b → c ≡ false → b ≡ true
of_not_false true c is e = refl
of_not_false false c is e = sym e ∙ is

one_result : (links : List Link) (r : Row) → (r.result == 0) ≡ false → placed (mentions_of links r.result) r ∷ [] ≡ result_in links r
one_result links r some = rw some refl

pub result_is : (links : List Link) (r : Row) (mentions : List SlotPlace) (has : Bool) → has ≡ not (r.result == 0) → has ≡ true → mentions ≡ mentions_of links r.result → placed mentions r ∷ [] ≡ result_in links r
result_is links r mentions has is on are = ap (λ ms. placed ms r ∷ []) are ∙ one_result links r (of_not (r.result == 0) has is on)

pub result_none : (links : List Link) (r : Row) (has : Bool) → has ≡ not (r.result == 0) → has ≡ false → [] ≡ result_in links r
result_none links r has is off = let none : (r.result == 0) ≡ true = of_not_false (r.result == 0) has is off in rw none refl

-- a chain is put behind others
pub chain_more : (chains : List Chain) (ms : List SlotPlace) (c : Chain) (is : Bool) → is ≡ is_chain c.row.op → is ≡ true → places_in c.mentions ≡ ms → map placed_chain (chains ++ c ∷ []) ≡ map placed_chain chains ++ chains_among (placed ms c.row ∷ [])
chain_more chains ms c is same on are =
    let chain : is_chain c.row.op ≡ true = sym same ∙ on in
    let alone : placed ms c.row ∷ [] ≡ chains_among (placed ms c.row ∷ []) = rw chain refl in
    map-append placed_chain chains (c ∷ []) ∙ ap (λ ps. map placed_chain chains ++ ps) (ap (λ xs. placed xs c.row ∷ []) are ∙ alone)

pub chain_none : (done : List Placed) (ms : List SlotPlace) (r : Row) (is : Bool) → is ≡ is_chain r.op → is ≡ false → done ≡ done ++ chains_among (placed ms r ∷ [])
chain_none done ms r is same off =
    let other : is_chain r.op ≡ false = sym same ∙ off in
    let none : [] ≡ chains_among (placed ms r ∷ []) = rw other refl in
    sym (append-nil done) ∙ ap (λ ps. done ++ ps) none

-- what is told, by the entries
pub known_is : (a : Forms) (k : Known) → ((n : ℕ) → entry_in a.operands n ≡ k.operands n) → ((n : ℕ) → entry_in a.forms n ≡ k.forms n) → known_in a ≡ k
known_is a k operands forms = λ i. record { operands = λ n. operands n i; forms = λ n. forms n i }
