-- Lists that lie in one list of constructs.
use Rattle.std.proofs.Common.{◌≡◌, ◌<◌, ◌+◌, ◌-◌, ℕ, List, [], ◌∷◌, ◌++◌, length, get_or, take, drop, map, replicate, set, refl, ap, sym, ◌∙◌, subst, arith, inl, inr}
use Rattle.std.proofs.lemmas.Bool.{cases_eq}
use Rattle.std.proofs.lemmas.List.{append-nil, length-drop, length-take-le, length-append, length-replicate, length-set, length-map, get_or-replicate, get_or-set_same, get_or-set_other, get_or-map, take-append-le, take_all, drop_at, drop_all, drop-drop, ext_get_or}
use Rattle.std.proofs.lemmas.Slice.{between_is}
use Rattle.std.specs.List.{between}
use Rattle.structure_rules.specs.declared.graph.Part.{Part}
use Rattle.nest_place.specs.declared.rings.Ring.{Ring}
use Rattle.nest_place.specs.declared.outer.Bounds.{Bounds}
use Rattle.nest_place.specs.Spots.{list_at}
use Rattle.nest_place.specs.Rings.{IsRing}
use Rattle.nest_place.specs.Shared.{list_in, IsInside, no_bounds, bounds_at, IsLonger, IsWhole, IsBounds, AreBounds}

pub longer_self : (parts : List Part) → IsLonger parts parts
longer_self parts = ([], sym (append-nil parts))

-- a list that is not empty is whole
pub whole_before : (lists : List (List Part)) (n : ℕ) (parts : List Part) (k : ℕ) (s : Bounds) → IsBounds lists n parts k s → s.start < s.end → IsWhole lists parts k s
whole_before lists n parts k s is some = record {
  inside = is.inside;
  list = elim is.list [
    | inl none ↦ absurd (let e = none.1 in omega (arith, e, some))
    | inr here ↦ here
  ];
}

-- a list that was added is whole
pub whole_added : (lists : List (List Part)) (old new : List Part) (k start end : ℕ) → new ≡ old ++ list_at lists k → start ≡ length old → end ≡ length new → IsWhole lists new k (record { start = start; end = end })
whole_added lists old new k start end more first last =
    let sum : length new ≡ length old + length (list_at lists k) = ap length more ∙ length-append old (list_at lists k) in
    record {
      inside = record { rising = omega (arith, sum, first, last); ended = omega (arith, last) };
      list = ap (drop start) (take_all end new (omega (arith, last)) ∙ more) ∙ drop_at old (list_at lists k) start (sym first);
    }

-- the list round the first construct of a list
rest_whole : (lists : List (List Part)) (parts : List Part) (place : ℕ) (s : Bounds) (r : Ring) → IsWhole lists parts place s → IsRing lists place r → IsWhole lists parts r.around (record { start = s.start + 1; end = s.end })
rest_whole lists parts place s r is ring =
    let here : list_in parts s ≡ r.part ∷ list_at lists r.around = is.list ∙ ring.list in
    let long : length (list_in parts s) ≡ s.end - s.start = length-drop s.start (take s.end parts) ∙ ap (λ n. n - s.start) (length-take-le s.end parts is.inside.ended) in
    let some = ap length here in
    record {
      inside = record { rising = omega (arith, long, some); ended = is.inside.ended };
      list = sym (drop-drop 1 s.start (take s.end parts)) ∙ ap (drop 1) here;
    }

-- what lies inside stays as more is added
inside_more : (old new : List Part) (s : Bounds) → IsLonger old new → IsInside old s → IsInside new s
inside_more old new s more is = record {
  rising = is.rising;
  ended = (let all = ap length more.1 in let sum = length-append old more.0 in let e = is.ended in omega (arith, all, sum, e));
}

same_more : (old new : List Part) (s : Bounds) → IsLonger old new → IsInside old s → list_in new s ≡ list_in old s
same_more old new s more is =
    ap (λ ps. drop s.start (take s.end ps)) more.1 ∙ ap (drop s.start) (take-append-le s.end old more.0 is.ended)

bounds_longer : (lists : List (List Part)) (n : ℕ) (old new : List Part) (bounds : List Bounds) → IsLonger old new → AreBounds lists n old bounds → AreBounds lists n new bounds
bounds_longer lists n old new bounds more are = record {
  sized = are.sized;
  each = λ k h.
      let was = are.each k h in
      record {
        inside = inside_more old new (bounds_at bounds k) more was.inside;
        list = elim was.list [
          | inl none ↦ inl none
          | inr here ↦ inr (same_more old new (bounds_at bounds k) more was.inside ∙ here)
        ];
      };
}

-- a list is written down
bounds_set : (lists : List (List Part)) (n : ℕ) (parts : List Part) (bounds : List Bounds) (place : ℕ) (s : Bounds) → AreBounds lists n parts bounds → IsWhole lists parts place s → AreBounds lists n parts (set bounds place s)
bounds_set lists n parts bounds place s are is = record {
  sized = length-set bounds place s ∙ are.sized;
  each = λ k h. elim (cases_eq place k) [
    | inl same ↦
        let here : bounds_at (set bounds place s) place ≡ s = get_or-set_same bounds place s no_bounds (let size = are.sized in omega (arith, size, same, h)) in
        subst (λ j. IsBounds lists n parts j (bounds_at (set bounds place s) j)) same (subst (λ x. IsBounds lists n parts place x) (sym here) (record { inside = is.inside; list = inr is.list }))
    | inr apart ↦
        let there : bounds_at (set bounds place s) k ≡ bounds_at bounds k = get_or-set_other bounds place k s no_bounds (λ e. apart (sym e)) in
        subst (λ x. IsBounds lists n parts k x) (sym there) (are.each k h)
  ];
}

-- one more list is made
bounds_below : (lists : List (List Part)) (n : ℕ) (parts : List Part) (bounds : List Bounds) → list_in parts (bounds_at bounds n) ≡ list_at lists n → AreBounds lists (n + 1) parts bounds → AreBounds lists n parts bounds
bounds_below lists n parts bounds made are = record {
  sized = are.sized;
  each = λ k h.
      let was = are.each k h in
      record {
        inside = was.inside;
        list = elim (cases_eq k n) [
          | inl same ↦ inr (subst (λ j. list_in parts (bounds_at bounds j) ≡ list_at lists j) (sym same) made)
          | inr apart ↦ elim was.list [
            | inl none ↦ inl ((let low = none.0 in omega (arith, low, apart)), none.1)
            | inr here ↦ inr here
          ]
        ];
      };
}

pub bounds_none : (lists : List (List Part)) (n : ℕ) (parts : List Part) (bounds : List Bounds) → n ≡ length lists → parts ≡ [] → bounds ≡ replicate n no_bounds → AreBounds lists n parts bounds
bounds_none lists n parts bounds all empty are = record {
  sized = ap length are ∙ (length-replicate n no_bounds ∙ all);
  each = λ k h.
      let here : bounds_at bounds k ≡ no_bounds = ap (λ ss. bounds_at ss k) are ∙ get_or-replicate n k no_bounds no_bounds (omega (arith, all, h)) in
      subst (λ s. IsBounds lists n parts k s) (sym here) (record { inside = record { rising = omega arith; ended = omega arith }; list = inl (omega (arith, all, h), refl) });
}

-- where there is no ring, the list is empty
pub bounds_empty : (lists : List (List Part)) (n : ℕ) (parts : List Part) (bounds : List Bounds) → n < length lists → list_at lists n ≡ [] → AreBounds lists (n + 1) parts bounds → AreBounds lists n parts bounds
bounds_empty lists n parts bounds inside empty are =
    let s = bounds_at bounds n in
    let was = are.each n inside in
    bounds_below lists n parts bounds (elim was.list [
      | inl none ↦
          let few : length (take s.end parts) ≡ s.end = length-take-le s.end parts was.inside.ended in
          let e = none.1 in
          drop_all s.start (take s.end parts) (omega (arith, few, e)) ∙ sym empty
      | inr here ↦ here
    ]) are

-- a list with its ring, and the one round it
pub bounds_more : (lists : List (List Part)) (n : ℕ) (old new : List Part) (bounds : List Bounds) (s : Bounds) (r : Ring) → n < length lists → AreBounds lists (n + 1) old bounds → IsLonger old new → IsWhole lists new n s → IsRing lists n r → AreBounds lists n new (set (set bounds n s) r.around (record { start = s.start + 1; end = s.end }))
bounds_more lists n old new bounds s r inside are more is ring =
    let here : bounds_at (set bounds n s) n ≡ s = get_or-set_same bounds n s no_bounds (let size = are.sized in omega (arith, size, inside)) in
    let with_it = bounds_set lists (n + 1) new bounds n s (bounds_longer lists (n + 1) old new bounds more are) is in
    bounds_set lists n new (set bounds n s) r.around (record { start = s.start + 1; end = s.end }) (bounds_below lists n new (set bounds n s) (ap (list_in new) here ∙ is.list) with_it) (rest_whole lists new n s r is ring)

-- at the end all lists are whole
pub bounds_all : (lists : List (List Part)) (parts : List Part) (bounds : List Bounds) → AreBounds lists 0 parts bounds → map (list_in parts) bounds ≡ lists
bounds_all lists parts bounds are =
    ext_get_or [] (map (list_in parts) bounds) lists (length-map bounds (list_in parts) ∙ are.sized) (λ k h.
    let size = are.sized in
    let long : length (map (list_in parts) bounds) ≡ length bounds = length-map bounds (list_in parts) in
    let room : k < length bounds = omega (arith, long, h) in
    let each = are.each k (omega (arith, size, room)) in
    get_or-map (list_in parts) bounds k no_bounds [] room ∙ elim each.list [
      | inl none ↦ absurd (let low = none.0 in omega (arith, low))
      | inr here ↦ here
    ])

-- the list that is read is the one at the place
pub list_read : (parts : List Part) (bounds : List Bounds) (place : ℕ) (s : Bounds) → place < length (map (list_in parts) bounds) → s ≡ get_or bounds place s → between s.start s.end parts ≡ list_at (map (list_in parts) bounds) place
list_read parts bounds place s inside read =
    let room : place < length bounds = (let long = length-map bounds (list_in parts) in omega (arith, long, inside)) in
    between_is parts s.start s.end ∙ (ap (list_in parts) read ∙ sym (get_or-map (list_in parts) bounds place s [] room))

pub ruleset whole_rules = (longer_self, whole_before, whole_added)

pub ruleset lists_rules = (bounds_none, bounds_all)
