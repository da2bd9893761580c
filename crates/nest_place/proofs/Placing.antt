-- The steps that place blocks.
use Rattle.std.proofs.Common.{◌≡◌, ◌<◌, ◌≤◌, ◌+◌, ℕ, true, false, List, [], ◌∷◌, ◌++◌, length, get_or, if◌then◌else◌, Some, refl, ap, sym, ◌∙◌, subst, inl, inr, arith}
use Rattle.std.proofs.lemmas.Bool.{cases_lt}
use Rattle.std.proofs.lemmas.List.{get_or_append_left, get_or_push, length_push}
use Rattle.structure_rules.specs.declared.graph.Node.{Node}
use Rattle.structure_rules.specs.declared.graph.Role.{Role}
use Rattle.structure_rules.specs.declared.graph.Role.TheVariants.{First, Merge as MergeOf, Continue, Case as CaseOf, Inside}
use Rattle.structure_rules.specs.declared.graph.Part.{Part}
use Rattle.structure_rules.specs.declared.graph.Part.TheVariants.{Cont, Case}
use Rattle.structure_rules.specs.Graph.{nth, is_conditional}
use Rattle.structure_rules.specs.Nesting.{role, parent_of, place, nesting, own_part, opened, is_loose}
use Rattle.structure_rules.specs.Structure.{IsTooDeep}
use Rattle.nest_place.specs.declared.spots.Spot.{Spot}
use Rattle.nest_place.specs.Spots.{list_at, spot_at, no_spot, Extends, IsSpot, AreSpots, IsGrounded, IsParentSpot, parent_spot, IsPlaced, IsShallow}
use Rattle.nest_place.proofs.Reading.{nth_read}
use Rattle.nest_place.proofs.Outward.{place_is, nesting_is}

pub extends_self : (lists : List (List Part)) → Extends lists lists
extends_self lists = record { longer = omega arith; same = λ k h. refl }

pub extends_add : (old new : List (List Part)) (x : List Part) → new ≡ old ++ x ∷ [] → Extends old new
extends_add old new x is = record {
  longer = (let l = length_push old x in let n = ap length is in omega (arith, l, n));
  same = λ k h. ap (λ ls. list_at ls k) is ∙ get_or_append_left old (x ∷ []) [] k h;
}

pub extends_both : (a b c : List (List Part)) → Extends a b → Extends b c → Extends a c
extends_both a b c e f = record {
  longer = (let l = e.longer in let m = f.longer in omega (arith, l, m));
  same = λ k h. (let l = e.longer in let inside : k < length b = omega (arith, l, h) in f.same k inside) ∙ e.same k h;
}

added : (old new : List (List Part)) (x : List Part) (k : ℕ) → new ≡ old ++ x ∷ [] → k ≡ length old → (k < length new) × (list_at new k ≡ x)
added old new x k is at = (
  (let l = length_push old x in let n = ap length is in omega (arith, l, n, at)),
  ap (λ ls. list_at ls k) is ∙ get_or_push old x [] k (sym at),
)

-- a spot stays one as lists are added
pub spot_kept : (g : List Node) (old new : List (List Part)) (b : ℕ) (s : Spot) → Extends old new → IsSpot g old b s → IsSpot g new b s
spot_kept g old new b s e is = record {
  place_in = (let l = e.longer in let i = is.place_in in omega (arith, l, i));
  placed = e.same s.place is.place_in ∙ is.placed;
  inner_in = (let l = e.longer in let i = is.inner_in in omega (arith, l, i));
  within = e.same s.inner is.inner_in ∙ is.within;
  deep = is.deep;
  deeper_in = is.deeper_in;
  low = is.low;
}

pub placed_first : (g : List Node) (b : ℕ) (lists : List (List Part)) → 0 < length lists → list_at lists 0 ≡ [] → IsPlaced g b First lists (0, 0)
placed_first g b lists some empty = record { place_in = some; placed = empty; deep = refl }

pub placed_merge : (g : List Node) (b h : ℕ) (lists : List (List Part)) (s : Spot) → IsSpot g lists h s → IsPlaced g b (MergeOf h) lists (s.place, s.nesting)
placed_merge g b h lists s is = record { place_in = is.place_in; placed = is.placed; deep = is.deep }

pub placed_inside : (g : List Node) (b p : ℕ) (lists : List (List Part)) (s : Spot) → IsSpot g lists p s → IsPlaced g b (Inside p) lists (s.inner, s.inside)
placed_inside g b p lists s is = record { place_in = is.inner_in; placed = is.within; deep = is.deeper_in }

pub placed_continue : (g : List Node) (b h k : ℕ) (old new : List (List Part)) (s : Spot) → IsSpot g old h s → new ≡ old ++ (Cont h ∷ list_at old s.place) ∷ [] → k ≡ length old → IsPlaced g b (Continue h) new (k, 1 + s.nesting)
placed_continue g b h k old new s is more at =
    let here = added old new (Cont h ∷ list_at old s.place) k more at in
    record { place_in = here.0; placed = here.1 ∙ ap (λ ps. Cont h ∷ ps) is.placed; deep = ap (λ n. 1 + n) is.deep }

pub placed_case : (g : List Node) (b h k : ℕ) (old new : List (List Part)) (s : Spot) → IsSpot g old h s → new ≡ old ++ (Case h b ∷ list_at old s.place) ∷ [] → k ≡ length old → IsPlaced g b (CaseOf h) new (k, 1 + s.nesting)
placed_case g b h k old new s is more at =
    let here = added old new (Case h b ∷ list_at old s.place) k more at in
    record { place_in = here.0; placed = here.1 ∙ ap (λ ps. Case h b ∷ ps) is.placed; deep = ap (λ n. 1 + n) is.deep }

parent_by : (g : List Node) (r : Role) (spots : List Spot) (lists : List (List Part)) → ((p : ℕ) → parent_of r ≡ Some p → IsSpot g lists p (spot_at spots p)) → IsParentSpot g r lists (parent_spot r spots)
parent_by g First spots lists each = tt
parent_by g (MergeOf h) spots lists each = each h refl
parent_by g (Continue h) spots lists each = each h refl
parent_by g (CaseOf h) spots lists each = each h refl
parent_by g (Inside h) spots lists each = each h refl

-- the parent of a reached block has a spot
pub parent_known : (g : List Node) (b : ℕ) (r : Role) (spots : List Spot) (lists : List (List Part)) (s : Spot) → IsGrounded g → (nth g b).reached ≡ true → r ≡ role g b → AreSpots g b spots lists → s ≡ parent_spot r spots → IsParentSpot g r lists s
parent_known g b r spots lists s grounded here is all read =
    subst (λ x. IsParentSpot g r lists x) (sym read) (parent_by g r spots lists (λ p parent.
    let up = grounded.up b p here (ap parent_of (sym is) ∙ parent) in
    all.each p up.0 up.1))

-- where a reached block stands
at_place : (g : List Node) (b : ℕ) (r : Role) (lists : List (List Part)) (at : ℕ × ℕ) → IsGrounded g → (nth g b).reached ≡ true → r ≡ role g b → IsPlaced g b r lists at → (list_at lists at.0 ≡ place g b) × (at.1 ≡ nesting g b)
at_place g b r lists at grounded here is p =
    let q : IsPlaced g b (role g b) lists at = subst (λ x. IsPlaced g b x lists at) is p in
    (q.placed ∙ sym (place_is g b grounded here), q.deep ∙ sym (nesting_is g b grounded here))

pub spot_plain : (g : List Node) (b : ℕ) (r : Role) (lists : List (List Part)) (at : ℕ × ℕ) (one : ℕ) → IsGrounded g → (nth g b).reached ≡ true → r ≡ role g b → IsPlaced g b r lists at → own_part g b ≡ [] → one ≡ (if is_loose (nth g b) then 1 else 0) → at.1 ≤ 127 → IsSpot g lists b (record { place = at.0; inner = at.0; nesting = at.1; inside = one + at.1 })
spot_plain g b r lists at one grounded here is p none loose low =
    let there = at_place g b r lists at grounded here is p in
    let count : length (own_part g b) ≡ 0 = ap length none in
    record {
      place_in = p.place_in;
      placed = there.0;
      inner_in = p.place_in;
      within = there.0 ∙ sym (ap (λ ps. ps ++ place g b) none);
      deep = there.1;
      deeper_in = (let depth = there.1 in omega (arith, loose, depth, count));
      low = low;
    }

pub spot_opened : (g : List Node) (b : ℕ) (r : Role) (old new : List (List Part)) (at : ℕ × ℕ) (k one : ℕ) (part : Part) → IsGrounded g → (nth g b).reached ≡ true → r ≡ role g b → IsPlaced g b r old at → own_part g b ≡ part ∷ [] → new ≡ old ++ (part ∷ list_at old at.0) ∷ [] → k ≡ length old → one ≡ (if is_loose (nth g b) then 1 else 0) → at.1 ≤ 127 → IsSpot g new b (record { place = at.0; inner = k; nesting = at.1; inside = (1 + one) + at.1 })
spot_opened g b r old new at k one part grounded here is p opens more at_end loose low =
    let there = at_place g b r old at grounded here is p in
    let e = extends_add old new (part ∷ list_at old at.0) more in
    let last = added old new (part ∷ list_at old at.0) k more at_end in
    let count : length (own_part g b) ≡ 1 = ap length opens in
    record {
      place_in = (let l = e.longer in let i = p.place_in in omega (arith, l, i));
      placed = e.same at.0 p.place_in ∙ there.0;
      inner_in = last.0;
      within = last.1 ∙ (ap (λ ps. part ∷ ps) there.0 ∙ sym (ap (λ ps. ps ++ place g b) opens));
      deep = there.1;
      deeper_in = (let depth = there.1 in omega (arith, loose, depth, count));
      low = low;
    }

-- what is said of the node that is read
pub own_read : (g : List Node) (b : ℕ) (n : Node) → b < length g → n ≡ get_or g b n → opened (is_conditional n.exit) n.merge b ≡ own_part g b
own_read g b n inside is = ap (λ (m : Node). opened (is_conditional m.exit) m.merge b) (nth_read g b n inside is)

abbrev pub loose_count : Node → ℕ
loose_count n = if is_loose n then 1 else 0

pub loose_read : (g : List Node) (b : ℕ) (n : Node) → b < length g → n ≡ get_or g b n → loose_count n ≡ loose_count (nth g b)
loose_read g b n inside is = ap loose_count (nth_read g b n inside is)

pub too_deep : (g : List Node) (b : ℕ) (r : Role) (lists : List (List Part)) (at : ℕ × ℕ) → IsGrounded g → b < length g → (nth g b).reached ≡ true → r ≡ role g b → IsPlaced g b r lists at → 127 < at.1 → IsTooDeep g
too_deep g b r lists at grounded inside here is p deep =
    let there = at_place g b r lists at grounded here is p in
    (b, inside, here, (let depth = there.1 in omega (arith, depth, deep)))

pub spots_none : (g : List Node) (lists : List (List Part)) → lists ≡ [] ∷ [] → AreSpots g 0 [] lists
spots_none g lists is = record {
  sized = refl;
  some = (let n = ap length is in omega (arith, n));
  empty = ap (λ ls. list_at ls 0) is;
  each = λ b h e. absurd (omega (arith, h));
}

spot_before : (spots : List Spot) (s : Spot) (b : ℕ) → b < length spots → spot_at (spots ++ s ∷ []) b ≡ spot_at spots b
spot_before spots s b h = get_or_append_left spots (s ∷ []) no_spot b h

spots_more : (g : List Node) (i : ℕ) (spots : List Spot) (old new : List (List Part)) (s : Spot) → AreSpots g i spots old → Extends old new → ((nth g i).reached ≡ true → IsSpot g new i s) → AreSpots g (i + 1) (spots ++ s ∷ []) new
spots_more g i spots old new s all e here = record {
  sized = (let l = length_push spots s in let n = all.sized in omega (arith, l, n));
  some = (let l = e.longer in let n = all.some in omega (arith, l, n));
  empty = e.same 0 all.some ∙ all.empty;
  each = λ b h reached. elim (cases_lt b i) [
    | inl less ↦
        let inside : b < length spots = (let n = all.sized in omega (arith, n, less)) in
        subst (λ x. IsSpot g new b x) (sym (spot_before spots s b inside)) (spot_kept g old new b (spot_at spots b) e (all.each b less reached))
    | inr more ↦
        let same : i ≡ b = omega (arith, h, more) in
        let last : spot_at (spots ++ s ∷ []) i ≡ s = get_or_push spots s no_spot i all.sized in
        subst (λ k. IsSpot g new k (spot_at (spots ++ s ∷ []) k)) same (subst (λ x. IsSpot g new i x) (sym last) (here (subst (λ k. (nth g k).reached ≡ true) (sym same) reached)))
  ];
}

pub spots_reached : (g : List Node) (i : ℕ) (spots : List Spot) (old new : List (List Part)) (s : Spot) → AreSpots g i spots old → Extends old new → IsSpot g new i s → AreSpots g (i + 1) (spots ++ s ∷ []) new
spots_reached g i spots old new s all e here = spots_more g i spots old new s all e (λ h. here)

pub spots_past : (g : List Node) (i : ℕ) (spots : List Spot) (lists : List (List Part)) (s : Spot) → AreSpots g i spots lists → (nth g i).reached ≡ false → AreSpots g (i + 1) (spots ++ s ∷ []) lists
spots_past g i spots lists s all never = spots_more g i spots lists lists s all (extends_self lists) (λ h. let clash : true ≡ false = sym h ∙ never in cc)

pub spots_shallow : (g : List Node) (n : ℕ) (spots : List Spot) (lists : List (List Part)) → n ≡ length g → AreSpots g n spots lists → IsShallow g
spots_shallow g n spots lists size all b inside here =
    let s = all.each b (omega (arith, size, inside)) here in
    let low = s.low in let deep = s.deep in omega (arith, low, deep)

pub ruleset place_rules = (extends_self, extends_add, placed_first, placed_merge, placed_inside, placed_continue, placed_case)

pub ruleset spot_rules = (parent_known, spot_plain, spot_opened, too_deep, extends_both, extends_add)

pub ruleset spots_rules = (spots_none, spots_reached, spots_past, spots_shallow)
