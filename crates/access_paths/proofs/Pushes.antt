-- The ways of links, with one more link at the end.
use Rattle.std.proofs.Common.{◌≡◌, ◌==◌, ◌++◌, ◌<◌, ◌≤◌, ◌+◌, ℕ, List, [], ◌∷◌, Option, Some, None, Bool, true, false, length, get_or, refl, ap, sym, subst, append_assoc, ◌∙◌, inl, inr, arith}
use Rattle.std.specs.Prelude.{flat_map, reverse}
use Rattle.std.specs.Option.{option_map_or}
use Rattle.std.proofs.lemmas.Bool.Decides.{nat_tests, eqb_tells}
use Rattle.std.proofs.lemmas.List.{reverse-append, reverse-reverse, length-reverse, get_or_push, get_or_append_left}
use mathlib.Core.List.{reverse-cons}
use Rattle.spv_module.specs.declared.inst.Inst.{Inst}
use Rattle.access_paths.specs.declared.link.Link.{Link}
use Rattle.access_paths.specs.Links.{way_to, way_in, link_steps, steps_to, IsIn, AreBackTo, AreBack}

-- from the last link of these, the one at the end counts as one more
pub way_to_none : (rev : List Link) → way_to rev None ≡ []
way_to_none [] = refl
way_to_none (l ∷ earlier) = way_to_none earlier

abbrev chosen : Link → List Link → Option ℕ → Bool → List Link
chosen l rev last b = elim b [ true ↦ way_to rev l.before ++ l ∷ [] | false ↦ way_to rev last ]

-- a way whose last link stands earlier
pub way_to_earlier : (l : Link) (rev : List Link) (last : Option ℕ) → IsIn (length rev) last → way_to (l ∷ rev) last ≡ way_to rev last
way_to_earlier l rev None inside = refl
way_to_earlier l rev (Some j) inside =
    let other : (j == length rev) ≡ false = grind (arith, nat_tests, inside) in
    ap (chosen l rev (Some j)) other

-- a way whose last link is the latest
pub way_to_latest : (l : Link) (rev : List Link) (k : ℕ) → k ≡ length rev → way_to (l ∷ rev) (Some k) ≡ way_to rev l.before ++ l ∷ []
way_to_latest l rev k here =
    let same : (k == length rev) ≡ true = grind (arith, nat_tests, here) in
    ap (chosen l rev (Some k)) same

pub in_more : (n m : ℕ) (last : Option ℕ) → n ≤ m → IsIn n last → IsIn m last
in_more n m None le inside = tt
in_more n m (Some j) le inside = omega (arith, inside)

-- a way leads to its last link from the one before it
pub record IsStep (way : Option ℕ → List Link) (k : ℕ) (l : Link) : Type 0 where
  pub before : IsIn k l.before
  pub way_is : way (Some k) ≡ way l.before ++ l ∷ []

step_to : (rev : List Link) (k : ℕ) (d : Link) → AreBackTo rev → k < length rev → IsStep (way_to rev) k (get_or (reverse rev) k d)
step_to [] k d back inside = absurd (omega (arith, inside))
step_to (l ∷ rev) k d back inside =
    let P : Link → Type 0 = λ x. IsStep (way_to (l ∷ rev)) k x in
    let turned : reverse (l ∷ rev) ≡ reverse rev ++ l ∷ [] = reverse-cons l rev in
    elim (eqb_tells k (length rev)) [
      | inl w ↦
          let here : k ≡ length rev = w.1 in
          let at : get_or (reverse (l ∷ rev)) k d ≡ l =
          ap (λ ls. get_or ls k d) turned ∙ get_or_push (reverse rev) l d k (length-reverse rev ∙ sym here) in
          let le : length rev ≤ k = omega arith in
          let whole : P l = record {
            before = in_more (length rev) k l.before le back.0;
            way_is = way_to_latest l rev k here ∙ ap (λ ls. ls ++ l ∷ []) (sym (way_to_earlier l rev l.before back.0));
          } in
          subst P (sym at) whole
      | inr w ↦
          let earlier : k < length rev = omega (arith, inside, w.1) in
          let x : Link = get_or (reverse rev) k d in
          let inside_turned : k < length (reverse rev) = omega (arith, length-reverse rev) in
          let at : get_or (reverse (l ∷ rev)) k d ≡ x =
          ap (λ ls. get_or ls k d) turned ∙ get_or_append_left (reverse rev) (l ∷ []) d k inside_turned in
          let known : IsStep (way_to rev) k x = step_to rev k d back.1 earlier in
          let le : k ≤ length rev = omega arith in
          let before : IsIn (length rev) x.before = in_more k (length rev) x.before le known.before in
          let whole : P x = record {
            before = known.before;
            way_is = way_to_earlier l rev (Some k) earlier ∙ known.way_is ∙ ap (λ ls. ls ++ x ∷ []) (sym (way_to_earlier l rev x.before before));
          } in
          subst P (sym at) whole
    ]

step_in : (links : List Link) (k : ℕ) (d : Link) → AreBack links → k < length links → IsStep (way_in links) k (get_or links k d)
step_in links k d back inside =
    let P : List Link → Type 0 = λ ls. IsStep (way_in links) k (get_or ls k d) in
    let inside_turned : k < length (reverse links) = omega (arith, length-reverse links) in
    subst P (reverse-reverse links) (step_to (reverse links) k d back inside_turned)

-- the same of the link that stands there
pub at_place : (links : List Link) (k : ℕ) (x : Link) → x ≡ get_or links k x → AreBack links → k < length links → IsStep (way_in links) k x
at_place links k x here back inside = subst (IsStep (way_in links) k) (sym here) (step_in links k x back inside)

-- a way of no links, and a way of one
pub no_way : (gs : List Inst) (printed : ℕ) (links : List Link) → steps_to gs printed links None ≡ []
no_way gs printed links = ap (flat_map (link_steps gs printed)) (way_to_none (reverse links))

pub first_way : (gs : List Inst) (printed k : ℕ) (links : List Link) (l : Link) → IsStep (way_in links) k l → l.before ≡ None → steps_to gs printed links (Some k) ≡ flat_map (link_steps gs printed) (l ∷ [])
first_way gs printed k links l step none =
    ap (flat_map (link_steps gs printed)) (step.way_is ∙ ap (λ ls. ls ++ l ∷ []) (ap (way_in links) none ∙ way_to_none (reverse links)))

-- how many links there may be up to this one
pub falls : (next before : Option ℕ) (k : ℕ) → next ≡ Some k → IsIn k before → option_map_or (λ n. n + 1) before 0 < option_map_or (λ n. n + 1) next 0
falls next None k here inside = rw here (omega arith)
falls next (Some j) k here inside = rw here (omega (arith, inside))

-- a way that is walked from its end, with one more link
pub walked : (links way new all : List Link) (next : Option ℕ) (k : ℕ) (x : Link) → next ≡ Some k → IsStep (way_in links) k x → new ≡ way ++ x ∷ [] → way_in links next ++ reverse way ≡ all → way_in links x.before ++ reverse new ≡ all
walked links way new all next k x here step more before =
    let turned : reverse new ≡ x ∷ reverse way = ap reverse more ∙ reverse-append way (x ∷ []) in
    ap (λ ls. way_in links x.before ++ ls) turned
    ∙ sym (append_assoc (way_in links x.before) (x ∷ []) (reverse way))
    ∙ ap (λ ls. ls ++ reverse way) (sym step.way_is)
    ∙ ap (λ last. way_in links last ++ reverse way) (sym here)
    ∙ before
