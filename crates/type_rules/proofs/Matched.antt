-- Types that are compared part by part.
use Rattle.std.proofs.Common.{◌≡◌, ◌==◌, ◌&&◌, ◌||◌, ◌<◌, ◌≤◌, ◌+◌, ◌∷◌, ℕ, suc, Bool, true, false, List, Option, Some, None, IfSome, length, drop, get_or, cond, refl, ap, sym, ◌∙◌, subst, arith}
use Rattle.std.specs.Option.{option_map_or}
use Rattle.std.specs.List.{list_all, zip}
use Rattle.std.specs.BTreeMap.{BTreeMap, get}
use Rattle.std.specs.Ordering.{is_eq}
use Rattle.std.proofs.Math.Seq.{drop-cons}
use Rattle.std.proofs.lemmas.Bool.Decides.{nat_tests}
use Rattle.spv_ops.specs.Opcode.{is, number}
use Rattle.spv_ops.specs.declared.Op.{Op}
use Rattle.spv_ops.specs.declared.Op.TheVariants as code
use Rattle.spv_decor.specs.Rows.{word}
use Rattle.std.proofs.Math.ListN.{drop_of_length-le}
use Rattle.spv_module.specs.Held.{global}
use Rattle.spv_module.specs.declared.inst.Inst.{Inst}
use Rattle.spv_types.specs.Types.{earlier}
use Rattle.spv_types.proofs.Below.{below_is, value_at}
use Rattle.spv_types.proofs.Sizes.{of_earlier}
use Rattle.profile_rules.specs.ValueRules.{is_same_length, do_parts_match, match_step, match_before, match_at}
use Rattle.type_rules.specs.Edges.{pair_cmp}
use Rattle.type_rules.specs.Matches.{match_of, AreKnown}
use Rattle.type_rules.proofs.Pairs.{same_pair}

at_value : (gs : List Inst) (b : ℕ) (o : Option Inst) → value_at (match_step gs) (λ c. true) gs o b ≡ option_map_or (λ g. match_at gs g b) o true
at_value gs b None = refl
at_value gs b (Some g) = refl

-- a part is compared by the instruction that stands before
pub match_before_is : (gs : List Inst) (n a b : ℕ) → match_before gs n a b ≡ option_map_or (λ g. match_at gs g b) (earlier gs n a) true
match_before_is gs n a b = ap (λ f. f b) (below_is (match_step gs) (λ c. true) gs n a) ∙ at_value gs b (earlier gs n a)

pub match_earlier : (gs : List Inst) (n a b : ℕ) (g : Inst) → earlier gs n a ≡ Some g → match_before gs n a b ≡ match_of gs a b
match_earlier gs n a b g e = match_before_is gs n a b ∙ ap (λ o. option_map_or (λ h. match_at gs h b) o true) (e ∙ sym (of_earlier n (global gs a) g e))

put_known : (gs : List Inst) (k q : ℕ × ℕ) (r : Bool) (old new : Option Bool) (b : Bool) → is_eq (pair_cmp k q) ≡ b → new ≡ cond b (Some r) old → r ≡ match_of gs k.0 k.1 → IfSome old (λ s. s ≡ match_of gs q.0 q.1) → IfSome new (λ s. s ≡ match_of gs q.0 q.1)
put_known gs k q r old new true same now right before =
    let eq : k ≡ q = same_pair k q same in
    let P : Option Bool → Type 0 = λ o. IfSome o (λ s. s ≡ match_of gs q.0 q.1) in
    subst P (sym now) (right ∙ ap (λ p. match_of gs p.0 p.1) eq)
put_known gs k q r old new false same now right before =
    let P : Option Bool → Type 0 = λ o. IfSome o (λ s. s ≡ match_of gs q.0 q.1) in
    subst P (sym now) before

-- with one more answer
pub known_more : (gs : List Inst) (k : ℕ × ℕ) (r : Bool) (old new : BTreeMap (ℕ × ℕ) Bool) → AreKnown gs old → r ≡ match_of gs k.0 k.1 → ((q : ℕ × ℕ) → get pair_cmp new q ≡ cond (is_eq (pair_cmp k q)) (Some r) (get pair_cmp old q)) → AreKnown gs new
known_more gs k r old new known right now = λ q. put_known gs k q r (get pair_cmp old q) (get pair_cmp new q) (is_eq (pair_cmp k q)) refl (now q) right (known q)

pub match_of_row : (gs : List Inst) (n a b : ℕ) (g : Inst) → earlier gs n a ≡ Some g → match_of gs a b ≡ match_at gs g b
match_of_row gs n a b g e = sym (match_earlier gs n a b g e) ∙ (match_before_is gs n a b ∙ ap (λ o. option_map_or (λ h. match_at gs h b) o true) e)

-- an answer that was noted
pub noted : (gs : List Inst) (n a b : ℕ) (g : Inst) (o : Option Bool) (r : Bool) → earlier gs n a ≡ Some g → o ≡ Some r → IfSome o (λ s. s ≡ match_of gs a b) → r ≡ match_before gs n a b
noted gs n a b g o r e found known =
    let P : Option Bool → Type 0 = λ o. IfSome o (λ s. s ≡ match_of gs a b) in
    let right : r ≡ match_of gs a b = subst P found known in
    right ∙ sym (match_earlier gs n a b g e)

-- an array is no struct
no_struct : (o : Op) → is o code.TypeArray ≡ true → is o code.TypeStruct ≡ false
unfolding number
no_struct code.TypeArray array = refl
no_struct o array = cc

or_false : (b : Bool) → (b || false) ≡ b
or_false true = refl
or_false false = refl

pub and_true : (b : Bool) → (b && true) ≡ b
and_true true = refl
and_true false = refl

pub and_false : (b : Bool) → (b && false) ≡ false
and_false true = refl
and_false false = refl

-- where the first of two types of one opcode is an array
pub arrays : (gs : List Inst) (f : ℕ → ℕ → Bool) (g h : Inst) → is g.op h.op ≡ true → is g.op code.TypeArray ≡ true → do_parts_match gs f g h ≡ (f (word g 0) (word h 0) && is_same_length gs (word g 1) (word h 1))
arrays gs f g h same array =
    let also : is h.op code.TypeArray ≡ true = let e : number g.op ≡ number h.op = grind (arith, nat_tests, same) in ap (λ n. n == number code.TypeArray) (sym e) ∙ array in
    let members : Bool = list_all (λ (p : ℕ × ℕ). f p.0 p.1) (zip g.args h.args) in
    let both : Bool → Bool → Bool → Bool = λ a b s.
    (a && b && f (word g 0) (word h 0) && is_same_length gs (word g 1) (word h 1))
    || (s && (is h.op code.TypeStruct) && (length g.args == length h.args) && members) in
    ap (λ a. both a (is h.op code.TypeArray) (is g.op code.TypeStruct)) array
    ∙ ap (λ b. both true b (is g.op code.TypeStruct)) also
    ∙ ap (λ s. both true true s) (no_struct g.op array)
    ∙ or_false (f (word g 0) (word h 0) && is_same_length gs (word g 1) (word h 1))

pub ruleset part_rules = (match_before_is, match_earlier)

-- the next two members, and none
pub match_next : (f : ℕ → ℕ → Bool) (xs ys : List ℕ) (i : ℕ) → i < length xs → i < length ys → list_all (λ (p : ℕ × ℕ). f p.0 p.1) (zip (drop i xs) (drop i ys)) ≡ (f (get_or xs i 0) (get_or ys i 0) && list_all (λ (p : ℕ × ℕ). f p.0 p.1) (zip (drop (i + 1) xs) (drop (i + 1) ys)))
match_next f xs ys i inside also =
    let all : List ℕ → List ℕ → Bool = λ us vs. list_all (λ (p : ℕ × ℕ). f p.0 p.1) (zip us vs) in
    let more : suc i ≡ i + 1 = omega arith in
    ap (λ us. all us (drop i ys)) (drop-cons xs i 0 inside)
    ∙ ap (λ vs. all (get_or xs i 0 ∷ drop (suc i) xs) vs) (drop-cons ys i 0 also)
    ∙ ap (λ n. f (get_or xs i 0) (get_or ys i 0) && all (drop n xs) (drop n ys)) more

pub match_end : (f : ℕ → ℕ → Bool) (xs ys : List ℕ) (i : ℕ) → length xs ≤ i → list_all (λ (p : ℕ × ℕ). f p.0 p.1) (zip (drop i xs) (drop i ys)) ≡ true
match_end f xs ys i past = ap (λ us. list_all (λ (p : ℕ × ℕ). f p.0 p.1) (zip us (drop i ys))) (drop_of_length-le xs past)

pub ruleset member_rules = (match_next, match_end)
