-- Which blocks go to a label, as they are found one by one.
use Rattle.std.proofs.Common.{◌≡◌, ◌==◌, ◌&&◌, ◌||◌, ◌<◌, ◌≤◌, ◌+◌, ◌-◌, ◌++◌, not, ℕ, zero, suc, Bool, true, false, List, [], ◌∷◌, Option, Some, None, is_some, length, map, take, get_or, nat_lt, cond, refl, ap, sym, ◌∙◌, arith, inl, inr, subst}
use Rattle.std.specs.List.{filter, enumerate_from, list_any, list_all, count_by, position_from, slice_get}
use Rattle.std.specs.Option.{option_map_or}
use Rattle.std.proofs.lemmas.List.{take_more, take_all, append-nil, map-append, get_or_default}
use Rattle.std.proofs.lemmas.List.Elements.{filter-append}
use Rattle.std.proofs.lemmas.List.Folds.{list_any-append}
use Rattle.std.proofs.lemmas.List.Sums.{sum_by-cons}
use Rattle.std.proofs.lemmas.Bool.Decides.{nat_tests, eqb_tells}
use Rattle.std.proofs.lemmas.Bool.{or_right, and_parts}
use Rattle.std.proofs.Math.Bool.{or_assoc}
use Rattle.list_law.proofs.Tests.{or_alone}
use Rattle.list_law.proofs.Lists.{any_same}
use Rattle.spv_ops.specs.Groups.{is_terminator}
use Rattle.spv_ops.specs.declared.Op.{Op}
use Rattle.spv_module.specs.declared.inst.Inst.{Inst}
use Rattle.spv_module.specs.declared.inst.Block.{Block}
use Rattle.spv_module.specs.declared.inst.Function.{Function}
use Rattle.spv_index.specs.Locals.{block_in}
use Rattle.profile_rules.specs.FlowRules.{is_target, goes, goes_to, is_predecessor, are_no_predecessors, has_repeat}
use Rattle.type_rules.specs.declared.edges.Source.{Source}
use Rattle.type_rules.specs.declared.edges.Sources.{Sources}
use Rattle.type_rules.proofs.Targets.{no_targets}
use Rattle.type_rules.specs.Edges.{list_of, source_at, sources_of, is_source, are_not_sources, ends_at, with_source, source_if, IsAddedAt, AreEmpty, AreSources, AreSourcesWith, Adds}

-- where the first that passes stands
position_at : {X : Type 0} (p : X → Bool) (n : ℕ) (xs : List X) (k : ℕ) → position_from p n xs ≡ Some k → (j : ℕ) × (k ≡ n + j) × (j < length xs) × (option_map_or p (slice_get xs j) false ≡ true)
position_at p n [] k found = cc
position_at {X} p n (x ∷ xs) k found =
    (elim (p x) as (λ b. p x ≡ b → cond b (Some n) (position_from p (n + 1) xs) ≡ Some k → (j : ℕ) × (k ≡ n + j) × (j < suc (length xs)) × (option_map_or p (slice_get (x ∷ xs) j) false ≡ true)) [
      | true ↦ λ passes e.
          let same : n ≡ k = cc in
          (0, omega (arith, same), omega arith, passes)
      | false ↦ λ fails e.
          let later = position_at p (n + 1) xs k e in
          (suc later.0, omega (arith, later.1), omega (arith, later.2), later.3)
    ]) refl found

-- a block that is found by its label stands among the function's
pub block_inside : (f : Function) (label k : ℕ) → block_in f label ≡ Some k → k < length f.blocks
block_inside f label k found =
    let at = position_at (λ (b : Block). b.label.0 == label) 0 f.blocks k found in
    omega (arith, at.1, at.2)

one_label : (o : Option Block) (x y : ℕ) → option_map_or (λ (b : Block). b.label.0 == x) o false ≡ true → option_map_or (λ (b : Block). b.label.0 == y) o false ≡ true → x ≡ y
one_label None x y h k = cc
one_label (Some b) x y h k = grind (arith, nat_tests, h, k)

-- two labels at one place are the same
same_label : (f : Function) (x y k : ℕ) → block_in f x ≡ Some k → block_in f y ≡ Some k → x ≡ y
same_label f x y k first second =
    let p = position_at (λ (b : Block). b.label.0 == x) 0 f.blocks k first in
    let q = position_at (λ (b : Block). b.label.0 == y) 0 f.blocks k second in
    let same : q.0 ≡ p.0 = omega (arith, p.1, q.1) in
    one_label (slice_get f.blocks p.0) x y p.3 (subst (λ j. option_map_or (λ (b : Block). b.label.0 == y) (slice_get f.blocks j) false ≡ true) same q.3)

-- a block of the function is found by its label
found_from : (label n : ℕ) (bs : List Block) (i : ℕ) (d : Block) → i < length bs → (get_or bs i d).label.0 ≡ label → is_some (position_from (λ (b : Block). b.label.0 == label) n bs) ≡ true
found_from label n [] i d inside is = absurd (omega arith)
found_from label n (b ∷ bs) zero d inside is =
    let passes : (b.label.0 == label) ≡ true = grind (arith, nat_tests, is) in
    ap (λ t. is_some (cond t (Some n) (position_from (λ (c : Block). c.label.0 == label) (n + 1) bs))) passes
found_from label n (b ∷ bs) (suc i) d inside is =
    let later : is_some (position_from (λ (c : Block). c.label.0 == label) (n + 1) bs) ≡ true = found_from label (n + 1) bs i d (omega arith) is in
    elim (b.label.0 == label) as (λ t. is_some (cond t (Some n) (position_from (λ (c : Block). c.label.0 == label) (n + 1) bs)) ≡ true) [ true ↦ refl | false ↦ later ]

pub block_found : (f : Function) (bs : List Block) (i : ℕ) (b : Block) → bs ≡ f.blocks → i < length bs → b ≡ get_or bs i b → is_some (block_in f b.label.0) ≡ true
block_found f bs i b all inside is =
    let P : List Block → Type 0 = λ cs. is_some (position_from (λ (c : Block). c.label.0 == b.label.0) 0 cs) ≡ true in
    subst P all (found_from b.label.0 0 bs i b inside (ap (λ (c : Block). c.label.0) (sym is)))

-- one more item with its number
enumerate_more : {X : Type 0} (n : ℕ) (xs : List X) (i : ℕ) (d : X) → i < length xs → enumerate_from n (take (suc i) xs) ≡ enumerate_from n (take i xs) ++ (n + i, get_or xs i d) ∷ []
enumerate_more n [] i d inside = absurd (omega arith)
enumerate_more {X} n (x ∷ xs) zero d inside =
    let e : n ≡ n + 0 = omega arith in
    ap (λ k. (k, x) ∷ []) e
enumerate_more {X} n (x ∷ xs) (suc i) d inside =
    let later : enumerate_from (n + 1) (take (suc i) xs) ≡ enumerate_from (n + 1) (take i xs) ++ (n + 1 + i, get_or xs i d) ∷ [] = enumerate_more (n + 1) xs i d (omega arith) in
    let e : n + 1 + i ≡ n + suc i = omega arith in
    ap (λ ys. (n, x) ∷ ys) (later ∙ ap (λ k. enumerate_from (n + 1) (take i xs) ++ (k, get_or xs i d) ∷ []) e)

enumerate_front : {X : Type 0} (xs : List X) (i : ℕ) (x : X) → i < length xs → x ≡ get_or xs i x → enumerate_from 0 (take (suc i) xs) ≡ enumerate_from 0 (take i xs) ++ (i, x) ∷ []
enumerate_front xs i x inside is =
    let e : 0 + i ≡ i = omega arith in
    enumerate_more 0 xs i x inside
    ∙ ap (λ k. enumerate_from 0 (take i xs) ++ (k, get_or xs i x) ∷ []) e
    ∙ ap (λ y. enumerate_from 0 (take i xs) ++ (i, y) ∷ []) (sym is)

source_one : (label : ℕ) (p : ℕ × Block) → map source_at (filter (λ (q : ℕ × Block). goes_to label q.1) (p ∷ [])) ≡ source_if (goes_to label p.1) (source_at p)
source_one label p = elim (goes_to label p.1) as (λ b. map source_at (cond b (p ∷ []) []) ≡ source_if b (source_at p)) [ true ↦ refl | false ↦ refl ]

-- the sources of a label with one more block
sources_more : (label : ℕ) (bs : List Block) (i : ℕ) (b : Block) → i < length bs → b ≡ get_or bs i b → sources_of label (take (suc i) bs) ≡ sources_of label (take i bs) ++ source_if (goes_to label b) (source_at (i, b))
sources_more label bs i b inside is =
    let test : ℕ × Block → Bool = λ q. goes_to label q.1 in
    let front : List (ℕ × Block) = enumerate_from 0 (take i bs) in
    let more : enumerate_from 0 (take (suc i) bs) ≡ front ++ (i, b) ∷ [] = enumerate_front bs i b inside is in
    ap (λ ps. map source_at (filter test ps)) more
    ∙ ap (map source_at) (filter-append test front ((i, b) ∷ []))
    ∙ map-append source_at (filter test front) (filter test ((i, b) ∷ []))
    ∙ ap (λ ys. map source_at (filter test front) ++ ys) (source_one label (i, b))

-- they stand among the first blocks
are_before : (label n m : ℕ) (bs : List Block) → n + length bs ≤ m → list_all (λ (s : Source). nat_lt s.place m) (map source_at (filter (λ (q : ℕ × Block). goes_to label q.1) (enumerate_from n bs))) ≡ true
are_before label n m [] fits = refl
are_before label n m (b ∷ bs) fits =
    let test : ℕ × Block → Bool = λ q. goes_to label q.1 in
    let below : Source → Bool = λ s. nat_lt s.place m in
    let later : list_all below (map source_at (filter test (enumerate_from (n + 1) bs))) ≡ true = are_before label (n + 1) m bs (omega arith) in
    let here : nat_lt n m ≡ true = grind (arith, nat_tests, fits) in
    elim (goes_to label b) as (λ t. list_all below (map source_at (cond t ((n, b) ∷ filter test (enumerate_from (n + 1) bs)) (filter test (enumerate_from (n + 1) bs)))) ≡ true) [
      | true ↦ ap (λ t. t && list_all below (map source_at (filter test (enumerate_from (n + 1) bs)))) here ∙ later
      | false ↦ later
    ]

got_passes : {X : Type 0} (p : X → Bool) (xs : List X) (k : ℕ) → list_all p xs ≡ true → option_map_or (λ x. not (p x)) (slice_get xs k) false ≡ false
got_passes p [] k all = refl
got_passes p (x ∷ xs) zero all = ap not (and_parts (p x) (list_all p xs) all).0
got_passes p (x ∷ xs) (suc k) all = got_passes p xs k (and_parts (p x) (list_all p xs) all).1

lower_is_other : (o : Option Source) (n : ℕ) → option_map_or (λ (s : Source). not (nat_lt s.place n)) o false ≡ false → option_map_or (λ (s : Source). s.place == n) o false ≡ false
lower_is_other None n h = refl
lower_is_other (Some s) n h = grind (arith, nat_tests, h)

-- so none of them is the next block
ends_before : (label : ℕ) (done : List Block) → ends_at (sources_of label done) (length done) ≡ false
ends_before label done =
    let sources : List Source = sources_of label done in
    let all : list_all (λ (s : Source). nat_lt s.place (length done)) sources ≡ true = are_before label 0 (length done) done (omega arith) in
    lower_is_other (slice_get sources (length sources - 1)) (length done) (got_passes (λ (s : Source). nat_lt s.place (length done)) sources (length sources - 1) all)

got_last : {X : Type 0} (xs : List X) (x : X) → slice_get (xs ++ x ∷ []) (length xs) ≡ Some x
got_last [] x = refl
got_last (y ∷ xs) x = got_last xs x

length_pushed : {X : Type 0} (xs : List X) (x : X) → length (xs ++ x ∷ []) ≡ suc (length xs)
length_pushed [] x = refl
length_pushed (y ∷ xs) x = ap suc (length_pushed xs x)

-- the block that was added last
ends_with : (sources : List Source) (s : Source) → ends_at (sources ++ s ∷ []) s.place ≡ true
ends_with sources s =
    let last : length (sources ++ s ∷ []) - 1 ≡ length sources = omega (arith, length_pushed sources s) in
    let got : slice_get (sources ++ s ∷ []) (length (sources ++ s ∷ []) - 1) ≡ Some s = ap (slice_get (sources ++ s ∷ [])) last ∙ got_last sources s in
    let own : (s.place == s.place) ≡ true = grind (arith, nat_tests) in
    ap (λ o. option_map_or (λ (t : Source). t.place == s.place) o false) got ∙ own

-- adding the next block once more changes nothing
added : (label : ℕ) (done : List Block) (s : Source) (b : Bool) → s.place ≡ length done → with_source (sources_of label done ++ source_if b s) s ≡ sources_of label done ++ s ∷ []
added label done s true here = ap (λ t. cond t (sources_of label done ++ s ∷ []) ((sources_of label done ++ s ∷ []) ++ s ∷ [])) (ends_with (sources_of label done) s)
added label done s false here =
    let none : sources_of label done ++ [] ≡ sources_of label done = append-nil (sources_of label done) in
    let other : ends_at (sources_of label done) s.place ≡ false = ap (ends_at (sources_of label done)) here ∙ ends_before label done in
    ap (λ xs. with_source xs s) none ∙ ap (λ t. cond t (sources_of label done) (sources_of label done ++ s ∷ [])) other

is_itself : (a : ℕ) → (a == a) ≡ true
is_itself a = grind (arith, nat_tests)

-- a label that a block of the function has
pub edge_added : (f : Function) (s : Source) (label k : ℕ) (old new : List Sources) → block_in f label ≡ Some k → IsAddedAt old new k s → Adds f s (λ x. label == x) old new
edge_added f s label k old new found more = record {
  size = more.size;
  step = λ done some was. record {
    size = more.size ∙ was.size;
    here = was.here;
    each = λ x j d at.
        elim (eqb_tells label x) [
          | inl w ↦
              let same : j ≡ k = let e : Some j ≡ Some k = sym at ∙ ap (block_in f) (sym w.1) ∙ found in cc in
              let yes : (some x || (label == x)) ≡ true = or_right (some x) (label == x) w.0 in
              let P : ℕ → Type 0 = λ i. list_of (get_or new i d) ≡ sources_of x done ++ source_if (some x || (label == x)) s in
              subst P (sym same)
              (more.own d
              ∙ ap (λ xs. with_source xs s) (was.each x k d (ap (block_in f) (sym w.1) ∙ found))
              ∙ added x done s (some x) was.here
              ∙ ap (λ b. sources_of x done ++ source_if b s) (sym yes))
          | inr w ↦
              let other : j ≡ k → ⊥ = λ e. w.1 (same_label f label x k found (at ∙ ap Some e)) in
              let no : (some x || (label == x)) ≡ some x = or_alone (some x) (label == x) w.0 in
              ap list_of (more.others j d other)
              ∙ was.each x j d at
              ∙ ap (λ b. sources_of x done ++ source_if b s) (sym no)
        ];
  };
}

-- a label that no block has
pub edge_nowhere : (f : Function) (s : Source) (label : ℕ) (old : List Sources) → block_in f label ≡ None → Adds f s (λ x. label == x) old old
edge_nowhere f s label old none = record {
  size = refl;
  step = λ done some was. record {
    size = was.size;
    here = was.here;
    each = λ x j d at.
        elim (eqb_tells label x) [
          | inl w ↦ let e : None ≡ Some j = sym none ∙ ap (block_in f) w.1 ∙ at in absurd (let n : ⊥ = cc in n)
          | inr w ↦ was.each x j d at ∙ ap (λ b. sources_of x done ++ source_if b s) (sym (or_alone (some x) (label == x) w.0))
        ];
  };
}

-- more by another test that says the same
adds_same : (f : Function) (s : Source) (p q : ℕ → Bool) (old new : List Sources) → ((x : ℕ) → p x ≡ q x) → Adds f s p old new → Adds f s q old new
adds_same f s p q old new same more = record {
  size = more.size;
  step = λ done some was.
      let now : AreSourcesWith f s done (λ x. some x || p x) new = more.step done some was in
      record {
        size = now.size;
        here = now.here;
        each = λ x j d at. now.each x j d at ∙ ap (λ b. sources_of x done ++ source_if (some x || b) s) (same x);
      };
}

or_false : (a : Bool) → a ≡ (a || false)
or_false true = refl
or_false false = refl

-- nothing more
pub adds_none : (f : Function) (s : Source) (old : List Sources) → Adds f s (λ x. false) old old
adds_none f s old = record {
  size = refl;
  step = λ done some was. record {
    size = was.size;
    here = was.here;
    each = λ x j d at. was.each x j d at ∙ ap (λ b. sources_of x done ++ source_if b s) (or_false (some x));
  };
}

adds_both : (f : Function) (s : Source) (p q : ℕ → Bool) (old mid new : List Sources) → Adds f s p old mid → Adds f s q mid new → Adds f s (λ x. p x || q x) old new
adds_both f s p q old mid new first second = record {
  size = second.size ∙ first.size;
  step = λ done some was.
      let now : AreSourcesWith f s done (λ x. (some x || p x) || q x) new = second.step done (λ x. some x || p x) (first.step done some was) in
      record {
        size = now.size;
        here = now.here;
        each = λ x j d at. now.each x j d at ∙ ap (λ b. sources_of x done ++ source_if b s) (or_assoc (some x) (p x) (q x));
      };
}

pub any_more : {X : Type 0} (p : X → Bool) (xs : List X) (i : ℕ) (x : X) → i < length xs → x ≡ get_or xs i x → (list_any p (take i xs) || p x) ≡ list_any p (take (i + 1) xs)
any_more p xs i x inside is =
    let front : take (i + 1) xs ≡ take i xs ++ x ∷ [] = take_more xs i x inside ∙ ap (λ y. take i xs ++ y ∷ []) (sym is) in
    sym (ap (list_any p) front ∙ list_any-append p (take i xs) (x ∷ []) ∙ ap (λ b. list_any p (take i xs) || b) (sym (or_false (p x))))

-- one more item that goes to labels
pub adds_more : {X : Type 0} (f : Function) (s : Source) (p : ℕ → X → Bool) (xs : List X) (i : ℕ) (x : X) (old mid new : List Sources) → i < length xs → x ≡ get_or xs i x → Adds f s (λ l. list_any (p l) (take i xs)) old mid → Adds f s (λ l. p l x) mid new → Adds f s (λ l. list_any (p l) (take (i + 1) xs)) old new
adds_more f s p xs i x old mid new inside is first second =
    adds_same f s (λ l. list_any (p l) (take i xs) || p l x) (λ l. list_any (p l) (take (i + 1) xs)) old new (λ l. any_more (p l) xs i x inside is) (adds_both f s (λ l. list_any (p l) (take i xs)) (λ l. p l x) old mid new first second)

-- an operand that is a target, or none
pub operand_added : (f : Function) (s : Source) (label : ℕ) (b : Bool) (old new : List Sources) → b ≡ true → Adds f s (λ x. label == x) old new → Adds f s (λ x. b && (label == x)) old new
operand_added f s label b old new there more = adds_same f s (λ x. label == x) (λ x. b && (label == x)) old new (λ x. ap (λ t. t && (label == x)) (sym there)) more

pub operand_passed : (f : Function) (s : Source) (label : ℕ) (b : Bool) (old : List Sources) → b ≡ false → Adds f s (λ x. b && (label == x)) old old
operand_passed f s label b old never = adds_same f s (λ x. false) (λ x. b && (label == x)) old old (λ x. ap (λ t. t && (label == x)) (sym never)) (adds_none f s old)

-- the labels to which the first operands go
abbrev pub goes_by : Op → List ℕ → ℕ → Bool
goes_by op args label = list_any (λ l. l == label) (map (λ (o : ℕ × ℕ). o.1) (filter (λ (o : ℕ × ℕ). is_target op o.0) (enumerate_from 0 args)))

goes_one : (op : Op) (label : ℕ) (p : ℕ × ℕ) → list_any (λ l. l == label) (map (λ (o : ℕ × ℕ). o.1) (filter (λ (o : ℕ × ℕ). is_target op o.0) (p ∷ []))) ≡ (is_target op p.0 && (p.1 == label))
goes_one op label p = elim (is_target op p.0) as (λ b. list_any (λ l. l == label) (map (λ (o : ℕ × ℕ). o.1) (cond b (p ∷ []) [])) ≡ (b && (p.1 == label))) [ true ↦ sym (or_false (p.1 == label)) | false ↦ refl ]

goes_more : (op : Op) (args : List ℕ) (i w label : ℕ) → i < length args → w ≡ get_or args i w → (goes_by op (take i args) label || (is_target op i && (w == label))) ≡ goes_by op (take (suc i) args) label
goes_more op args i w label inside is =
    let test : ℕ × ℕ → Bool = λ o. is_target op o.0 in
    let word : ℕ × ℕ → ℕ = λ o. o.1 in
    let hit : ℕ → Bool = λ l. l == label in
    let front : List (ℕ × ℕ) = enumerate_from 0 (take i args) in
    let more : enumerate_from 0 (take (suc i) args) ≡ front ++ (i, w) ∷ [] = enumerate_front args i w inside is in
    sym (ap (λ ps. list_any hit (map word (filter test ps))) more
    ∙ ap (λ ps. list_any hit (map word ps)) (filter-append test front ((i, w) ∷ []))
    ∙ ap (list_any hit) (map-append word (filter test front) (filter test ((i, w) ∷ [])))
    ∙ list_any-append hit (map word (filter test front)) (map word (filter test ((i, w) ∷ [])))
    ∙ ap (λ b. list_any hit (map word (filter test front)) || b) (goes_one op label (i, w)))

-- one more operand
pub operand_more : (f : Function) (s : Source) (op : Op) (args : List ℕ) (i w : ℕ) (old mid new : List Sources) → i < length args → w ≡ get_or args i w → Adds f s (goes_by op (take i args)) old mid → Adds f s (λ x. is_target op i && (w == x)) mid new → Adds f s (goes_by op (take (i + 1) args)) old new
operand_more f s op args i w old mid new inside is first second =
    let e : suc i ≡ i + 1 = omega arith in
    let P : ℕ → Type 0 = λ n. Adds f s (goes_by op (take n args)) old new in
    subst P e (adds_same f s (λ x. goes_by op (take i args) x || (is_target op i && (w == x))) (goes_by op (take (suc i) args)) old new (λ x. goes_more op args i w x inside is) (adds_both f s (goes_by op (take i args)) (λ x. is_target op i && (w == x)) old mid new first second))

-- no block yet
pub sources_none : (f : Function) (lists : List Sources) → AreEmpty (length f.blocks) lists → AreSources f [] lists
sources_none f lists empty = record {
  size = empty.size;
  each = λ label k d at. empty.each k d (block_inside f label k at);
}

-- one more block
pub block_more : (f : Function) (s : Source) (bs : List Block) (i : ℕ) (b : Block) (old new : List Sources) → i < length bs → b ≡ get_or bs i b → s ≡ source_at (i, b) → length (take i bs) ≡ i → AreSources f (take i bs) old → Adds f s (λ x. goes_to x b) old new → AreSources f (take (i + 1) bs) new
block_more f s bs i b old new inside is here sized was more =
    let start : AreSourcesWith f s (take i bs) (λ x. false) old = record {
      size = was.size;
      here = ap (λ (t : Source). t.place) here ∙ sym sized;
      each = λ label k d at. was.each label k d at ∙ sym (append-nil (sources_of label (take i bs)));
    } in
    let now : AreSourcesWith f s (take i bs) (λ x. false || goes_to x b) new = more.step (take i bs) (λ x. false) start in
    let e : suc i ≡ i + 1 = omega arith in
    record {
      size = now.size;
      each = λ label k d at.
          now.each label k d at
          ∙ ap (λ (t : Source). sources_of label (take i bs) ++ source_if (goes_to label b) t) here
          ∙ sym (sources_more label bs i b inside is)
          ∙ ap (λ n. sources_of label (take n bs)) e;
    }

any_of_sources : (label l n : ℕ) (bs : List Block) → list_any (λ (s : Source). s.label == l) (map source_at (filter (λ (q : ℕ × Block). goes_to label q.1) (enumerate_from n bs))) ≡ list_any (λ (b : Block). (b.label.0 == l) && goes_to label b) bs
any_of_sources label l n [] = refl
any_of_sources label l n (b ∷ bs) =
    let test : ℕ × Block → Bool = λ q. goes_to label q.1 in
    let later : list_any (λ (s : Source). s.label == l) (map source_at (filter test (enumerate_from (n + 1) bs))) ≡ list_any (λ (c : Block). (c.label.0 == l) && goes_to label c) bs = any_of_sources label l (n + 1) bs in
    elim (goes_to label b) as (λ t. list_any (λ (s : Source). s.label == l) (map source_at (cond t ((n, b) ∷ filter test (enumerate_from (n + 1) bs)) (filter test (enumerate_from (n + 1) bs)))) ≡ (((b.label.0 == l) && t) || list_any (λ (c : Block). (c.label.0 == l) && goes_to label c) bs)) [
      | true ↦ ap (λ t. (b.label.0 == l) || t) later ∙ ap (λ t. t || list_any (λ (c : Block). (c.label.0 == l) && goes_to label c) bs) (and_true (b.label.0 == l))
      | false ↦ later ∙ ap (λ t. t || list_any (λ (c : Block). (c.label.0 == l) && goes_to label c) bs) (and_false (b.label.0 == l))
    ]
  where
    and_true : (a : Bool) → a ≡ (a && true)
    and_true true = refl
    and_true false = refl

    and_false : (a : Bool) → false ≡ (a && false)
    and_false true = refl
    and_false false = refl

length_of_sources : (label n : ℕ) (bs : List Block) → length (map source_at (filter (λ (q : ℕ × Block). goes_to label q.1) (enumerate_from n bs))) ≡ count_by (goes_to label) bs
length_of_sources label n [] = refl
length_of_sources label n (b ∷ bs) =
    let test : ℕ × Block → Bool = λ q. goes_to label q.1 in
    let later : length (map source_at (filter test (enumerate_from (n + 1) bs))) ≡ count_by (goes_to label) bs = length_of_sources label (n + 1) bs in
    (elim (goes_to label b) as (λ t. length (map source_at (cond t ((n, b) ∷ filter test (enumerate_from (n + 1) bs)) (filter test (enumerate_from (n + 1) bs)))) ≡ cond t 1 0 + count_by (goes_to label) bs) [
      | true ↦ omega (arith, later)
      | false ↦ omega (arith, later)
    ])
    ∙ sym (sum_by-cons (λ c. cond (goes_to label c) 1 0) b bs)

-- what is asked of the sources of a label is what is asked of the function
pub asked_of_sources : (f : Function) (label : ℕ) (labels : List ℕ) → are_not_sources (sources_of label f.blocks) labels ≡ are_no_predecessors f label labels
asked_of_sources f label labels =
    let many : length (sources_of label f.blocks) ≡ count_by (goes_to label) f.blocks = length_of_sources label 0 f.blocks in
    let others : list_any (λ l. not (is_source (sources_of label f.blocks) l)) labels ≡ list_any (λ l. not (is_predecessor f label l)) labels =
    any_same (λ l. not (is_source (sources_of label f.blocks) l)) (λ l. not (is_predecessor f label l)) labels (λ l. ap not (any_of_sources label l 0 f.blocks)) in
    ap (λ n. (not (length labels == n) || has_repeat labels) || list_any (λ l. not (is_source (sources_of label f.blocks) l)) labels) many
    ∙ ap (λ b. (not (length labels == count_by (goes_to label) f.blocks) || has_repeat labels) || b) others

-- what is no terminator goes nowhere
pub inst_passed : (f : Function) (s : Source) (i : Inst) (old : List Sources) → is_terminator i.op ≡ false → Adds f s (λ x. goes x i) old old
inst_passed f s i old other =
    adds_same f s (λ x. false) (λ x. goes x i) old old (λ x. sym (ap (list_any (λ l. l == x)) (no_targets i other))) (adds_none f s old)

-- the labels of these blocks, with one more
pub labels_more : (xs : List Source) (i : ℕ) (d : Source) (old new : ℕ → Bool) → i < length xs → ((l : ℕ) → old l ≡ is_source (take i xs) l) → ((l : ℕ) → new l ≡ (old l || ((get_or xs i d).label == l))) → (l : ℕ) → new l ≡ is_source (take (i + 1) xs) l
labels_more xs i d old new inside was now l =
    let x : Source = get_or xs i d in
    let is : x ≡ get_or xs i x = get_or_default xs i d x inside in
    now l ∙ ap (λ b. b || (x.label == l)) (was l) ∙ any_more (λ (s : Source). s.label == l) xs i x inside is

pub ruleset edge_rules = (edge_nowhere, block_inside)

pub ruleset operand_rules = (operand_passed)

-- all operands, and all instructions
pub adds_targets : (f : Function) (s : Source) (i : Inst) (k : ℕ) (old new : List Sources) → length i.args ≤ k → Adds f s (goes_by i.op (take k i.args)) old new → Adds f s (λ x. goes x i) old new
adds_targets f s i k old new all more = subst (λ args. Adds f s (goes_by i.op args) old new) (take_all k i.args all) more

pub adds_insts : (f : Function) (s : Source) (b : Block) (insts : List Inst) (k : ℕ) (old new : List Sources) → insts ≡ b.insts → length insts ≤ k → Adds f s (λ x. list_any (goes x) (take k insts)) old new → Adds f s (λ x. goes_to x b) old new
adds_insts f s b insts k old new is all more = subst (λ list. Adds f s (λ x. list_any (goes x) list) old new) (take_all k insts all ∙ is) more

pub ruleset start_rules = (adds_none)
