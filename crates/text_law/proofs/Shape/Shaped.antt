-- What is written of a function has its shape, where its blocks and edges are seen to do what their instructions do.
use Rattle.std.proofs.Common.{◌≡◌, ◌≤◌, ◌+◌, ◌==◌, ℕ, Bool, true, false, List, [], ◌∷◌, ◌++◌, map, filter, length, None, Some, refl, sym, ◌∙◌, ap, subst, arith, append-nil, if◌then◌else◌}
use Rattle.std.specs.List.{AllZip}
use Rattle.spv_module.specs.declared.inst.Function.{Function}
use Rattle.structure_rules.specs.declared.graph.Node.{Node}
use Rattle.structure_rules.specs.declared.graph.Part.TheVariants.{Loop}
use Rattle.structure_rules.specs.Graph.{graph, nth, is_switch}
use Rattle.structure_recover.specs.Tree.{Region}
use Rattle.structure_recover.specs.Follows.{heads_loop, continue_block, switch_targets, first, IsTree}
use Rattle.structure_recover.specs.Once.{Around, within, round, around, stands, StandsOnce}
use Rattle.glsl_ast.specs.Tree.{Text, Stmt, stmts_in}
use Rattle.control_text.specs.declared.place.Place.{Place}
use Rattle.control_text.specs.Statements.{Blocks, function_text}
use Rattle.list_law.proofs.Numbers.{number_itself}
use Rattle.region_law.specs.Leads.{In, AreApart}
use Rattle.claim_law.specs.Blocks.{IsWhole}
use Rattle.text_rules.specs.Constants.{Source}
use Rattle.text_law.specs.Deeds.{Deed}
use Rattle.text_law.specs.Walks.{Outer, walk}
use Rattle.text_law.specs.Pairs.{Act, repeats, exit_acts, with_round, Pair, does, is_done, sites, is_of, Naming, IsPlaced}
use Rattle.text_law.specs.Quiet.{AreQuiet, AreSeen, AreFlags}
use Rattle.text_law.specs.Paired.{region_pairs}
use Rattle.text_law.specs.Shape.{acts_at, statements_of, IsShaped}
use Rattle.text_law.proofs.Shape.Walked.{walk-both, region-walked}
use Rattle.text_law.proofs.Shape.Sited.{region_sites, region-sited}
use Rattle.text_law.proofs.Shape.Together.{one_if, count, region-together}
use Rattle.text_law.proofs.Shape.Placed.{NotBody, behind, whole_of, told_of, region-held}
use Rattle.text_law.proofs.Shape.Guarded.{region-keeps}

first-off : (g : List Node) → NotBody (first g)
first-off [] = tt
first-off (n ∷ g) = tt

abbrev outside : Place
outside = record { in_loop = None; continues = false; in_switch = false }

module _ (s : Source) (found : Naming) (o : Outer) (f : Function) (w : Blocks) (r : Region) (top : List Stmt) (seen : ℕ → List (List Deed)) (IsHere : ℕ → Type 0) (Chooses : ℕ → Type 0) (Leads : ℕ → ℕ → Type 0)
    (tree : IsTree f r) (once : StandsOnce (graph f) r) (whole : IsWhole w IsHere Chooses Leads r)
    (are : AreSeen o w seen IsHere Chooses Leads) (quiet : AreQuiet o top)
    (done : (h : ℕ) → IsHere h → AllZip (λ (a : Act) (ds : List Deed). is_done o a (does h ds) ≡ true) (acts_at s f h) (seen h))
    (again : (h c : ℕ) → IsHere h → continue_block (graph f) h ≡ Some c → (x : Text) × (w.again h ≡ Some x))
    (flags : AreFlags found w)
    (orders : (h : ℕ) → IsHere h → is_switch (nth (graph f) h).exit ≡ true → AreApart (switch_targets (graph f) h) × ((t : ℕ) → In t (switch_targets (graph f) h) → In t (w.order h))) where
  abbrev g : List Node
  g = graph f

  abbrev pairs : List Pair
  pairs = region_pairs w seen outside r []

  module _ (b : ℕ) where
    abbrev Told : List (ℕ × List Around) → List (Act × List Around)
    Told xs = told_of o found f g w seen (acts_at s f) IsHere Chooses Leads done again flags orders b xs

    abbrev Whole : ℕ → List Around → List (Act × List Around)
    Whole h ps = whole_of o found f g w seen (acts_at s f) IsHere Chooses Leads done again flags orders b h ps

    abbrev chosen : List (ℕ × List Around) → List (ℕ × List Around)
    chosen xs = filter (λ (x : ℕ × List Around). x.0 == b) xs

    told-chosen : (xs : List (ℕ × List Around)) → Told xs ≡ Told (chosen xs)
    told-chosen [] = refl
    told-chosen (x ∷ xs) = by_test (x.0 == b) refl (told-chosen xs)
      where
        by_test : (t : Bool) → (x.0 == b) ≡ t → Told xs ≡ Told (chosen xs) → (if t then Whole x.0 x.1 else []) ++ Told xs ≡ Told (if t then x ∷ chosen xs else chosen xs)
        by_test true on rest = ap (λ (l : List (Act × List Around)). Whole x.0 x.1 ++ l) rest ∙ ap (λ (t : Bool). (if t then Whole x.0 x.1 else []) ++ Told (chosen xs)) (sym on)
        by_test false off rest = rest

    count-chosen : (xs : List (ℕ × List Around)) → count b xs ≡ length (chosen xs)
    count-chosen [] = refl
    count-chosen (x ∷ xs) = by_test (x.0 == b) (count-chosen xs)
      where
        by_test : (t : Bool) → count b xs ≡ length (chosen xs) → one_if t + count b xs ≡ length (if t then x ∷ chosen xs else chosen xs)
        by_test true rest = omega (arith, rest)
        by_test false rest = omega (arith, rest)

    abbrev entry : ℕ × List Around
    entry = (b, around g b)

    whole-is : Whole b (around g b) ≡ statements_of s f g b
    whole-is = ap (λ (l : List (Act × List Around)). l ++ map (with_round (around g b)) (acts_at s f b ++ exit_acts (nth g b).exit)) (by_test (heads_loop g b))
      where
        by_test : (t : Bool) → (if t then with_round (behind (if t then within (Loop b) ∷ round g b else round g b)) repeats ∷ [] else []) ≡ (if t then with_round (round g b) repeats ∷ [] else [])
        by_test true = refl
        by_test false = refl

    told-is : (t : Bool) → Told (if t then entry ∷ [] else []) ≡ (if t then statements_of s f g b else [])
    told-is false = refl
    told-is true = by_test (b == b) (number_itself b)
      where
        by_test : (t : Bool) → t ≡ true → (if t then Whole b (around g b) else []) ++ [] ≡ statements_of s f g b
        by_test true on = append-nil (Whole b (around g b)) ∙ whole-is
        by_test false off = cc

    few : count b (stands [] r) ≤ 1
    few = let size = count-chosen (stands [] r) ∙ ap length (once b) in by_test (nth g b).reached size
      where
        by_test : (t : Bool) → count b (stands [] r) ≡ length (if t then entry ∷ [] else []) → count b (stands [] r) ≤ 1
        by_test true size = omega (arith, size)
        by_test false size = omega (arith, size)

    placed : AllZip (IsPlaced o found) (if (nth g b).reached then statements_of s f g b else []) (filter (is_of b) (sites [] pairs))
    placed =
        subst (λ l. AllZip (IsPlaced o found) l (filter (is_of b) (sites [] pairs))) (told-chosen (stands [] r) ∙ ap Told (once b) ∙ told-is (nth g b).reached)
        (subst (λ l. AllZip (IsPlaced o found) (Told (stands [] r)) (filter (is_of b) l)) (sym (region-sited w seen outside r [] [] ∙ append-nil (region_sites w seen outside r [])))
        (region-held o found f g w seen (acts_at s f) IsHere Chooses Leads done again flags orders b outside r (first g) [] [] (first-off g) tree whole few (refl, tt)))

  -- The law.
  pub is_shaped : IsShaped s found o f (stmts_in (top ++ function_text w r))
  is_shaped = record {
    pairs = pairs;
    walked = region-walked o w seen IsHere Chooses Leads are outside r whole [] ∙ sym (walk-both o top (function_text w r) [] ∙ quiet (walk o (stmts_in (function_text w r)) []));
    guards = region-keeps found w seen flags outside r [] tt;
    statements = placed;
    together = λ b. region-together b w seen outside r (few b);
  }
