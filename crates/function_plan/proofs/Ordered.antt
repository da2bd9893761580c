-- The orders of the targets of switches, one after another.
use Rattle.std.proofs.Common.{◌≡◌, ◌<◌, ◌≤◌, ◌+◌, ℕ, Bool, true, false, not, List, [], ◌∷◌, ◌++◌, Some, None, cond, get_or, length, map, take, refl, sym, ◌∙◌, ap, inl, inr, arith}
use Rattle.std.specs.Prelude.{if◌then◌else◌}
use Rattle.std.specs.List.{concat, flat_map}
use Rattle.std.specs.BTreeMap.{BTreeMap, get, is_at}
use Rattle.std.specs.Ordering.{nat_cmp}
use Rattle.std.specs.declared.vec.Vec.{Vec}
use Rattle.std.specs.declared.alloc.Global.{Global}
use Rattle.std.proofs.lemmas.List.{append_assoc, get_or_past}
use Rattle.std.proofs.lemmas.List.Elements.{filter_more}
use Rattle.std.proofs.lemmas.Bool.{cases_lt}
use Rattle.std.proofs.lemmas.Bool.Decides.{eqb_tells}
use Rattle.list_law.proofs.Numbers.{order_at}
use Rattle.structure_rules.specs.declared.graph.Node.{Node}
use Rattle.structure_rules.specs.Graph.{no_node, nth}
use Rattle.switch_ladder.specs.Ladder.{items_of}
use Rattle.function_plan.specs.Moved.{items_at}
use Rattle.function_plan.specs.Orders.{others_of, is_reached_switch, order_of, order_by}
use Rattle.function_plan.specs.Planned.{order_in, AreOrdersBelow}

abbrev pub Orders : Type 0
Orders = BTreeMap ℕ (Vec ℕ Global)

pub joined : (cs : List (Vec ℕ Global)) → flat_map items_of cs ≡ concat (map items_of cs)
joined [] = refl
joined (c ∷ cs) = ap (λ xs. c.items ++ xs) (joined cs)

-- one target more
pub other_more : (set : ℕ → Bool) (ts : List ℕ) (i : ℕ) (passes : Bool) (start old new : List ℕ) → i < length ts → passes ≡ not (set (get_or ts i 0)) → new ≡ old ++ (if passes then get_or ts i 0 ∷ [] else [])
    → old ≡ start ++ others_of set (take i ts) → new ≡ start ++ others_of set (take (i + 1) ts)
other_more set ts i passes start old new less is more e =
    let t = get_or ts i 0 in
    let one : Bool → List ℕ = λ b. if b then t ∷ [] else [] in
    let before = others_of set (take i ts) in
    more
    ∙ (ap (λ q. q ++ one passes) e
    ∙ (append_assoc start before (one passes)
    ∙ ap (λ q. start ++ q) (ap (λ b. before ++ one b) is ∙ sym (filter_more (λ x. not (set x)) ts i 0 less))))

-- at first there are none
pub orders_none : (g : List Node) (orders : Orders) → ((h : ℕ) → get nat_cmp orders h ≡ None) → AreOrdersBelow g 0 orders
orders_none g orders empty = record {
  below = λ h less. absurd (omega (arith, less));
  past = λ h beyond. ap items_at (empty h);
}

-- a block that is no switch, or is not reached
pub orders_skip : (g : List Node) (n : ℕ) (orders : Orders) → is_reached_switch (nth g n) ≡ false → AreOrdersBelow g n orders → AreOrdersBelow g (n + 1) orders
orders_skip g n orders other are = record {
  below = λ h less. elim (eqb_tells h n) [
    | inl w ↦
        let none : order_by g n ≡ [] = ap (λ b. if b then order_of g n else []) other in
        are.past h (omega (arith, w.1)) ∙ sym (ap (order_by g) w.1 ∙ none)
    | inr w ↦ are.below h (omega (arith, less, w.1))
  ];
  past = λ h beyond. are.past h (omega (arith, beyond));
}

-- a switch that is reached
pub orders_put : (g : List Node) (n : ℕ) (old new : Orders) (order : Vec ℕ Global) → is_reached_switch (nth g n) ≡ true → order.items ≡ order_of g n → ((h : ℕ) → get nat_cmp new h ≡ cond (is_at (nat_cmp n) h) (Some order) (get nat_cmp old h)) → AreOrdersBelow g n old → AreOrdersBelow g (n + 1) new
orders_put g n old new order switch is put are = record {
  below = λ h less. elim (eqb_tells n h) [
    | inl w ↦
        let own : order_by g n ≡ order_of g n = ap (λ b. if b then order_of g n else []) switch in
        ap items_at (put h ∙ ap (λ y. cond y (Some order) (get nat_cmp old h)) (order_at n h ∙ w.0))
        ∙ (is ∙ (sym own ∙ ap (order_by g) w.1))
    | inr w ↦
        ap items_at (put h ∙ ap (λ y. cond y (Some order) (get nat_cmp old h)) (order_at n h ∙ w.0))
        ∙ are.below h (omega (arith, less, w.1))
  ];
  past = λ h beyond. elim (eqb_tells n h) [
    | inl w ↦ absurd (omega (arith, beyond, w.1))
    | inr w ↦
        ap items_at (put h ∙ ap (λ y. cond y (Some order) (get nat_cmp old h)) (order_at n h ∙ w.0))
        ∙ are.past h (omega (arith, beyond))
  ];
}

no_order : (g : List Node) (h : ℕ) → length g ≤ h → order_by g h ≡ []
no_order g h past = ap (λ (n : Node). if is_reached_switch n then order_of g h else []) (get_or_past g h no_node past)

-- all
pub ordered : (g : List Node) (n : ℕ) (orders : Orders) → length g ≤ n → AreOrdersBelow g n orders → (h : ℕ) → order_in orders h ≡ order_by g h
ordered g n orders all are = λ h. elim (cases_lt h n) [
  | inl less ↦ are.below h less
  | inr beyond ↦ are.past h beyond ∙ sym (no_order g h (omega (arith, all, beyond)))
]

pub ruleset order_rules = (orders_none)
