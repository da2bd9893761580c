-- What is known where the rules were checked one after another.
use Rattle.std.proofs.Common.{◌≡◌, ◌<◌, ◌==◌, ℕ, Bool, true, false, List, [], ◌∷◌, ◌++◌, length, refl, ap, sym, ◌∙◌, subst, arith, Result, Ok, Err, OnOk, IfErr}
use Rattle.spv_words.specs.declared.rule.Rule.{Rule}
use Rattle.spv_words.specs.declared.rule.Rule.TheVariants.{K1, K2, K3, K4, K5, K6, K7, K8, K9, K10, K11}
use Rattle.spv_words.specs.declared.rule.Fault.{Fault}
use Rattle.spv_words.specs.declared.rule.Fault.TheVariants.{Refused, Limit, Memory}
use Rattle.spv_words.specs.Breaks.{NoRuleBroken}
use Rattle.structure_rules.specs.declared.graph.Node.{Node}
use Rattle.structure_rules.specs.Structure.{BrokenIn, IsRightIn, earlier_structure, IsTooDeep, structure_rules}
use Rattle.nest_place.specs.Checks.{IsUnbroken, IsBroken, IsFineBefore}
use Rattle.nest_place.specs.Spots.{IsDeepFault, IsGrounded, IsShallow}
use Rattle.std.specs.List.{list_any, list_all}
use Rattle.std.proofs.lemmas.List.Folds.{list_all_at}
use Rattle.structure_rules.specs.Graph.{nth, leads_to}
use Rattle.structure_rules.specs.Nesting.{name_links}
use Rattle.structure_rules.specs.EdgeKinds.{has_some_kind}
use Rattle.block_graph.specs.Within.{AreWithin, AreReached}
use Rattle.nest_place.specs.Links.{IsSingle}
use Rattle.nest_place.specs.Steps.{IsFormed}
use Rattle.nest_place.specs.Nests.{IsSound}
use Rattle.nest_place.proofs.Each.{member_at}
use Rattle.nest_place.proofs.Outward.{reached_inside, grounded}

-- one rule more
none_more : (broken : Rule → ℕ → Type 0) (rules : List Rule) (rule : Rule) → NoRuleBroken broken rules → ((at : ℕ) → broken rule at → ⊥) → NoRuleBroken broken (rules ++ rule ∷ [])
none_more broken [] rule none fine = (fine, tt)
none_more broken (r ∷ rules) rule none fine = (none.0, none_more broken rules rule none.1 fine)

pub fine_1 : (g : List Node) → IsFineBefore g K1
fine_1 g = record { none = tt }

pub fine_2 : (g : List Node) → IsFineBefore g K1 → IsUnbroken g K1 → IsFineBefore g K2
fine_2 g before fine = record { none = none_more (BrokenIn g) (earlier_structure K1) K1 before.none fine }

pub fine_3 : (g : List Node) → IsFineBefore g K2 → IsUnbroken g K2 → IsFineBefore g K3
fine_3 g before fine = record { none = none_more (BrokenIn g) (earlier_structure K2) K2 before.none fine }

pub fine_4 : (g : List Node) → IsFineBefore g K3 → IsUnbroken g K3 → IsFineBefore g K4
fine_4 g before fine = record { none = none_more (BrokenIn g) (earlier_structure K3) K3 before.none fine }

pub fine_5 : (g : List Node) → IsFineBefore g K4 → IsUnbroken g K4 → IsFineBefore g K5
fine_5 g before fine = record { none = none_more (BrokenIn g) (earlier_structure K4) K4 before.none fine }

pub fine_6 : (g : List Node) → IsFineBefore g K5 → IsUnbroken g K5 → IsFineBefore g K6
fine_6 g before fine = record { none = none_more (BrokenIn g) (earlier_structure K5) K5 before.none fine }

pub fine_7 : (g : List Node) → IsFineBefore g K6 → IsUnbroken g K6 → IsFineBefore g K7
fine_7 g before fine = record { none = none_more (BrokenIn g) (earlier_structure K6) K6 before.none fine }

pub fine_8 : (g : List Node) → IsFineBefore g K7 → IsUnbroken g K7 → IsFineBefore g K8
fine_8 g before fine = record { none = none_more (BrokenIn g) (earlier_structure K7) K7 before.none fine }

pub fine_9 : (g : List Node) → IsFineBefore g K8 → IsUnbroken g K8 → IsFineBefore g K9
fine_9 g before fine = record { none = none_more (BrokenIn g) (earlier_structure K8) K8 before.none fine }

pub fine_10 : (g : List Node) → IsFineBefore g K9 → IsUnbroken g K9 → IsFineBefore g K10
fine_10 g before fine = record { none = none_more (BrokenIn g) (earlier_structure K9) K9 before.none fine }

pub fine_11 : (g : List Node) → IsFineBefore g K10 → IsUnbroken g K10 → IsFineBefore g K11
fine_11 g before fine = record { none = none_more (BrokenIn g) (earlier_structure K10) K10 before.none fine }

-- and so a rule that is broken is considered
pub right_after : (g : List Node) (rule : Rule) (fault : Fault) → IsFineBefore g rule → IsBroken g rule fault → IsRightIn g fault
right_after g rule (Refused r) before broken = (subst (λ q. NoRuleBroken (BrokenIn g) (earlier_structure q)) (sym broken.0) before.none, subst (λ q. BrokenIn g q r.at) (sym broken.0) broken.1)
right_after g rule (Limit l) before broken = absurd broken
right_after g rule Memory before broken = tt

-- the rules that were checked so far, in their order
pub before_5 : (g h : List Node) → h ≡ g → IsUnbroken g K1 → IsUnbroken g K2 → IsUnbroken g K3 → IsUnbroken h K4 → IsFineBefore g K5
before_5 g h same one two three four = fine_5 g (fine_4 g (fine_3 g (fine_2 g (fine_1 g) one) two) three) (subst (λ q. IsUnbroken q K4) same four)

pub before_7 : (g h : List Node) → h ≡ g → IsFineBefore g K6 → IsUnbroken h K6 → IsFineBefore g K7
before_7 g h same before six = fine_7 g before (subst (λ q. IsUnbroken q K6) same six)

-- a block that is nested too deep, where the rules that give places are not broken
pub right_deep : (g : List Node) (fault : Fault) → IsFineBefore g K6 → IsDeepFault g fault → IsRightIn g fault
right_deep g (Refused r) before deep = absurd deep
right_deep g (Limit l) before deep = (deep.0, before.none, deep.1)
right_deep g Memory before deep = tt

pub all_fine : (g : List Node) → IsFineBefore g K11 → IsUnbroken g K11 → NoRuleBroken (BrokenIn g) structure_rules
all_fine g before fine = none_more (BrokenIn g) (earlier_structure K11) K11 before.none fine

pub formed : (g h : List Node) → h ≡ g → AreWithin g → AreReached g → IsUnbroken g K2 → IsSingle (name_links g) → IsFormed h
formed g h same within reached first single = subst IsFormed (sym same) (record { within = within; reached = reached; first = first; single = single })

pub not_deep : (g : List Node) → IsShallow g → IsTooDeep g → ⊥
not_deep g shallow deep = let inside : deep.0 < length g = deep.1 in let low = shallow deep.0 inside deep.2 in let high = deep.3 in absurd (omega (arith, low, high))

-- an edge of a reached block has a kind
pub edge_inside : (g : List Node) (b t : ℕ) → IsSound g → (nth g b).reached ≡ true → leads_to t (nth g b) ≡ true → t < length g
edge_inside g b t sound here edge = reached_inside g t (sound.reached b t here edge)

all_true : (p : ℕ → Bool) (ts : List ℕ) (t : ℕ) → list_any (λ x. x == t) ts ≡ true → p t ≡ false → list_all p ts ≡ false
all_true p ts t e off =
    let at = member_at ts t e in
    list_all_at p ts at.0 0 at.1 (ap p at.2 ∙ off)

pub edge_kind : (g : List Node) (b t : ℕ) → IsSound g → (nth g b).reached ≡ true → leads_to t (nth g b) ≡ true → has_some_kind g b t ≡ false → ⊥
edge_kind g b t sound here edge none =
    sound.fine.1.1.1.1.1.1.0 (nth g b).exit_at (b, reached_inside g b here, here, (all_true (has_some_kind g b) (nth g b).targets t edge none, refl))

-- the end of the last check, by its result
pub ends_fine : {A : Type 0} (g : List Node) (r : Result A Fault) → IsFineBefore g K11 → OnOk r (IsUnbroken g K11) → OnOk r (NoRuleBroken (BrokenIn g) structure_rules)
ends_fine g (Ok x) before fine = all_fine g before fine
ends_fine g (Err e) before fine = tt

pub ends_right : {A : Type 0} (g : List Node) (rule : Rule) (r : Result A Fault) → IsFineBefore g rule → IfErr r (IsBroken g rule) → IfErr r (IsRightIn g)
ends_right g rule (Ok x) before broken = tt
ends_right g rule (Err e) before broken = right_after g rule e before broken

pub ends_deep : {A : Type 0} (g : List Node) (r : Result A Fault) → IsFineBefore g K6 → IfErr r (IsDeepFault g) → IfErr r (IsRightIn g)
ends_deep g (Ok x) before deep = tt
ends_deep g (Err e) before deep = right_deep g e before deep

pub ends_with : {A : Type 0} {P : Type 0} (r : Result A Fault) → P → OnOk r P
ends_with (Ok x) p = p
ends_with (Err e) p = tt

-- where the rules that give places are not broken, parents are reached and stand before their blocks
pub fine_grounded : (g : List Node) → IsFineBefore g K6 → IsGrounded g
fine_grounded g before = grounded g before.none.1.1.1.1.0

pub ruleset nest_rules = (fine_grounded, ends_deep, ends_with)

pub ruleset place_rules = (not_deep)

pub ruleset kind_rules = (edge_inside, edge_kind, reached_inside)
