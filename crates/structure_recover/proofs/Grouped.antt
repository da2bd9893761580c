-- Items and groups, one after another.
use Rattle.std.proofs.Common.{◌≡◌, ◌≤◌, ◌<◌, ℕ, List, [], ◌∷◌, ◌++◌, map, length, get_or, refl, ap, sym, arith, true, ◌∙◌, subst}
use Rattle.std.proofs.lemmas.List.{map-append, map-id}
use Rattle.structure_rules.specs.Graph.{nth, is_switch}
use Rattle.spv_module.specs.declared.inst.Function.{Function}
use Rattle.structure_rules.specs.declared.graph.Node.{Node}
use Rattle.structure_recover.specs.declared.arms.Arm.{Arm}
use Rattle.structure_recover.specs.declared.edges.Start.{Start}
use Rattle.structure_recover.specs.declared.edges.Start.TheVariants.{Block, Body}
use Rattle.structure_recover.specs.declared.edges.Next.{Next}
use Rattle.structure_recover.specs.declared.edges.Next.TheVariants.{At, Stop}
use Rattle.structure_recover.specs.Tree as tree
use Rattle.structure_recover.specs.Tree.{Region, ends, item, Item, Groups, none, group, targets, before}
use Rattle.structure_recover.specs.View.{GroupView, groups_of, group_of, item_of}
use Rattle.structure_recover.specs.declared.region.Group.{Group}
use Rattle.structure_recover.specs.declared.region.Item.{Item as CodeItem}
use Rattle.structure_recover.specs.Arms.{IsArm, AreArms}
use Rattle.structure_recover.specs.Later.{block_of, IsReached, IsLater, rank}
use Rattle.nest_place.proofs.Outward.{reached_inside}
use Rattle.structure_recover.specs.Follows.{Carries, StandsAt, IsBehind, Follows, FollowsItem, FollowsGroups, labels_to, cases, is_default}

pub before_more : (is : List Item) (i : Item) (r : Region) → before (is ++ i ∷ []) r ≡ before is (item i r)
before_more [] i r = refl
before_more (x ∷ is) i r = ap (item x) (before_more is i r)

pub targets_more : (gs : List GroupView) (x : GroupView) → targets (groups_of (gs ++ x ∷ [])) ≡ targets (groups_of gs) ++ x.0 ∷ []
targets_more [] x = refl
targets_more (y ∷ gs) x = ap (λ ts. y.0 ∷ ts) (targets_more gs x)

abbrev pub FollowsGroup : Function → List Node → ℕ → GroupView → Type 0
FollowsGroup f g h x = (x.1 ≡ labels_to (cases f g h) x.0) × (x.2 ≡ is_default g h x.0) × ((n : Next) × Carries g h x.0 n × Follows f g x.3 n)

pub groups_more : (f : Function) (g : List Node) (h : ℕ) (gs : List GroupView) (x : GroupView) → FollowsGroups f g (groups_of gs) h → FollowsGroup f g h x → FollowsGroups f g (groups_of (gs ++ x ∷ [])) h
groups_more f g h [] x all one = (one.0, one.1, one.2, tt)
groups_more f g h (y ∷ gs) x all one = (all.0, all.1, all.2, groups_more f g h gs x all.3 one)

pub mapped_more : {A B : Type 0} (v : A → B) (olds news : List A) (x : A) → news ≡ olds ++ x ∷ [] → map v news ≡ map v olds ++ v x ∷ []
mapped_more v olds news x e = ap (map v) e ∙ map-append v olds (x ∷ [])

-- a region goes on behind one more item
pub goes_on : (f : Function) (g : List Node) (olds news : List CodeItem) (i : CodeItem) (s : Start) (next n from : Next) → next ≡ At s → news ≡ olds ++ i ∷ []
    → StandsAt g (item_of i) s → FollowsItem f g (item_of i) → IsBehind f g s n
    → ((r : Region) → Follows f g r next → Follows f g (before (map item_of olds) r) from) → (r : Region) → Follows f g r n → Follows f g (before (map item_of news) r) from
goes_on f g olds news i s next n from at more stands follows behind all r rest =
    let one : Follows f g (item (item_of i) r) (At s) = (stands, follows, (n, behind, rest)) in
    let whole = all (item (item_of i) r) (subst (Follows f g (item (item_of i) r)) (sym at) one) in
    subst (λ q. Follows f g q from) (sym (ap (λ is. before is r) (mapped_more item_of olds news i more) ∙ before_more (map item_of olds) (item_of i) r)) whole

pub later_reached : (g : List Node) (b : ℕ) (n : Next) → IsLater g b n → IsReached g n
later_reached g b (At (Block t)) is = is.1
later_reached g b (At (Body h)) is = absurd is
later_reached g b (Stop e) is = tt

pub later_less : (g : List Node) (s : Start) (n : Next) → IsReached g (At s) → IsLater g (block_of s) n → rank (length g) n ≤ rank (length g) (At s)
later_less g (Block b) (At (Block t)) here is = let less : b < t = is.0 in omega (arith, less)
later_less g (Block b) (At (Body t)) here is = absurd is
later_less g (Block b) (Stop e) here is = omega arith
later_less g (Body b) (At (Block t)) here is = let less : b < t = is.0 in let low = reached_inside g t is.1 in omega (arith, less, low)
later_less g (Body b) (At (Body t)) here is = absurd is
later_less g (Body b) (Stop e) here is = omega arith

pub arm_is : (f : Function) (g : List Node) (h k : ℕ) (arms : List Arm) (a : Arm) → AreArms f g h arms → (k < length arms) × (a ≡ get_or arms k a) → IsArm f g h a
arm_is f g h k arms a all at = subst (IsArm f g h) (sym at.1) (all.each k a at.0)

-- one more group
pub grouped : (f : Function) (g : List Node) (h : ℕ) (olds news : List Group) (x : Group) (arms : List Arm) (a : Arm) (r : Region) (n : Next)
    → news ≡ olds ++ x ∷ [] → group_of x ≡ (a.target, a.labels.items, a.default, r) → IsArm f g h a → Carries g h a.target n → Follows f g r n
    → targets (groups_of (map group_of olds)) ≡ map (λ (q : Arm). q.target) arms → FollowsGroups f g (groups_of (map group_of olds)) h
    → (targets (groups_of (map group_of news)) ≡ map (λ (q : Arm). q.target) (arms ++ a ∷ [])) × FollowsGroups f g (groups_of (map group_of news)) h
grouped f g h olds news x arms a r n more is arm carries follows ts all =
    let same : map group_of news ≡ map group_of olds ++ (a.target, a.labels.items, a.default, r) ∷ [] = mapped_more group_of olds news x more ∙ ap (λ q. map group_of olds ++ q ∷ []) is in (
      ap (λ gs. targets (groups_of gs)) same ∙ (targets_more (map group_of olds) (a.target, a.labels.items, a.default, r) ∙ (ap (λ q. q ++ a.target ∷ []) ts ∙ sym (map-append (λ (q : Arm). q.target) arms (a ∷ [])))),
      subst (λ gs. FollowsGroups f g (groups_of gs) h) (sym same) (groups_more f g h (map group_of olds) (a.target, a.labels.items, a.default, r) all (arm.labels, arm.default, (n, carries, follows))),
    )

-- all groups
pub all_grouped : (f : Function) (g : List Node) (h : ℕ) (groups : List Group) (yielded arms : List Arm) → is_switch (nth g h).exit ≡ true → AreArms f g h arms → map (λ y. y) yielded ≡ arms
    → targets (groups_of (map group_of groups)) ≡ map (λ (q : Arm). q.target) yielded → FollowsGroups f g (groups_of (map group_of groups)) h → FollowsItem f g (tree.switch h (groups_of (map group_of groups)))
all_grouped f g h groups yielded arms is all done ts follows =
    (is, ts ∙ (ap (map (λ (q : Arm). q.target)) (sym (map-id yielded) ∙ done) ∙ all.targets), follows)
