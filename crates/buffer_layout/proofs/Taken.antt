-- The layout that a block takes.
use Rattle.std.proofs.Common.{◌≡◌, ℕ, Bool, true, false, List, [], ◌∷◌, Option, Some, None, find, refl, sym, ◌∙◌, if◌then◌else◌}
use Rattle.std.specs.Prelude.{IsSomeAnd}
use Rattle.std.specs.Option.{option_map_or}
use Rattle.std.specs.List.{list_any}
use Rattle.list_law.proofs.Tests.{or_left, or_right}
use Rattle.list_law.proofs.Lists.{found_passes}
use Rattle.spv_words.specs.declared.rule.Rule.{Rule}
use Rattle.spv_words.specs.declared.rule.Rule.TheVariants.{L1, L2, L3, L4, L5, L6, L7}
use Rattle.spv_words.specs.declared.rule.Fault.{Fault}
use Rattle.spv_words.specs.declared.rule.Fault.TheVariants.{Refused, Limit, Memory}
use Rattle.spv_module.specs.Held.{global}
use Rattle.spv_module.specs.declared.inst.Inst.{Inst}
use Rattle.spv_types.specs.Tree.{Tree, boolean, int, uint, vector, array, runtime, struct}
use Rattle.spv_types.specs.Types.{IsRight as IsRightType}
use Rattle.layout_rules.specs.declared.Kind.{Kind}
use Rattle.layout_rules.specs.Parts.{part_id, any_part, any_member}
use Rattle.layout_rules.specs.Rules.{is_past, breaks, ends_past}
use Rattle.layout_rules.specs.Blocks.{Member, end_of, breaks_inside, member_breaks, members_break, block_rules, type_rules, first_broken, block_of, IsLimit, IsRightAt, IsBrokenBy, BreaksAt}
use Rattle.buffer_layout.specs.declared.plan.BlockPlan.{BlockPlan}
use Rattle.buffer_layout.specs.Plan.{is_too_large, AllFit, IsPlanAt, IsPlanOf, IsUnbroken}
use Rattle.buffer_layout.proofs.Rows.{some_limit}

pub broken_passes : (heads gs : List Inst) (kind : Kind) (ms : List Member) (rule : Rule) → first_broken heads gs kind ms ≡ Some rule → members_break heads gs kind ms rule ≡ true
broken_passes heads gs kind ms rule found = found_passes (members_break heads gs kind ms) block_rules rule found

none_by_test : {A : Type 0} (p : A → Bool) (x : A) (o : Option A) (b : Bool) → p x ≡ b → (if b then Some x else o) ≡ None → (p x ≡ false) × (o ≡ None)
none_by_test p x o true e none = cc
none_by_test p x o false e none = (e, none)

-- where nothing is found, the first does not pass, and nothing is found behind it
none_next : {A : Type 0} (p : A → Bool) (x : A) (xs : List A) → find p (x ∷ xs) ≡ None → (p x ≡ false) × (find p xs ≡ None)
none_next p x xs none = none_by_test p x (find p xs) (p x) refl none

last_unbroken : (p : Rule → Bool) → find p block_rules ≡ None → p L7 ≡ false
last_unbroken p none =
    (none_next p L7 []
    (none_next p L6 (L7 ∷ [])
    (none_next p L5 (L6 ∷ L7 ∷ [])
    (none_next p L4 (L5 ∷ L6 ∷ L7 ∷ [])
    (none_next p L3 (L4 ∷ L5 ∷ L6 ∷ L7 ∷ [])
    (none_next p L2 (L3 ∷ L4 ∷ L5 ∷ L6 ∷ L7 ∷ [])
    (none_next p L1 (L2 ∷ L3 ∷ L4 ∷ L5 ∷ L6 ∷ L7 ∷ []) none).1).1).1).1).1).1).0

-- what no part passes, the type does not
itself : (test : ℕ → Tree → Bool) (gs : List Inst) (id : ℕ) (t : Tree) → any_part test gs id t ≡ false → test id t ≡ false
itself test gs id boolean e = e
itself test gs id int e = e
itself test gs id uint e = e
itself test gs id (vector x n) e = e
itself test gs id (array t l) e = or_left (test id (array t l)) (any_part test gs (part_id gs id 0) t) e
itself test gs id (runtime t) e = or_left (test id (runtime t)) (any_part test gs (part_id gs id 0) t) e
itself test gs id (struct s ts) e = or_left (test id (struct s ts)) (any_member test gs id 0 ts) e

end_breaks : (heads : List Inst) (kind : Kind) (id : ℕ) (t : Tree) → breaks heads kind L7 id t ≡ ends_past kind t
unfolding breaks
end_breaks heads kind id t = refl

shape_fits : (heads gs : List Inst) (kind : Kind) (id : ℕ) (o : Option Tree) → option_map_or (any_part (breaks heads kind L7) gs id) o false ≡ false → option_map_or (ends_past kind) o false ≡ false
shape_fits heads gs kind id None e = refl
shape_fits heads gs kind id (Some t) e = sym (end_breaks heads kind id t) ∙ itself (breaks heads kind L7) gs id t e

member_fits : (heads gs : List Inst) (kind : Kind) (m : Member) → member_breaks heads gs kind L7 m ≡ false → is_too_large kind m ≡ false
unfolding member_breaks
member_fits heads gs kind m e = shape_fits heads gs kind m.id m.shape (or_right (is_past (end_of kind m)) (breaks_inside heads gs kind L7 m) e)

all_fit : (heads gs : List Inst) (kind : Kind) (ms : List Member) → list_any (member_breaks heads gs kind L7) ms ≡ false → AllFit kind ms
all_fit heads gs kind [] e = refl
all_fit heads gs kind (m ∷ ms) e =
    let here : is_too_large kind m ≡ false = member_fits heads gs kind m (or_left (member_breaks heads gs kind L7 m) (list_any (member_breaks heads gs kind L7) ms) e) in
    rw here (all_fit heads gs kind ms (or_right (member_breaks heads gs kind L7 m) (list_any (member_breaks heads gs kind L7) ms) e))

last_rule : (heads gs : List Inst) (kind : Kind) (ms : List Member) → members_break heads gs kind ms L7 ≡ list_any (member_breaks heads gs kind L7) ms
unfolding members_break
last_rule heads gs kind ms = refl

-- where a block breaks no rule, no end is past the last byte
pub fit_unbroken : (heads gs : List Inst) (kind : Kind) (ms : List Member) → first_broken heads gs kind ms ≡ None → AllFit kind ms
fit_unbroken heads gs kind ms none = all_fit heads gs kind ms (sym (last_rule heads gs kind ms) ∙ last_unbroken (members_break heads gs kind ms) none)

limit_at : (heads gs : List Inst) (v block : Inst) (fault : Fault) → IsLimit gs fault → IsRightAt heads gs v block fault
limit_at heads gs v block (Refused r) h = absurd h
limit_at heads gs v block (Limit l) h = h
limit_at heads gs v block Memory h = tt

pub type_limit_at : (heads gs : List Inst) (v block : Inst) (id : ℕ) (fault : Fault) → IsRightType gs id fault → IsRightAt heads gs v block fault
type_limit_at heads gs v block id fault h = limit_at heads gs v block fault (some_limit gs id fault h)

with_plan : (heads gs : List Inst) (v : Inst) (plan : BlockPlan) (o : Option Inst) → IsSomeAnd o (λ block. IsPlanAt heads gs v block plan) → (rule : Rule) → IsSomeAnd o (λ block. IsBrokenBy heads gs v block rule) → ⊥
with_plan heads gs v plan None h rule b = b
with_plan heads gs v plan (Some block) h rule b = (let same : None ≡ Some plan.kind = sym b.0 ∙ h.0 in cc)

unbroken_by : (heads gs : List Inst) (plan : BlockPlan) (o : Option Inst) → IsSomeAnd o (λ v. IsSomeAnd (block_of gs v) (λ block. IsPlanAt heads gs v block plan)) → IsSomeAnd o (λ v. (rule : Rule) → BreaksAt heads gs v rule → ⊥)
unbroken_by heads gs plan None h = h
unbroken_by heads gs plan (Some v) h = λ rule b. with_plan heads gs v plan (block_of gs v) h rule b

-- a variable that has a plan breaks no rule
pub unbroken : (heads gs : List Inst) (id : ℕ) (plan : BlockPlan) → IsPlanOf heads gs id plan → IsUnbroken heads gs id
unbroken heads gs id plan h = unbroken_by heads gs plan (global gs id) h

pub type_fits : (heads gs : List Inst) (kind : Kind) (id : ℕ) (t : Tree) → find (λ rule. any_part (breaks heads kind rule) gs id t) type_rules ≡ None → ends_past kind t ≡ false
type_fits heads gs kind id t none =
    let p : Rule → Bool = λ rule. any_part (breaks heads kind rule) gs id t in
    let last : p L7 ≡ false = (none_next p L7 [] (none_next p L3 (L7 ∷ []) (none_next p L2 (L3 ∷ L7 ∷ []) none).1).1).0 in
    sym (end_breaks heads kind id t) ∙ itself (breaks heads kind L7) gs id t last

pub ruleset found_rules = (broken_passes)

pub ruleset plan_rules = (fit_unbroken, type_limit_at)
