-- The structs of the members of a shape, and of types that come again.
use Rattle.std.proofs.Common.{◌≡◌, ◌==◌, ◌||◌, ℕ, ◌+◌, ◌<◌, ◌≤◌, Bool, true, false, List, refl, sym, ap, ◌∙◌, ⊎_elim, drop, length, get_or, Vec, Global}
use Rattle.id_map.specs.Entries.{is_in}
use Rattle.id_map.specs.declared.set.IdSet.{IdSet}
use Rattle.std.proofs.lemmas.Bool.{eqb-true, or_cases, both_ways}
use Rattle.std.proofs.lemmas.List.{drop_more}
use Rattle.std.proofs.Math.ListN.{drop_of_length-le}
use Rattle.std.proofs.Math.Bool.{or_assoc, or-true}
use Rattle.spv_module.specs.declared.inst.Inst.{Inst}
use Rattle.spv_module.specs.declared.inst.Id.{Id}
use Rattle.spv_module.specs.declared.tree.Shape.{Shape}
use Rattle.spv_module.specs.declared.tree.Shape.TheVariants.{Struct}
use Rattle.spv_types.specs.Tree.{Tree}
use Rattle.spv_types.specs.View.{tree_of, trees_of}
use Rattle.text_rules.specs.Printed.{has_struct, have_struct, type_has_struct}
use Rattle.spv_types.proofs.Views.{shape-Struct}
use Rattle.text_items.specs.State.{HasThose}

pub have_more : (id : ℕ) (l : List Shape) (i : ℕ) (d : Shape) → i < length l → have_struct id (trees_of (drop i l)) ≡ (has_struct id (tree_of (get_or l i d)) || have_struct id (trees_of (drop (i + 1) l)))
have_more id l i d inside = ap (λ (m : List Shape). have_struct id (trees_of m)) (drop_more l i d inside)

pub have_end : (id : ℕ) (l : List Shape) (i : ℕ) → length l ≤ i → have_struct id (trees_of (drop i l)) ≡ false
have_end id l i past = ap (λ (m : List Shape). have_struct id (trees_of m)) (drop_of_length-le l past)

pub ruleset have_rules = (have_more, have_end)

-- a set with the structs of one member, against those from the next on
pub have_step : (id : ℕ) (l : List Shape) (i : ℕ) (d : Shape) (new old all : Bool) → i < length l → new ≡ (old || has_struct id (tree_of (get_or l i d))) → (old || have_struct id (trees_of (drop i l))) ≡ all → (new || have_struct id (trees_of (drop (i + 1) l))) ≡ all
have_step id l i d new old all inside is so =
    ap (λ (b : Bool). b || have_struct id (trees_of (drop (i + 1) l))) is
    ∙ (or_assoc old (has_struct id (tree_of (get_or l i d))) (have_struct id (trees_of (drop (i + 1) l)))
    ∙ (ap (λ (b : Bool). old || b) (sym (have_more id l i d inside)) ∙ so))

-- a set with a struct, and then with those of its members
pub struct_step : (id : ℕ) (shape : Shape) (of : Id) (members : Vec Shape Global) (new marked old : Bool) → shape ≡ Struct of members → marked ≡ (old || (of.0 == id)) → new ≡ (marked || have_struct id (trees_of members.items)) → new ≡ (old || has_struct id (tree_of shape))
struct_step id shape of members new marked old is marks adds =
    adds ∙ (ap (λ (b : Bool). b || have_struct id (trees_of members.items)) marks
    ∙ (or_assoc old (of.0 == id) (have_struct id (trees_of members.items))
    ∙ ap (λ (t : Tree). old || has_struct id t) (sym (ap tree_of is ∙ shape-Struct of members))))

or_false : (b : Bool) → (b || false) ≡ b
or_false true = refl
or_false false = refl

-- what is found stays so
again : (found here : Bool) → (here ≡ true → found ≡ true) → found ≡ (found || here)
again found true known = known refl ∙ sym (or-true found)
again found false known = sym (or_false found)

-- a type that comes again adds nothing
pub gone_again : (gs : List Inst) (seen found : IdSet) (ty id : ℕ) → HasThose gs seen found → is_in seen ty ≡ true → is_in found id ≡ (is_in found id || type_has_struct gs id ty)
gone_again gs seen found ty id those h = again (is_in found id) (type_has_struct gs id ty) (those.each ty id h)

pub gone_more : (gs : List Inst) (seen found more all : IdSet) (ty : ℕ) → HasThose gs seen found
    → ((t : ℕ) → is_in more t ≡ (is_in seen t || (ty == t)))
    → ((id : ℕ) → is_in all id ≡ (is_in found id || type_has_struct gs id ty))
    → HasThose gs more all
gone_more gs seen found more all ty those marks adds = record {
  each = λ t id h has.
      adds id ∙
      ⊎_elim
      (λ old. ap (λ (b : Bool). b || type_has_struct gs id ty) (those.each t id old has))
      (λ new. ap (λ (b : Bool). is_in found id || b) (ap (type_has_struct gs id) (eqb-true ty t new) ∙ has) ∙ or-true (is_in found id))
      (or_cases (is_in seen t) (ty == t) (sym (marks t) ∙ h));
}

pub none_gone : (gs : List Inst) (seen found : IdSet) → ((t : ℕ) → is_in seen t ≡ false) → HasThose gs seen found
none_gone gs seen found none = record { each = λ t id h has. absurd (both_ways (is_in seen t) (none t) h) }
