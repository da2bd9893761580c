-- The shapes of scalar and vector types.
use Rattle.std.proofs.Common.{◌≡◌, ◌<◌, ◌≤◌, ℕ, Bool, true, false, List, Option, Some, None, refl, ◌∙◌, option_map, option_and_then, nat_lt, if◌then◌else◌}
use Rattle.std.specs.Option.{option_map_or}
use Rattle.std.proofs.lemmas.Bool.{lt-ltb, le-ltb}
use Rattle.spv_module.specs.Held.{global}
use Rattle.spv_module.specs.declared.inst.Inst.{Inst}
use Rattle.spv_module.specs.declared.tree.Length.{Length}
use Rattle.spv_types.specs.Tree.{Tree, Trees, uint, runtime, struct}
use Rattle.spv_types.specs.Types.{elem_of, array_tree, vector_tree, sized_vector, tree_before, tree_at}
use Rattle.spv_types.proofs.Below.{tree_before_is}
use Rattle.text_rules.specs.Outlines.{basic_of}

elem_if : (gs : List Inst) (g : Inst) (b : Bool) → option_and_then elem_of (option_map_or (tree_at gs) (if b then Some g else None) None) ≡ (if b then option_and_then elem_of (tree_at gs g) else None)
elem_if gs g true = refl
elem_if gs g false = refl

part_by : (gs : List Inst) (n id : ℕ) (g : Inst) → global gs id ≡ Some g → option_and_then elem_of (tree_before gs n id) ≡ (if nat_lt g.at n then option_and_then elem_of (tree_at gs g) else None)
part_by gs n id g e = rw tree_before_is (rw e (elem_if gs g (nat_lt g.at n)))

-- the component type of a vector is that of the instruction with its id, where that stands before
pub part_before : (gs : List Inst) (n id : ℕ) (g : Inst) → global gs id ≡ Some g → g.at < n → option_and_then elem_of (tree_before gs n id) ≡ option_and_then elem_of (tree_at gs g)
part_before gs n id g e less =
    let test : nat_lt g.at n ≡ true = lt-ltb g.at n less in
    part_by gs n id g e ∙ (rw test refl)

pub part_behind : (gs : List Inst) (n id : ℕ) (g : Inst) → global gs id ≡ Some g → n ≤ g.at → option_and_then elem_of (tree_before gs n id) ≡ None
part_behind gs n id g e past =
    let test : nat_lt g.at n ≡ false = le-ltb g.at n past in
    part_by gs n id g e ∙ (rw test refl)

pub no_part : (gs : List Inst) (n id : ℕ) → global gs id ≡ None → option_and_then elem_of (tree_before gs n id) ≡ None
no_part gs n id e = rw tree_before_is (rw e refl)

pub ruleset part_rules = (part_before, part_behind, no_part)

pub vector_of_elem : (o : Option Tree) (n : ℕ) → vector_tree o n ≡ option_map_or (sized_vector n) (option_and_then elem_of o) None
vector_of_elem None n = refl
vector_of_elem (Some t) n = refl

pub ruleset vector_rules = (vector_of_elem)

pub array_is_other : (t : Option Tree) (l : Option Length) → basic_of (array_tree t l) ≡ uint
array_is_other None l = refl
array_is_other (Some t) None = refl
array_is_other (Some t) (Some l) = refl

pub runtime_is_other : (t : Option Tree) → basic_of (option_map runtime t) ≡ uint
runtime_is_other None = refl
runtime_is_other (Some t) = refl

pub struct_is_other : (id : ℕ) (ts : Option Trees) → basic_of (option_map (struct id) ts) ≡ uint
struct_is_other id None = refl
struct_is_other id (Some ts) = refl

pub ruleset other_rules = (array_is_other, runtime_is_other, struct_is_other)
