-- The moves of edges, and what they are made from, as the code keeps them.
use Rattle.std.specs.Prelude.{ℕ, ◌≡◌, ◌==◌, ◌&&◌, not, true, Bool, List, [], ◌∷◌, if◌then◌else◌, is_some, Option, Some, None, option_and_then, option_map, find, slice_get}
use Rattle.std.specs.BTreeMap.{BTreeMap, get}
use Rattle.std.specs.Ordering.{nat_cmp}
use Rattle.std.specs.List.{list_any}
use Rattle.std.specs.declared.vec.Vec.{Vec}
use Rattle.std.specs.declared.alloc.Global.{Global}
use Rattle.spv_module.specs.declared.inst.Inst.{Inst}
use Rattle.spv_module.specs.declared.inst.Block.{Block}
use Rattle.spv_module.specs.declared.inst.Function.{Function}
use Rattle.hoist_plan.specs.declared.form.Form.{Form}
use Rattle.phi_copies.specs.Sequence.{Pair, IsSequence, target, is_var, is_proper}
use Rattle.phi_copies.specs.declared.moves.Move.{Move}
use Rattle.phi_copies.specs.declared.moves.Move.TheVariants.{Set}
use Rattle.function_plan.specs.declared.edge_moves.Moves.{Moves}
use Rattle.function_plan.specs.declared.edge_moves.Moves.TheVariants.{Few, Many}
use Rattle.function_plan.specs.Phis.{pairs_into, firsts}

-- what a list has that may be there
abbrev pub items_at : {A : Type 0} → Option (Vec A Global) → List A
items_at None = []
items_at (Some list) = list.items

-- what is there, or else what comes after it
abbrev pub or_moves : Option (Vec Move Global) → Option (Vec Move Global) → Option (Vec Move Global)
or_moves None next = next
or_moves (Some moves) next = Some moves

-- the edge comes from a block
abbrev pub is_from : ℕ → ℕ × Vec Move Global → Bool
is_from b e = e.0 == b

-- the first moves of the edge from a block in a list
abbrev pub first_from : List (ℕ × Vec Move Global) → ℕ → Option (Vec Move Global)
first_from list b = option_map (λ (e : ℕ × Vec Move Global). e.1) (find (is_from b) list)

-- the moves of the edge from a block
abbrev pub moves_from : Moves → ℕ → Option (Vec Move Global)
moves_from (Few list) b = first_from list.items b
moves_from (Many tree) b = get nat_cmp tree b

-- the moves of an edge, where the moves of the edges into each block stand by the blocks from which they come
abbrev pub moves_in : List Moves → ℕ → ℕ → List Move
moves_in moves b t = items_at (option_and_then (λ (m : Moves). moves_from m b) (slice_get moves t))

-- the pairs of the edge from a block
abbrev pub PairsByBlock : Type 0
PairsByBlock = BTreeMap ℕ (Vec Pair Global)

abbrev pub pairs_from : PairsByBlock → ℕ → List Pair
pairs_from pairs b = items_at (get nat_cmp pairs b)

-- the blocks with pairs are listed
abbrev pub AreListed : PairsByBlock → List ℕ → Type 0
AreListed pairs blocks = (b : ℕ) → is_some (get nat_cmp pairs b) ≡ true → list_any (λ c. c == b) blocks ≡ true

-- the moves of the edges into a block, by the blocks from which these come
abbrev pub AreMovesFor : List Inst → (ℕ → Form) → Function → Block → Moves → Type 0
AreMovesFor gs form f block moves = (b : ℕ) → IsSequence (firsts (pairs_into gs form f b block)) (items_at (moves_from moves b))

-- the move of a single pair
abbrev pub single : Pair → List Move
single p = if is_proper p then Set p.0 p.1 ∷ [] else []

-- the move of the first of these pairs
abbrev pub first_moves : List Pair → List Move
first_moves [] = []
first_moves (p ∷ ps) = single p

-- the moves that are there, or else that of the first pair that is left
abbrev pub left_moves : Option (Vec Move Global) → List Pair → List Move
left_moves None ps = first_moves ps
left_moves (Some moves) ps = moves.items

-- two pairs, one copied after the other: the second does not read what the first is given
abbrev pub go_in_order : Pair → Pair → Bool
go_in_order p q = is_proper p && (is_proper q && (not (target q == target p) && not (is_var (target p) q.1)))

abbrev pub both : Pair → Pair → List Move
both p q = Set p.0 p.1 ∷ Set q.0 q.1 ∷ []
