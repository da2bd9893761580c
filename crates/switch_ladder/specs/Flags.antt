-- The flags that a text of structured statements needs, since GLSL jumps out of the innermost statement alone (GLSL 4.60, section 6.4).
use Rattle.std.specs.Prelude.{ℕ, ◌&&◌, ◌==◌, Bool, List, length, filter, Option, None, is_some, if◌then◌else◌}
use Rattle.std.specs.Option.{option_and_then}
use Rattle.std.specs.List.{list_any, range_with_len}
use Rattle.structure_rules.specs.declared.graph.Node.{Node}
use Rattle.structure_rules.specs.Graph.{nth, edges, is_value}
use Rattle.structure_rules.specs.EdgeKinds.{is_break, nearest_loop, loop_header, innermost_switch}
use Rattle.structure_recover.specs.Follows.{continue_block}
use Rattle.switch_ladder.specs.Ladder.{fallen_from}

-- the blocks that pass, in the order in which they stand in the function
abbrev pub blocks_that : (ℕ → Bool) → List Node → List ℕ
blocks_that p g = filter p (range_with_len 0 (length g))

-- the header of a loop whose continue target is reached and is another block
abbrev pub needs_again : List Node → ℕ → Bool
needs_again g h = (nth g h).reached && is_some (continue_block g h)

-- the loop that an edge leaves, where a switch stands between
abbrev pub left_loop : List Node → ℕ → ℕ → Option ℕ
left_loop g b t = if is_break g b t && is_some (innermost_switch g b) then option_and_then loop_header (nearest_loop g b) else None

-- an edge of the block leaves the loop of this header through a switch
abbrev pub leaves : List Node → ℕ → ℕ → Bool
leaves g h b = list_any (λ t. is_value h (left_loop g b t)) (edges (nth g b))

-- an edge of some block does
abbrev pub needs_leave : List Node → ℕ → Bool
needs_leave g h = list_any (leaves g h) (range_with_len 0 (length g))

-- a case target that is fallen into, and is among those that have a live phi
abbrev pub needs_fell : List Node → List ℕ → ℕ → Bool
needs_fell g phi_blocks t = is_some (fallen_from g t) && list_any (λ b. b == t) phi_blocks
