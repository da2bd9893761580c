-- The summary of a module and its text.
use Rattle.std.specs.Prelude.{ℕ, ◌%◌, ◌^◌, ◌&&◌, ◌++◌, Bool, true, false, List, codes, count_by, length, slice_get, sum}
use Rattle.std.specs.Option.{option_map_or}
use Rattle.std.specs.Fmt.{decimal}
use Rattle.spv_module.specs.State.{ModuleState}
use Rattle.spv_module.specs.declared.inst.Function.{Function}
use Rattle.structure_rules.specs.Graph.{graph}
use Rattle.structure_rules.specs.declared.graph.Node.{Node}
use Rattle.structure_rules.specs.declared.graph.Merge.{Merge}
use Rattle.structure_rules.specs.declared.graph.Merge.TheVariants.{Loop}

-- the block is reached; it is reached and begins a loop
abbrev pub is_reached : Node → Bool
is_reached n = n.reached

abbrev pub is_loop : Merge → Bool
is_loop (Loop merge continue_target) = true
is_loop _ = false

abbrev pub is_reached_loop : Node → Bool
is_reached_loop n = n.reached && is_loop n.merge

-- how many blocks of the module's first function pass; a generated module has one function
abbrev pub count_blocks : (Node → Bool) → ModuleState → ℕ
count_blocks test m = option_map_or (λ (f : Function). count_by test (graph f)) (slice_get m.functions 0) 0

-- the line of so many blocks and loops, and a text
abbrev pub summary_line : ℕ → ℕ → List ℕ → List ℕ
summary_line blocks loops text =
    codes "blocks " ++ (decimal blocks ++ (codes " loops " ++ (decimal loops ++ (codes " bytes " ++ (decimal (length text) ++ (codes " sum " ++ (decimal (sum text % 2 ^ 32) ++ codes "\n")))))))

-- that of a module and its text
abbrev pub summary : ModuleState → List ℕ → List ℕ
summary m text = summary_line (count_blocks is_reached m) (count_blocks is_reached_loop m) text
