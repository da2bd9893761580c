-- In which order the targets of switches are written.
use Rattle.std.specs.Prelude.{ℕ, ◌==◌, ◌&&◌, not, Bool, List, [], ◌++◌, filter, if◌then◌else◌}
use Rattle.std.specs.List.{concat, list_any}
use Rattle.structure_rules.specs.declared.graph.Node.{Node}
use Rattle.structure_rules.specs.Graph.{nth, is_switch}
use Rattle.structure_recover.specs.Follows.{switch_targets}
use Rattle.switch_ladder.specs.Ladder.{chains_of}

abbrev pub is_among : List ℕ → ℕ → Bool
is_among ts t = list_any (λ u. u == t) ts

-- those that are not in a set
abbrev pub others_of : (ℕ → Bool) → List ℕ → List ℕ
others_of set ts = filter (λ t. not (set t)) ts

-- the targets of a switch: its chains, and then the others
abbrev pub order_with : List ℕ → List ℕ → List ℕ
order_with chained ts = chained ++ others_of (is_among chained) ts

abbrev pub order_of : List Node → ℕ → List ℕ
order_of g h = order_with (concat (chains_of g h)) (switch_targets g h)

-- so it is with each switch that is reached
abbrev pub is_reached_switch : Node → Bool
is_reached_switch n = n.reached && is_switch n.exit

abbrev pub order_by : List Node → ℕ → List ℕ
order_by g h = if is_reached_switch (nth g h) then order_of g h else []
