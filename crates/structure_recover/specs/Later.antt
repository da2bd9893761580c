-- What recovering keeps: blocks are reached, and each stands behind the one before it.
use Rattle.std.specs.Prelude.{ℕ, ◌≡◌, ◌<◌, ◌+◌, ◌*◌, ◌-◌, true, List}
use Rattle.structure_rules.specs.declared.graph.Node.{Node}
use Rattle.structure_rules.specs.Graph.{nth}
use Rattle.structure_recover.specs.declared.edges.Start.{Start}
use Rattle.structure_recover.specs.declared.edges.Start.TheVariants.{Block, Body}
use Rattle.structure_recover.specs.declared.edges.Next.{Next}
use Rattle.structure_recover.specs.declared.edges.Next.TheVariants.{At, Stop}

abbrev pub block_of : Start → ℕ
block_of (Block b) = b
block_of (Body b) = b

-- control goes on in a block that is reached
abbrev pub IsReached : List Node → Next → Type 0
IsReached g (At s) = (nth g (block_of s)).reached ≡ true
IsReached g (Stop e) = Unit {0}

-- control goes on in a later block that is reached
abbrev pub IsLater : List Node → ℕ → Next → Type 0
IsLater g b (At (Block t)) = (b < t) × ((nth g t).reached ≡ true)
IsLater g b (At (Body h)) = ⊥
IsLater g b (Stop e) = Unit {0}

-- how much there is still to go through, with blocks up to n
abbrev pub rank_at : ℕ → Start → ℕ
rank_at n (Block b) = (n - b) * 8 + 4
rank_at n (Body b) = (n - b) * 8

abbrev pub rank : ℕ → Next → ℕ
rank n (At s) = rank_at n s
rank n (Stop e) = 0
