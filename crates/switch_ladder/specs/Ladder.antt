-- The chains of case targets that fall through (GLSL 4.60, section 6.2).
use Rattle.std.specs.Prelude.{ℕ, zero, suc, ◌&&◌, Bool, List, [], ◌∷◌, length, map, filter, Option, is_none}
use Rattle.std.specs.Option.{option_map_or}
use Rattle.std.specs.declared.vec.Vec.{Vec}
use Rattle.std.specs.declared.alloc.Global.{Global}
use Rattle.structure_rules.specs.declared.graph.Node.{Node}
use Rattle.structure_rules.specs.Nesting.{Links, first_of}
use Rattle.structure_rules.specs.EdgeKinds.{is_enter}
use Rattle.structure_rules.specs.Structure.{fall_links}
use Rattle.nest_place.specs.Links.{turned_links}
use Rattle.structure_recover.specs.Follows.{switch_targets}

-- the case target that falls into this one
abbrev pub fallen_from : List Node → ℕ → Option ℕ
fallen_from g t = first_of (turned_links (fall_links g)) t

-- a case target that a switch enters, and into which no case falls
abbrev pub begins_chain : List Node → ℕ → ℕ → Bool
begins_chain g s t = is_enter g s t && is_none (fallen_from g t)

-- the case target, followed by the one into which it falls, and so on, n of them at most
abbrev pub chain_of : Links → ℕ → ℕ → List ℕ
chain_of links zero t = []
chain_of links (suc n) t = t ∷ option_map_or (chain_of links n) (first_of links t) []

-- each case target of a switch once, followed by that into which it falls; the chains in the order in which their first targets stand in the function
abbrev pub chains_of : List Node → ℕ → List (List ℕ)
chains_of g s = map (chain_of (fall_links g) (length g)) (filter (begins_chain g s) (switch_targets g s))

abbrev pub items_of : Vec ℕ Global → List ℕ
items_of chain = chain.items
