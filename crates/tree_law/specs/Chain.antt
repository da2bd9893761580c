-- Chains of the case targets of a switch, each followed by that to which it leads.
use Rattle.std.specs.Prelude.{ℕ, zero, suc, List, [], ◌∷◌, map, Option, Some, option_and_then}
use Rattle.std.specs.List.{concat}
use Rattle.std.specs.Option.{option_map_or}

module _ (next : ℕ → Option ℕ) where
  abbrev pub chain : ℕ → ℕ → List ℕ
  chain zero t = []
  chain (suc n) t = t ∷ option_map_or (chain n) (next t) []

  abbrev pub after : ℕ → ℕ → Option ℕ
  after zero t = Some t
  after (suc n) t = option_and_then (after n) (next t)

  -- the chains of these, one behind the other
  abbrev pub chains : ℕ → List ℕ → List ℕ
  chains n ss = concat (map (chain n) ss)
