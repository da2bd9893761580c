use Rattle.std.proofs.Common.{◌≡◌, ◌==◌, ◌||◌, ℕ, take}
use Rattle.std.specs.List.{list_any}
use Rattle.id_map.specs.Entries.{is_in}
use Rattle.declaration_check.proofs.elsewhere.add_params.Given as goal

abbrev pub invariant-loop-param : goal.invariant-loop-param
invariant-loop-param l = (id : ℕ) → is_in l.ids id ≡ (is_in l.initial.ids id || list_any (λ p. p.0.0 == id) (take l.param-index l.params))
