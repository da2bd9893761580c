-- Where a chain leads.
use Rattle.std.specs.Prelude.{ℕ, Bool, true, false, List, drop, ◌++◌, Option, Some, None, option_and_then}
use Rattle.std.specs.Option.{option_map_or}
use Rattle.spv_module.specs.declared.inst.Inst.{Inst}
use Rattle.spv_module.specs.declared.inst.Function.{Function}
use Rattle.profile_rules.specs.MemoryRules.{pointee_of}
use Rattle.module_semantics.specs.Setting.{Setting}
use Rattle.module_semantics.specs.Memory.{are_allowed}
use Rattle.module_semantics.specs.State.{Held, pointer, Frame, Conf, put, with_top}
use Rattle.module_semantics.specs.Operands.{Target, pointer_at, words_at}
use Rattle.module_semantics.specs.Steps.{base}
use Rattle.run_state.specs.Ids.{without}

-- the type to which the id points allows these indexes
abbrev pub allows : Setting → Function → ℕ → List ℕ → Bool
allows s f id indexes = option_map_or (λ (ty : ℕ). are_allowed s ty indexes) (pointee_of s.of.globals f id) false

-- as far as the base leads, and on by these indexes
abbrev pub further_if : Bool → Target → List ℕ → Option Held
further_if true p indexes = Some (pointer p.0 (p.1 ++ indexes))
further_if false p indexes = None

abbrev pub further : Setting → Frame → Inst → Target → List ℕ → Option Held
further s f i p indexes = further_if (allows s f.function (base i) indexes) p indexes

-- what the chain has, if its base is a pointer and its indexes have words
abbrev pub chained : Setting → Frame → Inst → Option Held
chained s f i = option_and_then (λ (p : Target). option_and_then (further s f i p) (words_at s f (drop 1 i.args))) (pointer_at s f (base i))

-- behind the chain, which has this, while these ids have nothing
abbrev pub led_without : (ℕ → Bool) → Conf → List Inst → Inst → Held → Conf
led_without test c rest i h = with_top c (record c.top { rest = rest; ids = put (without test c.top.ids) i.result h })
