-- What a run of a module knows from the start: the module, the function of its entry point, the values of its constants, and what the invocation is told.
use Rattle.std.specs.Prelude.{ℕ, zero, suc, ◌==◌, ◌&&◌, Bool, true, false, List, [], ◌∷◌, Option, Some, None, filter, length}
use Rattle.std.specs.Option.{option_map_or}
use Rattle.std.specs.List.{list_any, enumerate_from, position_from}
use Rattle.spv_ops.specs.Operands.{is_id}
use Rattle.spv_ops.specs.declared.Op.TheVariants as code
use Rattle.spv_ops.specs.Enumerants.{class_number}
use Rattle.spv_ops.specs.declared.StorageClass.{StorageClass}
use Rattle.spv_ops.specs.declared.StorageClass.TheVariants as storage
use Rattle.spv_module.specs.State.{ModuleState}
use Rattle.spv_module.specs.Held.{global}
use Rattle.spv_module.specs.declared.inst.Inst.{Inst}
use Rattle.spv_module.specs.declared.inst.Function.{Function}
use Rattle.spv_types.specs.Tree.{ValueTree}
use Rattle.spv_decor.specs.Rows.{word}
use Rattle.spv_index.specs.Locals.{insts_of}
use Rattle.profile_rules.specs.Calls.{calls_in, callee, id_of, ids_of}
use Rattle.profile_rules.specs.Constants.{constants}
use Rattle.profile_rules.specs.declared.given.Given.{Given}
use Rattle.profile_rules.specs.Places.{is_variable}
use Rattle.traces.specs.Invocations.{Invocation}

pub record Setting : Type 0 where
  pub of : ModuleState
  pub entry : ℕ
  pub constants : ℕ → Option ValueTree
  pub invocation : Invocation

-- a module, the id of its entry point's function, and an invocation; overrides of specialization constants go over what the invocation is told (SPIR-V 1.6, section 2.12)
abbrev pub setting : ModuleState → ℕ → List (ℕ × Given) → Invocation → Setting
setting m entry overrides inv = record { of = m; entry = entry; constants = constants m overrides inv.specialization; invocation = inv }

abbrev pub is_listed : List ℕ → ℕ → Bool
is_listed ids id = list_any (λ x. x == id) ids

-- function f calls the function with this id
abbrev pub calls_to : ℕ → Function → Bool
calls_to id f = list_any (λ (call : Inst). callee call == id) (calls_in f)

-- it is listed, or one that is listed calls it
abbrev pub is_called_from : List Function → List ℕ → ℕ → Bool
is_called_from fs ids id = list_any (λ (f : Function). is_listed ids (id_of f) && calls_to id f) fs

abbrev pub with_callees : List Function → List ℕ → List ℕ
with_callees fs ids = filter (λ id. elim (is_listed ids id) [ true ↦ true | false ↦ is_called_from fs ids id ]) (ids_of fs)

-- the functions to which at most so many calls lead from the entry
abbrev pub called_within : List Function → ℕ → ℕ → List ℕ
called_within fs entry zero = entry ∷ []
called_within fs entry (suc n) = with_callees fs (called_within fs entry n)

-- the functions that calls reach from the entry: no more calls than there are functions lead to each
abbrev pub reached_functions : Setting → List Function
reached_functions s = filter (λ (f : Function). is_listed (called_within s.of.functions s.entry (length s.of.functions)) (id_of f)) s.of.functions

-- an operand of the instruction is this id
abbrev pub has_operand : ℕ → Inst → Bool
has_operand id i = list_any (λ (p : ℕ × ℕ). (p.1 == id) && is_id i.op i.args p.0) (enumerate_from 0 i.args)

-- an instruction of a reached function mentions the id
abbrev pub is_mentioned : Setting → ℕ → Bool
is_mentioned s id = list_any (λ (f : Function). list_any (has_operand id) (insts_of f)) (reached_functions s)

-- an OpVariable in this storage class
abbrev pub is_in_class : StorageClass → Inst → Bool
is_in_class class g = is_variable g && (word g 0 == class_number class)

-- the variable of the module with this id
abbrev pub as_variable : Inst → Option Inst
as_variable g = elim (is_variable g) [ true ↦ Some g | false ↦ None ]

abbrev pub global_variable : Setting → ℕ → Option Inst
global_variable s id = elim (global s.of.globals id) [ None ↦ None | Some g ↦ as_variable g ]

-- the Workgroup variables that are mentioned, in module order, and the number of one among them
abbrev pub shared_variables : Setting → List Inst
shared_variables s = filter (λ (g : Inst). elim (is_in_class storage.Workgroup g) [ true ↦ is_mentioned s g.result | false ↦ false ]) s.of.globals

abbrev pub shared_number : Setting → ℕ → ℕ
shared_number s id = option_map_or (λ (k : ℕ). k) (position_from (λ (g : Inst). g.result == id) 0 (shared_variables s)) 0
