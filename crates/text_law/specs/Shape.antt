-- The shape of a text: its loops, switches and conditionals are those of the module (SPIR-V 1.6, section 2.11), and so are the statements that access memory, and what stands round them.
use Rattle.std.specs.Prelude.{ℕ, ◌≡◌, false, List, [], ◌∷◌, ◌++◌, bytes_eq, codes, filter, find, flat_map, map, is_some, Bool, Option, Some, option_map, option_to_list, if◌then◌else◌, slice_get, slice_index}
use Rattle.std.specs.Option.{option_map_or}
use Rattle.std.specs.List.{AllZip}
use Rattle.spv_ops.specs.OpGroups.{group_of}
use Rattle.spv_ops.specs.declared.OpGroup.{OpGroup}
use Rattle.spv_ops.specs.declared.OpGroup.TheVariants as groups
use Rattle.spv_module.specs.Held.{global}
use Rattle.spv_module.specs.Lists.{id}
use Rattle.spv_module.specs.State.{ModuleState}
use Rattle.spv_module.specs.declared.inst.Id.{Id}
use Rattle.spv_module.specs.declared.inst.Inst.{Inst}
use Rattle.spv_module.specs.declared.inst.Block.{Block}
use Rattle.spv_module.specs.declared.inst.Function.{Function}
use Rattle.spv_index.specs.Locals.{insts_of}
use Rattle.spv_index.specs.Pointers.{pointee}
use Rattle.structure_rules.specs.declared.graph.Node.{Node}
use Rattle.structure_rules.specs.Graph.{graph, nth}
use Rattle.structure_recover.specs.Follows.{heads_loop}
use Rattle.structure_recover.specs.Once.{Around, round, around}
use Rattle.profile_rules.specs.Calls.{IsCallOrder, numbers}
use Rattle.profile_rules.specs.Places.{is_variable}
use Rattle.conformance.specs.Rules.{Options}
use Rattle.traces.specs.Events as event
use Rattle.traces.specs.Events.{Event}
use Rattle.module_semantics.specs.Steps.{memory_barriers}
use Rattle.module_check.specs.Judged.{IsEntry}
use Rattle.name_alloc.specs.declared.claims.Key.TheVariants.{Id as IdOf}
use Rattle.glsl_ast.specs.Tree.{Text, Stmts, TranslationUnit}
use Rattle.text_rules.specs.Constants.{Source, plain_value}
use Rattle.text_rules.specs.Declarations.{word_of}
use Rattle.function_text.specs.Functions.{function_key}
use Rattle.unit_rules.specs.Unit.{called, source_of}
use Rattle.claim_law.specs.Bodies.{functions_in}
use Rattle.claim_law.specs.Told.{built_in_variables}
use Rattle.safe_law.specs.Flags.{is_flag}
use Rattle.text_law.specs.Walks.{Outer, walk}
use Rattle.text_law.specs.Pairs.{Act, repeats, exit_acts, with_round, loads, stores, enters, updates, bars, Pair, token_of, sites, is_of, Naming, AreGuards, StandTogether, IsPlaced}

-- the word of a constant
abbrev pub constant_word : Source → ℕ → ℕ
constant_word s n = option_map_or (λ (g : Inst). word_of (plain_value s g)) (global s.of.globals n) 0

-- a barrier is written by the function that raises its event (GLSL 4.60, section 8.16)
abbrev pub bars_of : Event → List Act
bars_of event.buffer_barrier = bars (codes "memoryBarrierBuffer") ∷ []
bars_of event.shared_barrier = bars (codes "memoryBarrierShared") ∷ []
bars_of event.control_barrier = bars (codes "barrier") ∷ []
bars_of _ = []

abbrev pub acts_in : Source → List ℕ → OpGroup → List Act
acts_in s args groups.Load = loads ∷ []
acts_in s args groups.Store = stores ∷ []
acts_in s args groups.Call = enters ∷ []
acts_in s args (groups.Atomic a) = updates ∷ []
acts_in s args groups.MemoryBarrier = flat_map bars_of (memory_barriers (constant_word s (slice_index args 1)))
acts_in s args groups.ControlBarrier = flat_map bars_of (memory_barriers (constant_word s (slice_index args 2)) ++ event.control_barrier ∷ [])
acts_in s args _ = []

abbrev pub acts_of : Source → Inst → List Act
acts_of s i = acts_in s i.args (group_of i.op)

abbrev pub block_acts : Source → Block → List Act
block_acts s b = flat_map (acts_of s) b.insts

abbrev pub acts_at : Source → Function → ℕ → List Act
acts_at s f b = option_map_or (block_acts s) (slice_get f.blocks b) []

-- the statements of a block, each with what stands round it: its `for` where it is the header of a loop, which stands round all others; those of its instructions; that of its terminator
abbrev pub statements_of : Source → Function → List Node → ℕ → List (Act × List Around)
statements_of s f g b =
    (if heads_loop g b then (repeats, round g b) ∷ [] else []) ++ map (with_round (around g b)) (acts_at s f b ++ exit_acts (nth g b).exit)

-- the names with which paths to memory begin: of variables of the module and of the function, of parameters that are pointers, and of what is built in
abbrev pub is_pointer : Source → Id × Id → Bool
is_pointer s q = is_some (pointee s.of.globals q.1.0)

abbrev pub memory_ids : Source → Function → List ℕ
memory_ids s f =
    map (λ (g : Inst). g.result) (filter is_variable s.of.globals) ++
    (map (λ (q : Id × Id). q.0.0) (filter (is_pointer s) f.params) ++ map (λ (i : Inst). i.result) (filter is_variable (insts_of f)))

abbrev pub names_in : Naming → List ℕ → List Text
names_in found ns = flat_map (λ (n : ℕ). option_to_list (found (IdOf (id n)))) ns

abbrev pub outer_of : Source → Naming → TranslationUnit → Function → Outer
outer_of s found unit f = record { memory = names_in found (memory_ids s f) ++ built_in_variables; functions = map (λ (d : Text × Stmts). d.0) (functions_in unit) }

-- A body has the shape of a function: besides `if`s that test flags, its `for`, `switch` and `if` statements and those that do what is seen are these of the reached blocks, each once, those of a block in this order, and each within what stands round it in the module; those of a block's instructions stand directly after one another.
pub record IsShaped (s : Source) (found : Naming) (o : Outer) (f : Function) (body : Stmts) : Type 0 where
  pub pairs : List Pair
  pub walked : map token_of pairs ≡ walk o body []
  pub guards : AreGuards found is_flag pairs
  pub statements : (b : ℕ) → AllZip (IsPlaced o found) (if (nth (graph f) b).reached then statements_of s f (graph f) b else []) (filter (is_of b) (sites [] pairs))
  pub together : (b : ℕ) → StandTogether b pairs

-- the name of a function: the entry point's is main
abbrev pub name_of : ℕ → Naming → Function → Option Text
name_of entry found f = found (function_key entry f.id)

abbrev pub has_name : Option Text → Text × Stmts → Bool
has_name x d = option_map_or (bytes_eq d.0) x false

abbrev pub body_of : TranslationUnit → Option Text → Option Stmts
body_of unit x = option_map (λ (d : Text × Stmts). d.1) (find (has_name x) (functions_in unit))

abbrev pub IsShapedIn : Source → Naming → TranslationUnit → Function → Type 0
IsShapedIn s found unit f = (body : Stmts) × (body_of unit (name_of s.entry found f) ≡ Some body) × IsShaped s found (outer_of s found unit f) f body

abbrev pub AreShaped : Source → Naming → TranslationUnit → List Function → Type 0
AreShaped s found unit [] = Unit {0}
AreShaped s found unit (f ∷ fs) = IsShapedIn s found unit f × AreShaped s found unit fs

-- so has a text that of a module, where keys have these names: each function that calls reach
pub record HasShape (m : ModuleState) (o : Options) (found : Naming) (unit : TranslationUnit) : Type 0 where
  pub entry : ℕ
  pub is_entry : IsEntry m o entry
  pub order : List Id
  pub calls : IsCallOrder m.functions entry (numbers order)
  pub shaped : AreShaped (source_of m o entry) found unit (called order m.functions)
