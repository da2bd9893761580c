-- The variables that a function has in a text: those of the module, the values that have one, and what its control flow needs.
use Rattle.std.specs.Prelude.{ℕ, ◌≡◌, ◌≤◌, ◌&&◌, Bool, true, false, List, [], ◌++◌, filter, flat_map, length, map, if◌then◌else◌}
use Rattle.std.specs.List.{enumerate_from}
use Rattle.spv_ops.specs.Groups.{is_chain}
use Rattle.spv_module.specs.State.{ModuleState}
use Rattle.spv_module.specs.Lists.{id}
use Rattle.spv_module.specs.declared.inst.Id.{Id as IdOf}
use Rattle.spv_module.specs.declared.inst.Inst.{Inst}
use Rattle.spv_module.specs.declared.inst.Block.{Block}
use Rattle.spv_module.specs.declared.inst.Function.{Function}
use Rattle.spv_index.specs.Locals.{insts_of}
use Rattle.structure_rules.specs.Graph.{graph, nth}
use Rattle.profile_rules.specs.Calls.{IsCallOrder, numbers}
use Rattle.profile_rules.specs.Places.{is_variable}
use Rattle.conformance.specs.Rules.{Options}
use Rattle.module_check.specs.Judged.{IsEntry}
use Rattle.switch_ladder.specs.Flags.{blocks_that, needs_again, needs_leave, needs_fell}
use Rattle.use_chains.specs.Links.{Link, AreLiveLinks}
use Rattle.hoist_plan.specs.declared.form.Form.{Form}
use Rattle.hoist_plan.specs.declared.form.Form.TheVariants.{Local}
use Rattle.hoist_plan.specs.Plan.{Scope, form, is_carried}
use Rattle.access_paths.specs.Ways.{captured_indexes}
use Rattle.name_alloc.specs.declared.claims.Key.{Key}
use Rattle.name_alloc.specs.declared.claims.Key.TheVariants.{Id, Again, Leave, Fell, Captured, Spare}
use Rattle.glsl_ast.specs.Tree.{Text, Stmts, TranslationUnit}
use Rattle.text_rules.specs.Claims.{label}
use Rattle.function_plan.specs.Phis.{is_live_phi, phi_blocks, values_in}
use Rattle.function_plan.specs.Planned.{is_reached_node}
use Rattle.function_text.specs.Functions.{is_hoisted, function_key}
use Rattle.unit_rules.specs.Translation.{Naming, text_of}
use Rattle.unit_rules.specs.Unit.{called}
use Rattle.claim_law.specs.Claimed.{IsIn, HasName}
use Rattle.claim_law.specs.Bodies.{functions_in}
use Rattle.text_law.specs.Declarations.{valued, unset, opened, occurs, AreSame}

abbrev pub is_local : Form → Bool
is_local Local = true
is_local _ = false

-- the key of what has the result of an instruction
abbrev pub of_result : Inst → Key
of_result i = Id (id i.result)

abbrev pub is_spare : Key → Bool
is_spare (Spare from to number) = true
is_spare _ = false

-- of a function of a module with these globals: by the forms of its values, and the chains that other blocks need
module _ (gs : List Inst) (f : Function) (form : ℕ → Form) (carried : ℕ → Bool) where
  -- its own
  abbrev pub variables : List Key
  variables = map of_result (filter is_variable (insts_of f))

  -- values that are declared at the top, and those that are declared where they are computed, in blocks that are reached
  abbrev pub is_hoisted_here : Inst → Bool
  is_hoisted_here i = is_hoisted (form i.result)

  abbrev pub is_local_here : Inst → Bool
  is_local_here i = is_local (form i.result)

  abbrev pub hoisted : List Key
  hoisted = map of_result (filter is_hoisted_here (insts_of f))

  abbrev pub locals_of : ℕ × Block → List Key
  locals_of b = if (nth (graph f) b.0).reached then map of_result (filter is_local_here b.1.insts) else []

  abbrev pub locals : List Key
  locals = flat_map locals_of (enumerate_from 0 f.blocks)

  -- the indexes that are no constants, of each chain that another block needs
  abbrev pub index_key : Inst → ℕ × ℕ → Key
  index_key i n = Captured (id i.result) n.0

  abbrev pub kept_of : Inst → List Key
  kept_of i = if is_chain i.op && carried i.result then map (index_key i) (captured_indexes gs i) else []

  abbrev pub kept : List Key
  kept = flat_map kept_of (insts_of f)

  -- flags of blocks: of a loop whose continue construct is not its header, of one that is left through a switch, and of a case target with a live phi into which another falls
  abbrev pub flag_key : (IdOf → Key) → ℕ → Key
  flag_key key b = key (id (label f b))

  abbrev pub flags : (IdOf → Key) → (ℕ → Bool) → List Key
  flags key needs = map (flag_key key) (blocks_that needs (graph f))

  abbrev pub all_flags : List Key
  all_flags =
      flags Again (needs_again (graph f)) ++ (flags Leave (needs_leave (graph f)) ++ flags Fell (needs_fell (graph f) (phi_blocks form f)))

  -- the values of live phis, each with the block from which it comes
  abbrev pub phi_values : Inst → List (ℕ × ℕ)
  phi_values i = values_in i.args

  abbrev pub phi_pairs : List (ℕ × ℕ)
  phi_pairs = flat_map phi_values (filter (is_live_phi form) (insts_of f))

  -- those that have a value where they are declared, and those that have none
  abbrev pub with_value : List Key → List Key
  with_value spares = variables ++ (locals ++ (all_flags ++ spares))

  abbrev pub without_value : List Key
  without_value = hoisted ++ kept

-- A body declares just the variables that a function has, each once and under its name: what has no value where it is declared is declared at the top.
pub record Declares (gs : List Inst) (f : Function) (form : ℕ → Form) (carried : ℕ → Bool) (found : Naming) (body : Stmts) : Type 0 where
  pub spares : List Key
  pub are_spares : (key : Key) → IsIn key spares → is_spare key ≡ true
  pub few : length spares ≤ length (phi_pairs gs f form carried)
  pub at_top : opened body ≡ unset body
  pub without : AreSame (unset body) (map (text_of found) (without_value gs f form carried))
  pub with : AreSame (valued body) (map (text_of found) (with_value gs f form carried spares))
  pub once : (x : Text) → occurs x (unset body ++ valued body) ≤ 1
  pub named : (key : Key) → IsIn key (without_value gs f form carried ++ with_value gs f form carried spares) → HasName found key

-- the function, by its slots that are linked
abbrev pub scope_of : List Inst → Function → List Link → Scope
scope_of gs f links = record { globals = gs; function = f; links = links }

-- it is the text of a function
pub record IsBodyOf (gs : List Inst) (entry : ℕ) (found : Naming) (q : Text × Stmts) (f : Function) : Type 0 where
  pub links : List Link
  pub live : AreLiveLinks f (map is_reached_node (graph f)) links
  pub name : q.0 ≡ text_of found (function_key entry f.id)
  pub declares : Declares gs f (form (scope_of gs f links)) (is_carried (scope_of gs f links)) found q.1

-- Where keys have these names, each function of a text is one that calls reach from the entry point, and declares the variables that this has.
pub record HasVariables (m : ModuleState) (o : Options) (found : Naming) (unit : TranslationUnit) : Type 0 where
  pub entry : ℕ
  pub is_entry : IsEntry m o entry
  pub order : List IdOf
  pub calls : IsCallOrder m.functions entry (numbers order)
  pub each : (q : Text × Stmts) → IsIn q (functions_in unit) → (f : Function) × IsIn f (called order m.functions) × IsBodyOf m.globals entry found q f
