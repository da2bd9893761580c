-- The plan of a function that the code makes.
use Rattle.std.specs.Prelude.{ℕ, ◌≡◌, List, map}
use Rattle.id_map.specs.Entries.{is_in}
use Rattle.spv_module.specs.State.{ModuleState}
use Rattle.spv_module.specs.declared.inst.Inst.{Inst}
use Rattle.spv_module.specs.declared.inst.Function.{Function}
use Rattle.structure_rules.specs.declared.graph.Node.{Node}
use Rattle.structure_rules.specs.Graph.{graph}
use Rattle.structure_recover.specs.Follows.{IsTree}
use Rattle.structure_recover.specs.View.{region_of}
use Rattle.use_chains.specs.Links.{Link, AreLiveLinks}
use Rattle.hoist_plan.specs.Plan as plan
use Rattle.hoist_plan.specs.Kept.{NamingState, form_in, is_carried_in}
use Rattle.hoist_plan.specs.declared.form.Form.{Form}
use Rattle.phi_copies.specs.Sequence.{IsSequence}
use Rattle.function_plan.specs.declared.flag_sets.FlagSets.{FlagSets}
use Rattle.function_plan.specs.declared.plan.FunctionPlan.{FunctionPlan as Planned}
use Rattle.switch_ladder.specs.Flags.{blocks_that, needs_again, needs_leave, needs_fell}
use Rattle.function_plan.specs.Phis.{pairs, firsts, phi_blocks}
use Rattle.function_plan.specs.Orders.{is_among, order_by}
use Rattle.function_plan.specs.Flagged.{has_again, has_leave, has_fell}
use Rattle.function_plan.specs.Moved.{moves_in}
use Rattle.function_plan.specs.Planned.{is_reached_node, order_in, is_named_in}

-- the forms of a function's values by the slots that are linked in it
pub record IsNamed (gs : List Inst) (f : Function) (g : List Node) (naming : NamingState) : Type 0 where
  pub links : List Link
  pub live : AreLiveLinks f (map is_reached_node g) links
  pub forms : (n : ℕ) → form_in naming n ≡ plan.form (record { globals = gs; function = f; links = links }) n
  pub carried : (n : ℕ) → is_carried_in naming n ≡ plan.is_carried (record { globals = gs; function = f; links = links }) n

-- the flags that the text of a function needs, by the forms of its values
pub record AreFlags (f : Function) (form : ℕ → Form) (flags : FlagSets) : Type 0 where
  pub again : (b : ℕ) → has_again flags b ≡ is_among (blocks_that (needs_again (graph f)) (graph f)) b
  pub leave : (b : ℕ) → has_leave flags b ≡ is_among (blocks_that (needs_leave (graph f)) (graph f)) b
  pub fell : (b : ℕ) → has_fell flags b ≡ is_among (blocks_that (needs_fell (graph f) (phi_blocks form f)) (graph f)) b

pub record IsPlanned (m : ModuleState) (f : Function) (p : Planned) : Type 0 where
  pub of_module : p.source.now ≡ m
  pub of_function : p.locals ≡ f
  pub graph_is : p.nodes.items ≡ graph f
  pub reached_is : p.reached.items ≡ map is_reached_node (graph f)
  pub naming : IsNamed m.globals f (graph f) p.naming
  pub named : (n : ℕ) → is_in p.named n ≡ is_named_in (form_in p.naming) (graph f) f.blocks n
  pub tree : IsTree f (region_of p.region)
  pub moves : (b t : ℕ) → IsSequence (firsts (pairs m.globals (form_in p.naming) f b t)) (moves_in p.moves.items b t)
  pub flags : AreFlags f (form_in p.naming) p.flags
  pub orders : (h : ℕ) → order_in p.orders h ≡ order_by (graph f) h
