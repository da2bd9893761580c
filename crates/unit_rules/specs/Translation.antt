-- What is planned of a function, as the definitions of the parts give it. There is one plan, since each part determines what is planned of it.
use Rattle.std.specs.Prelude.{ℕ, ◌≡◌, Bool, List, [], map, Option, option_and_then, unwrap_or}
use Rattle.spv_module.specs.Held.{global}
use Rattle.spv_module.specs.Lists.{id}
use Rattle.spv_module.specs.declared.inst.Function.{Function}
use Rattle.structure_rules.specs.Graph.{graph}
use Rattle.structure_recover.specs.Follows.{IsTree}
use Rattle.switch_ladder.specs.Flags.{blocks_that, needs_again, needs_leave, needs_fell}
use Rattle.use_chains.specs.Links.{Link, AreLiveLinks}
use Rattle.hoist_plan.specs.declared.form.Form.{Form}
use Rattle.hoist_plan.specs.Plan as plan
use Rattle.phi_copies.specs.Sequence.{IsSequence}
use Rattle.name_alloc.specs.declared.claims.Key.{Key}
use Rattle.name_alloc.specs.declared.claims.Key.TheVariants.{Id, Block, Member}
use Rattle.glsl_ast.specs.Tree.{Text, Expr, literal}
use Rattle.glsl_ast.specs.declared.expressions.Literal.TheVariants.{Uint}
use Rattle.text_rules.specs.Constants.{Source}
use Rattle.text_rules.specs.Declarations.{Names}
use Rattle.text_items.specs.Globals.{global_by}
use Rattle.expr_forward.specs.Scope.{Scope}
use Rattle.expr_forward.specs.Context.{operand}
use Rattle.vec_lowering.specs.Lowered.{lowered_vector}
use Rattle.function_text.specs.Functions.{FunctionPlan}
use Rattle.function_plan.specs.Phis.{pairs, firsts, phi_blocks}
use Rattle.function_plan.specs.Orders.{is_among, order_by}
use Rattle.function_plan.specs.Planned.{is_reached_node}

-- names by their keys; a key that is not claimed has the empty name
abbrev pub Naming : Type 0
Naming = Key → Option Text

abbrev pub text_of : Naming → Key → Text
text_of found key = unwrap_or (found key) []

abbrev pub id_text : Naming → ℕ → Text
id_text found n = text_of found (Id (id n))

-- the names of types; no expression in a function mentions the constants that are calculated but by name
abbrev pub names_of : Naming → Names
names_of found = record {
  id = id_text found;
  block = λ v s. text_of found (Block (id v) (id s));
  member = λ s k. text_of found (Member (id s) k);
  calculated = λ g. literal (Uint 0);
}

-- the expression by which the global with an id is read
abbrev pub global_expr : Source → (ℕ → Text) → ℕ → Option Expr
global_expr s ids n = option_and_then (global_by s ids) (global s.of.globals n)

-- where the blocks of a function are written, by the expressions of globals, the forms of values, which chains are mentioned in other blocks, and the names
abbrev pub scope_by : Source → Naming → Naming → Function → (ℕ → Option Expr) → (ℕ → Form) → (ℕ → Bool) → Scope
scope_by s found lowering f globals form carried = record {
  setting = record { source = s; function = f; key = text_of found; global = globals };
  form = form;
  carried = carried;
  names = names_of found;
  lowered = λ op ext t args literals. lowered_vector lowering op ext t literals (map operand args);
}

abbrev pub plan_scope : Source → Function → List Link → plan.Scope
plan_scope s f links = record { globals = s.of.globals; function = f; links = links }

abbrev pub scope_of : Source → Naming → Function → List Link → Scope
scope_of s found f links =
    scope_by s found found f (global_expr s (id_text found)) (plan.form (plan_scope s f links)) (plan.is_carried (plan_scope s f links))

-- what is planned of a function
pub record IsPlanOf (s : Source) (found : Naming) (f : Function) (p : FunctionPlan) : Type 0 where
  pub links : List Link
  pub live : AreLiveLinks f (map is_reached_node (graph f)) links
  pub scope_is : p.scope ≡ scope_of s found f links
  pub graph_is : p.graph ≡ graph f
  pub tree : IsTree f p.region
  pub moves_are : (b t : ℕ) → IsSequence (firsts (pairs s.of.globals p.scope.form f b t)) (p.moves b t)
  pub again_is : (b : ℕ) → p.again b ≡ is_among (blocks_that (needs_again (graph f)) (graph f)) b
  pub leave_is : (b : ℕ) → p.leave b ≡ is_among (blocks_that (needs_leave (graph f)) (graph f)) b
  pub fell_is : (b : ℕ) → p.fell b ≡ is_among (blocks_that (needs_fell (graph f) (phi_blocks p.scope.form f)) (graph f)) b
  pub order_is : (h : ℕ) → p.order h ≡ order_by (graph f) h
