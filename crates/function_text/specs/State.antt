-- The plan of a function, where it is written.
use Rattle.structure_recover.specs.View.{region_of}
use Rattle.expr_forward.specs.Context.{ContextState, scope_of}
use Rattle.function_plan.specs.declared.plan.FunctionPlan.{FunctionPlan as Planned}
use Rattle.function_text.specs.Functions.{FunctionPlan, function_decl}
use Rattle.function_plan.specs.Flagged.{has_again, has_leave, has_fell}
use Rattle.function_plan.specs.Moved.{moves_in}
use Rattle.function_plan.specs.Planned.{order_in}
use Rattle.name_alloc.specs.declared.claims.Names.{Names as Given}
use Rattle.glsl_ast.specs.Tree.{Decl}
use Rattle.text_rules.specs.Constants.{Source}
use Rattle.expr_forward.specs.declared.globals.Globals.{Globals}

-- the plan of a function, where it is written
abbrev pub plan_in : ContextState → Planned → FunctionPlan
plan_in c p = record {
  scope = scope_of c;
  graph = p.nodes.items;
  region = region_of p.region;
  moves = moves_in p.moves.items;
  again = has_again p.flags;
  leave = has_leave p.flags;
  fell = has_fell p.flags;
  order = order_in p.orders;
}

-- a plan where its function is written
abbrev pub plan_with : Source → Given → Globals → Planned → FunctionPlan
plan_with s names globals p = plan_in (record { source = s; function = p.locals; names = names; globals = globals; plan = p.naming }) p

abbrev pub decl_with : Source → Given → Globals → Planned → Decl
decl_with s names globals p = function_decl (plan_with s names globals p)
