-- The text of a module, from what is planned of the functions that calls reach from the entry.
use Rattle.std.specs.Prelude.{ℕ, ◌≡◌, ◌==◌, Bool, List, ◌++◌, filter, find, flat_map, map, option_to_list}
use Rattle.std.specs.List.{AllZip, list_any}
use Rattle.spv_module.specs.State.{ModuleState}
use Rattle.spv_module.specs.declared.inst.Id.{Id}
use Rattle.spv_module.specs.declared.inst.Inst.{Inst}
use Rattle.spv_module.specs.declared.inst.Function.{Function}
use Rattle.profile_rules.specs.Calls.{IsCallOrder, numbers}
use Rattle.conformance.specs.Rules.{Options}
use Rattle.module_check.specs.Judged.{IsEntry}
use Rattle.name_alloc.specs.declared.claims.Claim.{Claim}
use Rattle.name_alloc.specs.Law.{AreNames}
use Rattle.name_alloc.specs.Naming.{name_of}
use Rattle.glsl_ast.specs.Tree.{TranslationUnit, translation_unit}
use Rattle.text_rules.specs.Constants.{Source, sizes}
use Rattle.text_rules.specs.Printed.{Reached}
use Rattle.text_rules.specs.Declarations.{Names, declarations}
use Rattle.text_rules.specs.Claims.{Plan, claims}
use Rattle.text_items.specs.Names.{calculated_with}
use Rattle.text_items.specs.View.{claims_of}
use Rattle.function_plan.specs.Once.{once, itself}
use Rattle.function_text.specs.Functions.{FunctionPlan, function_decl, written}
use Rattle.function_plan.specs.Targets.{targets_in}
use Rattle.function_plan.specs.Planned.{captured_numbers, is_named_in, is_reached_node, spares_in}
use Rattle.function_text.specs.Live.{Liveness, types_of, mentions_of, in_function}
use Rattle.unit_rules.specs.Translation.{Naming, id_text, names_of, IsPlanOf}

-- the size of workgroups, the items in the order of the module, and the functions
abbrev pub unit_text : Source → Reached → Names → List FunctionPlan → TranslationUnit
unit_text s r names plans = translation_unit (sizes s) (declarations s r names ++ map function_decl plans)

-- the names of items, and the expressions of the constants that are calculated
abbrev pub item_names_of : Source → Naming → Names
item_names_of s found = record (names_of found) { calculated = calculated_with s found (id_text found) }

-- what a planned function claims names for
abbrev pub claims_by : Source → FunctionPlan → Plan
claims_by s p = record {
  function = written p;
  is_named = is_named_in p.scope.form p.graph (written p).blocks;
  again = p.again;
  leave = p.leave;
  fell = p.fell;
  captured = captured_numbers s.of.globals p.scope.carried;
  targets = λ b. once itself (targets_in p.graph b);
  spares = λ b t. spares_in (p.moves b t);
}

-- what is written of planned functions
abbrev pub liveness_of : Source → FunctionPlan → Liveness
liveness_of s p = record { globals = s.of.globals; function = written p; reached = map is_reached_node p.graph; form = p.scope.form; carried = p.scope.carried }

abbrev pub live_of : (Liveness → Bool → Inst → List ℕ) → Source → FunctionPlan → List ℕ
live_of each s p = in_function each (liveness_of s p)

abbrev pub reached_of : Source → List FunctionPlan → Reached
reached_of s plans = record { functions = map written plans; types = flat_map (live_of types_of s) plans; mentions = flat_map (live_of mentions_of s) plans }

-- the functions that calls reach, in the order of the module, and their plans in the order of calls
abbrev pub is_called : List Id → Function → Bool
is_called order f = list_any (λ (n : Id). n.0 == f.id.0) order

abbrev pub called : List Id → List Function → List Function
called order fs = filter (is_called order) fs

abbrev pub has_id : Id → FunctionPlan → Bool
has_id n p = (written p).id.0 == n.0

abbrev pub plan_at : List FunctionPlan → Id → List FunctionPlan
plan_at plans n = option_to_list (find (has_id n) plans)

abbrev pub in_order : List Id → List FunctionPlan → List FunctionPlan
in_order order plans = flat_map (plan_at plans) order

abbrev pub source_of : ModuleState → Options → ℕ → Source
source_of m o entry = record { of = m; entry = entry; overrides = o.overrides }

-- the tree of a module's text: of the functions that calls reach from the entry, callees first, each by its plan; names are given by the claims of what is written, each its own in its space
pub record IsUnitOf (m : ModuleState) (o : Options) (unit : TranslationUnit) : Type 0 where
  pub entry : ℕ
  pub is_entry : IsEntry m o entry
  pub order : List Id
  pub calls : IsCallOrder m.functions entry (numbers order)
  pub plans : List FunctionPlan
  pub claimed : List Claim
  pub claims_are : claims_of claimed ≡ claims (source_of m o entry) (reached_of (source_of m o entry) plans) (map (claims_by (source_of m o entry)) plans)
  pub lawful : AreNames (name_of claimed)
  pub planned : AllZip (IsPlanOf (source_of m o entry) (name_of claimed)) (called order m.functions) plans
  pub unit_is : unit ≡ unit_text (source_of m o entry) (reached_of (source_of m o entry) plans) (item_names_of (source_of m o entry) (name_of claimed)) (in_order order plans)
