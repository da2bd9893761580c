-- The functions that calls reach, by the plans that the code makes of them, and the unit that it makes.
use Rattle.std.specs.Prelude.{ℕ, ◌≡◌, ◌==◌, Bool, List, ◌++◌, Option, Some, None, find, flat_map, if◌then◌else◌, map, option_map, option_to_list, ◌∷◌, []}
use Rattle.std.specs.List.{AllZip, list_any, position_from}
use Rattle.id_map.specs.declared.places.PlaceMap.{PlaceMap}
use Rattle.id_map.specs.declared.set.IdSet.{IdSet}
use Rattle.id_map.specs.Entries.{id_place, is_in}
use Rattle.spv_module.specs.declared.inst.Id.{Id}
use Rattle.spv_module.specs.declared.inst.Inst.{Inst}
use Rattle.spv_module.specs.declared.inst.Function.{Function}
use Rattle.name_alloc.specs.declared.claims.Claim.{Claim}
use Rattle.name_alloc.specs.declared.claims.Key.{Key}
use Rattle.name_alloc.specs.declared.claims.Names.{Names as Given}
use Rattle.name_alloc.specs.Law.{AreNames}
use Rattle.name_alloc.specs.Naming.{name_of}
use Rattle.name_alloc.specs.Lookup.{name_in}
use Rattle.profile_rules.specs.declared.size.SizePart.{SizePart}
use Rattle.glsl_ast.specs.Tree.{Expr, Decl, TranslationUnit, translation_unit}
use Rattle.glsl_ast.specs.View.{decl_of}
use Rattle.constant_text.specs.Named.{id_names}
use Rattle.text_rules.specs.Constants.{Source, sizes_by}
use Rattle.text_rules.specs.Printed.{Reached}
use Rattle.text_rules.specs.Declarations.{declarations}
use Rattle.text_rules.specs.Claims.{Plan, claims}
use Rattle.text_items.specs.Names.{item_names}
use Rattle.text_items.specs.View.{claims_of}
use Rattle.expr_forward.specs.Globals.{global_in}
use Rattle.expr_forward.specs.declared.globals.Globals.{Globals}
use Rattle.function_plan.specs.declared.plan.FunctionPlan.{FunctionPlan as Planned}
use Rattle.unit_text.specs.declared.heads.Head.{Head}
use Rattle.function_plan.specs.Claimed.{claimed_by}
use Rattle.function_plan.specs.Plans.{IsPlanned}
use Rattle.unit_rules.specs.Translation.{global_expr}
use Rattle.unit_rules.specs.Unit.{called}
use Rattle.function_text.specs.State.{decl_with}
use Rattle.function_text.specs.Live.{mentions_in, types_in}
use Rattle.spv_module.specs.State.{ModuleState}

abbrev pub function_in : Planned → Function
function_in p = p.locals

abbrev pub reached_in : List Planned → Reached
reached_in ps = record { functions = map function_in ps; types = flat_map types_in ps; mentions = flat_map mentions_in ps }

-- the id of a function is among these
abbrev pub is_among : IdSet → Function → Bool
is_among ids f = is_in ids f.id.0

-- names that are given by what is claimed: each is one that its key may have, and keys of one space have names of their own
pub record AreNamesOf (s : Source) (r : Reached) (plans : List Plan) (names : Given) : Type 0 where
  pub claimed : List Claim
  pub claims_are : claims_of claimed ≡ claims s r plans
  pub names_are : (key : Key) → name_in names key ≡ name_of claimed key
  pub lawful : AreNames (name_in names)

-- the names of a text, and its items before the functions
pub record IsHead (s : Source) (r : Reached) (plans : List Plan) (h : Head) : Type 0 where
  pub named : AreNamesOf s r plans h.names
  pub items_are : map decl_of h.items.items ≡ declarations s r (item_names s h.names)

abbrev pub AreGlobals : Source → Given → Globals → Type 0
AreGlobals s names globals = (n : ℕ) → global_in globals n ≡ global_expr s (id_names names) n

-- what is put for an id, where there is something
abbrev pub or_before : Option Expr → Option Expr → Option Expr
or_before before None = before
or_before before (Some e) = Some e

-- the id of its function
abbrev pub id_in : Planned → ℕ
id_in p = p.locals.id.0

abbrev pub has_id : ℕ → Planned → Bool
has_id n p = id_in p == n

-- the first plan of a function with each id
pub record ArePlaces (ps : List Planned) (places : PlaceMap) : Type 0 where
  pub each : (n : ℕ) → id_place places n ≡ position_from (has_id n) 0 ps

abbrev pub planned_at : List Planned → ℕ → Option Planned
planned_at ps n = find (has_id n) ps

abbrev pub decls_at : Source → Given → Globals → List Planned → Id → List Decl
decls_at s names globals ps n = option_to_list (option_map (decl_with s names globals) (planned_at ps n.0))

-- an instruction has a result
abbrev pub has_result : ℕ → Inst → Bool
has_result n g = g.result == n

-- what is read of those whose results are among these instructions
abbrev pub expr_among : Source → Given → List Inst → ℕ → Option Expr
expr_among s names gs n = if list_any (has_result n) gs then global_expr s (id_names names) n else None

-- functions by their plans, in this order, behind what there was
pub record AreAdded (s : Source) (names : Given) (ps : List Planned) (order : List Id) (old new : List Decl) : Type 0 where
  pub globals : Globals
  pub globals_are : AreGlobals s names globals
  pub items_are : new ≡ old ++ flat_map (decls_at s names globals ps) order

-- the tree of a text with planned functions, in this order
pub record IsWritten (s : Source) (size : List SizePart) (order : List Id) (ps : List Planned) (unit : TranslationUnit) : Type 0 where
  pub names : Given
  pub globals : Globals
  pub named : AreNamesOf s (reached_in ps) (map claimed_by ps) names
  pub globals_are : AreGlobals s names globals
  pub unit_is : unit ≡ translation_unit (sizes_by s.overrides size) (declarations s (reached_in ps) (item_names s names) ++ flat_map (decls_at s names globals ps) order)

-- so it is made, of the functions with these ids
pub record IsMade (s : Source) (size : List SizePart) (order : List Id) (unit : TranslationUnit) : Type 0 where
  pub plans : List Planned
  pub planned : AllZip (IsPlanned s.of) (called order s.of.functions) plans
  pub made : IsWritten s size order plans unit

-- the plans of functions that pass, after those of others
pub record IsPlannedNext (m : ModuleState) (passes : Function → Bool) (f : Function) (old new : List Planned) : Type 0 where
  pub each : (fs : List Function) → AllZip (IsPlanned m) fs old → AllZip (IsPlanned m) (fs ++ (if passes f then f ∷ [] else [])) new
