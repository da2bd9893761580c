-- The functions of the text of a module are those of its planned functions, in the order of calls, and these are the functions of the module that calls reach.
use Rattle.std.proofs.Common.{◌≡◌, Bool, true, false, List, [], ◌∷◌, ◌++◌, map, Option, Some, None, refl, ap, ap₂, ◌∙◌, if◌then◌else◌}
use Rattle.std.specs.Prelude.{flat_map}
use Rattle.std.specs.List.{AllZip}
use Rattle.std.proofs.lemmas.Grind.{flat_map-append}
use Rattle.spv_module.specs.State.{ModuleState}
use Rattle.spv_module.specs.declared.inst.Inst.{Inst}
use Rattle.spv_module.specs.declared.inst.Function.{Function}
use Rattle.layout_rules.specs.Blocks.{block_of}
use Rattle.conformance.specs.Rules.{Options}
use Rattle.name_alloc.specs.Naming.{name_of}
use Rattle.glsl_ast.specs.Tree as text
use Rattle.glsl_ast.specs.Tree.{Text, Stmts, TranslationUnit}
use Rattle.text_rules.specs.Constants.{Source}
use Rattle.text_rules.specs.Printed.{Reached, is_private, is_written_struct, is_declared_constant, is_written_variable}
use Rattle.text_rules.specs.Declarations.{Names, type_at, pointee_at, initial, struct_decl, constant_decl, variable_decl, declaration, declarations}
use Rattle.function_text.specs.Functions.{FunctionPlan, written, function_decl}
use Rattle.unit_rules.specs.Translation.{Naming, IsPlanOf}
use Rattle.unit_rules.specs.Unit.{in_order, source_of, reached_of, item_names_of, IsUnitOf}
use Rattle.claim_law.specs.Bodies.{function_in, functions_in}

-- no item before the functions is one
no_variable : (s : Source) (names : Names) (v : Inst) (b : Option Inst) → flat_map function_in (variable_decl s names v b) ≡ []
no_variable s names v (Some g) = refl
no_variable s names v None = by_private (is_private v)
  where
    by_private : (q : Bool) → flat_map function_in ((if q then text.global (type_at s names (pointee_at s v.ty)) (names.id v.result) (initial s names v) else text.shared (type_at s names (pointee_at s v.ty)) (names.id v.result)) ∷ []) ≡ []
    by_private true = refl
    by_private false = refl

no_item : (s : Source) (r : Reached) (names : Names) (g : Inst) → flat_map function_in (declaration s r names g) ≡ []
no_item s r names g = by_tests (is_written_struct s r g) (is_declared_constant s r g) (is_written_variable r g)
  where
    by_tests : (a b c : Bool) → flat_map function_in (if a then struct_decl s names g ∷ [] else (if b then constant_decl s names g ∷ [] else (if c then variable_decl s names g (block_of s.of.globals g) else []))) ≡ []
    by_tests true b c = refl
    by_tests false true c = refl
    by_tests false false true = no_variable s names g (block_of s.of.globals g)
    by_tests false false false = refl

no_items : (s : Source) (r : Reached) (names : Names) (gs : List Inst) → flat_map function_in (flat_map (declaration s r names) gs) ≡ []
no_items s r names [] = refl
no_items s r names (g ∷ gs) =
    flat_map-append function_in (declaration s r names g) (flat_map (declaration s r names) gs)
    ∙ (ap (λ (l : List (Text × Stmts)). l ++ flat_map function_in (flat_map (declaration s r names) gs)) (no_item s r names g)
    ∙ no_items s r names gs)

pub written_are : (s : Source) (found : Naming) (fs : List Function) (ps : List FunctionPlan) → AllZip (IsPlanOf s found) fs ps → map written ps ≡ fs
written_are s found [] [] all = refl
written_are s found [] (p ∷ ps) all = absurd all
written_are s found (f ∷ fs) [] all = absurd all
written_are s found (f ∷ fs) (p ∷ ps) all = ap₂ (λ (g : Function) l. g ∷ l) (ap (λ w. w.setting.function) all.0.scope_is) (written_are s found fs ps all.1)

module _ (m : ModuleState) (o : Options) (unit : TranslationUnit) (u : IsUnitOf m o unit) where
  abbrev src : Source
  src = source_of m o u.entry

  -- The functions of the text are those of the plans.
  pub bodies_are : functions_in unit ≡ flat_map function_in (map function_decl (in_order u.order u.plans))
  bodies_are =
      ap functions_in u.unit_is
      ∙ (flat_map-append function_in (declarations src (reached_of src u.plans) (item_names_of src (name_of u.claimed))) (map function_decl (in_order u.order u.plans))
      ∙ ap (λ (l : List (Text × Stmts)). l ++ flat_map function_in (map function_decl (in_order u.order u.plans))) (no_items src (reached_of src u.plans) (item_names_of src (name_of u.claimed)) m.globals))
