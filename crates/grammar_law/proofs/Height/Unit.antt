-- The text of a module is at most 1,003 high, where its types and functions are shallow.
use Rattle.std.proofs.Common.{◌≡◌, ◌<◌, ◌≤◌, ℕ, zero, suc, Bool, true, false, List, [], ◌∷◌, ◌++◌, Option, Some, None, filter, find, length, map, refl, sym, subst, arith, if◌then◌else◌}
use Rattle.std.specs.Prelude.{Contains, option_and_then, option_to_list}
use Rattle.std.specs.List.{AllZip}
use Rattle.std.proofs.lemmas.List.Elements.{All-contains}
use Rattle.spv_module.specs.State.{ModuleState}
use Rattle.spv_module.specs.Held.{global}
use Rattle.spv_module.specs.declared.inst.Id.{Id}
use Rattle.spv_module.specs.declared.inst.Inst.{Inst}
use Rattle.spv_module.specs.declared.inst.Function.{Function}
use Rattle.conformance.specs.Rules.{Options}
use Rattle.module_check.specs.Judged.{IsRead, IsFine}
use Rattle.module_check.specs.Structure.{IsStructured}
use Rattle.structure_rules.specs.Graph.{graph}
use Rattle.structure_rules.specs.Structure.{IsTooDeep}
use Rattle.nest_place.specs.Nests.{IsSound}
use Rattle.use_chains.specs.Links.{Link}
use Rattle.vec_lowering.specs.Depth.{depth}
use Rattle.vec_lowering.proofs.Heights.{height-lowered_vector}
use Rattle.name_alloc.specs.Naming.{name_of}
use Rattle.glsl_ast.specs.Tree.{Text, Expr, name, TranslationUnit}
use Rattle.glsl_ast.specs.Height.{highest, height, decl_height, unit_height}
use Rattle.text_rules.specs.Constants.{Source, is_constant, constant_expr}
use Rattle.text_rules.specs.Declarations.{shape_at, declarations}
use Rattle.text_items.specs.Globals.{is_input, global_by}
use Rattle.expr_forward.specs.Context.{operand}
use Rattle.function_text.specs.Functions.{FunctionPlan, function_decl}
use Rattle.unit_rules.specs.Translation.{Naming, id_text, global_expr, scope_of, IsPlanOf}
use Rattle.unit_rules.specs.Unit.{has_id, plan_at, in_order, is_called, called, source_of, reached_of, item_names_of, IsUnitOf}
use Rattle.unit_rules.specs.Text.{most_height}
use Rattle.list_law.proofs.Numbers.{le_on}
use Rattle.grammar_law.specs.Shallow.{IsShallow, IsShallowFunction, most_nested}
use Rattle.grammar_law.specs.Nest.{nest}
use Rattle.grammar_law.proofs.Height.Lists.{append-le}
use Rattle.grammar_law.proofs.Height.Functions.{constant-le, function-le}
use Rattle.grammar_law.proofs.Height.Items.{calculated-le, items-le}
use Rattle.grammar_law.proofs.Height.Shapes.{shapes-le}
use Rattle.grammar_law.proofs.Height.Nested.{nest-le}
use Rattle.traces.specs.Invocations.{Invocation}
use Rattle.module_semantics.specs.Setting.{Setting, setting}
use Rattle.typed_law.specs.Conforms.{IsConforming}
use Rattle.accepted_law.proofs.Accepted.{accepted_conforming}
use Rattle.grammar_law.proofs.Height.Closed.{sound-of}
use Rattle.grammar_law.proofs.Height.Chains.{paths-short}
use Rattle.grammar_law.proofs.Height.Extracted.{extracted-few}

-- what is read of a global
by_test-le : (s : Source) (ids : ℕ → Text) (g : Inst) (a b : Bool) (t : Text) (e : Expr) → (if a then Some (constant_expr s ids g) else (if b then Some (name t) else None)) ≡ Some e → height e ≤ 3
by_test-le s ids g true b t e is = let same : constant_expr s ids g ≡ e = cc in subst (λ x. height x ≤ 3) same (constant-le s ids g)
by_test-le s ids g false true t e is = let same : name t ≡ e = cc in subst (λ x. height x ≤ 3) same (omega arith)
by_test-le s ids g false false t e is = cc

global-le : (s : Source) (ids : ℕ → Text) (n : ℕ) (e : Expr) → global_expr s ids n ≡ Some e → height e ≤ 3
global-le s ids n e is = by_global (global s.of.globals n) is
  where
    by_global : (o : Option Inst) → option_and_then (global_by s ids) o ≡ Some e → height e ≤ 3
    by_global None is = cc
    by_global (Some g) is = by_test-le s ids g (is_constant g) (is_input g) _ e is

-- where a planned function is written
scope-shallow : (s : Source) (found : Naming) (f : Function) (links : List Link) → ((ty : ℕ) → depth (shape_at s ty) ≤ 15) → IsShallowFunction s.of.globals f → IsShallow (scope_of s found f links)
scope-shallow s found f links shapes low = record {
  constants = global-le s (id_text found);
  shapes = shapes;
  lowered = λ o number t xs literals deep deeper. height-lowered_vector found o number t literals (map operand xs) deep deeper;
  paths = low.paths;
  extracted = low.extracted;
}

-- what holds of planned functions, in the order of the module and in that of calls
abbrev AllLow : List FunctionPlan → Type 0
AllLow [] = Unit {0}
AllLow (p ∷ ps) = (decl_height (function_decl p) ≤ 1003) × AllLow ps

found-low : (n : Id) (ps : List FunctionPlan) → AllLow ps → AllLow (option_to_list (find (has_id n) ps))
found-low n [] low = tt
found-low n (p ∷ ps) low = by_test (has_id n p) (found-low n ps low.1)
  where
    by_test : (b : Bool) → AllLow (option_to_list (find (has_id n) ps)) → AllLow (option_to_list (if b then Some p else find (has_id n) ps))
    by_test true later = (low.0, tt)
    by_test false later = later

both-low : (ps qs : List FunctionPlan) → AllLow ps → AllLow qs → AllLow (ps ++ qs)
both-low [] qs p q = q
both-low (x ∷ ps) qs p q = (p.0, both-low ps qs p.1 q)

order-low : (order : List Id) (ps : List FunctionPlan) → AllLow ps → AllLow (in_order order ps)
order-low [] ps low = tt
order-low (n ∷ order) ps low = both-low (plan_at ps n) (in_order order ps) (found-low n ps low) (order-low order ps low)

decls-le : (ps : List FunctionPlan) → AllLow ps → highest decl_height (map function_decl ps) ≤ 1003
decls-le [] low = omega arith
decls-le (p ∷ ps) low = let rest = decls-le ps low.1 in let one = low.0 in omega (arith, one, rest)

module _ (s : Source) (found : Naming) (shapes : (ty : ℕ) → depth (shape_at s ty) ≤ 15) where
  plan-low : (f : Function) (p : FunctionPlan) → IsPlanOf s found f p → IsShallowFunction s.of.globals f → nest p.region ≤ most_nested → decl_height (function_decl p) ≤ 1003
  plan-low f p plan low few = function-le p (subst IsShallow (sym plan.scope_is) (scope-shallow s found f plan.links shapes low)) few

-- the items and the functions
unit-of-low : (m : ModuleState) (o : Options) (unit : TranslationUnit) (u : IsUnitOf m o unit) → ((ty : ℕ) → depth (shape_at (source_of m o u.entry) ty) ≤ 15) → AllLow u.plans → unit_height unit ≤ 1003
unit-of-low m o unit u shapes plans =
    let s : Source = source_of m o u.entry in
    let found : Naming = name_of u.claimed in
    subst (λ x. unit_height x ≤ 1003) (sym u.unit_is)
    (append-le decl_height (declarations s (reached_of s u.plans) (item_names_of s found)) (map function_decl (in_order u.order u.plans)) 1003
    (le_on _ _ _ (items-le s shapes (item_names_of s found) (calculated-le s shapes found (id_text found)) (reached_of s u.plans)) (omega arith))
    (decls-le (in_order u.order u.plans) (order-low u.order u.plans plans)))

-- what holds of all functions of a module holds of those that are planned
abbrev EachIs : (Function → Type 0) → List Function → Type 0
EachIs P [] = Unit {0}
EachIs P (f ∷ fs) = P f × EachIs P fs

each-of : (P : Function → Type 0) (fs : List Function) → ((f : Function) → Contains fs f → P f) → EachIs P fs
each-of P [] each = tt
each-of P (f ∷ fs) each = (each f (zero, omega arith, refl), each-of P fs (λ g there. each g (suc there.0, (let less : there.0 < length fs = there.1 in omega (arith, less)), there.2)))

each-filter : (P : Function → Type 0) (test : Function → Bool) (fs : List Function) → EachIs P fs → EachIs P (filter test fs)
each-filter P test [] each = tt
each-filter P test (f ∷ fs) each = by_test (test f) (each-filter P test fs each.1)
  where
    by_test : (b : Bool) → EachIs P (filter test fs) → EachIs P (if b then f ∷ filter test fs else filter test fs)
    by_test true rest = (each.0, rest)
    by_test false rest = rest

-- a function whose paths are short, and whose blocks have their places
pub record IsFit (m : ModuleState) (f : Function) : Type 0 where
  pub shallow : IsShallowFunction m.globals f
  pub sound : IsSound (graph f)

module _ (m : ModuleState) (s : Source) (found : Naming) (shapes : (ty : ℕ) → depth (shape_at s ty) ≤ 15) (same : s.of ≡ m) where
  fit-low : (f : Function) (p : FunctionPlan) → IsPlanOf s found f p → IsFit m f → (IsTooDeep (graph f) → ⊥) → decl_height (function_decl p) ≤ 1003
  fit-low f p plan fit shallow = plan-low s found shapes f p plan (subst (λ (x : ModuleState). IsShallowFunction x.globals f) (sym same) fit.shallow) (nest-le f p.region fit.sound shallow plan.tree)

  fits-low : (fs : List Function) (ps : List FunctionPlan) → AllZip (IsPlanOf s found) fs ps → EachIs (λ f. IsFit m f × (IsTooDeep (graph f) → ⊥)) fs → AllLow ps
  fits-low [] [] planned each = tt
  fits-low [] (p ∷ ps) planned each = absurd planned
  fits-low (f ∷ fs) [] planned each = absurd planned
  fits-low (f ∷ fs) (p ∷ ps) planned each = (fit-low f p planned.0 each.0.0 each.0.1, fits-low fs ps planned.1 each.1)

-- So the text of a module that is not refused is low enough, where no global has the result 0, the paths of its functions are short, and their blocks have places.
pub text-low : (m : ModuleState) (o : Options) (unit : TranslationUnit) → IsFine m o → global m.globals 0 ≡ None → ((f : Function) → Contains m.functions f → IsFit m f) → IsUnitOf m o unit → unit_height unit ≤ most_height
text-low m o unit fine none fit u =
    let s : Source = source_of m o u.entry in
    let found : Naming = name_of u.claimed in
    let shapes = shapes-le m.globals none fine.typed.within in
    let each : EachIs (λ f. IsFit m f × (IsTooDeep (graph f) → ⊥)) m.functions = each-of (λ f. IsFit m f × (IsTooDeep (graph f) → ⊥)) m.functions (λ f there. (fit f there, (All-contains IsStructured m.functions f fine.later.structure there).shallow)) in
    let plans = fits-low m s found shapes refl (called u.order m.functions) u.plans u.planned (each-filter (λ f. IsFit m f × (IsTooDeep (graph f) → ⊥)) (is_called u.order) m.functions each) in
    le_on _ _ _ (unit-of-low m o unit u shapes plans) (omega arith)

-- The text of a conforming module that is not refused is low enough.
pub conforming-low : (s : Setting) (o : Options) (entry : Option (List ℕ)) (unit : TranslationUnit) → IsFine s.of o → IsConforming s.of entry → IsUnitOf s.of o unit → unit_height unit ≤ most_height
conforming-low s o entry unit fine right u =
    text-low s.of o unit fine right.results.none
    (λ f there. record {
      shallow = record { paths = paths-short s entry right fine.typed.within f there; extracted = extracted-few s entry right fine.typed.within f there };
      sound = sound-of f (All-contains IsStructured s.of.functions f fine.later.structure there).unbroken;
    })
    u

-- So is that of each module that was read and is not refused; how high it is hangs on no invocation.
abbrev any-invocation : Invocation
any-invocation = record {
  num_workgroups = (0, 0, 0);
  workgroup_id = (0, 0, 0);
  local_invocation_id = (0, 0, 0);
  global_invocation_id = (0, 0, 0);
  local_invocation_index = 0;
  buffer_bytes = λ set binding. 0;
  specialization = λ id. None;
}

pub accepted-low : (m : ModuleState) (o : Options) (unit : TranslationUnit) → IsRead m → IsFine m o → IsUnitOf m o unit → unit_height unit ≤ most_height
accepted-low m o unit read fine u = conforming-low (setting m 0 [] any-invocation) o o.entry unit fine (accepted_conforming read.bytes m o read.is fine) u
