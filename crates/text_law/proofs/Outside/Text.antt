-- The text of an accepted module: its functions are those that calls reach, and its variables those of the module that these mention.
use Rattle.std.proofs.Common.{◌≡◌, ◌++◌, ℕ, true, false, List, [], ◌∷◌, map, Option, Some, refl, sym, ap, ◌∙◌, subst}
use Rattle.std.specs.Prelude.{option_and_then, unwrap_or}
use Rattle.std.specs.Option.{option_or}
use Rattle.spv_module.specs.Held.{global}
use Rattle.spv_module.specs.State.{ModuleState}
use Rattle.spv_module.specs.declared.inst.Inst.{Inst}
use Rattle.spv_module.specs.declared.inst.Function.{Function}
use Rattle.spv_types.specs.Tree as plain
use Rattle.spv_types.specs.Tree.{Tree}
use Rattle.spv_types.specs.Types.{type_tree}
use Rattle.spv_index.specs.Locals.{typed, local_type, type_in}
use Rattle.spv_index.specs.Pointers.{pointee}
use Rattle.conformance.specs.Rules.{Options}
use Rattle.module_check.specs.Judged.{IsFine}
use Rattle.module_check.specs.ReadFrom.{IsReadFrom}
use Rattle.profile_rules.specs.Places.{is_variable}
use Rattle.traces.specs.Invocations.{Invocation, IsInvocation}
use Rattle.module_semantics.specs.Setting.{Setting, global_variable, is_mentioned}
use Rattle.name_alloc.specs.declared.claims.Key.{Key}
use Rattle.glsl_ast.specs.Tree.{Text, Decl, TranslationUnit}
use Rattle.glsl_semantics.specs.Expressions.{Program}
use Rattle.glsl_semantics.specs.Items.{Declared, declared_by}
use Rattle.text_rules.specs.Constants.{Source, sizes}
use Rattle.text_rules.specs.Printed.{Reached, is_operand_in}
use Rattle.text_rules.specs.Declarations.{declarations, shape_at, pointee_at}
use Rattle.function_text.specs.Functions.{FunctionPlan, function_decl}
use Rattle.unit_rules.specs.Unit.{item_names_of, source_of, called, in_order, IsUnitOf}
use Rattle.plan_law.specs.InOrder.{IsAmong}
use Rattle.fits_law.proofs.Steps.{named}
use Rattle.typed_law.proofs.Lists.{found_in}
use Rattle.typed_law.proofs.Values.{typed_is, global_typed_some}
use Rattle.typed_law.proofs.Calls.{global_variable_is, global_points}
use Rattle.type_law.specs.Shaped.{HasConstants}
use Rattle.typed_law.specs.Conforms.{IsConforming}
use Rattle.accepted_law.proofs.Accepted.{accepted_conforming}
use Rattle.grammar_law.proofs.Ruled.Ruled.{variable_has}
use Rattle.memory_places.specs.Mentions.{is_among_ids, with_ids, mention}
use Rattle.memory_places.proofs.Reached.{mentioned_are}
use Rattle.global_law.specs.Parts.{shape_in}
use Rattle.global_law.specs.Walks.{struct_names}
use Rattle.global_law.specs.Sources.{chosen}
use Rattle.global_law.proofs.Global.Shared.{mentioned_same}
use Rattle.global_law.specs.Items.{AreAsked}
use Rattle.global_law.proofs.Constant.Constants.{AreFunctions, P as program_of}
use Rattle.claim_law.proofs.Claim.Bodies.{written_are}
use Rattle.grammar_law.proofs.Unit.Lists.{as_in, split_at}
use Rattle.text_law.specs.Names.{shape_of}
use Rattle.text_law.proofs.Naming.Keys.{S, found as names_found, key as key_of, R}
use Rattle.text_law.specs.Left.{IsLeftOfGlobals}
use Rattle.text_law.proofs.Outside.Asked.{are_asked}

-- functions are functions
functions_of : (ps : List FunctionPlan) → AreFunctions (map function_decl ps)
functions_of [] = tt
functions_of (p ∷ ps) = (tt, functions_of ps)

module _ (bytes : List ℕ) (m : ModuleState) (o : Options) (read : IsReadFrom bytes m) (fine : IsFine m o) (unit : TranslationUnit) (u : IsUnitOf m o unit) (inv : Invocation) (told : IsInvocation inv) (left : IsLeftOfGlobals bytes m o) where
  abbrev s : Setting
  s = S m o unit u inv

  abbrev found : Key → Option Text
  found = names_found m o unit u inv

  abbrev key : Key → Text
  key = key_of m o unit u inv

  abbrev r : Reached
  r = R m o unit u inv

  abbrev src : Source
  src = source_of m o u.entry

  abbrev Gs : List Inst
  Gs = m.globals

  abbrev right : IsConforming m o.entry
  right = accepted_conforming bytes m o read fine

  abbrev have : HasConstants s (chosen s o.overrides)
  have = λ k. refl

  abbrev pub fs : List Decl
  fs = map function_decl (in_order u.order u.plans)

  pub are_functions : AreFunctions fs
  are_functions = functions_of (in_order u.order u.plans)

  abbrev pub asked : AreAsked s o.entry o.overrides found r
  asked = are_asked bytes m o read fine unit u inv told left

  -- what its items and functions declare
  abbrev pub D : Declared
  D = declared_by inv (sizes src) (declarations src r (item_names_of src found) ++ fs)

  abbrev pub P : Program
  P = D.program

  program_is : P ≡ program_of s o.entry o.overrides found r asked fs are_functions
  program_is = refl

  -- what these mention is what functions mention that calls reach
  pub mentions : (n : ℕ) → is_operand_in r.functions n ≡ is_mentioned s n
  mentions n =
      ap (λ l. is_operand_in l n) (written_are src found (called u.order m.functions) u.plans u.planned) ∙ mentioned_same (called u.order m.functions) n
      ∙ (mentioned_are m u.entry u.order (is_among_ids u.order) (λ k. false) (mention (with_ids (is_among_ids u.order) m.functions)) u.calls (λ k. refl) (λ k. refl) (λ k. refl)).each n

  -- a variable of the module
  module _ (n : ℕ) (v : Inst) (is_it : global_variable s n ≡ Some v) where
    pub there : global Gs n ≡ Some v
    there = (global_variable_is s o.entry right (chosen s o.overrides) have n v is_it).0

    pub variable : is_variable v ≡ true
    variable = (global_variable_is s o.entry right (chosen s o.overrides) have n v is_it).1

    pub itself : v.result ≡ n
    itself = named Gs n v there

    pub among : IsAmong v Gs
    among = found_in Gs n v there

    pub split : (before : List Inst) × (after : List Inst) × (Gs ≡ before ++ v ∷ after)
    split = split_at Gs v (as_in Gs v among)

    pub points : (q : ℕ) × (t : Tree) × (pointee Gs v.ty ≡ Some q) × (type_tree Gs q ≡ Some t)
    points = let w = global_points s o.entry right (chosen s o.overrides) have n v is_it in (w.0, w.1, w.2, w.3)

    pub own : global_variable s v.result ≡ Some v
    own = subst (λ k. global_variable s k ≡ Some v) (sym itself) is_it

    -- its type, and that of what it points to, in a function
    pub type_is : (f : Function) → type_in Gs f n ≡ Some v.ty
    type_is f = ap (λ a. option_or a (local_type f n)) (ap (option_and_then typed) there ∙ typed_is v (global_typed_some s o.entry right v among (variable_has v.op variable)))

    pub shape_is : (f : Function) → shape_of s o.overrides r key (pointee_at src (unwrap_or (type_in Gs f n) 0)) ≡ shape_in s (struct_names key) points.1
    shape_is f =
        ap (λ a. shape_in s (struct_names key) (shape_at src (pointee_at src (unwrap_or a 0)))) (type_is f)
        ∙ ap (λ a. shape_in s (struct_names key) (shape_at src (unwrap_or a v.ty))) points.2
        ∙ ap (λ a. shape_in s (struct_names key) (unwrap_or a plain.uint)) points.3
