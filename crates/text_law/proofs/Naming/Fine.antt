-- The functions of a module's text are as the law of functions asks: their names are apart and shared as they should be, and their types are those of their parameters and results.
use Rattle.std.proofs.Common.{◌≡◌, ℕ, Bool, true, false, List, [], ◌∷◌, map, Option, Some, None, inl, inr, refl, sym, ap, ◌∙◌, subst, if◌then◌else◌, unwrap_or}
use Rattle.std.specs.Prelude.{option_and_then}
use Rattle.std.specs.Option.{option_or}
use Rattle.std.proofs.lemmas.Bool.{and_parts}
use Rattle.spv_module.specs.State.{ModuleState}
use Rattle.spv_module.specs.Held.{global}
use Rattle.spv_module.specs.Lists.{id}
use Rattle.spv_module.specs.declared.inst.Id.{Id as IdOf}
use Rattle.spv_module.specs.declared.inst.Inst.{Inst}
use Rattle.spv_module.specs.declared.inst.Function.{Function}
use Rattle.spv_types.specs.Tree as plain
use Rattle.spv_types.specs.Tree.{Tree}
use Rattle.spv_index.specs.Locals.{inst_in, typed, local_type, type_in}
use Rattle.conformance.specs.Rules.{Options}
use Rattle.traces.specs.Invocations.{Invocation}
use Rattle.name_alloc.specs.declared.claims.Key.{Key}
use Rattle.name_alloc.specs.declared.claims.Key.TheVariants.{Id}
use Rattle.glsl_ast.specs.Tree.{Text, TypeName, TranslationUnit}
use Rattle.glsl_semantics.specs.Shapes.{Shape, same_shape}
use Rattle.glsl_semantics.specs.Expressions.{Program, type_of}
use Rattle.glsl_semantics.specs.Run.{result_shape}
use Rattle.text_rules.specs.Printed.{is_private, is_written_variable}
use Rattle.text_rules.specs.Declarations.{spelling, type_at, pointee_at}
use Rattle.expr_forward.specs.Scope.{Scope}
use Rattle.expr_forward.specs.Statements.{is_void_in}
use Rattle.function_text.specs.Functions.{FunctionPlan, written, param_text, result_type}
use Rattle.unit_rules.specs.Translation.{names_of as type_names, scope_of, IsPlanOf}
use Rattle.unit_rules.specs.Unit.{source_of, called, IsUnitOf}
use Rattle.module_semantics.specs.Setting.{Setting}
use Rattle.agree_law.specs.Agree.{Naming}
use Rattle.global_law.specs.Parts.{shape_in}
use Rattle.global_law.specs.Walks.{struct_names}
use Rattle.global_law.proofs.Path.Parts.{sized_lengths}
use Rattle.global_law.proofs.Path.Accesses.{shape_itself}
use Rattle.global_law.proofs.Global.Declared.{named_type, outline_same}
use Rattle.call_law.specs.Known.{IsFunctionOf}
use Rattle.function_law.specs.Passed.{ShareNames, AreOnceIds, AreTypedParameters}
use Rattle.function_law.specs.Texts.{IsFine}
use Rattle.type_law.specs.Shaped.{EachFound}
use Rattle.typed_law.specs.Conforms.{IsParameter, IsConforming}
use Rattle.typed_law.proofs.Lists.{some_by, found_in}
use Rattle.typed_law.proofs.Values.{inside, global_typed_some, typed_is}
use Rattle.grammar_law.proofs.Ruled.Ruled.{contains_of, variable_has}
use Rattle.claim_law.specs.Claimed.{IsIn}
use Rattle.claim_law.proofs.Claim.Flags.{planned_as}
use Rattle.profile_rules.specs.Places.{is_variable}
use Rattle.text_law.specs.Names.{is_written_private, shape_of, text_of_plan}
use Rattle.text_law.specs.Types.{IsTypeOfText, HasTypesOfText}
use Rattle.text_law.proofs.Naming.Alone.{are_alone}
use Rattle.text_law.proofs.Naming.Keys.{S, found, key as key_of, R, names, are_apart}

pub each_found : (gs is : List Inst) → EachFound gs is → (g : Inst) → IsIn g is → global gs g.result ≡ Some g
each_found gs [] each g among = absurd among
each_found gs (i ∷ is) each g (inl same) = subst (λ (x : Inst). global gs x.result ≡ Some x) same each.0
each_found gs (i ∷ is) each g (inr among) = each_found gs is each.1 g among

-- a type that a function gives
gives_type : (p : Program) (t : TypeName) (u : Shape) → type_of p t ≡ Some u → result_shape p (Some t) ≡ Some (Some u)
gives_type p t u e = rw e refl

module _ (m : ModuleState) (o : Options) (unit : TranslationUnit) (u : IsUnitOf m o unit) (inv : Invocation) where
  abbrev s : Setting
  s = S m o unit u inv

  abbrev key : Key → Text
  key = key_of m o unit u inv

  abbrev N : FunctionPlan → Naming
  N = names m o unit u inv

  abbrev shape_by : ℕ → Shape
  shape_by = shape_of s o.overrides (R m o unit u inv) key

  -- types of the text, where it declares them
  module _ (P : Program) where
    -- a type stands for its shape
    pub type_stands : (ty : ℕ) → IsTypeOfText P s o.overrides key ty → type_of P (type_at (source_of m o u.entry) (type_names (found m o unit u inv)) ty) ≡ Some (shape_by ty)
    type_stands ty w =
        ap (type_of P) (outline_same (spelling (source_of m o u.entry) (λ n. key (Id (id n)))) m.globals ty w.shape w.is)
        ∙ (named_type P s (source_of m o u.entry) key w.shape (sized_lengths w.shape w.sized) w.declared
        ∙ ap (λ (a : Option Tree). Some (shape_in s (struct_names key) (unwrap_or a plain.uint))) (sym w.is))

    pub same_type : (ty : ℕ) → IsTypeOfText P s o.overrides key ty → same_shape (shape_by ty) (shape_by ty) ≡ true
    same_type ty w = ap (λ (a : Option Tree). same_shape (shape_in s (struct_names key) (unwrap_or a plain.uint)) (shape_in s (struct_names key) (unwrap_or a plain.uint))) w.is ∙ shape_itself s key w.shape w.sized

  module _ (entry : Option (List ℕ)) (right : IsConforming m entry) where
    -- what stands outside of functions is the same in all of them
    private_type : (f : Function) (n : ℕ) (x : Inst) → global m.globals n ≡ Some x → is_variable x ≡ true → type_in m.globals f n ≡ Some x.ty
    private_type f n x at on =
        ap (λ (a : Option ℕ). option_or a (local_type f n)) (ap (option_and_then typed) at ∙ typed_is x (global_typed_some s entry right x (found_in m.globals n x at) (variable_has x.op on)))

    pub share_names : (p q : FunctionPlan) → ShareNames (N p) (N q)
    share_names p q = record {
      privates = λ n. refl;
      names = λ n on.
          let x = some_by (is_written_private s o.overrides (R m o unit u inv) key) (global m.globals n) on in
          let one = (and_parts (is_variable x.0) _ (and_parts (is_private x.0) (is_written_variable (R m o unit u inv) x.0) x.2).0).0 in
          (refl, ap (λ (a : Option ℕ). shape_by (pointee_at (source_of m o u.entry) (unwrap_or a 0))) (private_type (written q) n x.0 x.1 one ∙ sym (private_type (written p) n x.0 x.1 one)));
      outside = λ x. refl;
    }

    module _ (P : Program) (p : FunctionPlan) (among : IsIn p u.plans) (is_one : IsFunctionOf (written p) m.functions) (types : HasTypesOfText P s o.overrides key (written p)) where
      planned : (f : Function) × IsPlanOf (source_of m o u.entry) (found m o unit u inv) f p
      planned = planned_as (IsPlanOf (source_of m o u.entry) (found m o unit u inv)) (called u.order m.functions) u.plans p u.planned among

      abbrev W : Scope
      W = scope_of (source_of m o u.entry) (found m o unit u inv) planned.0 planned.1.links

      -- the parameters
      abbrev Typed' : List (IdOf × IdOf) → Type 0
      Typed' qs = AreTypedParameters P (N p) qs (map (param_text W) qs)

      parameters_from : (qs : List (IdOf × IdOf)) → ((q : IdOf × IdOf) → IsParameter q qs → IsParameter q (written p).params) → Typed' qs
      parameters_from [] all = tt
      parameters_from (q ∷ qs) all =
          let there = all q (inl refl) in
          let w = types.parameters q there in
          let own = inside s entry right (written p) (contains_of m.functions (written p) is_one) in
          let type_is : type_in m.globals (written p) q.0.0 ≡ Some q.1.0
          = ap (λ (a : Option Inst). option_or (option_and_then typed a) (local_type (written p) q.0.0)) (own.outside q there) ∙ ap (λ (a : Option ℕ). option_or a (option_and_then typed (inst_in (written p) q.0.0))) (own.found q there) in
          let shape_is : shape_by (pointee_at (source_of m o u.entry) q.1.0) ≡ (N p).shape q.0.0
          = ap (λ (a : Option ℕ). shape_by (pointee_at (source_of m o u.entry) (unwrap_or a 0))) (sym type_is) in (
            type_stands P (pointee_at (source_of m o u.entry) q.1.0) w ∙ ap (λ (x : Shape). Some x) shape_is,
            subst (λ (x : Shape). same_shape x x ≡ true) shape_is (same_type P (pointee_at (source_of m o u.entry) q.1.0) w),
            parameters_from qs (λ r one. all r (inr one)),
          )

      typed_parameters : AreTypedParameters P (N p) (written p).params (map (param_text p.scope) (written p).params)
      typed_parameters = subst (λ (w : Scope). AreTypedParameters P (N p) (written p).params (map (param_text w) (written p).params)) (sym planned.1.scope_is) (parameters_from (written p).params (λ q one. one))

      -- and the result
      function_is : written p ≡ planned.0
      function_is = ap (λ (w : Scope). w.setting.function) planned.1.scope_is

      result_by : (f : Function) → (is_void_in m.globals f.result.0 ≡ false → IsTypeOfText P s o.overrides key f.result.0) → (t : Bool) → is_void_in m.globals f.result.0 ≡ t
          → result_shape P (if t then None else Some (type_at (source_of m o u.entry) (type_names (found m o unit u inv)) f.result.0)) ≡ Some (if t then None else Some (shape_by f.result.0))
      result_by f has true e = refl
      result_by f has false e = gives_type P (type_at (source_of m o u.entry) (type_names (found m o unit u inv)) f.result.0) (shape_by f.result.0) (type_stands P f.result.0 (has e))

      result_is : result_shape P (result_type p.scope) ≡ Some (N p).result
      result_is =
          ap (λ (w : Scope). result_shape P (result_type w)) planned.1.scope_is
          ∙ (result_by planned.0 (subst (λ (f : Function). is_void_in m.globals f.result.0 ≡ false → IsTypeOfText P s o.overrides key f.result.0) function_is types.result) (is_void_in m.globals planned.0.result.0) refl
          ∙ ap (λ (f : Function). Some (if is_void_in m.globals f.result.0 then None else Some (shape_by f.result.0))) (sym function_is))

      -- So a function of the text is as the law asks.
      pub is_fine : AreOnceIds (written p).params → IsFine P (text_of_plan s o.overrides (R m o unit u inv) key p)
      is_fine once = record {
        apart = are_apart m o unit u inv p among (are_alone s entry right (written p) is_one) (each_found m.globals m.globals right.results.each);
        shape = result_is;
        typed = typed_parameters;
        once = once;
      }
