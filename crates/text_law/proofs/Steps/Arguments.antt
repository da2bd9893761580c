-- What is written of the arguments of a call is what its function takes: an argument that is a value says it, and one that is a pointer is the name of a variable or of a pointer parameter (M4).
use Rattle.std.proofs.Common.{◌≡◌, ◌⊎◌, ◌&&◌, not, ℕ, Bool, true, false, List, [], ◌∷◌, map, length, Contains, Option, Some, None, unwrap_or, inl, inr, refl, sym, ap, ◌∙◌, subst, arith, if◌then◌else◌}
use Rattle.std.specs.Prelude.{option_map, option_and_then, is_some, slice_index}
use Rattle.std.specs.Option.{option_map_or}
use Rattle.std.specs.List.{list_any}
use Rattle.std.proofs.lemmas.Bool.{and_from, or_left as first_on, not-false}
use Rattle.spv_module.specs.Held.{global}
use Rattle.spv_module.specs.Lists.{id}
use Rattle.spv_module.specs.State.{ModuleState}
use Rattle.spv_module.specs.declared.inst.Id.{Id as IdOf}
use Rattle.spv_module.specs.declared.inst.Inst.{Inst}
use Rattle.spv_module.specs.declared.inst.Function.{Function}
use Rattle.spv_types.specs.Tree.{Tree, ValueTree}
use Rattle.spv_types.specs.Types.{type_tree}
use Rattle.spv_index.specs.Locals.{insts_of, type_in}
use Rattle.spv_index.specs.Pointers.{pointer as pointer_row, pointee, storage_class, pointee_of}
use Rattle.conformance.specs.Rules.{Options}
use Rattle.module_check.specs.Judged.{IsFine}
use Rattle.module_check.specs.ReadFrom.{IsReadFrom}
use Rattle.profile_rules.specs.MemoryRules.{is_pointer, is_own_memory, is_other_pointer}
use Rattle.access_paths.specs.Ways.{Way, path}
use Rattle.traces.specs.Invocations.{Invocation, IsInvocation}
use Rattle.traces.specs.Outcomes.{Result, got}
use Rattle.module_semantics.specs.Setting.{Setting}
use Rattle.module_semantics.specs.State.{Root, Held, value as holds_value, pointer, Frame}
use Rattle.module_semantics.specs.Operands.{as_value, held, value_at}
use Rattle.op_semantics.specs.Component.{each_one}
use Rattle.name_alloc.specs.declared.claims.Key.{Key}
use Rattle.name_alloc.specs.declared.claims.Key.TheVariants.{Id}
use Rattle.glsl_ast.specs.Tree.{Text, Expr, param, TypeName, name, TranslationUnit}
use Rattle.glsl_semantics.specs.Shapes.{Shape, Typed, typed}
use Rattle.glsl_semantics.specs.States.{State}
use Rattle.glsl_semantics.specs.Expressions.{Program, Argument, evaluate}
use Rattle.text_rules.specs.Declarations.{pointee_at, type_at}
use Rattle.expr_forward.specs.Scope.{Scope, globals as globals_in}
use Rattle.expr_forward.specs.Paths.{name_in, way_text, lvalue_expr, place_expr}
use Rattle.expr_forward.specs.Statements.{call_argument}
use Rattle.expr_forward.specs.Values.{value}
use Rattle.text_items.specs.Globals.{global_by}
use Rattle.function_text.specs.Functions.{FunctionPlan, written, is_hoisted, param_text}
use Rattle.unit_rules.specs.Translation.{id_text}
use Rattle.name_alloc.specs.Naming.{name_of}
use Rattle.unit_rules.specs.Unit.{source_of, IsUnitOf}
use Rattle.fits_law.specs.State.{value_shape}
use Rattle.fits_law.proofs.Steps.{named}
use Rattle.fits_law.proofs.Operations.{before_some}
use Rattle.agree_law.specs.Agree.{Naming}
use Rattle.call_law.specs.Known.{is_parameter, IsFunctionOf}
use Rattle.global_law.specs.Chains.{NoneMakes}
use Rattle.global_law.proofs.Path.Ways.{start_way}
use Rattle.function_law.specs.Passed.{IsArgument, ArgumentSays, ArgumentsSay}
use Rattle.typed_law.specs.Conforms.{IsConforming, IsParameter}
use Rattle.typed_law.proofs.Calls.{AreOfTypes}
use Rattle.typed_law.proofs.Lists.{and_left, and_off, or_left, or_right, clash, found_in}
use Rattle.typed_law.proofs.Values.{inside, own_local}
use Rattle.grammar_law.proofs.Ruled.Ruled.{contains_of}
use Rattle.global_law.proofs.Constant.Written.{no_pointee}
use Rattle.claim_law.specs.Claimed.{IsIn}
use Rattle.grammar_law.proofs.Unit.Ways.{HaveKinds, plan_is}
use Rattle.text_law.proofs.Naming.Keys.{S, R, key as key_of, names as names_in}
use Rattle.text_law.specs.Names.{shape_of, is_value_parameter, is_result}
use Rattle.text_law.proofs.Naming.Alone.{are_alone, variable_inst}
use Rattle.text_law.specs.Left.{IsLeftOfGlobals}
use Rattle.text_law.proofs.Outside.Locals.{param_type}
use Rattle.text_law.proofs.Outside.Starts.{own_start, parameter_start}
use Rattle.text_law.proofs.Outside.Text.{P as program_in}

-- a pointer type has a class and points to something
pointed_so : (gs : List Inst) (x : Option ℕ) → is_some (option_and_then (storage_class gs) x) ≡ is_some (option_and_then (pointee gs) x)
pointed_so gs None = refl
pointed_so gs (Some ty) = by_row (pointer_row gs ty)
  where
    by_row : (x : Option Inst) → is_some (option_map (λ (g : Inst). slice_index g.args 0) x) ≡ is_some (option_map (λ (g : Inst). slice_index g.args 1) x)
    by_row None = refl
    by_row (Some g) = refl

module _ (bytes : List ℕ) (m : ModuleState) (o : Options) (read : IsReadFrom bytes m) (fine : IsFine m o) (unit : TranslationUnit) (u : IsUnitOf m o unit) (inv : Invocation) (told : IsInvocation inv) (left : IsLeftOfGlobals bytes m o)
    (right : IsConforming m o.entry) (kinds : HaveKinds m.globals) (p : FunctionPlan) (among : IsIn p u.plans) (q : FunctionPlan) (called : IsIn q u.plans) (in_it : Contains m.functions (written q)) (is_one : IsFunctionOf (written p) m.functions) where
  abbrev s : Setting
  s = S m o unit u inv

  abbrev Gs : List Inst
  Gs = m.globals

  abbrev key : Key → Text
  key = key_of m o unit u inv

  abbrev N : Naming
  N = names_in m o unit u inv p

  abbrev Other : Naming
  Other = names_in m o unit u inv q

  abbrev f : Function
  f = written p

  abbrev g : Function
  g = written q

  abbrev P : Program
  P = program_in bytes m o read fine unit u inv told left

  abbrev W : Scope
  W = p.scope

  globals_are : (x : FunctionPlan) → IsIn x u.plans → globals_in x.scope ≡ Gs
  globals_are x x_in = ap globals_in (plan_is s o.entry right kinds o unit u x x_in).scope_is

  key_is : (x : FunctionPlan) → IsIn x u.plans → (k : Key) → x.scope.setting.key k ≡ key k
  key_is x x_in k = ap (λ (w : Scope). w.setting.key k) (plan_is s o.entry right kinds o unit u x x_in).scope_is

  module _ (calls : Text → List Argument → State → Result (Option Typed × State)) (z : State) (b : ℕ) (done : List Inst) where
    -- a variable of the function, and a pointer parameter, are written as their names
    place_named : (n : ℕ) → NoneMakes n (insts_of f) → W.setting.global n ≡ None → place_expr W.setting b n ≡ name (N.name n)
    place_named n none itself =
        ap (λ (gs : List Inst). lvalue_expr (way_text W.setting (path gs f b n))) (globals_are p among)
        ∙ (ap (λ (way : Way). lvalue_expr (way_text W.setting way)) (start_way Gs f b n none)
        ∙ (ap (λ (e : Option Expr). name (option_map_or name_in e (W.setting.key (Id (id n))))) itself ∙ ap name (key_is p among (Id (id n)))))

    kind_of_pointer : (n : ℕ) → is_pointer Gs f n ≡ true → is_other_pointer Gs f n ≡ false → (N.is_variable n ≡ true) ⊎ (N.is_lent n ≡ true)
    kind_of_pointer n on mine = by_parameter (is_parameter f n) refl
      where
        own : is_own_memory f n ≡ true
        own = not-false (is_own_memory f n) (and_off (is_pointer Gs f n) (not (is_own_memory f n)) mine on)

        by_parameter : (t : Bool) → is_parameter f n ≡ t → (N.is_variable n ≡ true) ⊎ (N.is_lent n ≡ true)
        by_parameter true parameter = inr (and_from (is_parameter f n) (is_pointer Gs f n) parameter on)
        by_parameter false parameter = inl (ap (λ (t : Bool). not t && is_own_memory f n) parameter ∙ own)

    -- neither is the module's
    unread : (n : ℕ) → global Gs n ≡ None → W.setting.global n ≡ None
    unread n none = ap (λ (w : Scope). w.setting.global n) (plan_is s o.entry right kinds o unit u p among).scope_is ∙ ap (option_and_then (global_by (source_of m o u.entry) (id_text (name_of u.claimed)))) none

    pointer_named : (n : ℕ) → (N.is_variable n ≡ true) ⊎ (N.is_lent n ≡ true) → place_expr W.setting b n ≡ name (N.name n)
    pointer_named n (inl variable) =
        let v = variable_inst f n variable in
        let there = found_in (insts_of f) n v.0 v.1 in
        place_named n (own_start bytes m o read fine unit u inv told left p among calls z b done n variable).none
        (unread n (subst (λ (j : ℕ). global Gs j ≡ None) (named (insts_of f) n v.0 v.1) (own_local s o.entry right f (contains_of m.functions f is_one) v.0 there)))
    pointer_named n (inr lent) =
        place_named n (parameter_start bytes m o read fine unit u inv told left p among calls z b done n lent).none
        (unread n ((are_alone s o.entry right f is_one).parameters n (and_left (is_parameter f n) (is_pointer Gs f n) lent)).1)

    -- one argument
    module _ (x : IdOf × IdOf) (of_it : IsParameter x g.params) (n : ℕ) (typed_as : type_in Gs g x.0.0 ≡ type_in Gs f n) where
      parameter_on : is_parameter g x.0.0 ≡ true
      parameter_on = ap is_some ((inside s o.entry right g in_it).found x of_it)

      pointer_same : is_pointer Gs g x.0.0 ≡ is_pointer Gs f n
      pointer_same = ap (λ (t : Option ℕ). is_some (option_and_then (storage_class Gs) t)) typed_as

      shape_same : Other.shape x.0.0 ≡ N.shape n
      shape_same = ap (λ (t : Option ℕ). shape_of s o.overrides (R m o unit u inv) key (pointee_at (source_of m o u.entry) (unwrap_or t 0))) typed_as

      -- whether it is a pointer, as both texts tell it
      given_so : is_some (pointee_of (globals_in W) W.setting.function n) ≡ is_pointer Gs f n
      given_so = ap (λ (gs : List Inst). is_some (pointee_of gs f n)) (globals_are p among) ∙ sym (pointed_so Gs (type_in Gs f n))

      taken_so : is_some (pointee (globals_in q.scope) x.1.0) ≡ is_pointer Gs f n
      taken_so =
          ap (λ (gs : List Inst). is_some (pointee gs x.1.0)) (globals_are q called)
          ∙ (ap (λ (t : Option ℕ). is_some (option_and_then (pointee Gs) t)) (sym (param_type bytes m o read fine unit u inv told left q called x of_it) ∙ typed_as)
          ∙ sym (pointed_so Gs (type_in Gs f n)))

      abbrev type_text : TypeName
      type_text = type_at q.scope.setting.source q.scope.names (pointee_at q.scope.setting.source x.1.0)

      abbrev name_text : Text
      name_text = q.scope.setting.key (Id x.0)

      abbrev Says : Held → Bool → Expr → Type 0
      Says h a e = ArgumentSays P calls N Other z x.0.0 n h (param a type_text name_text) e

      value_said : is_pointer Gs f n ≡ false → (v : ValueTree) → evaluate P calls (value W b n) z ≡ got [] (typed (N.shape n) v, z) → Says (holds_value v) false (value W b n)
      value_said off v says = record {
        parameter = key_is q called (Id x.0);
        outer = first_on (is_value_parameter Gs g x.0.0) (is_hoisted (q.scope.form x.0.0) && is_result g x.0.0) (and_from (is_parameter g x.0.0) (not (is_pointer Gs g x.0.0)) parameter_on (ap not (pointer_same ∙ off)));
        says = says ∙ ap (λ (t : Shape). got [] (typed t v, z)) (sym shape_same);
      }

      pointer_said : is_pointer Gs f n ≡ true → is_other_pointer Gs f n ≡ false → (r : Root) (way : List ℕ) → Says (pointer r way) true (place_expr W.setting b n)
      pointer_said on mine r way =
          let kind = kind_of_pointer n on mine in
          record {
            parameter = key_is q called (Id x.0);
            lent = and_from (is_parameter g x.0.0) (is_pointer Gs g x.0.0) parameter_on (pointer_same ∙ on);
            shape = shape_same;
            kind = kind;
            is = pointer_named n kind;
          }

      by_kind : (h : Held) (a : Bool) → is_pointer Gs f n ≡ a → is_other_pointer Gs f n ≡ false → ((v : ValueTree) → h ≡ holds_value v → (is_pointer Gs f n ≡ false) × (evaluate P calls (value W b n) z ≡ got [] (typed (N.shape n) v, z)))
          → ((r : Root) (way : List ℕ) → h ≡ pointer r way → is_pointer Gs f n ≡ true) → Says h a (if a then place_expr W.setting b n else value W b n)
      by_kind (holds_value v) true is mine values pointers = clash (sym is ∙ (values v refl).0)
      by_kind (holds_value v) false is mine values pointers = value_said is v (values v refl).1
      by_kind (pointer r way) true is mine values pointers = pointer_said is mine r way
      by_kind (pointer r way) false is mine values pointers = clash (sym (pointers r way refl) ∙ is)

      argument_says : (h : Held) → is_other_pointer Gs f n ≡ false → ((v : ValueTree) → h ≡ holds_value v → (is_pointer Gs f n ≡ false) × (evaluate P calls (value W b n) z ≡ got [] (typed (N.shape n) v, z)))
          → ((r : Root) (way : List ℕ) → h ≡ pointer r way → is_pointer Gs f n ≡ true) → ArgumentSays P calls N Other z x.0.0 n h (param_text q.scope x) (call_argument W b n)
      argument_says h mine values pointers =
          subst (λ (a : Bool). Says h a (call_argument W b n)) (sym taken_so)
          (subst (λ (a : Bool). Says h (is_pointer Gs f n) (if a then place_expr W.setting b n else value W b n)) (sym given_so) (by_kind h (is_pointer Gs f n) refl mine values pointers))

    -- what has a shape is no pointer
    no_pointer : (n : ℕ) (t : Tree) → value_shape s f n ≡ Some t → is_pointer Gs f n ≡ false
    no_pointer n t shaped = pointed_so Gs (type_in Gs f n) ∙ by_type (type_in Gs f n) shaped
      where
        by_type : (x : Option ℕ) → option_and_then (type_tree Gs) x ≡ Some t → is_some (option_and_then (pointee Gs) x) ≡ false
        by_type None is = cc
        by_type (Some ty) is = ap is_some (no_pointee Gs ty t is)

    -- all of them
    module _ (c : Frame) (shaped : (n : ℕ) (v : ValueTree) → value_at s c n ≡ Some v → (t : Tree) × (value_shape s f n ≡ Some t)) where
      pub arguments_say : (ps : List (IdOf × IdOf)) (ns : List ℕ) (hs : List Held) → length ps ≡ length ns → ((x : IdOf × IdOf) → IsParameter x ps → IsParameter x g.params) → AreOfTypes s f g ps ns → each_one (held s c) ns ≡ Some hs → list_any (is_other_pointer Gs f) ns ≡ false
          → ((n : ℕ) → IsIn n ns → (v : ValueTree) → value_at s c n ≡ Some v → evaluate P calls (value W b n) z ≡ got [] (typed (N.shape n) v, z)) → ((n : ℕ) (r : Root) (way : List ℕ) → IsArgument n (pointer r way) ns hs → is_pointer Gs f n ≡ true)
          → ArgumentsSay P calls N Other z ps ns hs (map (param_text q.scope) ps) (map (call_argument W b) ns)
      arguments_say [] [] [] many sub types have mine says wholes = tt
      arguments_say [] [] (h ∷ hs) many sub types have mine says wholes = cc
      arguments_say [] (n ∷ ns) hs many sub types have mine says wholes = absurd (omega (arith, many))
      arguments_say (x ∷ ps) [] hs many sub types have mine says wholes = absurd (omega (arith, many))
      arguments_say (x ∷ ps) (n ∷ ns) [] many sub types have mine says wholes = absurd (none_before (before_some (held s c n) (each_one (held s c) ns) [] have))
        where
          none_before : (y : Held) × (ys : List Held) × (held s c n ≡ Some y) × (each_one (held s c) ns ≡ Some ys) × ([] ≡ y ∷ ys) → ⊥
          none_before w = let never : [] ≡ w.0 ∷ w.1 = w.4 in cc
      arguments_say (x ∷ ps) (n ∷ ns) (h ∷ hs) many sub types have mine says wholes =
          let w = before_some (held s c n) (each_one (held s c) ns) (h ∷ hs) have in
          let first : held s c n ≡ Some h = (let same : h ≡ w.0 = (let all : h ∷ hs ≡ w.0 ∷ w.1 = w.4 in cc) in w.2 ∙ ap (λ (y : Held). Some y) (sym same)) in
          let later : each_one (held s c) ns ≡ Some hs = (let same : w.1 ≡ hs = (let all : h ∷ hs ≡ w.0 ∷ w.1 = w.4 in cc) in w.3 ∙ ap (λ (l : List Held). Some l) same) in (
            argument_says x (sub x (inl refl)) n types.0 h (or_left (is_other_pointer Gs f n) (list_any (is_other_pointer Gs f) ns) mine)
                (λ v is. let has : value_at s c n ≡ Some v = ap as_value (first ∙ ap (λ (y : Held). Some y) is) in let t = shaped n v has in (no_pointer n t.0 t.1, says n (inl refl) v has))
                (λ r way is. wholes n r way (inl (refl, is))),
            arguments_say ps ns hs (let rest : length ps ≡ length ns = omega (arith, many) in rest) (λ y one. sub y (inr one)) types.2 later (or_right (is_other_pointer Gs f n) (list_any (is_other_pointer Gs f) ns) mine) (λ k k_in. says k (inr k_in)) (λ k r way is. wholes k r way (inr is)),
          )
