-- OpArrayLength, as it stands in expressions, says the number of elements that the module has.
use Rattle.std.proofs.Common.{◌≡◌, ◌⊎◌, ℕ, Bool, true, false, List, [], ◌∷◌, Option, Some, None, refl, sym, ap, ◌∙◌, subst, unwrap_or}
use Rattle.std.specs.Prelude.{option_map, option_and_then}
use Rattle.std.proofs.lemmas.Option.{same_Some}
use Rattle.spv_ops.specs.Enumerants.{class_number}
use Rattle.spv_ops.specs.OpGroups.{group_of}
use Rattle.spv_ops.specs.declared.StorageClass.{StorageClass}
use Rattle.spv_ops.specs.declared.StorageClass.TheVariants as storage
use Rattle.spv_ops.specs.declared.Op.TheVariants as code
use Rattle.spv_module.specs.Lists.{id}
use Rattle.spv_module.specs.declared.inst.Inst.{Inst}
use Rattle.spv_module.specs.declared.inst.Function.{Function}
use Rattle.spv_types.specs.Tree.{Tree, ValueTree, word as word_value, runtime}
use Rattle.spv_index.specs.Locals.{type_in}
use Rattle.spv_index.specs.Pointers.{pointee}
use Rattle.spv_decor.specs.Rows.{word}
use Rattle.profile_rules.specs.declared.given.Given.{Given}
use Rattle.module_semantics.specs.Setting.{Setting}
use Rattle.module_semantics.specs.State.{global, value as holds_value, Conf}
use Rattle.module_semantics.specs.Operands.{Target, pointer_at, arg}
use Rattle.module_semantics.specs.Memory.{class_of, variable_type, elements}
use Rattle.module_semantics.specs.Accesses.{is_seen, if_seen, seen_if, seen}
use Rattle.access_paths.specs.Ways.{path, start}
use Rattle.name_alloc.specs.declared.claims.Key.{Key}
use Rattle.name_alloc.specs.declared.claims.Key.TheVariants.{Member}
use Rattle.glsl_ast.specs.Tree as text
use Rattle.glsl_ast.specs.Tree.{Text, Expr, build, type_name, exprs_in}
use Rattle.traces.specs.Outcomes.{Result, got}
use Rattle.glsl_semantics.specs.Shapes.{uint, Typed, typed}
use Rattle.glsl_semantics.specs.States.{State}
use Rattle.glsl_semantics.specs.Expressions.{Program, Argument, evaluate}
use Rattle.hoist_plan.specs.declared.form.Form.{Form}
use Rattle.expr_forward.specs.declared.kinds.OperationKind.{OperationKind}
use Rattle.expr_forward.specs.declared.kinds.OperationKind.TheVariants as kind
use Rattle.expr_forward.specs.Kinds.{kind_of, operation_kind_of}
use Rattle.expr_forward.specs.Scope.{Scope}
use Rattle.expr_forward.specs.Paths.{place_expr}
use Rattle.expr_forward.specs.Values.{by_kind, expression}
use Rattle.unit_rules.specs.Translation.{text_of}
use Rattle.fits_law.specs.Takes.{nth_of}
use Rattle.type_law.specs.Shaped.{AreConstants}
use Rattle.agree_law.specs.Agree.{Naming, Agree}
use Rattle.agree_law.specs.Blocks.{measured}
use Rattle.global_law.specs.Parts.{HasMembersApart}
use Rattle.global_law.specs.Walks.{struct_names}
use Rattle.global_law.specs.Starts.{IsBlock}
use Rattle.global_law.proofs.Path.Lengths.{length_says}
use Rattle.lowers_law.proofs.Types.{W}

-- a variable that others see is itself
seen_is : (v : Inst) (class : Option StorageClass) (w : Inst) → if_seen v class ≡ Some w → v ≡ w
seen_is v None w e = cc
seen_is v (Some class) w e = by_test (is_seen class) e
  where
    by_test : (b : Bool) → elim b [ true ↦ Some v | false ↦ None ] ≡ Some w → v ≡ w
    by_test true e = same_Some v w e
    by_test false e = cc

number_is : (a : ℕ) (v : ValueTree) → Some (holds_value (word_value a)) ≡ Some (holds_value v) → word_value a ≡ v
number_is a v e = cc

module _ (s : Setting) (overrides : List (ℕ × Given)) (found : Key → Option Text) (f : Function) (globals : ℕ → Option Expr) (form : ℕ → Form) (carried : ℕ → Bool) (p : Program) (calls : Text → List Argument → State → Result (Option Typed × State)) (z : State) (m : Naming) (right : AreConstants s) (c : Conf) (agree : Agree m c z) (told : p.invocation ≡ s.invocation) (block : ℕ) where
  abbrev Where : Scope
  Where = W s s.entry overrides found f globals form carried

  -- the id is a block variable with a runtime array at the member, which the function names as itself (T7)
  pub record IsMeasured (n k : ℕ) : Type 0 where
    pub shape : Tree
    pub is : IsBlock p m s Where.setting.source (text_of found) globals n shape (global n) []
    pub members : HasMembersApart (struct_names (text_of found)) shape
    pub way : path s.of.globals f block n ≡ start n
    pub in_memory : (word is.inst 0 ≡ class_number storage.StorageBuffer) ⊎ (word is.inst 0 ≡ class_number storage.Uniform)
    pub element : Tree
    pub at : nth_of is.parts k ≡ Some (runtime element)
    pub type_is : type_in s.of.globals f n ≡ Some is.inst.ty
    pub points : pointer_at s c.top n ≡ Some (global n, [])

  module _ (j : Inst) (opcode : j.op ≡ code.ArrayLength) (expr : ℕ → Expr) (w : IsMeasured (arg j 0) (arg j 1)) where
    -- what the module has
    has_length : (v : ValueTree) → measured s c.top j ≡ Some (holds_value v) → word_value (elements s w.is.inst (arg j 1)) ≡ v
    has_length v has = by_seen (seen s (global (arg j 0))) refl (sym (ap (option_and_then (λ (t : Target). option_map (λ (i : Inst). holds_value (word_value (elements s i (arg j 1)))) (seen s t.0))) w.points) ∙ has)
      where
        by_seen : (o : Option Inst) → seen s (global (arg j 0)) ≡ o → option_map (λ (i : Inst). holds_value (word_value (elements s i (arg j 1)))) o ≡ Some (holds_value v) → word_value (elements s w.is.inst (arg j 1)) ≡ v
        by_seen None there e = cc
        by_seen (Some i) there e =
            let same : w.is.inst ≡ i = seen_is w.is.inst (class_of w.is.inst) i (sym (ap (option_and_then seen_if) w.is.there) ∙ there) in
            ap (λ (x : Inst). word_value (elements s x (arg j 1))) same ∙ number_is (elements s i (arg j 1)) v e

    kind_is : operation_kind_of j.op ≡ kind.ArrayLength
    unfolding operation_kind_of kind_of group_of
    kind_is = ap operation_kind_of opcode

    type_text : unwrap_or (option_and_then (pointee s.of.globals) (type_in s.of.globals f (arg j 0))) 0 ≡ variable_type s w.is.inst
    type_text = ap (λ (o : Option ℕ). unwrap_or (option_and_then (pointee s.of.globals) o) 0) w.type_is

    -- The law.
    pub length_is_said : (v : ValueTree) → measured s c.top j ≡ Some (holds_value v) → evaluate p calls (expression Where expr block j) z ≡ got [] (typed uint v, z)
    length_is_said v has =
        subst (λ (k : OperationKind). evaluate p calls (by_kind Where expr block j k) z ≡ got [] (typed uint v, z)) (sym kind_is)
        (subst (λ (ty : ℕ). evaluate p calls (build (type_name text.uint []) (exprs_in (Expr.length_of (Expr.member (place_expr Where.setting block (arg j 0)) (text_of found (Member (id ty) (arg j 1)))) ∷ []))) z ≡ got [] (typed uint v, z)) (sym type_text)
        (subst (λ (u : ValueTree). evaluate p calls (build (type_name text.uint []) (exprs_in (Expr.length_of (Expr.member (place_expr Where.setting block (arg j 0)) (text_of found (Member (id (variable_type s w.is.inst)) (arg j 1)))) ∷ []))) z ≡ got [] (typed uint u, z)) (has_length v has)
        (length_says p calls z m s overrides f (text_of found) globals right c agree told block (arg j 0) (arg j 1) w.shape w.element w.is w.members w.way w.in_memory w.at)))
