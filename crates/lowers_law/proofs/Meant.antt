-- What is known of the operands of an operation; so what the operation is written as of them says its value.
use Rattle.std.proofs.Common.{◌≡◌, ℕ, Bool, true, List, [], ◌∷◌, map, Option, Some, None, inl, inr, refl, sym, ap, ap₂, ◌∙◌, subst}
use Rattle.spv_ops.specs.declared.Op.{Op}
use Rattle.spv_module.specs.declared.inst.Function.{Function}
use Rattle.spv_types.specs.Tree.{Tree, ValueTree, word}
use Rattle.op_semantics.specs.declared.operation.Operation.{Operation}
use Rattle.op_semantics.specs.Component.{before, each_one}
use Rattle.op_semantics.specs.Fits.{fits, IsOfWords}
use Rattle.op_semantics.specs.Value.{value_of_operation}
use Rattle.profile_rules.specs.declared.given.Given.{Given}
use Rattle.module_semantics.specs.Setting.{Setting}
use Rattle.module_semantics.specs.State.{Frame}
use Rattle.module_semantics.specs.Operands.{value_at}
use Rattle.name_alloc.specs.declared.claims.Key.{Key}
use Rattle.glsl_ast.specs.Tree.{Text, Expr}
use Rattle.traces.specs.Outcomes.{Result}
use Rattle.glsl_semantics.specs.Shapes.{Shape, Typed, typed}
use Rattle.glsl_semantics.specs.States.{State}
use Rattle.glsl_semantics.specs.Expressions.{Program, Argument as Passed}
use Rattle.vec_lowering.specs.Composite.{Argument}
use Rattle.vec_lowering.specs.Lowered.{written}
use Rattle.expr_forward.specs.Scope.{Scope, type_of}
use Rattle.expr_forward.specs.Paths.{word_at}
use Rattle.expr_forward.specs.Context.{operand}
use Rattle.expr_forward.specs.Values.{argument}
use Rattle.hoist_plan.specs.declared.form.Form.{Form}
use Rattle.unit_rules.specs.Translation.{text_of}
use Rattle.region_law.specs.Leads.{In}
use Rattle.fits_law.specs.Takes.{Takes}
use Rattle.fits_law.specs.State.{value_shape}
use Rattle.fits_law.specs.Typed.{HaveShapes}
use Rattle.lowering_law.specs.Says.{Says}
use Rattle.lowering_law.specs.BuiltIns.{NoneDeclared}
use Rattle.lowering_law.specs.Written.{IsWritten}
use Rattle.lowering_law.specs.Arguments.{MeansAs, AllMeanAs, AllWritten, IsBasic, IsExpression}
use Rattle.lowering_law.proofs.Arguments.{written_says}
use Rattle.global_law.specs.Parts.{StructNames, shape_in}
use Rattle.global_law.specs.Walks.{struct_names}
use Rattle.global_law.proofs.Constant.Calculated.{shape_same, type_written}
use Rattle.lowers_law.proofs.Types.{of_basic, basic_by, Src, W, IsText, type_is}

abbrev pub AllBasic : List Tree → Type 0
AllBasic [] = Unit {0}
AllBasic (t ∷ ts) = IsBasic t × AllBasic ts

before_some : {A : Type 0} (x : Option A) (xs : Option (List A)) (y : A) (ys : List A) → before x xs ≡ Some (y ∷ ys) → (x ≡ Some y) × (xs ≡ Some ys)
before_some None xs y ys e = cc
before_some (Some a) None y ys e = cc
before_some (Some a) (Some as') y ys e = (let one : a ≡ y = cc in ap (λ q. Some q) one, let more : as' ≡ ys = cc in ap (λ q. Some q) more)

before_none : {A : Type 0} (x : Option A) (xs : Option (List A)) → before x xs ≡ Some [] → ⊥
before_none None xs e = cc
before_none (Some a) None e = cc
before_none (Some a) (Some as') e = cc

no_more : {A : Type 0} (x : A) (xs : List A) → Some [] ≡ Some (x ∷ xs) → ⊥
no_more x xs e = cc

module _ (s : Setting) (entry : ℕ) (overrides : List (ℕ × Given)) (found : Key → Option Text) (f : Function) (globals : ℕ → Option Expr) (form : ℕ → Form) (carried : ℕ → Bool) (p : Program) (none : NoneDeclared p) (calls : Text → List Passed → State → Result (Option Typed × State)) (z : State) (c : Frame) (expr : ℕ → Expr) (shape : ℕ → Shape) where
  abbrev pub S : Expr → Typed → Type 0
  S = Says p calls z

  abbrev pub Y : StructNames
  Y = struct_names (text_of found)

  abbrev pub Where : Scope
  Where = W s entry overrides found f globals form carried

  abbrev pub IsTextType : Tree → Type 0
  IsTextType = IsText s entry overrides found f globals form carried p

  -- the expression of an operand says its value, which has this shape
  pub record IsMeant (n : ℕ) (t : Tree) (v : ValueTree) : Type 0 where
    pub says : S (expr n) (typed (shape n) v)
    pub shaped : shape n ≡ shape_in s Y t
    pub fit : fits t v ≡ true
    pub low : IsOfWords v
    pub literal : (w : ℕ) → word_at Where.setting n ≡ Some w → v ≡ word w
    pub text : IsTextType t

  abbrev pub AreMeant : List ℕ → List Tree → List ValueTree → Type 0
  AreMeant [] [] [] = Unit {0}
  AreMeant (n ∷ ns) (t ∷ ts) (v ∷ vs) = IsMeant n t v × AreMeant ns ts vs
  AreMeant _ _ _ = ⊥

  -- as an argument of the operation
  abbrev pub meant : ℕ → Tree → Argument
  meant n t = record { of = expr n; shape = t; word = word_at Where.setting n }

  abbrev pub meant_of : List ℕ → List Tree → List Argument
  meant_of (n ∷ ns) (t ∷ ts) = meant n t ∷ meant_of ns ts
  meant_of _ _ = []

  in_text : (t : Tree) → IsTextType t → IsWritten p found t
  in_text t x = type_written p s (Src s entry overrides found f globals form carried) found t x.0 x.1

  means : (n : ℕ) (t : Tree) (v : ValueTree) → IsMeant n t v → MeansAs p found calls z (meant n t) t v
  means n t v m = record {
    shape = refl;
    says = subst (λ (q : Shape). S (expr n) (typed q v)) (m.shaped ∙ sym (shape_same p s (Src s entry overrides found f globals form carried) found t m.text.0)) m.says;
    fit = m.fit;
    low = m.low;
    literal = m.literal;
  }

  all_mean : (ns : List ℕ) (ts : List Tree) (vs : List ValueTree) → AreMeant ns ts vs → AllMeanAs p found calls z (meant_of ns ts) ts vs
  all_mean [] [] [] are = tt
  all_mean (n ∷ ns) (t ∷ ts) (v ∷ vs) are = (means n t v are.0, all_mean ns ts vs are.1)
  all_mean [] [] (v ∷ vs) are = absurd are
  all_mean [] (t ∷ ts) vs are = absurd are
  all_mean (n ∷ ns) [] vs are = absurd are
  all_mean (n ∷ ns) (t ∷ ts) [] are = absurd are

  all_written : (ns : List ℕ) (ts : List Tree) (vs : List ValueTree) → AreMeant ns ts vs → AllWritten p found ts
  all_written [] [] [] are = tt
  all_written (n ∷ ns) (t ∷ ts) (v ∷ vs) are = let m = are.0 in (in_text t m.text, all_written ns ts vs are.1)
  all_written [] [] (v ∷ vs) are = absurd are
  all_written [] (t ∷ ts) vs are = absurd are
  all_written (n ∷ ns) [] vs are = absurd are
  all_written (n ∷ ns) (t ∷ ts) [] are = absurd are

  -- operands that have shapes and values
  pub are_meant : (ns : List ℕ) (ts : List Tree) (vs : List ValueTree) → ((n : ℕ) → In n ns → (t : Tree) → value_shape s f n ≡ Some t → (v : ValueTree) → value_at s c n ≡ Some v → IsMeant n t v) → HaveShapes s f ns ts → each_one (value_at s c) ns ≡ Some vs → AreMeant ns ts vs
  are_meant [] [] [] known have each = tt
  are_meant [] [] (v ∷ vs) known have each = absurd (no_more v vs each)
  are_meant [] (t ∷ ts) vs known have each = absurd have
  are_meant (n ∷ ns) [] vs known have each = absurd have
  are_meant (n ∷ ns) (t ∷ ts) [] known have each = absurd (before_none (value_at s c n) (each_one (value_at s c) ns) each)
  are_meant (n ∷ ns) (t ∷ ts) (v ∷ vs) known have each =
      let parts = before_some (value_at s c n) (each_one (value_at s c) ns) v vs each in
      (known n (inl refl) t have.0 v parts.0, are_meant ns ts vs (λ k among. known k (inr among)) have.1 parts.1)

  -- operands of scalars and vectors are written by their basic types
  pub basics_same : (ns : List ℕ) (ts : List Tree) → HaveShapes s f ns ts → AllBasic ts → map operand (map (argument Where expr) ns) ≡ meant_of ns ts
  basics_same [] [] have all = refl
  basics_same (n ∷ ns) (t ∷ ts) have all =
      ap₂ (λ (q : Tree) (l : List Argument). record { of = expr n; shape = q; word = word_at Where.setting n } ∷ l)
      (basic_by s.of.globals (type_of Where n) t (type_is s entry overrides found f globals form carried n t have.0) ∙ of_basic t all.0) (basics_same ns ts have.1 all.1)
  basics_same [] (t ∷ ts) have all = absurd have
  basics_same (n ∷ ns) [] have all = absurd have

  -- their expressions
  pub exprs_same : (ns : List ℕ) (ts : List Tree) → HaveShapes s f ns ts → map expr ns ≡ map (λ (x : Argument). x.of) (meant_of ns ts)
  exprs_same [] [] have = refl
  exprs_same (n ∷ ns) (t ∷ ts) have = ap (λ (l : List Expr). expr n ∷ l) (exprs_same ns ts have.1)
  exprs_same [] (t ∷ ts) have = absurd have
  exprs_same (n ∷ ns) [] have = absurd have

  -- So the operation says its value.
  pub tells : (opcode : Op) (o : Operation) (t : Tree) (ls ns : List ℕ) (ts : List Tree) (vs : List ValueTree) (v : ValueTree) → IsTextType t → Takes o t ls ts → IsExpression opcode o t ts → AreMeant ns ts vs → value_of_operation o t ls vs ≡ Some v
      → S (written found opcode o t ls (meant_of ns ts)) (typed (shape_in s Y t) v)
  tells opcode o t ls ns ts vs v text takes is are made =
      subst (λ (q : Shape). S (written found opcode o t ls (meant_of ns ts)) (typed q v)) (shape_same p s (Src s entry overrides found f globals form carried) found t text.0)
      (written_says p none found calls z opcode o t ls (meant_of ns ts) ts vs v (in_text t text) (all_written ns ts vs are) takes is (all_mean ns ts vs are) made)
