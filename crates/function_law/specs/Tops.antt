-- The declarations at the top of a function, and the first moment of a call on both sides.
use Rattle.std.specs.Prelude.{◌≡◌, ◌≢◌, ◌⊎◌, ◌++◌, ℕ, true, false, List, [], ◌∷◌, Option, Some, None}
use Rattle.spv_module.specs.declared.inst.Inst.{Inst}
use Rattle.spv_module.specs.declared.inst.Function.{Function}
use Rattle.spv_types.specs.Tree.{ValueTree}
use Rattle.traces.specs.Runs.{Supplied}
use Rattle.traces.specs.Outcomes.{Result, got}
use Rattle.module_semantics.specs.Setting.{Setting}
use Rattle.module_semantics.specs.State.{Held, value, Conf}
use Rattle.module_semantics.specs.Accesses.{initial_in}
use Rattle.module_semantics.specs.Steps.{variable, step_kind, argument_of, first_insts, entered}
use Rattle.glsl_ast.specs.Tree.{Text, TypeName, Expr, Stmt, declare}
use Rattle.glsl_semantics.specs.Shapes.{Shape, Typed, typed, same_shape}
use Rattle.glsl_semantics.specs.States.{Frame, State, found, has, has_in}
use Rattle.glsl_semantics.specs.Expressions.{Program, Argument, type_of, evaluate}
use Rattle.agree_law.specs.Agree.{Naming, variable_with, IfPointer, IsFar, target_value}
use Rattle.agree_law.specs.Blocks.{IsOf}
use Rattle.call_law.specs.Known.{is_parameter}

-- a declaration: with the value that its expression says, or without one
pub record Top : Type 0 where
  pub type : TypeName
  pub name : Text
  pub shape : Shape
  pub first : Option Expr
  pub value : Option ValueTree

abbrev pub top_text : Top → Stmt
top_text t = declare t.type t.name t.first

-- the braces behind these
abbrev pub entries : List Top → Frame → Frame
entries [] f = f
entries (t ∷ ts) f = entries ts ((t.name, variable_with t.shape t.value) ∷ f)

abbrev pub IsTop : Text → Shape → Option ValueTree → List Top → Type 0
IsTop x u v [] = ⊥
IsTop x u v (t ∷ ts) = ((t.name ≡ x) × (t.shape ≡ u) × (t.value ≡ v)) ⊎ IsTop x u v ts

abbrev pub IsOneOf : Top → List Top → Type 0
IsOneOf t [] = ⊥
IsOneOf t (u ∷ us) = (u ≡ t) ⊎ IsOneOf t us

abbrev pub IsNoTop : Text → List Top → Type 0
IsNoTop x [] = Unit {0}
IsNoTop x (t ∷ ts) = (t.name ≢ x) × IsNoTop x ts

abbrev pub AreOnceTops : List Top → Type 0
AreOnceTops [] = Unit {0}
AreOnceTops (t ∷ ts) = IsNoTop t.name ts × AreOnceTops ts

-- what stands outside of functions is hidden by no variable
abbrev pub IsClear : Naming → State → Type 0
IsClear m z = (x : Text) → m.is_outside x ≡ true → (has_in z.frames x ≡ false) × (found z.globals x ≡ None)

module _ (p : Program) (calls : Text → List Argument → State → Result (Option Typed × State)) (m : Naming) where
  -- the first value of a variable is that which its expression says, where it has one
  abbrev pub SaysFirst : Shape → Option Expr → Option ValueTree → Type 0
  SaysFirst u None v = v ≡ None
  SaysFirst u (Some e) v = (same_shape u u ≡ true) × ((w : ValueTree) → v ≡ Some w → (z : State) → IsClear m z → evaluate p calls e z ≡ got [] (typed u w, z))

  pub record SaysTop (t : Top) : Type 0 where
    pub type : type_of p t.type ≡ Some t.shape
    pub first : SaysFirst t.shape t.first t.value
    pub inside : (x : Text) → m.is_outside x ≡ true → t.name ≢ x

  abbrev pub AllSay : List Top → Type 0
  AllSay [] = Unit {0}
  AllSay (t ∷ ts) = SaysTop t × AllSay ts

-- What is declared at the top of a function: variables with their first values, and results and kept indexes without a value; no name twice, and none of a parameter.
pub record AreTops (s : Setting) (m : Naming) (g : Function) (tops : List Top) : Type 0 where
  pub once : AreOnceTops tops
  pub apart : (n : ℕ) → is_parameter g n ≡ true → IsNoTop (m.name n) tops
  pub private : (n : ℕ) → m.is_private n ≡ true → IsNoTop (m.name n) tops
  pub outer : (n : ℕ) → m.is_outer n ≡ true → (is_parameter g n ≡ true) ⊎ ((is_parameter g n ≡ false) × IsTop (m.name n) (m.shape n) None tops)
  pub variables : (n : ℕ) → m.is_variable n ≡ true → IsTop (m.name n) (m.shape n) (initial_in s g n) tops
  pub kept : (q k : ℕ) → m.is_kept q k ≡ true → (is_parameter g q ≡ false) × IsTop (m.index_name q k) (m.index_shape q k) None tops

-- the variables of a function are its first instructions: what is declared with an expression is one of them
pub record AreFirst (s : Setting) (g : Function) (tops : List Top) : Type 0 where
  pub variables : List Inst
  pub rest : List Inst
  pub first : first_insts g.blocks ≡ variables ++ rest
  pub kinds : (i : Inst) → IsOf i variables → step_kind i.op ≡ variable
  pub all : (t : Top) → IsOneOf t tops → (e : Expr) → t.first ≡ Some e → (i : Inst) × IsOf i variables × (initial_in s g i.result ≡ t.value)

-- The text's braces at the first moment of a call hold its parameters and no more: values, and of pointers what they lead to.
pub record IsEntered (s : Setting) (m : Naming) (g : Function) (hs : List Held) (f : Frame) (d : Supplied Conf) (z : State) : Type 0 where
  pub at : d.at.top ≡ entered s g hs
  pub values : (n : ℕ) → m.is_outer n ≡ true → is_parameter g n ≡ true → (v : ValueTree) × (argument_of g.params hs n ≡ Some (value v)) × (found f (m.name n) ≡ Some (variable_with (m.shape n) (Some v)))
  pub lents : (n : ℕ) → m.is_lent n ≡ true → (v : ValueTree) × (found f (m.name n) ≡ Some (variable_with (m.shape n) (Some v))) × IfPointer (argument_of g.params hs n) (λ r path. IsFar r × (Some v ≡ target_value d.at r path))
  pub private : (n : ℕ) → m.is_private n ≡ true → (found z.globals (m.name n) ≡ Some (variable_with (m.shape n) (d.at.privates n))) × (has f (m.name n) ≡ false)
  pub outside : (x : Text) → m.is_outside x ≡ true → (found z.globals x ≡ None) × (has f x ≡ false)
  pub answers : z.answers ≡ d.answers
