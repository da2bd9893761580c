-- What a call passes to the parameters of a function, in the module and in the text.
use Rattle.std.specs.Prelude.{◌≡◌, ◌≢◌, ◌⊎◌, ℕ, true, false, List, [], ◌∷◌, Option, Some}
use Rattle.spv_module.specs.declared.inst.Id.{Id}
use Rattle.spv_module.specs.declared.inst.Function.{Function}
use Rattle.spv_types.specs.Tree.{ValueTree}
use Rattle.profile_rules.specs.MemoryRules.{is_own_memory}
use Rattle.module_semantics.specs.State.{Root, Held, value, pointer, Conf}
use Rattle.traces.specs.Outcomes.{Result, got}
use Rattle.glsl_ast.specs.Tree.{Text, Expr, name, Param, param}
use Rattle.glsl_semantics.specs.Shapes.{Typed, typed, shape_of, tree_of_value, same_shape}
use Rattle.glsl_semantics.specs.States.{variable, Frame, State}
use Rattle.glsl_semantics.specs.Expressions.{Program, Argument, type_of, evaluate}
use Rattle.agree_law.specs.Agree.{Naming, variable_with, target_value}
use Rattle.call_law.specs.Known.{is_parameter}

-- the names of variables are those of a function's own variables, and those of pointer parameters of its parameters
pub record NamesMemory (m : Naming) (f : Function) : Type 0 where
  pub variables : (n : ℕ) → m.is_variable n ≡ true → (is_own_memory f n ≡ true) × (is_parameter f n ≡ false)
  pub lents : (n : ℕ) → m.is_lent n ≡ true → is_parameter f n ≡ true

-- what stands outside of functions is the same in both, and has the same names
pub record ShareNames (m other : Naming) : Type 0 where
  pub privates : (n : ℕ) → other.is_private n ≡ m.is_private n
  pub names : (n : ℕ) → m.is_private n ≡ true → (other.name n ≡ m.name n) × (other.shape n ≡ m.shape n)
  pub outside : (x : Text) → other.is_outside x ≡ m.is_outside x

-- the ids have these, one by one
abbrev pub IsArgument : ℕ → Held → List ℕ → List Held → Type 0
IsArgument n h (k ∷ ns) (g ∷ hs) = ((k ≡ n) × (g ≡ h)) ⊎ IsArgument n h ns hs
IsArgument n h _ _ = ⊥

-- m: of the caller, in this state; other: of the function that is called
module _ (m other : Naming) (c : Conf) where
  -- a parameter stands for a variable of the caller, or for a pointer parameter of it, and has the value to which that leads
  pub record IsLentAs (p n : ℕ) (r : Root) (path : List ℕ) (w : Text) (a : Argument) : Type 0 where
    pub name : w ≡ other.name p
    pub lent : other.is_lent p ≡ true
    pub shape : other.shape p ≡ m.shape n
    pub kind : (m.is_variable n ≡ true) ⊎ (m.is_lent n ≡ true)
    pub old : Option ValueTree
    pub place : a.0 ≡ variable (m.name n) [] (m.shape n) old
    pub value : ValueTree
    pub says : a.1 ≡ typed (other.shape p) value
    pub has : target_value c r path ≡ Some value

  -- or it has a value
  pub record IsGivenAs (p : ℕ) (v : ValueTree) (w : Text) (a : Argument) : Type 0 where
    pub name : w ≡ other.name p
    pub outer : other.is_outer p ≡ true
    pub says : a.1 ≡ typed (other.shape p) v

  abbrev pub IsPassed : ℕ → ℕ → Held → Param → Argument → Type 0
  IsPassed p n (value v) (param false t w) a = IsGivenAs p v w a
  IsPassed p n (pointer r path) (param true t w) a = IsLentAs p n r path w a
  IsPassed p n _ _ a = ⊥

  -- the parameters, the ids of the arguments and what these have, and in the text the parameters and what the arguments stand for
  abbrev pub ArePassed : List (Id × Id) → List ℕ → List Held → List Param → List Argument → Type 0
  ArePassed [] [] [] [] [] = Unit {0}
  ArePassed (p ∷ ps) (n ∷ ns) (h ∷ hs) (q ∷ qs) (a ∷ as') = IsPassed p.0.0 n h q a × ArePassed ps ns hs qs as'
  ArePassed _ _ _ _ _ = ⊥

-- each parameter's id is that of one
abbrev pub IsNoId : ℕ → List (Id × Id) → Type 0
IsNoId n [] = Unit {0}
IsNoId n (p ∷ ps) = (p.0.0 ≢ n) × IsNoId n ps

abbrev pub AreOnceIds : List (Id × Id) → Type 0
AreOnceIds [] = Unit {0}
AreOnceIds (p ∷ ps) = IsNoId p.0.0 ps × AreOnceIds ps

-- the parameters of the text have the types of what they get
abbrev pub AreTypedParameters : Program → Naming → List (Id × Id) → List Param → Type 0
AreTypedParameters p m [] [] = Unit {0}
AreTypedParameters p m (q ∷ ps) (param inout t w ∷ qs) = (type_of p t ≡ Some (m.shape q.0.0)) × (same_shape (m.shape q.0.0) (m.shape q.0.0) ≡ true) × AreTypedParameters p m ps qs
AreTypedParameters p m _ _ = ⊥

-- the braces in which a call begins
abbrev pub parameter_frame : List Param → List Argument → Frame
parameter_frame (param inout t w ∷ qs) (a ∷ as') = (w, variable_with (shape_of a.1) (Some (tree_of_value a.1))) ∷ parameter_frame qs as'
parameter_frame _ _ = []

-- What is asked of the expression of an argument: it says the value that the argument has; or it is the name of the variable, or of the pointer parameter, to which the argument leads.
module _ (p : Program) (calls : Text → List Argument → State → Result (Option Typed × State)) (m other : Naming) (z : State) where
  pub record IsNameOf (q n : ℕ) (w : Text) (e : Expr) : Type 0 where
    pub parameter : w ≡ other.name q
    pub lent : other.is_lent q ≡ true
    pub shape : other.shape q ≡ m.shape n
    pub kind : (m.is_variable n ≡ true) ⊎ (m.is_lent n ≡ true)
    pub is : e ≡ name (m.name n)

  pub record SaysValue (q : ℕ) (v : ValueTree) (w : Text) (e : Expr) : Type 0 where
    pub parameter : w ≡ other.name q
    pub outer : other.is_outer q ≡ true
    pub says : evaluate p calls e z ≡ got [] (typed (other.shape q) v, z)

  abbrev pub ArgumentSays : ℕ → ℕ → Held → Param → Expr → Type 0
  ArgumentSays q n (value v) (param false t w) e = SaysValue q v w e
  ArgumentSays q n (pointer r path) (param true t w) e = IsNameOf q n w e
  ArgumentSays q n _ _ e = ⊥

  abbrev pub ArgumentsSay : List (Id × Id) → List ℕ → List Held → List Param → List Expr → Type 0
  ArgumentsSay [] [] [] [] [] = Unit {0}
  ArgumentsSay (q ∷ ps) (n ∷ ns) (h ∷ hs) (x ∷ qs) (e ∷ es) = ArgumentSays q.0.0 n h x e × ArgumentsSay ps ns hs qs es
  ArgumentsSay _ _ _ _ _ = ⊥
