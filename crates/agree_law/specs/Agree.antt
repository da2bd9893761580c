-- When a state of a module's run and a state of its text's agree, in a function: what the names of the text stand for.
use Rattle.std.specs.Prelude.{◌≡◌, ◌≢◌, ◌||◌, ℕ, Bool, true, false, List, Option, Some, None, option_and_then}
use Rattle.spv_types.specs.Tree.{ValueTree, word}
use Rattle.op_semantics.specs.Composite.{extracted}
use Rattle.module_semantics.specs.State.{Root, global, own, lent, Held, value, pointer, Conf, call_at}
use Rattle.module_semantics.specs.State as module_state
use Rattle.module_semantics.specs.Operands.{as_value}
use Rattle.glsl_ast.specs.Tree.{Text}
use Rattle.glsl_semantics.specs.Shapes.{Shape}
use Rattle.glsl_semantics.specs.States.{Variable, State, found, found_in, has_in}
use Rattle.agree_law.specs.Own.{Own}

-- The names of a function's text, by ids: of results that are declared at its top and of value parameters, of results that are declared in their blocks, of Function variables, of pointer parameters, and of Private variables; and of the indexes that are kept of chains, by the chain and the number of the index, with the index that a pointer's path has there. Besides, the names of what stands outside of functions: constants, blocks, workgroup variables, and what is built in; and the shape of what the function gives, if anything.
pub record Naming : Type 0 where
  pub name : ℕ → Text
  pub index_name : ℕ → ℕ → Text
  pub shape : ℕ → Shape
  pub index_shape : ℕ → ℕ → Shape
  pub is_outer : ℕ → Bool
  pub is_local : ℕ → Bool
  pub is_variable : ℕ → Bool
  pub is_lent : ℕ → Bool
  pub is_private : ℕ → Bool
  pub is_kept : ℕ → ℕ → Bool
  pub is_outside : Text → Bool
  pub index_in : ℕ → ℕ → List ℕ → ℕ
  pub result : Option Shape

abbrev pub is_named : Naming → ℕ → Bool
is_named m n = m.is_outer n || (m.is_local n || (m.is_variable n || (m.is_lent n || m.is_private n)))

-- no name is another's, and an id is named in one way
pub record AreApart (m : Naming) : Type 0 where
  pub names : (a b : ℕ) → is_named m a ≡ true → is_named m b ≡ true → m.name a ≡ m.name b → a ≡ b
  pub indexes : (q k r l : ℕ) → m.is_kept q k ≡ true → m.is_kept r l ≡ true → m.index_name q k ≡ m.index_name r l → (q ≡ r) × (k ≡ l)
  pub both : (a q k : ℕ) → is_named m a ≡ true → m.is_kept q k ≡ true → m.name a ≢ m.index_name q k
  pub outside : (x : Text) → m.is_outside x ≡ true → ((n : ℕ) → is_named m n ≡ true → m.name n ≢ x) × ((q k : ℕ) → m.is_kept q k ≡ true → m.index_name q k ≢ x)
  pub once : (n : ℕ) → m.is_outer n ≡ true → m.is_local n ≡ false
  pub variables : (n : ℕ) → m.is_variable n ≡ true → (m.is_outer n ≡ false) × (m.is_local n ≡ false) × (m.is_lent n ≡ false) × (m.is_private n ≡ false)
  pub lents : (n : ℕ) → m.is_lent n ≡ true → (m.is_outer n ≡ false) × (m.is_local n ≡ false) × (m.is_private n ≡ false)
  pub privates : (n : ℕ) → m.is_private n ≡ true → (m.is_outer n ≡ false) × (m.is_local n ≡ false)

-- no name of these is one of those
pub record IsOther (m : Naming) (x : Text) : Type 0 where
  pub name : (n : ℕ) → is_named m n ≡ true → x ≢ m.name n
  pub index : (q k : ℕ) → m.is_kept q k ≡ true → x ≢ m.index_name q k
  pub outside : (y : Text) → m.is_outside y ≡ true → x ≢ y

-- a variable of a type, with a value or none
abbrev pub variable_with : Shape → Option ValueTree → Variable
variable_with t v = record { shape = t; value = v }

-- the value and the pointer that an id of the present call has
abbrev pub value_of : Conf → ℕ → Option ValueTree
value_of c n = as_value (c.top.ids n)

-- what is asked of an id that is a pointer
abbrev pub IfPointer : Option Held → (Root → List ℕ → Type 0) → Type 0
IfPointer (Some (pointer r path)) P = P r path
IfPointer _ P = Unit {0}

-- the value of the variable to which a root leads
abbrev pub variable_in : Option module_state.Frame → ℕ → Option ValueTree
variable_in None id = None
variable_in (Some f) id = f.variables id

abbrev pub root_value : Conf → Root → Option ValueTree
root_value c (global id) = c.privates id
root_value c (own id) = c.top.variables id
root_value c (lent depth id) = variable_in (call_at depth c.below) id

-- what a pointer leads to
abbrev pub target_value : Conf → Root → List ℕ → Option ValueTree
target_value c r path = option_and_then (extracted path) (root_value c r)

-- a variable of another call, or of the module: what a pointer parameter leads to
abbrev pub IsFar : Root → Type 0
IsFar (own id) = ⊥
IsFar _ = Unit {0}

-- The agreement in the braces of the function, which is the same at each of its blocks.
pub record Agree (m : Naming) (c : Conf) (s : State) : Type 0 where
  pub outer : (n : ℕ) → m.is_outer n ≡ true → Own s.frames (m.name n) (variable_with (m.shape n) (value_of c n))
  pub variables : (n : ℕ) → m.is_variable n ≡ true → Own s.frames (m.name n) (variable_with (m.shape n) (c.top.variables n))
  -- a pointer parameter stands for what it leads to: by copies, as no two lead to one variable
  pub lents : (n : ℕ) → m.is_lent n ≡ true → (o : Option ValueTree) × Own s.frames (m.name n) (variable_with (m.shape n) o) × IfPointer (c.top.ids n) (λ r path. IsFar r × (o ≡ target_value c r path))
  pub privates : (n : ℕ) → m.is_private n ≡ true → (found s.globals (m.name n) ≡ Some (variable_with (m.shape n) (c.privates n))) × (has_in s.frames (m.name n) ≡ false)
  -- a kept index is declared always, and right while the chain leads somewhere
  pub kept : (q k : ℕ) → m.is_kept q k ≡ true → (o : Option ValueTree) × Own s.frames (m.index_name q k) (variable_with (m.index_shape q k) o) × IfPointer (c.top.ids q) (λ r path. o ≡ Some (word (m.index_in q k path)))
  -- what stands outside of functions is hidden by no variable
  pub outside : (x : Text) → m.is_outside x ≡ true → (has_in s.frames x ≡ false) × (found s.globals x ≡ None)

-- and in a block, behind these results: those that are declared there
pub record AgreeIn (m : Naming) (done : ℕ → Bool) (c : Conf) (s : State) : Type 0 where
  pub all : Agree m c s
  pub local : (n : ℕ) → done n ≡ true → m.is_local n ≡ true → found_in s.frames (m.name n) ≡ Some (variable_with (m.shape n) (value_of c n))
