-- What stands outside of the functions of a text by a name that is no variable of its own, stands for no variable: constants, blocks, shared variables and built-in variables.
use Rattle.std.proofs.Common.{◌≡◌, bytes_eq, ℕ, Bool, true, false, List, [], ◌∷◌, Option, Some, None, subst}
use Rattle.std.specs.Prelude.{option_map}
use Rattle.traces.specs.Invocations.{Invocation}
use Rattle.glsl_ast.specs.Tree as tree
use Rattle.glsl_ast.specs.Tree.{Text, Decl}
use Rattle.glsl_ast.specs.declared.items.Size.{Size}
use Rattle.glsl_semantics.specs.Shapes.{Shape, Typed}
use Rattle.glsl_semantics.specs.Places.{in_shared}
use Rattle.glsl_semantics.specs.States.{Thing, value, variable, instance, memory}
use Rattle.glsl_semantics.specs.Expressions.{Program, type_of}
use Rattle.glsl_semantics.specs.Items.{Declared, with_thing, with_global, constant_value, global_value, layout_of, members_of, with_item, with_items, built_ins, built_in_by, first_program, declared_by}
use Rattle.write_law.specs.Writes.{IsWithin}

abbrev IsNoVariable : Thing → Type 0
IsNoVariable (variable w path t v) = ⊥
IsNoVariable _ = Unit {0}

abbrev HasNone : Program → Type 0
HasNone p = (w : Text) (x : Thing) → p.things w ≡ Some x → IsNoVariable x

put_none : (p : Program) (w : Text) (o : Option Thing) → HasNone p → ((x : Thing) → o ≡ Some x → IsNoVariable x) → HasNone (with_thing w o p)
put_none p w o none own x a at = by_test (bytes_eq x w) at
  where
    by_test : (b : Bool) → elim b as (λ b. Option Thing) [ true ↦ o | false ↦ p.things x ] ≡ Some a → IsNoVariable a
    by_test true e = own a e
    by_test false e = none x a e

some_none : (a : Thing) → IsNoVariable a → (x : Thing) → Some a ≡ Some x → IsNoVariable x
some_none a none x e = subst IsNoVariable (let same : a ≡ x = cc in same) none

value_none : (o : Option Typed) (x : Thing) → option_map value o ≡ Some x → IsNoVariable x
value_none None x e = cc
value_none (Some v) x e = some_none (value v) tt x e

memory_none : (n : ℕ) (o : Option Shape) (x : Thing) → option_map (memory (in_shared n [])) o ≡ Some x → IsNoVariable x
memory_none n None x e = cc
memory_none n (Some t) x e = some_none (memory (in_shared n []) t) tt x e

global_none : (w : Text) (o : Option Typed) (d : Declared) → HasNone d.program → HasNone (with_global w o d).program
global_none w None d none = none
global_none w (Some v) d none = none

item_none : (i : Decl) (d : Declared) → HasNone d.program → HasNone (with_item d i).program
item_none (Decl.struct w fs) d none = none
item_none (tree.constant id t w e) d none =
    put_none d.program w (option_map value (constant_value d.program d.globals id (type_of d.program t) e)) none (value_none (constant_value d.program d.globals id (type_of d.program t) e))
item_none (tree.shared t w) d none = put_none d.program w (option_map (memory (in_shared d.shared_variables [])) (type_of d.program t)) none (memory_none d.shared_variables (type_of d.program t))
item_none (tree.global t w e) d none = global_none w (global_value d (type_of d.program t) e) d none
item_none (tree.block place r quals buffer w members name) d none =
    put_none d.program name (Some (instance place (layout_of r) (members_of d.program members))) none (some_none (instance place (layout_of r) (members_of d.program members)) tt)
item_none (Decl.function result w params body) d none = none

items_none : (is : List Decl) (d : Declared) → HasNone d.program → HasNone (with_items d is).program
items_none [] d none = none
items_none (i ∷ is) d none = items_none is (with_item d i) (item_none i d none)

built_in_none : (bs : List (Text × Typed)) (w : Text) (x : Thing) → built_in_by bs w ≡ Some x → IsNoVariable x
built_in_none [] w x e = cc
built_in_none (b ∷ bs) w x e = by_test (bytes_eq b.0 w) e (built_in_none bs w x)
  where
    by_test : (t : Bool) → elim t as (λ t. Option Thing) [ true ↦ Some (value b.1) | false ↦ built_in_by bs w ] ≡ Some x → (built_in_by bs w ≡ Some x → IsNoVariable x) → IsNoVariable x
    by_test true e later = some_none (value b.1) tt x e
    by_test false e later = later e

within : (W : Text → Type 0) (x : Thing) → IsNoVariable x → IsWithin W x
within W (variable w path t v) none = absurd none
within W x none = tt

-- so whatever names are asked about, such a thing is within them
pub things_within : (W : Text → Type 0) (inv : Invocation) (sizes : List Size) (items : List Decl) (w : Text) (x : Thing) → (declared_by inv sizes items).program.things w ≡ Some x → IsWithin W x
unfolding declared_by
things_within W inv sizes items w x at =
    within W x (items_none items (record { program = first_program inv sizes; shared_variables = 0; globals = []; is_stuck = false }) (λ y z has. built_in_none (built_ins inv sizes) y z has) w x at)
