-- A Private variable begins in a text with the value with which it begins in the module.
use Rattle.std.proofs.Common.{◌≡◌, ◌++◌, ℕ, true, false, List, [], ◌∷◌, Option, Some, None, refl, sym, ap, ◌∙◌}
use Rattle.std.specs.Prelude.{bytes_eq, flat_map, option_and_then, option_map, slice_get, unwrap_or}
use Rattle.std.specs.Option.{option_map_or}
use Rattle.std.proofs.lemmas.Slice.Eq.{bytes_eq-Decides}
use Rattle.std.proofs.lemmas.Option.{same_Some}
use Rattle.spv_module.specs.Held.{global as global_inst}
use Rattle.spv_module.specs.Lists.{id}
use Rattle.spv_module.specs.declared.inst.Inst.{Inst}
use Rattle.spv_module.specs.declared.inst.Function.{Function}
use Rattle.spv_types.specs.Tree as plain
use Rattle.spv_types.specs.Tree.{Tree, ValueTree}
use Rattle.spv_types.specs.Types.{type_tree}
use Rattle.spv_types.specs.Leaves.{zero_of}
use Rattle.profile_rules.specs.declared.given.Given.{Given}
use Rattle.traces.specs.Outcomes.{got, or_stuck}
use Rattle.module_semantics.specs.Setting.{Setting, global_variable}
use Rattle.module_semantics.specs.Memory.{variable_type}
use Rattle.module_semantics.specs.Accesses.{initial_by, initial_private, initial as begins}
use Rattle.name_alloc.specs.declared.claims.Key.{Key}
use Rattle.name_alloc.specs.declared.claims.Key.TheVariants.{Id}
use Rattle.glsl_ast.specs.Tree as tree
use Rattle.glsl_ast.specs.Tree.{Text, Expr, literal, name, Decl}
use Rattle.glsl_ast.specs.declared.expressions.Literal.TheVariants.{Uint}
use Rattle.glsl_semantics.specs.Shapes.{Typed, typed, shape_of, tree_of_value}
use Rattle.glsl_semantics.specs.States.{Frame, State, Variable, value, found}
use Rattle.glsl_semantics.specs.Expressions.{Program, type_of, then_fetch}
use Rattle.glsl_semantics.specs.Items.{Declared, if_of, no_calls, known_if, known_value, global_value, with_global, with_item, with_items}
use Rattle.text_rules.specs.declared.readings.Reading.TheVariants.{Plain, Named}
use Rattle.text_rules.specs.Constants.{Source, is_scalar, reading, expr_by, constant_expr}
use Rattle.text_rules.specs.Types.{zero_text}
use Rattle.text_rules.specs.Printed.{Reached}
use Rattle.text_rules.specs.Declarations.{Names, spelling, type_at, pointee_at, zero_at, expr_at, initial, declaration, declarations}
use Rattle.agree_law.specs.Agree.{variable_with}
use Rattle.type_law.specs.Shaped.{HaveResults, HasConstants}
use Rattle.global_law.specs.Parts.{StructNames, shape_in}
use Rattle.global_law.specs.Walks.{struct_names}
use Rattle.global_law.specs.Sources.{source_of, chosen}
use Rattle.global_law.specs.Names.{names_of}
use Rattle.global_law.proofs.Global.Plain.{plain_has, plain_says}
use Rattle.global_law.proofs.Global.Told.{if_own}
use Rattle.global_law.proofs.Global.Zeros.{HasZero, is_declared, zero_lengths, same_itself, zero_says}
use Rattle.global_law.proofs.Path.Starts.{outside_is}
use Rattle.global_law.proofs.Global.Blocks.{declared_between, items_more, type_declared}

-- the item declares no variable of this name
abbrev pub IsOtherVariable : Text → Decl → Type 0
IsOtherVariable x (tree.global t w e) = bytes_eq w x ≡ false
IsOtherVariable x _ = Unit {0}

abbrev pub AreOtherVariables : Text → List Decl → Type 0
AreOtherVariables x [] = Unit {0}
AreOtherVariables x (i ∷ is) = IsOtherVariable x i × AreOtherVariables x is

-- items leave the variables of other names
item_finds : (d : Declared) (x : Text) (i : Decl) → IsOtherVariable x i → found (with_item d i).globals x ≡ found d.globals x
item_finds d x (Decl.struct w fs) off = refl
item_finds d x (tree.constant spec t w e) off = refl
item_finds d x (tree.shared t w) off = refl
item_finds d x (tree.global t w e) off = by_value (global_value d (type_of d.program t) e)
  where
    by_value : (o : Option Typed) → found (with_global w o d).globals x ≡ found d.globals x
    by_value None = refl
    by_value (Some v) = ap (λ b. elim b as (λ b. Option Variable) [ true ↦ Some (variable_with (shape_of v) (Some (tree_of_value v))) | false ↦ found d.globals x ]) off
item_finds d x (tree.block place r quals buffer w members w') off = refl
item_finds d x (Decl.function result w params body) off = refl

pub items_find : (is : List Decl) (d : Declared) (x : Text) → AreOtherVariables x is → found (with_items d is).globals x ≡ found d.globals x
items_find [] d x off = refl
items_find (i ∷ is) d x off = items_find is (with_item d i) x off.1 ∙ item_finds d x i off.0

module _ (s : Setting) (overrides : List (ℕ × Given)) (key : Key → Text) (calculated : Inst → Expr) where
  abbrev source : Source
  source = source_of s overrides

  abbrev N : Names
  N = names_of key calculated

  abbrev Y : StructNames
  Y = struct_names key

  -- A variable whose initial expression has this value is there with it, behind all items.
  pub private_there : (f : Function) (r : Reached) (first : Declared) (before after : List Inst) (v : Inst) (t : Tree) (a : ValueTree) → s.of.globals ≡ before ++ v ∷ after → declaration source r N v ≡ tree.global (type_at source N (pointee_at source v.ty)) (N.id v.result) (initial source N v) ∷ []
      → type_tree s.of.globals (pointee_at source v.ty) ≡ Some t → HasZero (with_items first (flat_map (declaration source r N) before)).program s source key t
      → known_value (with_items first (flat_map (declaration source r N) before)).program (with_items first (flat_map (declaration source r N) before)).globals (shape_in s Y t) (initial source N v) ≡ Some (typed (shape_in s Y t) a)
      → AreOtherVariables (key (Id (id v.result))) (flat_map (declaration source r N) after)
      → found (with_items first (declarations source r N)).globals (key (Id (id v.result))) ≡ Some (variable_with (shape_in s Y t) (Some a))
  private_there f r first before after v t a whole written shape zero begins others =
      let front = flat_map (declaration source r N) before in
      let item = tree.global (type_at source N (pointee_at source v.ty)) (N.id v.result) (initial source N v) in
      let d = with_items first front in
      let x = key (Id (id v.result)) in
      let given : global_value d (type_of d.program (type_at source N (pointee_at source v.ty))) (initial source N v) ≡ Some (typed (shape_in s Y t) a)
      = ap (λ o. global_value d o (initial source N v)) (type_declared s f overrides key calculated d.program (pointee_at source v.ty) t shape (zero_lengths d.program s source key t zero) (is_declared d.program s source key t zero)) ∙ begins in
      let itself : bytes_eq x x ≡ true = (bytes_eq-Decides x x).1 refl in
      ap (λ l. found (with_items first l).globals x) (declared_between source r N before after v item whole written)
      ∙ ap (λ (e : Declared). found e.globals x) (items_more front (item ∷ flat_map (declaration source r N) after) first)
      ∙ items_find (flat_map (declaration source r N) after) (with_item d item) x others
      ∙ ap (λ o. found (with_global x o d).globals x) given
      ∙ ap (λ b. elim b as (λ b. Option Variable) [ true ↦ Some (variable_with (shape_in s Y t) (Some a)) | false ↦ found d.globals x ]) itself

  -- the initializer of a scalar, where it is a plain constant
  pub plain_begins : HasConstants s (chosen s overrides) → HaveResults s.of.globals → (p : Program) (globals : Frame) (v g : Inst) (n : ℕ) (t : Tree) (a : ValueTree) → slice_get v.args 1 ≡ Some n → global_inst s.of.globals n ≡ Some g → reading source g ≡ Plain → type_tree s.of.globals g.ty ≡ Some t → s.constants n ≡ Some a
      → known_value p globals (shape_in s Y t) (initial source N v) ≡ Some (typed (shape_in s Y t) a)
  plain_begins have results p globals v g n t a second there reads shape has =
      let z : State = record { frames = []; globals = globals; answers = [] } in
      let says = plain_says s overrides have results p no_calls z Y N.id n g a there reads has in
      let c = plain_has s overrides have results n g a there reads has in
      let same : says.0 ≡ t = same_Some says.0 t (sym says.1 ∙ shape) in
      let on : is_scalar t ≡ true = ap is_scalar (same_Some t c.shape (sym shape ∙ c.typed_as)) ∙ c.scalar in
      let written : initial source N v ≡ constant_expr source N.id g = ap (λ o. option_map_or (expr_at source N) o (zero_at source N (pointee_at source v.ty))) second ∙ ap (λ o. option_map_or (constant_expr source N.id) o (literal (Uint 0))) there in
      ap (known_value p globals (shape_in s Y t)) written ∙ ap (known_if (shape_in s Y t)) says.2 ∙ ap (λ u. known_if (shape_in s Y t) (got [] (typed (shape_in s Y u) a, z))) same ∙ if_own s Y t a on

  -- a value of its own type
  pub own_value : (p : Program) (t : Tree) (a : ValueTree) → HasZero p s source key t → if_of (shape_in s Y t) (typed (shape_in s Y t) a) ≡ Some (typed (shape_in s Y t) a)
  own_value p t a has = ap (λ b. elim b as (λ b. Option Typed) [ true ↦ Some (typed (shape_in s Y t) a) | false ↦ None ]) (same_itself p s source key t has)

  -- the initializer, where it is a constant that is read by its name
  pub named_begins : (p : Program) (globals : Frame) (v g : Inst) (n : ℕ) (t : Tree) (a : ValueTree) → slice_get v.args 1 ≡ Some n → global_inst s.of.globals n ≡ Some g → reading source g ≡ Named → HasZero p s source key t → found globals (key (Id (id g.result))) ≡ None
      → p.things (key (Id (id g.result))) ≡ Some (value (typed (shape_in s Y t) a)) → known_value p globals (shape_in s Y t) (initial source N v) ≡ Some (typed (shape_in s Y t) a)
  named_begins p globals v g n t a second there reads has none thing =
      let z : State = record { frames = []; globals = globals; answers = [] } in
      let x = key (Id (id g.result)) in
      let written : initial source N v ≡ name x
      = ap (λ o. option_map_or (expr_at source N) o (zero_at source N (pointee_at source v.ty))) second ∙ ap (λ o. option_map_or (constant_expr source N.id) o (literal (Uint 0))) there ∙ ap (expr_by source N.id g) reads in
      ap (known_value p globals (shape_in s Y t)) written
      ∙ ap (λ o. known_if (shape_in s Y t) (then_fetch (or_stuck o (λ y. got [] (y, z))) (λ v q. got [] (v, q)))) (outside_is p z x refl none ∙ thing)
      ∙ own_value p t a has

  -- without an initializer it begins with its zero
  pub zero_begins : (p : Program) (globals : Frame) (v : Inst) (t : Tree) → slice_get v.args 1 ≡ None → type_tree s.of.globals (pointee_at source v.ty) ≡ Some t → HasZero p s source key t → known_value p globals (shape_in s Y t) (initial source N v) ≡ Some (typed (shape_in s Y t) (zero_of t))
  zero_begins p globals v t none shape has =
      let z : State = record { frames = []; globals = globals; answers = [] } in
      ap (λ o. known_value p globals (shape_in s Y t) (option_map_or (expr_at source N) o (zero_at source N (pointee_at source v.ty)))) none
      ∙ ap (λ o. known_value p globals (shape_in s Y t) (zero_text (spelling source N.id) (unwrap_or o plain.uint))) shape
      ∙ ap (λ g. known_if (shape_in s Y t) (then_fetch g (λ v q. got [] (v, q)))) (zero_says p s source key no_calls z t has)
      ∙ own_value p t (zero_of t) has

  -- With these values the variable begins in the module.
  pub given_first : (m n : ℕ) (v : Inst) → global_variable s m ≡ Some v → slice_get v.args 1 ≡ Some n → initial_private s m ≡ s.constants n
  given_first m n v there second = ap (option_and_then (begins s)) there ∙ by_args v.args second
    where
      by_args : (args : List ℕ) → slice_get args 1 ≡ Some n → initial_by s (type_tree s.of.globals (variable_type s v)) args ≡ s.constants n
      by_args [] e = cc
      by_args (c ∷ []) e = cc
      by_args (c ∷ i ∷ rest) e = ap s.constants (same_Some i n e)

  pub zero_first : (m : ℕ) (v : Inst) (t : Tree) → global_variable s m ≡ Some v → slice_get v.args 1 ≡ None → type_tree s.of.globals (variable_type s v) ≡ Some t → initial_private s m ≡ Some (zero_of t)
  zero_first m v t there none shape = ap (option_and_then (begins s)) there ∙ by_args v.args none
    where
      by_args : (args : List ℕ) → slice_get args 1 ≡ None → initial_by s (type_tree s.of.globals (variable_type s v)) args ≡ Some (zero_of t)
      by_args [] e = ap (option_map zero_of) shape
      by_args (c ∷ []) e = ap (option_map zero_of) shape
      by_args (c ∷ i ∷ rest) e = cc
