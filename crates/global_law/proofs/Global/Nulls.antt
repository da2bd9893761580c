-- A null constant has by its name the zero of its type, as in the run.
use Rattle.std.proofs.Common.{◌≡◌, ◌++◌, ℕ, true, false, List, [], ◌∷◌, Option, Some, None, refl, sym, ap, ap₂, ◌∙◌}
use Rattle.std.specs.Prelude.{bytes_eq, flat_map, option_map, unwrap_or}
use Rattle.std.proofs.lemmas.Slice.Eq.{bytes_eq-Decides}
use Rattle.std.proofs.lemmas.Option.{same_Some}
use Rattle.spv_module.specs.Held.{global}
use Rattle.spv_module.specs.Lists.{id}
use Rattle.spv_module.specs.declared.inst.Inst.{Inst}
use Rattle.spv_module.specs.declared.inst.Function.{Function}
use Rattle.spv_types.specs.Tree as plain
use Rattle.spv_types.specs.Tree.{Tree, ValueTree}
use Rattle.spv_types.specs.Types.{type_tree}
use Rattle.spv_types.specs.Leaves.{zero_of}
use Rattle.profile_rules.specs.declared.given.Given.{Given}
use Rattle.profile_rules.specs.declared.constant.ConstantKind.TheVariants as kinds
use Rattle.profile_rules.specs.Constants.{constant_kind, value_by_kind}
use Rattle.module_semantics.specs.Setting.{Setting}
use Rattle.name_alloc.specs.declared.claims.Key.{Key}
use Rattle.name_alloc.specs.declared.claims.Key.TheVariants.{Id}
use Rattle.glsl_ast.specs.Tree.{Text, Expr}
use Rattle.glsl_semantics.specs.Shapes.{typed}
use Rattle.glsl_semantics.specs.States.{State, Thing, value}
use Rattle.traces.specs.Outcomes.{got}
use Rattle.glsl_semantics.specs.Expressions.{type_of, then_fetch}
use Rattle.glsl_semantics.specs.Items.{Declared, no_calls, known_if, known_value, constant_value, with_item, with_items}
use Rattle.text_rules.specs.Constants.{Source, free_spec_id}
use Rattle.text_rules.specs.Types.{zero_text}
use Rattle.text_rules.specs.Printed.{Reached}
use Rattle.text_rules.specs.Declarations.{Names, spelling, type_at, value_by, constant_decl, declaration, declarations}
use Rattle.type_law.specs.Shaped.{HaveResults, HasConstants}
use Rattle.type_law.proofs.Constants.{constant_of}
use Rattle.global_law.specs.Parts.{StructNames, shape_in}
use Rattle.global_law.specs.Walks.{struct_names}
use Rattle.global_law.specs.Sources.{source_of, chosen}
use Rattle.global_law.specs.Names.{names_of}
use Rattle.global_law.proofs.Global.BuiltIns.{AreOtherNames}
use Rattle.global_law.proofs.Global.Blocks.{declared_between, item_there, type_declared}
use Rattle.global_law.proofs.Global.Zeros.{HasZero, is_declared, zero_lengths, zero_says}
use Rattle.global_law.proofs.Global.Privates.{own_value}

module _ (s : Setting) (overrides : List (ℕ × Given)) (key : Key → Text) (calculated : Inst → Expr) where
  abbrev source : Source
  source = source_of s overrides

  abbrev N : Names
  N = names_of key calculated

  abbrev Y : StructNames
  Y = struct_names key

  -- the value of the constant
  null_value : HasConstants s (chosen s overrides) → HaveResults s.of.globals → (n : ℕ) (g : Inst) (t : Tree) (a : ValueTree) → global s.of.globals n ≡ Some g → constant_kind g.op ≡ kinds.Zero → type_tree s.of.globals g.ty ≡ Some t → s.constants n ≡ Some a → zero_of t ≡ a
  null_value have results n g t a there kind shape has =
      let c = constant_of s (chosen s overrides) have results n a has in
      let same : c.0 ≡ g = same_Some c.0 g (sym c.3 ∙ there) in
      let typed_as : c.2 ≡ t = same_Some c.2 t (sym c.4 ∙ ap (λ (x : Inst). type_tree s.of.globals x.ty) same ∙ shape) in
      let zero : constant_kind c.0.op ≡ kinds.Zero = ap (λ (x : Inst). constant_kind x.op) same ∙ kind in
      ap zero_of (sym typed_as) ∙ same_Some (zero_of c.2) a (ap (value_by_kind c.1 (chosen s overrides c.0.result) c.2 c.0.args) (sym zero) ∙ c.6)

  -- the item of a constant whose expression says its value, and which is told no word
  pub given_item : (f : Function) (d : Declared) (g : Inst) (t : Tree) (a : ValueTree) → free_spec_id source g.result ≡ None → type_tree s.of.globals g.ty ≡ Some t → HasZero d.program s source key t → known_value d.program d.globals (shape_in s Y t) (value_by source N g (constant_kind g.op)) ≡ Some (typed (shape_in s Y t) a)
      → (with_item d (constant_decl source N g)).program.things (key (Id (id g.result))) ≡ Some (value (typed (shape_in s Y t) a))
  given_item f d g t a bound shape zero known =
      let x = key (Id (id g.result)) in
      let itself : bytes_eq x x ≡ true = (bytes_eq-Decides x x).1 refl in
      let typed_as : type_of d.program (type_at source N g.ty) ≡ Some (shape_in s Y t) = type_declared s f overrides key calculated d.program g.ty t shape (zero_lengths d.program s source key t zero) (is_declared d.program s source key t zero) in
      let given : constant_value d.program d.globals (free_spec_id source g.result) (type_of d.program (type_at source N g.ty)) (value_by source N g (constant_kind g.op)) ≡ Some (typed (shape_in s Y t) a)
      = ap₂ (λ i o. constant_value d.program d.globals i o (value_by source N g (constant_kind g.op))) bound typed_as ∙ known in
      ap (λ b. elim b as (λ b. Option Thing) [ true ↦ option_map value (constant_value d.program d.globals (free_spec_id source g.result) (type_of d.program (type_at source N g.ty)) (value_by source N g (constant_kind g.op))) | false ↦ d.program.things x ]) itself ∙ ap (option_map value) given

  -- the item of a null constant
  pub null_item : HasConstants s (chosen s overrides) → HaveResults s.of.globals → (f : Function) (d : Declared) (n : ℕ) (g : Inst) (t : Tree) (a : ValueTree) → global s.of.globals n ≡ Some g → constant_kind g.op ≡ kinds.Zero → free_spec_id source g.result ≡ None → type_tree s.of.globals g.ty ≡ Some t → s.constants n ≡ Some a
      → HasZero d.program s source key t → (with_item d (constant_decl source N g)).program.things (key (Id (id g.result))) ≡ Some (value (typed (shape_in s Y t) a))
  null_item have results f d n g t a there kind bound shape has zero =
      let z : State = record { frames = []; globals = d.globals; answers = [] } in
      given_item f d g t a bound shape zero
      (ap (λ k. known_value d.program d.globals (shape_in s Y t) (value_by source N g k)) kind
      ∙ ap (λ o. known_value d.program d.globals (shape_in s Y t) (zero_text (spelling source N.id) (unwrap_or o plain.uint))) shape
      ∙ ap (λ g. known_if (shape_in s Y t) (then_fetch g (λ v q. got [] (v, q)))) (zero_says d.program s source key no_calls z t zero)
      ∙ own_value s overrides key calculated d.program t (zero_of t) zero ∙ ap (λ v. Some (typed (shape_in s Y t) v)) (null_value have results n g t a there kind shape has))

  -- So its name stands for it, behind all items.
  pub null_there : HasConstants s (chosen s overrides) → HaveResults s.of.globals → (f : Function) (r : Reached) (first : Declared) (before after : List Inst) (n : ℕ) (g : Inst) (t : Tree) (a : ValueTree) → s.of.globals ≡ before ++ g ∷ after → declaration source r N g ≡ constant_decl source N g ∷ [] → global s.of.globals n ≡ Some g
      → constant_kind g.op ≡ kinds.Zero → free_spec_id source g.result ≡ None → type_tree s.of.globals g.ty ≡ Some t → s.constants n ≡ Some a → HasZero (with_items first (flat_map (declaration source r N) before)).program s source key t → AreOtherNames (key (Id (id g.result))) (flat_map (declaration source r N) after)
      → (with_items first (declarations source r N)).program.things (key (Id (id g.result))) ≡ Some (value (typed (shape_in s Y t) a))
  null_there have results f r first before after n g t a whole written there kind bound shape has zero others =
      let front = flat_map (declaration source r N) before in
      let d = with_items first front in
      let x = key (Id (id g.result)) in
      ap (λ l. (with_items first l).program.things x) (declared_between source r N before after g (constant_decl source N g) whole written)
      ∙ item_there front (flat_map (declaration source r N) after) (constant_decl source N g) first x (value (typed (shape_in s Y t) a)) (null_item have results f d n g t a there kind bound shape has zero) others
