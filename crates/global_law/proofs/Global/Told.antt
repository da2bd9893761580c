-- A scalar constant with a SpecId has by its name the value that it has in the run: what the invocation is told, else its default.
use Rattle.std.proofs.Common.{◌≡◌, ◌++◌, ◌==◌, ℕ, Bool, true, false, List, [], ◌∷◌, Option, Some, None, refl, sym, ap, ap₂, ◌∙◌, subst, if◌then◌else◌}
use Rattle.std.specs.Prelude.{bytes_eq, flat_map, not, is_some, option_map, option_and_then, slice_index, unwrap_or}
use Rattle.std.specs.Option.{option_or}
use Rattle.std.proofs.lemmas.Slice.Eq.{bytes_eq-Decides}
use Rattle.std.proofs.lemmas.Option.{same_Some}
use Rattle.spv_module.specs.Held.{global}
use Rattle.spv_module.specs.Lists.{id}
use Rattle.spv_module.specs.declared.inst.Inst.{Inst}
use Rattle.spv_module.specs.declared.inst.Function.{Function}
use Rattle.spv_module.specs.declared.tree.Length.TheVariants.{Fixed, Spec}
use Rattle.spv_types.specs.Tree as plain
use Rattle.spv_types.specs.Tree.{Tree, ValueTree, truth, word}
use Rattle.spv_types.specs.Types.{type_tree}
use Rattle.op_semantics.specs.Fits.{fits}
use Rattle.profile_rules.specs.declared.given.Given.{Given}
use Rattle.profile_rules.specs.declared.constant.ConstantKind.{ConstantKind}
use Rattle.profile_rules.specs.declared.constant.ConstantKind.TheVariants as kinds
use Rattle.profile_rules.specs.Constants.{constant_kind, spec_id, given_to, word_given, chosen_truth, value_by_kind}
use Rattle.module_semantics.specs.Setting.{Setting}
use Rattle.name_alloc.specs.declared.claims.Key.{Key}
use Rattle.name_alloc.specs.declared.claims.Key.TheVariants.{Id}
use Rattle.glsl_ast.specs.Tree as tree
use Rattle.glsl_ast.specs.Tree.{Text, Expr, literal, Decl}
use Rattle.glsl_semantics.specs.Shapes.{Typed, typed}
use Rattle.glsl_semantics.specs.States.{Frame, Thing, value}
use Rattle.glsl_semantics.specs.Expressions.{Program, type_of, literal_value}
use Rattle.glsl_semantics.specs.Items.{Declared, if_of, value_of_word, constant_by, constant_value, with_global, with_item, with_items}
use Rattle.text_rules.specs.Constants.{Source, if_free, free_spec_id, is_scalar, override_word, constant_shape, plain_value_by, plain_literal, scalar_literal}
use Rattle.text_rules.specs.Printed.{Reached}
use Rattle.text_rules.specs.Declarations.{Names, type_at, value_by, constant_decl, declaration, declarations}
use Rattle.type_law.specs.Shaped.{HaveResults, HasConstants}
use Rattle.type_law.proofs.Constants.{constant_of}
use Rattle.global_law.specs.Parts.{StructNames, shape_in}
use Rattle.global_law.specs.Laid.{HasLengths}
use Rattle.global_law.specs.Walks.{struct_names}
use Rattle.global_law.specs.Sources.{source_of, chosen}
use Rattle.global_law.specs.Names.{names_of, IsDeclared}
use Rattle.global_law.proofs.Global.Plain.{literal_says}
use Rattle.global_law.proofs.Global.BuiltIns.{AreOtherNames}
use Rattle.global_law.proofs.Global.Blocks.{declared_between, item_there, type_declared}

-- a specialization constant that is a scalar
abbrev pub IsSpec : ConstantKind → Type 0
IsSpec kinds.SpecTrue = Unit {0}
IsSpec kinds.SpecFalse = Unit {0}
IsSpec kinds.SpecWord = Unit {0}
IsSpec _ = ⊥

-- items leave what the invocation is told
item_invocation : (d : Declared) (i : Decl) → (with_item d i).program.invocation ≡ d.program.invocation
item_invocation d (Decl.struct w fs) = refl
item_invocation d (tree.constant spec t w e) = refl
item_invocation d (tree.shared t w) = refl
item_invocation d (tree.global t w e) = by_value _
  where
    by_value : (o : Option Typed) → (with_global w o d).program.invocation ≡ d.program.invocation
    by_value None = refl
    by_value (Some v) = refl
item_invocation d (tree.block place r quals buffer w members w') = refl
item_invocation d (Decl.function result w params body) = refl

pub items_invocation : (is : List Decl) (d : Declared) → (with_items d is).program.invocation ≡ d.program.invocation
items_invocation [] d = refl
items_invocation (i ∷ is) d = items_invocation is (with_item d i) ∙ item_invocation d i

-- the type of a scalar needs no struct and no length
scalar_declared : (p : Program) (s : Setting) (source : Source) (key : Key → Text) (t : Tree) → is_scalar t ≡ true → HasLengths t × IsDeclared p s source key t
scalar_declared p s source key plain.boolean on = (tt, tt)
scalar_declared p s source key plain.int on = (tt, tt)
scalar_declared p s source key plain.uint on = (tt, tt)
scalar_declared p s source key (plain.vector e n) on = (tt, tt)
scalar_declared p s source key (plain.array t l) on = cc
scalar_declared p s source key (plain.runtime t) on = cc
scalar_declared p s source key (plain.struct n ts) on = cc

module _ (s : Setting) (y : StructNames) where
  truth_scalar : (t : Tree) (b : Bool) → fits t (truth b) ≡ true → is_scalar t ≡ true
  truth_scalar plain.boolean b fit = refl
  truth_scalar plain.int b fit = cc
  truth_scalar plain.uint b fit = cc
  truth_scalar (plain.vector e n) b fit = cc
  truth_scalar (plain.array t (Fixed n)) b fit = cc
  truth_scalar (plain.array t (Spec n)) b fit = cc
  truth_scalar (plain.runtime t) b fit = cc
  truth_scalar (plain.struct n ts) b fit = cc

  word_scalar : (t : Tree) (w : ℕ) → fits t (word w) ≡ true → is_scalar t ≡ true
  word_scalar plain.boolean w fit = cc
  word_scalar plain.int w fit = refl
  word_scalar plain.uint w fit = refl
  word_scalar (plain.vector e n) w fit = cc
  word_scalar (plain.array t (Fixed n)) w fit = cc
  word_scalar (plain.array t (Spec n)) w fit = cc
  word_scalar (plain.runtime t) w fit = cc
  word_scalar (plain.struct n ts) w fit = cc

  truth_told : (t : Tree) (w : ℕ) → fits t (truth (not (w == 0))) ≡ true → value_of_word (shape_in s y t) w ≡ Some (typed (shape_in s y t) (truth (not (w == 0))))
  truth_told plain.boolean w fit = refl
  truth_told plain.int w fit = cc
  truth_told plain.uint w fit = cc
  truth_told (plain.vector e n) w fit = cc
  truth_told (plain.array t (Fixed n)) w fit = cc
  truth_told (plain.array t (Spec n)) w fit = cc
  truth_told (plain.runtime t) w fit = cc
  truth_told (plain.struct n ts) w fit = cc

  word_told : (t : Tree) (w : ℕ) → fits t (word w) ≡ true → value_of_word (shape_in s y t) w ≡ Some (typed (shape_in s y t) (word w))
  word_told plain.boolean w fit = cc
  word_told plain.int w fit = refl
  word_told plain.uint w fit = refl
  word_told (plain.vector e n) w fit = cc
  word_told (plain.array t (Fixed n)) w fit = cc
  word_told (plain.array t (Spec n)) w fit = cc
  word_told (plain.runtime t) w fit = cc
  word_told (plain.struct n ts) w fit = cc

  -- what is told is the value, of either kind
  told_is : (t : Tree) (v : ValueTree) (h : ℕ → Option ValueTree) (w : ℕ) (args : List ℕ) (k : ConstantKind) → IsSpec k → fits t v ≡ true → value_by_kind h (Some w) t args k ≡ Some v → value_of_word (shape_in s y t) w ≡ Some (typed (shape_in s y t) v)
  told_is t v h w args kinds.SpecTrue is fit e = let same = same_Some (truth (not (w == 0))) v e in subst (λ x. value_of_word (shape_in s y t) w ≡ Some (typed (shape_in s y t) x)) same (truth_told t w (ap (fits t) same ∙ fit))
  told_is t v h w args kinds.SpecFalse is fit e = let same = same_Some (truth (not (w == 0))) v e in subst (λ x. value_of_word (shape_in s y t) w ≡ Some (typed (shape_in s y t) x)) same (truth_told t w (ap (fits t) same ∙ fit))
  told_is t v h w args kinds.SpecWord is fit e = let same = same_Some (word w) v e in subst (λ x. value_of_word (shape_in s y t) w ≡ Some (typed (shape_in s y t) x)) same (word_told t w (ap (fits t) same ∙ fit))
  told_is t v h w args kinds.True is fit e = absurd is
  told_is t v h w args kinds.False is fit e = absurd is
  told_is t v h w args kinds.Word is fit e = absurd is
  told_is t v h w args kinds.Zero is fit e = absurd is
  told_is t v h w args kinds.Composite is fit e = absurd is
  told_is t v h w args kinds.Operation is fit e = absurd is
  told_is t v h w args kinds.Other is fit e = absurd is

  -- such a constant is a scalar
  spec_scalar : (t : Tree) (v : ValueTree) (h : ℕ → Option ValueTree) (o : Option ℕ) (args : List ℕ) (k : ConstantKind) → IsSpec k → fits t v ≡ true → value_by_kind h o t args k ≡ Some v → is_scalar t ≡ true
  spec_scalar t v h o args kinds.SpecTrue is fit e = truth_scalar t (chosen_truth o true) (ap (fits t) (same_Some (truth (chosen_truth o true)) v e) ∙ fit)
  spec_scalar t v h o args kinds.SpecFalse is fit e = truth_scalar t (chosen_truth o false) (ap (fits t) (same_Some (truth (chosen_truth o false)) v e) ∙ fit)
  spec_scalar t v h o args kinds.SpecWord is fit e = word_scalar t (unwrap_or o (slice_index args 0)) (ap (fits t) (same_Some (word (unwrap_or o (slice_index args 0))) v e) ∙ fit)
  spec_scalar t v h o args kinds.True is fit e = absurd is
  spec_scalar t v h o args kinds.False is fit e = absurd is
  spec_scalar t v h o args kinds.Word is fit e = absurd is
  spec_scalar t v h o args kinds.Zero is fit e = absurd is
  spec_scalar t v h o args kinds.Composite is fit e = absurd is
  spec_scalar t v h o args kinds.Operation is fit e = absurd is
  spec_scalar t v h o args kinds.Other is fit e = absurd is

  -- a scalar of its own type
  pub if_own : (t : Tree) (v : ValueTree) → is_scalar t ≡ true → if_of (shape_in s y t) (typed (shape_in s y t) v) ≡ Some (typed (shape_in s y t) v)
  if_own plain.boolean v on = refl
  if_own plain.int v on = refl
  if_own plain.uint v on = refl
  if_own (plain.vector e n) v on = cc
  if_own (plain.array t l) v on = cc
  if_own (plain.runtime t) v on = cc
  if_own (plain.struct n ts) v on = cc

module _ (s : Setting) (overrides : List (ℕ × Given)) (have : HasConstants s (chosen s overrides)) (results : HaveResults s.of.globals) (key : Key → Text) (calculated : Inst → Expr) where
  abbrev source : Source
  source = source_of s overrides

  abbrev N : Names
  N = names_of key calculated

  abbrev Y : StructNames
  Y = struct_names key

  -- a SpecId that is free gets what the invocation is told
  free_chosen : (n spec : ℕ) → free_spec_id source n ≡ Some spec → (chosen s overrides n ≡ s.invocation.specialization spec) × (override_word source n ≡ None)
  free_chosen n spec free = by_spec (spec_id s.of.heads n) free
    where
      by_given : (k : ℕ) (o : Option Given) → (if is_some o then None else Some k) ≡ Some spec → (option_or (option_map word_given o) (s.invocation.specialization k) ≡ s.invocation.specialization spec) × (option_map word_given o ≡ None)
      by_given k None e = (ap s.invocation.specialization (same_Some k spec e), refl)
      by_given k (Some v) e = cc

      by_spec : (o : Option ℕ) → option_and_then (if_free overrides) o ≡ Some spec
          → (option_and_then (λ k. option_or (option_map word_given (given_to overrides k)) (s.invocation.specialization k)) o ≡ s.invocation.specialization spec) × (option_and_then (λ k. option_map word_given (given_to overrides k)) o ≡ None)
      by_spec None e = cc
      by_spec (Some k) e = by_given k (given_to overrides k) e

  -- it is declared with the literal of its default
  written_by : (g : Inst) (k : ConstantKind) → IsSpec k → value_by source N g k ≡ literal (plain_literal source g)
  written_by g kinds.SpecTrue is = refl
  written_by g kinds.SpecFalse is = refl
  written_by g kinds.SpecWord is = refl
  written_by g kinds.True is = absurd is
  written_by g kinds.False is = absurd is
  written_by g kinds.Word is = absurd is
  written_by g kinds.Zero is = absurd is
  written_by g kinds.Composite is = absurd is
  written_by g kinds.Operation is = absurd is
  written_by g kinds.Other is = absurd is

  default_value : (g : Inst) (t : Tree) (v : ValueTree) (h : ℕ → Option ValueTree) (k : ConstantKind) → IsSpec k → constant_shape source g ≡ t → override_word source g.result ≡ None → value_by_kind h None t g.args k ≡ Some v → plain_value_by source g k ≡ v
  default_value g t v h kinds.SpecTrue is shape none e = ap (λ o. unwrap_or (value_by_kind (λ id. None) o (constant_shape source g) g.args kinds.SpecTrue) (word 0)) none ∙ same_Some _ v e
  default_value g t v h kinds.SpecFalse is shape none e = ap (λ o. unwrap_or (value_by_kind (λ id. None) o (constant_shape source g) g.args kinds.SpecFalse) (word 0)) none ∙ same_Some _ v e
  default_value g t v h kinds.SpecWord is shape none e = ap (λ o. unwrap_or (value_by_kind (λ id. None) o (constant_shape source g) g.args kinds.SpecWord) (word 0)) none ∙ same_Some _ v e
  default_value g t v h kinds.True is shape none e = absurd is
  default_value g t v h kinds.False is shape none e = absurd is
  default_value g t v h kinds.Word is shape none e = absurd is
  default_value g t v h kinds.Zero is shape none e = absurd is
  default_value g t v h kinds.Composite is shape none e = absurd is
  default_value g t v h kinds.Operation is shape none e = absurd is
  default_value g t v h kinds.Other is shape none e = absurd is

  -- the value that the item gives
  value_there : (p : Program) (globals : Frame) (g : Inst) (t : Tree) (v : ValueTree) (h : ℕ → Option ValueTree) (o : Option ℕ) → IsSpec (constant_kind g.op) → type_tree s.of.globals g.ty ≡ Some t → fits t v ≡ true → override_word source g.result ≡ None → value_by_kind h o t g.args (constant_kind g.op) ≡ Some v
      → constant_by p globals (shape_in s Y t) (literal (plain_literal source g)) o ≡ Some (typed (shape_in s Y t) v)
  value_there p globals g t v h (Some w) is shape fit none made = told_is s Y t v h w g.args (constant_kind g.op) is fit made
  value_there p globals g t v h None is shape fit none made =
      let on = spec_scalar s Y t v h None g.args (constant_kind g.op) is fit made in
      let same : constant_shape source g ≡ t = ap (λ o. unwrap_or o plain.uint) shape in
      let says : literal_value (plain_literal source g) ≡ typed (shape_in s Y t) v
      = ap₂ (λ t v. literal_value (scalar_literal t v)) same (default_value g t v h (constant_kind g.op) is same none made) ∙ literal_says s overrides have results Y t v on fit in
      ap (if_of (shape_in s Y t)) says ∙ if_own s Y t v on

  -- So the item gives its name this value.
  pub told_item : (f : Function) (d : Declared) (n spec : ℕ) (g : Inst) (v : ValueTree) → d.program.invocation ≡ s.invocation → global s.of.globals n ≡ Some g → IsSpec (constant_kind g.op) → free_spec_id source g.result ≡ Some spec → s.constants n ≡ Some v
      → (t : Tree) × (type_tree s.of.globals g.ty ≡ Some t) × ((with_item d (constant_decl source N g)).program.things (key (Id (id g.result))) ≡ Some (value (typed (shape_in s Y t) v)))
  told_item f d n spec g v invocation there is free has =
      let c = constant_of s (chosen s overrides) have results n v has in
      let same : c.0 ≡ g = same_Some c.0 g (sym c.3 ∙ there) in
      let t = c.2 in
      let h = c.1 in
      let shape : type_tree s.of.globals g.ty ≡ Some t = ap (λ (x : Inst). type_tree s.of.globals x.ty) (sym same) ∙ c.4 in
      let chosen_is = free_chosen g.result spec free in
      let made : value_by_kind h (s.invocation.specialization spec) t g.args (constant_kind g.op) ≡ Some v
      = ap (λ o. value_by_kind h o t g.args (constant_kind g.op)) (sym chosen_is.0) ∙ ap (λ (x : Inst). value_by_kind h (chosen s overrides x.result) t x.args (constant_kind x.op)) (sym same) ∙ c.6 in
      let on = spec_scalar s Y t v h (s.invocation.specialization spec) g.args (constant_kind g.op) is c.5 made in
      let scalar = scalar_declared d.program s source key t on in
      let typed_as : type_of d.program (type_at source N g.ty) ≡ Some (shape_in s Y t) = type_declared s f overrides key calculated d.program g.ty t shape scalar.0 scalar.1 in
      let given : constant_value d.program d.globals (free_spec_id source g.result) (type_of d.program (type_at source N g.ty)) (value_by source N g (constant_kind g.op)) ≡ Some (typed (shape_in s Y t) v)
      = ap₂ (λ o e. constant_value d.program d.globals (free_spec_id source g.result) o e) typed_as (written_by g (constant_kind g.op) is)
      ∙ ap₂ (λ inv o. constant_by d.program d.globals (shape_in s Y t) (literal (plain_literal source g)) (option_and_then inv o)) (ap (λ i. i.specialization) invocation) free
      ∙ value_there d.program d.globals g t v h (s.invocation.specialization spec) is shape c.5 chosen_is.1 made in
      let itself : bytes_eq (key (Id (id g.result))) (key (Id (id g.result))) ≡ true = (bytes_eq-Decides (key (Id (id g.result))) (key (Id (id g.result)))).1 refl in
      (t, shape, ap (λ b. elim b as (λ b. Option Thing) [ true ↦ option_map value (constant_value d.program d.globals (free_spec_id source g.result) (type_of d.program (type_at source N g.ty)) (value_by source N g (constant_kind g.op))) | false ↦ d.program.things (key (Id (id g.result))) ]) itself ∙ ap (option_map value) given)

  -- behind all items
  pub told_there : (f : Function) (r : Reached) (first : Declared) (before after : List Inst) (n spec : ℕ) (g : Inst) (v : ValueTree) → first.program.invocation ≡ s.invocation → s.of.globals ≡ before ++ g ∷ after → declaration source r N g ≡ constant_decl source N g ∷ [] → global s.of.globals n ≡ Some g → IsSpec (constant_kind g.op)
      → free_spec_id source g.result ≡ Some spec → s.constants n ≡ Some v → AreOtherNames (key (Id (id g.result))) (flat_map (declaration source r N) after)
      → (t : Tree) × (type_tree s.of.globals g.ty ≡ Some t) × ((with_items first (declarations source r N)).program.things (key (Id (id g.result))) ≡ Some (value (typed (shape_in s Y t) v)))
  told_there f r first before after n spec g v invocation whole written there is free has others =
      let front = flat_map (declaration source r N) before in
      let i = told_item f (with_items first front) n spec g v (items_invocation front first ∙ invocation) there is free has in (
        i.0,
        i.1,
        ap (λ l. (with_items first l).program.things (key (Id (id g.result)))) (declared_between source r N before after g (constant_decl source N g) whole written)
            ∙ item_there front (flat_map (declaration source r N) after) (constant_decl source N g) first (key (Id (id g.result))) (value (typed (shape_in s Y i.0) v)) i.2 others,
      )
