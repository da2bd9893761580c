-- What the items of a text declare stays: so the block of a variable stands for its members, by the layout that it takes.
use Rattle.std.proofs.Common.{◌≡◌, ◌⊎◌, ◌+◌, ◌++◌, ℕ, true, false, List, [], ◌∷◌, map, Option, Some, None, refl, sym, ap, ap₂, ◌∙◌, subst, append_assoc}
use Rattle.std.specs.Prelude.{flat_map, unwrap_or}
use Rattle.std.specs.List.{enumerate_from}
use Rattle.std.proofs.lemmas.List.Concat.{flat_map-cons}
use Rattle.std.proofs.lemmas.Option.{same_Some}
use Rattle.spv_ops.specs.Opcode.{is}
use Rattle.spv_module.specs.Lists.{id}
use Rattle.spv_module.specs.declared.inst.Inst.{Inst}
use Rattle.spv_module.specs.declared.inst.Function.{Function}
use Rattle.spv_types.specs.Tree.{struct, Tree, Trees, no_trees, tree}
use Rattle.spv_types.specs.Types.{both, all_trees, tree_before, type_tree}
use Rattle.spv_ops.specs.Enumerants.{decoration_number}
use Rattle.spv_ops.specs.declared.Decoration.TheVariants as decoration
use Rattle.spv_decor.specs.Rows.{member_value_of}
use Rattle.profile_rules.specs.declared.given.Given.{Given}
use Rattle.layout_rules.specs.declared.Kind.{Kind}
use Rattle.layout_rules.specs.declared.Kind.TheVariants.{Std430, Std140}
use Rattle.layout_rules.specs.Blocks.{kind_at}
use Rattle.module_semantics.specs.Setting.{Setting, global_variable}
use Rattle.name_alloc.specs.declared.claims.Key.{Key}
use Rattle.name_alloc.specs.declared.claims.Key.TheVariants.{Id}
use Rattle.glsl_ast.specs.Tree.{Text, Expr, Decl}
use Rattle.glsl_semantics.specs.Shapes.{Shape}
use Rattle.glsl_semantics.specs.States.{Thing, instance}
use Rattle.glsl_semantics.specs.Expressions.{Program, type_of}
use Rattle.glsl_semantics.specs.Items.{Declared, layout_of, with_member, members_of, with_item, with_items}
use Rattle.text_rules.specs.Constants.{Source}
use Rattle.text_rules.specs.Printed.{Reached}
use Rattle.text_rules.specs.Declarations.{Names, spelling, type_at, member_decl, place_of, rules_by, block_decl, declaration, declarations}
use Rattle.region_law.proofs.Flags.{own_text}
use Rattle.type_law.proofs.Parts.{earlier_is}
use Rattle.global_law.specs.Parts.{shape_in, IsShape}
use Rattle.global_law.specs.Walks.{struct_names}
use Rattle.global_law.specs.Starts.{members_in, IsBlock}
use Rattle.global_law.specs.Laid.{HasLengths, HaveLengths}
use Rattle.agree_law.specs.Agree.{Naming}
use Rattle.module_semantics.specs.State.{global as root}
use Rattle.module_semantics.specs.Memory.{variable_type}
use Rattle.spv_module.specs.Held.{global}
use Rattle.spv_index.specs.Pointers.{pointee}
use Rattle.spv_index.specs.BlockStructs.{is_block}
use Rattle.spv_decor.specs.Rows.{word}
use Rattle.spv_ops.specs.Enumerants.{class_number}
use Rattle.spv_ops.specs.declared.StorageClass.TheVariants as storage
use Rattle.fits_law.proofs.Steps.{named}
use Rattle.global_law.specs.Sources.{source_of}
use Rattle.global_law.specs.Names.{names_of, IsDeclared}
use Rattle.global_law.proofs.Global.BuiltIns.{AreOtherNames, items_keep}
use Rattle.global_law.proofs.Global.Declared.{named_shape, named_type, outline_same}

-- items one behind the other
pub items_more : (xs ys : List Decl) (d : Declared) → with_items d (xs ++ ys) ≡ with_items (with_items d xs) ys
items_more [] ys d = refl
items_more (x ∷ xs) ys d = items_more xs ys (with_item d x)

-- the item of a name is what stands for it in the end
pub item_there : (front back : List Decl) (i : Decl) (d : Declared) (x : Text) (a : Thing) → (with_item (with_items d front) i).program.things x ≡ Some a → AreOtherNames x back → (with_items d (front ++ i ∷ back)).program.things x ≡ Some a
item_there front back i d x a is others =
    ap (λ (e : Declared). e.program.things x) (items_more front (i ∷ back) d) ∙ items_keep back (with_item (with_items d front) i) x others ∙ is

-- what is declared of a global stands between what is declared of those before and behind it
behind : {A B : Type 0} (f : A → List B) (xs : List A) (x : A) (ys : List A) → flat_map f (xs ++ x ∷ ys) ≡ flat_map f xs ++ (f x ++ flat_map f ys)
behind f [] x ys = flat_map-cons f x ys
behind f (a ∷ xs) x ys = flat_map-cons f a (xs ++ x ∷ ys) ∙ ap (λ l. f a ++ l) (behind f xs x ys) ∙ sym (append_assoc (f a) (flat_map f xs) (f x ++ flat_map f ys)) ∙ ap (λ l. l ++ (f x ++ flat_map f ys)) (sym (flat_map-cons f a xs))

pub declared_between : (source : Source) (r : Reached) (names : Names) (before after : List Inst) (g : Inst) (i : Decl) → source.of.globals ≡ before ++ g ∷ after → declaration source r names g ≡ i ∷ []
    → declarations source r names ≡ flat_map (declaration source r names) before ++ i ∷ flat_map (declaration source r names) after
declared_between source r names before after g i whole is =
    ap (flat_map (declaration source r names)) whole ∙ behind (declaration source r names) before g after ∙ ap (λ l. flat_map (declaration source r names) before ++ (l ++ flat_map (declaration source r names) after)) is

module _ (s : Setting) (f : Function) (overrides : List (ℕ × Given)) (key : Key → Text) (calculated : Inst → Expr) where
  abbrev source : Source
  source = source_of s overrides

  abbrev N : Names
  N = names_of key calculated

  abbrev Gs : List Inst
  Gs = s.of.globals

  -- the types of all these stand in what was declared
  abbrev pub AreDeclared : Program → Trees → Type 0
  AreDeclared p no_trees = Unit {0}
  AreDeclared p (tree t ts) = IsDeclared p s source key t × AreDeclared p ts

  pub shape_declared : (p : Program) (ty : ℕ) (t : Tree) → type_tree Gs ty ≡ Some t → IsDeclared p s source key t → (q : Shape) × (type_of p (type_at source N ty) ≡ Some q) × IsShape s (struct_names key) t q
  shape_declared p ty t shape is = let w = named_shape p s source key t is in (w.0, ap (type_of p) (outline_same (spelling source N.id) Gs ty t shape) ∙ w.1, w.2)

  pub type_declared : (p : Program) (ty : ℕ) (t : Tree) → type_tree Gs ty ≡ Some t → HasLengths t → IsDeclared p s source key t → type_of p (type_at source N ty) ≡ Some (shape_in s (struct_names key) t)
  type_declared p ty t shape lengths is = ap (type_of p) (outline_same (spelling source N.id) Gs ty t shape) ∙ named_type p s source key t lengths is

  -- the members of a block
  members_declared : (p : Program) (v g : Inst) (k : ℕ) (ids : List ℕ) (ts : Trees) → all_trees (tree_before Gs g.at) ids ≡ Some ts → HaveLengths ts → AreDeclared p ts → members_of p (map (member_decl source N v g) (enumerate_from k ids)) ≡ members_in s (struct_names key) g.result k ts
  members_declared p v g k [] ts all lengths are = subst (λ us. [] ≡ members_in s (struct_names key) g.result k us) (same_Some no_trees ts all) refl
  members_declared p v g k (n ∷ ns) ts all lengths are = by_parts (tree_before Gs g.at n) refl (all_trees (tree_before Gs g.at) ns) refl all lengths are (λ us more long there. members_declared p v g (k + 1) ns us more long there)
    where
      by_parts : (o : Option Tree) → tree_before Gs g.at n ≡ o → (q : Option Trees) → all_trees (tree_before Gs g.at) ns ≡ q → both o q ≡ Some ts → HaveLengths ts → AreDeclared p ts
          → ((us : Trees) → all_trees (tree_before Gs g.at) ns ≡ Some us → HaveLengths us → AreDeclared p us → members_of p (map (member_decl source N v g) (enumerate_from (k + 1) ns)) ≡ members_in s (struct_names key) g.result (k + 1) us)
          → members_of p (map (member_decl source N v g) (enumerate_from k (n ∷ ns))) ≡ members_in s (struct_names key) g.result k ts
      by_parts None is q more e lengths are later = cc
      by_parts (Some t) is None more e lengths are later = cc
      by_parts (Some t) is (Some us) more e lengths are later =
          let whole : tree t us ≡ ts = same_Some (tree t us) ts e in
          let there : AreDeclared p (tree t us) = subst (AreDeclared p) (sym whole) are in
          let long : HaveLengths (tree t us) = subst HaveLengths (sym whole) lengths in
          subst (λ q. members_of p (map (member_decl source N v g) (enumerate_from k (n ∷ ns))) ≡ members_in s (struct_names key) g.result k q) whole
          (ap₂ (λ o ms. with_member (N.member g.result k) (offset k) o ms) (type_declared p n t (earlier_is s f g.at n t is) long.0 there.0) (later us more long.1 there.1))
        where
          offset : ℕ → ℕ
          offset k = unwrap_or (member_value_of s.of.heads g.result k (decoration_number decoration.Offset)) 0

  kind_there : (k : Kind) → layout_of (rules_by (Some k)) ≡ k
  kind_there Std430 = refl
  kind_there Std140 = refl

  -- the item of a block
  pub block_item : (d : Declared) (v g : Inst) (k : Kind) (ts : Trees) → kind_at s.of.heads Gs v g ≡ Some k → all_trees (tree_before Gs g.at) g.args ≡ Some ts → HaveLengths ts → AreDeclared d.program ts → (with_item d (block_decl source N v g)).program.things (key (Id (id v.result))) ≡ Some (instance (place_of source v) k (members_in s (struct_names key) g.result 0 ts))
  block_item d v g k ts takes all lengths are =
      ap (λ b. elim b as (λ b. Option Thing) [ true ↦ Some (instance (place_of source v) (layout_of (rules_by (kind_at s.of.heads Gs v g))) (members_of d.program (map (member_decl source N v g) (enumerate_from 0 g.args)))) | false ↦ d.program.things (key (Id (id v.result))) ]) (own_text (key (Id (id v.result))))
      ∙ ap₂ (λ q ms. Some (instance (place_of source v) q ms)) (ap (λ o. layout_of (rules_by o)) takes ∙ kind_there k) (members_declared d.program v g 0 g.args ts all lengths are)

  -- So the name of a block variable stands for its block, behind all items.
  pub block_there : (r : Reached) (first : Declared) (before after : List Inst) (v g : Inst) (k : Kind) (ts : Trees) → Gs ≡ before ++ v ∷ after → declaration source r N v ≡ block_decl source N v g ∷ [] → kind_at s.of.heads Gs v g ≡ Some k → all_trees (tree_before Gs g.at) g.args ≡ Some ts
      → HaveLengths ts → AreDeclared (with_items first (flat_map (declaration source r N) before)).program ts → AreOtherNames (key (Id (id v.result))) (flat_map (declaration source r N) after)
      → (with_items first (declarations source r N)).program.things (key (Id (id v.result))) ≡ Some (instance (place_of source v) k (members_in s (struct_names key) g.result 0 ts))
  block_there r first before after v g k ts whole is takes all lengths are others =
      ap (λ l. (with_items first l).program.things (key (Id (id v.result)))) (declared_between source r N before after v (block_decl source N v g) whole is)
      ∙ item_there (flat_map (declaration source r N) before) (flat_map (declaration source r N) after) (block_decl source N v g) first (key (Id (id v.result))) (instance (place_of source v) k (members_in s (struct_names key) g.result 0 ts))
      (block_item (with_items first (flat_map (declaration source r N) before)) v g k ts takes all lengths are) others

  -- So it begins paths.
  pub block_begins : (r : Reached) (first : Declared) (m : Naming) (globals : ℕ → Option Expr) (before after : List Inst) (v g : Inst) (ty : ℕ) (k : Kind) (ts : Trees) → Gs ≡ before ++ v ∷ after → declaration source r N v ≡ block_decl source N v g ∷ [] → kind_at s.of.heads Gs v g ≡ Some k → all_trees (tree_before Gs g.at) g.args ≡ Some ts
      → AreDeclared (with_items first (flat_map (declaration source r N) before)).program ts → AreOtherNames (key (Id (id v.result))) (flat_map (declaration source r N) after) → global_variable s v.result ≡ Some v
      → (word v 0 ≡ class_number storage.StorageBuffer) ⊎ ((word v 0 ≡ class_number storage.Uniform) ⊎ (word v 0 ≡ class_number storage.PushConstant)) → pointee Gs v.ty ≡ Some ty → global Gs ty ≡ Some g → type_tree Gs ty ≡ Some (struct ty ts) → HasLengths (struct ty ts) → is_block s.of.heads ty ≡ true
      → globals v.result ≡ None → m.is_outside (key (Id (id v.result))) ≡ true → IsBlock (with_items first (declarations source r N)).program m s source key globals v.result (struct ty ts) (root v.result) []
  block_begins r first m globals before after v g ty k ts whole written takes all declared others there class points type_there shape lengths decorated itself outside =
      let at : variable_type s v ≡ ty = ap (λ o. unwrap_or o 0) points in
      record {
        root = refl;
        whole = refl;
        inst = v;
        there = there;
        class = class;
        itself = itself;
        outside = outside;
        type = g;
        type_there = ap (global Gs) at ∙ type_there;
        parts = ts;
        shape = ap (λ n. struct n ts) (sym at);
        typed_as = ap (type_tree Gs) at ∙ shape;
        lengths = lengths;
        decorated = ap (is_block s.of.heads) at ∙ decorated;
        kind = k;
        takes = takes;
        thing = block_there r first before after v g k ts whole written takes all lengths declared others ∙ ap (λ n. Some (instance (place_of source v) k (members_in s (struct_names key) n 0 ts))) (named Gs ty g type_there ∙ sym at);
      }
