-- Behind all items of a text, and its functions, the types of what is written are declared.
use Rattle.std.proofs.Common.{◌≡◌, ◌⊎◌, ◌<◌, ℕ, true, List, [], ◌∷◌, Option, inl, inr, refl, ap, ◌∙◌}
use Rattle.std.specs.Prelude.{option_and_then}
use Rattle.spv_module.specs.Lists.{id}
use Rattle.spv_module.specs.declared.inst.Inst.{Inst}
use Rattle.spv_module.specs.declared.tree.Length.TheVariants.{Fixed, Spec}
use Rattle.spv_types.specs.Tree as plain
use Rattle.spv_types.specs.Tree.{Tree, Trees, no_trees, tree}
use Rattle.spv_types.specs.Leaves.{IsSized}
use Rattle.profile_rules.specs.declared.given.Given.{Given}
use Rattle.module_semantics.specs.Setting.{Setting}
use Rattle.name_alloc.specs.declared.claims.Key.{Key}
use Rattle.name_alloc.specs.declared.claims.Key.TheVariants.{Id}
use Rattle.glsl_ast.specs.Tree as items
use Rattle.glsl_ast.specs.Tree.{Text, Decl, Extent}
use Rattle.glsl_semantics.specs.Shapes.{Shape}
use Rattle.glsl_semantics.specs.Shapes as shapes
use Rattle.glsl_semantics.specs.Expressions.{Program, constant_length, with_extent}
use Rattle.glsl_semantics.specs.States.{member_of}
use Rattle.glsl_semantics.specs.Items.{Declared, with_items, declared_by}
use Rattle.text_rules.specs.Constants.{Source, group_size_text}
use Rattle.text_rules.specs.Printed.{Reached, has_struct}
use Rattle.text_rules.specs.Declarations.{Names, length_extent, declarations}
use Rattle.plan_law.specs.InOrder.{IsAmong}
use Rattle.global_law.specs.Sources.{source_of}
use Rattle.global_law.specs.Names.{IsDeclared}
use Rattle.global_law.proofs.Global.Blocks.{items_more}
use Rattle.global_law.proofs.Global.Structs.{IsOtherStruct, AreOtherStructs, structs_keep}
use Rattle.global_law.proofs.Global.Zeros.{HasZero, HaveZeros}
use Rattle.global_law.specs.Within.{IsWithin, IsNoBlock}
use Rattle.global_law.specs.Items.{key_text, AreAsked}
use Rattle.global_law.proofs.Constant.Written.{IsHeld}
use Rattle.global_law.proofs.Constant.Standing.{N, Stands, later, declared_stands, zero_stands}
use Rattle.global_law.proofs.Constant.Constants.{IsFunction, AreFunctions, first, P, things_same, last}

-- functions declare no struct
function_structs : (i : Decl) (x : Text) → IsFunction i → IsOtherStruct x i
function_structs (Decl.struct w fs) x on = absurd on
function_structs (items.constant spec t w e) x on = absurd on
function_structs (items.shared t w) x on = absurd on
function_structs (items.global t w e) x on = absurd on
function_structs (items.block place q quals buffer w members y) x on = absurd on
function_structs (Decl.function result w params body) x on = tt

functions_structs : (fs : List Decl) (x : Text) → AreFunctions fs → AreOtherStructs x fs
functions_structs [] x are = tt
functions_structs (i ∷ fs) x are = (function_structs i x are.0, functions_structs fs x are.1)

-- a type that is declared in a program is declared in one with the same structs, constants and size of workgroups
module _ (p q : Program) (structs : (x : Text) → q.structs x ≡ p.structs x) (things : (x : Text) → q.things x ≡ p.things x) (s : Setting) (source : Source) (key : Key → Text) where
  extent_moved : (e : Extent) (u : Shape) → with_extent q e u ≡ with_extent p e u
  extent_moved Extent.open_end u = refl
  extent_moved (Extent.number n) u = refl
  extent_moved (Extent.named w) u = ap (λ o. shapes.array u (constant_length o)) (things w)
  extent_moved (Extent.size axis) u = ap (λ o. shapes.array u (constant_length (option_and_then (λ x. member_of x axis) o))) (things group_size_text)

  pub declared_moved : (t : Tree) → IsDeclared p s source key t → IsDeclared q s source key t
  declared_moved plain.boolean is = tt
  declared_moved plain.int is = tt
  declared_moved plain.uint is = tt
  declared_moved (plain.vector e n) is = tt
  declared_moved (plain.array t (Fixed n)) is = declared_moved t is
  declared_moved (plain.array t (Spec n)) is = (declared_moved t is.0, (is.1.0, λ u. extent_moved (length_extent source (λ k. key (Id (id k))) (Spec n)) u ∙ is.1.1 u, is.1.2))
  declared_moved (plain.runtime t) is = declared_moved t is
  declared_moved (plain.struct n ts) is = (is.0, structs (key (Id (id n))) ∙ is.1, is.2)

  mutual
    pub zero_moved : (t : Tree) → HasZero p s source key t → HasZero q s source key t
    zero_moved plain.boolean is = tt
    zero_moved plain.int is = tt
    zero_moved plain.uint is = tt
    zero_moved (plain.vector e n) is = is
    zero_moved (plain.array t (Fixed n)) is = zero_moved t is
    zero_moved (plain.array t (Spec n)) is = absurd is
    zero_moved (plain.runtime t) is = absurd is
    zero_moved (plain.struct n ts) is = (structs (key (Id (id n))) ∙ is.0, zeros_moved ts is.1)

    zeros_moved : (ts : Trees) → HaveZeros p s source key ts → HaveZeros q s source key ts
    zeros_moved no_trees are = tt
    zeros_moved (tree t ts) are = (zero_moved t are.0, zeros_moved ts are.1)

module _ (s : Setting) (entry : Option (List ℕ)) (overrides : List (ℕ × Given)) (found_key : Key → Option Text) (r : Reached) (asked : AreAsked s entry overrides found_key r) (fs : List Decl) (functions : AreFunctions fs) where
  abbrev source : Source
  source = source_of s overrides

  abbrev Ns : Names
  Ns = N s entry overrides found_key r asked

  abbrev D : Declared
  D = with_items (first s overrides) (declarations source r Ns)

  abbrev Whole : Program
  Whole = P s entry overrides found_key r asked fs functions

  pub structs_same : (x : Text) → Whole.structs x ≡ D.program.structs x
  unfolding declared_by
  structs_same x = ap (λ (d : Declared). d.program.structs x) (items_more (declarations source r Ns) fs (first s overrides)) ∙ structs_keep fs D x (functions_structs fs x functions)

  -- what stands behind all items stands before any word
  stands : (k : ℕ) → Stands s entry overrides found_key r asked k D
  stands k =
      let w = last s entry overrides found_key r asked fs functions in
      later s entry overrides found_key r asked w.word_at k D (λ h h_in less. lower w.word_at h (w.rest h h_in)) w.stands
    where
      lower : (n : ℕ) (h : Inst) → (h.at < n) ⊎ IsAmong h [] → h.at < n
      lower n h (inl low) = low
      lower n h (inr none) = absurd none

  -- So a type is declared of which the structs are no blocks and are in the types of what is written; and its zero says its zero.
  pub type_declared : (k : ℕ) (t : Tree) → IsWithin (IsNoBlock s.of) s.of k t → ((j : ℕ) → has_struct j t ≡ true → IsHeld s entry asked.right overrides r j) → IsDeclared Whole s source (key_text found_key) t
  type_declared k t w held =
      declared_moved D.program Whole structs_same (things_same s entry overrides found_key r asked fs functions) s source (key_text found_key) t (declared_stands s entry overrides found_key r asked k D (stands k) t w held)

  pub zero_declared : (k : ℕ) (t : Tree) → IsWithin (IsNoBlock s.of) s.of k t → IsSized t → ((j : ℕ) → has_struct j t ≡ true → IsHeld s entry asked.right overrides r j) → HasZero Whole s source (key_text found_key) t
  zero_declared k t w sized held =
      zero_moved D.program Whole structs_same (things_same s entry overrides found_key r asked fs functions) s source (key_text found_key) t (zero_stands s entry overrides found_key r asked k D (stands k) t w sized held)
