-- The shape of a type by the row that declares it.
use Rattle.std.proofs.Common.{◌≡◌, ◌==◌, ◌&&◌, ℕ, Bool, true, false, List, Option, Some, None, inl, inr, refl, sym, ap, ◌∙◌, subst, if◌then◌else◌}
use Rattle.std.specs.Prelude.{◌⊎◌, nat_le, slice_index}
use Rattle.std.specs.Option.{option_map_or}
use Rattle.std.proofs.lemmas.Option.{same_Some}
use Rattle.spv_ops.specs.Opcode.{is, number}
use Rattle.spv_ops.specs.Groups.{is_type as is_type_op}
use Rattle.spv_ops.specs.declared.Op.{Op}
use Rattle.spv_ops.specs.declared.Op.TheVariants as code
use Rattle.spv_module.specs.declared.inst.Inst.{Inst}
use Rattle.spv_module.specs.declared.tree.Elem.{Elem}
use Rattle.spv_types.specs.declared.kind.TypeKind.{TypeKind}
use Rattle.spv_types.specs.declared.kind.TypeKind.TheVariants.{Bool as BoolKind, Int, Vector, Other}
use Rattle.spv_types.specs.Tree.{Tree, boolean, int, uint, vector}
use Rattle.spv_types.specs.Types.{kind, elem_of, sized_vector, vector_tree, tree_by_kind, tree_step, tree_before, tree_at}
use Rattle.spv_decor.specs.Rows.{word}
use Rattle.profile_rules.specs.TypeRows.{is_type, is_bool, is_int, is_vector}
use Rattle.list_law.proofs.Options.{none_some}
use Rattle.fits_law.specs.Takes.{Sort, numbers, truths, Has, IsOfSort}

-- kinds by opcodes
pub bool_kind : (o : Op) → is o code.TypeBool ≡ true → kind o ≡ BoolKind
unfolding kind number
bool_kind code.TypeBool e = refl
bool_kind o e = cc

pub int_kind : (o : Op) → is o code.TypeInt ≡ true → kind o ≡ Int
unfolding kind number
int_kind code.TypeInt e = refl
int_kind o e = cc

pub vector_kind : (o : Op) → is o code.TypeVector ≡ true → kind o ≡ Vector
unfolding kind number
vector_kind code.TypeVector e = refl
vector_kind o e = cc

-- what has a shape is a type
pub shaped_type : (o : Op) → (kind o ≡ Other) ⊎ (is_type_op o ≡ true)
unfolding kind
shaped_type code.TypeBool = inr refl
shaped_type code.TypeInt = inr refl
shaped_type code.TypeVector = inr refl
shaped_type code.TypeArray = inr refl
shaped_type code.TypeRuntimeArray = inr refl
shaped_type code.TypeStruct = inr refl
shaped_type o = inl refl

-- the shape of a row of a kind
pub by_kind : (gs : List Inst) (f : ℕ → Option Tree) (g : Inst) (k : TypeKind) (t : Tree) → kind g.op ≡ k → tree_step gs f g ≡ Some t → tree_by_kind gs f g k ≡ Some t
by_kind gs f g k t is e = ap (tree_by_kind gs f g) (sym is) ∙ e

pub is_a_type : (gs : List Inst) (f : ℕ → Option Tree) (g : Inst) (t : Tree) → tree_step gs f g ≡ Some t → is_type g ≡ true
is_a_type gs f g t e = elim (shaped_type g.op) [ inl other ↦ none_some (by_kind gs f g Other t other e) | inr w ↦ w ]

-- scalars
pub int_has : (gs : List Inst) (f : ℕ → Option Tree) (g : Inst) (t : Tree) → is_int g ≡ true → tree_step gs f g ≡ Some t → Has numbers None t
int_has gs f g t on e = by_width (slice_index g.args 0 == 32) (slice_index g.args 1 == 0) (slice_index g.args 1 == 1) (by_kind gs f g Int t (int_kind g.op on) e)
  where
    by_width : (w s q : Bool) → (if w then (if s then Some uint else (if q then Some int else None)) else None) ≡ Some t → Has numbers None t
    by_width true true q e = let same : uint ≡ t = cc in subst (Has numbers None) same tt
    by_width true false true e = let same : int ≡ t = cc in subst (Has numbers None) same tt
    by_width true false false e = cc
    by_width false s q e = cc

pub bool_has : (gs : List Inst) (f : ℕ → Option Tree) (g : Inst) (t : Tree) → is_bool g ≡ true → tree_step gs f g ≡ Some t → Has truths None t
bool_has gs f g t on e = let k = by_kind gs f g BoolKind t (bool_kind g.op on) e in let same : boolean ≡ t = cc in subst (Has truths None) same tt

pub elem_sort : (k : Sort) (u : Tree) (e : Elem) → Has k None u → elem_of u ≡ Some e → IsOfSort k e
elem_sort numbers int e h is = let same = same_Some _ _ is in subst (IsOfSort numbers) same tt
elem_sort numbers uint e h is = let same = same_Some _ _ is in subst (IsOfSort numbers) same tt
elem_sort truths boolean e h is = let same = same_Some _ _ is in subst (IsOfSort truths) same tt
elem_sort _ u e h is = absurd h

-- a vector, and its components' type, which stands before it
pub vector_parts : (gs : List Inst) (g : Inst) (t : Tree) → is_vector g ≡ true → tree_at gs g ≡ Some t → (u : Tree) × (e : Elem) × (tree_before gs g.at (word g 0) ≡ Some u) × (elem_of u ≡ Some e) × (t ≡ vector e (word g 1)) × (nat_le 2 (word g 1) ≡ true)
vector_parts gs g t on e = by_part (tree_before gs g.at (word g 0)) refl (by_kind gs (tree_before gs g.at) g Vector t (vector_kind g.op on) e)
  where
    by_size : (u : Tree) (e : Elem) (a b : Bool) → tree_before gs g.at (word g 0) ≡ Some u → elem_of u ≡ Some e → nat_le 2 (word g 1) ≡ a → (if a && b then Some (vector e (word g 1)) else None) ≡ Some t → (u : Tree) × (e : Elem) × (tree_before gs g.at (word g 0) ≡ Some u) × (elem_of u ≡ Some e) × (t ≡ vector e (word g 1)) × (nat_le 2 (word g 1) ≡ true)
    by_size u e true true there is size h = (u, e, there, is, let same : t ≡ vector e (word g 1) = cc in same, size)
    by_size u e true false there is size h = cc
    by_size u e false b there is size h = cc

    by_elem : (u : Tree) (o : Option Elem) → tree_before gs g.at (word g 0) ≡ Some u → elem_of u ≡ o → option_map_or (sized_vector (word g 1)) o None ≡ Some t → (u : Tree) × (e : Elem) × (tree_before gs g.at (word g 0) ≡ Some u) × (elem_of u ≡ Some e) × (t ≡ vector e (word g 1)) × (nat_le 2 (word g 1) ≡ true)
    by_elem u None there is h = cc
    by_elem u (Some e) there is h = by_size u e (nat_le 2 (word g 1)) (nat_le (word g 1) 4) there is refl h

    by_part : (o : Option Tree) → tree_before gs g.at (word g 0) ≡ o → vector_tree o (word g 1) ≡ Some t → (u : Tree) × (e : Elem) × (tree_before gs g.at (word g 0) ≡ Some u) × (elem_of u ≡ Some e) × (t ≡ vector e (word g 1)) × (nat_le 2 (word g 1) ≡ true)
    by_part None there h = cc
    by_part (Some u) there h = by_elem u (elem_of u) there refl h
