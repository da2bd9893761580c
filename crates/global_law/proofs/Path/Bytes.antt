-- The bytes at which the parts of a block lie: by the decorations of its types, and by the layout of the text's block.
use Rattle.std.proofs.Common.{◌≡◌, ◌+◌, ◌*◌, ◌==◌, ◌&&◌, ℕ, zero, suc, Bool, true, false, List, [], ◌∷◌, Option, Some, None, refl, sym, ap, ap₂, ◌∙◌, subst, arith, if◌then◌else◌}
use Rattle.std.specs.Prelude.{max, nat_le, is_some, option_map, option_and_then, slice_index}
use Rattle.std.specs.Option.{option_map_or}
use Rattle.std.proofs.lemmas.Option.{same_Some}
use Rattle.spv_ops.specs.declared.Op.{Op}
use Rattle.spv_ops.specs.declared.Op.TheVariants as code
use Rattle.spv_module.specs.Held.{global}
use Rattle.spv_module.specs.declared.inst.Inst.{Inst}
use Rattle.spv_module.specs.declared.tree.Elem.{Elem}
use Rattle.spv_module.specs.declared.tree.Elem.TheVariants as elem
use Rattle.spv_module.specs.declared.tree.Length.{Length}
use Rattle.spv_module.specs.declared.tree.Length.TheVariants.{Fixed, Spec}
use Rattle.spv_types.specs.declared.kind.TypeKind.{TypeKind}
use Rattle.spv_types.specs.declared.kind.TypeKind.TheVariants as kinds
use Rattle.spv_types.specs.Tree as plain
use Rattle.spv_types.specs.Tree.{Tree, Trees, no_trees, tree}
use Rattle.spv_types.specs.Types.{kind, elem_of, length_by, sized_vector, vector_tree, array_tree, all_trees, tree_by_kind, tree_before, tree_at, type_tree}
use Rattle.op_semantics.specs.Fits.{elem_tree}
use Rattle.layout_rules.specs.declared.Kind.{Kind}
use Rattle.layout_rules.specs.Sizes.{aligned, whole_alignment, alignment_of, greatest_alignment, size_of, end_from, stride_over, offsets_from}
use Rattle.module_semantics.specs.Setting.{Setting}
use Rattle.module_semantics.specs.Memory as module_memory
use Rattle.module_semantics.specs.Memory.{array_stride, member_offset, part_type, bytes_by, bytes_along}
use Rattle.glsl_semantics.specs.Shapes.{tree_of, trees_of, array_of}
use Rattle.glsl_semantics.specs.Places.{in_buffer, in_push, part_bytes, part_tree, site_along}
use Rattle.fits_law.specs.Takes.{nth_of}
use Rattle.fits_law.specs.State.{element_shape, place_shape}
use Rattle.fits_law.proofs.Steps.{named}
use Rattle.type_law.proofs.Places.{part_leads}
use Rattle.global_law.specs.Parts.{StructNames, shape_in, fields_in}
use Rattle.global_law.specs.Laid.{IsLaidOut, AreLaidOut, HasLengths, HaveLengths}
use Rattle.global_law.proofs.Path.Parts.{part_same}

-- how many bytes a part lies behind the whole, along these indexes
abbrev pub bytes_in : Kind → Tree → List ℕ → ℕ
bytes_in kind t [] = 0
bytes_in kind t (i ∷ is) = part_bytes kind t i + bytes_in kind (part_tree t i) is

pub buffer_along : (kind : Kind) (a b : ℕ) (path : List ℕ) (t : Tree) (n : ℕ) → site_along t path (in_buffer a b kind n) ≡ in_buffer a b kind (n + bytes_in kind t path)
buffer_along kind a b [] t n = ap (in_buffer a b kind) (let none : n ≡ n + 0 = omega arith in none)
buffer_along kind a b (i ∷ is) t n = buffer_along kind a b is (part_tree t i) (n + part_bytes kind t i) ∙ ap (in_buffer a b kind) (let one : n + part_bytes kind t i + bytes_in kind (part_tree t i) is ≡ n + (part_bytes kind t i + bytes_in kind (part_tree t i) is) = omega arith in one)

pub push_along : (kind : Kind) (path : List ℕ) (t : Tree) (n : ℕ) → site_along t path (in_push kind n) ≡ in_push kind (n + bytes_in kind t path)
push_along kind [] t n = ap (in_push kind) (let none : n ≡ n + 0 = omega arith in none)
push_along kind (i ∷ is) t n = push_along kind is (part_tree t i) (n + part_bytes kind t i) ∙ ap (in_push kind) (let one : n + part_bytes kind t i + bytes_in kind (part_tree t i) is ≡ n + (part_bytes kind t i + bytes_in kind (part_tree t i) is) = omega arith in one)

-- how a type of this shape is declared
abbrev pub kind_of : Tree → TypeKind
kind_of plain.boolean = kinds.Bool
kind_of plain.int = kinds.Int
kind_of plain.uint = kinds.Int
kind_of (plain.vector e n) = kinds.Vector
kind_of (plain.array t l) = kinds.Array
kind_of (plain.runtime t) = kinds.Runtime
kind_of (plain.struct id ts) = kinds.Struct

module _ (s : Setting) where
  abbrev Of : List Inst
  Of = s.of.globals

  kind_is : (f : ℕ → Option Tree) (g : Inst) (t : Tree) (q : TypeKind) → tree_by_kind Of f g q ≡ Some t → q ≡ kind_of t
  kind_is f g t kinds.Bool e = ap kind_of (same_Some plain.boolean t e)
  kind_is f g t kinds.Int e = by_width (slice_index g.args 0 == 32) (slice_index g.args 1 == 0) (slice_index g.args 1 == 1) e
    where
      by_width : (w a b : Bool) → (if w then (if a then Some plain.uint else (if b then Some plain.int else None)) else None) ≡ Some t → kinds.Int ≡ kind_of t
      by_width true true b e = ap kind_of (same_Some plain.uint t e)
      by_width true false true e = ap kind_of (same_Some plain.int t e)
      by_width true false false e = cc
      by_width false a b e = cc
  kind_is f g t kinds.Vector e = by_part (f (slice_index g.args 0)) e
    where
      by_size : (d : Elem) (a b : Bool) → (if a && b then Some (plain.vector d (slice_index g.args 1)) else None) ≡ Some t → kinds.Vector ≡ kind_of t
      by_size d true true h = ap kind_of (same_Some (plain.vector d (slice_index g.args 1)) t h)
      by_size d true false h = cc
      by_size d false b h = cc

      by_elem : (o : Option Elem) → option_map_or (sized_vector (slice_index g.args 1)) o None ≡ Some t → kinds.Vector ≡ kind_of t
      by_elem None h = cc
      by_elem (Some d) h = by_size d (nat_le 2 (slice_index g.args 1)) (nat_le (slice_index g.args 1) 4) h

      by_part : (o : Option Tree) → vector_tree o (slice_index g.args 1) ≡ Some t → kinds.Vector ≡ kind_of t
      by_part None h = cc
      by_part (Some x) h = by_elem (elem_of x) h
  kind_is f g t kinds.Array e = by_part (f (slice_index g.args 0)) (length_by (slice_index g.args 1) (global Of (slice_index g.args 1))) e
    where
      by_part : (o : Option Tree) (l : Option Length) → array_tree o l ≡ Some t → kinds.Array ≡ kind_of t
      by_part None l h = cc
      by_part (Some x) None h = cc
      by_part (Some x) (Some l) h = ap kind_of (same_Some (plain.array x l) t h)
  kind_is f g t kinds.Runtime e = by_part (f (slice_index g.args 0)) e
    where
      by_part : (o : Option Tree) → option_map plain.runtime o ≡ Some t → kinds.Runtime ≡ kind_of t
      by_part None h = cc
      by_part (Some x) h = ap kind_of (same_Some (plain.runtime x) t h)
  kind_is f g t kinds.Struct e = by_parts (all_trees f g.args) e
    where
      by_parts : (o : Option Trees) → option_map (plain.struct g.result) o ≡ Some t → kinds.Struct ≡ kind_of t
      by_parts None h = cc
      by_parts (Some ts) h = ap kind_of (same_Some (plain.struct g.result ts) t h)
  kind_is f g t kinds.Other e = cc

  -- the type's own instruction
  pub declared_by : (ty : ℕ) (t : Tree) → type_tree Of ty ≡ Some t → (g : Inst) × (global Of ty ≡ Some g) × (g.result ≡ ty) × (kind g.op ≡ kind_of t) × (tree_at Of g ≡ Some t)
  declared_by ty t e = by_global (global Of ty) refl e
    where
      by_global : (o : Option Inst) → global Of ty ≡ o → option_map_or (tree_at Of) o None ≡ Some t → (g : Inst) × (global Of ty ≡ Some g) × (g.result ≡ ty) × (kind g.op ≡ kind_of t) × (tree_at Of g ≡ Some t)
      by_global None is e = cc
      by_global (Some g) is e = (g, is, named Of ty g is, kind_is (tree_before Of g.at) g t (kind g.op) e, e)

pub member_lengths : (ts : Trees) (i : ℕ) (u : Tree) → HaveLengths ts → nth_of ts i ≡ Some u → HasLengths u
member_lengths no_trees i u h at = cc
member_lengths (tree t ts) zero u h at = subst HasLengths (same_Some t u at) h.0
member_lengths (tree t ts) (suc i) u h at = member_lengths ts i u h.1 at

module _ (s : Setting) (y : StructNames) (k : Kind) where
  abbrev Gs : List Inst
  Gs = s.of.globals

  abbrev S : Tree → Tree
  S t = tree_of (shape_in s y t)

  -- the type of the text takes as much room
  mutual
    align_same : (t : Tree) → HasLengths t → alignment_of k (S t) ≡ alignment_of k t
    align_same plain.boolean h = refl
    align_same plain.int h = refl
    align_same plain.uint h = refl
    align_same (plain.vector e n) h = refl
    align_same (plain.array t (Fixed n)) h = ap (whole_alignment k) (align_same t h)
    align_same (plain.array t (Spec id)) h = absurd h
    align_same (plain.runtime t) h = ap (whole_alignment k) (align_same t h)
    align_same (plain.struct id ts) h = ap (whole_alignment k) (greatest_same id 0 ts h)

    greatest_same : (id j : ℕ) (ts : Trees) → HaveLengths ts → greatest_alignment k (trees_of (fields_in s y id j ts)) ≡ greatest_alignment k ts
    greatest_same id j no_trees h = refl
    greatest_same id j (tree t ts) h = ap₂ max (align_same t h.0) (greatest_same id (j + 1) ts h.1)

  mutual
    size_same : (t : Tree) → HasLengths t → size_of k (S t) ≡ size_of k t
    size_same plain.boolean h = refl
    size_same plain.int h = refl
    size_same plain.uint h = refl
    size_same (plain.vector e n) h = refl
    size_same (plain.array t (Fixed n)) h = ap₂ (λ a b. n * aligned a (whole_alignment k b)) (size_same t h) (align_same t h)
    size_same (plain.array t (Spec id)) h = absurd h
    size_same (plain.runtime t) h = refl
    size_same (plain.struct id ts) h = ap₂ (λ a b. aligned a (whole_alignment k b)) (end_same id 0 0 ts h) (greatest_same id 0 ts h)

    end_same : (id j from : ℕ) (ts : Trees) → HaveLengths ts → end_from k from (trees_of (fields_in s y id j ts)) ≡ end_from k from ts
    end_same id j from no_trees h = refl
    end_same id j from (tree t ts) h =
        ap₂ (λ a b. end_from k (aligned from a + b) (trees_of (fields_in s y id (j + 1) ts))) (align_same t h.0) (size_same t h.0)
        ∙ end_same id (j + 1) (aligned from (alignment_of k t) + size_of k t) ts h.1

  pub stride_same : (t : Tree) → HasLengths t → stride_over k (S t) ≡ stride_over k t
  stride_same t h = ap₂ (λ a b. aligned a (whole_alignment k b)) (size_same t h) (align_same t h)

  -- the offset of a member by the layout, and by the decorations
  offset_same : (ty id j from : ℕ) (ts : Trees) (i : ℕ) (u : Tree) → HaveLengths ts → AreLaidOut s k ty j from ts → nth_of ts i ≡ Some u → slice_index (offsets_from k from (trees_of (fields_in s y id j ts))) i ≡ member_offset s ty (j + i)
  offset_same ty id j from no_trees i u h l at = cc
  offset_same ty id j from (tree t ts) zero u h l at = ap (aligned from) (align_same t h.0) ∙ sym l.0 ∙ ap (member_offset s ty) (let none : j ≡ j + 0 = omega arith in none)
  offset_same ty id j from (tree t ts) (suc i) u h l at =
      ap₂ (λ a b. slice_index (offsets_from k (aligned from a + b) (trees_of (fields_in s y id (j + 1) ts))) i) (align_same t h.0) (size_same t h.0)
      ∙ offset_same ty id (j + 1) (aligned from (alignment_of k t) + size_of k t) ts i u h.1 l.2 at
      ∙ ap (member_offset s ty) (let next : j + 1 + i ≡ j + suc i = omega arith in next)

  -- the parts are laid out too, and have lengths
  pub member_laid : (ty j from : ℕ) (ts : Trees) (i : ℕ) (u : Tree) → AreLaidOut s k ty j from ts → nth_of ts i ≡ Some u → IsLaidOut s k (part_type s ty (j + i)) u
  member_laid ty j from no_trees i u l at = cc
  member_laid ty j from (tree t ts) zero u l at = subst (λ a. IsLaidOut s k (part_type s ty a) u) (let none : j ≡ j + 0 = omega arith in none) (subst (IsLaidOut s k (part_type s ty j)) (same_Some t u at) l.1)
  member_laid ty j from (tree t ts) (suc i) u l at = subst (λ a. IsLaidOut s k (part_type s ty a) u) (let next : j + 1 + i ≡ j + suc i = omega arith in next) (member_laid ty (j + 1) _ ts i u l.2 at)

  -- bytes by the kind of type
  abbrev bytes_of : Inst → ℕ → TypeKind → ℕ
  bytes_of g i kinds.Struct = member_offset s g.result i
  bytes_of g i kinds.Array = i * array_stride s g.result
  bytes_of g i kinds.Runtime = i * array_stride s g.result
  bytes_of g i kinds.Vector = i * 4
  bytes_of g i _ = 0

  bytes_kind : (g : Inst) (i : ℕ) (o : Op) → bytes_by s g i o ≡ bytes_of g i (kind o)
  unfolding kind
  bytes_kind g i code.TypeStruct = refl
  bytes_kind g i code.TypeArray = refl
  bytes_kind g i code.TypeRuntimeArray = refl
  bytes_kind g i code.TypeVector = refl
  bytes_kind g i code.TypeBool = refl
  bytes_kind g i code.TypeInt = refl
  bytes_kind g i o = refl

  pub part_args : List ℕ → ℕ → TypeKind → ℕ
  part_args args i kinds.Struct = slice_index args i
  part_args args i _ = slice_index args 0

  array_bytes : (t : Tree) (o : Option ℕ) (i : ℕ) → part_bytes k (array_of t o) i ≡ i * stride_over k t
  array_bytes t None i = refl
  array_bytes t (Some n) i = refl

  -- one part
  bytes_here : (ty i : ℕ) (t u : Tree) → type_tree Gs ty ≡ Some t → HasLengths t → IsLaidOut s k ty t → element_shape t i ≡ Some u → part_bytes k (S t) i ≡ module_memory.part_bytes s ty i
  bytes_here ty i t u shape h l part =
      let d = declared_by s ty t shape in
      by_shape t d.0 d.2 h l part
      ∙ ap (bytes_of d.0 i) (sym d.3) ∙ sym (bytes_kind d.0 i d.0.op)
      ∙ sym (ap (λ (o : Option Inst). option_map_or (λ (g : Inst). bytes_by s g i g.op) o 0) d.1)
    where
      by_shape : (t : Tree) (g : Inst) → g.result ≡ ty → HasLengths t → IsLaidOut s k ty t → element_shape t i ≡ Some u → part_bytes k (S t) i ≡ bytes_of g i (kind_of t)
      by_shape (plain.vector e n) g is h l part = refl
      by_shape (plain.array t (Fixed n)) g is h l part = ap (λ a. i * a) (stride_same t h ∙ sym l.0) ∙ ap (λ a. i * array_stride s a) (sym is)
      by_shape (plain.array t (Spec id)) g is h l part = absurd h
      by_shape (plain.runtime t) g is h l part = ap (λ a. i * a) (stride_same t h ∙ sym l.0) ∙ ap (λ a. i * array_stride s a) (sym is)
      by_shape (plain.struct id ts) g is h l part = offset_same ty id 0 0 ts i u h l part ∙ ap (member_offset s ty) (let none : 0 + i ≡ i = omega arith in none) ∙ ap (λ a. member_offset s a i) (sym is)
      by_shape plain.boolean g is h l part = cc
      by_shape plain.int g is h l part = cc
      by_shape plain.uint g is h l part = cc

  part_laid : (ty i : ℕ) (t u : Tree) → type_tree Gs ty ≡ Some t → IsLaidOut s k ty t → element_shape t i ≡ Some u → IsLaidOut s k (part_type s ty i) u
  part_laid ty i (plain.array t l) u shape laid part = subst (IsLaidOut s k (part_type s ty i)) (same_Some t u part) (laid.1 i)
  part_laid ty i (plain.runtime t) u shape laid part = subst (IsLaidOut s k (part_type s ty i)) (same_Some t u part) (laid.1 i)
  part_laid ty i (plain.struct id ts) u shape laid part = subst (λ a. IsLaidOut s k (part_type s ty a) u) (let none : 0 + i ≡ i = omega arith in none) (member_laid ty 0 0 ts i u laid part)
  part_laid ty i (plain.vector e n) u shape laid part = elem_laid e u (same_Some (elem_tree e) u part)
    where
      elem_laid : (e : Elem) (u : Tree) → elem_tree e ≡ u → IsLaidOut s k (part_type s ty i) u
      elem_laid e u same = subst (IsLaidOut s k (part_type s ty i)) same (itself e)
        where
          itself : (e : Elem) → IsLaidOut s k (part_type s ty i) (elem_tree e)
          itself elem.Bool = tt
          itself elem.Int = tt
          itself elem.Uint = tt
  part_laid ty i plain.boolean u shape laid part = cc
  part_laid ty i plain.int u shape laid part = cc
  part_laid ty i plain.uint u shape laid part = cc

  part_lengths : (i : ℕ) (t u : Tree) → HasLengths t → element_shape t i ≡ Some u → HasLengths u
  part_lengths i (plain.array t (Fixed n)) u h part = subst HasLengths (same_Some t u part) h
  part_lengths i (plain.array t (Spec id)) u h part = absurd h
  part_lengths i (plain.runtime t) u h part = subst HasLengths (same_Some t u part) h
  part_lengths i (plain.struct id ts) u h part = member_lengths ts i u h part
  part_lengths i (plain.vector e n) u h part = subst HasLengths (same_Some (elem_tree e) u part) (itself e)
    where
      itself : (e : Elem) → HasLengths (elem_tree e)
      itself elem.Bool = tt
      itself elem.Int = tt
      itself elem.Uint = tt
  part_lengths i plain.boolean u h part = cc
  part_lengths i plain.int u h part = cc
  part_lengths i plain.uint u h part = cc

  -- Along indexes the layout of the text comes to the byte to which the decorations come.
  pub bytes_same : (path : List ℕ) (ty : ℕ) (t : Tree) → type_tree Gs ty ≡ Some t → HasLengths t → IsLaidOut s k ty t → is_some (place_shape t path) ≡ true → bytes_in k (S t) path ≡ bytes_along s ty path
  bytes_same [] ty t shape h l there = refl
  bytes_same (i ∷ is) ty t shape h l there = by_part (element_shape t i) refl there (λ ty u shape h l there. bytes_same is ty u shape h l there)
    where
      by_part : (o : Option Tree) → element_shape t i ≡ o → is_some (option_and_then (λ u. place_shape u is) o) ≡ true
          → ((ty : ℕ) (u : Tree) → type_tree Gs ty ≡ Some u → HasLengths u → IsLaidOut s k ty u → is_some (place_shape u is) ≡ true → bytes_in k (S u) is ≡ bytes_along s ty is) → bytes_in k (S t) (i ∷ is) ≡ bytes_along s ty (i ∷ is)
      by_part None part there later = cc
      by_part (Some u) part there later =
          ap₂ (λ a b. a + b) (bytes_here ty i t u shape h l part)
          (ap (λ x. bytes_in k x is) (part_same s y t u i part) ∙ later (part_type s ty i) u (part_leads s ty i t u shape part) (part_lengths i t u h part) (part_laid ty i t u shape l part) there)
