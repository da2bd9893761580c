-- Types along an index: it is inside, and the rules, the module and the text go to one type.
use Rattle.std.proofs.Common.{◌≡◌, ◌<◌, ◌≤◌, ◌^◌, ◌==◌, ◌&&◌, ℕ, zero, suc, Bool, true, false, List, [], ◌∷◌, length, Option, Some, None, refl, sym, ap, ◌∙◌, subst, arith, if◌then◌else◌}
use Rattle.std.specs.Prelude.{nat_le, nat_lt, option_map, option_and_then, slice_get, slice_index, unwrap_or}
use Rattle.std.specs.Option.{option_map_or}
use Rattle.std.proofs.lemmas.Bool.Decides.{nat_tests}
use Rattle.std.proofs.lemmas.Bool.{and_parts}
use Rattle.spv_ops.specs.Opcode.{is, number}
use Rattle.spv_ops.specs.declared.Op.{Op}
use Rattle.spv_ops.specs.declared.Op.TheVariants as code
use Rattle.spv_module.specs.Held.{global}
use Rattle.spv_module.specs.declared.inst.Id.{Id}
use Rattle.spv_module.specs.declared.inst.Inst.{Inst}
use Rattle.spv_module.specs.declared.tree.Elem.{Elem}
use Rattle.spv_module.specs.declared.tree.Length.{Length}
use Rattle.spv_module.specs.declared.tree.Length.TheVariants.{Fixed, Spec}
use Rattle.spv_types.specs.declared.kind.TypeKind.TheVariants as kinds
use Rattle.spv_types.specs.Tree as plain
use Rattle.spv_types.specs.Tree.{Tree, Trees, ValueTree}
use Rattle.spv_types.specs.Types.{kind, elem_of, length_of, length_by, sized_vector, vector_tree, array_tree, all_trees, tree_by_kind, tree_before, type_tree}
use Rattle.spv_index.specs.Steps.{constant_word, member_type, step_by, step_type, is_struct}
use Rattle.op_semantics.specs.Fits.{elem_tree}
use Rattle.module_semantics.specs.Setting.{Setting}
use Rattle.module_semantics.specs.Memory.{part_by, part_type, array_length, length_from, parts_by, is_among, is_allowed}
use Rattle.module_semantics.specs.Memory as module_memory
use Rattle.list_law.proofs.Numbers.{none_below as never, less_of}
use Rattle.fits_law.specs.Takes.{nth_of}
use Rattle.fits_law.specs.State.{element_shape}
use Rattle.type_law.specs.Shaped.{AreConstants}
use Rattle.type_law.proofs.Parts.{fixed_word, all_nth}
use Rattle.global_law.specs.Parts.{length_in, IsBelow, IsInside}
use Rattle.global_law.proofs.Path.Bytes.{kind_of, declared_by}

none_below : {A : Type 0} (i : ℕ) → nat_lt i 0 ≡ true → A
none_below i e = absurd (never i (less_of i 0 e))

-- opcodes by kinds
struct_is : (o : Op) → kind o ≡ kinds.Struct → o ≡ code.TypeStruct
unfolding kind
struct_is code.TypeStruct e = refl
struct_is code.TypeBool e = cc
struct_is code.TypeInt e = cc
struct_is code.TypeVector e = cc
struct_is code.TypeArray e = cc
struct_is code.TypeRuntimeArray e = cc
struct_is o e = cc

vector_is : (o : Op) → kind o ≡ kinds.Vector → o ≡ code.TypeVector
unfolding kind
vector_is code.TypeVector e = refl
vector_is code.TypeBool e = cc
vector_is code.TypeInt e = cc
vector_is code.TypeStruct e = cc
vector_is code.TypeArray e = cc
vector_is code.TypeRuntimeArray e = cc
vector_is o e = cc

array_is : (o : Op) → kind o ≡ kinds.Array → o ≡ code.TypeArray
unfolding kind
array_is code.TypeArray e = refl
array_is code.TypeBool e = cc
array_is code.TypeInt e = cc
array_is code.TypeStruct e = cc
array_is code.TypeVector e = cc
array_is code.TypeRuntimeArray e = cc
array_is o e = cc

runtime_is : (o : Op) → kind o ≡ kinds.Runtime → o ≡ code.TypeRuntimeArray
unfolding kind
runtime_is code.TypeRuntimeArray e = refl
runtime_is code.TypeBool e = cc
runtime_is code.TypeInt e = cc
runtime_is code.TypeStruct e = cc
runtime_is code.TypeVector e = cc
runtime_is code.TypeArray e = cc
runtime_is o e = cc

bool_is : (o : Op) → kind o ≡ kinds.Bool → o ≡ code.TypeBool
unfolding kind
bool_is code.TypeBool e = refl
bool_is code.TypeInt e = cc
bool_is code.TypeStruct e = cc
bool_is code.TypeVector e = cc
bool_is code.TypeArray e = cc
bool_is code.TypeRuntimeArray e = cc
bool_is o e = cc

int_is : (o : Op) → kind o ≡ kinds.Int → o ≡ code.TypeInt
unfolding kind
int_is code.TypeInt e = refl
int_is code.TypeBool e = cc
int_is code.TypeStruct e = cc
int_is code.TypeVector e = cc
int_is code.TypeArray e = cc
int_is code.TypeRuntimeArray e = cc
int_is o e = cc

-- the opcode of a type of this shape
abbrev pub op_of : Tree → Op
op_of plain.boolean = code.TypeBool
op_of plain.int = code.TypeInt
op_of plain.uint = code.TypeInt
op_of (plain.vector e n) = code.TypeVector
op_of (plain.array t l) = code.TypeArray
op_of (plain.runtime t) = code.TypeRuntimeArray
op_of (plain.struct id ts) = code.TypeStruct

op_is : (t : Tree) (o : Op) → kind o ≡ kind_of t → o ≡ op_of t
op_is plain.boolean o e = bool_is o e
op_is plain.int o e = int_is o e
op_is plain.uint o e = int_is o e
op_is (plain.vector e n) o h = vector_is o h
op_is (plain.array t l) o e = array_is o e
op_is (plain.runtime t) o e = runtime_is o e
op_is (plain.struct id ts) o e = struct_is o e

-- a length by its constant
spec_one : (n m : Id) → Some (Spec n) ≡ Some (Spec m) → m.0 ≡ n.0
spec_one n m e = let same : m ≡ n = cc in ap (λ (q : Id). q.0) same

pub spec_is : (o : Op) (n w : ℕ) (m : Id) → length_of o n w ≡ Some (Spec m) → m.0 ≡ n
spec_is code.Constant n w m e = cc
spec_is code.SpecConstantTrue n w m e = spec_one (record { 0 = n }) m e
spec_is code.SpecConstantFalse n w m e = spec_one (record { 0 = n }) m e
spec_is code.SpecConstant n w m e = spec_one (record { 0 = n }) m e
spec_is code.SpecConstantComposite n w m e = spec_one (record { 0 = n }) m e
spec_is code.SpecConstantOp n w m e = spec_one (record { 0 = n }) m e
spec_is o n w m e = cc

module _ (s : Setting) where
  abbrev Gs : List Inst
  Gs = s.of.globals

  -- what an instruction of a type has, by the shape
  vector_args : (f : ℕ → Option Tree) (g : Inst) (e : Elem) (n : ℕ) → tree_by_kind Gs f g kinds.Vector ≡ Some (plain.vector e n) → (slice_index g.args 1 ≡ n) × (n ≤ 4) × ((n == 1) ≡ false)
  vector_args f g e n h = by_part (f (slice_index g.args 0)) h
    where
      by_size : (d : Elem) (a b : Bool) → nat_le 2 (slice_index g.args 1) ≡ a → nat_le (slice_index g.args 1) 4 ≡ b → (if a && b then Some (plain.vector d (slice_index g.args 1)) else None) ≡ Some (plain.vector e n) → (slice_index g.args 1 ≡ n) × (n ≤ 4) × ((n == 1) ≡ false)
      by_size d true true low high h =
          let same : slice_index g.args 1 ≡ n = cc in
          let two : nat_le 2 n ≡ true = ap (nat_le 2) (sym same) ∙ low in
          let four : nat_le n 4 ≡ true = ap (λ a. nat_le a 4) (sym same) ∙ high in
          (same, grind (arith, nat_tests, four), grind (arith, nat_tests, two))
      by_size d true false low high h = cc
      by_size d false b low high h = cc

      by_elem : (o : Option Elem) → option_map_or (sized_vector (slice_index g.args 1)) o None ≡ Some (plain.vector e n) → (slice_index g.args 1 ≡ n) × (n ≤ 4) × ((n == 1) ≡ false)
      by_elem None h = cc
      by_elem (Some d) h = by_size d (nat_le 2 (slice_index g.args 1)) (nat_le (slice_index g.args 1) 4) refl refl h

      by_part : (o : Option Tree) → vector_tree o (slice_index g.args 1) ≡ Some (plain.vector e n) → (slice_index g.args 1 ≡ n) × (n ≤ 4) × ((n == 1) ≡ false)
      by_part None h = cc
      by_part (Some x) h = by_elem (elem_of x) h

  array_args : (f : ℕ → Option Tree) (g : Inst) (t : Tree) (l : Length) → tree_by_kind Gs f g kinds.Array ≡ Some (plain.array t l) → length_by (slice_index g.args 1) (global Gs (slice_index g.args 1)) ≡ Some l
  array_args f g t l h = by_part (f (slice_index g.args 0)) (length_by (slice_index g.args 1) (global Gs (slice_index g.args 1))) refl h
    where
      by_part : (o : Option Tree) (q : Option Length) → length_by (slice_index g.args 1) (global Gs (slice_index g.args 1)) ≡ q → array_tree o q ≡ Some (plain.array t l) → length_by (slice_index g.args 1) (global Gs (slice_index g.args 1)) ≡ Some l
      by_part None q is h = cc
      by_part (Some x) None is h = cc
      by_part (Some x) (Some m) is h = is ∙ (let same : m ≡ l = cc in ap (λ a. Some a) same)

  pub struct_args : (f : ℕ → Option Tree) (g : Inst) (id : ℕ) (ts : Trees) → tree_by_kind Gs f g kinds.Struct ≡ Some (plain.struct id ts) → all_trees f g.args ≡ Some ts
  struct_args f g id ts h = by_parts (all_trees f g.args) refl h
    where
      by_parts : (o : Option Trees) → all_trees f g.args ≡ o → option_map (plain.struct g.result) o ≡ Some (plain.struct id ts) → all_trees f g.args ≡ Some ts
      by_parts None is h = cc
      by_parts (Some us) is h = is ∙ (let same : us ≡ ts = cc in ap (λ a. Some a) same)

  -- the word of an array's length
  below_length : (id i : ℕ) → nat_lt i (unwrap_or (array_length s id) 0) ≡ true → (n : ℕ) × (array_length s id ≡ Some n) × (i < n)
  below_length id i e = by_length (array_length s id) refl e
    where
      by_length : (o : Option ℕ) → array_length s id ≡ o → nat_lt i (unwrap_or o 0) ≡ true → (n : ℕ) × (array_length s id ≡ Some n) × (i < n)
      by_length None is e = none_below i e
      by_length (Some n) is e = (n, is, less_of i n e)

  length_word : (id n m : ℕ) → AreConstants s → constant_word Gs id ≡ Some n → array_length s id ≡ Some m → m ≡ n
  length_word id n m right told e = by_value (s.constants id) refl e
    where
      by_type : (o : Option Tree) (w : ℕ) → module_memory.length_by o w ≡ Some m → m ≡ w
      by_type (Some plain.int) w e = by_sign (nat_lt w (2 ^ 31)) e
        where
          by_sign : (b : Bool) → (if b then Some w else None) ≡ Some m → m ≡ w
          by_sign true e = cc
          by_sign false e = cc
      by_type None w e = cc
      by_type (Some plain.boolean) w e = cc
      by_type (Some plain.uint) w e = cc
      by_type (Some (plain.vector d k)) w e = cc
      by_type (Some (plain.array t l)) w e = cc
      by_type (Some (plain.runtime t)) w e = cc
      by_type (Some (plain.struct q ts)) w e = cc

      by_value : (o : Option ValueTree) → s.constants id ≡ o → length_from s id o ≡ Some m → m ≡ n
      by_value None is e = cc
      by_value (Some v) is e =
          by_type (option_and_then (λ (g : Inst). type_tree Gs g.ty) (global Gs id)) n (ap (λ a. length_from s id (Some a)) (sym (right id n v told is)) ∙ e)

  inside_length : (id i : ℕ) (l : Length) → AreConstants s → length_by id (global Gs id) ≡ Some l → nat_lt i (unwrap_or (array_length s id) 0) ≡ true → IsBelow (length_in s l) i
  inside_length id i (Fixed n) right is e =
      let m = below_length id i e in
      let same : m.0 ≡ n = length_word id n m.0 right (fixed_word Gs id n is) m.1 in
      subst (λ a. i < a) same m.2
  inside_length id i (Spec n) right is e =
      let m = below_length id i e in
      let same : n.0 ≡ id = by_global (global Gs id) is in
      subst (λ o. IsBelow o i) (sym (ap (array_length s) same ∙ m.1)) m.2
    where
      by_global : (o : Option Inst) → length_by id o ≡ Some (Spec n) → n.0 ≡ id
      by_global None e = cc
      by_global (Some g) e = spec_is g.op id (slice_index g.args 0) n e

  member_inside : (f : ℕ → Option Tree) (ids : List ℕ) (ts : Trees) (i : ℕ) → all_trees f ids ≡ Some ts → nat_lt i (length ids) ≡ true → (u : Tree) × (nth_of ts i ≡ Some u)
  member_inside f ids ts i all less = let m = all_nth f ids ts i all less in (m.0, m.2)

  -- An index that the type allows leads to a part, inside of it.
  pub record IsAllowed (t : Tree) (i : ℕ) : Type 0 where
    pub part : Tree
    pub there : element_shape t i ≡ Some part
    pub inside : IsInside s t i
    pub low : nat_lt i (2 ^ 31) ≡ true

  pub allowed_is : (ty i : ℕ) (t : Tree) → AreConstants s → type_tree Gs ty ≡ Some t → is_allowed s ty i ≡ true → IsAllowed t i
  allowed_is ty i t right shape allowed =
      let d = declared_by s ty t shape in
      let parts = and_parts (nat_lt i (2 ^ 31)) (option_map_or (λ (g : Inst). is_among (parts_by s g.op g.args) i) (global Gs ty) false) allowed in
      let among : is_among (parts_by s (op_of t) d.0.args) i ≡ true
      = ap (λ o. is_among (parts_by s o d.0.args) i) (sym (op_is t d.0.op d.3)) ∙ ap (λ (o : Option Inst). option_map_or (λ (g : Inst). is_among (parts_by s g.op g.args) i) o false) (sym d.1) ∙ parts.1 in
      by_shape t d.0 (ap (tree_by_kind Gs (tree_before Gs d.0.at) d.0) (sym d.3) ∙ d.4) among parts.0
    where
      by_shape : (t : Tree) (g : Inst) → tree_by_kind Gs (tree_before Gs g.at) g (kind_of t) ≡ Some t → is_among (parts_by s (op_of t) g.args) i ≡ true → nat_lt i (2 ^ 31) ≡ true → IsAllowed t i
      by_shape plain.boolean g is among low = none_below i among
      by_shape plain.int g is among low = none_below i among
      by_shape plain.uint g is among low = none_below i among
      by_shape (plain.vector e n) g is among low =
          let size = vector_args (tree_before Gs g.at) g e n is in
          record { part = elem_tree e; there = refl; inside = subst (λ a. i < a) size.0 (less_of i (slice_index g.args 1) among); low = low }
      by_shape (plain.array t l) g is among low =
          record { part = t; there = refl; inside = inside_length (slice_index g.args 1) i l right (array_args (tree_before Gs g.at) g t l is) among; low = low }
      by_shape (plain.runtime t) g is among low = record { part = t; there = refl; inside = tt; low = low }
      by_shape (plain.struct id ts) g is among low =
          let m = member_inside (tree_before Gs g.at) g.args ts i (struct_args (tree_before Gs g.at) g id ts is) among in
          record { part = m.0; there = m.1; inside = tt; low = low }

  -- the size of a vector
  pub vector_size_is : (ty : ℕ) (e : Elem) (n : ℕ) → type_tree Gs ty ≡ Some (plain.vector e n) → (g : Inst) × (global Gs ty ≡ Some g) × (g.op ≡ code.TypeVector) × (slice_index g.args 1 ≡ n) × (n ≤ 4) × ((n == 1) ≡ false)
  vector_size_is ty e n shape =
      let d = declared_by s ty (plain.vector e n) shape in
      let size = vector_args (tree_before Gs d.0.at) d.0 e n (ap (tree_by_kind Gs (tree_before Gs d.0.at) d.0) (sym d.3) ∙ d.4) in
      (d.0, d.1, vector_is d.0.op d.3, size.0, size.1, size.2)

  -- the opcode of a type with a shape
  pub declared_as : (ty : ℕ) (t : Tree) → type_tree Gs ty ≡ Some t → (g : Inst) × (global Gs ty ≡ Some g) × (g.op ≡ op_of t) × (g.result ≡ ty)
  declared_as ty t shape = let d = declared_by s ty t shape in (d.0, d.1, op_is t d.0.op d.3, d.2)

  -- which types are structs
  abbrev pub is_struct_shape : Tree → Bool
  is_struct_shape (plain.struct id ts) = true
  is_struct_shape _ = false

  struct_shape : (t : Tree) → is (op_of t) code.TypeStruct ≡ is_struct_shape t
  unfolding number
  struct_shape plain.boolean = refl
  struct_shape plain.int = refl
  struct_shape plain.uint = refl
  struct_shape (plain.vector e n) = refl
  struct_shape (plain.array t l) = refl
  struct_shape (plain.runtime t) = refl
  struct_shape (plain.struct id ts) = refl

  pub struct_by : (ty : ℕ) (t : Tree) → type_tree Gs ty ≡ Some t → is_struct Gs ty ≡ is_struct_shape t
  struct_by ty t shape =
      let d = declared_as ty t shape in
      ap (λ (o : Option Inst). option_map_or (λ (g : Inst). is g.op code.TypeStruct) o false) d.1 ∙ ap (λ o. is o code.TypeStruct) d.2 ∙ struct_shape t

  -- the id of a struct is that of its type
  pub struct_number : (ty n : ℕ) (ts : Trees) → type_tree Gs ty ≡ Some (plain.struct n ts) → n ≡ ty
  struct_number ty n ts shape =
      let d = declared_by s ty (plain.struct n ts) shape in
      by_parts d.0 (all_trees (tree_before Gs d.0.at) d.0.args) (ap (tree_by_kind Gs (tree_before Gs d.0.at) d.0) (sym d.3) ∙ d.4) ∙ d.2
    where
      by_parts : (g : Inst) (o : Option Trees) → option_map (plain.struct g.result) o ≡ Some (plain.struct n ts) → n ≡ g.result
      by_parts g None h = cc
      by_parts g (Some us) h = cc

  get_index : (xs : List ℕ) (i : ℕ) → nat_lt i (length xs) ≡ true → slice_get xs i ≡ Some (slice_index xs i)
  get_index [] i less = none_below i less
  get_index (x ∷ xs) zero less = refl
  get_index (x ∷ xs) (suc i) less = get_index xs i (grind (arith, nat_tests, less))

  -- the type to which the rules go by an index
  pub step_type_is : (ty i n : ℕ) (t : Tree) → type_tree Gs ty ≡ Some t → is_allowed s ty i ≡ true → (is_struct_shape t ≡ true → constant_word Gs n ≡ Some i) → step_type Gs n ty ≡ Some (part_type s ty i)
  step_type_is ty i n t shape allowed told =
      let d = declared_as ty t shape in
      let parts = and_parts (nat_lt i (2 ^ 31)) (option_map_or (λ (g : Inst). is_among (parts_by s g.op g.args) i) (global Gs ty) false) allowed in
      let among : is_among (parts_by s (op_of t) d.0.args) i ≡ true
      = ap (λ o. is_among (parts_by s o d.0.args) i) (sym d.2) ∙ ap (λ (o : Option Inst). option_map_or (λ (g : Inst). is_among (parts_by s g.op g.args) i) o false) (sym d.1) ∙ parts.1 in
      ap (λ (o : Option Inst). option_and_then (λ (g : Inst). step_by Gs n g g.op) o) d.1
      ∙ ap (step_by Gs n d.0) d.2 ∙ by_shape t d.0 among told
      ∙ ap (λ a. Some a) (ap (λ o. part_by o d.0.args i) (sym d.2) ∙ sym (ap (λ (o : Option Inst). option_map_or (λ (g : Inst). part_by g.op g.args i) o 0) d.1))
    where
      by_shape : (t : Tree) (g : Inst) → is_among (parts_by s (op_of t) g.args) i ≡ true → (is_struct_shape t ≡ true → constant_word Gs n ≡ Some i) → step_by Gs n g (op_of t) ≡ Some (part_by (op_of t) g.args i)
      by_shape plain.boolean g among told = none_below i among
      by_shape plain.int g among told = none_below i among
      by_shape plain.uint g among told = none_below i among
      by_shape (plain.vector e m) g among told = refl
      by_shape (plain.array t l) g among told = refl
      by_shape (plain.runtime t) g among told = refl
      by_shape (plain.struct m ts) g among told = ap (member_type g) (told refl) ∙ get_index g.args i among
