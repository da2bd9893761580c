-- A variable of a workgroup has in a text the number that it has in the module.
use Rattle.std.proofs.Common.{◌≡◌, ◌+◌, ◌++◌, ◌==◌, ◌&&◌, ℕ, Bool, true, false, List, [], ◌∷◌, filter, Option, Some, None, refl, sym, ap, ap₂, ◌∙◌, arith, if◌then◌else◌}
use Rattle.std.specs.Prelude.{unwrap_or, ◌||◌, not, is_some, option_and_then, slice_index, bytes_eq, flat_map, option_map}
use Rattle.std.specs.Option.{option_map_or}
use Rattle.std.specs.List.{list_any, enumerate_from, position_from}
use Rattle.std.proofs.lemmas.List.Concat.{flat_map-cons}
use Rattle.std.proofs.lemmas.Slice.Eq.{bytes_eq-Decides}
use Rattle.std.proofs.lemmas.Bool.{and_parts, and_left}
use Rattle.spv_ops.specs.Opcode.{is, number}
use Rattle.spv_ops.specs.Enumerants.{class_number}
use Rattle.spv_ops.specs.Operands.{is_id}
use Rattle.spv_ops.specs.Groups.{is_constant as is_constant_op}
use Rattle.spv_ops.specs.declared.Op.{Op}
use Rattle.spv_ops.specs.declared.Op.TheVariants as code
use Rattle.spv_ops.specs.declared.StorageClass.TheVariants as storage
use Rattle.spv_module.specs.Lists.{id}
use Rattle.spv_module.specs.declared.inst.Inst.{Inst}
use Rattle.spv_module.specs.declared.inst.Function.{Function}
use Rattle.spv_types.specs.Tree.{Tree}
use Rattle.spv_types.specs.Types.{type_tree}
use Rattle.spv_index.specs.Locals.{insts_of}
use Rattle.profile_rules.specs.declared.given.Given.{Given}
use Rattle.layout_rules.specs.Blocks.{block_of, is_block_class, as_struct}
use Rattle.spv_index.specs.Pointers.{pointee}
use Rattle.spv_index.specs.BlockStructs.{is_block}
use Rattle.spv_module.specs.Held.{global}
use Rattle.module_semantics.specs.Setting.{Setting, global_variable, is_mentioned, is_in_class, shared_number}
use Rattle.module_semantics.specs.Setting as settings
use Rattle.name_alloc.specs.declared.claims.Key.{Key}
use Rattle.name_alloc.specs.declared.claims.Key.TheVariants.{Id}
use Rattle.glsl_ast.specs.Tree as tree
use Rattle.glsl_ast.specs.Tree.{Text, Expr, Decl}
use Rattle.glsl_semantics.specs.Shapes.{Shape, Typed}
use Rattle.glsl_semantics.specs.Places.{in_shared}
use Rattle.glsl_semantics.specs.States.{Thing, memory}
use Rattle.glsl_semantics.specs.Expressions.{type_of}
use Rattle.glsl_semantics.specs.Items.{Declared, with_global, with_item, with_items}
use Rattle.text_rules.specs.Constants.{Source, reading, free_spec_id}
use Rattle.text_rules.specs.Printed as printed
use Rattle.text_rules.specs.Printed.{Reached, is_named, is_needed, type_has_struct, written_types, has_operand, is_operand_in, is_private, is_workgroup, is_block_variable, is_written_variable, is_declared_constant, is_written_struct}
use Rattle.text_rules.specs.Declarations.{Names, struct_decl, constant_decl, variable_decl, type_at, pointee_at, initial, declaration, declarations}
use Rattle.list_law.proofs.Numbers.{zero_first, same_number, number_itself}
use Rattle.list_law.proofs.Tests.{and_none, and_turned}
use Rattle.list_law.proofs.Lists.{any_same}
use Rattle.global_law.specs.Parts.{IsShape}
use Rattle.global_law.specs.Walks.{struct_names}
use Rattle.global_law.specs.Starts.{IsShared}
use Rattle.agree_law.specs.Agree.{Naming}
use Rattle.module_semantics.specs.State.{global as root}
use Rattle.global_law.specs.Sources.{source_of}
use Rattle.global_law.specs.Names.{names_of, IsDeclared}
use Rattle.global_law.proofs.Global.BuiltIns.{AreOtherNames}
use Rattle.global_law.proofs.Global.Blocks.{declared_between, item_there, shape_declared}

no_more : (k n : ℕ) → k + n ≡ k + (0 + n)
no_more k n = omega (arith)

from_first : (k : ℕ) → k ≡ k + 0
from_first k = omega (arith)

-- how many items are variables of workgroups
abbrev pub one : Decl → ℕ
one (tree.shared t w) = 1
one _ = 0

abbrev pub shared_in : List Decl → ℕ
shared_in [] = 0
shared_in (i ∷ is) = one i + shared_in is

-- an item counts the variable that it is
item_counts : (d : Declared) (i : Decl) → (with_item d i).shared_variables ≡ d.shared_variables + one i
item_counts d (Decl.struct w fs) = from_first d.shared_variables
item_counts d (tree.constant spec t w e) = from_first d.shared_variables
item_counts d (tree.shared t w) = refl
item_counts d (tree.global t w e) = by_value _
  where
    by_value : (o : Option Typed) → (with_global w o d).shared_variables ≡ d.shared_variables + 0
    by_value None = from_first d.shared_variables
    by_value (Some v) = from_first d.shared_variables
item_counts d (tree.block place r quals buffer w members w') = from_first d.shared_variables
item_counts d (Decl.function result w params body) = from_first d.shared_variables

items_count : (is : List Decl) (d : Declared) → (with_items d is).shared_variables ≡ d.shared_variables + shared_in is
items_count [] d = from_first d.shared_variables
items_count (i ∷ is) d = let later = items_count is (with_item d i) in let here = item_counts d i in omega (arith, later, here)

shared_both : (xs ys : List Decl) → shared_in (xs ++ ys) ≡ shared_in xs + shared_in ys
shared_both [] ys = zero_first (shared_in ys)
shared_both (x ∷ xs) ys = let later = shared_both xs ys in omega (arith, later)

-- how many of a list are so
abbrev truth_count : Bool → ℕ
truth_count true = 1
truth_count false = 0

abbrev count : {A : Type 0} → (A → Bool) → List A → ℕ
count p [] = 0
count p (x ∷ xs) = truth_count (p x) + count p xs

one_more : (k n : ℕ) → (k + 1) + n ≡ k + (1 + n)
one_more k n = omega (arith)

-- none of these is so
abbrev pub AllOff : {A : Type 0} → (A → Bool) → List A → Type 0
AllOff q [] = Unit {0}
AllOff q (x ∷ xs) = (q x ≡ false) × AllOff q xs

-- the number of one among those that are so is how many stand before it
number_of : {A : Type 0} (p q : A → Bool) (before after : List A) (v : A) (k : ℕ) → p v ≡ true → q v ≡ true → AllOff q before → position_from q k (filter p (before ++ v ∷ after)) ≡ Some (k + count p before)
number_of p q [] after v k is found off = ap (λ b. position_from q k (if b then v ∷ filter p after else filter p after)) is ∙ ap (λ b. if b then Some k else position_from q (k + 1) (filter p after)) found ∙ ap (λ n. Some n) (from_first k)
number_of p q (b ∷ bs) after v k is found off = by_first (p b) refl (λ j. number_of p q bs after v j is found off.1)
  where
    by_first : (x : Bool) → p b ≡ x → ((j : ℕ) → position_from q j (filter p (bs ++ v ∷ after)) ≡ Some (j + count p bs)) → position_from q k (if p b then b ∷ filter p (bs ++ v ∷ after) else filter p (bs ++ v ∷ after)) ≡ Some (k + (truth_count (p b) + count p bs))
    by_first true e later =
        ap (λ x. position_from q k (if x then b ∷ filter p (bs ++ v ∷ after) else filter p (bs ++ v ∷ after))) e ∙ ap (λ x. if x then Some k else position_from q (k + 1) (filter p (bs ++ v ∷ after))) off.0
        ∙ later (k + 1) ∙ ap (λ n. Some n) (one_more k (count p bs)) ∙ ap (λ x. Some (k + (truth_count x + count p bs))) (sym e)
    by_first false e later =
        ap (λ x. position_from q k (if x then b ∷ filter p (bs ++ v ∷ after) else filter p (bs ++ v ∷ after))) e
        ∙ later k ∙ ap (λ n. Some n) (no_more k (count p bs)) ∙ ap (λ x. Some (k + (truth_count x + count p bs))) (sym e)

-- an operand, as the text and as the module ask for it
operand_same : (n : ℕ) (i : Inst) → has_operand i n ≡ settings.has_operand n i
operand_same n i = any_same (λ (p : ℕ × ℕ). is_id i.op i.args p.0 && (p.1 == n)) (λ (p : ℕ × ℕ). (p.1 == n) && is_id i.op i.args p.0) (enumerate_from 0 i.args) (λ p. and_turned (is_id i.op i.args p.0) (p.1 == n))

-- an instruction of these functions mentions it, as the text and as the module ask for it
pub mentioned_same : (fs : List Function) (n : ℕ) → is_operand_in fs n ≡ list_any (λ (f : Function). list_any (settings.has_operand n) (insts_of f)) fs
mentioned_same fs n = any_same (λ (f : Function). list_any (λ (i : Inst). has_operand i n) (insts_of f)) (λ (f : Function). list_any (settings.has_operand n) (insts_of f)) fs (λ f. any_same (λ (i : Inst). has_operand i n) (settings.has_operand n) (insts_of f) (operand_same n))

pub no_other : (b : Bool) (o : Option Inst) → b ≡ false → (if b then o else None) ≡ None
no_other true o e = cc
no_other false o e = refl

-- a variable is no struct and no constant
variable_op : (o : Op) → is o code.Variable ≡ true → (is o code.TypeStruct ≡ false) × (is_constant_op o ≡ false)
unfolding number
variable_op code.Variable e = (refl, refl)
variable_op o e = cc

-- a block variable has a block
abbrev pub HasBlock : Setting → Inst → Type 0
HasBlock s g = is_block_variable g ≡ true → block_of s.of.globals g ≡ None → ⊥

abbrev pub HaveBlocks : Setting → List Inst → Type 0
HaveBlocks s [] = Unit {0}
HaveBlocks s (g ∷ gs) = HasBlock s g × HaveBlocks s gs

module _ (s : Setting) (overrides : List (ℕ × Given)) (key : Key → Text) (calculated : Inst → Expr) (r : Reached) (mentions : (n : ℕ) → is_operand_in r.functions n ≡ is_mentioned s n) where
  abbrev source : Source
  source = source_of s overrides

  abbrev N : Names
  N = names_of key calculated

  -- a variable of a workgroup that is mentioned
  abbrev is_shared : Inst → Bool
  is_shared g = elim (is_in_class storage.Workgroup g) [ true ↦ is_mentioned s g.result | false ↦ false ]

  -- it is written as one item
  workgroup_written : (g : Inst) → is_in_class storage.Workgroup g ≡ true → declaration source r N g ≡ (if is_mentioned s g.result then tree.shared (type_at source N (pointee_at source g.ty)) (N.id g.result) ∷ [] else [])
  workgroup_written g on =
      let parts = and_parts (is g.op code.Variable) (printed.class g == class_number storage.Workgroup) on in
      let number : printed.class g ≡ class_number storage.Workgroup = same_number (printed.class g) (class_number storage.Workgroup) parts.1 in
      let ops = variable_op g.op parts.0 in
      let no_struct : is_written_struct source r g ≡ false = and_left (is g.op code.TypeStruct) (not (is_block s.of.heads g.result) && list_any (type_has_struct s.of.globals g.result) (written_types source r)) ops.0 in
      let no_constant : is_declared_constant source r g ≡ false = and_left (is_constant_op g.op) (is_named (reading source g) && (is_some (free_spec_id source g.result) || is_needed source r g.result)) ops.1 in
      let no_private : is_private g ≡ false = ap (λ n. is g.op code.Variable && (n == class_number storage.Private)) number ∙ and_none (is g.op code.Variable) in
      let written : is_written_variable r g ≡ is_mentioned s g.result
      = ap (λ a. (a || (is_workgroup g || is_block_variable g)) && is_operand_in r.functions g.result) no_private ∙ ap (λ a. (a || is_block_variable g) && is_operand_in r.functions g.result) on ∙ mentions g.result in
      let no_block : block_of s.of.globals g ≡ None
      = no_other (is g.op code.Variable && is_block_class (slice_index g.args 0)) (option_and_then as_struct (option_and_then (global s.of.globals) (pointee s.of.globals g.ty))) (ap (λ n. is g.op code.Variable && is_block_class n) number ∙ and_none (is g.op code.Variable)) in
      ap (λ b. if b then struct_decl source N g ∷ [] else (if is_declared_constant source r g then constant_decl source N g ∷ [] else (if is_written_variable r g then variable_decl source N g (block_of s.of.globals g) else []))) no_struct
      ∙ ap (λ b. if b then constant_decl source N g ∷ [] else (if is_written_variable r g then variable_decl source N g (block_of s.of.globals g) else [])) no_constant
      ∙ ap₂ (λ b o. if b then variable_decl source N g o else []) written no_block
      ∙ ap (λ b. if is_mentioned s g.result then (if b then tree.global (type_at source N (pointee_at source g.ty)) (N.id g.result) (initial source N g) else tree.shared (type_at source N (pointee_at source g.ty)) (N.id g.result)) ∷ [] else []) no_private

  -- no other instruction is written as a variable of a workgroup
  other_counts : (g : Inst) → is_in_class storage.Workgroup g ≡ false → HasBlock s g → shared_in (declaration source r N g) ≡ 0
  other_counts g off has = by_kind (is_written_struct source r g) (is_declared_constant source r g) (is_written_variable r g) refl
    where
      no_other : (a b : Bool) → is_private g ≡ false → is_block_variable g ≡ b → ((is_private g || (is_workgroup g || is_block_variable g)) && a) ≡ true → is_block_variable g ≡ true
      no_other a true private is e = is
      no_other a false private is e = by_none (ap (λ b. (b || (is_workgroup g || is_block_variable g)) && a) (sym private) ∙ e)
        where
          by_none : ((is_workgroup g || is_block_variable g) && a) ≡ true → is_block_variable g ≡ true
          by_none e = by_block (ap (λ b. (b || is_block_variable g) && a) (sym off) ∙ e)
            where
              by_block : (is_block_variable g && a) ≡ true → is_block_variable g ≡ true
              by_block e = (and_parts (is_block_variable g) a e).0

      by_private : (b : Bool) → is_private g ≡ b → is_written_variable r g ≡ true → block_of s.of.globals g ≡ None → shared_in ((if b then tree.global (type_at source N (pointee_at source g.ty)) (N.id g.result) (initial source N g) else tree.shared (type_at source N (pointee_at source g.ty)) (N.id g.result)) ∷ []) ≡ 0
      by_private true is written none = refl
      by_private false is written none = absurd (has (no_other (is_operand_in r.functions g.result) (is_block_variable g) is refl written) none)

      by_block : (o : Option Inst) → block_of s.of.globals g ≡ o → is_written_variable r g ≡ true → shared_in (variable_decl source N g o) ≡ 0
      by_block (Some b) is written = refl
      by_block None is written = by_private (is_private g) refl written is

      by_kind : (a b c : Bool) → is_written_variable r g ≡ c → shared_in (if a then struct_decl source N g ∷ [] else (if b then constant_decl source N g ∷ [] else (if c then variable_decl source N g (block_of s.of.globals g) else []))) ≡ 0
      by_kind true b c is = refl
      by_kind false true c is = refl
      by_kind false false true is = by_block (block_of s.of.globals g) refl is
      by_kind false false false is = refl

  each_counts : (g : Inst) → HasBlock s g → shared_in (declaration source r N g) ≡ truth_count (is_shared g)
  each_counts g has = by_class (is_in_class storage.Workgroup g) refl
    where
      by_mention : (b : Bool) (i : Decl) → one i ≡ 1 → shared_in (if b then i ∷ [] else []) ≡ truth_count b
      by_mention true i is = ap (λ n. n + 0) is
      by_mention false i is = refl

      by_class : (b : Bool) → is_in_class storage.Workgroup g ≡ b → shared_in (declaration source r N g) ≡ truth_count (elim (is_in_class storage.Workgroup g) [ true ↦ is_mentioned s g.result | false ↦ false ])
      by_class true is = ap shared_in (workgroup_written g is) ∙ by_mention (is_mentioned s g.result) (tree.shared (type_at source N (pointee_at source g.ty)) (N.id g.result)) refl ∙ ap (λ b. truth_count (elim b as (λ b. Bool) [ true ↦ is_mentioned s g.result | false ↦ false ])) (sym is)
      by_class false is = other_counts g is has ∙ ap (λ b. truth_count (elim b as (λ b. Bool) [ true ↦ is_mentioned s g.result | false ↦ false ])) (sym is)

  all_count : (before : List Inst) → HaveBlocks s before → shared_in (flat_map (declaration source r N) before) ≡ count is_shared before
  all_count [] have = refl
  all_count (g ∷ gs) have = ap shared_in (flat_map-cons (declaration source r N) g gs) ∙ shared_both (declaration source r N g) (flat_map (declaration source r N) gs) ∙ ap₂ (λ a b. a + b) (each_counts g have.0) (all_count gs have.1)

  -- So the name of a variable of a workgroup stands for the memory of its number, behind all items.
  pub shared_there : (f : Function) (first : Declared) (before after : List Inst) (v : Inst) (t : Tree) → first.shared_variables ≡ 0 → s.of.globals ≡ before ++ v ∷ after → is_in_class storage.Workgroup v ≡ true → is_mentioned s v.result ≡ true → HaveBlocks s before → AllOff (λ (g : Inst). g.result == v.result) before
      → type_tree s.of.globals (pointee_at source v.ty) ≡ Some t → IsDeclared (with_items first (flat_map (declaration source r N) before)).program s source key t → AreOtherNames (key (Id (id v.result))) (flat_map (declaration source r N) after)
      → (q : Shape) × ((with_items first (declarations source r N)).program.things (key (Id (id v.result))) ≡ Some (memory (in_shared (shared_number s v.result) []) q)) × IsShape s (struct_names key) t q
  shared_there f first before after v t start whole class mentioned have off shape is others =
      let item = tree.shared (type_at source N (pointee_at source v.ty)) (N.id v.result) in
      let written : declaration source r N v ≡ item ∷ [] = workgroup_written v class ∙ ap (λ b. if b then item ∷ [] else []) mentioned in
      let front = flat_map (declaration source r N) before in
      let shared : is_shared v ≡ true = ap (λ b. elim b as (λ b. Bool) [ true ↦ is_mentioned s v.result | false ↦ false ]) class ∙ mentioned in
      let itself : (v.result == v.result) ≡ true = number_itself v.result in
      let number : shared_number s v.result ≡ 0 + count is_shared before
      = ap (λ gs. option_map_or (λ (k : ℕ). k) (position_from (λ (g : Inst). g.result == v.result) 0 (filter is_shared gs)) 0) whole ∙ ap (λ o. option_map_or (λ (k : ℕ). k) o 0) (number_of is_shared (λ (g : Inst). g.result == v.result) before after v 0 shared itself off) in
      let count_there : (with_items first front).shared_variables ≡ shared_number s v.result = items_count front first ∙ ap₂ (λ a b. a + b) start (all_count before have) ∙ sym number in
      let same : bytes_eq (key (Id (id v.result))) (key (Id (id v.result))) ≡ true = (bytes_eq-Decides (key (Id (id v.result))) (key (Id (id v.result)))).1 refl in
      let typed_as = shape_declared s f overrides key calculated (with_items first front).program (pointee_at source v.ty) t shape is in (
        typed_as.0,
        ap (λ l. (with_items first l).program.things (key (Id (id v.result)))) (declared_between source r N before after v item whole written)
            ∙ item_there front (flat_map (declaration source r N) after) item first (key (Id (id v.result))) (memory (in_shared (shared_number s v.result) []) typed_as.0)
            (ap (λ b. elim b as (λ b. Option Thing) [ true ↦ option_map (memory (in_shared (with_items first front).shared_variables [])) (type_of (with_items first front).program (type_at source N (pointee_at source v.ty))) | false ↦ (with_items first front).program.things (key (Id (id v.result))) ]) same
            ∙ ap₂ (λ n o. option_map (memory (in_shared n [])) o) count_there typed_as.1) others,
        typed_as.2,
      )

  -- So it begins paths.
  pub shared_begins : (f : Function) (first : Declared) (m : Naming) (named_as : Source) (globals : ℕ → Option Expr) (before after : List Inst) (v : Inst) (ty : ℕ) (t : Tree) → first.shared_variables ≡ 0 → s.of.globals ≡ before ++ v ∷ after → global_variable s v.result ≡ Some v → is_in_class storage.Workgroup v ≡ true → is_mentioned s v.result ≡ true
      → HaveBlocks s before → AllOff (λ (g : Inst). g.result == v.result) before → pointee s.of.globals v.ty ≡ Some ty → type_tree s.of.globals ty ≡ Some t → IsDeclared (with_items first (flat_map (declaration source r N) before)).program s source key t → AreOtherNames (key (Id (id v.result))) (flat_map (declaration source r N) after)
      → globals v.result ≡ None → m.is_outside (key (Id (id v.result))) ≡ true → IsShared (with_items first (declarations source r N)).program m s named_as key globals v.result t (root v.result) []
  shared_begins f first m named_as globals before after v ty t start whole there class mentioned have off points shape declared others itself outside =
      let text = shared_there f first before after v t start whole class mentioned have off (ap (λ o. type_tree s.of.globals (unwrap_or o v.ty)) points ∙ shape) declared others in
      record {
        root = refl;
        whole = refl;
        inst = v;
        there = there;
        class = same_number (printed.class v) (class_number storage.Workgroup) (and_parts (is v.op code.Variable) (printed.class v == class_number storage.Workgroup) class).1;
        itself = itself;
        outside = outside;
        typed_as = ap (λ o. type_tree s.of.globals (unwrap_or o 0)) points ∙ shape;
        text_shape = text.0;
        text_typed = text.2;
        thing = text.1;
      }
