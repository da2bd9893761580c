-- Which operations stand in expressions, by their opcodes: what words they take, and how they are named.
use Rattle.std.proofs.Common.{◌≡◌, ◌==◌, ◌&&◌, ℕ, Bool, true, false, List, [], ◌∷◌, Option, Some, refl, sym, ap, ◌∙◌, subst, if◌then◌else◌}
use Rattle.std.specs.Prelude.{find, option_map, slice_index}
use Rattle.std.specs.Option.{option_map_or}
use Rattle.std.specs.List.{list_all}
use Rattle.spv_ops.specs.Opcode.{is, number}
use Rattle.spv_ops.specs.OpGroups.{group_of}
use Rattle.spv_ops.specs.declared.Op.{Op}
use Rattle.spv_ops.specs.declared.Op.TheVariants as code
use Rattle.op_semantics.specs.declared.operation.Operation.{Operation}
use Rattle.op_semantics.specs.declared.operation.Operation.TheVariants as op
use Rattle.op_semantics.specs.Value.{operation, operation_of, operation_in, extended_opcodes}
use Rattle.module_semantics.specs.Operands.{value_operands, literal_operands}
use Rattle.hoist_plan.specs.Plan.{is_always_named}
use Rattle.expr_forward.specs.declared.kinds.OperationKind.TheVariants as kind
use Rattle.expr_forward.specs.Kinds.{kind_of, operation_kind_of}
use Rattle.expr_forward.specs.Values.{value_words, literal_words}
use Rattle.list_law.proofs.Lists.{second_word}
use Rattle.typed_law.proofs.Lists.{clash}

-- operations on scalars and vectors, and those of GLSL.std.450 among them
abbrev pub is_plain : Operation → Bool
is_plain op.Undef = false
is_plain op.CompositeConstruct = false
is_plain op.CompositeExtract = false
is_plain op.CompositeInsert = false
is_plain op.VectorInsertDynamic = false
is_plain _ = true

abbrev pub is_extended : Operation → Bool
is_extended (op.Unary o) = true
is_extended (op.Binary o) = true
is_extended (op.Clamp o) = true
is_extended _ = false

-- the opcode of an operation that stands in expressions
pub data View (p : Op) : Type 0 where
  undefined : p ≡ code.Undef → View p
  copied : p ≡ code.CopyObject → View p
  extracted : p ≡ code.CompositeExtract → View p
  constructed : p ≡ code.CompositeConstruct → View p
  logical : p ≡ code.CopyLogical → View p
  extended : p ≡ code.ExtInst → View p
  plain : operation_kind_of p ≡ kind.Plain → View p

pub view : (p : Op) (ls : List ℕ) (o : Operation) → is_always_named p ≡ false → operation_of p ls ≡ Some o → View p
unfolding operation_of operation operation_kind_of kind_of group_of number
view code.Undef ls o named e = undefined refl
view code.CopyObject ls o named e = copied refl
view code.CompositeExtract ls o named e = extracted refl
view code.CompositeConstruct ls o named e = constructed refl
view code.CopyLogical ls o named e = logical refl
view code.ExtInst ls o named e = extended refl
view code.VectorInsertDynamic ls o named e = clash named
view code.CompositeInsert ls o named e = clash named
view p ls o named e = let is_it : operation_kind_of p ≡ kind.Plain = cc in plain is_it

no_extended : {A : Type 0} → kind.Extended ≡ kind.Plain → A
no_extended e = cc

-- of an operation on scalars and vectors all words are as the module has them
pub values_same : (p : Op) (args : List ℕ) → operation_kind_of p ≡ kind.Plain → value_words p args ≡ value_operands p args
unfolding operation_kind_of kind_of group_of
values_same code.Bitcast args same = refl
values_same p args same = cc

pub literals_same : (p : Op) (args : List ℕ) → operation_kind_of p ≡ kind.Plain → literal_words p args ≡ literal_operands p args
unfolding operation_kind_of kind_of group_of
literals_same code.Bitcast args same = refl
literals_same p args same = cc

pub operation_same : (p : Op) (n : ℕ) (ls : List ℕ) → operation_kind_of p ≡ kind.Plain → operation_of p (n ∷ []) ≡ operation_of p ls
unfolding operation_kind_of kind_of group_of operation_of
operation_same code.ExtInst n ls is = no_extended is
operation_same p n ls is = refl

plain_by : (p : Op) (ls : List ℕ) → operation_kind_of p ≡ kind.Plain → option_map_or is_plain (operation_of p ls) true ≡ true
unfolding operation_kind_of kind_of group_of operation_of operation
plain_by code.ExtInst ls is = no_extended is
plain_by p ls is = cc

pub plain_operation : (p : Op) (ls : List ℕ) (o : Operation) → operation_kind_of p ≡ kind.Plain → operation_of p ls ≡ Some o → is_plain o ≡ true
plain_operation p ls o is at = ap (λ (q : Option Operation). option_map_or is_plain q true) (sym at) ∙ plain_by p ls is

-- the one that copies
pub copy_is : (p : Op) (ls : List ℕ) → operation_kind_of p ≡ kind.Plain → operation_of p ls ≡ Some op.Copy → p ≡ code.Bitcast
unfolding operation_kind_of kind_of group_of operation_of operation
copy_is code.Bitcast ls is at = refl
copy_is code.ExtInst ls is at = no_extended is
copy_is p ls is at = cc

pub plain_copy : (p : Op) → operation_kind_of p ≡ kind.Plain → is p code.CopyLogical ≡ false
unfolding operation_kind_of kind_of group_of number
plain_copy code.Bitcast same = refl
plain_copy p same = cc

-- those of GLSL.std.450
in_rows : (Q : Operation → Bool) (rows : List (ℕ × Operation)) (n : ℕ) (o : Operation) → list_all (λ (r : ℕ × Operation). Q r.1) rows ≡ true → operation_in rows n ≡ Some o → Q o ≡ true
in_rows Q [] n o all e = cc
in_rows Q (r ∷ rows) n o all e = by_test (Q r.1) refl (r.0 == n) all e (λ more later. in_rows Q rows n o more later)
  where
    by_test : (a : Bool) → Q r.1 ≡ a → (b : Bool) → (a && list_all (λ (x : ℕ × Operation). Q x.1) rows) ≡ true → option_map (λ (x : ℕ × Operation). x.1) (if b then Some r else find (λ (x : ℕ × Operation). x.0 == n) rows) ≡ Some o
        → (list_all (λ (x : ℕ × Operation). Q x.1) rows ≡ true → operation_in rows n ≡ Some o → Q o ≡ true) → Q o ≡ true
    by_test true on true all e later = let same : r.1 ≡ o = cc in subst (λ (q : Operation). Q q ≡ true) same on
    by_test true on false all e later = later all e
    by_test false on b all e later = cc

pub extended_operation : (ls : List ℕ) (o : Operation) → operation_of code.ExtInst ls ≡ Some o → is_extended o ≡ true
unfolding operation_of
extended_operation ls o at = in_rows is_extended extended_opcodes (slice_index ls 0) o refl at

pub extended_at : (args : List ℕ) (o : Operation) → operation_of code.ExtInst (literal_operands code.ExtInst args) ≡ Some o → operation_of code.ExtInst (slice_index args 1 ∷ []) ≡ Some o
unfolding operation_of
extended_at args o at = ap (operation_in extended_opcodes) (sym (second_word args)) ∙ at
