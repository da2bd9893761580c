-- The operands of an operation: a live one mentions them, and their types have shapes where that of the result has one.
use Rattle.std.proofs.Common.{◌≡◌, ◌<◌, ◌≤◌, ◌+◌, ◌==◌, ◌||◌, ◌&&◌, not, ℕ, zero, suc, Bool, true, false, List, [], ◌∷◌, drop, take, length, Option, Some, Contains, nat_le, nat_lt, unwrap_or, is_some, inl, inr, refl, sym, ap, ◌∙◌, subst, arith}
use Rattle.std.specs.Prelude.{◌⊎◌, slice_get, slice_index, slice_index_or}
use Rattle.std.specs.List.{list_any, list_all}
use Rattle.std.proofs.lemmas.Bool.Decides.{nat_tests}
use Rattle.std.proofs.lemmas.Bool.{and_from, not-false}
use Rattle.spv_ops.specs.Opcode.{is, number}
use Rattle.spv_ops.specs.Shape.{shape, count_of}
use Rattle.spv_ops.specs.Operands.{operands, ids_among, is_id_among, is_id}
use Rattle.spv_ops.specs.declared.operands.Operands.{Operands}
use Rattle.spv_ops.specs.declared.operands.Operands.TheVariants.{IdsFirst, LiteralsFirst, IdLiteralIds, EntryPoint, SpecConstantOp, Switch}
use Rattle.spv_ops.specs.OpGroups.{takes_of, group_of}
use Rattle.spv_ops.specs.declared.OpGroup.TheVariants as groups
use Rattle.spv_ops.specs.declared.Op.{Op}
use Rattle.spv_ops.specs.declared.Op.TheVariants as code
use Rattle.spv_module.specs.Inst.{has_type, has_result}
use Rattle.spv_module.specs.declared.inst.Inst.{Inst}
use Rattle.spv_module.specs.declared.inst.Function.{Function}
use Rattle.spv_types.specs.Tree.{Tree}
use Rattle.spv_types.specs.Types.{type_tree}
use Rattle.spv_decor.specs.Rows.{word}
use Rattle.spv_index.specs.Locals.{insts_of, type_in}
use Rattle.op_semantics.specs.declared.operation.Operation.{Operation}
use Rattle.op_semantics.specs.Value.{operation, operation_of, operation_in, extended_opcodes}
use Rattle.profile_rules.specs.NumberRules.{are_unlike_ints, extended_rows, is_extended}
use Rattle.profile_rules.specs.Operands.{is_there_in}
use Rattle.profile_rules.specs.TypeRules.{is_number_broken}
use Rattle.list_law.proofs.Numbers.{same_number, number_same}
use Rattle.list_law.proofs.Tests.{unless}
use Rattle.list_law.proofs.Lists.{second_word}
use Rattle.plan_law.specs.InOrder.{IsAmong}
use Rattle.module_semantics.specs.Setting.{Setting}
use Rattle.module_semantics.specs.Operands.{value_operands, literal_operands}
use Rattle.use_chains.specs.Slots.{is_value, is_taken, is_label_reached, inst_at, IsLive}
use Rattle.expr_forward.specs.declared.kinds.OperationKind.{OperationKind}
use Rattle.expr_forward.specs.declared.kinds.OperationKind.TheVariants as kind
use Rattle.expr_forward.specs.Kinds.{kind_of, operation_kind_of}
use Rattle.expr_forward.specs.Values.{value_words}
use Rattle.claim_law.specs.Ranked.{ids_by_kind, operand_ids}
use Rattle.fits_law.specs.State.{value_shape}
use Rattle.fits_law.specs.Typed.{HaveShapes}
use Rattle.typed_law.specs.Conforms.{IsConforming}
use Rattle.typed_law.proofs.Lists.{or_left, some_of}
use Rattle.typed_law.proofs.Rules.{operand_there, value_right, number_right}
use Rattle.typed_law.proofs.Values.{inside}
use Rattle.typed_law.proofs.Operations.{Facts, given_by, behind_second}
pub use Rattle.typed_law.proofs.Operations.{behind_second as not_one}
use Rattle.claim_law.specs.Claimed.{IsIn}
use Rattle.claim_law.proofs.Claim.Listed.{any_in}
use Rattle.grammar_law.specs.Mentioned.{IsMentioned}
use Rattle.grammar_law.proofs.Unit.Kept.{shaped_type}

-- operations whose expressions hold values
abbrev pub takes_values : OperationKind → Bool
takes_values kind.Undef = false
takes_values kind.ArrayLength = false
takes_values kind.Other = false
takes_values _ = true

pub values_kind : (k : OperationKind) (i : Inst) (id : ℕ) → IsIn id (ids_by_kind k i) → takes_values k ≡ true
values_kind kind.Undef i id among = absurd among
values_kind kind.ArrayLength i id among = absurd among
values_kind kind.Other i id among = absurd among
values_kind kind.CopyObject i id among = refl
values_kind kind.CompositeExtract i id among = refl
values_kind kind.CompositeConstruct i id among = refl
values_kind kind.CopyLogical i id among = refl
values_kind kind.Extended i id among = refl
values_kind kind.Plain i id among = refl

-- the same list by the opcode and the operands alone
abbrev pub ids_at : OperationKind → Op → List ℕ → List ℕ
ids_at kind.Undef o args = []
ids_at kind.CopyObject o args = slice_index args 0 ∷ []
ids_at kind.ArrayLength o args = []
ids_at kind.CompositeExtract o args = slice_index args 0 ∷ []
ids_at kind.CompositeConstruct o args = args
ids_at kind.CopyLogical o args = slice_index args 0 ∷ []
ids_at kind.Extended o args = value_words o (drop 2 args)
ids_at kind.Plain o args = value_words o args
ids_at kind.Other o args = []

pub same_ids : (k : OperationKind) (i : Inst) → ids_by_kind k i ≡ ids_at k i.op i.args
same_ids kind.Undef i = refl
same_ids kind.CopyObject i = refl
same_ids kind.ArrayLength i = refl
same_ids kind.CompositeExtract i = refl
same_ids kind.CompositeConstruct i = refl
same_ids kind.CopyLogical i = refl
same_ids kind.Extended i = refl
same_ids kind.Plain i = refl
same_ids kind.Other i = refl

-- an id is one of these
abbrev pub has_id : ℕ → List ℕ → Bool
has_id id xs = list_any (λ (x : ℕ). x == id) xs

pub has_of : (id : ℕ) (xs : List ℕ) → IsIn id xs → has_id id xs ≡ true
has_of id xs among = any_in (λ (x : ℕ). x == id) xs id among (number_same id id refl)

of_has : (id : ℕ) (xs : List ℕ) → has_id id xs ≡ true → IsIn id xs
of_has id [] on = cc
of_has id (x ∷ xs) on = by_test (x == id) refl on (of_has id xs)
  where
    by_test : (b : Bool) → (x == id) ≡ b → (b || has_id id xs) ≡ true → (has_id id xs ≡ true → IsIn id xs) → (x ≡ id) ⊎ IsIn id xs
    by_test true same on later = inl (same_number x id same)
    by_test false other on later = inr (later on)

first_has : (args : List ℕ) (id : ℕ) → 1 ≤ length args → has_id id (slice_index args 0 ∷ []) ≡ true → has_id id args ≡ true
first_has [] id many on = absurd (omega (arith, many))
first_has (a ∷ args) id many on = by_test (a == id) on
  where
    by_test : (b : Bool) → (b || false) ≡ true → (b || has_id id args) ≡ true
    by_test true on = refl
    by_test false on = cc

first_has_one : (args : List ℕ) (id : ℕ) → 1 ≤ length args → has_id id (slice_index args 0 ∷ []) ≡ true → has_id id (take 1 args) ≡ true
first_has_one [] id many on = absurd (omega (arith, many))
first_has_one (a ∷ args) id many on = on

-- these are operands that are ids of values
among_at : (o : Op) (args : List ℕ) (id : ℕ) → (shape o).least ≤ 1 + count_of (has_type o) + count_of (has_result o) + length args → has_id id (ids_at (operation_kind_of o) o args) ≡ true → has_id id (value_operands o args) ≡ true
unfolding operation_kind_of kind_of group_of shape
among_at code.CopyObject args id least on = first_has args id (omega (arith, least)) on
among_at code.CopyLogical args id least on = first_has args id (omega (arith, least)) on
among_at code.CompositeExtract args id least on = first_has_one args id (omega (arith, least)) on
among_at o args id least on = cc

-- where an operand stands
pub dropped_at : (n : ℕ) (ws : List ℕ) (id : ℕ) → has_id id (drop n ws) ≡ true → (k : ℕ) × (slice_get ws k ≡ Some id) × (n ≤ k)
dropped_at zero [] id on = cc
dropped_at zero (w ∷ ws) id on = by_test (w == id) refl on (dropped_at zero ws id)
  where
    by_test : (b : Bool) → (w == id) ≡ b → (b || has_id id ws) ≡ true → (has_id id ws ≡ true → (k : ℕ) × (slice_get ws k ≡ Some id) × (zero ≤ k)) → (k : ℕ) × (slice_get (w ∷ ws) k ≡ Some id) × (zero ≤ k)
    by_test true same on later = (zero, ap (λ x. Some x) (same_number w id same), (let low : zero ≤ zero = omega arith in low))
    by_test false other on later = let w' = later on in (suc w'.0, w'.1, (let low : zero ≤ suc w'.0 = omega arith in low))
dropped_at (suc n) [] id on = cc
dropped_at (suc n) (w ∷ ws) id on = let w' = dropped_at n ws id on in (suc w'.0, w'.1, (let less = w'.2 in let low : suc n ≤ suc w'.0 = omega (arith, less) in low))

taken_at : (n : ℕ) (ws : List ℕ) (id : ℕ) → has_id id (take n ws) ≡ true → (k : ℕ) × (slice_get ws k ≡ Some id) × (k < n)
taken_at zero ws id on = cc
taken_at (suc n) [] id on = cc
taken_at (suc n) (w ∷ ws) id on = by_test (w == id) refl on (taken_at n ws id)
  where
    by_test : (b : Bool) → (w == id) ≡ b → (b || has_id id (take n ws)) ≡ true → (has_id id (take n ws) ≡ true → (k : ℕ) × (slice_get ws k ≡ Some id) × (k < n)) → (k : ℕ) × (slice_get (w ∷ ws) k ≡ Some id) × (k < suc n)
    by_test true same on later = (zero, ap (λ x. Some x) (same_number w id same), (let low : zero < suc n = omega arith in low))
    by_test false other on later = let w' = later on in (suc w'.0, w'.1, (let less = w'.2 in let low : suc w'.0 < suc n = omega (arith, less) in low))

pub among_slot : (q : Operands) (ws : List ℕ) (id : ℕ) → has_id id (ids_among q ws) ≡ true → (k : ℕ) × (slice_get ws k ≡ Some id) × (is_id_among q ws k ≡ true)
among_slot (IdsFirst n) ws id on = let w = taken_at n ws id on in (w.0, w.1, (let less = w.2 in let test : nat_lt w.0 n ≡ true = grind (arith, nat_tests, less) in test))
among_slot (LiteralsFirst n) ws id on = let w = dropped_at n ws id on in (w.0, w.1, (let less = w.2 in let test : nat_le n w.0 ≡ true = grind (arith, nat_tests, less) in test))
among_slot IdLiteralIds ws id on = cc
among_slot EntryPoint ws id on = cc
among_slot SpecConstantOp ws id on = cc
among_slot Switch ws id on = cc

value_by : (o : Op) (k : ℕ) → takes_values (operation_kind_of o) ≡ true → is o code.ExtInst ≡ false → is_value o k ≡ true
unfolding operation_kind_of kind_of group_of takes_of number
value_by code.ExtInst k values other = cc
value_by o k values other = cc

pub not_zero : (k : ℕ) → 2 ≤ k → not (k == 0) ≡ true
not_zero k low = grind (arith, nat_tests, low)

value_slot : (o : Op) (args : List ℕ) (id : ℕ) → takes_values (operation_kind_of o) ≡ true → has_id id (value_operands o args) ≡ true → (k : ℕ) × (slice_get args k ≡ Some id) × (is_id o args k ≡ true) × (is_value o k ≡ true)
unfolding is_id takes_of group_of number
value_slot code.ExtInst args id values on = let w = dropped_at 2 args id on in (w.0, w.1, behind_second w.0 w.2, not_zero w.0 w.2)
value_slot o args id values on = let w = among_slot (operands o) args id on in (w.0, w.1, w.2, value_by o w.0 values refl)

no_phi_by : (o : Op) → takes_values (operation_kind_of o) ≡ true → is o code.Phi ≡ false
unfolding operation_kind_of kind_of group_of number
no_phi_by code.Phi values = cc
no_phi_by o values = refl

-- shapes
have_shape : (s : Setting) (f : Function) (ids : List ℕ) (ts : List Tree) (id : ℕ) → HaveShapes s f ids ts → IsIn id ids → (t : Tree) × (value_shape s f id ≡ Some t)
have_shape s f [] ts id have among = absurd among
have_shape s f (x ∷ ids) [] id have among = absurd have
have_shape s f (x ∷ ids) (t ∷ ts) id have (inl same) = (t, subst (λ (n : ℕ). value_shape s f n ≡ Some t) same have.0)
have_shape s f (x ∷ ids) (t ∷ ts) id have (inr among) = have_shape s f ids ts id have.1 among

-- the operation of an opcode
operation_some : (o : Op) → takes_values (operation_kind_of o) ≡ true → is o code.ExtInst ≡ false → is_some (operation o) ≡ true
unfolding operation_kind_of kind_of group_of operation number
operation_some code.ExtInst values other = cc
operation_some o values other = cc

operation_of_is : (o : Op) (literals : List ℕ) → is o code.ExtInst ≡ false → operation_of o literals ≡ operation o
unfolding operation_of number
operation_of_is code.ExtInst literals other = cc
operation_of_is o literals other = refl

is_extended_op : (o : Op) → is o code.ExtInst ≡ true → o ≡ code.ExtInst
unfolding number
is_extended_op code.ExtInst on = refl
is_extended_op o on = cc

extended_one : (args : List ℕ) → operation_of code.ExtInst (literal_operands code.ExtInst args) ≡ operation_in extended_opcodes (slice_index (take 1 (drop 1 args)) 0)
unfolding operation_of
extended_one args = refl

-- by that one opcode: to look up the operation for each of all takes minutes
extended_is : (o : Op) (args : List ℕ) → is o code.ExtInst ≡ true → operation_of o (literal_operands o args) ≡ operation_in extended_opcodes (slice_index (take 1 (drop 1 args)) 0)
extended_is o args on = ap (λ (q : Op). operation_of q (literal_operands q args)) (is_extended_op o on) ∙ extended_one args

extended_group : (o : Op) → is o code.ExtInst ≡ true → group_of o ≡ groups.Extended
unfolding group_of number
extended_group code.ExtInst on = refl
extended_group o on = cc

rows_have : list_all (λ (r : ℕ × ℕ). is_some (operation_in extended_opcodes r.0)) extended_rows ≡ true
rows_have = refl

extended_some : (rows : List (ℕ × ℕ)) (n c : ℕ) → list_all (λ (r : ℕ × ℕ). is_some (operation_in extended_opcodes r.0)) rows ≡ true → list_any (λ (r : ℕ × ℕ). (r.0 == n) && (r.1 == c)) rows ≡ true → is_some (operation_in extended_opcodes n) ≡ true
extended_some [] n c all on = cc
extended_some (r ∷ rows) n c all on = by_test (r.0 == n) refl (r.1 == c) (is_some (operation_in extended_opcodes r.0)) refl on all (extended_some rows n c)
  where
    by_test : (a : Bool) → (r.0 == n) ≡ a → (b v : Bool) → is_some (operation_in extended_opcodes r.0) ≡ v → ((a && b) || list_any (λ (q : ℕ × ℕ). (q.0 == n) && (q.1 == c)) rows) ≡ true → (v && list_all (λ (q : ℕ × ℕ). is_some (operation_in extended_opcodes q.0)) rows) ≡ true
        → (list_all (λ (q : ℕ × ℕ). is_some (operation_in extended_opcodes q.0)) rows ≡ true → list_any (λ (q : ℕ × ℕ). (q.0 == n) && (q.1 == c)) rows ≡ true → is_some (operation_in extended_opcodes n) ≡ true) → is_some (operation_in extended_opcodes n) ≡ true
    by_test a same b false is on all later = cc
    by_test true same true true is on all later = subst (λ (m : ℕ). is_some (operation_in extended_opcodes m) ≡ true) (same_number r.0 n same) is
    by_test true same false true is on all later = later all on
    by_test false other b true is on all later = later all on

module _ (s : Setting) (entry : Option (List ℕ)) (right : IsConforming s.of entry) (f : Function) (in_it : Contains s.of.functions f) (i : Inst) (there : IsAmong i (insts_of f)) where
  -- what the rules say of the instruction
  facts_of : Facts s entry right f in_it i there i.op
  facts_of = record {
    value = value_right s.of entry right f in_it i there;
    number = number_right s.of entry right f in_it i there;
    least = ((inside s entry right f in_it).formed i there).least;
    most = ((inside s entry right f in_it).formed i there).most;
    has = operand_there (is_there_in s.of f i.at) i ((inside s entry right f in_it).order.there i there);
  }

  has_operation : takes_values (operation_kind_of i.op) ≡ true → (o : Operation) × (operation_of i.op (literal_operands i.op i.args) ≡ Some o)
  has_operation values = by_test (is i.op code.ExtInst) refl
    where
      by_test : (b : Bool) → is i.op code.ExtInst ≡ b → (o : Operation) × (operation_of i.op (literal_operands i.op i.args) ≡ Some o)
      by_test false other =
          let o = some_of (operation i.op) (operation_some i.op values other) in
          (o.0, operation_of_is i.op (literal_operands i.op i.args) other ∙ o.1)
      by_test true on =
          let broken : is_number_broken s.of.globals (type_in s.of.globals f) i groups.Extended ≡ false = ap (is_number_broken s.of.globals (type_in s.of.globals f) i) (sym (extended_group i.op on)) ∙ facts_of.number in
          let known = not-false (is_extended (word i 1) (length (drop 2 i.args))) (or_left (not (is_extended (word i 1) (length (drop 2 i.args)))) (are_unlike_ints s.of.globals (type_in s.of.globals f) i.ty (drop 2 i.args)) broken) in
          let o = some_of (operation_in extended_opcodes (word i 1)) (extended_some extended_rows (word i 1) (length (drop 2 i.args)) rows_have known) in
          (o.0, extended_is i.op i.args on ∙ (ap (operation_in extended_opcodes) (second_word i.args) ∙ o.1))

  among_values : (id : ℕ) → IsIn id (operand_ids i) → IsIn id (value_operands i.op i.args)
  among_values id among =
      of_has id (value_operands i.op i.args)
      (among_at i.op i.args id ((inside s entry right f in_it).formed i there).least
      (has_of id (ids_at (operation_kind_of i.op) i.op i.args) (subst (IsIn id) (same_ids (operation_kind_of i.op) i) among)))

  -- the type of an operand has a shape
  pub operand_shaped : (t : Tree) → type_tree s.of.globals i.ty ≡ Some t → (id : ℕ) → IsIn id (operand_ids i) → (u : Tree) × (type_tree s.of.globals (unwrap_or (type_in s.of.globals f id) 0) ≡ Some u)
  operand_shaped t shaped id among =
      let o = has_operation (values_kind (operation_kind_of i.op) i id among) in
      let g = given_by s entry right f in_it i there t shaped i.op o.0 facts_of o.1 in
      let u = have_shape s f (value_operands i.op i.args) g.0 id g.1 (among_values id among) in
      (u.0, shaped_type (type_tree s.of.globals) (type_in s.of.globals f id) u.0 u.1)

  pub operation_no_phi : (id : ℕ) → IsIn id (operand_ids i) → is i.op code.Phi ≡ false
  operation_no_phi id among = no_phi_by i.op (values_kind (operation_kind_of i.op) i id among)

  -- and a live operation mentions it
  pub operand_mentioned : (reached : List Bool) (block place : ℕ) → inst_at f block place ≡ Some i → slice_index_or reached block false ≡ true → IsLive f reached block place → (id : ℕ) → IsIn id (operand_ids i) → IsMentioned f reached block i id
  operand_mentioned reached block place at here live id among =
      let w = value_slot i.op i.args id (values_kind (operation_kind_of i.op) i id among) (has_of id (value_operands i.op i.args) (among_values id among)) in
      record {
        place = place;
        arg = w.0;
        there = at;
        here = here;
        live = live;
        slot = and_from (is_id i.op i.args w.0) (is_value i.op w.0 && is_taken f reached i w.0) w.2 (and_from (is_value i.op w.0) (is_taken f reached i w.0) w.3 (unless (is i.op code.Phi) (is_label_reached f reached (slice_index i.args (w.0 + 1))) (operation_no_phi id among)));
        word = w.1;
      }
