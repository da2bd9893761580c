-- What an insert has from its operands: the composite with an object in place of the part to which literals lead, or the vector with a component at an index.
use Rattle.std.proofs.Common.{◌≡◌, ◌<◌, ℕ, Bool, true, false, List, [], ◌∷◌, drop, length, take, Some, None, inl, inr, refl, sym, ap, ◌∙◌, subst, if◌then◌else◌}
use Rattle.std.specs.Prelude.{nat_lt, option_and_then, slice_get, slice_set}
use Rattle.std.proofs.lemmas.Option.{same_Some}
use Rattle.spv_ops.specs.Operands.{is_id}
use Rattle.spv_ops.specs.OpGroups.{group_of, takes_of}
use Rattle.spv_ops.specs.declared.Op.{Op}
use Rattle.spv_ops.specs.declared.Op.TheVariants as code
use Rattle.spv_module.specs.declared.inst.Inst.{Inst}
use Rattle.spv_module.specs.declared.inst.Function.{Function}
use Rattle.spv_module.specs.declared.tree.Elem.{Elem}
use Rattle.spv_types.specs.Tree.{Tree, boolean, int, uint, vector, array, runtime, struct, ValueTree, word, truth, many, ValueTrees}
use Rattle.spv_types.specs.Types.{type_tree}
use Rattle.op_semantics.specs.declared.operation.Operation.{Operation}
use Rattle.op_semantics.specs.declared.operation.Operation.TheVariants as op
use Rattle.op_semantics.specs.Component.{listed, composite}
use Rattle.op_semantics.specs.Composite.{part_at, with_part, inserted, are_indexes, inserted_by, inserted_at}
use Rattle.op_semantics.specs.Fits.{elem_tree, fits}
use Rattle.op_semantics.specs.Value.{operation, operation_of, op_value, of_two, of_three, value_of_operation}
use Rattle.module_semantics.specs.Setting.{Setting}
use Rattle.module_semantics.specs.State.{Frame}
use Rattle.module_semantics.specs.Operands.{value_at, arg, value_operands, literal_operands, values_at}
use Rattle.module_semantics.specs.Steps as steps
use Rattle.module_semantics.specs.Steps.{step_kind, computed}
use Rattle.text_rules.specs.Constants.{is_scalar}
use Rattle.use_chains.specs.Slots.{is_value}
use Rattle.expr_forward.specs.declared.kinds.InstKind.TheVariants as kind
use Rattle.expr_forward.specs.Kinds.{kind_of}
use Rattle.list_law.proofs.Numbers.{less_of}
use Rattle.region_law.specs.Leads.{In}
use Rattle.agree_law.specs.Blocks.{reads}
use Rattle.fits_law.specs.State.{value_shape, IsLocal}
use Rattle.fits_law.specs.Takes.{Has, numbers, OfTwo, OfThree, Takes, shape_at}
use Rattle.fits_law.specs.Typed.{HaveShapes, IsTyped}
use Rattle.fits_law.proofs.Literals.{inserted_along}
use Rattle.fits_law.proofs.Operations.{before_some}
use Rattle.fits_law.proofs.Parts.{many_of}
use Rattle.global_law.proofs.Path.Parts.{there_below}
use Rattle.typed_law.proofs.Lists.{some_part}

insert_op : (o : Op) → kind_of o ≡ kind.CompositeInsert → o ≡ code.CompositeInsert
unfolding kind_of group_of
insert_op code.CompositeInsert e = refl
insert_op o e = cc

component_op : (o : Op) → kind_of o ≡ kind.VectorInsertDynamic → o ≡ code.VectorInsertDynamic
unfolding kind_of group_of
component_op code.VectorInsertDynamic e = refl
component_op o e = cc

-- what is read of operands
one_value : (s : Setting) (c : Frame) (x : ℕ) (vs : List ValueTree) → values_at s c (x ∷ []) ≡ Some vs → (v : ValueTree) × (value_at s c x ≡ Some v) × (vs ≡ v ∷ [])
one_value s c x vs each = let w = before_some (value_at s c x) (Some []) vs each in (w.0, w.2, w.4 ∙ ap (λ (l : List ValueTree). w.0 ∷ l) (sym (same_Some [] w.1 w.3)))

two_values : (s : Setting) (c : Frame) (x y : ℕ) (vs : List ValueTree) → values_at s c (x ∷ y ∷ []) ≡ Some vs → (v w : ValueTree) × (value_at s c x ≡ Some v) × (value_at s c y ≡ Some w) × (vs ≡ v ∷ w ∷ [])
two_values s c x y vs each =
    let w = before_some (value_at s c x) (values_at s c (y ∷ [])) vs each in
    let more = one_value s c y w.1 w.3 in
    (w.0, more.0, w.2, more.1, w.4 ∙ ap (λ (l : List ValueTree). w.0 ∷ l) more.2)

three_values : (s : Setting) (c : Frame) (x y z : ℕ) (vs : List ValueTree) → values_at s c (x ∷ y ∷ z ∷ []) ≡ Some vs → (u v w : ValueTree) × (value_at s c x ≡ Some u) × (value_at s c y ≡ Some v) × (value_at s c z ≡ Some w) × (vs ≡ u ∷ v ∷ w ∷ [])
three_values s c x y z vs each =
    let w = before_some (value_at s c x) (values_at s c (y ∷ z ∷ [])) vs each in
    let more = two_values s c y z w.1 w.3 in
    (w.0, more.0, more.1, w.2, more.2, more.3, w.4 ∙ ap (λ (l : List ValueTree). w.0 ∷ l) more.4)

-- operand k of an instruction is a value, which it reads
pub record IsOperand (i : Inst) (k n : ℕ) : Type 0 where
  pub at : slice_get i.args k ≡ Some n
  pub names : is_id i.op i.args k ≡ true
  pub value : is_value i.op k ≡ true
  pub read : In n (reads i)

abbrev with_op : Inst → Op → Inst
with_op i q = record i { op = q }

module _ (s : Setting) (f : Function) (c : Frame) where
  -- of both kinds of inserts: the whole and the object are these operands, and with the object at the path of the whole comes the result
  pub record IsInsert (i : Inst) (v : ValueTree) (j whole k object : ℕ) (path : List ℕ) : Type 0 where
    pub shape : Tree
    pub typed_as : type_tree s.of.globals i.ty ≡ Some shape
    pub own : value_shape s f i.result ≡ Some shape
    pub local : IsLocal s i.result
    pub whole_shape : value_shape s f whole ≡ Some shape
    pub part_shape : Tree
    pub object_shape : value_shape s f object ≡ Some part_shape
    pub was : ValueTree
    pub was_is : value_at s c whole ≡ Some was
    pub part : ValueTree
    pub part_is : value_at s c object ≡ Some part
    pub into : inserted part path was ≡ Some v
    pub whole_read : IsOperand i j whole
    pub object_read : IsOperand i k object

  -- what an operation takes
  pub record IsTaken (i : Inst) (v : ValueTree) : Type 0 where
    pub shape : Tree
    pub typed_as : type_tree s.of.globals i.ty ≡ Some shape
    pub own : value_shape s f i.result ≡ Some shape
    pub local : IsLocal s i.result
    pub operation : Operation
    pub operation_is : operation_of i.op (literal_operands i.op i.args) ≡ Some operation
    pub shapes : List Tree
    pub have : HaveShapes s f (value_operands i.op i.args) shapes
    pub takes : Takes operation shape (literal_operands i.op i.args) shapes
    pub values : List ValueTree
    pub each : values_at s c (value_operands i.op i.args) ≡ Some values
    pub made : value_of_operation operation shape (literal_operands i.op i.args) values ≡ Some v

  taken : (i : Inst) (v : ValueTree) → IsTyped s f i steps.operation → computed s c i ≡ Some v → IsTaken i v
  taken i v typed made =
      let t = some_part (λ (t : Tree). option_and_then (op_value i.op t (literal_operands i.op i.args)) (values_at s c (value_operands i.op i.args))) (type_tree s.of.globals i.ty) v made in
      let vs = some_part (op_value i.op t.0 (literal_operands i.op i.args)) (values_at s c (value_operands i.op i.args)) v t.2 in
      let o = some_part (λ (o : Operation). value_of_operation o t.0 (literal_operands i.op i.args) vs.0) (operation_of i.op (literal_operands i.op i.args)) v vs.2 in
      let is = typed.1 o.0 t.0 o.1 t.1 in
      record { shape = t.0; typed_as = t.1; own = is.0; local = typed.0; operation = o.0; operation_is = o.1; shapes = is.1.shapes; have = is.1.have; takes = is.1.takes; values = vs.0; each = vs.1; made = o.2 }

  -- an object for the part of a composite to which literals lead
  pub record IsCompositeInsert (i : Inst) (v : ValueTree) : Type 0 where
    pub is : IsInsert i v 1 (arg i 1) 0 (arg i 0) (drop 2 i.args)
    pub low : are_indexes (drop 2 i.args) ≡ true
    pub leads : shape_at is.shape (drop 2 i.args) ≡ Some is.part_shape

  composite_by : (i : Inst) (args : List ℕ) → i.args ≡ args → (v : ValueTree) (g : IsTaken (with_op i code.CompositeInsert) v) (us : List Tree) (vs : List ValueTree) → HaveShapes s f (take 2 args) us → OfTwo (λ (object a : Tree). (a ≡ g.shape) × (shape_at g.shape (drop 2 args) ≡ Some object)) us
      → values_at s c (take 2 args) ≡ Some vs → of_two (λ (object whole : ValueTree). inserted_by object (drop 2 args) whole) vs ≡ Some v → IsCompositeInsert (record i { op = code.CompositeInsert; args = args }) v
  unfolding is_id takes_of step_kind group_of
  composite_by i (x ∷ y ∷ ls) same v g (a ∷ b ∷ []) vs have takes each made =
      let w = two_values s c x y vs each in
      let into = inserted_along w.0 ls w.1 v (subst (λ (l : List ValueTree). of_two (λ (object whole : ValueTree). inserted_by object ls whole) l ≡ Some v) w.4 made) in
      record {
        is = record {
          shape = g.shape;
          typed_as = g.typed_as;
          own = g.own;
          local = g.local;
          whole_shape = have.1.0 ∙ ap (λ (t : Tree). Some t) takes.0;
          part_shape = a;
          object_shape = have.0;
          was = w.1;
          was_is = w.3;
          part = w.0;
          part_is = w.2;
          into = into.1;
          whole_read = record { at = refl; names = refl; value = refl; read = inr (inl refl) };
          object_read = record { at = refl; names = refl; value = refl; read = inl refl };
        };
        low = into.0;
        leads = takes.1;
      }
  composite_by i [] same v g [] vs have takes each made = absurd takes
  composite_by i [] same v g (a ∷ us) vs have takes each made = absurd have
  composite_by i (x ∷ []) same v g [] vs have takes each made = absurd takes
  composite_by i (x ∷ []) same v g (a ∷ []) vs have takes each made = absurd takes
  composite_by i (x ∷ []) same v g (a ∷ b ∷ us) vs have takes each made = absurd have.1
  composite_by i (x ∷ y ∷ ls) same v g [] vs have takes each made = absurd takes
  composite_by i (x ∷ y ∷ ls) same v g (a ∷ []) vs have takes each made = absurd takes
  composite_by i (x ∷ y ∷ ls) same v g (a ∷ b ∷ d ∷ us) vs have takes each made = absurd takes

  composite_taken : (i : Inst) (v : ValueTree) → IsTaken (with_op i code.CompositeInsert) v → IsCompositeInsert (with_op i code.CompositeInsert) v
  unfolding operation_of operation
  composite_taken i v g =
      let same : op.CompositeInsert ≡ g.operation = same_Some op.CompositeInsert g.operation g.operation_is in
      composite_by i i.args refl v g g.shapes g.values g.have (subst (λ (q : Operation). Takes q g.shape (drop 2 i.args) g.shapes) (sym same) g.takes) g.each
      (subst (λ (q : Operation). value_of_operation q g.shape (drop 2 i.args) g.values ≡ Some v) (sym same) g.made)

  pub composite_insert : (i : Inst) (v : ValueTree) → kind_of i.op ≡ kind.CompositeInsert → IsTyped s f i steps.operation → computed s c i ≡ Some v → IsCompositeInsert i v
  composite_insert i v e typed made =
      let same = insert_op i.op e in
      subst (λ (q : Op). IsCompositeInsert (with_op i q) v) (sym same) (composite_taken i v (subst (λ (q : Op). IsTaken (with_op i q) v) same (taken i v typed made)))

  -- a component at an index that is computed
  pub record IsComponentInsert (i : Inst) (v : ValueTree) : Type 0 where
    pub index : ℕ
    pub index_is : value_at s c (arg i 2) ≡ Some (word index)
    pub index_shape : Tree
    pub index_typed : value_shape s f (arg i 2) ≡ Some index_shape
    pub index_number : is_scalar index_shape ≡ true
    pub index_read : IsOperand i 2 (arg i 2)
    pub is : IsInsert i v 0 (arg i 0) 1 (arg i 1) (index ∷ [])
    pub elem : Elem
    pub count : ℕ
    pub vector_is : is.shape ≡ vector elem count
    pub part_is_elem : is.part_shape ≡ elem_tree elem
    pub below : fits is.shape is.was ≡ true → index < count

  number_scalar : (t : Tree) → Has numbers None t → is_scalar t ≡ true
  number_scalar int is = refl
  number_scalar uint is = refl
  number_scalar boolean is = absurd is
  number_scalar (vector e n) is = absurd is
  number_scalar (array t l) is = absurd is
  number_scalar (runtime t) is = absurd is
  number_scalar (struct k ts) is = absurd is

  -- with a part at an index: it is below the number of parts
  with_there : (was v part : ValueTree) (k : ℕ) → with_part was k part ≡ Some v → (vs : ValueTrees) × (was ≡ many vs) × (nat_lt k (length (listed vs)) ≡ true)
  with_there (word w) v part k e = cc
  with_there (truth w) v part k e = cc
  with_there (many vs) v part k e = (vs, refl, by_test (nat_lt k (length (listed vs))) e)
    where
      by_test : (b : Bool) → (if b then Some (composite (slice_set (listed vs) k part)) else None) ≡ Some v → b ≡ true
      by_test true e = refl
      by_test false e = cc

  inserted_one : (was v part : ValueTree) (k : ℕ) → with_part was k part ≡ Some v → inserted part (k ∷ []) was ≡ Some v
  inserted_one was v part k e =
      let w = with_there was v part k e in
      let old = there_below (listed w.0) k (less_of k (length (listed w.0)) w.2) in
      ap (option_and_then (λ (x : ValueTree). option_and_then (with_part was k) (Some part))) (ap (λ (x : ValueTree). part_at x k) w.1 ∙ old.1) ∙ e

  vector_below : (e : Elem) (n : ℕ) (was v part : ValueTree) (k : ℕ) → with_part was k part ≡ Some v → fits (vector e n) was ≡ true → k < n
  vector_below e n was v part k made fit =
      let w = with_there was v part k made in
      let all = many_of (elem_tree e) n w.0 (subst (λ (x : ValueTree). fits (vector e n) x ≡ true) w.1 fit) in
      subst (λ (l : ℕ). k < l) all.0 (less_of k (length (listed w.0)) w.2)

  index_of : (was part index v : ValueTree) → inserted_at was part index ≡ Some v → (k : ℕ) × (index ≡ word k) × (with_part was k part ≡ Some v)
  index_of was part (word k) v e = (k, refl, e)
  index_of was part (truth b) v e = cc
  index_of was part (many vs) v e = cc

  component_by : (i : Inst) (args : List ℕ) → i.args ≡ args → (v : ValueTree) (g : IsTaken (with_op i code.VectorInsertDynamic) v) (us : List Tree) (vs : List ValueTree) → HaveShapes s f args us → OfThree (λ (a p k : Tree). (e : Elem) × (n : ℕ) × (g.shape ≡ vector e n) × (a ≡ g.shape) × (p ≡ elem_tree e) × Has numbers None k) us
      → values_at s c args ≡ Some vs → of_three inserted_at vs ≡ Some v → IsComponentInsert (record i { op = code.VectorInsertDynamic; args = args }) v
  unfolding is_id takes_of step_kind group_of
  component_by i (x ∷ y ∷ z ∷ []) same v g (a ∷ b ∷ d ∷ []) vs have takes each made =
      let w = three_values s c x y z vs each in
      let k = index_of w.0 w.1 w.2 v (subst (λ (l : List ValueTree). of_three inserted_at l ≡ Some v) w.6 made) in
      record {
        index = k.0;
        index_is = w.5 ∙ ap (λ (u : ValueTree). Some u) k.1;
        index_shape = d;
        index_typed = have.1.1.0;
        index_number = number_scalar d takes.5;
        index_read = record { at = refl; names = refl; value = refl; read = inr (inr (inl refl)) };
        is = record {
          shape = g.shape;
          typed_as = g.typed_as;
          own = g.own;
          local = g.local;
          whole_shape = have.0 ∙ ap (λ (t : Tree). Some t) takes.3;
          part_shape = b;
          object_shape = have.1.0;
          was = w.0;
          was_is = w.3;
          part = w.1;
          part_is = w.4;
          into = inserted_one w.0 v w.1 k.0 k.2;
          whole_read = record { at = refl; names = refl; value = refl; read = inl refl };
          object_read = record { at = refl; names = refl; value = refl; read = inr (inl refl) };
        };
        elem = takes.0;
        count = takes.1;
        vector_is = takes.2;
        part_is_elem = takes.4;
        below = λ fit. vector_below takes.0 takes.1 w.0 v w.1 k.0 k.2 (subst (λ (t : Tree). fits t w.0 ≡ true) takes.2 fit);
      }
  component_by i [] same v g [] vs have takes each made = absurd takes
  component_by i [] same v g (a ∷ us) vs have takes each made = absurd have
  component_by i (x ∷ xs) same v g [] vs have takes each made = absurd takes
  component_by i (x ∷ []) same v g (a ∷ []) vs have takes each made = absurd takes
  component_by i (x ∷ []) same v g (a ∷ b ∷ us) vs have takes each made = absurd have.1
  component_by i (x ∷ y ∷ xs) same v g (a ∷ []) vs have takes each made = absurd takes
  component_by i (x ∷ y ∷ []) same v g (a ∷ b ∷ []) vs have takes each made = absurd takes
  component_by i (x ∷ y ∷ []) same v g (a ∷ b ∷ d ∷ us) vs have takes each made = absurd have.1.1
  component_by i (x ∷ y ∷ z ∷ xs) same v g (a ∷ b ∷ []) vs have takes each made = absurd takes
  component_by i (x ∷ y ∷ z ∷ []) same v g (a ∷ b ∷ d ∷ k ∷ us) vs have takes each made = absurd takes
  component_by i (x ∷ y ∷ z ∷ q ∷ xs) same v g (a ∷ b ∷ d ∷ []) vs have takes each made = absurd have.1.1.1
  component_by i (x ∷ y ∷ z ∷ q ∷ xs) same v g (a ∷ b ∷ d ∷ k ∷ us) vs have takes each made = absurd takes

  component_taken : (i : Inst) (v : ValueTree) → IsTaken (with_op i code.VectorInsertDynamic) v → IsComponentInsert (with_op i code.VectorInsertDynamic) v
  unfolding operation_of operation
  component_taken i v g =
      let same : op.VectorInsertDynamic ≡ g.operation = same_Some op.VectorInsertDynamic g.operation g.operation_is in
      component_by i i.args refl v g g.shapes g.values g.have (subst (λ (q : Operation). Takes q g.shape [] g.shapes) (sym same) g.takes) g.each
      (subst (λ (q : Operation). value_of_operation q g.shape [] g.values ≡ Some v) (sym same) g.made)

  pub component_insert : (i : Inst) (v : ValueTree) → kind_of i.op ≡ kind.VectorInsertDynamic → IsTyped s f i steps.operation → computed s c i ≡ Some v → IsComponentInsert i v
  component_insert i v e typed made =
      let same = component_op i.op e in
      subst (λ (q : Op). IsComponentInsert (with_op i q) v) (sym same) (component_taken i v (subst (λ (q : Op). IsTaken (with_op i q) v) same (taken i v typed made)))
