-- What live instructions ask for that take composites apart or put them together, and the operations of expressions.
use Rattle.std.proofs.Common.{◌≡◌, ℕ, zero, suc, Bool, true, false, List, [], ◌∷◌, drop, take, map, Contains, Option, Some, None, unwrap_or, refl, sym, ap, ◌∙◌, subst}
use Rattle.std.specs.Prelude.{slice_get, slice_index, slice_index_or}
use Rattle.spv_ops.specs.Opcode.{is, number}
use Rattle.spv_ops.specs.OpGroups.{group_of}
use Rattle.spv_ops.specs.Shape.{shape}
use Rattle.spv_ops.specs.declared.Op.{Op}
use Rattle.spv_ops.specs.declared.Op.TheVariants as code
use Rattle.spv_module.specs.Inst.{has_type}
use Rattle.spv_module.specs.declared.inst.Inst.{Inst}
use Rattle.spv_module.specs.declared.inst.Block.{Block}
use Rattle.spv_module.specs.declared.inst.Function.{Function}
use Rattle.spv_module.specs.declared.tree.Length.{Length}
use Rattle.spv_module.specs.declared.tree.Elem.{Elem}
use Rattle.spv_types.specs.Tree.{Tree, uint, vector}
use Rattle.spv_types.specs.Types.{type_tree}
use Rattle.spv_index.specs.Locals.{insts_of, type_in}
use Rattle.op_semantics.specs.declared.operation.Operation.{Operation}
use Rattle.op_semantics.specs.declared.operation.Operation.TheVariants as op
use Rattle.op_semantics.specs.Value.{operation, operation_of}
use Rattle.profile_rules.specs.Operands.{is_there_in}
use Rattle.conformance.specs.Rules.{Options}
use Rattle.plan_law.specs.InOrder.{IsAmong}
use Rattle.module_semantics.specs.Setting.{Setting}
use Rattle.module_semantics.specs.Operands.{value_operands, literal_operands}
use Rattle.use_chains.specs.Slots.{inst_at, IsLive}
use Rattle.name_alloc.specs.Naming.{name_of}
use Rattle.glsl_ast.specs.Tree.{TranslationUnit}
use Rattle.glsl_grammar.specs.Read.{is_declared}
use Rattle.text_rules.specs.Printed.{is_written_struct}
use Rattle.text_rules.specs.Declarations.{length_extent}
use Rattle.expr_forward.specs.Kinds.{kind_of, operation_kind_of}
use Rattle.vec_lowering.specs.Composite.{Argument, first_of}
use Rattle.expr_forward.specs.Context.{operand}
use Rattle.expr_forward.specs.Values.{whole_argument}
use Rattle.expr_forward.specs.Scope.{Scope, type_of}
use Rattle.expr_forward.specs.declared.kinds.InstKind.TheVariants as inst_kind
use Rattle.expr_forward.specs.declared.kinds.OperationKind.{OperationKind}
use Rattle.expr_forward.specs.declared.kinds.OperationKind.TheVariants as kind
use Rattle.function_plan.specs.Phis.{is_gone}
use Rattle.function_text.specs.Functions.{FunctionPlan}
use Rattle.unit_rules.specs.Translation.{Naming, id_text}
use Rattle.unit_rules.specs.Unit.{source_of, IsUnitOf}
use Rattle.fits_law.specs.State.{value_shape}
use Rattle.op_semantics.specs.Fits.{elem_tree}
use Rattle.fits_law.specs.Takes.{numbers, Has, Takes, Alike, OfOne, OfTwo, OfThree, shape_at}
use Rattle.fits_law.specs.Typed.{HaveShapes}
use Rattle.claim_law.specs.Uses.{Words, UsesExtent}
use Rattle.claim_law.specs.Named.{CanCopy, AsksIfAny}
use Rattle.claim_law.specs.Asked.{MeetsKind}
use Rattle.claim_law.specs.Blocks.{FitWords}
use Rattle.claim_law.specs.Statements.{MeetsInst}
use Rattle.typed_law.specs.Conforms.{IsConforming}
use Rattle.typed_law.proofs.Rules.{operand_there, value_right, number_right}
use Rattle.typed_law.proofs.Values.{inside, typed_result}
use Rattle.typed_law.proofs.Operations.{Facts, given_by}
use Rattle.typed_law.proofs.Others.{typed_some}
use Rattle.claim_law.specs.Claimed.{IsIn}
use Rattle.claim_law.proofs.Claim.Listed.{in_flat, at_place}
use Rattle.grammar_law.specs.Mentioned.{IsValueIn}
use Rattle.grammar_law.specs.Words.{words_of, AreOfStructs}
use Rattle.grammar_law.specs.Types.{IsLengthOf}
use Rattle.grammar_law.proofs.Unit.Lists.{as_among}
use Rattle.grammar_law.proofs.Unit.Ways.{HaveKinds, F, R, V, in_module}
use Rattle.grammar_law.proofs.Unit.Structs.{Written, HasNames, named_type_uses, named_zero_uses}
use Rattle.grammar_law.proofs.Unit.Parts.{steps_use}
use Rattle.grammar_law.proofs.Unit.Types.{of_types}
use Rattle.grammar_law.proofs.Meets.LogicalCopies.{can_copy}
use Rattle.grammar_law.proofs.Unit.Sets.{names_there}
use Rattle.grammar_law.proofs.Unit.Kept.{shaped_type}
use Rattle.grammar_law.proofs.Unit.Meets.{plain_meets, extended_meets, copy_meets, construct_usable, extract_usable, logical_usable}
use Rattle.grammar_law.proofs.Unit.Composed.{insert_meets, put_meets}

-- shapes of a few operands
first_shape : (s : Setting) (f : Function) (args : List ℕ) (us : List Tree) (Q : Tree → Type 0) → HaveShapes s f (take 1 args) us → OfOne Q us → (a : Tree) × (value_shape s f (slice_index args 0) ≡ Some a) × Q a
first_shape s f [] [] Q have of_it = absurd of_it
first_shape s f [] (a ∷ us) Q have of_it = absurd have
first_shape s f (x ∷ args) [] Q have of_it = absurd have
first_shape s f (x ∷ args) (a ∷ []) Q have of_it = (a, have.0, of_it)
first_shape s f (x ∷ args) (a ∷ b ∷ us) Q have of_it = absurd of_it

alone_shape : (s : Setting) (f : Function) (args : List ℕ) (us : List Tree) (Q : Tree → Type 0) → HaveShapes s f args us → OfOne Q us → (a : Tree) × (value_shape s f (slice_index args 0) ≡ Some a) × Q a
alone_shape s f [] [] Q have of_it = absurd of_it
alone_shape s f [] (a ∷ us) Q have of_it = absurd have
alone_shape s f (x ∷ args) [] Q have of_it = absurd have
alone_shape s f (x ∷ args) (a ∷ []) Q have of_it = (a, have.0, of_it)
alone_shape s f (x ∷ args) (a ∷ b ∷ us) Q have of_it = absurd of_it

pub record AreTwo (s : Setting) (f : Function) (args : List ℕ) (Q : Tree → Tree → Type 0) : Type 0 where
  pub a : Tree
  pub b : Tree
  pub first : value_shape s f (slice_index args 0) ≡ Some a
  pub second : value_shape s f (slice_index args 1) ≡ Some b
  pub there : slice_get args 0 ≡ Some (slice_index args 0)
  pub next : slice_get args 1 ≡ Some (slice_index args 1)
  pub of_them : Q a b

two_shapes : (s : Setting) (f : Function) (args : List ℕ) (us : List Tree) (Q : Tree → Tree → Type 0) → HaveShapes s f (take 2 args) us → OfTwo Q us → AreTwo s f args Q
two_shapes s f [] [] Q have of_it = absurd of_it
two_shapes s f [] (a ∷ us) Q have of_it = absurd have
two_shapes s f (x ∷ []) [] Q have of_it = absurd have
two_shapes s f (x ∷ []) (a ∷ []) Q have of_it = absurd of_it
two_shapes s f (x ∷ []) (a ∷ b ∷ us) Q have of_it = absurd have.1
two_shapes s f (x ∷ y ∷ args) [] Q have of_it = absurd have
two_shapes s f (x ∷ y ∷ args) (a ∷ []) Q have of_it = absurd of_it
two_shapes s f (x ∷ y ∷ args) (a ∷ b ∷ []) Q have of_it = record { a = a; b = b; first = have.0; second = have.1.0; there = refl; next = refl; of_them = of_it }
two_shapes s f (x ∷ y ∷ args) (a ∷ b ∷ c ∷ us) Q have of_it = absurd of_it

pub record AreThree (s : Setting) (f : Function) (args : List ℕ) : Type 0 where
  pub a : Tree
  pub b : Tree
  pub c : Tree
  pub first : value_shape s f (slice_index args 0) ≡ Some a
  pub second : value_shape s f (slice_index args 1) ≡ Some b
  pub third : value_shape s f (slice_index args 2) ≡ Some c
  pub there : slice_get args 0 ≡ Some (slice_index args 0)
  pub next : slice_get args 1 ≡ Some (slice_index args 1)
  pub last : slice_get args 2 ≡ Some (slice_index args 2)

three_shapes : (s : Setting) (f : Function) (args : List ℕ) (us : List Tree) (Q : Tree → Tree → Tree → Type 0) → HaveShapes s f args us → OfThree Q us → AreThree s f args
three_shapes s f [] [] Q have of_it = absurd of_it
three_shapes s f [] (a ∷ us) Q have of_it = absurd have
three_shapes s f (x ∷ args) [] Q have of_it = absurd have
three_shapes s f (x ∷ args) (a ∷ []) Q have of_it = absurd of_it
three_shapes s f (x ∷ args) (a ∷ b ∷ []) Q have of_it = absurd of_it
three_shapes s f (x ∷ []) (a ∷ b ∷ c ∷ us) Q have of_it = absurd have.1
three_shapes s f (x ∷ y ∷ []) (a ∷ b ∷ c ∷ us) Q have of_it = absurd have.1.1
three_shapes s f (x ∷ y ∷ z ∷ args) (a ∷ b ∷ c ∷ us) Q have of_it = record { a = a; b = b; c = c; first = have.0; second = have.1.0; third = have.1.1.0; there = refl; next = refl; last = refl }

pub dropped : (n : ℕ) (ws : List ℕ) → FitWords ws → FitWords (drop n ws)
dropped n [] fit = by_none n
  where
    by_none : (n : ℕ) → FitWords (drop n [])
    by_none zero = tt
    by_none (suc n) = tt
dropped zero (w ∷ ws) fit = fit
dropped (suc n) (w ∷ ws) fit = dropped n ws fit.1

-- what an opcode is given
pub record IsOf (o : Op) (args ids literals : List ℕ) (q : Operation) : Type 0 where
  pub is_it : operation_of o (literal_operands o args) ≡ Some q
  pub values : value_operands o args ≡ ids
  pub words : literal_operands o args ≡ literals
  pub typed : has_type o ≡ true

extract_of : (o : Op) (args : List ℕ) → operation_kind_of o ≡ kind.CompositeExtract → IsOf o args (take 1 args) (drop 1 args) op.CompositeExtract
unfolding operation_kind_of kind_of group_of operation operation_of number shape
extract_of code.CompositeExtract args on = record { is_it = refl; values = refl; words = refl; typed = refl }
extract_of o args on = cc

copy_of : (o : Op) (args : List ℕ) → operation_kind_of o ≡ kind.CopyLogical → IsOf o args args [] op.Copy
unfolding operation_kind_of kind_of group_of operation operation_of number shape
copy_of code.CopyLogical args on = record { is_it = refl; values = refl; words = refl; typed = refl }
copy_of o args on = cc

-- OpCopyLogical asks for names alone
logical_by : (W : Words) (found : Naming) (o : Op) (t : Tree) (xs : List Argument) → operation_kind_of o ≡ kind.CopyLogical → CanCopy W found t (first_of xs).shape → AsksIfAny W found o (operation_of o (0 ∷ [])) t [] xs
unfolding operation_kind_of kind_of group_of operation operation_of number
logical_by W found code.CopyLogical t xs on can = λ e. can
logical_by W found o t xs on can = cc

insert_of : (o : Op) (args : List ℕ) → is o code.CompositeInsert ≡ true → IsOf o args (take 2 args) (drop 2 args) op.CompositeInsert
unfolding group_of operation operation_of number shape
insert_of code.CompositeInsert args on = record { is_it = refl; values = refl; words = refl; typed = refl }
insert_of o args on = cc

put_of : (o : Op) (args : List ℕ) → is o code.VectorInsertDynamic ≡ true → IsOf o args args [] op.VectorInsertDynamic
unfolding group_of operation operation_of number shape
put_of code.VectorInsertDynamic args on = record { is_it = refl; values = refl; words = refl; typed = refl }
put_of o args on = cc

module _ (s : Setting) (entry : Option (List ℕ)) (right : IsConforming s.of entry) (kinds : HaveKinds s.of.globals) (o : Options) (unit : TranslationUnit) (u : IsUnitOf s.of o unit) (p : FunctionPlan) (among : IsIn p u.plans) (names : List (List ℕ)) (structs : AreOfStructs s.of.globals (name_of u.claimed) names) where
  abbrev Gs : List Inst
  Gs = s.of.globals

  abbrev Found : Naming
  Found = name_of u.claimed

  abbrev Fn : Function
  Fn = F s entry right kinds o unit u p among

  abbrev Marks : List Bool
  Marks = R s entry right kinds o unit u p among

  abbrev Where : Scope
  Where = V s entry right kinds o unit u p among

  abbrev W : Words
  W = words_of s.of.globals (name_of u.claimed) names

  in_it : Contains s.of.functions Fn
  in_it = in_module s entry right kinds o unit u p among

  module _ (block place : ℕ) (holder : Block) (i : Inst) (there : slice_get Fn.blocks block ≡ Some holder) (inside_it : IsIn i holder.insts) (at : inst_at Fn block place ≡ Some i) (here : slice_index_or Marks block false ≡ true) (live : IsLive Fn Marks block place)
      (t : Tree) (shaped : type_tree s.of.globals i.ty ≡ Some t) (has : has_type i.op ≡ true) (kept : is_gone (Where.form i.result) ≡ false) (fit : FitWords i.args)
      (declared : (g : Inst) → IsIn g s.of.globals → is_written_struct (source_of s.of o u.entry) (Written s.of o unit u) g ≡ true → is_declared names (id_text (name_of u.claimed) g.result) ≡ true)
      (lengths : (l : Length) → IsLengthOf s.of.globals l → UsesExtent (words_of s.of.globals (name_of u.claimed) names) (length_extent (source_of s.of o u.entry) (id_text (name_of u.claimed)) l)) where
    listed : IsIn i (insts_of Fn)
    listed = in_flat (λ (b : Block). b.insts) Fn.blocks holder i (at_place Fn.blocks block holder there) inside_it

    stands : IsAmong i (insts_of Fn)
    stands = as_among (insts_of Fn) i listed

    facts_of : Facts s entry right Fn in_it i stands i.op
    facts_of = record {
      value = value_right s.of entry right Fn in_it i stands;
      number = number_right s.of entry right Fn in_it i stands;
      least = ((inside s entry right Fn in_it).formed i stands).least;
      most = ((inside s entry right Fn in_it).formed i stands).most;
      has = operand_there (is_there_in s.of Fn i.at) i ((inside s entry right Fn in_it).order.there i stands);
    }

    abbrev Usable : ℕ → Type 0
    Usable = IsValueIn Where Marks block

    made : i.result ≡ 0 → ⊥
    made = ((inside s entry right Fn in_it).formed i stands).result (typed_result i.op has)

    typed : i.ty ≡ 0 → ⊥
    typed = typed_some s entry right Fn in_it i stands has

    own_names : HasNames s.of o unit u t
    own_names = names_there s entry right kinds o unit u p among names structs block holder i there inside_it made here typed t shaped declared lengths (Where.form i.result) refl kept

    given : (ids literals : List ℕ) (q : Operation) → IsOf i.op i.args ids literals q → (us : List Tree) × HaveShapes s Fn ids us × Takes q t literals us
    given ids literals q w =
        let g = given_by s entry right Fn in_it i stands t shaped i.op q facts_of w.is_it in
        (g.0, subst (λ (l : List ℕ). HaveShapes s Fn l g.0) w.values g.1, subst (λ (l : List ℕ). Takes q t l g.0) w.words g.2)

    pub insert_asks : is i.op code.CompositeInsert ≡ true → MeetsInst W Found Where Usable block i inst_kind.CompositeInsert
    insert_asks on =
        let g = given (take 2 i.args) (drop 2 i.args) op.CompositeInsert (insert_of i.op i.args on) in
        let w = two_shapes s Fn i.args g.0 (λ object a. (a ≡ t) × (shape_at t (drop 2 i.args) ≡ Some object)) g.1 g.2 in
        insert_meets s entry right kinds o unit u p among names structs block place i at here live holder there inside_it made typed t shaped kept declared lengths w.a on w.there w.next w.first (w.second ∙ ap (λ (x : Tree). Some x) w.of_them.0) (dropped 2 i.args fit) w.of_them.1

    pub put_asks : is i.op code.VectorInsertDynamic ≡ true → MeetsInst W Found Where Usable block i inst_kind.VectorInsertDynamic
    put_asks on =
        let g = given i.args [] op.VectorInsertDynamic (put_of i.op i.args on) in
        let w = three_shapes s Fn i.args g.0 (λ a c j. (e : Elem) × (n : ℕ) × (t ≡ vector e n) × (a ≡ t) × (c ≡ elem_tree e) × Has numbers None j) g.1 g.2 in
        put_meets s entry right kinds o unit u p among names structs block place i at here live holder there inside_it made typed t shaped kept declared lengths w.a w.b w.c on w.there w.next w.last w.first w.second w.third

    -- the operations of expressions, where structs of values have names
    module _ (of_values : (n : ℕ) (v : Tree) → Usable n → type_tree Gs (type_of Where n) ≡ Some v → HasNames s.of o unit u v)
        (length_asks : operation_kind_of i.op ≡ kind.ArrayLength → MeetsKind W Found Where Usable block i kind.ArrayLength) where
      extract_asks : operation_kind_of i.op ≡ kind.CompositeExtract → MeetsKind W Found Where Usable block i kind.CompositeExtract
      extract_asks on =
          let g = given (take 1 i.args) (drop 1 i.args) op.CompositeExtract (extract_of i.op i.args on) in
          let w = first_shape s Fn i.args g.0 (λ a. shape_at a (drop 1 i.args) ≡ Some t) g.1 g.2 in
          let value = extract_usable s entry right kinds o unit u p among W block place i at listed here live t shaped on in
          let whole : type_tree Gs (type_of Where (slice_index i.args 0)) ≡ Some w.0 = shaped_type (type_tree Gs) (type_in Gs Fn (slice_index i.args 0)) w.0 w.1 in
          (value, steps_use s entry right Fn o unit u names Where.setting.global (drop 1 i.args) (type_of Where (slice_index i.args 0)) w.0 t whole (of_values (slice_index i.args 0) w.0 value whole) (dropped 1 i.args fit) w.2)

      logical_asks : operation_kind_of i.op ≡ kind.CopyLogical → MeetsKind W Found Where Usable block i kind.CopyLogical
      logical_asks on =
          let g = given i.args [] op.Copy (copy_of i.op i.args on) in
          let w = alone_shape s Fn i.args g.0 (Alike t) g.1 g.2 in
          let value = logical_usable s entry right kinds o unit u p among W block place i at listed here live t shaped on in
          let whole : type_tree Gs (type_of Where (slice_index i.args 0)) ≡ Some w.0 = shaped_type (type_tree Gs) (type_in Gs Fn (slice_index i.args 0)) w.0 w.1 in
          let can : CanCopy W Found t w.0 = can_copy s entry right o unit u names declared lengths t w.0 w.2 (of_types Gs i.ty t shaped) (of_types Gs (type_of Where (slice_index i.args 0)) w.0 whole) own_names (of_values (slice_index i.args 0) w.0 value whole) in
          let there : CanCopy W Found (unwrap_or (type_tree Gs i.ty) uint) (unwrap_or (type_tree Gs (type_of Where (slice_index i.args 0))) uint) =
          subst (λ (q : Option Tree). CanCopy W Found (unwrap_or (type_tree Gs i.ty) uint) (unwrap_or q uint)) (sym whole) (subst (λ (q : Option Tree). CanCopy W Found (unwrap_or q uint) w.0) (sym shaped) can) in
          (value, λ f. logical_by W Found i.op (unwrap_or (type_tree Gs i.ty) uint) (map operand (whole_argument Where f (slice_index i.args 0) ∷ [])) on there)

      pub value_asks : (k : OperationKind) → operation_kind_of i.op ≡ k → (k ≡ kind.Other → ⊥) → MeetsKind W Found Where Usable block i k
      value_asks kind.Undef on other = named_zero_uses s.of o unit u names declared lengths i.ty t shaped own_names
      value_asks kind.CopyObject on other = copy_meets s entry right kinds o unit u p among W block place i at listed here live t shaped on
      value_asks kind.ArrayLength on other = length_asks on
      value_asks kind.CompositeExtract on other = extract_asks on
      value_asks kind.CompositeConstruct on other = (named_type_uses s.of o unit u names declared lengths i.ty t shaped own_names, construct_usable s entry right kinds o unit u p among W block place i at listed here live t shaped on)
      value_asks kind.CopyLogical on other = logical_asks on
      value_asks kind.Extended on other = extended_meets s entry right kinds o unit u p among W block place i at listed here live t shaped on
      value_asks kind.Plain on other = plain_meets s entry right kinds o unit u p among W block place i at listed here live t shaped on
      value_asks kind.Other on other = absurd (other refl)
