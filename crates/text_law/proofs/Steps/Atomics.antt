-- So of atomic instructions nothing is left: what they are on is an int or a uint (A3), their operands are of its type (T25) and say their words, and the function that is called is theirs.
use Rattle.std.proofs.Common.{◌≡◌, ◌==◌, ◌||◌, not, ℕ, Bool, true, false, List, [], ◌∷◌, ◌++◌, map, length, drop, take, Contains, Option, Some, None, refl, sym, ap, ◌∙◌, subst, unwrap_or, if◌then◌else◌}
use Rattle.std.specs.Prelude.{option_map, option_and_then}
use Rattle.std.specs.Option.{option_map_or}
use Rattle.std.proofs.lemmas.Bool.{not-false}
use Rattle.std.proofs.lemmas.Option.{same_Some}
use Rattle.spv_ops.specs.Opcode.{is}
use Rattle.spv_ops.specs.Groups.{is_atomic}
use Rattle.spv_ops.specs.OpGroups.{group_of}
use Rattle.spv_ops.specs.declared.AtomicOp.{AtomicOp}
use Rattle.spv_ops.specs.declared.AtomicOp.TheVariants as atomics
use Rattle.spv_ops.specs.declared.Op.{Op}
use Rattle.spv_ops.specs.declared.Op.TheVariants as code
use Rattle.spv_ops.specs.declared.OpGroup.{OpGroup}
use Rattle.spv_ops.specs.declared.OpGroup.TheVariants as groups
use Rattle.spv_module.specs.Held.{global}
use Rattle.spv_module.specs.Inst.{has_type}
use Rattle.spv_module.specs.State.{ModuleState}
use Rattle.spv_module.specs.declared.inst.Inst.{Inst}
use Rattle.spv_module.specs.declared.inst.Function.{Function}
use Rattle.spv_module.specs.declared.tree.Elem.{Elem}
use Rattle.spv_module.specs.declared.tree.Elem.TheVariants as elem
use Rattle.spv_types.specs.declared.kind.TypeKind.TheVariants.{Int}
use Rattle.spv_types.specs.Tree as plain
use Rattle.spv_types.specs.Tree.{Tree, word as holds_word}
use Rattle.spv_types.specs.Types.{elem_of, int_tree, tree_at, tree_before, type_tree}
use Rattle.spv_types.specs.Leaves.{IsSized}
use Rattle.spv_decor.specs.Rows.{word}
use Rattle.spv_index.specs.Locals.{insts_of, type_in}
use Rattle.spv_index.specs.Pointers.{pointer as pointer_row, pointee, pointee_of}
use Rattle.conformance.specs.Rules.{Options}
use Rattle.op_semantics.specs.Component.{before, each_one}
use Rattle.op_semantics.specs.Word.{unary_word}
use Rattle.op_semantics.specs.declared.operation.Unary.TheVariants.{SNegate}
use Rattle.profile_rules.specs.AtomicRules.{is_of_other_sign, is_other_number, is_shared_class, is_other_place, leads_elsewhere}
use Rattle.profile_rules.specs.declared.way.Way.TheVariants.{BufferBlock}
use Rattle.profile_rules.specs.MemoryRules.{is_through}
use Rattle.profile_rules.specs.NumberRules.{points_to_other, is_no_content, has_no_int}
use Rattle.profile_rules.specs.TypeRows.{is_pointer, differ, value_fails, is_other}
use Rattle.profile_rules.specs.TypeRules.{breaks_t25, is_number_broken}
use Rattle.traces.specs.Events.{updating}
use Rattle.traces.specs.Invocations.{Invocation}
use Rattle.traces.specs.Runs.{Supplied}
use Rattle.traces.specs.Outcomes.{Result, got, then_get}
use Rattle.module_semantics.specs.Setting.{Setting}
use Rattle.module_semantics.specs.State.{own, Conf}
use Rattle.module_semantics.specs.Operands.{value_at, word_at, words_at, arg}
use Rattle.module_semantics.specs.Steps.{step_kind, atomic_operation}
use Rattle.glsl_ast.specs.Tree.{Text, Expr, Exprs, expr, exprs_in, no_exprs, binary, TranslationUnit}
use Rattle.glsl_ast.specs.declared.expressions.BinOp.TheVariants.{Sub}
use Rattle.glsl_semantics.specs.Shapes.{Shape, Typed, typed, scalar}
use Rattle.glsl_semantics.specs.States.{State}
use Rattle.glsl_semantics.specs.Operators.{operated}
use Rattle.glsl_semantics.specs.Expressions as expressions
use Rattle.glsl_semantics.specs.Expressions.{Program, Argument, CallKind, user, AtomicFunction, atomic_function, atomic_or, call_kind, if_count, operand_count, operand_words, literal_value, values}
use Rattle.int_lowering.specs.Operand.{literal_of}
use Rattle.expr_forward.specs.declared.kinds.InstKind.TheVariants as kind
use Rattle.expr_forward.specs.Kinds.{kind_in, kind_of}
use Rattle.expr_forward.specs.Scope.{Scope, globals as globals_in}
use Rattle.expr_forward.specs.Statements.{has_result, atomic_name, word_by, word_at_place, scalar_at}
use Rattle.expr_forward.specs.Values.{value}
use Rattle.function_text.specs.Functions.{FunctionPlan, written}
use Rattle.unit_rules.specs.Unit.{IsUnitOf}
use Rattle.fits_law.specs.State.{value_shape}
use Rattle.fits_law.specs.Typed.{IsTyped}
use Rattle.type_law.specs.Shaped.{AreConstants}
use Rattle.type_law.proofs.Rows.{by_kind, int_kind}
use Rattle.agree_law.specs.Agree.{Naming, AreApart}
use Rattle.agree_law.specs.Blocks.{IsOf, At}
use Rattle.agree_law.specs.Evaluates.{IsKept}
use Rattle.agree_law.specs.Points.{Body}
use Rattle.agree_law.proofs.Machine.{machine, IsUpdate}
use Rattle.call_law.specs.Known.{IsFunctionOf, LendsWhole}
use Rattle.plan_law.specs.InOrder.{IsAmong}
use Rattle.global_law.specs.Chains.{AreLed, ChainsAreRight}
use Rattle.global_law.specs.Parts.{StructNames, shape_in}
use Rattle.global_law.specs.Walks.{writing, struct_names}
use Rattle.global_law.proofs.Path.Accesses.{SaysOperands}
use Rattle.global_law.proofs.Path.Walks.{IsNoBlock}
use Rattle.lowering_law.specs.Numbers.{IsNumeric, number}
use Rattle.lowering_law.specs.Says.{Says}
use Rattle.lowering_law.proofs.Functions.{negated_word}
use Rattle.lowering_law.proofs.Operands.{literal_number}
use Rattle.lowering_law.proofs.Saying.{on_operand, says_binary}
use Rattle.function_law.proofs.Selectors.{word_value}
use Rattle.typed_law.specs.Conforms.{IsConforming, IsConformingIn}
use Rattle.typed_law.proofs.Lists.{or_left, or_right, and_off}
use Rattle.typed_law.proofs.Operations.{four_off}
use Rattle.typed_law.proofs.Others.{target_of}
use Rattle.typed_law.proofs.Rules.{number_right, access_right}
use Rattle.typed_law.proofs.Shapes.{row_of_shape, shaped_type}
use Rattle.typed_law.proofs.Values.{IsRow, HasType, inside, one_type, own_shape}
use Rattle.grammar_law.proofs.Ruled.Ruled.{contains_of}
use Rattle.claim_law.specs.Claimed.{IsIn}
use Rattle.grammar_law.proofs.Unit.ResultShapes.{reads_first, reads_fourth, has_operand, stores, IsReadAt, first_read, fourth_read, swap_read, typed_read, points_by}
use Rattle.grammar_law.proofs.Unit.ResultShapes as results
use Rattle.grammar_law.proofs.Unit.Steps.{at_index}
use Rattle.grammar_law.proofs.Unit.Ways.{HaveKinds, plan_is}
use Rattle.grammar_law.proofs.Meets.PlaceMeets.{atomic_typed, pointer_of, content_of}
use Rattle.grammar_law.specs.Formed.{IsFormedFunction}
use Rattle.text_law.proofs.Naming.Keys.{S, key, names}
use Rattle.text_law.proofs.Written.Shapes.{shape_of_value}
use Rattle.text_law.proofs.Insts.Asks.{LeftBy}
use Rattle.text_law.proofs.Insts.Accessed.{Points, Operands, atomic_left}
use Rattle.text_law.proofs.Steps.Stores.{WaysHere, SayOperandsHere}
use Rattle.text_law.proofs.Insts.KindSteps.{same_atomic}

atomic_in : (g : OpGroup) (a : AtomicOp) → kind_in g ≡ kind.Atomic a → g ≡ groups.Atomic a
atomic_in (groups.Atomic b) a e = ap groups.Atomic (same_atomic b a e)
atomic_in g a e = cc

pub atomic_group : (o : Op) (a : AtomicOp) → kind_of o ≡ kind.Atomic a → group_of o ≡ groups.Atomic a
unfolding kind_of
atomic_group o a e = atomic_in (group_of o) a e

abbrev is_atomic_group : OpGroup → Bool
is_atomic_group (groups.Atomic a) = true
is_atomic_group _ = false

group_atomic : (o : Op) → is_atomic o ≡ is_atomic_group (group_of o)
unfolding group_of
group_atomic code.AtomicLoad = refl
group_atomic o = refl

-- the sign that the number may not have
abbrev other_sign : AtomicOp → ℕ → Bool
other_sign atomics.SMin n = n == 0
other_sign atomics.SMax n = n == 0
other_sign atomics.UMin n = not (n == 0)
other_sign atomics.UMax n = not (n == 0)
other_sign _ n = false

abbrev sign_in : OpGroup → ℕ → Bool
sign_in (groups.Atomic a) n = other_sign a n
sign_in _ n = false

sign_by : (o : Op) (n : ℕ) → is_of_other_sign o n ≡ sign_in (group_of o) n
unfolding group_of
sign_by code.AtomicSMin n = refl
sign_by o n = refl

-- the number: without a sign where its word for that is 0
abbrev elem_by : Bool → Elem
elem_by true = elem.Uint
elem_by false = elem.Int

abbrev tree_by : Bool → Tree
tree_by true = plain.uint
tree_by false = plain.int

numeric : (z : Bool) → IsNumeric (elem_by z)
numeric true = tt
numeric false = tt

number_sized : (z : Bool) → IsSized (tree_by z)
number_sized true = tt
number_sized false = tt

number_elem : (z : Bool) → elem_of (tree_by z) ≡ Some (elem_by z)
number_elem true = refl
number_elem false = refl

number_shape : (s : Setting) (y : StructNames) (z : Bool) → shape_in s y (tree_by z) ≡ scalar (elem_by z)
number_shape s y true = refl
number_shape s y false = refl

int_is_number : (width sign : ℕ) (t : Tree) → int_tree width sign ≡ Some t → t ≡ tree_by (sign == 0)
int_is_number width sign t is = by_tests (width == 32) (sign == 0) (sign == 1) is
  where
    by_tests : (w a b : Bool) → (if w then (if a then Some plain.uint else (if b then Some plain.int else None)) else None) ≡ Some t → t ≡ tree_by a
    by_tests true true b is = sym (same_Some plain.uint t is)
    by_tests true false true is = sym (same_Some plain.int t is)
    by_tests true false false is = cc
    by_tests false a b is = cc

-- the function of the text that is called
abbrev function_of : AtomicOp → AtomicFunction
function_of atomics.Load = expressions.add
function_of atomics.Store = expressions.exchange
function_of atomics.Exchange = expressions.exchange
function_of atomics.CompareExchange = expressions.compare_swap
function_of atomics.IIncrement = expressions.add
function_of atomics.IDecrement = expressions.add
function_of atomics.IAdd = expressions.add
function_of atomics.ISub = expressions.add
function_of atomics.SMin = expressions.minimum
function_of atomics.UMin = expressions.minimum
function_of atomics.SMax = expressions.maximum
function_of atomics.UMax = expressions.maximum
function_of atomics.And = expressions.conjunction
function_of atomics.Or = expressions.disjunction
function_of atomics.Xor = expressions.difference

named_so : (a : AtomicOp) → atomic_or (atomic_name a) (atomic_function (atomic_name a)) ≡ expressions.atomic (function_of a)
named_so atomics.Load = refl
named_so a = refl

operation_so : (a : AtomicOp) (n : ℕ) (z : Bool) → (n == 0) ≡ z → other_sign a n ≡ false → expressions.atomic_operation (function_of a) (scalar (elem_by z)) ≡ atomic_operation a
operation_so atomics.SMin n true zero other = cc
operation_so atomics.SMin n false zero other = refl
operation_so atomics.SMax n true zero other = cc
operation_so atomics.SMax n false zero other = refl
operation_so atomics.UMin n true zero other = refl
operation_so atomics.UMin n false zero other = let never : true ≡ false = sym (ap not zero) ∙ other in cc
operation_so atomics.UMax n true zero other = refl
operation_so atomics.UMax n false zero other = let never : true ≡ false = sym (ap not zero) ∙ other in cc
operation_so a n z zero other = refl

-- operands of the place's type
one_word : (f : AtomicFunction) (z : Bool) (n : ℕ) → operand_count f ≡ 1 → operand_words f (scalar (elem_by z)) (number (elem_by z) n ∷ []) ≡ Some (n ∷ [])
one_word f true n count = ap (λ (k : ℕ). if_count k (n ∷ [])) count
one_word f false n count = ap (λ (k : ℕ). if_count k (n ∷ [])) count

two_words : (z : Bool) (n k : ℕ) → operand_words expressions.compare_swap (scalar (elem_by z)) (number (elem_by z) n ∷ number (elem_by z) k ∷ []) ≡ Some (n ∷ k ∷ [])
two_words true n k = refl
two_words false n k = refl

-- the words of ids
one_of_ids : (f : ℕ → Option ℕ) (a : ℕ) (ws : List ℕ) → each_one f (a ∷ []) ≡ Some ws → (w : ℕ) × (f a ≡ Some w) × (w ∷ [] ≡ ws)
one_of_ids f a ws is = by_word (f a) refl is
  where
    by_word : (x : Option ℕ) → f a ≡ x → before x (Some []) ≡ Some ws → (w : ℕ) × (f a ≡ Some w) × (w ∷ [] ≡ ws)
    by_word None at is = cc
    by_word (Some w) at is = (w, at, same_Some (w ∷ []) ws is)

two_of_ids : (f : ℕ → Option ℕ) (a b : ℕ) (ws : List ℕ) → each_one f (a ∷ b ∷ []) ≡ Some ws → (v w : ℕ) × (f a ≡ Some v) × (f b ≡ Some w) × (v ∷ w ∷ [] ≡ ws)
two_of_ids f a b ws is = by_words (f a) (f b) refl refl is
  where
    by_words : (x y : Option ℕ) → f a ≡ x → f b ≡ y → before x (before y (Some [])) ≡ Some ws → (v w : ℕ) × (f a ≡ Some v) × (f b ≡ Some w) × (v ∷ w ∷ [] ≡ ws)
    by_words None y at_a at_b is = cc
    by_words (Some v) None at_a at_b is = cc
    by_words (Some v) (Some w) at_a at_b is = (v, w, at_a, at_b, same_Some (v ∷ w ∷ []) ws is)

minus : (z : Bool) (n : ℕ) → operated Sub (number (elem_by z) 0) (number (elem_by z) n) ≡ Some (number (elem_by z) (unary_word SNegate n))
minus true n = ap (λ (k : ℕ). Some (number elem.Uint k)) (negated_word n)
minus false n = ap (λ (k : ℕ). Some (number elem.Int k)) (negated_word n)

stores_off : (a : AtomicOp) → has_result a ≡ true → stores a ≡ false
stores_off atomics.Store on = cc
stores_off a on = refl

built_in : (p : Program) (w : Text) (f : AtomicFunction) → p.is_function w ≡ false → atomic_or w (atomic_function w) ≡ expressions.atomic f → call_kind p w ≡ expressions.atomic f
built_in p w f off is = ap (λ (b : Bool). elim b as (λ b. CallKind) [ true ↦ user | false ↦ atomic_or w (atomic_function w) ]) off ∙ is

module _ (m : ModuleState) (opts : Options) (right : IsConforming m opts.entry) (kinds : HaveKinds m.globals) (unit : TranslationUnit) (u : IsUnitOf m opts unit) (inv : Invocation) (p : FunctionPlan) (among : IsIn p u.plans) (lends : LendsWhole (S m opts unit u inv)) (is_one : IsFunctionOf (written p) m.functions)
    (program : Program) (calls : Text → List Argument → State → Result (Option Typed × State)) (k : ℕ) (apart : AreApart (names m opts unit u inv p)) (Holds : Conf → Type 0) (keeps : IsKept (machine (S m opts unit u inv)) Holds) (form : IsFormedFunction (written p))
    (globals : ℕ → Option Expr) (setting_is : writing (S m opts unit u inv) opts.overrides (written p) (key m opts unit u inv) globals ≡ p.scope.setting) (constants : AreConstants (S m opts unit u inv)) (rules : ChainsAreRight (S m opts unit u inv)) (led : (c : Conf) → Holds c → AreLed (S m opts unit u inv) c.below c.top)
    (steps_typed : (j : Inst) → IsOf j (insts_of (written p)) → IsTyped (S m opts unit u inv) (written p) j (step_kind j.op)) (b : ℕ) (o : Body (written p) b) (done : List Inst) (i : Inst) (rest : List Inst) (IsUsable : ℕ → Type 0) (there : IsAmong i (insts_of (written p))) where
  abbrev s : Setting
  s = S m opts unit u inv

  abbrev N : Naming
  N = names m opts unit u inv p

  abbrev f : Function
  f = written p

  abbrev Gs : List Inst
  Gs = m.globals

  abbrev T : ℕ → Option ℕ
  T = type_in m.globals f

  abbrev Y : StructNames
  Y = struct_names (key m opts unit u inv)

  abbrev W : Scope
  W = p.scope

  abbrev Rest : List Inst
  Rest = rest ++ o.last ∷ []

  in_module : Contains m.functions f
  in_module = contains_of m.functions f is_one

  in_it : IsConformingIn m f
  in_it = inside s opts.entry right f in_module

  abbrev buffer : Bool
  buffer = is_through m.heads Gs f BufferBlock (word i 0)

  -- T25, A3: what it is on
  module _ (a : AtomicOp) (e : kind_of i.op ≡ kind.Atomic a) where
    group : group_of i.op ≡ groups.Atomic a
    group = atomic_group i.op a e

    told : breaks_t25 Gs T i a ≡ false
    told = ap (is_number_broken Gs T i) (sym group) ∙ number_right m opts.entry right f in_module i there

    first : IsReadAt i.op i.args 0
    first = first_read i.op i.args (ap reads_first group)

    typed_first : HasType s opts.entry right f in_module (word i 0)
    typed_first = typed_read s opts.entry right f in_module i there 0 first

    target : (q : ℕ) × (t : Tree) × (pointee_of Gs f (word i 0) ≡ Some q) × (type_tree Gs q ≡ Some t)
    target = target_of s opts.entry right f in_module (word i 0) typed_first (pointer_of Gs T i a told)

    row : IsRow s opts.entry right target.0
    row = row_of_shape s opts.entry right f in_module target.0 target.1 target.3

    number_told : option_map_or (is_other_number i.op) (global Gs target.0) false ≡ false
    number_told = by_pointer (pointer_row Gs typed_first.0) (ap (option_and_then (pointee Gs)) (sym typed_first.1) ∙ target.2) (ap (λ (x : Option ℕ). option_map_or (leads_elsewhere Gs i.op buffer) x false) (sym typed_first.1) ∙ accessed)
      where
        atomic_on : is_atomic i.op ≡ true
        atomic_on = group_atomic i.op ∙ ap is_atomic_group group

        accessed : option_map_or (leads_elsewhere Gs i.op buffer) (T (word i 0)) false ≡ false
        accessed = and_off (is_atomic i.op) (option_map_or (leads_elsewhere Gs i.op buffer) (T (word i 0)) false) (access_right m opts.entry right f in_module i there) atomic_on

        by_pointer : (x : Option Inst) → option_map (λ (g : Inst). word g 1) x ≡ Some target.0 → option_map_or (is_other_place Gs i.op buffer) x false ≡ false → option_map_or (is_other_number i.op) (global Gs target.0) false ≡ false
        by_pointer None to off = cc
        by_pointer (Some g) to off =
            ap (λ (n : ℕ). option_map_or (is_other_number i.op) (global Gs n) false) (sym (same_Some (word g 1) target.0 to))
            ∙ or_right (not (is_shared_class buffer (word g 0))) (option_map_or (is_other_number i.op) (global Gs (word g 1)) false) off

    number_is : (not (is row.0.op code.TypeInt) || is_of_other_sign i.op (word row.0 1)) ≡ false
    number_is = ap (λ (x : Option Inst). option_map_or (is_other_number i.op) x false) (sym row.1) ∙ number_told

    abbrev z : Bool
    z = word row.0 1 == 0

    tree_is : target.1 ≡ tree_by z
    tree_is =
        int_is_number (word row.0 0) (word row.0 1) target.1
        (by_kind Gs (tree_before Gs row.0.at) row.0 Int target.1 (int_kind row.0.op (not-false (is row.0.op code.TypeInt) (or_left (not (is row.0.op code.TypeInt)) (is_of_other_sign i.op (word row.0 1)) number_is)))
        (sym (ap (λ (x : Option Inst). option_map_or (tree_at Gs) x None) row.1) ∙ target.3))

    sign_is : other_sign a (word row.0 1) ≡ false
    sign_is = ap (λ (g : OpGroup). sign_in g (word row.0 1)) (sym group) ∙ (sym (sign_by i.op (word row.0 1)) ∙ or_right (not (is row.0.op code.TypeInt)) (is_of_other_sign i.op (word row.0 1)) number_is)

    shape_is : shape_in s Y target.1 ≡ scalar (elem_by z)
    shape_is = ap (shape_in s Y) tree_is ∙ number_shape s Y z

    -- where its pointer leads
    abbrev NoBlock : Supplied Conf → State → Tree → Type 0
    NoBlock c y t = IsNoBlock program calls y s opts.overrides f (key m opts unit u inv) globals constants c.at [] [] (own 0) t

    number_no_block : (c : Supplied Conf) (y : State) (x : Bool) → NoBlock c y (tree_by x)
    number_no_block c y true = tt
    number_no_block c y false = tt

    points : Points m opts right kinds unit u inv p among lends is_one program calls k apart Holds keeps form globals setting_is constants rules led steps_typed b o done i rest IsUsable target.1
    points c y stands = record {
      type = target.0;
      points_to = target.2;
      typed_as = target.3;
      sized = subst IsSized (sym tree_is) (number_sized z);
      no_block = subst (NoBlock c y) (sym tree_is) (number_no_block c y z);
    }

    -- and its result is of that type
    result_shape : has_result a ≡ true → N.shape i.result ≡ shape_in s Y target.1
    result_shape on =
        let off = stores_off a on in
        let has : has_type i.op ≡ true = atomic_typed i.op a group off in
        let result = results.row s opts.entry right f in_module i there has in
        let same : target.0 ≡ i.ty =
        one_type s opts.entry right f in_module target.0 i.ty row result (ap (λ (x : Option ℕ). option_map_or (λ (y : ℕ). differ Gs y i.ty) x false) (sym target.2) ∙ or_right (value_fails is_pointer Gs T (word i 0)) (option_map_or (λ (y : ℕ). differ Gs y i.ty) (pointee_of Gs f (word i 0)) false) (points_by Gs T i a off told)) in
        shape_of_value m opts unit u inv p i.result target.1 (own_shape s opts.entry right f in_module i there target.1 (ap (type_tree Gs) (sym same) ∙ target.3))

    -- what its operands are
    content_shape : (j : ℕ) (r : IsReadAt i.op i.args j) → is_no_content Gs T (word i 0) (word i j) ≡ false → value_shape s f (arg i j) ≡ Some target.1
    content_shape j r off =
        let other = or_right (value_fails is_pointer Gs T (word i 0)) (option_map_or (λ (x : ℕ). is_other Gs T x (word i j)) (pointee_of Gs f (word i 0)) false) off in
        shaped_type s opts.entry right f in_module target.0 (word i j) target.1 target.3 (typed_read s opts.entry right f in_module i there j r) (ap (λ (x : Option ℕ). option_map_or (λ (y : ℕ). is_other Gs T y (word i j)) x false) (sym target.2) ∙ other)

  module _ (none : (a : AtomicOp) → program.is_function (atomic_name a) ≡ false)
      (says : SayOperandsHere m opts right kinds unit u inv p among lends is_one program calls k apart Holds keeps form globals setting_is constants rules led steps_typed b o done i rest IsUsable there)
      (ways : WaysHere m opts right kinds unit u inv p among lends is_one program calls k apart Holds keeps form globals setting_is constants rules led steps_typed b o done i rest IsUsable there) (usable : IsUsable (arg i 0)) where
    module _ (a : AtomicOp) (e : kind_of i.op ≡ kind.Atomic a) (c : Supplied Conf) (y : State) (here : At N s Holds f b done (i ∷ Rest) c y) (g : IsUpdate a s c.at Rest i) where
      abbrev E : Elem
      E = elem_by (z a e)

      abbrev S' : Expr → Typed → Type 0
      S' = Says program calls y

      abbrev Say : Exprs → Type 0
      Say es = SaysOperands program calls k N apart s Holds f b keeps done i Rest opts.overrides (key m opts unit u inv) globals constants c y here.stands a (atomic_name a) es (shape_in s Y (target a e).1) (λ at. updating (atomic_operation a) at g.operands)

      made : (es : Exprs) (vs : List Typed) (ws : List ℕ) → values program calls es y ≡ got [] (vs, y) → operand_words (function_of a) (scalar E) vs ≡ Some ws → ws ≡ g.operands → Say es
      made es vs ws say fit same =
          subst (λ (x : Shape). SaysOperands program calls k N apart s Holds f b keeps done i Rest opts.overrides (key m opts unit u inv) globals constants c y here.stands a (atomic_name a) es x (λ at. updating (atomic_operation a) at g.operands)) (sym (shape_is a e))
          (record {
            function = function_of a;
            kind = built_in program (atomic_name a) (function_of a) (none a) (named_so a);
            operands = vs;
            words = ws;
            say = say;
            fit = fit;
            same = λ at. ap (λ op. updating op at ws) (operation_so a (word (row a e).0 1) (z a e) refl (sign_is a e)) ∙ ap (updating (atomic_operation a) at) same;
          })

      made_one : operand_count (function_of a) ≡ 1 → (x : Expr) (n : ℕ) → S' x (number E n) → n ∷ [] ≡ g.operands → Say (exprs_in (x ∷ []))
      made_one count x n say same = made (expr x no_exprs) (number E n ∷ []) (n ∷ []) (on_operand program calls y x (number E n) _ say) (one_word (function_of a) (z a e) n count) same

      -- a literal of the number's type
      literal_says : (n : ℕ) → S' (word_at_place W i n) (number E n)
      unfolding word_by
      literal_says n = ap (λ (v : Typed). got [] (v, y)) (ap (λ (d : Elem). literal_value (literal_of d n)) elem_is ∙ literal_number E n (numeric (z a e)))
        where
          globals_are : globals_in W ≡ Gs
          globals_are = ap globals_in (plan_is s opts.entry right kinds opts unit u p among).scope_is

          elem_is : scalar_at W (unwrap_or (pointee_of (globals_in W) f (arg i 0)) 0) ≡ E
          elem_is =
              ap (λ (gs : List Inst). unwrap_or (option_and_then elem_of (type_tree gs (unwrap_or (pointee_of gs f (arg i 0)) 0))) elem.Uint) globals_are
              ∙ (ap (λ (x : Option ℕ). unwrap_or (option_and_then elem_of (type_tree Gs (unwrap_or x 0))) elem.Uint) (target a e).2
              ∙ (ap (λ (x : Option Tree). unwrap_or (option_and_then elem_of x) elem.Uint) (target a e).3
              ∙ ap (λ (x : Option Elem). unwrap_or x elem.Uint) (ap elem_of (tree_is a e) ∙ number_elem (z a e))))

      -- an operand
      operand_says : (j : ℕ) (r : IsReadAt i.op i.args j) → is_no_content Gs T (word i 0) (word i j) ≡ false → (n : ℕ) → word_at s c.at.top (arg i j) ≡ Some n → S' (value W b (arg i j)) (number E n)
      operand_says j r off n has =
          says c y here.stands j (arg i j) (at_index i.args j (r.many (length i.args) (in_it.formed i there).least)) r.names_id r.value (holds_word n) (word_value (value_at s c.at.top (arg i j)) n has)
          ∙ ap (λ (x : Shape). got [] (typed x (holds_word n), y)) (shape_of_value m opts unit u inv p (arg i j) (target a e).1 (content_shape a e j r off) ∙ shape_is a e)

      fourth : has_operand a ≡ true → IsReadAt i.op i.args 3
      fourth on = fourth_read i.op i.args (ap reads_fourth (group a e) ∙ on)

      fourth_says : has_operand a ≡ true → (n : ℕ) → word_at s c.at.top (arg i 3) ≡ Some n → S' (value W b (arg i 3)) (number E n)
      fourth_says on n has = operand_says 3 (fourth on) (content_of Gs T i a on (told a e)) n has

      value_made : operand_count (function_of a) ≡ 1 → has_operand a ≡ true → words_at s c.at.top (arg i 3 ∷ []) ≡ Some g.operands → Say (exprs_in (value W b (arg i 3) ∷ []))
      value_made count on are =
          let w = one_of_ids (word_at s c.at.top) (arg i 3) g.operands are in
          made_one count (value W b (arg i 3)) w.0 (fourth_says on w.0 w.1) w.2

      literal_made : operand_count (function_of a) ≡ 1 → (n : ℕ) → Some (n ∷ []) ≡ Some g.operands → Say (exprs_in (word_at_place W i n ∷ []))
      literal_made count n are = made_one count (word_at_place W i n) n (literal_says n) (same_Some (n ∷ []) g.operands are)

    -- what is taken off is negated
    difference_made : (e : kind_of i.op ≡ kind.Atomic atomics.ISub) (c : Supplied Conf) (y : State) (here : At N s Holds f b done (i ∷ Rest) c y) (g : IsUpdate atomics.ISub s c.at Rest i) → Say atomics.ISub e c y here g (exprs_in (binary Sub (word_at_place W i 0) (value W b (arg i 3)) ∷ []))
    difference_made e c y here g =
        by_words (words_at s c.at.top (arg i 3 ∷ [])) refl g.operands_are
      where
        by_words : (x : Option (List ℕ)) → words_at s c.at.top (arg i 3 ∷ []) ≡ x → option_map (map (unary_word SNegate)) x ≡ Some g.operands → Say atomics.ISub e c y here g (exprs_in (binary Sub (word_at_place W i 0) (value W b (arg i 3)) ∷ []))
        by_words None at are = cc
        by_words (Some ws) at are =
            let w = one_of_ids (word_at s c.at.top) (arg i 3) ws at in
            made_one atomics.ISub e c y here g refl (binary Sub (word_at_place W i 0) (value W b (arg i 3))) (unary_word SNegate w.0)
            (says_binary program calls y Sub (word_at_place W i 0) (value W b (arg i 3)) (number (elem_by (z atomics.ISub e)) 0) (number (elem_by (z atomics.ISub e)) w.0) (number (elem_by (z atomics.ISub e)) (unary_word SNegate w.0)) refl
            (literal_says atomics.ISub e c y here g 0) (fourth_says atomics.ISub e c y here g refl w.0 w.1) (minus (z atomics.ISub e) w.0))
            (ap (map (unary_word SNegate)) w.2 ∙ same_Some (map (unary_word SNegate) ws) g.operands are)

    -- the comparator, and the value
    swap_made : (e : kind_of i.op ≡ kind.Atomic atomics.CompareExchange) (c : Supplied Conf) (y : State) (here : At N s Holds f b done (i ∷ Rest) c y) (g : IsUpdate atomics.CompareExchange s c.at Rest i)
        → Say atomics.CompareExchange e c y here g (exprs_in (value W b (arg i 5) ∷ value W b (arg i 4) ∷ []))
    swap_made e c y here g =
        let parts = four_off (points_to_other Gs T (word i 0) i.ty) (has_no_int Gs T (take 3 (drop 1 i.args))) (is_no_content Gs T (word i 0) (word i 4)) (is_no_content Gs T (word i 0) (word i 5)) (told atomics.CompareExchange e) in
        let both = swap_read i.op i.args (group atomics.CompareExchange e) in
        let w = two_of_ids (word_at s c.at.top) (arg i 5) (arg i 4) g.operands g.operands_are in
        let E : Elem = elem_by (z atomics.CompareExchange e) in
        let last = operand_says atomics.CompareExchange e c y here g 4 both.0 parts.2 w.1 w.3 in
        let compared = operand_says atomics.CompareExchange e c y here g 5 both.1 parts.3 w.0 w.2 in
        made atomics.CompareExchange e c y here g (expr (value W b (arg i 5)) (expr (value W b (arg i 4)) no_exprs)) (number E w.0 ∷ number E w.1 ∷ []) (w.0 ∷ w.1 ∷ [])
        (on_operand program calls y (value W b (arg i 5)) (number E w.0) _ compared ∙ ap (λ (q : Result (List Typed × State)). then_get q (λ r. got [] (number E w.0 ∷ r.0, r.1))) (on_operand program calls y (value W b (arg i 4)) (number E w.1) _ last))
        (two_words (z atomics.CompareExchange e) w.0 w.1) w.4

    all_say : (a : AtomicOp) (e : kind_of i.op ≡ kind.Atomic a) → Operands m opts right kinds unit u inv p among lends is_one program calls k apart Holds keeps form globals setting_is constants rules led steps_typed b o done i rest IsUsable ways (target a e).1 (points a e) usable a
    all_say atomics.Load e c y here g = literal_made atomics.Load e c y here g refl 0 g.operands_are
    all_say atomics.IIncrement e c y here g = literal_made atomics.IIncrement e c y here g refl 1 g.operands_are
    all_say atomics.IDecrement e c y here g = literal_made atomics.IDecrement e c y here g refl 0xFFFFFFFF g.operands_are
    all_say atomics.ISub e c y here g = difference_made e c y here g
    all_say atomics.CompareExchange e c y here g = swap_made e c y here g
    all_say atomics.Store e c y here g = value_made atomics.Store e c y here g refl refl g.operands_are
    all_say atomics.Exchange e c y here g = value_made atomics.Exchange e c y here g refl refl g.operands_are
    all_say atomics.IAdd e c y here g = value_made atomics.IAdd e c y here g refl refl g.operands_are
    all_say atomics.SMin e c y here g = value_made atomics.SMin e c y here g refl refl g.operands_are
    all_say atomics.UMin e c y here g = value_made atomics.UMin e c y here g refl refl g.operands_are
    all_say atomics.SMax e c y here g = value_made atomics.SMax e c y here g refl refl g.operands_are
    all_say atomics.UMax e c y here g = value_made atomics.UMax e c y here g refl refl g.operands_are
    all_say atomics.And e c y here g = value_made atomics.And e c y here g refl refl g.operands_are
    all_say atomics.Or e c y here g = value_made atomics.Or e c y here g refl refl g.operands_are
    all_say atomics.Xor e c y here g = value_made atomics.Xor e c y here g refl refl g.operands_are

    -- the law
    pub atomic_is_left : (a : AtomicOp) → kind_of i.op ≡ kind.Atomic a → LeftBy m opts right kinds unit u inv p among lends is_one program calls k apart Holds keeps form b o done i rest (kind.Atomic a)
    atomic_is_left a e =
        atomic_left m opts right kinds unit u inv p among lends is_one program calls k apart Holds keeps form globals setting_is constants rules led steps_typed b o done i rest IsUsable ways (target a e).1 (points a e) usable a (result_shape a e) (all_say a e)
