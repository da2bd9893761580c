-- What loads, stores, atomic instructions and lengths ask for: the places that they name are written of declared words, their values are values of the block.
use Rattle.std.proofs.Common.{◌≡◌, ◌+◌, ◌&&◌, ◌||◌, not, ℕ, Bool, true, false, List, length, drop, take, Contains, Option, Some, refl, sym, ap, ◌∙◌, subst, arith, unwrap_or, if◌then◌else◌}
use Rattle.std.specs.Prelude.{nat_lt, slice_get, slice_index, slice_index_or}
use Rattle.std.specs.Option.{option_map_or}
use Rattle.std.proofs.lemmas.Bool.{and_from}
use Rattle.spv_ops.specs.Opcode.{is, number}
use Rattle.spv_ops.specs.OpGroups.{group_of}
use Rattle.spv_ops.specs.Operands.{is_id}
use Rattle.spv_ops.specs.Shape.{shape}
use Rattle.spv_ops.specs.declared.Op.{Op}
use Rattle.spv_ops.specs.declared.Op.TheVariants as code
use Rattle.spv_ops.specs.declared.OpGroup.TheVariants as groups
use Rattle.spv_ops.specs.declared.AtomicOp.{AtomicOp}
use Rattle.spv_ops.specs.declared.AtomicOp.TheVariants as atomic
use Rattle.spv_module.specs.Inst.{has_type, has_result}
use Rattle.spv_module.specs.declared.inst.Inst.{Inst}
use Rattle.spv_module.specs.declared.inst.Block.{Block}
use Rattle.spv_module.specs.declared.inst.Function.{Function}
use Rattle.spv_module.specs.declared.tree.Elem.{Elem}
use Rattle.spv_module.specs.declared.tree.Elem.TheVariants as elem
use Rattle.spv_module.specs.declared.tree.Length.{Length}
use Rattle.spv_types.specs.Tree.{Tree}
use Rattle.spv_types.specs.Types.{type_tree}
use Rattle.spv_decor.specs.Rows.{word}
use Rattle.spv_index.specs.Locals.{insts_of, type_in}
use Rattle.spv_index.specs.Pointers.{pointee_of}
use Rattle.spv_index.specs.ValueTypes.{is_no_value_type}
use Rattle.profile_rules.specs.TypeRows.{is_pointer, differ, value_fails, is_other}
use Rattle.profile_rules.specs.NumberRules.{points_to_other, is_no_content, has_no_int, breaks_t25_load}
use Rattle.profile_rules.specs.TypeRules.{breaks_t25, is_value_broken, is_number_broken}
use Rattle.conformance.specs.Rules.{Options}
use Rattle.list_law.proofs.Lists.{index_get}
use Rattle.plan_law.specs.InOrder.{IsAmong}
use Rattle.module_semantics.specs.Setting.{Setting}
use Rattle.use_chains.specs.Slots.{inst_at, is_value, is_taken, is_label_reached, IsLive}
use Rattle.hoist_plan.specs.declared.form.Form.{Form}
use Rattle.name_alloc.specs.Naming.{name_of}
use Rattle.glsl_ast.specs.Tree.{TranslationUnit}
use Rattle.glsl_ast.specs.declared.expressions.Literal.TheVariants as literal
use Rattle.glsl_grammar.specs.Read.{is_declared}
use Rattle.glsl_grammar.specs.Spelled.{FitsWord, IsSpelledLiteral}
use Rattle.int_lowering.specs.Operand.{literal_of}
use Rattle.text_rules.specs.Printed.{is_written_struct}
use Rattle.text_rules.specs.Declarations.{length_extent}
use Rattle.expr_forward.specs.Scope.{Scope, globals}
use Rattle.expr_forward.specs.Statements.{word_by, word_at_place, scalar_at}
use Rattle.expr_forward.specs.declared.kinds.InstKind.TheVariants as kind
use Rattle.function_text.specs.Functions.{FunctionPlan}
use Rattle.unit_rules.specs.Translation.{Naming, id_text}
use Rattle.unit_rules.specs.Unit.{source_of, IsUnitOf}
use Rattle.fits_law.specs.State.{value_shape}
use Rattle.claim_law.specs.Uses.{Words, UsesExpr, UsesExtent}
use Rattle.claim_law.specs.Statements.{AsksSet, AsksOperand, MeetsInst}
use Rattle.typed_law.specs.Conforms.{IsConforming}
use Rattle.typed_law.proofs.Lists.{or_left, or_right}
use Rattle.typed_law.proofs.Rules.{value_right, number_right}
use Rattle.typed_law.proofs.Values.{inside, typed_result}
use Rattle.typed_law.proofs.Shapes.{shaped_type}
use Rattle.typed_law.proofs.Operations.{four_off}
use Rattle.typed_law.proofs.Others.{target_of, typed_some, as_store}
use Rattle.claim_law.specs.Claimed.{IsIn}
use Rattle.claim_law.proofs.Claim.Listed.{in_flat, at_place}
use Rattle.grammar_law.specs.Mentioned.{IsMentioned, IsValueIn}
use Rattle.grammar_law.specs.Words.{words_of, AreOfStructs}
use Rattle.grammar_law.specs.Types.{IsLengthOf}
use Rattle.grammar_law.proofs.Unit.Lists.{as_among}
use Rattle.grammar_law.proofs.Unit.Forms.{unmade_gone}
use Rattle.grammar_law.proofs.Unit.Ways.{HaveKinds, F, R, V, plan_is, in_module}
use Rattle.grammar_law.proofs.Unit.Words.{atomic_value}
use Rattle.grammar_law.proofs.Unit.Structs.{Written}
use Rattle.grammar_law.proofs.Unit.Chains.{HasWay, place_uses}
use Rattle.grammar_law.proofs.Unit.Sets.{set_asked}
use Rattle.grammar_law.proofs.Unit.Kept.{store_meets}
use Rattle.grammar_law.proofs.Unit.Composed.{operand_value}
use Rattle.grammar_law.proofs.Unit.ResultShapes.{reads_first, reads_second, reads_fourth, IsReadAt, first_read, second_read, fourth_read, swap_read, has_operand, stores, makes, typed_read, made_shaped}

-- a literal of a word
literal_fits : (e : Elem) (n : ℕ) → FitsWord n → IsSpelledLiteral (literal_of e n)
literal_fits elem.Bool n fits = tt
literal_fits elem.Uint n fits = fits
literal_fits elem.Int n fits = by_sign (nat_lt n 2147483648)
  where
    by_sign : (b : Bool) → IsSpelledLiteral (if b then literal.Int n else literal.Hex n)
    by_sign true = fits
    by_sign false = fits

word_uses : (W : Words) (w : Scope) (pointer n : ℕ) → FitsWord n → UsesExpr W (word_by w pointer n)
unfolding word_by
word_uses W w pointer n fits = literal_fits (scalar_at w (unwrap_or (pointee_of (globals w) w.setting.function pointer) 0)) n fits

load_groups : (o : Op) → is o code.Load ≡ true → group_of o ≡ groups.Load
unfolding number group_of
load_groups code.Load on = refl
load_groups o on = cc

store_group : (o : Op) → is o code.Store ≡ true → group_of o ≡ groups.Store
unfolding number group_of
store_group code.Store on = refl
store_group o on = cc

load_typed : (o : Op) → is o code.Load ≡ true → has_type o ≡ true
unfolding number shape
load_typed code.Load on = refl
load_typed o on = cc

-- an atomic instruction with a result has a type
pub atomic_typed : (o : Op) (a : AtomicOp) → group_of o ≡ groups.Atomic a → stores a ≡ false → has_type o ≡ true
unfolding group_of shape
atomic_typed code.AtomicStore a is_it off = cc
atomic_typed o a is_it off = cc

-- one without has none
store_unmade : (o : Op) (a : AtomicOp) → group_of o ≡ groups.Atomic a → stores a ≡ true → has_result o ≡ false
unfolding group_of shape
store_unmade code.AtomicStore a is_it on = refl
store_unmade o a is_it on = cc

-- T25: the operand is of the type to which the pointer leads
pub content_of : (gs : List Inst) (t : ℕ → Option ℕ) (i : Inst) (a : AtomicOp) → has_operand a ≡ true → breaks_t25 gs t i a ≡ false → is_no_content gs t (word i 0) (word i 3) ≡ false
content_of gs t i atomic.Load on off = cc
content_of gs t i atomic.IIncrement on off = cc
content_of gs t i atomic.IDecrement on off = cc
content_of gs t i atomic.CompareExchange on off = cc
content_of gs t i atomic.Store on off = or_left (is_no_content gs t (word i 0) (word i 3)) (has_no_int gs t (take 2 (drop 1 i.args))) off
content_of gs t i a on off = or_right (breaks_t25_load gs t i) (is_no_content gs t (word i 0) (word i 3)) off

-- the pointer is one
pub pointer_of : (gs : List Inst) (t : ℕ → Option ℕ) (i : Inst) (a : AtomicOp) → breaks_t25 gs t i a ≡ false → value_fails is_pointer gs t (word i 0) ≡ false
pointer_of gs t i atomic.Load off = or_left (value_fails is_pointer gs t (word i 0)) _ (or_left (points_to_other gs t (word i 0) i.ty) (has_no_int gs t (take 2 (drop 1 i.args))) off)
pointer_of gs t i atomic.IIncrement off = or_left (value_fails is_pointer gs t (word i 0)) _ (or_left (points_to_other gs t (word i 0) i.ty) (has_no_int gs t (take 2 (drop 1 i.args))) off)
pointer_of gs t i atomic.IDecrement off = or_left (value_fails is_pointer gs t (word i 0)) _ (or_left (points_to_other gs t (word i 0) i.ty) (has_no_int gs t (take 2 (drop 1 i.args))) off)
pointer_of gs t i atomic.CompareExchange off = or_left (value_fails is_pointer gs t (word i 0)) _ (four_off (points_to_other gs t (word i 0) i.ty) (has_no_int gs t (take 3 (drop 1 i.args))) (is_no_content gs t (word i 0) (word i 4)) (is_no_content gs t (word i 0) (word i 5)) off).0
pointer_of gs t i atomic.Store off = or_left (value_fails is_pointer gs t (word i 0)) _ (or_left (is_no_content gs t (word i 0) (word i 3)) (has_no_int gs t (take 2 (drop 1 i.args))) off)
pointer_of gs t i a off = or_left (value_fails is_pointer gs t (word i 0)) _ (or_left (points_to_other gs t (word i 0) i.ty) (has_no_int gs t (take 2 (drop 1 i.args))) (or_left (breaks_t25_load gs t i) (is_no_content gs t (word i 0) (word i 3)) off))

module _ (s : Setting) (entry : Option (List ℕ)) (right : IsConforming s.of entry) (kinds : HaveKinds s.of.globals) (o : Options) (unit : TranslationUnit) (u : IsUnitOf s.of o unit) (p : FunctionPlan) (among : IsIn p u.plans) (names : List (List ℕ)) (structs : AreOfStructs s.of.globals (name_of u.claimed) names) where
  abbrev Gs : List Inst
  Gs = s.of.globals

  abbrev Found : Naming
  Found = name_of u.claimed

  abbrev Fn : Function
  Fn = F s entry right kinds o unit u p among

  abbrev Marks : List Bool
  Marks = R s entry right kinds o unit u p among

  abbrev Where : Scope
  Where = V s entry right kinds o unit u p among

  abbrev T : ℕ → Option ℕ
  T = type_in s.of.globals Fn

  abbrev W : Words
  W = words_of s.of.globals (name_of u.claimed) names

  abbrev pub Way : ℕ → ℕ → Type 0
  Way = HasWay s entry right Fn o unit u names Where.setting.global

  in_it : Contains s.of.functions Fn
  in_it = in_module s entry right kinds o unit u p among

  module _ (block place : ℕ) (holder : Block) (i : Inst) (there : slice_get Fn.blocks block ≡ Some holder) (inside_it : IsIn i holder.insts) (at : inst_at Fn block place ≡ Some i) (here : slice_index_or Marks block false ≡ true) (live : IsLive Fn Marks block place) where
    pub stands : IsAmong i (insts_of Fn)
    stands = as_among (insts_of Fn) i (in_flat (λ (b : Block). b.insts) Fn.blocks holder i (at_place Fn.blocks block holder there) inside_it)

    -- an operand that it mentions
    pub read_arg : (k : ℕ) → IsReadAt i.op i.args k → slice_get i.args k ≡ Some (slice_index i.args k)
    read_arg k r = index_get i.args k (r.many (length i.args) ((inside s entry right Fn in_it).formed i stands).least)

    pub read_mention : (k : ℕ) → IsReadAt i.op i.args k → IsMentioned Fn Marks block i (slice_index i.args k)
    read_mention k r = record {
      place = place;
      arg = k;
      there = at;
      here = here;
      live = live;
      slot = and_from (is_id i.op i.args k) (is_value i.op k && is_taken Fn Marks i k) r.names_id
          (and_from (is_value i.op k) (is_taken Fn Marks i k) r.value (ap (λ (b : Bool). not b || is_label_reached Fn Marks (slice_index i.args (k + 1))) r.no_phi));
      word = read_arg k r;
    }

    -- a value that is read, where it has a shape
    pub read_value : (k : ℕ) (t : Tree) → IsReadAt i.op i.args k → value_shape s Fn (slice_index i.args k) ≡ Some t → IsValueIn Where Marks block (slice_index i.args k)
    read_value k t r shaped = operand_value s entry right kinds o unit u p among names structs block place i at here live k (slice_index i.args k) t r.names_id r.value r.no_phi (read_arg k r) shaped

    module _ (pointer : (b n : ℕ) (j : Inst) → IsMentioned Fn Marks b j n → is j.op code.Phi ≡ false → (ty : ℕ) (t : Tree) → pointee_of Gs Fn n ≡ Some ty → type_tree Gs ty ≡ Some t → Way b n)
        (declared : (g : Inst) → IsIn g s.of.globals → is_written_struct (source_of s.of o u.entry) (Written s.of o unit u) g ≡ true → is_declared names (id_text (name_of u.claimed) g.result) ≡ true)
        (lengths : (l : Length) → IsLengthOf s.of.globals l → UsesExtent (words_of s.of.globals (name_of u.claimed) names) (length_extent (source_of s.of o u.entry) (id_text (name_of u.claimed)) l)) where
      abbrev Usable : ℕ → Type 0
      Usable = IsValueIn Where Marks block

      -- the pointer that is its first operand
      pub first_way : IsReadAt i.op i.args 0 → value_fails is_pointer Gs T (word i 0) ≡ false → Way block (slice_index i.args 0)
      first_way r off =
          let q = target_of s entry right Fn in_it (word i 0) (typed_read s entry right Fn in_it i stands 0 r) off in
          pointer block (slice_index i.args 0) i (read_mention 0 r) r.no_phi q.0 q.1 q.2 q.3

      -- what an instruction of a value of shape gets
      pub result_set : (t : Tree) → has_type i.op ≡ true → has_result i.op ≡ true → type_tree Gs i.ty ≡ Some t → (x : Form) → Where.form i.result ≡ x → AsksSet W Found Where Usable block i x
      result_set t has makes shaped x is_it =
          set_asked s entry right kinds o unit u p among names structs block holder i there inside_it (((inside s entry right Fn in_it).formed i stands).result makes) here (typed_some s entry right Fn in_it i stands has) t shaped declared lengths x is_it

      -- the places that a load, a store and an atomic instruction name
      pub load_way : is i.op code.Load ≡ true → Way block (slice_index i.args 0)
      load_way on =
          let group = load_groups i.op on in
          let off = ap (is_value_broken s.of T i) (sym group) ∙ value_right s.of entry right Fn in_it i stands in
          first_way (first_read i.op i.args (ap reads_first group)) (or_left (value_fails is_pointer Gs T (word i 0)) (option_map_or (λ q. differ Gs q i.ty) (pointee_of Gs Fn (word i 0)) false) (or_right (is_no_value_type s.of.heads Gs i.ty) (points_to_other Gs T (word i 0) i.ty) off))

      store_right : is i.op code.Store ≡ true → is_value_broken s.of T i groups.Store ≡ false
      store_right on = ap (is_value_broken s.of T i) (sym (store_group i.op on)) ∙ value_right s.of entry right Fn in_it i stands

      pub store_way : is i.op code.Store ≡ true → Way block (slice_index i.args 0)
      store_way on =
          let content = or_right (option_map_or (is_no_value_type s.of.heads Gs) (pointee_of Gs Fn (word i 0)) false) (is_no_content Gs T (word i 0) (word i 1)) (store_right on) in
          first_way (first_read i.op i.args (ap reads_first (store_group i.op on))) (or_left (value_fails is_pointer Gs T (word i 0)) (option_map_or (λ q. is_other Gs T q (word i 1)) (pointee_of Gs Fn (word i 0)) false) content)

      atomic_right : (a : AtomicOp) → group_of i.op ≡ groups.Atomic a → breaks_t25 Gs T i a ≡ false
      atomic_right a group = ap (is_number_broken Gs T i) (sym group) ∙ number_right s.of entry right Fn in_it i stands

      pub atomic_way : (a : AtomicOp) → group_of i.op ≡ groups.Atomic a → Way block (slice_index i.args 0)
      atomic_way a group = first_way (first_read i.op i.args (ap reads_first group)) (pointer_of Gs T i a (atomic_right a group))

      pub load_asks : is i.op code.Load ≡ true → MeetsInst W Found Where Usable block i kind.Load
      load_asks on =
          let has = load_typed i.op on in
          let t = made_shaped s entry right Fn in_it i stands has (ap makes (load_groups i.op on)) in
          (result_set t.0 has (typed_result i.op has) t.1 (Where.form i.result) refl, place_uses s entry right Fn o unit u names Where.setting.global block (slice_index i.args 0) (load_way on))

      pub store_asks : is i.op code.Store ≡ true → MeetsInst W Found Where Usable block i kind.Store
      store_asks on =
          let first = first_read i.op i.args (ap reads_first (store_group i.op on)) in
          let second = second_read i.op i.args (ap reads_second (store_group i.op on)) in
          store_meets s entry right kinds o unit u p among names structs block holder i there inside_it place on at here live (read_arg 1 second)
          (as_store s entry right Fn in_it i stands (store_right on) (typed_read s entry right Fn in_it i stands 0 first) (typed_read s entry right Fn in_it i stands 1 second)) (store_way on)

      -- an operand of an atomic instruction is a value of what its pointer leads to
      content_value : (k : ℕ) → IsReadAt i.op i.args 0 → IsReadAt i.op i.args k → is_no_content Gs T (word i 0) (word i k) ≡ false → Usable (slice_index i.args k)
      content_value k first r off =
          let q = target_of s entry right Fn in_it (word i 0) (typed_read s entry right Fn in_it i stands 0 first) (or_left (value_fails is_pointer Gs T (word i 0)) (option_map_or (λ x. is_other Gs T x (word i k)) (pointee_of Gs Fn (word i 0)) false) off) in
          let other = or_right (value_fails is_pointer Gs T (word i 0)) (option_map_or (λ x. is_other Gs T x (word i k)) (pointee_of Gs Fn (word i 0)) false) off in
          read_value k q.1 r (shaped_type s entry right Fn in_it q.0 (word i k) q.1 q.3 (typed_read s entry right Fn in_it i stands k r) (ap (λ x. option_map_or (λ y. is_other Gs T y (word i k)) x false) (sym q.2) ∙ other))

      atomic_operand : (a : AtomicOp) → group_of i.op ≡ groups.Atomic a → breaks_t25 Gs T i a ≡ false → AsksOperand W Found Where Usable block i a
      atomic_operand a group off = by_op a group off
        where
          first : (a : AtomicOp) → group_of i.op ≡ groups.Atomic a → IsReadAt i.op i.args 0
          first a group = first_read i.op i.args (ap reads_first group)

          word_asks : (n : ℕ) → FitsWord n → UsesExpr W (word_at_place Where i n)
          word_asks n fits = word_uses W Where (slice_index i.args 0) n fits

          one_value : (a : AtomicOp) → has_operand a ≡ true → group_of i.op ≡ groups.Atomic a → breaks_t25 Gs T i a ≡ false → Usable (slice_index i.args 3)
          one_value a on group off = content_value 3 (first a group) (fourth_read i.op i.args (ap reads_fourth group ∙ on)) (content_of Gs T i a on off)

          by_op : (a : AtomicOp) → group_of i.op ≡ groups.Atomic a → breaks_t25 Gs T i a ≡ false → AsksOperand W Found Where Usable block i a
          by_op atomic.Load group off = word_asks 0 (omega arith)
          by_op atomic.IIncrement group off = word_asks 1 (omega arith)
          by_op atomic.IDecrement group off = word_asks 0xFFFFFFFF (omega arith)
          by_op atomic.ISub group off = (word_asks 0 (omega arith), one_value atomic.ISub refl group off)
          by_op atomic.CompareExchange group off =
              let parts = four_off (points_to_other Gs T (word i 0) i.ty) (has_no_int Gs T (take 3 (drop 1 i.args))) (is_no_content Gs T (word i 0) (word i 4)) (is_no_content Gs T (word i 0) (word i 5)) off in
              let both = swap_read i.op i.args group in
              (content_value 4 (first atomic.CompareExchange group) both.0 parts.2, content_value 5 (first atomic.CompareExchange group) both.1 parts.3)
          by_op atomic.Store group off = one_value atomic.Store refl group off
          by_op atomic.Exchange group off = one_value atomic.Exchange refl group off
          by_op atomic.IAdd group off = one_value atomic.IAdd refl group off
          by_op atomic.SMin group off = one_value atomic.SMin refl group off
          by_op atomic.UMin group off = one_value atomic.UMin refl group off
          by_op atomic.SMax group off = one_value atomic.SMax refl group off
          by_op atomic.UMax group off = one_value atomic.UMax refl group off
          by_op atomic.And group off = one_value atomic.And refl group off
          by_op atomic.Or group off = one_value atomic.Or refl group off
          by_op atomic.Xor group off = one_value atomic.Xor refl group off

      -- what has no result gets none
      none_set : i.result ≡ 0 → AsksSet W Found Where Usable block i (Where.form i.result)
      none_set lacks = subst (λ (x : Form). AsksSet W Found Where Usable block i x) (sym (ap Where.form lacks ∙ unmade_gone s.of.globals Fn (plan_is s entry right kinds o unit u p among).links)) tt

      pub atomic_asks : (a : AtomicOp) → group_of i.op ≡ groups.Atomic a → (has_result i.op ≡ false → i.result ≡ 0) → MeetsInst W Found Where Usable block i (kind.Atomic a)
      atomic_asks a group made = (
        by_store (stores a) refl,
        atomic_value Gs Found u.lawful names structs a,
        place_uses s entry right Fn o unit u names Where.setting.global block (slice_index i.args 0) (atomic_way a group),
        atomic_operand a group (atomic_right a group),
      )
        where
          by_store : (b : Bool) → stores a ≡ b → AsksSet W Found Where Usable block i (Where.form i.result)
          by_store true on = none_set (made (store_unmade i.op a group on))
          by_store false off =
              let has = atomic_typed i.op a group off in
              let t = made_shaped s entry right Fn in_it i stands has (ap makes group) in
              result_set t.0 has (typed_result i.op has) t.1 (Where.form i.result) refl
