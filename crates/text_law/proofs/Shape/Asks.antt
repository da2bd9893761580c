-- What is asked of the instructions of a reached block, so that what is seen of them is what they do.
use Rattle.std.proofs.Common.{◌≡◌, ◌&&◌, not, ℕ, Bool, true, false, List, [], ◌∷◌, drop, length, map, Contains, Option, Some, None, inl, inr, refl, sym, ap, ◌∙◌, subst, if◌then◌else◌}
use Rattle.std.specs.Prelude.{is_some, nat_lt, slice_get, slice_index, slice_index_or}
use Rattle.std.specs.Option.{option_map_or}
use Rattle.std.specs.List.{enumerate_from}
use Rattle.std.proofs.lemmas.Bool.{or_left}
use Rattle.spv_ops.specs.Opcode.{is, number}
use Rattle.spv_ops.specs.OpGroups.{group_of}
use Rattle.spv_ops.specs.Groups.{is_chain}
use Rattle.spv_ops.specs.Shape.{shape, is_pure}
use Rattle.spv_ops.specs.declared.Op.{Op}
use Rattle.spv_ops.specs.declared.Op.TheVariants as code
use Rattle.spv_ops.specs.declared.OpGroup.TheVariants as groups
use Rattle.spv_ops.specs.declared.AtomicOp.{AtomicOp}
use Rattle.spv_ops.specs.declared.AtomicOp.TheVariants as atomic
use Rattle.spv_module.specs.Inst.{has_type}
use Rattle.spv_module.specs.Lists.{id}
use Rattle.spv_module.specs.declared.inst.Inst.{Inst}
use Rattle.spv_module.specs.declared.inst.Block.{Block}
use Rattle.spv_module.specs.declared.inst.Function.{Function}
use Rattle.spv_index.specs.Locals.{insts_of}
use Rattle.spv_index.specs.Pointers.{pointee_of}
use Rattle.conformance.specs.Rules.{Options}
use Rattle.list_law.proofs.Options.{some_of}
use Rattle.plan_law.specs.InOrder.{IsAmong}
use Rattle.module_semantics.specs.Setting.{Setting}
use Rattle.access_paths.specs.Ways.{indexes, is_constant_index, captured_indexes}
use Rattle.hoist_plan.specs.Plan.{is_value, is_always_named, mentions_of}
use Rattle.name_alloc.specs.Naming.{name_of}
use Rattle.glsl_ast.specs.Tree.{TranslationUnit}
use Rattle.text_rules.specs.Constants.{Source}
use Rattle.expr_forward.specs.Kinds.{kind_of}
use Rattle.expr_forward.specs.declared.kinds.InstKind.{InstKind}
use Rattle.expr_forward.specs.declared.kinds.InstKind.TheVariants as kind
use Rattle.expr_forward.specs.Scope.{Scope}
use Rattle.expr_forward.specs.Paths.{place_text}
use Rattle.expr_forward.specs.Values.{value}
use Rattle.expr_forward.specs.Statements.{callee_text, has_result, comparator, atomic_operand, word_by, capture, captured_of, is_variable_form, inst_text, insts_at}
use Rattle.function_text.specs.Functions.{FunctionPlan}
use Rattle.unit_rules.specs.Translation.{Naming}
use Rattle.unit_rules.specs.Unit.{source_of, IsUnitOf}
use Rattle.claim_law.specs.Uses.{Words, UsesExpr, UseEach, UsesLValue}
use Rattle.claim_law.specs.Statements.{EachStmt, AskArguments, AsksOperand, MeetsInst}
use Rattle.claim_law.specs.Blocks.{FitWords}
use Rattle.global_law.specs.Items.{AreSpecIds}
use Rattle.typed_law.specs.Conforms.{IsConforming}
use Rattle.typed_law.specs.Words.{AreGivenWords}
use Rattle.typed_law.proofs.Lists.{clash}
use Rattle.typed_law.proofs.Values.{inside, typed_result}
use Rattle.claim_law.specs.Claimed.{IsIn}
use Rattle.claim_law.proofs.Claim.Listed.{in_flat, at_place}
use Rattle.claim_law.specs.Told.{is_among}
use Rattle.grammar_law.specs.Mentioned.{IsValueIn}
use Rattle.grammar_law.specs.Words.{words_of, AreOfStructs}
use Rattle.grammar_law.proofs.Unit.Lists.{as_among, of_filter, of_numbered_first}
use Rattle.grammar_law.proofs.Unit.Links.{placed_in}
use Rattle.grammar_law.proofs.Unit.Shaped.{shaped_value}
use Rattle.grammar_law.proofs.Unit.Carried.{always_form}
use Rattle.grammar_law.proofs.Unit.CallTypes.{given_value, call_row}
use Rattle.grammar_law.proofs.Unit.ResultShapes.{IsShaped, makes, made_shaped}
use Rattle.grammar_law.proofs.Unit.Ways.{HaveKinds, F, R, V, in_module, plan_is}
use Rattle.grammar_law.proofs.Meets.LiveOrGone.{IsRun, is_quiet, pure_quiet, placed_live, run, live_or_gone}
use Rattle.grammar_law.proofs.Meets.PlaceMeets.{load_way, store_way, atomic_way}
use Rattle.grammar_law.proofs.Meets.BlocksMade.{AreKnown, is_shaped_kind, inst_meets}
use Rattle.text_law.specs.Walks.{Outer}
use Rattle.text_law.specs.Shape.{outer_of}
use Rattle.text_law.specs.Unseen.{unseen, IsPath}
use Rattle.text_law.specs.Asked.{HasVariable, AreArguments, AsksSeen, AllAskSeen}
use Rattle.text_law.proofs.Steps.Atomics.{atomic_group}
use Rattle.text_law.proofs.Shape.Apart.{result_unseen}
use Rattle.text_law.proofs.Shape.Barriers.{control_read, memory_read}
use Rattle.text_law.proofs.Shape.Traced.{IsPointer}
use Rattle.text_law.proofs.Shape.Places.{index_is, kept_is, length_unseen, place_seen}
use Rattle.text_law.proofs.Shape.UnseenValues.{unseen_value}
use Rattle.text_law.proofs.Shape.UnseenInsts.{shaped_insts_unseen}

-- what a result of these opcodes is: it has a type, and a variable wherever it is live
pub record HasResult (o : Op) : Type 0 where
  pub typed : has_type o ≡ true
  pub always : is_always_named o ≡ true
  pub other : is o code.Variable ≡ false

load_result : (o : Op) → kind_of o ≡ kind.Load → (is o code.Load ≡ true) × (group_of o ≡ groups.Load) × HasResult o
unfolding kind_of group_of number shape
load_result code.Load on = (refl, refl, record { typed = refl; always = refl; other = refl })
load_result o on = cc

call_result : (o : Op) → kind_of o ≡ kind.Call → (is o code.FunctionCall ≡ true) × HasResult o
unfolding kind_of group_of number shape
call_result code.FunctionCall on = (refl, record { typed = refl; always = refl; other = refl })
call_result o on = cc

store_op : (o : Op) → kind_of o ≡ kind.Store → is o code.Store ≡ true
unfolding kind_of group_of number
store_op code.Store on = refl
store_op o on = cc

chain_op : (o : Op) → kind_of o ≡ kind.Chain → is_chain o ≡ true
unfolding kind_of group_of
chain_op code.AccessChain on = refl
chain_op o on = cc

atomic_always : (o : Op) (a : AtomicOp) → group_of o ≡ groups.Atomic a → is_always_named o ≡ true
unfolding group_of
atomic_always code.AtomicStore a on = refl
atomic_always o a on = cc

atomic_other : (o : Op) (a : AtomicOp) → group_of o ≡ groups.Atomic a → is o code.Variable ≡ false
unfolding group_of number
atomic_other code.AtomicStore a on = refl
atomic_other o a on = cc

atomic_typed : (o : Op) (a : AtomicOp) → group_of o ≡ groups.Atomic a → has_result a ≡ true → has_type o ≡ true
unfolding group_of shape
atomic_typed code.AtomicStore a on has = cc
atomic_typed o a on has = cc

atomic_result : (o : Op) (a : AtomicOp) → group_of o ≡ groups.Atomic a → has_result a ≡ true → HasResult o
atomic_result o a on has = record { typed = atomic_typed o a on has; always = atomic_always o a on; other = atomic_other o a on }

loud : (o : Op) (q : InstKind) → kind_of o ≡ q → is_quiet q ≡ false → is_pure o ≡ false
loud o q on off = by_pure (is_pure o) refl
  where
    by_pure : (b : Bool) → is_pure o ≡ b → b ≡ false
    by_pure false e = refl
    by_pure true e = clash (sym (pure_quiet o e) ∙ (ap is_quiet on ∙ off))

-- literals are the same by whatever names
word_same : (A B : Words) (w : Scope) (pointer n : ℕ) → UsesExpr A (word_by w pointer n) → UsesExpr B (word_by w pointer n)
unfolding word_by
word_same A B w pointer n uses = uses

module _ (s : Setting) (entry : Option (List ℕ)) (right : IsConforming s.of entry) (kinds : HaveKinds s.of.globals) (o : Options) (unit : TranslationUnit) (u : IsUnitOf s.of o unit) (p : FunctionPlan) (among : IsIn p u.plans) (words : (g : Inst) → IsIn g s.of.globals → FitWords g.args) (given : AreGivenWords o.overrides) (names : List (List ℕ)) (structs : AreOfStructs s.of.globals (name_of u.claimed) names)
    (k : AreKnown s entry right kinds o unit u p among names structs) (spec_ids : AreSpecIds (source_of s.of o u.entry))
    (callees : (i : Inst) → IsIn i (insts_of (F s entry right kinds o unit u p among)) → is i.op code.FunctionCall ≡ true → is_among (outer_of (source_of s.of o u.entry) (name_of u.claimed) unit (F s entry right kinds o unit u p among)).functions (callee_text (V s entry right kinds o unit u p among) i) ≡ true) where
  abbrev Gs : List Inst
  Gs = s.of.globals

  abbrev Found : Naming
  Found = name_of u.claimed

  abbrev Fn : Function
  Fn = F s entry right kinds o unit u p among

  abbrev Marks : List Bool
  Marks = R s entry right kinds o unit u p among

  abbrev Where : Scope
  Where = V s entry right kinds o unit u p among

  abbrev Src : Source
  Src = source_of s.of o u.entry

  abbrev Out : Outer
  Out = outer_of (source_of s.of o u.entry) (name_of u.claimed) unit (F s entry right kinds o unit u p among)

  abbrev X : Words
  X = unseen (outer_of (source_of s.of o u.entry) (name_of u.claimed) unit (F s entry right kinds o unit u p among))

  abbrev W : Words
  W = words_of s.of.globals (name_of u.claimed) names

  in_it : Contains s.of.functions Fn
  in_it = in_module s entry right kinds o unit u p among

  module _ (b : ℕ) where
    abbrev Usable : ℕ → Type 0
    Usable = IsValueIn Where Marks b

    says : (n : ℕ) → Usable n → UsesExpr X (value Where b n)
    says n v = unseen_value s entry right kinds o unit u p among words given names structs k b (λ j run on. length_unseen s entry right kinds o unit u p among words given names structs b j) n v

    place : (n : ℕ) → IsPointer Gs Fn n → UsesLValue W (place_text Where.setting b n) → IsPath Out (place_text Where.setting b n)
    place n pointer uses = place_seen s entry right kinds o unit u p among words given names structs k.inner b n pointer uses.0

    arguments : (ns : List ℕ) → AskArguments W Found Where Usable b ns → AreArguments Src Out Where b ns
    arguments [] asks = tt
    arguments (n ∷ ns) asks = (by_pointee (is_some (pointee_of Gs Fn n)) refl asks.0, arguments ns asks.1)
      where
        by_pointee : (t : Bool) → is_some (pointee_of Gs Fn n) ≡ t → elim t as (λ t. Type 0) [ true ↦ UsesLValue W (place_text Where.setting b n) | false ↦ Usable n ] → elim t as (λ t. Type 0) [ true ↦ IsPath Out (place_text Where.setting b n) | false ↦ UsesExpr X (value Where b n) ]
        by_pointee true points uses = place n (some_of (pointee_of Gs Fn n) points) uses
        by_pointee false none usable = says n usable

    word : (pointer n : ℕ) → UsesExpr W (word_by Where pointer n) → UsesExpr X (word_by Where pointer n)
    word pointer n uses = word_same W X Where pointer n uses

    operand : (i : Inst) (a : AtomicOp) → AsksOperand W Found Where Usable b i a → UseEach X (comparator Where b i a) × UsesExpr X (atomic_operand Where b i a)
    operand i atomic.Load asks = (tt, word (slice_index i.args 0) 0 asks)
    operand i atomic.IIncrement asks = (tt, word (slice_index i.args 0) 1 asks)
    operand i atomic.IDecrement asks = (tt, word (slice_index i.args 0) 0xFFFFFFFF asks)
    operand i atomic.ISub asks = (tt, (word (slice_index i.args 0) 0 asks.0, says (slice_index i.args 3) asks.1))
    operand i atomic.CompareExchange asks = ((says (slice_index i.args 5) asks.1, tt), says (slice_index i.args 4) asks.0)
    operand i atomic.Store asks = (tt, says (slice_index i.args 3) asks)
    operand i atomic.Exchange asks = (tt, says (slice_index i.args 3) asks)
    operand i atomic.IAdd asks = (tt, says (slice_index i.args 3) asks)
    operand i atomic.SMin asks = (tt, says (slice_index i.args 3) asks)
    operand i atomic.UMin asks = (tt, says (slice_index i.args 3) asks)
    operand i atomic.SMax asks = (tt, says (slice_index i.args 3) asks)
    operand i atomic.UMax asks = (tt, says (slice_index i.args 3) asks)
    operand i atomic.And asks = (tt, says (slice_index i.args 3) asks)
    operand i atomic.Or asks = (tt, says (slice_index i.args 3) asks)
    operand i atomic.Xor asks = (tt, says (slice_index i.args 3) asks)

    -- an instruction of the block
    module _ (here : slice_index_or Marks b false ≡ true) (holder : Block) (there : slice_get Fn.blocks b ≡ Some holder) (i : Inst) (within : IsIn i holder.insts) where
      i_in : IsIn i (insts_of Fn)
      i_in = in_flat (λ (c : Block). c.insts) Fn.blocks holder i (at_place Fn.blocks b holder there) within

      stands : IsAmong i (insts_of Fn)
      stands = as_among (insts_of Fn) i i_in

      -- one that does something is live
      running : is_pure i.op ≡ false → IsRun s entry right kinds o unit u p among b i
      running off =
          let at = placed_in Fn b holder i there within in
          run s entry right kinds o unit u p among b holder i there within at.0 at.1 here
          (placed_live s entry right kinds o unit u p among b at.0 i at.1 (or_left (not (is_pure i.op)) (nat_lt 0 (length (mentions_of (plan_is s entry right kinds o unit u p among).links i.result))) (ap not off)))

      meets : (q : InstKind) → kind_of i.op ≡ q → IsRun s entry right kinds o unit u p among b i → MeetsInst W Found Where Usable b i q
      meets q on r = inst_meets s entry right kinds o unit u p among names structs k b i r q on

      made : HasResult i.op → i.result ≡ 0 → ⊥
      made has = ((inside s entry right Fn in_it).formed i stands).result (typed_result i.op has.typed)

      -- its result has a variable
      variable : IsRun s entry right kinds o unit u p among b i → HasResult i.op → is_value Gs i.ty ≡ true → HasVariable Src Out Where b i
      variable r has value = (
        elim (always_form s entry right kinds o unit u p among b holder i there within (made has) value has.always (r.kept (made has))) [ inl local ↦ ap is_variable_form local | inr top ↦ ap is_variable_form top ],
        result_unseen s entry right kinds o unit u p among i i_in (made has) has.other,
      )

      of_shape : IsShaped s entry right i.ty → is_value Gs i.ty ≡ true
      of_shape t = shaped_value Gs i.ty t.0 t.1

      load : kind_of i.op ≡ kind.Load → AsksSeen Src Out Where b i kind.Load
      load on =
          let what = load_result i.op on in
          let r = running (loud i.op kind.Load on refl) in
          let way = load_way s entry right kinds o unit u p among names structs b r.place holder i there within r.at here r.live k.pointer k.declared k.lengths what.0 in (
            variable r what.2 (of_shape (made_shaped s entry right Fn in_it i stands what.2.typed (ap makes what.1))),
            place (slice_index i.args 0) (way.to, way.points) (meets kind.Load on r).1,
          )

      store : kind_of i.op ≡ kind.Store → AsksSeen Src Out Where b i kind.Store
      store on =
          let r = running (loud i.op kind.Store on refl) in
          let way = store_way s entry right kinds o unit u p among names structs b r.place holder i there within r.at here r.live k.pointer k.declared k.lengths (store_op i.op on) in
          let asks = meets kind.Store on r in
          (place (slice_index i.args 0) (way.to, way.points) asks.0, says (slice_index i.args 1) asks.1)

      call : kind_of i.op ≡ kind.Call → AsksSeen Src Out Where b i kind.Call
      call on =
          let what = call_result i.op on in
          let r = running (loud i.op kind.Call on refl) in (
            λ given_type.
                let row = call_row s entry right Fn in_it i stands what.0 in
                variable r what.1 (of_shape (given_value s entry right Fn in_it i stands what.0 row (ap (λ (x : Option Inst). option_map_or (λ (g : Inst). is g.op code.TypeVoid) x false) (sym row.1) ∙ given_type))),
            callees i i_in what.0,
            arguments (drop 1 i.args) (meets kind.Call on r).2,
          )

      atomic_one : (a : AtomicOp) → kind_of i.op ≡ kind.Atomic a → AsksSeen Src Out Where b i (kind.Atomic a)
      atomic_one a on =
          let group = atomic_group i.op a on in
          let r = running (loud i.op (kind.Atomic a) on refl) in
          let way = atomic_way s entry right kinds o unit u p among names structs b r.place holder i there within r.at here r.live k.pointer k.declared k.lengths a group in
          let asks = meets (kind.Atomic a) on r in
          let uses = operand i a asks.3 in (
            λ has. (let what = atomic_result i.op a group has in variable r what (of_shape (made_shaped s entry right Fn in_it i stands what.typed (ap makes group)))),
            place (slice_index i.args 0) (way.to, way.points) asks.2,
            uses.0,
            uses.1,
          )

      -- the indexes that a chain keeps
      captures : kind_of i.op ≡ kind.Chain → (ns : List (ℕ × ℕ)) → ((n : ℕ × ℕ) → IsIn n ns → IsIn n.1 (indexes i)) → EachStmt X (map (capture Where i) ns)
      captures on [] each = tt
      captures on (n ∷ ns) each = (
        ((kept_is s entry right kinds o unit u p among words given names structs (id i.result) n.0, tt), index_is s entry right kinds o unit u p among words given names structs n.1 (record { chain = i; there = i_in; on = chain_op i.op on; among = each n (inl refl) })),
        captures on ns (λ m m_in. each m (inr m_in)),
      )

      captured_in : (n : ℕ × ℕ) → IsIn n (captured_of Where i) → IsIn n.1 (indexes i)
      captured_in n n_in = by_test (is_chain i.op && Where.carried i.result) n_in
        where
          by_test : (t : Bool) → IsIn n (if t then captured_indexes Gs i else []) → IsIn n.1 (indexes i)
          by_test true there = at_place (indexes i) n.0 n.1 (of_numbered_first (indexes i) n.0 n.1 (of_filter (λ (m : ℕ × ℕ). not (is_constant_index Gs m.1)) (enumerate_from 0 (indexes i)) n there).0)
          by_test false there = absurd there

      -- an operation of an expression
      shaped : (q : InstKind) → kind_of i.op ≡ q → is_shaped_kind q ≡ true → EachStmt X (inst_text Where b i q)
      shaped q on is_shaped =
          subst (λ (x : InstKind). EachStmt X (inst_text Where b i x)) on
          (let at = placed_in Fn b holder i there within in
          elim (live_or_gone s entry right kinds o unit u p among b holder i there within at.0 at.1 here) [
            | inl r ↦ shaped_insts_unseen s entry right kinds o unit u p among words given names structs k b (λ j run on. length_unseen s entry right kinds o unit u p among words given names structs b j) i r (ap is_shaped_kind on ∙ is_shaped)
            | inr silent ↦ subst (EachStmt X) (sym silent) tt
          ])

      asks_one : (q : InstKind) → kind_of i.op ≡ q → AsksSeen Src Out Where b i q
      asks_one kind.Load on = load on
      asks_one kind.Store on = store on
      asks_one kind.Call on = call on
      asks_one (kind.Atomic a) on = atomic_one a on
      asks_one kind.ControlBarrier on = control_read s entry right Fn in_it o u.entry spec_ids Where refl i stands on
      asks_one kind.MemoryBarrier on = memory_read s entry right Fn in_it o u.entry spec_ids Where refl i stands on
      asks_one kind.Chain on = captures on (captured_of Where i) captured_in
      asks_one kind.CompositeInsert on = shaped kind.CompositeInsert on refl
      asks_one kind.VectorInsertDynamic on = shaped kind.VectorInsertDynamic on refl
      asks_one (kind.Value q) on = shaped (kind.Value q) on refl
      asks_one kind.Silent on = tt

    -- The law.
    pub all_ask : slice_index_or Marks b false ≡ true → AllAskSeen Src Out Where b (λ i. kind_of i.op) (insts_at Where b)
    all_ask here = by_block (slice_get Fn.blocks b) refl
      where
        each : (holder : Block) → slice_get Fn.blocks b ≡ Some holder → (is : List Inst) → ((i : Inst) → IsIn i is → IsIn i holder.insts) → AllAskSeen Src Out Where b (λ i. kind_of i.op) is
        each holder there [] sub = tt
        each holder there (i ∷ is) sub = (asks_one here holder there i (sub i (inl refl)) (kind_of i.op) refl, each holder there is (λ j j_in. sub j (inr j_in)))

        by_block : (q : Option Block) → slice_get Fn.blocks b ≡ q → AllAskSeen Src Out Where b (λ i. kind_of i.op) (option_map_or (λ (c : Block). c.insts) q [])
        by_block None at = tt
        by_block (Some holder) at = each holder at holder.insts (λ i i_in. i_in)
