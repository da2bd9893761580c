-- The statements of a reached block are made of declared words, and so are its values.
use Rattle.std.proofs.Common.{◌≡◌, ◌<◌, ◌&&◌, ◌||◌, ℕ, Bool, true, false, List, [], ◌∷◌, Contains, Option, Some, None, unwrap_or, inl, inr, refl, sym, ap, ◌∙◌, subst, arith, if◌then◌else◌}
use Rattle.std.specs.Prelude.{◌⊎◌, flat_map, slice_get, slice_index_or, option_and_then}
use Rattle.std.specs.Option.{option_map_or}
use Rattle.spv_ops.specs.Opcode.{is, number}
use Rattle.spv_ops.specs.OpGroups.{group_of}
use Rattle.spv_ops.specs.Groups.{is_chain}
use Rattle.spv_ops.specs.Shape.{shape}
use Rattle.spv_ops.specs.declared.Op.{Op}
use Rattle.spv_ops.specs.declared.Op.TheVariants as code
use Rattle.spv_ops.specs.declared.OpGroup.TheVariants as groups
use Rattle.spv_module.specs.Held.{global}
use Rattle.spv_module.specs.Inst.{has_type}
use Rattle.spv_module.specs.Lists.{id}
use Rattle.spv_module.specs.declared.inst.Inst.{Inst}
use Rattle.spv_module.specs.declared.inst.Block.{Block}
use Rattle.spv_module.specs.declared.inst.Function.{Function}
use Rattle.spv_module.specs.declared.tree.Length.{Length}
use Rattle.spv_types.specs.Tree.{Tree}
use Rattle.spv_types.specs.Types.{elem_of, tree_at, type_tree}
use Rattle.spv_index.specs.Locals.{insts_of, inst_in, type_in}
use Rattle.spv_index.specs.Pointers.{pointee_of}
use Rattle.conformance.specs.Rules.{Options}
use Rattle.list_law.proofs.Tests.{clash}
use Rattle.list_law.proofs.Options.{none_some}
use Rattle.plan_law.specs.InOrder.{IsAmong}
use Rattle.module_semantics.specs.Setting.{Setting}
use Rattle.use_chains.specs.Slots.{inst_at, IsLive}
use Rattle.hoist_plan.specs.declared.form.Form.TheVariants.{Forwarded}
use Rattle.hoist_plan.specs.Plan.{is_always_named}
use Rattle.name_alloc.specs.declared.claims.Key.TheVariants.{Id}
use Rattle.name_alloc.specs.Naming.{name_of}
use Rattle.glsl_ast.specs.Tree.{Expr, TranslationUnit}
use Rattle.glsl_grammar.specs.Read.{is_declared}
use Rattle.glsl_grammar.specs.Spelled.{FitsWord}
use Rattle.access_paths.specs.Ways.{indexes}
use Rattle.text_rules.specs.Constants.{Source, is_constant, reading, plain_value}
use Rattle.text_rules.specs.Printed.{is_written_struct}
use Rattle.text_rules.specs.Declarations.{length_extent, word_of}
use Rattle.expr_forward.specs.Kinds.{kind_of, operation_of, operation_kind_of}
use Rattle.expr_forward.specs.Scope.{Setting as Place, Scope, globals_in, type_of}
use Rattle.expr_forward.specs.Paths.{is_plain, is_number, literal_word, word_at, index_expr}
use Rattle.expr_forward.specs.Statements.{inst_text, block_text}
use Rattle.expr_forward.specs.declared.kinds.InstKind.{InstKind}
use Rattle.expr_forward.specs.declared.kinds.InstKind.TheVariants as inst_kind
use Rattle.expr_forward.specs.declared.kinds.OperationKind.{OperationKind}
use Rattle.expr_forward.specs.declared.kinds.OperationKind.TheVariants as kind
use Rattle.function_plan.specs.Phis.{is_gone}
use Rattle.function_text.specs.Functions.{FunctionPlan}
use Rattle.unit_rules.specs.Translation.{Naming, text_of, id_text}
use Rattle.unit_rules.specs.Unit.{source_of, IsUnitOf}
use Rattle.claim_law.specs.Ranked.{operand_ids, AreBelow, IsForwardedBy}
use Rattle.claim_law.specs.Uses.{Words, UsesExpr, UsesExtent}
use Rattle.claim_law.specs.Named.{FitsIfSome}
use Rattle.claim_law.specs.Asked.{MeetsKind, Meets, IsAsked}
use Rattle.claim_law.specs.Statements.{EachStmt, AsksSet, MeetsInst}
use Rattle.claim_law.proofs.Spell.Statements.{MeetsOne, MeetEach, insts-use}
use Rattle.typed_law.specs.Conforms.{IsConforming}
use Rattle.typed_law.proofs.Lists.{some_part}
use Rattle.typed_law.proofs.Values.{inside, has_a_type, typed_result}
use Rattle.typed_law.proofs.Others.{typed_some}
use Rattle.claim_law.specs.Claimed.{IsIn, HasName}
use Rattle.claim_law.proofs.Claim.Listed.{in_flat, at_place}
use Rattle.claim_law.proofs.Claim.Told.{axes_told}
use Rattle.grammar_law.specs.Mentioned.{IsMentioned, IsValueIn}
use Rattle.grammar_law.specs.Words.{is_struct_key, words_of, AreOfStructs}
use Rattle.grammar_law.specs.Types.{IsLengthOf}
use Rattle.claim_law.proofs.Claim.Constants.{found_in}
use Rattle.grammar_law.proofs.Unit.Lists.{as_among}
use Rattle.grammar_law.proofs.Unit.Links.{placed_in}
use Rattle.grammar_law.proofs.Unit.Shaped.{shaped_value}
use Rattle.grammar_law.proofs.Unit.Ways.{HaveKinds, F, R, V, in_module, ways}
use Rattle.grammar_law.proofs.Unit.Words.{built_in_value, barrier_values}
use Rattle.grammar_law.proofs.Unit.Structs.{Written, HasNames}
use Rattle.grammar_law.proofs.Unit.Usable.{Ranks, ranked}
use Rattle.grammar_law.proofs.Unit.Sets.{own_text, set_asked}
use Rattle.grammar_law.proofs.Unit.Kept.{chain_meets}
use Rattle.grammar_law.proofs.Unit.Carried.{always_text}
use Rattle.grammar_law.proofs.Unit.Indexes.{value_other}
use Rattle.grammar_law.proofs.Unit.ArgWords.{IsOfWords}
use Rattle.grammar_law.proofs.Meets.LiveOrGone.{IsRun, live_or_gone}
use Rattle.grammar_law.proofs.Unit.ResultShapes.{stands_inside, IsShaped}
use Rattle.grammar_law.proofs.Meets.PlaceMeets.{Way, load_asks, store_asks, atomic_asks}
use Rattle.grammar_law.proofs.Meets.CompositeMeets.{insert_asks, put_asks, value_asks}

-- what kinds are of
abbrev IsOfKind : InstKind → Op → Type 0
IsOfKind inst_kind.Load o = is o code.Load ≡ true
IsOfKind inst_kind.Store o = is o code.Store ≡ true
IsOfKind inst_kind.Call o = is o code.FunctionCall ≡ true
IsOfKind inst_kind.Chain o = is_chain o ≡ true
IsOfKind inst_kind.CompositeInsert o = is o code.CompositeInsert ≡ true
IsOfKind inst_kind.VectorInsertDynamic o = is o code.VectorInsertDynamic ≡ true
IsOfKind (inst_kind.Atomic a) o = group_of o ≡ groups.Atomic a
IsOfKind _ o = Unit {0}

told : (o : Op) → IsOfKind (kind_of o) o
unfolding kind_of group_of number
told code.Load = refl
told code.Store = refl
told code.FunctionCall = refl
told code.AccessChain = refl
told code.InBoundsAccessChain = refl
told code.CompositeInsert = refl
told code.VectorInsertDynamic = refl
told code.AtomicLoad = refl
told code.AtomicStore = refl
told code.AtomicExchange = refl
told code.AtomicCompareExchange = refl
told code.AtomicIIncrement = refl
told code.AtomicIDecrement = refl
told code.AtomicIAdd = refl
told code.AtomicISub = refl
told code.AtomicSMin = refl
told code.AtomicUMin = refl
told code.AtomicSMax = refl
told code.AtomicUMax = refl
told code.AtomicAnd = refl
told code.AtomicOr = refl
told code.AtomicXor = refl
told o = tt

of_kind : (o : Op) (k : InstKind) → kind_of o ≡ k → IsOfKind k o
of_kind o k on = subst (λ (q : InstKind). IsOfKind q o) on (told o)

-- kinds of instructions whose results have shapes
abbrev pub is_shaped_kind : InstKind → Bool
is_shaped_kind inst_kind.CompositeInsert = true
is_shaped_kind inst_kind.VectorInsertDynamic = true
is_shaped_kind (inst_kind.Value o) = true
is_shaped_kind _ = false

pub kind_typed : (o : Op) → is_shaped_kind (kind_of o) ≡ true → has_type o ≡ true
unfolding kind_of group_of shape
kind_typed code.Undef on = refl
kind_typed o on = cc

value_kind : (o : Op) (k : OperationKind) → kind_of o ≡ inst_kind.Value k → operation_kind_of o ≡ k
unfolding operation_kind_of
value_kind o k on = ap operation_of on

no_other : (o : Op) (k : OperationKind) → kind_of o ≡ inst_kind.Value k → k ≡ kind.Other → ⊥
unfolding kind_of group_of
no_other code.Undef k on other = cc
no_other o k on other = cc

-- what is no operation of an expression has a variable wherever it is live, or is a pointer
other_named : (o : Op) → operation_kind_of o ≡ kind.Other → has_type o ≡ true → stands_inside (group_of o) ≡ true → (is_always_named o || (is_chain o || is o code.Variable)) ≡ true
unfolding operation_kind_of kind_of group_of shape number
other_named code.Variable other typed in_it = refl
other_named o other typed in_it = cc

kind_shaped : (q : InstKind) → (operation_of q ≡ kind.Other → ⊥) → is_shaped_kind q ≡ true
kind_shaped (inst_kind.Value o) other = refl
kind_shaped inst_kind.CompositeInsert other = refl
kind_shaped inst_kind.VectorInsertDynamic other = refl
kind_shaped q other = absurd (other refl)

op_shaped : (o : Op) → (operation_kind_of o ≡ kind.Other → ⊥) → is_shaped_kind (kind_of o) ≡ true
unfolding operation_kind_of
op_shaped o other = kind_shaped (kind_of o) other

-- the word of a constant that is written as a literal
literal_fits : (w : Place) (g : Inst) → FitsWord (word_of (plain_value w.source g)) → FitsIfSome (literal_word w g)
unfolding literal_word
literal_fits w g fits = by_test (is_constant g && (is_plain (reading w.source g) && is_number (option_and_then elem_of (type_tree (globals_in w) g.ty))))
  where
    by_test : (b : Bool) → FitsIfSome (if b then Some (word_of (plain_value w.source g)) else None)
    by_test true = fits
    by_test false = tt

either_of : (a b c : Bool) → (a || (b || c)) ≡ true → (a ≡ true) ⊎ ((b ≡ true) ⊎ (c ≡ true))
either_of true b c on = inl refl
either_of false true c on = inr (inl refl)
either_of false false c on = inr (inr on)

abbrev is_other : OperationKind → Bool
is_other kind.Other = true
is_other _ = false

other_of : (k : OperationKind) → is_other k ≡ true → k ≡ kind.Other
other_of kind.Other on = refl
other_of k on = cc

no_other_of : (k : OperationKind) → is_other k ≡ false → k ≡ kind.Other → ⊥
no_other_of k off same = clash (sym (ap is_other same) ∙ off)

module _ (s : Setting) (entry : Option (List ℕ)) (right : IsConforming s.of entry) (kinds : HaveKinds s.of.globals) (o : Options) (unit : TranslationUnit) (u : IsUnitOf s.of o unit) (p : FunctionPlan) (among : IsIn p u.plans) (names : List (List ℕ)) (structs : AreOfStructs s.of.globals (name_of u.claimed) names) where
  abbrev Gs : List Inst
  Gs = s.of.globals

  abbrev S : Source
  S = source_of s.of o u.entry

  abbrev Found : Naming
  Found = name_of u.claimed

  abbrev Fn : Function
  Fn = F s entry right kinds o unit u p among

  abbrev Marks : List Bool
  Marks = R s entry right kinds o unit u p among

  abbrev Where : Scope
  Where = V s entry right kinds o unit u p among

  abbrev W : Words
  W = words_of s.of.globals (name_of u.claimed) names

  abbrev Usable : ℕ → ℕ → Type 0
  Usable = IsValueIn Where Marks

  abbrev Run : ℕ → Inst → Type 0
  Run = IsRun s entry right kinds o unit u p among

  in_it : Contains s.of.functions Fn
  in_it = in_module s entry right kinds o unit u p among

  -- what is known of the function's instructions and of the names that they ask for
  pub record AreKnown : Type 0 where
    pub words : (i : Inst) → IsIn i (insts_of Fn) → IsOfWords i
    pub inner : (i : Inst) → IsIn i (insts_of Fn) → stands_inside (group_of i.op) ≡ true
    pub shapes : (i : Inst) → IsIn i (insts_of Fn) → is_shaped_kind (kind_of i.op) ≡ true → IsShaped s entry right i.ty
    pub declared : (g : Inst) → IsIn g s.of.globals → is_written_struct (source_of s.of o u.entry) (Written s.of o unit u) g ≡ true → is_declared names (id_text (name_of u.claimed) g.result) ≡ true
    pub lengths : (l : Length) → IsLengthOf s.of.globals l → UsesExtent (words_of s.of.globals (name_of u.claimed) names) (length_extent (source_of s.of o u.entry) (id_text (name_of u.claimed)) l)
    pub plain : (g : Inst) → IsIn g s.of.globals → FitsWord (word_of (plain_value S g))
    pub pointer : (b n : ℕ) (i : Inst) → IsMentioned Fn Marks b i n → is i.op code.Phi ≡ false → (ty : ℕ) (t : Tree) → pointee_of Gs Fn n ≡ Some ty → type_tree Gs ty ≡ Some t → Way s entry right kinds o unit u p among names structs b n
    pub reads : (b n : ℕ) (i : Inst) → IsMentioned Fn Marks b i n → (e : Expr) → Where.setting.global n ≡ Some e → UsesExpr W e
    pub no_pointer : (i : Inst) → IsIn i (insts_of Fn) → (is_chain i.op ≡ true) ⊎ (is i.op code.Variable ≡ true) → (v : Tree) → type_tree Gs i.ty ≡ Some v → ⊥
    pub index : (b : ℕ) (i : Inst) → Run b i → is_chain i.op ≡ true → (n : ℕ) → IsIn n (indexes i) → UsesExpr W (index_expr Where.setting n)
    pub of_values : (b n : ℕ) (v : Tree) → Usable b n → type_tree Gs (type_of Where n) ≡ Some v → HasNames s.of o unit u v
    pub call : (b : ℕ) (i : Inst) → Run b i → is i.op code.FunctionCall ≡ true → MeetsInst W Found Where (Usable b) b i inst_kind.Call
    pub length : (b : ℕ) (i : Inst) → Run b i → operation_kind_of i.op ≡ kind.ArrayLength → MeetsKind W Found Where (Usable b) b i kind.ArrayLength

  module _ (k : AreKnown) (b : ℕ) where
    module _ (i : Inst) (r : Run b i) where
      listed : IsIn i (insts_of Fn)
      listed = in_flat (λ (c : Block). c.insts) Fn.blocks r.holder i (at_place Fn.blocks b r.holder r.there) r.within

      stands : IsAmong i (insts_of Fn)
      stands = as_among (insts_of Fn) i listed

      made : has_type i.op ≡ true → i.result ≡ 0 → ⊥
      made has = ((inside s entry right Fn in_it).formed i stands).result (typed_result i.op has)

      -- an operation of an expression
      module _ (shaped_kind : is_shaped_kind (kind_of i.op) ≡ true) where
        has : has_type i.op ≡ true
        has = kind_typed i.op shaped_kind

        t : IsShaped s entry right i.ty
        t = k.shapes i listed shaped_kind

        value_meets : (q : OperationKind) → operation_kind_of i.op ≡ q → (q ≡ kind.Other → ⊥) → MeetsKind W Found Where (Usable b) b i q
        value_meets =
            value_asks s entry right kinds o unit u p among names structs b r.place r.holder i r.there r.within r.at r.here r.live t.0 t.1 has (r.kept (made has)) (k.words i listed).args k.declared k.lengths
            (λ n v. k.of_values b n v) (k.length b i r)

        set : AsksSet W Found Where (Usable b) b i (Where.form i.result)
        set = set_asked s entry right kinds o unit u p among names structs b r.holder i r.there r.within (made has) r.here (typed_some s entry right Fn in_it i stands has) t.0 t.1 k.declared k.lengths (Where.form i.result) refl

      -- each instruction
      pub inst_meets : (q : InstKind) → kind_of i.op ≡ q → MeetsInst W Found Where (Usable b) b i q
      inst_meets inst_kind.Load on = load_asks s entry right kinds o unit u p among names structs b r.place r.holder i r.there r.within r.at r.here r.live k.pointer k.declared k.lengths (of_kind i.op inst_kind.Load on)
      inst_meets inst_kind.Store on = store_asks s entry right kinds o unit u p among names structs b r.place r.holder i r.there r.within r.at r.here r.live k.pointer k.declared k.lengths (of_kind i.op inst_kind.Store on)
      inst_meets inst_kind.Call on = k.call b i r (of_kind i.op inst_kind.Call on)
      inst_meets (inst_kind.Atomic a) on = atomic_asks s entry right kinds o unit u p among names structs b r.place r.holder i r.there r.within r.at r.here r.live k.pointer k.declared k.lengths a (of_kind i.op (inst_kind.Atomic a) on) (k.words i listed).none
      inst_meets inst_kind.Chain on = chain_meets s entry right kinds o unit u p among names structs b r.holder i r.there r.within (of_kind i.op inst_kind.Chain on) (k.index b i r (of_kind i.op inst_kind.Chain on))
      inst_meets inst_kind.CompositeInsert on =
          let shaped_kind : is_shaped_kind (kind_of i.op) ≡ true = ap is_shaped_kind on in
          insert_asks s entry right kinds o unit u p among names structs b r.place r.holder i r.there r.within r.at r.here r.live (t shaped_kind).0 (t shaped_kind).1 (has shaped_kind) (r.kept (made (has shaped_kind))) (k.words i listed).args k.declared k.lengths (of_kind i.op inst_kind.CompositeInsert on)
      inst_meets inst_kind.VectorInsertDynamic on =
          let shaped_kind : is_shaped_kind (kind_of i.op) ≡ true = ap is_shaped_kind on in
          put_asks s entry right kinds o unit u p among names structs b r.place r.holder i r.there r.within r.at r.here r.live (t shaped_kind).0 (t shaped_kind).1 (has shaped_kind) (r.kept (made (has shaped_kind))) (k.words i listed).args k.declared k.lengths (of_kind i.op inst_kind.VectorInsertDynamic on)
      inst_meets (inst_kind.Value q) on =
          let shaped_kind : is_shaped_kind (kind_of i.op) ≡ true = ap is_shaped_kind on in
          (set shaped_kind, value_meets shaped_kind (operation_kind_of i.op) refl (λ other. no_other i.op q on (sym (value_kind i.op q on) ∙ other)))
      inst_meets inst_kind.ControlBarrier on = tt
      inst_meets inst_kind.MemoryBarrier on = tt
      inst_meets inst_kind.Silent on = tt

      -- where it stands in an expression itself
      pub forwarded_meets : (v : Tree) → type_tree Gs i.ty ≡ Some v → Where.form i.result ≡ Forwarded → Meets W Found Where (Usable b) b i
      forwarded_meets v shaped form = by_other (is_other (operation_kind_of i.op)) refl
        where
          some : i.ty ≡ 0 → ⊥
          some lacks = none_some (sym (ap (λ q. option_map_or (tree_at Gs) q None) right.results.none) ∙ (ap (type_tree Gs) (sym lacks) ∙ shaped))

          typed : has_type i.op ≡ true
          typed = has_a_type i ((inside s entry right Fn in_it).formed i stands) some

          no_pointer_type : (is_chain i.op ≡ true) ⊎ (is i.op code.Variable ≡ true) → MeetsKind W Found Where (Usable b) b i kind.Other
          no_pointer_type on = absurd (k.no_pointer i listed on v shaped)

          named : is_always_named i.op ≡ true → MeetsKind W Found Where (Usable b) b i kind.Other
          named on = always_text s entry right kinds o unit u p among b r.holder i r.there r.within (made typed) names structs (shaped_value Gs i.ty v shaped) on (r.kept (made typed)) r.here

          by_other : (c : Bool) → is_other (operation_kind_of i.op) ≡ c → Meets W Found Where (Usable b) b i
          by_other false off = value_meets (op_shaped i.op (no_other_of (operation_kind_of i.op) off)) (operation_kind_of i.op) refl (no_other_of (operation_kind_of i.op) off)
          by_other true on =
              let other = other_of (operation_kind_of i.op) on in
              subst (MeetsKind W Found Where (Usable b) b i) (sym other)
              (elim (either_of (is_always_named i.op) (is_chain i.op) (is i.op code.Variable) (other_named i.op other typed (k.inner i listed))) [
                | inl always ↦ named always
                | inr pointer ↦ no_pointer_type pointer
              ])

    abbrev Below : List ℕ → Type 0
    Below = AreBelow (Ranks s entry right kinds o unit u p among) 17

    pub below : (ids : List ℕ) → Below ids
    below [] = tt
    below (n ∷ ns) = ((let low = (ranked s entry right kinds o unit u p among b).low n in let less : Ranks s entry right kinds o unit u p among n < 17 = omega (arith, low) in less), below ns)

    -- a value is no struct
    no_struct : (n : ℕ) → Usable b n → is_struct_key Gs (Id (id n)) ≡ false
    no_struct n v = by_type (type_in Gs Fn n) refl v.shaped
      where
        by_type : (q : Option ℕ) → type_in Gs Fn n ≡ q → type_tree Gs (unwrap_or q 0) ≡ Some v.shape → is_struct_key Gs (Id (id n)) ≡ false
        by_type None told shaped = none_some (sym (ap (λ x. option_map_or (tree_at Gs) x None) right.results.none) ∙ shaped)
        by_type (Some ty) told shaped = value_other s entry right kinds o unit u p among names structs n ty told

    word_fits : (n : ℕ) → FitsIfSome (word_at Where.setting n)
    word_fits n = by_global (global Gs n) refl
      where
        by_global : (q : Option Inst) → global Gs n ≡ q → FitsIfSome (option_and_then (literal_word Where.setting) q)
        by_global None at = tt
        by_global (Some g) at = literal_fits Where.setting g (k.plain g (found_in Gs n g at).0)

    abbrev IsWayOf : ℕ → Type 0
    IsWayOf n = (W.value (text_of Found (Id (id n))) × (Where.form n ≡ Forwarded → ⊥)) ⊎ ((i : Inst) × IsForwardedBy Where n i × Meets W Found Where (Usable b) b i)

    value_ways : (n : ℕ) → Usable b n → Where.setting.global n ≡ None → IsWayOf n
    value_ways n v local = by_way (ways s entry right kinds o unit u p among b n v local)
      where
        by_result : (j : Inst) → inst_in Fn n ≡ Some j → Where.form n ≡ Forwarded → (place : ℕ) → inst_at Fn b place ≡ Some j → IsLive Fn Marks b place → type_tree Gs j.ty ≡ Some v.shape → IsWayOf n
        by_result j made form place at live shaped =
            let result_is : j.result ≡ n = (found_in (insts_of Fn) n j made).1 in
            let form_is : Where.form j.result ≡ Forwarded = ap Where.form result_is ∙ form in
            let w = some_part (λ (c : Block). slice_get c.insts place) (slice_get Fn.blocks b) j at in
            inr (
              j,
              record { local = local; form = form; there = made },
              forwarded_meets j (record { place = place; holder = w.0; there = w.1; within = at_place w.0.insts place j w.2; at = at; here = v.mentioned.here; live = live; kept = λ some. ap is_gone form_is }) v.shape shaped form_is,
            )

        by_way : (HasName Found (Id (id n)) × (Where.form n ≡ Forwarded → ⊥)) ⊎ ((j : Inst) × ((inst_in Fn n ≡ Some j) × (Where.form n ≡ Forwarded) × ((place : ℕ) × (inst_at Fn b place ≡ Some j) × IsLive Fn Marks b place) × (type_tree Gs j.ty ≡ Some v.shape))) → IsWayOf n
        by_way (inl named) = inl (own_text s entry right kinds o unit u p among names structs (Id (id n)) named.0 refl (no_struct n v), named.1)
        by_way (inr w) = by_result w.0 w.1.0 w.1.1 w.1.2.0 w.1.2.1 w.1.2.2 w.1.3

    -- what the values of the block ask for
    pub block_asked : IsAsked W Found Where (Usable b) b
    block_asked = record {
      read = λ n e v is_it. k.reads b n v.user v.mentioned e is_it;
      words = word_fits;
      ways = value_ways;
      lowered_is = refl;
    }

    abbrev One : Inst → Type 0
    One = MeetsOne W (built_in_value Gs Found u.lawful names structs) (axes_told Found) Found Where (Usable b) b block_asked (Ranks s entry right kinds o unit u p among) (ranked s entry right kinds o unit u p among b) (barrier_values Gs Found u.lawful names structs)

    abbrev Each : List Inst → Type 0
    Each = MeetEach W (built_in_value Gs Found u.lawful names structs) (axes_told Found) Found Where (Usable b) b block_asked (Ranks s entry right kinds o unit u p among) (ranked s entry right kinds o unit u p among b) (barrier_values Gs Found u.lawful names structs)

    one_meets : (here : slice_index_or Marks b false ≡ true) (holder : Block) (i : Inst) → slice_get Fn.blocks b ≡ Some holder → IsIn i holder.insts → One i
    one_meets here holder i there inside_it =
        let place = placed_in Fn b holder i there inside_it in
        elim (live_or_gone s entry right kinds o unit u p among b holder i there inside_it place.0 place.1 here) [
          | inl run ↦ inr (below (operand_ids i), inst_meets i run (kind_of i.op) refl)
          | inr silent ↦ inl silent
        ]

    all_meet : (here : slice_index_or Marks b false ≡ true) (holder : Block) → slice_get Fn.blocks b ≡ Some holder → (is : List Inst) → ((i : Inst) → IsIn i is → IsIn i holder.insts) → Each is
    all_meet here holder there [] sub = tt
    all_meet here holder there (i ∷ is) sub = (one_meets here holder i there (sub i (inl refl)), all_meet here holder there is (λ j j_in. sub j (inr j_in)))

    -- the law: the statements of a reached block
    pub block_uses : slice_index_or Marks b false ≡ true → EachStmt W (block_text Where b)
    block_uses here = by_block (slice_get Fn.blocks b) refl
      where
        by_block : (q : Option Block) → slice_get Fn.blocks b ≡ q → EachStmt W (flat_map (λ (i : Inst). inst_text Where b i (kind_of i.op)) (option_map_or (λ (c : Block). c.insts) (slice_get Fn.blocks b) []))
        by_block None is_it = subst (λ (q : Option Block). EachStmt W (flat_map (λ (i : Inst). inst_text Where b i (kind_of i.op)) (option_map_or (λ (c : Block). c.insts) q []))) (sym is_it) tt
        by_block (Some holder) is_it =
            subst (λ (q : Option Block). EachStmt W (flat_map (λ (i : Inst). inst_text Where b i (kind_of i.op)) (option_map_or (λ (c : Block). c.insts) q []))) (sym is_it)
            (insts-use W (built_in_value Gs Found u.lawful names structs) (axes_told Found) Found Where (Usable b) b block_asked (Ranks s entry right kinds o unit u p among) (ranked s entry right kinds o unit u p among b) (barrier_values Gs Found u.lawful names structs) holder.insts
            (all_meet here holder is_it holder.insts (λ i i_in. i_in)))
