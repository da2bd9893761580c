-- What a live operation on scalars and vectors asks for: its operands are usable, and it asks of types only how many components they have.
use Rattle.std.proofs.Common.{◌≡◌, ◌&&◌, ◌==◌, ℕ, Bool, true, false, List, [], ◌∷◌, drop, Option, Some, None, cond, find, option_map, inl, inr, refl, sym, ap, ◌∙◌, subst}
use Rattle.std.specs.Prelude.{slice_index, slice_index_or}
use Rattle.std.specs.Option.{option_map_or}
use Rattle.std.specs.List.{list_all}
use Rattle.std.proofs.lemmas.Option.{same_Some}
use Rattle.spv_ops.specs.Opcode.{is, number}
use Rattle.spv_ops.specs.OpGroups.{group_of}
use Rattle.spv_ops.specs.declared.Op.{Op}
use Rattle.spv_ops.specs.declared.Op.TheVariants as code
use Rattle.spv_module.specs.Held.{global}
use Rattle.spv_module.specs.declared.inst.Inst.{Inst}
use Rattle.spv_module.specs.declared.inst.Function.{Function}
use Rattle.spv_types.specs.Tree.{Tree, boolean, int, uint, vector, array, runtime, struct}
use Rattle.spv_types.specs.Types.{tree_at, type_tree}
use Rattle.spv_index.specs.Locals.{insts_of}
use Rattle.op_semantics.specs.declared.operation.Operation.{Operation}
use Rattle.op_semantics.specs.declared.operation.Operation.TheVariants as op
use Rattle.op_semantics.specs.Value.{operation, operation_of, operation_in, extended_opcodes}
use Rattle.conformance.specs.Rules.{Options}
use Rattle.module_semantics.specs.Setting.{Setting}
use Rattle.use_chains.specs.Slots.{inst_at, IsLive}
use Rattle.glsl_ast.specs.Tree.{TranslationUnit}
use Rattle.vec_lowering.specs.Named.{Naming}
use Rattle.vec_lowering.specs.Composite.{Argument}
use Rattle.text_rules.specs.Outlines.{basic_of, basic_at, basic}
use Rattle.expr_forward.specs.declared.kinds.OperationKind.{OperationKind}
use Rattle.expr_forward.specs.declared.kinds.OperationKind.TheVariants as kind
use Rattle.expr_forward.specs.Kinds.{kind_of, operation_kind_of}
use Rattle.expr_forward.specs.Scope.{Scope, globals}
use Rattle.expr_forward.specs.Values.{value_words}
use Rattle.function_text.specs.Functions.{FunctionPlan}
use Rattle.unit_rules.specs.Unit.{IsUnitOf}
use Rattle.claim_law.specs.Ranked.{ids_by_kind, operand_ids}
use Rattle.claim_law.specs.Uses.{Words}
use Rattle.claim_law.specs.Named.{FitsShape, IsNamedType, Asks, AsksIfAny}
use Rattle.claim_law.specs.Asked.{AreUsable, AsksOf, MeetsKind}
use Rattle.claim_law.proofs.Spell.Values.{basic-fits}
use Rattle.typed_law.specs.Conforms.{IsConforming}
use Rattle.claim_law.specs.Claimed.{IsIn}
use Rattle.grammar_law.specs.Mentioned.{IsValueIn}
use Rattle.grammar_law.proofs.Unit.Ways.{HaveKinds, Found, F, R, V}
use Rattle.grammar_law.proofs.Unit.Usable.{operand_usable}

-- operations that ask of no type by its name
abbrev asks_none : Operation → Bool
asks_none (op.Unary o) = true
asks_none (op.Binary o) = true
asks_none (op.Clamp o) = true
asks_none _ = false

-- an operation with an operator or a function
abbrev is_simple : OperationKind → Bool
is_simple kind.Plain = true
is_simple kind.Extended = true
is_simple _ = false

rows_ask_none : list_all (λ (r : ℕ × Operation). asks_none r.1) extended_opcodes ≡ true
rows_ask_none = refl

row_asks_none : (rows : List (ℕ × Operation)) (n : ℕ) (o : Operation) → list_all (λ (r : ℕ × Operation). asks_none r.1) rows ≡ true → operation_in rows n ≡ Some o → asks_none o ≡ true
row_asks_none [] n o all is = cc
row_asks_none (r ∷ rows) n o all is = by_test (r.0 == n) (asks_none r.1) refl all is (row_asks_none rows n o)
  where
    by_test : (b v : Bool) → asks_none r.1 ≡ v → (v && list_all (λ (q : ℕ × Operation). asks_none q.1) rows) ≡ true → option_map (λ (q : ℕ × Operation). q.1) (cond b (Some r) (find (λ (q : ℕ × Operation). q.0 == n) rows)) ≡ Some o
        → (list_all (λ (q : ℕ × Operation). asks_none q.1) rows ≡ true → operation_in rows n ≡ Some o → asks_none o ≡ true) → asks_none o ≡ true
    by_test b false none all is later = cc
    by_test true true none all is later = ap asks_none (sym (same_Some r.1 o is)) ∙ none
    by_test false true none all is later = later all is

module _ (W : Words) (names : Naming) where
  none_asked : (c : Op) (o : Operation) (t : Tree) (literals : List ℕ) (xs : List Argument) → asks_none o ≡ true → Asks W names c o t literals xs
  none_asked c (op.Unary o) t literals xs none = tt
  none_asked c (op.Binary o) t literals xs none = tt
  none_asked c (op.Clamp o) t literals xs none = tt
  none_asked c op.Copy t literals xs none = absurd cc
  none_asked c op.VectorShuffle t literals xs none = absurd cc
  none_asked c op.CompositeConstruct t literals xs none = absurd cc
  none_asked c op.CompositeExtract t literals xs none = absurd cc
  none_asked c o t literals xs none = tt

  extended_asked : (c : Op) (q : Option Operation) (t : Tree) (literals : List ℕ) (xs : List Argument) → ((o : Operation) → q ≡ Some o → asks_none o ≡ true) → AsksIfAny W names c q t literals xs
  extended_asked c None t literals xs none = tt
  extended_asked c (Some o) t literals xs none = none_asked c o t literals xs (none o refl)

  pub plain_asked : (o : Op) (n : ℕ) (t : Tree) (literals : List ℕ) (xs : List Argument) → is_simple (operation_kind_of o) ≡ true → IsNamedType W names t → AsksIfAny W names o (operation_of o (n ∷ [])) t literals xs
  unfolding operation_kind_of kind_of group_of operation operation_of number
  plain_asked code.VectorShuffle n t literals xs simple named = named
  plain_asked code.CompositeConstruct n t literals xs simple named = named
  plain_asked code.CompositeExtract n t literals xs simple named = absurd cc
  plain_asked code.CopyObject n t literals xs simple named = absurd cc
  plain_asked code.CopyLogical n t literals xs simple named = absurd cc
  plain_asked code.Bitcast n t literals xs simple named = λ e. absurd cc
  plain_asked code.ExtInst n t literals xs simple named = extended_asked code.ExtInst (operation_in extended_opcodes n) t literals xs (λ o is. row_asks_none extended_opcodes n o rows_ask_none is)
  plain_asked o n t literals xs simple named = tt

  -- a scalar or a vector of two to four
  shape_named : (q : Option Tree) → FitsShape (basic_of q) → IsNamedType W names (basic_of q)
  shape_named None fits = tt
  shape_named (Some boolean) fits = tt
  shape_named (Some int) fits = tt
  shape_named (Some uint) fits = tt
  shape_named (Some (vector e n)) fits = fits
  shape_named (Some (array t l)) fits = tt
  shape_named (Some (runtime t)) fits = tt
  shape_named (Some (struct n ts)) fits = tt

  pub basic_named : (gs : List Inst) (ty : ℕ) → IsNamedType W names (basic gs ty)
  basic_named gs ty = by_global (global gs ty) (basic-fits gs ty)
    where
      by_global : (q : Option Inst) → FitsShape (option_map_or (basic_at gs) q uint) → IsNamedType W names (option_map_or (basic_at gs) q uint)
      by_global None fits = tt
      by_global (Some g) fits = shape_named (tree_at gs g) fits

module _ (s : Setting) (entry : Option (List ℕ)) (right : IsConforming s.of entry) (kinds : HaveKinds s.of.globals) (o : Options) (unit : TranslationUnit) (u : IsUnitOf s.of o unit) (p : FunctionPlan) (among : IsIn p u.plans) (W : Words) where
  abbrev Fn : Function
  Fn = F s entry right kinds o unit u p among

  abbrev Marks : List Bool
  Marks = R s entry right kinds o unit u p among

  abbrev Where : Scope
  Where = V s entry right kinds o unit u p among

  abbrev Names : Naming
  Names = Found s entry right kinds o unit u p among

  module _ (block place : ℕ) (i : Inst) (there : inst_at Fn block place ≡ Some i) (stands : IsIn i (insts_of Fn)) (here : slice_index_or Marks block false ≡ true) (live : IsLive Fn Marks block place) (t : Tree) (shaped : type_tree s.of.globals i.ty ≡ Some t) where
    abbrev Usable : ℕ → Type 0
    Usable = IsValueIn Where Marks block

    all_usable : (ids : List ℕ) → ((id : ℕ) → IsIn id ids → IsIn id (operand_ids i)) → AreUsable W Names Where Usable ids
    all_usable [] sub = tt
    all_usable (id ∷ ids) sub = (operand_usable s entry right kinds o unit u p among block place i there stands here live t shaped id (sub id (inl refl)), all_usable ids (λ k k_in. sub k (inr k_in)))

    operands_by : (k : OperationKind) → operation_kind_of i.op ≡ k → (id : ℕ) → IsIn id (ids_by_kind k i) → IsIn id (operand_ids i)
    operands_by k is id there = subst (λ (q : OperationKind). IsIn id (ids_by_kind q i)) (sym is) there

    simple_asked : (n : ℕ) (args : List ℕ) → is_simple (operation_kind_of i.op) ≡ true → AsksOf W Names Where Usable n i args
    simple_asked n args simple value = plain_asked W Names i.op n _ _ _ simple (basic_named W Names (globals Where) i.ty)

    pub plain_meets : operation_kind_of i.op ≡ kind.Plain → MeetsKind W Names Where Usable block i kind.Plain
    plain_meets is = (all_usable (value_words i.op i.args) (operands_by kind.Plain is), simple_asked 0 i.args (ap is_simple is))

    pub extended_meets : operation_kind_of i.op ≡ kind.Extended → MeetsKind W Names Where Usable block i kind.Extended
    extended_meets is = (all_usable (value_words i.op (drop 2 i.args)) (operands_by kind.Extended is), simple_asked (slice_index i.args 1) (drop 2 i.args) (ap is_simple is))

    pub copy_meets : operation_kind_of i.op ≡ kind.CopyObject → MeetsKind W Names Where Usable block i kind.CopyObject
    copy_meets is = operand_usable s entry right kinds o unit u p among block place i there stands here live t shaped (slice_index i.args 0) (operands_by kind.CopyObject is (slice_index i.args 0) (inl refl))

    -- the operands of a constructor, and the whole of which a part is taken
    pub construct_usable : operation_kind_of i.op ≡ kind.CompositeConstruct → AreUsable W Names Where Usable i.args
    construct_usable is = all_usable i.args (operands_by kind.CompositeConstruct is)

    pub extract_usable : operation_kind_of i.op ≡ kind.CompositeExtract → Usable (slice_index i.args 0)
    extract_usable is = operand_usable s entry right kinds o unit u p among block place i there stands here live t shaped (slice_index i.args 0) (operands_by kind.CompositeExtract is (slice_index i.args 0) (inl refl))

    pub logical_usable : operation_kind_of i.op ≡ kind.CopyLogical → Usable (slice_index i.args 0)
    logical_usable is = operand_usable s entry right kinds o unit u p among block place i there stands here live t shaped (slice_index i.args 0) (operands_by kind.CopyLogical is (slice_index i.args 0) (inl refl))
