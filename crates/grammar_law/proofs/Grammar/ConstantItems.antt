-- A constant that is declared has a name, a type of declared words, and a value that is made of those of its operands.
use Rattle.std.proofs.Common.{◌≡◌, ◌<◌, ◌==◌, ◌&&◌, ◌||◌, ℕ, Bool, true, false, List, [], ◌∷◌, ◌++◌, length, map, Option, Some, None, inl, inr, refl, sym, ap, ◌∙◌, subst, if◌then◌else◌}
use Rattle.std.specs.Prelude.{◌+◌, ◌⊎◌, flat_map, is_some, option_map, option_and_then, slice_index}
use Rattle.std.specs.Option.{option_map_or}
use Rattle.std.specs.List.{enumerate_from, list_any}
use Rattle.std.proofs.lemmas.Bool.Decides.{eqb_tells}
use Rattle.std.proofs.lemmas.Bool.{or_right}
use Rattle.std.proofs.lemmas.Option.{same_Some}
use Rattle.spv_ops.specs.Opcode.{number}
use Rattle.spv_ops.specs.OpGroups.{group_of, takes_of}
use Rattle.spv_ops.specs.Operands.{is_id}
use Rattle.spv_ops.specs.Groups.{is_constant as is_constant_op}
use Rattle.spv_ops.specs.Enumerants.{decoration_number}
use Rattle.spv_ops.specs.declared.Op.{Op}
use Rattle.spv_ops.specs.declared.Op.TheVariants as code
use Rattle.spv_ops.specs.declared.Decoration.TheVariants as decoration
use Rattle.spv_module.specs.State.{ModuleState}
use Rattle.spv_module.specs.Held.{global}
use Rattle.spv_module.specs.Lists.{id}
use Rattle.spv_module.specs.declared.inst.Inst.{Inst}
use Rattle.spv_types.specs.Leaves.{IsSized}
use Rattle.spv_types.specs.Tree.{Tree}
use Rattle.spv_types.specs.Types.{type_tree, earlier}
use Rattle.spv_decor.specs.Rows.{word, first_row, has_key}
use Rattle.spv_index.specs.Locals.{global_type}
use Rattle.spv_index.specs.ValueTypes.{is_no_value_type}
use Rattle.profile_rules.specs.declared.constant.ConstantKind.{ConstantKind}
use Rattle.profile_rules.specs.declared.constant.ConstantKind.TheVariants as kinds
use Rattle.profile_rules.specs.declared.needs.Need.TheVariants.{Constant}
use Rattle.profile_rules.specs.declared.given.Given.{Given}
use Rattle.profile_rules.specs.Constants.{constant_kind, given_to}
use Rattle.profile_rules.specs.Operands.{need, suits, is_there, breaks_t1}
use Rattle.profile_rules.specs.TypeRows.{fails, is_bool, is_int, type_row}
use Rattle.profile_rules.specs.ValueRules.{misfit}
use Rattle.profile_rules.specs.TypeRules.{broken_if, rule_of, is_value_broken, is_number_broken, is_broken_outside, broken_as, broken_inside, broken_by_global, broken_by_function}
use Rattle.spv_words.specs.declared.rule.Rule.TheVariants.{T1}
use Rattle.conformance.specs.Rules.{Options}
use Rattle.name_alloc.specs.declared.claims.Key.TheVariants.{Id}
use Rattle.name_alloc.specs.Naming.{name_of}
use Rattle.glsl_ast.specs.Tree.{literal, TranslationUnit}
use Rattle.glsl_ast.specs.declared.expressions.Literal.TheVariants.{Uint}
use Rattle.glsl_grammar.specs.Spelled.{FitsWord, IsSpelledId, IsSpelledLiteral}
use Rattle.text_rules.specs.Constants.{if_free, free_spec_id, is_constant, reading, constant_shape, plain_value, plain_literal, constant_expr}
use Rattle.text_rules.specs.Declarations.{Names, type_at, zero_at, expr_at, value_by, constant_decl}
use Rattle.text_rules.specs.Printed.{is_named, has_operand, needs_constant, is_needed, is_written_variable, is_declared_constant, has_struct}
use Rattle.unit_rules.specs.Unit.{source_of, IsUnitOf}
use Rattle.list_law.proofs.Lists.{place_of}
use Rattle.claim_law.specs.Uses.{Words, UsesType, UsesExpr, UseEach}
use Rattle.claim_law.specs.Units.{UsesDecl}
use Rattle.claim_law.specs.Blocks.{FitWords}
use Rattle.claim_law.proofs.Spell.Scalars.{each-uses}
use Rattle.typed_law.specs.Conforms.{IsConforming}
use Rattle.typed_law.specs.Words.{AreGivenWords}
use Rattle.typed_law.proofs.Lists.{and_left, or_left, none_left, none_right, none_among, some_by, earlier_some}
use Rattle.typed_law.proofs.Rules.{operand_there, global_there, refused}
use Rattle.typed_law.proofs.Values.{type_suits, global_row, global_typed_some, value_type_has}
use Rattle.global_law.specs.Within.{IsWithin, IsNoBlock}
use Rattle.global_law.proofs.Constant.Within.{typed_constant, constant_within}
use Rattle.global_law.proofs.Constant.Written.{own_type, held_by}
use Rattle.global_law.proofs.Constant.Needed.{operand_at, operand_needed}
use Rattle.global_law.proofs.Constant.Standing.{composite_ids}
use Rattle.claim_law.specs.Claimed.{IsIn}
use Rattle.claim_law.proofs.Claim.Constants.{found_in}
use Rattle.grammar_law.specs.Words.{words_of, AreOfStructs}
use Rattle.grammar_law.proofs.Unit.Lists.{found_by, as_among, of_numbered_first}
use Rattle.grammar_law.proofs.Grammar.Readings.{none_fits, literal_fits, plain_fits, constant_uses}
use Rattle.grammar_law.proofs.Grammar.Lengths.{lengths_use, declared_named, needed_declared}
use Rattle.grammar_law.proofs.Grammar.Callees.{placed_at}
use Rattle.grammar_law.proofs.Grammar.Held.{Written, Run, Held, AreDeclaredBefore, type_stands, zero_stands}
use Rattle.grammar_law.proofs.Grammar.StructItems.{N, nth_fits, key_is_name}

-- what a constant's rules say of its type (T2, T3)
constant_type : (m : ModuleState) (t : ℕ → Option ℕ) (i : Inst) (o : Op) → is_constant_op o ≡ true → is_value_broken m t i (group_of o) ≡ false → is_no_value_type m.heads m.globals i.ty ≡ false
unfolding group_of
constant_type m t i code.Undef on off = off
constant_type m t i code.ConstantTrue on off = or_left (is_no_value_type m.heads m.globals i.ty) (fails is_bool m.globals i.ty) off
constant_type m t i code.ConstantFalse on off = or_left (is_no_value_type m.heads m.globals i.ty) (fails is_bool m.globals i.ty) off
constant_type m t i code.Constant on off = or_left (is_no_value_type m.heads m.globals i.ty) (fails is_int m.globals i.ty) off
constant_type m t i code.ConstantComposite on off = or_left (is_no_value_type m.heads m.globals i.ty) (option_map_or (λ g. misfit m.globals t g i.args) (type_row m.globals i.ty) false) off
constant_type m t i code.ConstantNull on off = off
constant_type m t i code.SpecConstantTrue on off = or_left (is_no_value_type m.heads m.globals i.ty) (fails is_bool m.globals i.ty) off
constant_type m t i code.SpecConstantFalse on off = or_left (is_no_value_type m.heads m.globals i.ty) (fails is_bool m.globals i.ty) off
constant_type m t i code.SpecConstant on off = or_left (is_no_value_type m.heads m.globals i.ty) (fails is_int m.globals i.ty) off
constant_type m t i code.SpecConstantComposite on off = or_left (is_no_value_type m.heads m.globals i.ty) (option_map_or (λ g. misfit m.globals t g i.args) (type_row m.globals i.ty) false) off
constant_type m t i code.SpecConstantOp on off = off
constant_type m t i o on off = cc

-- operands are constants (T1)
abbrev pub has_operands : ConstantKind → Bool
has_operands kinds.Composite = true
has_operands kinds.Operation = true
has_operands _ = false

constant_need : (o : Op) (k : ℕ) → has_operands (constant_kind o) ≡ true → need o k ≡ Constant
unfolding need takes_of group_of constant_kind
constant_need code.ConstantComposite k on = refl
constant_need code.SpecConstantComposite k on = refl
constant_need code.SpecConstantOp k on = refl
constant_need o k on = cc

-- the place of an operand
pub record IsOperandAt (g : Inst) (n k : ℕ) : Type 0 where
  pub less : k < length g.args
  pub is_operand : is_id g.op g.args k ≡ true
  pub word_is : slice_index g.args k ≡ n

operand_place : (g : Inst) (n : ℕ) → has_operand g n ≡ true → (k : ℕ) × IsOperandAt g n k
operand_place g n on = from (enumerate_from 0 g.args) on (λ p p_in. p_in)
  where
    from : (ps : List (ℕ × ℕ)) → list_any (λ (p : ℕ × ℕ). is_id g.op g.args p.0 && (p.1 == n)) ps ≡ true → ((p : ℕ × ℕ) → IsIn p ps → IsIn p (enumerate_from 0 g.args)) → (k : ℕ) × IsOperandAt g n k
    from [] on sub = cc
    from (p ∷ ps) on sub = by_test (is_id g.op g.args p.0) refl (p.1 == n) (eqb_tells p.1 n) on (λ later. from ps later (λ q q_in. sub q (inr q_in)))
      where
        by_test : (a : Bool) → is_id g.op g.args p.0 ≡ a → (b : Bool) → ((b ≡ true) × (p.1 ≡ n)) ⊎ ((b ≡ false) × (p.1 ≡ n → ⊥)) → (a && b || list_any (λ (q : ℕ × ℕ). is_id g.op g.args q.0 && (q.1 == n)) ps) ≡ true → (list_any (λ (q : ℕ × ℕ). is_id g.op g.args q.0 && (q.1 == n)) ps ≡ true → (k : ℕ) × IsOperandAt g n k) → (k : ℕ) × IsOperandAt g n k
        by_test true ids b (inl w) on later =
            let at = place_of g.args p.0 p.1 (of_numbered_first g.args p.0 p.1 (sub p (inl refl))) in
            (p.0, record { less = at.0; is_operand = ids; word_is = at.1 ∙ w.1 })
        by_test false ids b w on later = later on
        by_test true ids true (inr w) on later = cc
        by_test true ids false (inr w) on later = later on

-- the SpecId that is written is a word
module _ (m : ModuleState) (o : Options) (entry : ℕ) (rows : (h : Inst) → IsIn h m.heads → FitWords h.args) where
  spec_fits : (n : ℕ) → IsSpelledId (free_spec_id (source_of m o entry) n)
  spec_fits n = by_row (first_row m.heads (number code.Decorate, n, 0, decoration_number decoration.SpecId)) refl
    where
      by_given : (spec : ℕ) (q : Option Given) → FitsWord spec → IsSpelledId (if is_some q then None else Some spec)
      by_given spec None low = low
      by_given spec (Some g) low = tt

      by_row : (q : Option Inst) → first_row m.heads (number code.Decorate, n, 0, decoration_number decoration.SpecId) ≡ q → IsSpelledId (option_and_then (if_free o.overrides) (option_map (λ (h : Inst). word h 2) q))
      by_row None at = tt
      by_row (Some h) at = by_given (word h 2) (given_to o.overrides (word h 2)) (nth_fits h.args 2 (rows h (found_by (has_key (number code.Decorate, n, 0, decoration_number decoration.SpecId)) m.heads h at).0))

-- the type of a constant has values
module _ (m : ModuleState) (entry : Option (List ℕ)) (right : IsConforming m entry) (o : Options) (unit : TranslationUnit) (u : IsUnitOf m o unit) (g : Inst) (there : IsIn g m.globals) where
  pub broken_none : broken_by_global m g ≡ []
  broken_none = none_among (broken_by_global m) m.globals g (none_left (flat_map (broken_by_global m) m.globals) (flat_map (broken_by_function m) m.functions) right.typed) (as_among m.globals g there)

  value_off : is_value_broken m (global_type m.globals) g (group_of g.op) ≡ false
  value_off =
      let outside = none_left (broken_as m g g.op) (broken_inside m g) (none_right (broken_if (breaks_t1 m.globals g) T1 g.at) (broken_as m g g.op ++ broken_inside m g) broken_none) in
      or_left (is_value_broken m (global_type m.globals) g (group_of g.op)) (is_number_broken m.globals (global_type m.globals) g (group_of g.op)) (refused (is_broken_outside m g (group_of g.op)) (rule_of (group_of g.op)) g.at outside)

  pub constant_typed : is_constant_op g.op ≡ true → (t : Tree) × (type_tree m.globals g.ty ≡ Some t) × IsSized t
  constant_typed on =
      let w = global_row (Run m entry right o unit u) entry right g (as_among m.globals g there) (global_typed_some (Run m entry right o unit u) entry right g (as_among m.globals g there) (typed_constant g.op on)) in
      value_type_has (Run m entry right o unit u) entry right g.ty (w.0, w.1, type_suits g.op w.0 w.2) (constant_type m (global_type m.globals) g g.op on value_off)

module _ (m : ModuleState) (entry : Option (List ℕ)) (right : IsConforming m entry) (o : Options) (unit : TranslationUnit) (u : IsUnitOf m o unit) (g : Inst) (there : IsIn g m.globals) (declared_here : is_declared_constant (source_of m o u.entry) (Written m entry right o unit u) g ≡ true) where
  abbrev Names_of : Names
  Names_of = N m entry right o unit u

  abbrev Gs : List Inst
  Gs = m.globals

  pub constant_is : is_constant_op g.op ≡ true
  constant_is = and_left (is_constant g) (is_named (reading (source_of m o u.entry) g) && (is_some (free_spec_id (source_of m o u.entry) g.result) || is_needed (source_of m o u.entry) (Written m entry right o unit u) g.result)) declared_here

  pub typed_as : (t : Tree) × (type_tree Gs g.ty ≡ Some t) × IsSized t
  typed_as = constant_typed m entry right o unit u g there constant_is

  held : (j : ℕ) → has_struct j typed_as.0 ≡ true → Held m entry right o unit u j
  held j has =
      held_by (Run m entry right o unit u) entry right o.overrides (Written m entry right o unit u) g j (as_among Gs g there)
      (or_right (is_written_variable (Written m entry right o unit u) g) (is_declared_constant (source_of m o u.entry) (Written m entry right o unit u) g) declared_here)
      (own_type (Run m entry right o unit u) entry right o.overrides (Written m entry right o unit u) g.ty j typed_as.0 typed_as.1 has)

  within : IsWithin (IsNoBlock m) m g.at typed_as.0
  within = constant_within m entry right g typed_as.0 (as_among Gs g there) constant_is typed_as.1

  -- an operand is a constant, and is needed
  module _ (n : ℕ) (on : has_operand g n ≡ true) where
    pub operand_is_needed : is_needed (source_of m o u.entry) (Written m entry right o unit u) n ≡ true
    operand_is_needed = operand_needed m entry right (source_of m o u.entry) (needs_constant (source_of m o u.entry) (Written m entry right o unit u)) Gs 0 right.rising (λ x x_in. x_in) g (as_among Gs g there) n declared_here on

    pub operand_constant : has_operands (constant_kind g.op) ≡ true → (h : Inst) → global Gs n ≡ Some h → is_constant_op h.op ≡ true
    operand_constant kind h at =
        let w = operand_place g n on in
        let there_is : is_there Gs g.at Constant n ≡ true = subst (λ (k : ℕ). is_there Gs g.at Constant k ≡ true) w.1.word_is (subst (λ q. is_there Gs g.at q (slice_index g.args w.0) ≡ true) (constant_need g.op w.0 kind) (operand_there (is_there Gs g.at) g (global_there m entry right g (as_among Gs g there)) w.0 w.1.less w.1.is_operand)) in
        let c = some_by (suits Constant) (earlier Gs g.at n) there_is in
        subst (λ (x : Inst). is_constant_op x.op ≡ true) (same_Some c.0 h (sym (earlier_some Gs g.at n c.0 c.1).0 ∙ at)) c.2

  module _ (words : (h : Inst) → IsIn h m.globals → FitWords h.args) (given : AreGivenWords o.overrides) (names : List (List ℕ)) (structs : AreOfStructs m.globals (name_of u.claimed) names) (declared : AreDeclaredBefore m entry right o unit u names g.at) where
    abbrev W : Words
    W = words_of m.globals (name_of u.claimed) names

    -- so the expression of an operand is made of declared words
    pub operand_uses : has_operands (constant_kind g.op) ≡ true → (n : ℕ) → has_operand g n ≡ true → (h : Inst) → global Gs n ≡ Some h → UsesExpr W (constant_expr (source_of m o u.entry) Names_of.id h)
    operand_uses kind n on h at =
        let own = found_in Gs n h at in
        let constant = operand_constant n on kind h at in
        constant_uses m entry right o unit u words given names structs h own.0 constant
        (λ reads. declared_named m entry right o unit u h own.0 constant (needed_declared m entry right o unit u h constant reads (subst (λ (k : ℕ). is_needed (source_of m o u.entry) (Written m entry right o unit u) k ≡ true) (sym own.1) (operand_is_needed n on))))

    operand_made : has_operands (constant_kind g.op) ≡ true → (n : ℕ) → has_operand g n ≡ true → UsesExpr W (expr_at (source_of m o u.entry) Names_of n)
    operand_made kind n on = by_global (global Gs n) refl
      where
        by_global : (x : Option Inst) → global Gs n ≡ x → UsesExpr W (option_map_or (constant_expr (source_of m o u.entry) Names_of.id) x (literal (Uint 0)))
        by_global None at = none_fits
        by_global (Some h) at = operand_uses kind n on h at

    each_made : (ns : List ℕ) → ((n : ℕ) → IsIn n ns → UsesExpr W (expr_at (source_of m o u.entry) Names_of n)) → UseEach W (map (expr_at (source_of m o u.entry) Names_of) ns)
    each_made [] each = tt
    each_made (n ∷ ns) each = (each n (inl refl), each_made ns (λ k k_in. each k (inr k_in)))

    type_made : UsesType W (type_at (source_of m o u.entry) Names_of g.ty)
    type_made = type_stands m entry right o unit u names g.at declared (lengths_use m entry right o unit u words given names structs) Names_of refl g.ty typed_as.0 typed_as.1 within held

    zero_made : UsesExpr W (zero_at (source_of m o u.entry) Names_of g.ty)
    zero_made = zero_stands m entry right o unit u names g.at declared (lengths_use m entry right o unit u words given names structs) Names_of refl g.ty typed_as.0 typed_as.1 within held

    literal_made : IsSpelledLiteral (plain_literal (source_of m o u.entry) g)
    literal_made = literal_fits (constant_shape (source_of m o u.entry) g) (plain_value (source_of m o u.entry) g) (plain_fits (source_of m o u.entry) given g (words g there))

    composite_made : constant_kind g.op ≡ kinds.Composite → UsesExpr W (value_by (source_of m o u.entry) Names_of g kinds.Composite)
    composite_made kind = (
      type_made,
      each-uses W (map (expr_at (source_of m o u.entry) Names_of) g.args)
          (each_made g.args (λ n n_in.
          let w = placed_at g.args n n_in in
          operand_made (ap has_operands kind) n (subst (λ (k : ℕ). has_operand g k ≡ true) w.2 (operand_at (is_id g.op g.args) g.args 0 w.0 w.1 (composite_ids g.op g.args (0 + w.0) kind))))),
    )

    -- the law, given what a calculated constant is written as
    module _ (calculated : constant_kind g.op ≡ kinds.Operation → UsesExpr W (Names_of.calculated g)) (rows : (h : Inst) → IsIn h m.heads → FitWords h.args) where
      value_made : (k : ConstantKind) → constant_kind g.op ≡ k → UsesExpr W (value_by (source_of m o u.entry) Names_of g k)
      value_made kinds.Composite kind = composite_made kind
      value_made kinds.Zero kind = zero_made
      value_made kinds.Operation kind = calculated kind
      value_made kinds.True kind = literal_made
      value_made kinds.False kind = literal_made
      value_made kinds.Word kind = literal_made
      value_made kinds.SpecTrue kind = literal_made
      value_made kinds.SpecFalse kind = literal_made
      value_made kinds.SpecWord kind = literal_made
      value_made kinds.Other kind = literal_made

      pub constant_made : UsesDecl W (constant_decl (source_of m o u.entry) Names_of g)
      constant_made = (spec_fits m o u.entry rows g.result, type_made, key_is_name m entry right o unit u (Id (id g.result)) (declared_named m entry right o unit u g there constant_is declared_here), value_made (constant_kind g.op) refl)
