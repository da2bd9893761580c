-- What is declared at the top of a function's text, its parameters and its result have names, and types of declared words.
use Rattle.std.proofs.Common.{◌≡◌, ◌<◌, ◌==◌, ◌&&◌, ◌||◌, not, ℕ, Bool, true, false, List, [], ◌∷◌, ◌++◌, drop, length, map, filter, Option, Some, None, Contains, inl, inr, refl, sym, ap, ◌∙◌, subst, if◌then◌else◌}
use Rattle.std.specs.Prelude.{◌⊎◌, ◌+◌, flat_map, nat_lt, option_and_then, unwrap_or, slice_get, slice_index, slice_index_or}
use Rattle.std.specs.Option.{option_map_or}
use Rattle.std.specs.List.{enumerate_from, list_any, filter_map, cons_option}
use Rattle.std.proofs.lemmas.Bool.{or_right as by_second, and_from, not-false}
use Rattle.spv_ops.specs.Opcode.{is, number}
use Rattle.spv_ops.specs.OpGroups.{group_of, takes_of}
use Rattle.spv_ops.specs.Operands.{is_id}
use Rattle.spv_ops.specs.Shape.{shape, is_pure}
use Rattle.spv_ops.specs.Groups.{is_chain, is_constant as is_constant_op, is_type as is_type_op}
use Rattle.spv_ops.specs.Enumerants.{class_number}
use Rattle.spv_ops.specs.declared.Op.{Op}
use Rattle.spv_ops.specs.declared.Op.TheVariants as code
use Rattle.spv_ops.specs.declared.StorageClass.TheVariants as storage
use Rattle.spv_module.specs.Inst.{has_type, has_result}
use Rattle.spv_module.specs.State.{ModuleState}
use Rattle.spv_module.specs.Held.{global}
use Rattle.spv_module.specs.Lists.{id}
use Rattle.spv_module.specs.declared.inst.Inst.{Inst}
use Rattle.spv_module.specs.declared.inst.Block.{Block}
use Rattle.spv_module.specs.declared.inst.Function.{Function}
use Rattle.spv_module.specs.declared.tree.Length.{Length}
use Rattle.spv_types.specs.Tree.{Tree}
use Rattle.spv_types.specs.Types.{type_tree}
use Rattle.spv_decor.specs.Rows.{word}
use Rattle.spv_decor.specs.Decorations.{local_insts}
use Rattle.spv_index.specs.BlockStructs.{is_block_struct, is_some_block}
use Rattle.spv_index.specs.Locals.{insts_of, type_in}
use Rattle.spv_index.specs.Pointers.{pointee}
use Rattle.structure_rules.specs.declared.graph.Node.{Node}
use Rattle.structure_rules.specs.Graph.{graph, nth}
use Rattle.profile_rules.specs.Places.{is_among, body_insts, is_defined_elsewhere, is_variable}
use Rattle.profile_rules.specs.TypeForm.{parts_of, pointee_by, pointees, value_types, signature_types, block_misuses}
use Rattle.profile_rules.specs.TypeRows.{is_type, if_type, is_int, fails, value_fails}
use Rattle.profile_rules.specs.TypeRules.{is_value_broken}
use Rattle.profile_rules.specs.ValueRules.{breaks_t6}
use Rattle.profile_rules.specs.Variables.{is_of_other_type, is_other_value}
use Rattle.conformance.specs.Rules.{Options}
use Rattle.module_semantics.specs.Setting.{Setting}
use Rattle.use_chains.specs.Slots.{is_value, is_taken, is_label_reached, is_slot, operands, mentions}
use Rattle.hoist_plan.specs.declared.form.Form.{Form}
use Rattle.hoist_plan.specs.declared.form.Form.TheVariants.{Gone, Forwarded, Local, Hoisted}
use Rattle.access_paths.specs.Ways.{indexes, captured_indexes}
use Rattle.name_alloc.specs.declared.claims.Key.TheVariants.{Id, Captured}
use Rattle.name_alloc.specs.Naming.{name_of}
use Rattle.glsl_ast.specs.Tree.{literal, Stmt, TranslationUnit}
use Rattle.glsl_ast.specs.declared.expressions.Literal.TheVariants.{Uint}
use Rattle.glsl_grammar.specs.Read.{is_declared}
use Rattle.text_rules.specs.Constants.{Source, constant_expr}
use Rattle.text_rules.specs.Declarations.{length_extent, pointee_at, type_at, zero_at, expr_at, initial}
use Rattle.text_rules.specs.Printed.{is_named, is_written_struct, written_types}
use Rattle.expr_forward.specs.Scope.{Scope, type_of}
use Rattle.expr_forward.specs.Statements.{captured_of}
use Rattle.function_plan.specs.Phis.{is_gone}
use Rattle.function_plan.specs.Planned.{is_live, has_name_by, captured_numbers}
use Rattle.function_text.specs.Functions.{FunctionPlan, written, variable_text, is_hoisted, hoisted_text, is_hoisted_in, captured_text, captured_texts_of, variables_text, hoisted_texts, captured_texts, in_blocks, top_text}
use Rattle.function_text.specs.Live.{is_composite_type, is_composite, is_wanted}
use Rattle.unit_rules.specs.Translation.{Naming, text_of, id_text, names_of}
use Rattle.unit_rules.specs.Unit.{claims_by, liveness_of, source_of, IsUnitOf}
use Rattle.list_law.proofs.Numbers.{number_same, less_is}
use Rattle.list_law.proofs.Lists.{second_at}
use Rattle.claim_law.specs.Uses.{Words, UsesExtent, UsesType, UsesExpr}
use Rattle.claim_law.specs.Statements.{UsesStmt, EachStmt}
use Rattle.claim_law.specs.Blocks.{FitWords}
use Rattle.plan_law.specs.InOrder.{IsAmong}
use Rattle.plan_law.proofs.Order.{among_right}
use Rattle.type_law.proofs.Vectors.{three_off}
use Rattle.typed_law.specs.Conforms.{IsConforming}
use Rattle.typed_law.specs.Words.{AreGivenWords}
use Rattle.typed_law.proofs.Lists.{and_off, or_left, or_right}
use Rattle.typed_law.proofs.Rules.{initializer_right, function_class, value_right}
use Rattle.typed_law.proofs.Types.{pointee_shaped}
use Rattle.typed_law.proofs.Used.{among_left, among_right as ids_right}
use Rattle.typed_law.proofs.Values.{variable_type_is, among_functions, inside, local_row}
use Rattle.typed_law.proofs.Others.{typed_some}
use Rattle.claim_law.specs.Claimed.{IsIn, IsOf, HasName}
use Rattle.claim_law.proofs.Claim.Listed.{in_flat, in_mapped, at_place, any_in}
use Rattle.claim_law.proofs.Claim.Constants.{found_in, mention_in, constant_named}
use Rattle.claim_law.proofs.Claim.Named.{captured_named}
use Rattle.grammar_law.specs.Types.{IsLengthOf}
use Rattle.grammar_law.specs.Words.{words_of, AreOfStructs}
use Rattle.grammar_law.proofs.Unit.Lists.{at_some, in_filter, of_filter, none_passes, in_either, of_flat, of_numbered_first, numbered_first, as_among}
use Rattle.grammar_law.proofs.Unit.Forms.{unmade_gone}
use Rattle.grammar_law.proofs.Unit.Free.{misused_free}
use Rattle.grammar_law.proofs.Unit.Structs.{Written, HasNames, written_names, named_type_uses, named_zero_uses}
use Rattle.grammar_law.proofs.Unit.TypesWritten.{type_written, top_type_written}
use Rattle.grammar_law.proofs.Unit.ValueNames.{result_names}
use Rattle.grammar_law.proofs.Unit.Ways.{HaveKinds, F, V, in_module, plan_is, written_is, reached_nth}
use Rattle.grammar_law.proofs.Unit.Sets.{own_text, formed_text}
use Rattle.grammar_law.proofs.Meets.Roots.{variable_impure}
use Rattle.grammar_law.proofs.Meets.LiveOrGone.{of_mapped}
use Rattle.grammar_law.proofs.Grammar.Readings.{none_fits, constant_uses}
use Rattle.grammar_law.proofs.Grammar.Lengths.{lengths_use}
use Rattle.grammar_law.proofs.Grammar.Listed.{each_stmt}
use Rattle.grammar_law.proofs.Grammar.TypeNames.{any_type_uses, flat_has}

-- opcodes
variable_typed : (o : Op) → is o code.Variable ≡ true → (has_type o ≡ true) × (has_result o ≡ true)
unfolding shape number
variable_typed code.Variable on = (refl, refl)
variable_typed o on = cc

variable_slot : (o : Op) (args : List ℕ) → is o code.Variable ≡ true → (is_id o args 1 ≡ true) × (is_value o 1 ≡ true) × (is o code.Phi ≡ false)
unfolding is_id number takes_of group_of
variable_slot code.Variable args on = (refl, refl, refl)
variable_slot o args on = cc

pub chain_right : (m : ModuleState) (t : ℕ → Option ℕ) (i : Inst) (o : Op) → is_chain o ≡ true → is_value_broken m t i (group_of o) ≡ false → breaks_t6 m.globals t i ≡ false
unfolding group_of
chain_right m t i code.AccessChain on off = off
chain_right m t i code.InBoundsAccessChain on off = off
chain_right m t i o on off = cc

-- types that are no composites
int_flat : (o : Op) → is o code.TypeInt ≡ true → is_composite_type o ≡ false
unfolding number
int_flat code.TypeInt on = refl
int_flat o on = cc

other_flat : (o : Op) → is_type_op o ≡ false → is_composite_type o ≡ false
other_flat code.TypeArray off = cc
other_flat o off = cc

-- a variable has a name, and it is live
variable_has : (x : Form) (reached on : Bool) → on ≡ true → has_name_by x reached on ≡ true
variable_has Hoisted reached on e = refl
variable_has Local true on e = refl
variable_has Local false on e = e
variable_has Gone reached on e = e
variable_has Forwarded reached on e = e

impure_live : (form : ℕ → Form) (i : Inst) → is_pure i.op ≡ false → is_live form i ≡ true
impure_live form i off = by_pure (is_pure i.op) off
  where
    by_pure : (a : Bool) → a ≡ false → elim a as (λ a. Bool) [ true ↦ elim (is_gone (form i.result)) as (λ b. Bool) [ true ↦ false | false ↦ true ] | false ↦ true ] ≡ true
    by_pure false e = refl
    by_pure true e = cc

-- what a variable of a function points to (P17)
pointee_among : (gs : List Inst) (test : Inst → Bool) (is : List Inst) (v : Inst) (q : ℕ) → IsAmong v is → is_variable v ≡ true → test v ≡ true → pointee gs v.ty ≡ Some q → is_among (filter_map (pointee_by gs test) is) q ≡ true
pointee_among gs test [] v q there on passed at = absurd there
pointee_among gs test (j ∷ is) v q (inl same) on passed at =
    subst (λ (x : Inst). is_among (filter_map (pointee_by gs test) (x ∷ is)) q ≡ true) (sym same)
    (subst (λ (x : Option ℕ). is_among (cons_option x (filter_map (pointee_by gs test) is)) q ≡ true) (sym (ap (λ (b : Bool). if b && test v then pointee gs v.ty else None) on ∙ (ap (λ (b : Bool). if b then pointee gs v.ty else None) passed ∙ at)))
    (ap (λ (b : Bool). b || is_among (filter_map (pointee_by gs test) is) q) (number_same q q refl)))
pointee_among gs test (j ∷ is) v q (inr there) on passed at = by_option (pointee_by gs test j) (pointee_among gs test is v q there on passed at)
  where
    by_option : (x : Option ℕ) → is_among (filter_map (pointee_by gs test) is) q ≡ true → is_among (cons_option x (filter_map (pointee_by gs test) is)) q ≡ true
    by_option None e = e
    by_option (Some y) e = by_second (y == q) (is_among (filter_map (pointee_by gs test) is) q) e

pub hoisted_is : (x : Form) → is_hoisted x ≡ true → x ≡ Hoisted
hoisted_is Hoisted on = refl
hoisted_is Gone on = cc
hoisted_is Forwarded on = cc
hoisted_is Local on = cc

module _ (s : Setting) (entry : Option (List ℕ)) (right : IsConforming s.of entry) (kinds : HaveKinds s.of.globals) (o : Options) (unit : TranslationUnit) (u : IsUnitOf s.of o unit) (p : FunctionPlan) (among : IsIn p u.plans) (names : List (List ℕ)) (structs : AreOfStructs s.of.globals (name_of u.claimed) names)
    (declared : (g : Inst) → IsIn g s.of.globals → is_written_struct (source_of s.of o u.entry) (Written s.of o unit u) g ≡ true → is_declared names (id_text (name_of u.claimed) g.result) ≡ true)
    (words : (g : Inst) → IsIn g s.of.globals → FitWords g.args) (given : AreGivenWords o.overrides) where
  abbrev Gs : List Inst
  Gs = s.of.globals

  abbrev Found : Naming
  Found = name_of u.claimed

  abbrev Fn : Function
  Fn = F s entry right kinds o unit u p among

  abbrev Where : Scope
  Where = V s entry right kinds o unit u p among

  abbrev W : Words
  W = words_of s.of.globals (name_of u.claimed) names

  abbrev Src : Source
  Src = source_of s.of o u.entry

  in_it : Contains s.of.functions Fn
  in_it = in_module s entry right kinds o unit u p among

  lengths : (l : Length) → IsLengthOf Gs l → UsesExtent W (length_extent Src (id_text Found) l)
  lengths = lengths_use s.of entry right o unit u words given names structs

  -- what is declared at the top is a result
  hoisted_some : (n : ℕ) → Where.form n ≡ Hoisted → n ≡ 0 → ⊥
  hoisted_some n top lacks = no_gone (sym top ∙ (ap Where.form lacks ∙ unmade_gone Gs Fn (plan_is s entry right kinds o unit u p among).links))
    where
      no_gone : Hoisted ≡ Gone → ⊥
      no_gone e = cc

  -- an instruction of the function
  module _ (c : ℕ) (holder : Block) (i : Inst) (there : slice_get Fn.blocks c ≡ Some holder) (inside_it : IsIn i holder.insts) where
    i_in : IsIn i (insts_of Fn)
    i_in = in_flat (λ (b : Block). b.insts) Fn.blocks holder i (at_place Fn.blocks c holder there) inside_it

    abbrev i_among : IsAmong i (insts_of Fn)
    i_among = as_among (insts_of Fn) i i_in

    abbrev of_it : IsOf (claims_by Src p) i
    of_it = record { number = c; block = holder; there = subst (λ (f : Function). slice_get f.blocks c ≡ Some holder) (sym (written_is s entry right kinds o unit u p among)) there; among = inside_it }

    scoped : p.scope.form i.result ≡ Where.form i.result
    scoped = ap (λ (w : Scope). w.form i.result) (plan_is s entry right kinds o unit u p among).scope_is

    -- a variable, of a reached block
    module _ (on : is i.op code.Variable ≡ true) (reached : (nth (graph Fn) c).reached ≡ true) where
      some : i.result ≡ 0 → ⊥
      some = ((inside s entry right Fn in_it).formed i i_among).result (variable_typed i.op on).1

      some_type : i.ty ≡ 0 → ⊥
      some_type = typed_some s entry right Fn in_it i i_among (variable_typed i.op on).0

      pub points : (q : ℕ) × (t : Tree) × (pointee Gs i.ty ≡ Some q) × (type_tree Gs q ≡ Some t)
      points = let g = local_row s entry right Fn in_it i i_among some_type in pointee_shaped s.of entry right i.ty g.0 g.1 (variable_type_is i.op g.0 on g.2)

      local : IsAmong i (local_insts s.of)
      local = among_functions s.of.functions Fn i in_it i_among

      body : IsAmong i (body_insts s.of)
      body = among_right i Gs (local_insts s.of) local

      -- its class is Function (P13)
      class_is : word i 0 ≡ class_number storage.Function
      class_is = function_class s.of entry right i local on

      no_block : is_some_block s.of.heads Gs i ≡ false
      no_block =
          ap (λ (n : ℕ). option_map_or (is_block_struct s.of.heads n) (pointee Gs i.ty) false) class_is
          ∙ ap (λ (x : Option ℕ). option_map_or (is_block_struct s.of.heads (class_number storage.Function)) x false) points.2

      misused : is_among (block_misuses s.of) points.0 ≡ true
      misused =
          among_left (flat_map parts_of Gs ++ pointees s.of (λ v. not (is_some_block s.of.heads Gs v)) ++ value_types s.of) (signature_types s.of) points.0
          (among_left (flat_map parts_of Gs ++ pointees s.of (λ v. not (is_some_block s.of.heads Gs v))) (value_types s.of) points.0
          (ids_right (flat_map parts_of Gs) (pointees s.of (λ v. not (is_some_block s.of.heads Gs v))) points.0
          (pointee_among Gs (λ v. not (is_some_block s.of.heads Gs v)) (body_insts s.of) i points.0 body on (ap not no_block) points.2)))

      marked : slice_index_or (liveness_of Src p).reached c false ≡ true
      marked = reached_nth p.graph c ∙ (ap (λ (g : List Node). (nth g c).reached) (plan_is s entry right kinds o unit u p among).graph_is ∙ reached)

      live : is_live p.scope.form i ≡ true
      live = impure_live p.scope.form i (variable_impure i.op on)

      listed : IsIn i.ty (written_types Src (Written s.of o unit u))
      listed = type_written s.of o unit u p among i of_it (ap (λ (b : Bool). if b then is_live p.scope.form i else is_wanted Gs p.scope.form p.scope.carried i) marked ∙ live)

      has_names : HasNames s.of o unit u points.1
      has_names = written_names s.of o unit u entry right i.ty points.0 points.1 listed (ap (λ (x : Option ℕ). option_map_or (λ p. p) x i.ty) points.2) points.3 (misused_free s.of entry right points.0 points.1 misused points.3)

      pub shaped : type_tree Gs (pointee_at Src i.ty) ≡ Some points.1
      shaped = ap (λ (x : Option ℕ). type_tree Gs (unwrap_or x i.ty)) points.2 ∙ points.3

      type_made : UsesType W (type_at Src (names_of Found) (pointee_at Src i.ty))
      type_made = named_type_uses s.of o unit u names declared lengths (pointee_at Src i.ty) points.1 shaped has_names

      zero_made : UsesExpr W (zero_at Src (names_of Found) (pointee_at Src i.ty))
      zero_made = named_zero_uses s.of o unit u names declared lengths (pointee_at Src i.ty) points.1 shaped has_names

      name_made : W.value (text_of Found (Id (id i.result)))
      name_made = formed_text s entry right kinds o unit u p among names structs c holder i there inside_it some (Where.form i.result) refl (variable_has (Where.form i.result) (nth p.graph c).reached (is i.op code.Variable) on)

      -- its first value is a constant (P16), which it mentions
      module _ (n : ℕ) (second : slice_get i.args 1 ≡ Some n) where
        place : (1 < length i.args) × (slice_index i.args 1 ≡ n)
        place = second_at i.args n second

        pub first_constant : (h : Inst) → global Gs n ≡ Some h → is_constant_op h.op ≡ true
        first_constant h at =
            let off = or_right (not ((word i 0 == class_number storage.Function) || (word i 0 == class_number storage.Private))) (is_other_value s.of i (word i 1))
            (and_off (is i.op code.Variable && nat_lt 1 (length i.args)) (not ((word i 0 == class_number storage.Function) || (word i 0 == class_number storage.Private)) || is_other_value s.of i (word i 1)) (initializer_right s.of entry right i body) (and_from (is i.op code.Variable) (nat_lt 1 (length i.args)) on (less_is 1 (length i.args) place.0))) in
            let there_is : global Gs (word i 1) ≡ Some h = ap (global Gs) place.1 ∙ at in
            not-false (is_constant_op h.op) (or_left (not (is_constant_op h.op)) (is_of_other_type Gs i h) (ap (λ (x : Option Inst). option_map_or (λ (g : Inst). not (is_constant_op g.op) || is_of_other_type Gs i g) x (is_defined_elsewhere s.of (word i 1))) (sym there_is) ∙ off))

        mentioned : list_any (λ (k : ℕ). k == n) (mentions (written p) (liveness_of Src p).reached i) ≡ true
        mentioned =
            any_in (λ (k : ℕ). k == n) (mentions (written p) (liveness_of Src p).reached i) n
            (in_mapped (λ (operand : ℕ × ℕ). operand.1) (operands (written p) (liveness_of Src p).reached i) (1, n)
            (in_filter (λ (operand : ℕ × ℕ). is_slot (written p) (liveness_of Src p).reached i operand.0) (enumerate_from 0 i.args) (1, n) (numbered_first i.args 1 n second) slot))
            (number_same n n refl)
          where
            parts : (is_id i.op i.args 1 ≡ true) × (is_value i.op 1 ≡ true) × (is i.op code.Phi ≡ false)
            parts = variable_slot i.op i.args on

            slot : is_slot (written p) (liveness_of Src p).reached i 1 ≡ true
            slot =
                and_from (is_id i.op i.args 1) (is_value i.op 1 && is_taken (written p) (liveness_of Src p).reached i 1) parts.0
                (and_from (is_value i.op 1) (is_taken (written p) (liveness_of Src p).reached i 1) parts.1 (ap (λ (b : Bool). not b || is_label_reached (written p) (liveness_of Src p).reached (slice_index i.args (1 + 1))) parts.2))

        first_made : (h : Inst) → global Gs n ≡ Some h → UsesExpr W (constant_expr Src (id_text Found) h)
        first_made h at =
            let own = found_in Gs n h at in
            let constant = first_constant h at in
            constant_uses s.of entry right o unit u words given names structs h own.0 constant
            (λ reads. subst (λ (k : ℕ). HasName Found (Id (id k))) (sym own.1) (constant_named s.of o unit u n h (mention_in s.of o unit u p i n among of_it marked live mentioned) at constant (ap is_named reads)))

      initial_made : UsesExpr W (initial Src (names_of Found) i)
      initial_made = by_second (slice_get i.args 1) refl
        where
          by_global : (n : ℕ) → slice_get i.args 1 ≡ Some n → (x : Option Inst) → global Gs n ≡ x → UsesExpr W (option_map_or (constant_expr Src (id_text Found)) x (literal (Uint 0)))
          by_global n second None at = none_fits
          by_global n second (Some h) at = first_made n second h at

          by_second : (x : Option ℕ) → slice_get i.args 1 ≡ x → UsesExpr W (option_map_or (expr_at Src (names_of Found)) x (zero_at Src (names_of Found) (pointee_at Src i.ty)))
          by_second None second = zero_made
          by_second (Some n) second = by_global n second (global Gs n) refl

      variable_made : UsesStmt W (variable_text Where i)
      variable_made = (type_made, name_made, initial_made)

    -- a result that is declared at the top
    module _ (top : Where.form i.result ≡ Hoisted) (some : i.result ≡ 0 → ⊥) where
      hoisted_type : UsesType W (type_at Src (names_of Found) i.ty)
      hoisted_type = any_type_uses s.of entry right o unit u names declared lengths i.ty (λ g t at shaped. by_composite (is_composite Gs i.ty) refl g t at shaped)
        where
          by_composite : (b : Bool) → is_composite Gs i.ty ≡ b → (g : Inst) (t : Tree) → global Gs i.ty ≡ Some g → type_tree Gs i.ty ≡ Some t → HasNames s.of o unit u t
          by_composite true on g t at shaped = result_names s entry right kinds o unit u p among i i_in (λ lacks. some_type lacks) t shaped (top_type_written s.of o unit u p among i of_it (scoped ∙ top) on)
            where
              some_type : i.ty ≡ 0 → ⊥
              some_type lacks = let never : None ≡ Some g = sym right.results.none ∙ (ap (global Gs) (sym lacks) ∙ at) in absurd cc
          by_composite false off g t at shaped = flat_has s.of entry right o unit u names declared lengths i.ty off g t at shaped

      hoisted_made : UsesStmt W (hoisted_text Where i)
      hoisted_made = (hoisted_type, formed_text s entry right kinds o unit u p among names structs c holder i there inside_it some Hoisted top refl, tt)

    -- a kept index of a chain
    module _ (n : ℕ × ℕ) (n_in : IsIn n (captured_of Where i)) where
      kept : (is_chain i.op ≡ true) × (Where.carried i.result ≡ true) × IsIn n (captured_indexes Gs i)
      kept = by_test (is_chain i.op) refl (Where.carried i.result) refl n_in
        where
          by_test : (a : Bool) → is_chain i.op ≡ a → (b : Bool) → Where.carried i.result ≡ b → IsIn n (if a && b then captured_indexes Gs i else []) → (is_chain i.op ≡ true) × (Where.carried i.result ≡ true) × IsIn n (captured_indexes Gs i)
          by_test true on true carried there = (on, carried, there)
          by_test true on false carried there = absurd there
          by_test false off b carried there = absurd there

      -- it is an index of the chain, and so an int (T6)
      index_in : IsIn n.1 (drop 1 i.args)
      index_in = at_place (drop 1 i.args) n.0 n.1 (of_numbered_first (indexes i) n.0 n.1 (of_filter _ (enumerate_from 0 (indexes i)) n kept.2).0)

      abbrev T : ℕ → Option ℕ
      T = type_in s.of.globals Fn

      index_int : value_fails is_int Gs T n.1 ≡ false
      index_int =
          let off = chain_right s.of T i i.op kept.0 (value_right s.of entry right Fn in_it i i_among) in
          none_passes (value_fails is_int Gs T) (drop 1 i.args) n.1 index_in (three_off _ (list_any (value_fails is_int Gs T) (drop 1 i.args)) _ off).1

      index_type : UsesType W (type_at Src (names_of Found) (type_of Where n.1))
      index_type = any_type_uses s.of entry right o unit u names declared lengths (type_of Where n.1) (λ g t at shaped. flat_has s.of entry right o unit u names declared lengths (type_of Where n.1) (flat g at) g t at shaped)
        where
          typed_int : (ty : ℕ) → fails is_int Gs ty ≡ false → (g : Inst) → global Gs ty ≡ Some g → is_composite_type g.op ≡ false
          typed_int ty off g at = by_type (is_type g) refl (ap (λ (x : Option Inst). option_map_or (λ (y : Inst). not (is_int y)) (option_and_then if_type x) false) (sym at) ∙ off)
            where
              by_type : (b : Bool) → is_type g ≡ b → option_map_or (λ (y : Inst). not (is_int y)) (if b then Some g else None) false ≡ false → is_composite_type g.op ≡ false
              by_type true typed told = int_flat g.op (not-false (is_int g) told)
              by_type false other told = other_flat g.op other

          flat : (g : Inst) → global Gs (type_of Where n.1) ≡ Some g → is_composite Gs (type_of Where n.1) ≡ false
          flat g at = ap (λ (x : Option Inst). option_map_or (λ (y : Inst). is_composite_type y.op) x false) at ∙ by_told (T n.1) refl index_int g at
            where
              by_told : (x : Option ℕ) → T n.1 ≡ x → option_map_or (fails is_int Gs) x false ≡ false → (g : Inst) → global Gs (unwrap_or (T n.1) 0) ≡ Some g → is_composite_type g.op ≡ false
              by_told None told off g at = let never : None ≡ Some g = sym right.results.none ∙ (ap (λ (x : Option ℕ). global Gs (unwrap_or x 0)) (sym told) ∙ at) in absurd cc
              by_told (Some ty) told off g at = typed_int ty off g (ap (λ (x : Option ℕ). global Gs (unwrap_or x 0)) (sym told) ∙ at)

      index_name : W.value (text_of Found (Captured (id i.result) n.0))
      index_name =
          own_text s entry right kinds o unit u p among names structs (Captured (id i.result) n.0)
          (captured_named s.of o unit u p i n.0 among of_it
          (subst (λ (w : Scope). IsIn n.0 (captured_numbers Gs w.carried i)) (sym (plan_is s entry right kinds o unit u p among).scope_is)
          (subst (λ (b : Bool). IsIn n.0 (if b then map (λ (k : ℕ × ℕ). k.0) (captured_indexes Gs i) else [])) (sym (and_from (is_chain i.op) (Where.carried i.result) kept.0 kept.1)) (in_mapped (λ (k : ℕ × ℕ). k.0) (captured_indexes Gs i) n kept.2)))) refl refl

      captured_made : UsesStmt W (captured_text Where i n)
      captured_made = (index_type, index_name, tt)

  -- all that stands at the top, where blocks with variables are reached
  pub top_made : (variables : (c : ℕ) (holder : Block) (i : Inst) → slice_get Fn.blocks c ≡ Some holder → IsIn i holder.insts → is i.op code.Variable ≡ true → (nth (graph Fn) c).reached ≡ true) → EachStmt W (top_text Where Fn.blocks)
  top_made variables = each_stmt W (top_text Where Fn.blocks) (λ x x_in. by_kind x (in_either x (in_blocks (variables_text Where) Fn.blocks) (in_blocks (hoisted_texts Where) Fn.blocks ++ in_blocks (captured_texts Where) Fn.blocks) x_in))
    where
      by_variable : (x : Stmt) → IsIn x (in_blocks (variables_text Where) Fn.blocks) → UsesStmt W x
      by_variable x x_in =
          let b = of_flat (λ (y : Block). variables_text Where y.insts) Fn.blocks x x_in in
          let c = at_some Fn.blocks b.0 b.1 in
          let i = of_mapped (variable_text Where) (filter is_variable b.0.insts) x b.2 in
          let on = of_filter is_variable b.0.insts i.0 i.1 in
          subst (UsesStmt W) i.2 (variable_made c.0 b.0 i.0 c.1 on.0 on.1 (variables c.0 b.0 i.0 c.1 on.0 on.1))

      by_hoisted : (x : Stmt) → IsIn x (in_blocks (hoisted_texts Where) Fn.blocks) → UsesStmt W x
      by_hoisted x x_in =
          let b = of_flat (λ (y : Block). hoisted_texts Where y.insts) Fn.blocks x x_in in
          let c = at_some Fn.blocks b.0 b.1 in
          let i = of_mapped (hoisted_text Where) (filter (is_hoisted_in Where) b.0.insts) x b.2 in
          let on = of_filter (is_hoisted_in Where) b.0.insts i.0 i.1 in
          let top = hoisted_is (Where.form i.0.result) on.1 in
          subst (UsesStmt W) i.2 (hoisted_made c.0 b.0 i.0 c.1 on.0 top (λ lacks. hoisted_some i.0.result top lacks))

      by_captured : (x : Stmt) → IsIn x (in_blocks (captured_texts Where) Fn.blocks) → UsesStmt W x
      by_captured x x_in =
          let b = of_flat (λ (y : Block). captured_texts Where y.insts) Fn.blocks x x_in in
          let c = at_some Fn.blocks b.0 b.1 in
          let i = of_flat (captured_texts_of Where) b.0.insts x b.2 in
          let n = of_mapped (captured_text Where i.0) (captured_of Where i.0) x i.2 in
          subst (UsesStmt W) n.2 (captured_made c.0 b.0 i.0 c.1 i.1 n.0 n.1)

      by_kind : (x : Stmt) → IsIn x (in_blocks (variables_text Where) Fn.blocks) ⊎ IsIn x (in_blocks (hoisted_texts Where) Fn.blocks ++ in_blocks (captured_texts Where) Fn.blocks) → UsesStmt W x
      by_kind x (inl variable) = by_variable x variable
      by_kind x (inr later) = elim (in_either x (in_blocks (hoisted_texts Where) Fn.blocks) (in_blocks (captured_texts Where) Fn.blocks) later) [ inl hoisted ↦ by_hoisted x hoisted | inr captured ↦ by_captured x captured ]
