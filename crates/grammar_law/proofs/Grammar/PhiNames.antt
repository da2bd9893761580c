-- The result of a live phi has a name and a type of declared words, and what it takes from a reached block is read by its name or is a constant of such words.
use Rattle.std.proofs.Common.{◌≡◌, ◌<◌, ◌+◌, ◌%◌, ◌==◌, ◌&&◌, ◌||◌, not, ℕ, Bool, true, false, List, length, filter, Contains, Option, Some, None, unwrap_or, refl, sym, ap, ◌∙◌, subst, if◌then◌else◌}
use Rattle.std.specs.Prelude.{slice_get, slice_index, slice_index_or, option_and_then}
use Rattle.std.specs.Option.{option_map_or, option_or}
use Rattle.std.specs.List.{enumerate_from, list_any}
use Rattle.std.proofs.lemmas.Bool.{or_left, or_right, and_from}
use Rattle.std.proofs.lemmas.Option.{same_Some}
use Rattle.spv_ops.specs.Opcode.{is, number}
use Rattle.spv_ops.specs.OpGroups.{group_of, takes_of}
use Rattle.spv_ops.specs.Operands.{is_id}
use Rattle.spv_ops.specs.Shape.{shape}
use Rattle.spv_ops.specs.Groups.{is_chain}
use Rattle.spv_ops.specs.Enumerants.{class_number, decoration_number}
use Rattle.spv_ops.specs.declared.Op.{Op}
use Rattle.spv_ops.specs.declared.Op.TheVariants as code
use Rattle.spv_ops.specs.declared.Decoration.TheVariants as decoration
use Rattle.spv_ops.specs.declared.StorageClass.TheVariants as storage
use Rattle.spv_module.specs.Held.{global}
use Rattle.spv_module.specs.Inst.{has_type, has_result}
use Rattle.spv_module.specs.Lists.{id}
use Rattle.spv_module.specs.declared.inst.Inst.{Inst}
use Rattle.spv_module.specs.declared.inst.Block.{Block}
use Rattle.spv_module.specs.declared.inst.Function.{Function}
use Rattle.spv_types.specs.Tree.{Tree}
use Rattle.spv_types.specs.Types.{tree_at, type_tree}
use Rattle.spv_types.specs.Leaves.{IsSized}
use Rattle.spv_decor.specs.Rows.{value_of}
use Rattle.spv_index.specs.Locals.{insts_of, block_in, typed, local_type, type_in}
use Rattle.structure_rules.specs.declared.graph.Node.{Node}
use Rattle.structure_rules.specs.Graph.{graph, nth}
use Rattle.profile_rules.specs.Operands.{need, is_there_in}
use Rattle.profile_rules.specs.declared.needs.Need.TheVariants.{PhiValue, Label}
use Rattle.profile_rules.specs.FlowRules.{every_second, is_from_elsewhere, breaks_t22}
use Rattle.profile_rules.specs.TypeRows.{is_other}
use Rattle.profile_rules.specs.TypeRules.{is_flow_broken}
use Rattle.spv_index.specs.ValueTypes.{is_no_value_type}
use Rattle.conformance.specs.Rules.{Options}
use Rattle.list_law.proofs.Numbers.{number_same, number_other}
use Rattle.list_law.proofs.Lists.{place_of}
use Rattle.fits_law.specs.State.{value_shape}
use Rattle.module_semantics.specs.Setting.{Setting}
use Rattle.use_chains.specs.Slots.{is_value, is_taken, is_label_reached, is_slot, inst_at, IsLive, operands, mentions}
use Rattle.hoist_plan.specs.Plan.{is_always_named, mention_block, is_elsewhere_by, repeats_operands, wants_by}
use Rattle.name_alloc.specs.declared.claims.Key.TheVariants.{Id}
use Rattle.name_alloc.specs.Naming.{name_of}
use Rattle.glsl_ast.specs.Tree.{Expr, name, TranslationUnit}
use Rattle.glsl_grammar.specs.Read.{is_declared}
use Rattle.text_rules.specs.Constants.{Source, is_constant, constant_expr}
use Rattle.text_rules.specs.Declarations.{type_at}
use Rattle.text_rules.specs.Printed.{is_named, is_written_struct}
use Rattle.text_items.specs.Globals.{built_in_text, is_input, global_by}
use Rattle.expr_forward.specs.Scope.{Scope, type_of}
use Rattle.expr_forward.specs.Values.{variable as name_expr}
use Rattle.function_plan.specs.Phis.{is_gone, is_constant_id, source_by, source_of}
use Rattle.function_text.specs.Functions.{FunctionPlan, written, constant_text, source_expr}
use Rattle.unit_rules.specs.Translation.{Naming, text_of, id_text, names_of}
use Rattle.unit_rules.specs.Unit as unit_rules
use Rattle.unit_rules.specs.Unit.{claims_by, liveness_of, IsUnitOf}
use Rattle.claim_law.specs.Uses.{Words, UsesType, UsesExpr}
use Rattle.claim_law.specs.Blocks.{FitWords}
use Rattle.plan_law.specs.InOrder.{IsAmong}
use Rattle.type_law.proofs.Vectors.{three_off}
use Rattle.typed_law.specs.Conforms.{IsConforming}
use Rattle.typed_law.specs.Words.{AreGivenWords}
use Rattle.typed_law.proofs.Lists.{and_left, from_zero}
use Rattle.typed_law.proofs.Rules.{operand_there, flow_right}
use Rattle.typed_law.proofs.Values.{HasType, global_row, global_typed_some, variable_type_is, value_type_has, inside, local_row, typed_source, own_type, type_suits}
use Rattle.typed_law.proofs.Shapes.{shaped_type}
use Rattle.typed_law.proofs.Others.{typed_some, phi_group}
use Rattle.typed_law.proofs.Calls.{variable_typed}
use Rattle.claim_law.specs.Claimed.{IsIn, IsOf, HasName}
use Rattle.claim_law.proofs.Claim.Listed.{in_flat, in_mapped, at_place, any_in}
use Rattle.claim_law.proofs.Claim.Constants.{found_in, mention_in, constant_named}
use Rattle.grammar_law.specs.Mentioned.{IsMentioned}
use Rattle.grammar_law.specs.Words.{words_of, AreOfStructs}
use Rattle.grammar_law.proofs.Unit.Lists.{in_filter, none_passes, numbered_first, as_among}
use Rattle.grammar_law.proofs.Unit.Links.{placed_in, mention_at}
use Rattle.grammar_law.proofs.Unit.Shaped.{pointer_none, shaped_value}
use Rattle.grammar_law.proofs.Unit.Structs.{Written, named_type_uses}
use Rattle.grammar_law.proofs.Unit.TypesWritten.{kept_live, live_type_written}
use Rattle.grammar_law.proofs.Unit.ValueNames.{result_names}
use Rattle.grammar_law.proofs.Unit.Ways.{HaveKinds, F, R, V, in_module, plan_is, written_is, reached_nth, wanted_named}
use Rattle.grammar_law.proofs.Unit.Sets.{own_text}
use Rattle.grammar_law.proofs.Unit.Carried.{always_text}
use Rattle.grammar_law.proofs.Unit.Indexes.{value_other}
use Rattle.grammar_law.proofs.Grammar.Readings.{constant_uses}
use Rattle.grammar_law.proofs.Grammar.Lengths.{lengths_use}

-- opcodes
pub phi_typed : (o : Op) → is o code.Phi ≡ true → (has_type o ≡ true) × (has_result o ≡ true)
unfolding number shape
phi_typed code.Phi on = (refl, refl)
phi_typed o on = cc

pub phi_always : (o : Op) → is o code.Phi ≡ true → is_always_named o ≡ true
unfolding number group_of
phi_always code.Phi on = refl
phi_always o on = cc

pub phi_slot : (o : Op) (args : List ℕ) (k : ℕ) → is o code.Phi ≡ true → (k % 2 == 0) ≡ true → (is_id o args k ≡ true) × (is_value o k ≡ true) × (need o k ≡ PhiValue)
unfolding number is_id need takes_of group_of
phi_slot code.Phi args k on even = (from_zero k, even, ap (λ (b : Bool). if b then PhiValue else Label) even)
phi_slot o args k on even = cc

constant_at : (q : Option Inst) → option_map_or is_constant q false ≡ true → (g : Inst) × (q ≡ Some g) × (is_constant g ≡ true)
constant_at None on = cc
constant_at (Some g) on = (g, refl, on)

module _ (s : Setting) (entry : Option (List ℕ)) (right : IsConforming s.of entry) (kinds : HaveKinds s.of.globals) (o : Options) (unit : TranslationUnit) (u : IsUnitOf s.of o unit) (p : FunctionPlan) (among : IsIn p u.plans) (names : List (List ℕ)) (structs : AreOfStructs s.of.globals (name_of u.claimed) names)
    (declared : (g : Inst) → IsIn g s.of.globals → is_written_struct (unit_rules.source_of s.of o u.entry) (Written s.of o unit u) g ≡ true → is_declared names (id_text (name_of u.claimed) g.result) ≡ true)
    (words : (g : Inst) → IsIn g s.of.globals → FitWords g.args) (given : AreGivenWords o.overrides)
    (lives : (c place : ℕ) (i : Inst) → inst_at (F s entry right kinds o unit u p among) c place ≡ Some i → is_gone ((V s entry right kinds o unit u p among).form i.result) ≡ false → IsLive (F s entry right kinds o unit u p among) (R s entry right kinds o unit u p among) c place) where
  abbrev Gs : List Inst
  Gs = s.of.globals

  abbrev Found : Naming
  Found = name_of u.claimed

  abbrev Fn : Function
  Fn = F s entry right kinds o unit u p among

  abbrev Marks : List Bool
  Marks = R s entry right kinds o unit u p among

  abbrev Where : Scope
  Where = V s entry right kinds o unit u p among

  abbrev W : Words
  W = words_of s.of.globals (name_of u.claimed) names

  abbrev Src : Source
  Src = unit_rules.source_of s.of o u.entry

  in_it : Contains s.of.functions Fn
  in_it = in_module s entry right kinds o unit u p among

  pub marked : (c : ℕ) → (nth (graph Fn) c).reached ≡ true → slice_index_or Marks c false ≡ true
  marked c reached = reached_nth (graph Fn) c ∙ reached

  -- a live phi of a reached block
  module _ (t : ℕ) (holder : Block) (i : Inst) (there : slice_get Fn.blocks t ≡ Some holder) (inside_it : IsIn i holder.insts) (phi : is i.op code.Phi ≡ true) (kept : is_gone (Where.form i.result) ≡ false) (reached : (nth (graph Fn) t).reached ≡ true) where
    i_in : IsIn i (insts_of Fn)
    i_in = in_flat (λ (b : Block). b.insts) Fn.blocks holder i (at_place Fn.blocks t holder there) inside_it

    i_among : IsAmong i (insts_of Fn)
    i_among = as_among (insts_of Fn) i i_in

    abbrev of_it : IsOf (claims_by Src p) i
    of_it = record { number = t; block = holder; there = subst (λ (f : Function). slice_get f.blocks t ≡ Some holder) (sym (written_is s entry right kinds o unit u p among)) there; among = inside_it }

    scoped : is_gone (p.scope.form i.result) ≡ false
    scoped = ap (λ (w : Scope). is_gone (w.form i.result)) (plan_is s entry right kinds o unit u p among).scope_is ∙ kept

    told_reached : slice_index_or (liveness_of Src p).reached t false ≡ true
    told_reached = reached_nth p.graph t ∙ (ap (λ (g : List Node). (nth g t).reached) (plan_is s entry right kinds o unit u p among).graph_is ∙ reached)

    some : i.result ≡ 0 → ⊥
    some = ((inside s entry right Fn in_it).formed i i_among).result (phi_typed i.op phi).1

    some_type : i.ty ≡ 0 → ⊥
    some_type = typed_some s entry right Fn in_it i i_among (phi_typed i.op phi).0

    -- T22
    told : (is_no_value_type s.of.heads Gs i.ty ≡ false) × (list_any (is_other Gs (type_in Gs Fn) i.ty) (every_second 0 i.args) ≡ false)
    told =
        let b = flow_right s.of entry right Fn in_it i i_among in
        let off : breaks_t22 s.of.heads Gs (type_in Gs Fn) Fn b.0 i ≡ false = ap (is_flow_broken s.of Fn b.0 i) (sym (phi_group i.op phi)) ∙ b.1 in
        let parts = three_off (is_no_value_type s.of.heads Gs i.ty) (list_any (is_other Gs (type_in Gs Fn) i.ty) (every_second 0 i.args)) (is_from_elsewhere Fn b.0.label.0 i) off in
        (parts.0, parts.1)

    pub shaped : (v : Tree) × (type_tree Gs i.ty ≡ Some v) × IsSized v
    shaped = let g = local_row s entry right Fn in_it i i_among some_type in value_type_has s entry right i.ty (g.0, g.1, type_suits i.op g.0 g.2) told.0

    -- its result
    pub target_value : W.value (text_of Found (Id (id i.result)))
    target_value = always_text s entry right kinds o unit u p among t holder i there inside_it some names structs (shaped_value Gs i.ty shaped.0 shaped.1) (phi_always i.op phi) kept (marked t reached)

    own_type_is : type_of Where i.result ≡ i.ty
    own_type_is = ap (λ (q : Option ℕ). unwrap_or q 0) (own_type s entry right Fn in_it i i_among some_type)

    pub target_type : UsesType W (type_at Src (names_of Found) (type_of Where i.result))
    target_type =
        subst (λ (ty : ℕ). UsesType W (type_at Src (names_of Found) ty)) (sym own_type_is)
        (named_type_uses s.of o unit u names declared (lengths_use s.of entry right o unit u words given names structs) i.ty shaped.0 shaped.1
        (result_names s entry right kinds o unit u p among i i_in some_type shaped.0 shaped.1 (live_type_written s.of o unit u p among i of_it told_reached scoped)))

    -- what it takes from a reached block
    module _ (k n b : ℕ) (at : slice_get i.args k ≡ Some n) (even : (k % 2 == 0) ≡ true) (from : block_in Fn (slice_index i.args (k + 1)) ≡ Some b) (here : (nth (graph Fn) b).reached ≡ true) where
      below : (k < length i.args) × (slice_index i.args k ≡ n)
      below = place_of i.args k n at

      pub slot_in : (f : Function) (marks : List Bool) → block_in f (slice_index i.args (k + 1)) ≡ Some b → slice_index_or marks b false ≡ true → is_slot f marks i k ≡ true
      slot_in f marks found on =
          let parts = phi_slot i.op i.args k phi even in
          and_from (is_id i.op i.args k) (is_value i.op k && is_taken f marks i k) parts.0
          (and_from (is_value i.op k) (is_taken f marks i k) parts.1
          (or_right (not (is i.op code.Phi)) (is_label_reached f marks (slice_index i.args (k + 1))) (ap (λ (q : Option ℕ). option_map_or (λ (c : ℕ). slice_index_or marks c false) q false) found ∙ on)))

      pub place : (j : ℕ) × (inst_at Fn t j ≡ Some i)
      place = placed_in Fn t holder i there inside_it

      abbrev mentioned : IsMentioned Fn Marks t i n
      mentioned = record { place = place.0; arg = k; there = place.1; here = marked t reached; live = lives t place.0 i place.1 kept; slot = slot_in Fn Marks from (marked b here); word = at }

      type_has : HasType s entry right Fn in_it n
      type_has =
          let parts = phi_slot i.op i.args k phi even in
          let has = operand_there (is_there_in s.of Fn i.at) i ((inside s entry right Fn in_it).order.there i i_among) k below.0 parts.0 in
          typed_source s entry right Fn in_it i.at n (subst (λ (x : ℕ). is_there_in s.of Fn i.at PhiValue x ≡ true) below.1 (subst (λ q. is_there_in s.of Fn i.at q (slice_index i.args k) ≡ true) parts.2 has))

      same_type : is_other Gs (type_in Gs Fn) i.ty n ≡ false
      same_type =
          none_passes (is_other Gs (type_in Gs Fn) i.ty) (every_second 0 i.args) n
          (in_mapped (λ (q : ℕ × ℕ). q.1) (filter (λ (q : ℕ × ℕ). q.0 % 2 == 0) (enumerate_from 0 i.args)) (k, n) (in_filter (λ (q : ℕ × ℕ). q.0 % 2 == 0) (enumerate_from 0 i.args) (k, n) (numbered_first i.args k n at) even))
          told.1

      value_is : value_shape s Fn n ≡ Some shaped.0
      value_is = shaped_type s entry right Fn in_it i.ty n shaped.0 shaped.1 type_has same_type

      pub type_is : (ty : ℕ) × (type_in Gs Fn n ≡ Some ty) × (type_tree Gs ty ≡ Some shaped.0)
      type_is = by_type (type_in Gs Fn n) refl value_is
        where
          by_type : (q : Option ℕ) → type_in Gs Fn n ≡ q → option_and_then (type_tree Gs) q ≡ Some shaped.0 → (ty : ℕ) × (type_in Gs Fn n ≡ Some ty) × (type_tree Gs ty ≡ Some shaped.0)
          by_type None is_it e = cc
          by_type (Some ty) is_it e = (ty, is_it, e)

      pub whole : type_tree Gs (type_of Where n) ≡ Some shaped.0
      whole = ap (λ (q : Option ℕ). type_tree Gs (unwrap_or q 0)) type_is.1 ∙ type_is.2

      -- it is no variable outside of functions
      pub no_variable : (g : Inst) → global Gs n ≡ Some g → is g.op code.Variable ≡ true → ⊥
      no_variable g found on =
          let g_in = (found_in Gs n g found).0 in
          let typed_is : g.ty ≡ 0 → ⊥ = (λ lacks. global_typed_some s entry right g (as_among Gs g g_in) (variable_typed g.op on) lacks) in
          let row = global_row s entry right g (as_among Gs g g_in) typed_is in
          let own : typed g ≡ Some g.ty = ap (λ (b : Bool). if b then None else Some g.ty) (number_other g.ty 0 typed_is) in
          let same : type_in Gs Fn n ≡ Some g.ty = ap (λ (q : Option Inst). option_or (option_and_then typed q) (local_type Fn n)) found ∙ ap (λ (q : Option ℕ). option_or q (local_type Fn n)) own in
          let of_type : type_tree Gs g.ty ≡ Some shaped.0 = ap (type_tree Gs) (same_Some g.ty type_is.0 (sym same ∙ type_is.1)) ∙ type_is.2 in
          pointer_none Gs row.0 shaped.0 (variable_type_is g.op row.0 on row.2) (ap (λ (q : Option Inst). option_map_or (tree_at Gs) q None) (sym row.1) ∙ of_type)

      -- it is read by its name, where it is no constant
      abbrev input_expr : Inst → Expr
      input_expr g = name (built_in_text (unwrap_or (value_of s.of.heads g.result (decoration_number decoration.BuiltIn)) 0))

      pub reads_none : is_constant_id Gs n ≡ false → Where.setting.global n ≡ None
      reads_none other = by_global (global Gs n) refl
        where
          by_input : (g : Inst) → global Gs n ≡ Some g → (b : Bool) → is_input g ≡ b → (if b then Some (input_expr g) else None) ≡ None
          by_input g found false off = refl
          by_input g found true on = absurd (no_variable g found (and_left (is g.op code.Variable) (slice_index g.args 0 == class_number storage.Input) on))

          by_global : (q : Option Inst) → global Gs n ≡ q → Where.setting.global n ≡ None
          by_global None found = ap (option_and_then (global_by Src (id_text Found))) found
          by_global (Some g) found =
              let off : is_constant g ≡ false = ap (λ (q : Option Inst). option_map_or is_constant q false) (sym found) ∙ other in
              ap (option_and_then (global_by Src (id_text Found))) found
              ∙ (ap (λ (b : Bool). if b then Some (constant_expr Src (id_text Found) g) else (if is_input g then Some (input_expr g) else None)) off ∙ by_input g found (is_input g) refl)

      counts : (mention_block Fn (mention_at Fn Marks t i n mentioned) i ≡ b) × (slice_index_or Marks b false ≡ true)
      counts = (
        ap (λ (x : Bool). if x then unwrap_or (block_in Fn (slice_index i.args (k + 1))) t else t) phi ∙ ap (λ (q : Option ℕ). unwrap_or q t) from,
        marked b here,
      )

      pub wants : (c : ℕ) → wants_by Gs Fn c (mention_at Fn Marks t i n mentioned) i ≡ true
      wants c =
          or_right (is_elsewhere_by Fn c (mention_at Fn Marks t i n mentioned) i) (is i.op code.Phi || ((is_chain i.op && not (k == 0)) || repeats_operands Gs Fn i))
          (or_left (is i.op code.Phi) ((is_chain i.op && not (k == 0)) || repeats_operands Gs Fn i) phi)

      variable_value : is_constant_id Gs n ≡ false → W.value (text_of Found (Id (id n)))
      variable_value other =
          own_text s entry right kinds o unit u p among names structs (Id (id n))
          (wanted_named s entry right kinds o unit u p among t n i mentioned b counts wants shaped.0 whole (reads_none other)).0 refl
          (value_other s entry right kinds o unit u p among names structs n type_is.0 type_is.1)

      -- a constant is written of declared words
      listed : list_any (λ (x : ℕ). x == n) (mentions (written p) (liveness_of Src p).reached i) ≡ true
      listed =
          any_in (λ (x : ℕ). x == n) (mentions (written p) (liveness_of Src p).reached i) n
          (in_mapped (λ (operand : ℕ × ℕ). operand.1) (operands (written p) (liveness_of Src p).reached i) (k, n)
          (in_filter (λ (operand : ℕ × ℕ). is_slot (written p) (liveness_of Src p).reached i operand.0) (enumerate_from 0 i.args) (k, n) (numbered_first i.args k n at)
          (slot_in (written p) (liveness_of Src p).reached (subst (λ (f : Function). block_in f (slice_index i.args (k + 1)) ≡ Some b) (sym (written_is s entry right kinds o unit u p among)) from)
          (reached_nth p.graph b ∙ (ap (λ (g : List Node). (nth g b).reached) (plan_is s entry right kinds o unit u p among).graph_is ∙ here)))))
          (number_same n n refl)

      constant_value : is_constant_id Gs n ≡ true → UsesExpr W (constant_text Where n)
      constant_value on =
          let g = constant_at (global Gs n) on in
          let own = found_in Gs n g.0 g.1 in
          let expr : Where.setting.global n ≡ Some (constant_expr Src (id_text Found) g.0) =
          ap (option_and_then (global_by Src (id_text Found))) g.1
          ∙ ap (λ (b : Bool). if b then Some (constant_expr Src (id_text Found) g.0) else (if is_input g.0 then Some (input_expr g.0) else None)) g.2 in
          subst (λ (q : Option Expr). UsesExpr W (unwrap_or q (name_expr Where n))) (sym expr)
          (constant_uses s.of entry right o unit u words given names structs g.0 own.0 g.2
          (λ reads. subst (λ (x : ℕ). HasName Found (Id (id x))) (sym own.1) (constant_named s.of o unit u n g.0 (mention_in s.of o unit u p i n among of_it told_reached (kept_live p.scope.form i scoped) listed) g.1 g.2 (ap is_named reads))))

      -- the law
      pub source_uses : UsesExpr W (source_expr Where (source_of Gs n))
      source_uses = by_constant (is_constant_id Gs n) refl
        where
          by_constant : (c : Bool) → is_constant_id Gs n ≡ c → UsesExpr W (source_expr Where (source_by c n))
          by_constant true on = constant_value on
          by_constant false off = variable_value off
