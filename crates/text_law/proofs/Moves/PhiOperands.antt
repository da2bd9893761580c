-- What a phi takes from a reached block: a value of the phi's own type. Where it is no constant of the module, it has a variable, at the top of the function or in that block, and then it is done where the block ends.
use Rattle.std.proofs.Common.{◌≡◌, ◌<◌, ◌+◌, ◌%◌, ◌==◌, ◌&&◌, ◌||◌, not, ℕ, Bool, true, false, List, [], ◌∷◌, length, filter, Contains, Option, Some, None, unwrap_or, refl, sym, ap, ◌∙◌, subst, if◌then◌else◌, ◌⊎◌, ◌++◌, inl, inr}
use Rattle.std.specs.Prelude.{slice_get, slice_index, slice_index_or, option_and_then}
use Rattle.std.specs.Option.{option_map_or, option_or}
use Rattle.std.specs.List.{enumerate_from, list_any}
use Rattle.std.proofs.lemmas.Bool.{or_left, or_right, and_from}
use Rattle.std.proofs.lemmas.Option.{same_Some}
use Rattle.spv_ops.specs.Opcode.{is, number}
use Rattle.spv_ops.specs.Operands.{is_id}
use Rattle.spv_ops.specs.Shape.{shape}
use Rattle.spv_ops.specs.Groups.{is_chain, is_terminator}
use Rattle.spv_ops.specs.Enumerants.{class_number, decoration_number}
use Rattle.spv_ops.specs.declared.Op.{Op}
use Rattle.spv_ops.specs.declared.Op.TheVariants as code
use Rattle.spv_ops.specs.declared.Decoration.TheVariants as decoration
use Rattle.spv_ops.specs.declared.StorageClass.TheVariants as storage
use Rattle.spv_module.specs.Held.{global}
use Rattle.spv_module.specs.Inst.{has_type}
use Rattle.spv_module.specs.declared.inst.Inst.{Inst}
use Rattle.spv_module.specs.declared.inst.Block.{Block}
use Rattle.spv_module.specs.declared.inst.Function.{Function}
use Rattle.spv_types.specs.Tree.{Tree}
use Rattle.spv_types.specs.Types.{tree_at, type_tree}
use Rattle.spv_types.specs.Leaves.{IsSized}
use Rattle.spv_decor.specs.Rows.{value_of}
use Rattle.spv_index.specs.Locals.{insts_of, block_in, typed, local_type, type_in}
use Rattle.structure_rules.specs.declared.graph.Node.{Node}
use Rattle.structure_rules.specs.Graph.{graph, nth}
use Rattle.profile_rules.specs.Operands.{is_there_in}
use Rattle.profile_rules.specs.declared.needs.Need.TheVariants.{PhiValue}
use Rattle.profile_rules.specs.FlowRules.{every_second, is_from_elsewhere, breaks_t22}
use Rattle.profile_rules.specs.TypeRows.{is_other}
use Rattle.profile_rules.specs.TypeRules.{is_flow_broken}
use Rattle.spv_index.specs.ValueTypes.{is_no_value_type}
use Rattle.conformance.specs.Rules.{Options}
use Rattle.list_law.proofs.Lists.{place_of}
use Rattle.list_law.proofs.Tests.{and_left as left_on, off_on}
use Rattle.fits_law.specs.State.{value_shape}
use Rattle.module_semantics.specs.Setting.{Setting}
use Rattle.use_chains.specs.Slots.{is_value, is_taken, is_label_reached, is_slot, inst_at, IsLive, operands, mentions}
use Rattle.use_chains.specs.Links.{Link}
use Rattle.hoist_plan.specs.Plan.{mention_block, is_elsewhere_by, repeats_operands, wants_by, Placed, mentions_of, form_with}
use Rattle.name_alloc.specs.Naming.{name_of}
use Rattle.glsl_ast.specs.Tree.{Expr, name, TranslationUnit}
use Rattle.text_rules.specs.Constants.{Source, is_constant, constant_expr}
use Rattle.text_items.specs.Globals.{built_in_text, is_input, global_by}
use Rattle.expr_forward.specs.Scope.{Scope, type_of}
use Rattle.function_plan.specs.Phis.{is_gone, is_constant_id}
use Rattle.function_text.specs.Functions.{FunctionPlan, written}
use Rattle.unit_rules.specs.Translation.{Naming, id_text}
use Rattle.unit_rules.specs.Unit as unit_rules
use Rattle.unit_rules.specs.Unit.{claims_by, liveness_of, IsUnitOf}
use Rattle.plan_law.specs.InOrder.{IsAmong}
use Rattle.type_law.proofs.Vectors.{three_off}
use Rattle.typed_law.specs.Conforms.{IsConforming}
use Rattle.typed_law.proofs.Lists.{and_left}
use Rattle.typed_law.proofs.Rules.{operand_there, flow_right}
use Rattle.typed_law.proofs.Values.{HasType, global_row, global_typed_some, variable_type_is, value_type_has, inside, local_row, typed_source, own_type, type_suits, typed_result, has_a_type}
use Rattle.typed_law.proofs.Shapes.{shaped_type}
use Rattle.typed_law.proofs.Others.{typed_some, phi_group}
use Rattle.claim_law.specs.Claimed.{IsIn, IsOf as IsPlacedIn}
use Rattle.claim_law.proofs.Claim.Listed.{in_flat, in_mapped, at_place, any_in}
use Rattle.claim_law.proofs.Claim.Constants.{found_in, mention_in}
use Rattle.grammar_law.specs.Mentioned.{IsMentioned}
use Rattle.grammar_law.proofs.Unit.Lists.{same_test, other_test, in_filter, in_either, none_passes, numbered_first, as_among}
use Rattle.grammar_law.proofs.Unit.Links.{placed_in, mention_at, user_is, mention_stands}
use Rattle.grammar_law.proofs.Unit.Shaped.{pointer_none, shaped_value}
use Rattle.grammar_law.proofs.Unit.TypesWritten.{kept_live}
use Rattle.grammar_law.proofs.Unit.Ways.{HaveKinds, F, R, V, in_module, plan_is, written_is, reached_nth, ordered, home}
use Rattle.module_semantics.specs.Steps.{is_phi}
use Rattle.hoist_plan.specs.declared.form.Form.TheVariants.{Forwarded, Local}
use Rattle.agree_law.specs.Agree.{Naming as Names}
use Rattle.agree_law.specs.Blocks.{IsOf, have_result}
use Rattle.agree_law.specs.Points.{Body, behind}
use Rattle.call_law.specs.Known.{IsFunctionOf, LendsWhole}
use Rattle.grammar_law.specs.Formed.{IsFormedBlock, ArePhis}
use Rattle.text_law.specs.Names.{is_value_parameter, is_local_form}
use Rattle.text_law.proofs.Written.Done.{all_behind}
use Rattle.text_law.proofs.Written.Expressed.{local_no_phi}
use Rattle.text_law.proofs.Written.Outside.{no_global}
use Rattle.text_law.proofs.Written.Placed.{IsMadeBy, maker, IsPlaced, placed}
use Rattle.grammar_law.proofs.Formed.Blocks.{behind_is}
use Rattle.text_law.proofs.Written.Says.{have_done, AreNamesOf, local_form_is}
use Rattle.plan_law.proofs.Order.{in_order}
use Rattle.typed_law.proofs.Calls.{variable_typed}
use Rattle.text_law.proofs.Naming.Firsts.{of_in}
use Rattle.grammar_law.proofs.Unit.Forms.{is_placed, form_at, wanted_form, placed as placed_result}
use Rattle.grammar_law.proofs.Grammar.PhiNames.{phi_typed, phi_slot}

-- what ends a block has no type
by_end : (P : Op → Type 0) → P code.Branch → P code.BranchConditional → P code.Switch → P code.Return → P code.ReturnValue → P code.Unreachable → (o : Op) → is_terminator o ≡ true → P o
by_end P a b c d e f code.Branch on = a
by_end P a b c d e f code.BranchConditional on = b
by_end P a b c d e f code.Switch on = c
by_end P a b c d e f code.Return on = d
by_end P a b c d e f code.ReturnValue on = e
by_end P a b c d e f code.Unreachable on = f
by_end P a b c d e f o on = cc

end_untyped : (o : Op) → is_terminator o ≡ true → has_type o ≡ false
unfolding shape
end_untyped o on = by_end (λ (p : Op). has_type p ≡ false) refl refl refl refl refl refl o on

-- parts of lists
all_phi : (j : Inst) (hs : List Inst) → ArePhis hs → IsIn j hs → is_phi j ≡ true
all_phi j [] are there = absurd there
all_phi j (h ∷ hs) are (inl same) = subst (λ (x : Inst). is_phi x ≡ true) same are.0
all_phi j (h ∷ hs) are (inr there) = all_phi j hs are.1 there

abbrev rest_of : List Inst → List Inst
rest_of [] = []
rest_of (x ∷ xs) = xs

pub some_behind : {A : Type 0} (xs : List A) (x : A) → xs ++ x ∷ [] ≡ [] → ⊥
some_behind [] x e = cc
some_behind (y ∷ xs) x e = cc

last_same : (xs ys : List Inst) (a b : Inst) → xs ++ a ∷ [] ≡ ys ++ b ∷ [] → a ≡ b
last_same [] [] a b e = cc
last_same [] (y ∷ ys) a b e = absurd (some_behind ys b (sym (ap rest_of e)))
last_same (x ∷ xs) [] a b e = absurd (some_behind xs a (ap rest_of e))
last_same (x ∷ xs) (y ∷ ys) a b e = last_same xs ys a b (ap rest_of e)

module _ (s : Setting) (entry : Option (List ℕ)) (right : IsConforming s.of entry) (kinds : HaveKinds s.of.globals) (o : Options) (unit : TranslationUnit) (u : IsUnitOf s.of o unit) (p : FunctionPlan) (among : IsIn p u.plans)
    (lives : (c place : ℕ) (i : Inst) → inst_at (F s entry right kinds o unit u p among) c place ≡ Some i → is_gone ((V s entry right kinds o unit u p among).form i.result) ≡ false → IsLive (F s entry right kinds o unit u p among) (R s entry right kinds o unit u p among) c place) where
  abbrev Gs : List Inst
  Gs = s.of.globals

  abbrev Found : Naming
  Found = name_of u.claimed

  abbrev Fn : Function
  Fn = F s entry right kinds o unit u p among

  abbrev Marks : List Bool
  Marks = R s entry right kinds o unit u p among

  abbrev Where : Scope
  Where = V s entry right kinds o unit u p among

  abbrev Src : Source
  Src = unit_rules.source_of s.of o u.entry

  in_it : Contains s.of.functions Fn
  in_it = in_module s entry right kinds o unit u p among

  marked : (c : ℕ) → (nth (graph Fn) c).reached ≡ true → slice_index_or Marks c false ≡ true
  marked c reached = reached_nth (graph Fn) c ∙ reached

  -- a live phi of a reached block
  module _ (t : ℕ) (holder : Block) (i : Inst) (there : slice_get Fn.blocks t ≡ Some holder) (inside_it : IsIn i holder.insts) (phi : is i.op code.Phi ≡ true) (kept : is_gone (Where.form i.result) ≡ false) (reached : (nth (graph Fn) t).reached ≡ true) where
    pub i_in : IsIn i (insts_of Fn)
    i_in = in_flat (λ (b : Block). b.insts) Fn.blocks holder i (at_place Fn.blocks t holder there) inside_it

    i_among : IsAmong i (insts_of Fn)
    i_among = as_among (insts_of Fn) i i_in

    abbrev of_it : IsPlacedIn (claims_by Src p) i
    of_it = record { number = t; block = holder; there = subst (λ (f : Function). slice_get f.blocks t ≡ Some holder) (sym (written_is s entry right kinds o unit u p among)) there; among = inside_it }

    scoped : is_gone (p.scope.form i.result) ≡ false
    scoped = ap (λ (w : Scope). is_gone (w.form i.result)) (plan_is s entry right kinds o unit u p among).scope_is ∙ kept

    told_reached : slice_index_or (liveness_of Src p).reached t false ≡ true
    told_reached = reached_nth p.graph t ∙ (ap (λ (g : List Node). (nth g t).reached) (plan_is s entry right kinds o unit u p among).graph_is ∙ reached)

    some : i.result ≡ 0 → ⊥
    some = ((inside s entry right Fn in_it).formed i i_among).result (phi_typed i.op phi).1

    pub some_type : i.ty ≡ 0 → ⊥
    some_type = typed_some s entry right Fn in_it i i_among (phi_typed i.op phi).0

    -- T22: it is of a value type, and so are the values that it takes of its type
    told : (is_no_value_type s.of.heads Gs i.ty ≡ false) × (list_any (is_other Gs (type_in Gs Fn) i.ty) (every_second 0 i.args) ≡ false)
    told =
        let b = flow_right s.of entry right Fn in_it i i_among in
        let off : breaks_t22 s.of.heads Gs (type_in Gs Fn) Fn b.0 i ≡ false = ap (is_flow_broken s.of Fn b.0 i) (sym (phi_group i.op phi)) ∙ b.1 in
        let parts = three_off (is_no_value_type s.of.heads Gs i.ty) (list_any (is_other Gs (type_in Gs Fn) i.ty) (every_second 0 i.args)) (is_from_elsewhere Fn b.0.label.0 i) off in
        (parts.0, parts.1)

    -- its result has its type
    pub result_type : type_in Gs Fn i.result ≡ Some i.ty
    result_type = own_type s entry right Fn in_it i i_among some_type

    pub shaped : (v : Tree) × (type_tree Gs i.ty ≡ Some v) × IsSized v
    shaped = let g = local_row s entry right Fn in_it i i_among some_type in value_type_has s entry right i.ty (g.0, g.1, type_suits i.op g.0 g.2) told.0

    -- what it takes from a reached block
    module _ (k n b : ℕ) (at : slice_get i.args k ≡ Some n) (even : (k % 2 == 0) ≡ true) (from : block_in Fn (slice_index i.args (k + 1)) ≡ Some b) (here : (nth (graph Fn) b).reached ≡ true) where
      below : (k < length i.args) × (slice_index i.args k ≡ n)
      below = place_of i.args k n at

      slot_in : (f : Function) (marks : List Bool) → block_in f (slice_index i.args (k + 1)) ≡ Some b → slice_index_or marks b false ≡ true → is_slot f marks i k ≡ true
      slot_in f marks found on =
          let parts = phi_slot i.op i.args k phi even in
          and_from (is_id i.op i.args k) (is_value i.op k && is_taken f marks i k) parts.0
          (and_from (is_value i.op k) (is_taken f marks i k) parts.1
          (or_right (not (is i.op code.Phi)) (is_label_reached f marks (slice_index i.args (k + 1))) (ap (λ (q : Option ℕ). option_map_or (λ (c : ℕ). slice_index_or marks c false) q false) found ∙ on)))

      place : (j : ℕ) × (inst_at Fn t j ≡ Some i)
      place = placed_in Fn t holder i there inside_it

      abbrev mentioned : IsMentioned Fn Marks t i n
      mentioned = record { place = place.0; arg = k; there = place.1; here = marked t reached; live = lives t place.0 i place.1 kept; slot = slot_in Fn Marks from (marked b here); word = at }

      type_has : HasType s entry right Fn in_it n
      type_has =
          let parts = phi_slot i.op i.args k phi even in
          let has = operand_there (is_there_in s.of Fn i.at) i ((inside s entry right Fn in_it).order.there i i_among) k below.0 parts.0 in
          typed_source s entry right Fn in_it i.at n (subst (λ (x : ℕ). is_there_in s.of Fn i.at PhiValue x ≡ true) below.1 (subst (λ q. is_there_in s.of Fn i.at q (slice_index i.args k) ≡ true) parts.2 has))

      same_type : is_other Gs (type_in Gs Fn) i.ty n ≡ false
      same_type =
          none_passes (is_other Gs (type_in Gs Fn) i.ty) (every_second 0 i.args) n
          (in_mapped (λ (q : ℕ × ℕ). q.1) (filter (λ (q : ℕ × ℕ). q.0 % 2 == 0) (enumerate_from 0 i.args)) (k, n) (in_filter (λ (q : ℕ × ℕ). q.0 % 2 == 0) (enumerate_from 0 i.args) (k, n) (numbered_first i.args k n at) even))
          told.1

      pub value_is : value_shape s Fn n ≡ Some shaped.0
      value_is = shaped_type s entry right Fn in_it i.ty n shaped.0 shaped.1 type_has same_type

      type_is : (ty : ℕ) × (type_in Gs Fn n ≡ Some ty) × (type_tree Gs ty ≡ Some shaped.0)
      type_is = by_type (type_in Gs Fn n) refl value_is
        where
          by_type : (q : Option ℕ) → type_in Gs Fn n ≡ q → option_and_then (type_tree Gs) q ≡ Some shaped.0 → (ty : ℕ) × (type_in Gs Fn n ≡ Some ty) × (type_tree Gs ty ≡ Some shaped.0)
          by_type None is_it e = cc
          by_type (Some ty) is_it e = (ty, is_it, e)

      whole : type_tree Gs (type_of Where n) ≡ Some shaped.0
      whole = ap (λ (q : Option ℕ). type_tree Gs (unwrap_or q 0)) type_is.1 ∙ type_is.2

      -- it is no variable outside of functions
      no_variable : (g : Inst) → global Gs n ≡ Some g → is g.op code.Variable ≡ true → ⊥
      no_variable g found on =
          let g_in = (found_in Gs n g found).0 in
          let typed_is : g.ty ≡ 0 → ⊥ = (λ lacks. global_typed_some s entry right g (as_among Gs g g_in) (variable_typed g.op on) lacks) in
          let row = global_row s entry right g (as_among Gs g g_in) typed_is in
          let own : typed g ≡ Some g.ty = ap (λ (b : Bool). if b then None else Some g.ty) (other_test g.ty 0 typed_is) in
          let same : type_in Gs Fn n ≡ Some g.ty = ap (λ (q : Option Inst). option_or (option_and_then typed q) (local_type Fn n)) found ∙ ap (λ (q : Option ℕ). option_or q (local_type Fn n)) own in
          let of_type : type_tree Gs g.ty ≡ Some shaped.0 = ap (type_tree Gs) (same_Some g.ty type_is.0 (sym same ∙ type_is.1)) ∙ type_is.2 in
          pointer_none Gs row.0 shaped.0 (variable_type_is g.op row.0 on row.2) (ap (λ (q : Option Inst). option_map_or (tree_at Gs) q None) (sym row.1) ∙ of_type)

      -- it is read by its name, where it is no constant
      abbrev input_expr : Inst → Expr
      input_expr g = name (built_in_text (unwrap_or (value_of s.of.heads g.result (decoration_number decoration.BuiltIn)) 0))

      reads_none : is_constant_id Gs n ≡ false → Where.setting.global n ≡ None
      reads_none other = by_global (global Gs n) refl
        where
          by_input : (g : Inst) → global Gs n ≡ Some g → (b : Bool) → is_input g ≡ b → (if b then Some (input_expr g) else None) ≡ None
          by_input g found false off = refl
          by_input g found true on = absurd (no_variable g found (and_left (is g.op code.Variable) (slice_index g.args 0 == class_number storage.Input) on))

          by_global : (q : Option Inst) → global Gs n ≡ q → Where.setting.global n ≡ None
          by_global None found = ap (option_and_then (global_by Src (id_text Found))) found
          by_global (Some g) found =
              let off : is_constant g ≡ false = ap (λ (q : Option Inst). option_map_or is_constant q false) (sym found) ∙ other in
              ap (option_and_then (global_by Src (id_text Found))) found
              ∙ (ap (λ (b : Bool). if b then Some (constant_expr Src (id_text Found) g) else (if is_input g then Some (input_expr g) else None)) off ∙ by_input g found (is_input g) refl)

      counts : (mention_block Fn (mention_at Fn Marks t i n mentioned) i ≡ b) × (slice_index_or Marks b false ≡ true)
      counts = (
        ap (λ (x : Bool). if x then unwrap_or (block_in Fn (slice_index i.args (k + 1))) t else t) phi ∙ ap (λ (q : Option ℕ). unwrap_or q t) from,
        marked b here,
      )

      wants : (c : ℕ) → wants_by Gs Fn c (mention_at Fn Marks t i n mentioned) i ≡ true
      wants c =
          or_right (is_elsewhere_by Fn c (mention_at Fn Marks t i n mentioned) i) (is i.op code.Phi || ((is_chain i.op && not (k == 0)) || repeats_operands Gs Fn i))
          (or_left (is i.op code.Phi) ((is_chain i.op && not (k == 0)) || repeats_operands Gs Fn i) phi)

      -- the text mentions it
      listed : list_any (λ (x : ℕ). x == n) (mentions (written p) (liveness_of Src p).reached i) ≡ true
      listed =
          any_in (λ (x : ℕ). x == n) (mentions (written p) (liveness_of Src p).reached i) n
          (in_mapped (λ (operand : ℕ × ℕ). operand.1) (operands (written p) (liveness_of Src p).reached i) (k, n)
          (in_filter (λ (operand : ℕ × ℕ). is_slot (written p) (liveness_of Src p).reached i operand.0) (enumerate_from 0 i.args) (k, n) (numbered_first i.args k n at)
          (slot_in (written p) (liveness_of Src p).reached (subst (λ (f : Function). block_in f (slice_index i.args (k + 1)) ≡ Some b) (sym (written_is s entry right kinds o unit u p among)) from)
          (reached_nth p.graph b ∙ (ap (λ (g : List Node). (nth g b).reached) (plan_is s entry right kinds o unit u p among).graph_is ∙ here)))))
          (same_test n n refl)

      pub source_mentioned : list_any (λ (x : ℕ). x == n) (unit_rules.reached_of (unit_rules.source_of s.of o u.entry) u.plans).mentions ≡ true
      source_mentioned = mention_in s.of o unit u p i n among of_it told_reached (kept_live p.scope.form i scoped) listed

      -- Of the function's own: it has a variable.
      module _ (lends : LendsWhole s) (is_one : IsFunctionOf Fn s.of.functions) (other : is_constant_id Gs n ≡ false) where
        outside : global Gs n ≡ None
        outside = no_global s entry right kinds o unit u p among n shaped.0 whole (reads_none other)

        module _ (j : Inst) (by : IsMadeBy s entry right kinds o unit u p among lends n shaped.0 j) where
          own : IsIn j (insts_of Fn) × (j.result ≡ n)
          own = found_in (insts_of Fn) n j by.made

          abbrev home_of : (c : ℕ) × (x : Block) × (slice_get Fn.blocks c ≡ Some x) × IsIn j x.insts
          home_of = home s entry right kinds o unit u p among t n i j mentioned b counts by.made by.some_type (shaped_value Gs j.ty shaped.0 by.shaped)

          abbrev plan_links : List Link
          plan_links = (plan_is s entry right kinds o unit u p among).links

          abbrev P : Placed
          P = placed_result plan_links home_of.0 j

          some_of : j.result ≡ 0 → ⊥
          some_of =
              let formed = (inside s entry right Fn in_it).formed j (as_among (insts_of Fn) j own.0) in
              formed.result (typed_result j.op (has_a_type j formed by.some_type))

          planned_form : (k : ℕ → Option ℕ) × (Where.form j.result ≡ form_with Gs Fn k P)
          planned_form =
              form_at Gs Fn plan_links (in_order s.of Fn (ordered s entry right kinds o unit u p among) Marks plan_links (plan_is s entry right kinds o unit u p among).live) P
              (is_placed plan_links Fn home_of.0 home_of.1 j home_of.2 home_of.3 some_of)

          -- a phi asks for a variable
          never_forwarded : Where.form n ≡ Forwarded → ⊥
          never_forwarded form =
              wanted_form Gs Fn P planned_form.0 (mention_at Fn Marks t i n mentioned) i
              (subst (λ (k : ℕ). IsIn (mention_at Fn Marks t i n mentioned) (mentions_of plan_links k)) (sym own.1) (mention_stands Fn Marks t i n mentioned plan_links (plan_is s entry right kinds o unit u p among).live))
              (user_is Fn Marks t i n mentioned) (shaped_value Gs j.ty shaped.0 by.shaped) (wants home_of.0) (sym planned_form.1 ∙ (ap Where.form own.1 ∙ form))

          module _ (body : Body Fn b) (formed : IsFormedBlock body.block.insts) where
            -- what is no phi of the block and has a type is one of those behind the phis
            of_body : IsIn j body.block.insts → is_phi j ≡ false → IsOf j body.insts
            of_body there off = by_part (in_either j formed.heads formed.behind (subst (IsIn j) formed.whole there))
              where
                split : formed.behind ≡ body.insts ++ body.last ∷ []
                split = sym (behind_is body.block formed) ∙ body.whole

                ends : is_terminator body.last.op ≡ true
                ends = subst (λ (x : Inst). is_terminator x.op ≡ true) (last_same formed.ended.plain body.insts formed.ended.last body.last (sym formed.ended.whole ∙ split)) formed.ended.ends

                typed_so : has_type j.op ≡ true
                typed_so = has_a_type j ((inside s entry right Fn in_it).formed j (as_among (insts_of Fn) j own.0)) by.some_type

                by_end_part : IsIn j body.insts ⊎ IsIn j (body.last ∷ []) → IsOf j body.insts
                by_end_part (inl w) = of_in body.insts j w
                by_end_part (inr (inl same)) = off_on (sym (end_untyped j.op (subst (λ (x : Inst). is_terminator x.op ≡ true) same ends)) ∙ typed_so)
                by_end_part (inr (inr none)) = absurd none

                by_part : IsIn j formed.heads ⊎ IsIn j formed.behind → IsOf j body.insts
                by_part (inl w) = off_on (sym off ∙ all_phi j formed.heads formed.are_phis w)
                by_part (inr w) = by_end_part (in_either j body.insts (body.last ∷ []) (subst (IsIn j) split w))

            module _ (N : Names) (names : AreNamesOf s entry right kinds o unit u p among lends b N) where
              abbrev There : Type 0
              There = (N.is_outer n ≡ true) ⊎ ((N.is_local n ≡ true) × (have_result (behind [] body.insts) n ≡ true))

              by_placed : IsPlaced s entry right kinds o unit u p among lends is_one n shaped.0 j by t i mentioned b counts → There
              by_placed (inl top) = inl (names.hoisted n top)
              by_placed (inr (same, inl form)) =
                  let block_is : home_of.1 ≡ body.block = same_Some home_of.1 body.block (sym home_of.2 ∙ (ap (λ (k : ℕ). slice_get Fn.blocks k) same ∙ body.there)) in
                  let local_so : Where.form j.result ≡ Local = ap Where.form own.1 ∙ local_form_is (Where.form n) (left_on (is_local_form (Where.form n)) _ form) in
                  inr (names.local n form, have_done (behind [] body.insts) j n (all_behind [] body.insts j (of_body (subst (λ (x : Block). IsIn j x.insts) block_is home_of.3) (local_no_phi s entry right kinds o unit u p among j own.0 local_so))) own.1)
              by_placed (inr (same, inr form)) = absurd (never_forwarded form)

              there_by : There
              there_by = by_placed (placed s entry right kinds o unit u p among lends is_one n shaped.0 j by t i mentioned b counts)

        -- The law: where the block ends, the variable stands for it.
        pub source_there : (body : Body Fn b) → IsFormedBlock body.block.insts → (N : Names) → AreNamesOf s entry right kinds o unit u p among lends b N → (N.is_outer n ≡ true) ⊎ ((N.is_local n ≡ true) × (have_result (behind [] body.insts) n ≡ true))
        source_there body formed N names = by_maker (maker s entry right kinds o unit u p among lends n shaped.0 value_is outside)
          where
            by_maker : (is_value_parameter Gs Fn n ≡ true) ⊎ ((j : Inst) × IsMadeBy s entry right kinds o unit u p among lends n shaped.0 j) → (N.is_outer n ≡ true) ⊎ ((N.is_local n ≡ true) × (have_result (behind [] body.insts) n ≡ true))
            by_maker (inl parameter) = inl (names.parameter n parameter)
            by_maker (inr w) = there_by w.0 w.1 body formed N names
