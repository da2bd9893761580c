-- How pointers are written where a live instruction of a reached block mentions them, and so where chains are based on them: as what they begin with, or as chains, in their own block or carried there.
use Rattle.std.proofs.Common.{◌≡◌, ◌⊎◌, ◌≤◌, ◌<◌, ◌==◌, ◌&&◌, ◌||◌, ◌+◌, ◌++◌, not, ℕ, suc, Bool, true, false, List, [], ◌∷◌, drop, Contains, Option, Some, None, inl, inr, refl, sym, ap, ◌∙◌, subst, arith, if◌then◌else◌}
use Rattle.std.specs.Prelude.{is_some, option_map, option_and_then, slice_get, slice_index, slice_index_or}
use Rattle.std.specs.Option.{option_map_or, option_or}
use Rattle.std.specs.List.{enumerate_from}
use Rattle.std.proofs.lemmas.Bool.{and_parts, and_from}
use Rattle.std.proofs.lemmas.Option.{same_Some}
use Rattle.spv_ops.specs.Opcode.{is, number}
use Rattle.spv_ops.specs.Groups.{is_chain, is_constant}
use Rattle.spv_ops.specs.Operands.{is_id}
use Rattle.spv_ops.specs.OpGroups.{group_of}
use Rattle.spv_ops.specs.Shape.{is_pure}
use Rattle.spv_ops.specs.declared.Op.TheVariants as code
use Rattle.spv_module.specs.Held.{global}
use Rattle.spv_module.specs.State.{ModuleState}
use Rattle.spv_module.specs.declared.inst.Inst.{Inst}
use Rattle.spv_module.specs.declared.inst.Block.{Block}
use Rattle.spv_module.specs.declared.inst.Function.{Function}
use Rattle.spv_types.specs.Tree.{Tree, word}
use Rattle.spv_types.specs.Types.{type_tree}
use Rattle.spv_index.specs.Locals.{insts_of, inst_in, parameter_in, typed, local_type, type_in}
use Rattle.spv_index.specs.Pointers.{as_pointer, storage_class, pointee, pointee_of}
use Rattle.conformance.specs.Rules.{Options}
use Rattle.module_check.specs.Judged.{IsFine}
use Rattle.module_check.specs.ReadFrom.{IsReadFrom}
use Rattle.profile_rules.specs.TypeRows.{fails, if_type}
use Rattle.profile_rules.specs.TypeRows as rows
use Rattle.profile_rules.specs.MemoryRules.{is_pointer, is_own_memory}
use Rattle.traces.specs.Invocations.{Invocation, IsInvocation}
use Rattle.traces.specs.Outcomes.{Result}
use Rattle.access_paths.specs.Ways.{is_constant_index, indexes}
use Rattle.use_chains.specs.Slots.{is_slot, is_base, is_value, is_taken, inst_at, IsLive}
use Rattle.module_semantics.specs.Setting.{Setting, as_variable}
use Rattle.module_semantics.specs.State.{Conf}
use Rattle.module_semantics.specs.Steps as steps
use Rattle.module_semantics.specs.Steps.{step_kind, base}
use Rattle.name_alloc.specs.declared.claims.Key.{Key}
use Rattle.name_alloc.specs.Naming.{name_of}
use Rattle.glsl_ast.specs.Tree.{Text, Expr, TranslationUnit}
use Rattle.glsl_semantics.specs.Shapes.{Typed}
use Rattle.glsl_semantics.specs.States.{State}
use Rattle.glsl_semantics.specs.Expressions.{Program, Argument}
use Rattle.text_rules.specs.Printed.{has_operand}
use Rattle.expr_forward.specs.Paths.{index_expr, word_at}
use Rattle.expr_forward.specs.Scope.{Scope}
use Rattle.function_text.specs.Functions.{FunctionPlan, written}
use Rattle.unit_rules.specs.Translation.{id_text, global_expr}
use Rattle.unit_rules.specs.Unit.{source_of, IsUnitOf}
use Rattle.list_law.proofs.Options.{no_some}
use Rattle.type_law.specs.Shaped.{AreConstants}
use Rattle.agree_law.specs.Agree.{Naming, Agree}
use Rattle.agree_law.specs.Blocks.{IsOf, have_result}
use Rattle.agree_law.specs.Points.{Body}
use Rattle.call_law.specs.Frames.{makes_pointer}
use Rattle.call_law.specs.Known.{is_parameter, IsFunctionOf, LendsWhole}
use Rattle.global_law.specs.Chains.{NoneMakes, ChainsAreRight}
use Rattle.global_law.specs.Walks.{writing, SaysIndex}
use Rattle.global_law.specs.Writings.{IsWrittenIndex, AreWrittenIndexes, IsWrittenChain, IsWrittenStart, IsNumber}
use Rattle.global_law.proofs.Path.Reached.{HaveTypes, IsRightChain}
use Rattle.type_law.proofs.Chains.{HaveTypes as HaveTypesIn}
use Rattle.plan_law.specs.InOrder.{IsAmong}
use Rattle.plan_law.proofs.Order.{found}
use Rattle.typed_law.specs.Conforms.{IsConforming, IsConformingIn}
use Rattle.typed_law.proofs.Lists.{clash}
use Rattle.typed_law.proofs.Values.{inside, own_local}
use Rattle.grammar_law.proofs.Ruled.Ruled.{class_pointed}
use Rattle.claim_law.specs.Claimed.{IsIn}
use Rattle.claim_law.proofs.Claim.Constants.{found_in}
use Rattle.claim_law.proofs.Claim.Listed.{any_in, at_place}
use Rattle.grammar_law.specs.Mentioned.{IsLinked}
use Rattle.grammar_law.specs.Words.{AreOfStructs}
use Rattle.grammar_law.proofs.Unit.Lists.{as_among, numbered_first, same_test, test_same}
use Rattle.grammar_law.proofs.Unit.Links.{linked_in, as_linked}
use Rattle.grammar_law.proofs.Unit.Structs.{Written}
use Rattle.grammar_law.proofs.Unit.Sets.{chain_no_phi}
use Rattle.grammar_law.proofs.Unit.Kept.{dropped}
use Rattle.global_law.proofs.Path.Based.{chain_op}
use Rattle.grammar_law.proofs.Unit.Places.{Found, makes_in, IsRuled, IsSeen, home, place, live, base_link, index_mention, carried, based_seen}
use Rattle.grammar_law.proofs.Unit.Ruled.{chains}
use Rattle.grammar_law.proofs.Unit.Ways.{HaveKinds, F, R, V, in_module, written_is, own_type_of, local_outside, reached_nth}
use Rattle.grammar_law.proofs.Meets.GlobalReads.{mention_listed, captured_listed}
use Rattle.grammar_law.proofs.Meets.PointerStarts.{none_of}
use Rattle.grammar_law.specs.Formed.{IsFormedFunction}
use Rattle.grammar_law.proofs.Formed.Pointing.{accepted_chains}
use Rattle.text_law.proofs.Naming.Keys.{S, key, found as names_found, names}
use Rattle.text_law.specs.Left.{IsLeftOfGlobals}
use Rattle.text_law.proofs.Outside.Constants.{IsMentioned as IsListed, index_constant, index_literal}
use Rattle.text_law.proofs.Outside.Starts.{no_module, variable_start, own_start, parameter_start}
use Rattle.text_law.proofs.Outside.Text.{P as program_in}
use Rattle.text_law.proofs.Written.Done.{linked_before, done_before}
use Rattle.text_law.proofs.Written.Placed.{chain_step}
use Rattle.text_law.proofs.Steps.Indexes.{no_names, no_structs, number as is_number, own_shape, kept_shape, counted, is_kept, written_so, own_none, stands_there}
use Rattle.grammar_law.proofs.Unit.ResultShapes.{constant_shaped}
use Rattle.global_law.proofs.Constant.Written.{no_pointee}
use Rattle.grammar_law.proofs.Formed.Blocks.{reached_body, reached_only}
use Rattle.grammar_law.proofs.Formed.Inner.{is_inner, accepted_inner}
use Rattle.text_law.proofs.Naming.Firsts.{of_in}
use Rattle.structure_rules.specs.Graph.{graph}
use Rattle.text_law.proofs.Insts.New.{split_behind}
use Rattle.text_law.proofs.Steps.Operands.{IsKeptBy, mentioned, no_phi_here}

-- what makes a pointer and no chain is a variable
variable_made : (q : steps.StepKind) → makes_pointer q ≡ true → (q ≡ steps.chain) ⊎ (q ≡ steps.variable)
variable_made steps.chain on = inl refl
variable_made steps.variable on = inr refl
variable_made q on = cc

-- a type that points to something is a pointer
pointer_holds : (gs : List Inst) (ty : ℕ) → is_some (storage_class gs ty) ≡ true → fails rows.is_pointer gs ty ≡ false
pointer_holds gs ty on = by_global (global gs ty) on
  where
    by_test : (g : Inst) (b : Bool) → is g.op code.TypePointer ≡ b → is_some (option_map (λ (x : Inst). slice_index x.args 0) (if b then Some g else None)) ≡ true → option_map_or (λ x. not (rows.is_pointer x)) (if_type g) false ≡ false
    by_test g true told on = by_type (rows.is_type g)
      where
        by_type : (b : Bool) → option_map_or (λ x. not (rows.is_pointer x)) (if b then Some g else None) false ≡ false
        by_type true = ap not told
        by_type false = refl
    by_test g false told on = cc

    by_global : (x : Option Inst) → is_some (option_map (λ (g : Inst). slice_index g.args 0) (option_and_then as_pointer x)) ≡ true → option_map_or (λ g. not (rows.is_pointer g)) (option_and_then if_type x) false ≡ false
    by_global None e = cc
    by_global (Some g) e = by_test g (is g.op code.TypePointer) refl e

module _ (bytes : List ℕ) (m : ModuleState) (o : Options) (read : IsReadFrom bytes m) (fine : IsFine m o) (unit : TranslationUnit) (u : IsUnitOf m o unit) (inv : Invocation) (told : IsInvocation inv) (left : IsLeftOfGlobals bytes m o)
    (right : IsConforming m o.entry) (kinds : HaveKinds m.globals) (p : FunctionPlan) (among : IsIn p u.plans) (lends : LendsWhole (S m o unit u inv)) where
  abbrev s : Setting
  s = S m o unit u inv

  abbrev N : Naming
  N = names m o unit u inv p

  abbrev gs : List Inst
  gs = m.globals

  abbrev Fn : Function
  Fn = F s o.entry right kinds o unit u p among

  abbrev Where : Scope
  Where = V s o.entry right kinds o unit u p among

  abbrev Marks : List Bool
  Marks = R s o.entry right kinds o unit u p among

  abbrev P : Program
  P = program_in bytes m o read fine unit u inv told left

  abbrev globals : ℕ → Option Expr
  globals = global_expr (source_of m o u.entry) (id_text (names_found m o unit u inv))

  abbrev its_key : Key → Text
  its_key = key m o unit u inv

  abbrev All : List ℕ
  All = (Written m o unit u).mentions

  in_mod : Contains m.functions Fn
  in_mod = in_module s o.entry right kinds o unit u p among

  in_it : IsConformingIn m Fn
  in_it = inside s o.entry right Fn in_mod

  same_function : written p ≡ Fn
  same_function = written_is s o.entry right kinds o unit u p among

  abbrev its_structs : AreOfStructs gs (name_of u.claimed) no_names
  its_structs = no_structs bytes m o read fine unit u inv told left right kinds p among lends

  pub Chains : (i : Inst) → IsIn i (insts_of Fn) → is_chain i.op ≡ true → IsRuled s o.entry right kinds o unit u p among no_names its_structs i
  Chains = chains s o.entry right kinds o unit u p among no_names its_structs

  rules : ChainsAreRight s
  rules = accepted_chains bytes m o read fine u.entry o.overrides inv

  -- A pointer that an instruction mentions, or a carried chain is based on, which stands no later than this word: so it may be written in this block there.
  pub record IsSeenAt (b at n : ℕ) : Type 0 where
    pub block : ℕ
    pub user : Inst
    pub linked : IsLinked Fn Marks block user n
    pub no_phi : is user.op code.Phi ≡ false
    pub seen : IsSeen s o.entry right kinds o unit u p among no_names its_structs Chains b block n user linked
    pub early : user.at ≤ at
    pub points : (ty : ℕ) × (t : Tree) × (pointee_of gs Fn n ≡ Some ty) × (type_tree gs ty ≡ Some t)

  -- the chains of the function, in a state that agrees
  module _ (constants : AreConstants s) (one : IsFunctionOf Fn m.functions) where
    types_as : (ns : List ℕ) → HaveTypesIn s Fn ns → HaveTypes s Fn constants ns
    types_as [] have = tt
    types_as (n ∷ ns) have = (have.0, types_as ns have.1)

    module _ (form : IsFormedFunction Fn) (b : ℕ) (body : Body Fn b) (reached : slice_index_or Marks b false ≡ true) (done befores : List Inst) (i : Inst) (rest : List Inst) (split : (form.blocks b body.block body.there).behind ≡ befores ++ i ∷ rest) (all : (j : Inst) → IsOf j befores → IsOf j done) where
      abbrev Seen : ℕ → Type 0
      Seen = IsSeenAt b i.at

      -- one that makes a pointer that may be written
      module _ (q : Inst) (q_in : IsIn q (insts_of Fn)) (chain : is_chain q.op ≡ true) (r : Seen q.result) where
        abbrev ruled : IsRuled s o.entry right kinds o unit u p among no_names its_structs q
        ruled = Chains q q_in chain

        of_it : IsOf q (insts_of Fn)
        of_it = of_in (insts_of Fn) q q_in

        abbrev stands : (k : ℕ) × (holder : Block) × (slice_get Fn.blocks k ≡ Some holder) × IsIn q holder.insts
        stands = home s o.entry right kinds o unit u p among no_names its_structs Chains b r.block r.user q r.linked r.no_phi r.seen chain q_in

        before : q.at < r.user.at
        before = linked_before m Fn in_it.order Marks r.block r.user q.result r.linked r.no_phi q (found q (insts_of Fn) in_it.order.apart (as_among (insts_of Fn) q q_in) ruled.some) ruled.some

        less : q.at < i.at
        less = let first = before in let later = r.early in omega (arith, first, later)

        early : q.at ≤ i.at
        early = let first = less in omega (arith, first)

        -- so may its base
        base_seen : Seen (base q)
        base_seen = record {
          block = stands.0;
          user = q;
          linked = base_link s o.entry right kinds o unit u p among no_names its_structs Chains b r.block r.user q r.linked r.no_phi r.seen chain q_in;
          no_phi = chain_no_phi q.op chain;
          seen = based_seen s o.entry right kinds o unit u p among no_names its_structs Chains b r.block r.user q r.linked r.no_phi r.seen chain q_in;
          early = early;
          points = ruled.leads;
        }

        carried_to : (stands.0 ≡ b → ⊥) → Where.carried q.result ≡ true
        carried_to = carried s o.entry right kinds o unit u p among no_names its_structs Chains b r.block r.user q r.linked r.no_phi r.seen chain q_in

        done_here : stands.0 ≡ b → IsOf q done
        done_here same =
            let block_is : stands.1 ≡ body.block = same_Some stands.1 body.block (sym stands.2 ∙ (ap (λ (k : ℕ). slice_get Fn.blocks k) same ∙ body.there)) in
            all q (done_before m Fn in_it.order b body (form.blocks b body.block body.there) befores i rest split q (subst (λ (x : Block). IsIn q x.insts) block_is stands.3) (chain_no_phi q.op chain) less)

        -- its constants are mentioned in the text
        listed : (k n : ℕ) → slice_get (drop 1 q.args) k ≡ Some n → IsListed bytes m o read fine unit u inv told left n
        listed k n at = any_in (λ (x : ℕ). x == n) All n (by_reached (slice_index_or Marks stands.0 false) refl) (same_test n n refl)
          where
            by_reached : (t : Bool) → slice_index_or Marks stands.0 false ≡ t → IsIn n All
            by_reached true here =
                mention_listed s o.entry right kinds o unit u p among no_names its_structs stands.0 n q
                (index_mention s o.entry right kinds o unit u p among no_names its_structs Chains b r.block r.user q r.linked r.no_phi r.seen chain q_in here n k (dropped q.args k n at))
            by_reached false off =
                captured_listed s o.entry right kinds o unit u p among no_names its_structs stands.0 n q
                (record { holder = stands.1; there = stands.2; among = stands.3; off = off; chain = chain; carried = carried_to (λ same. clash (sym reached ∙ (ap (λ (k : ℕ). slice_index_or Marks k false) (sym same) ∙ off))) })
                (at_place (indexes q) k n at)

        -- an index that has a variable in this block
        variable_here : (k n : ℕ) → slice_get (drop 1 q.args) k ≡ Some n → is_constant_index gs n ≡ false → stands.0 ≡ b → (N.is_outer n ≡ true) ⊎ ((N.is_local n ≡ true) × (have_result done n ≡ true))
        variable_here k n at off same =
            let where_it = place s o.entry right kinds o unit u p among no_names its_structs Chains b r.block r.user q r.linked r.no_phi r.seen chain q_in in
            stands_there bytes m o read fine unit u inv told left right kinds p among lends q q_in chain k n at off
            b stands.1 (ap (λ (j : ℕ). slice_get Fn.blocks j) (sym same) ∙ stands.2) stands.3 where_it.0 (ap (λ (j : ℕ). inst_at Fn j where_it.0) (sym same) ∙ where_it.1) reached
            (subst (λ (j : ℕ). IsLive Fn Marks j where_it.0) same (live s o.entry right kinds o unit u p among no_names its_structs Chains b r.block r.user q r.linked r.no_phi r.seen chain q_in))
            one done body (form.blocks b body.block body.there) befores i rest split all early

        module _ (calls : Text → List Argument → State → Result (Option Typed × State)) (c : Conf) (z : State) (agree : Agree N c z) where
          one_index : (k n : ℕ) → slice_get (drop 1 q.args) k ≡ Some n → IsWrittenIndex P calls z N s o.overrides Fn its_key globals b done q stands.0 k n
          one_index k n at = record {
            constant = λ j on has.
                subst (λ (g : Function). SaysIndex P calls z (index_expr (writing s o.overrides g its_key globals) n) j) same_function
                (index_constant bytes m o read fine unit u inv told left p calls c z agree n (listed k n at) j on has);
            literal = λ l j is has. index_literal bytes m o read fine unit u inv told left p n l j (subst (λ (g : Function). word_at (writing s o.overrides g its_key globals) n ≡ Some l) (sym same_function) is) has;
            here = λ off same. record {
              itself = written_so bytes m o read fine unit u inv told left right kinds p among lends q q_in chain k n at off;
              own = own_none bytes m o read fine unit u inv told left right kinds p among lends q q_in chain k n at off;
              there = variable_here k n at off (test_same stands.0 b same);
              number = subst IsNumber (sym (own_shape bytes m o read fine unit u inv told left right kinds p among lends q q_in chain k n at)) (is_number bytes m o read fine unit u inv told left right kinds p among lends q q_in chain k n at).0;
            };
            elsewhere = λ off other. record {
              kept = is_kept bytes m o read fine unit u inv told left right kinds p among lends q q_in chain k n at (carried_to (λ here. clash (sym (same_test stands.0 b here) ∙ other))) off;
              named = refl;
              number = subst IsNumber (sym (kept_shape bytes m o read fine unit u inv told left right kinds p among lends q q_in chain k n at)) (is_number bytes m o read fine unit u inv told left right kinds p among lends q q_in chain k n at).0;
              counts = counted bytes m o read fine unit u inv told left right kinds p among lends q q_in chain k n at;
            };
          }

          all_indexes : (k : ℕ) (ns : List ℕ) → ((j n : ℕ) → slice_get ns j ≡ Some n → IsWrittenIndex P calls z N s o.overrides Fn its_key globals b done q stands.0 (k + j) n) → AreWrittenIndexes P calls z N s o.overrides Fn its_key globals b done q stands.0 k ns
          all_indexes k [] each = tt
          all_indexes k (n ∷ ns) each = (
            subst (λ (x : ℕ). IsWrittenIndex P calls z N s o.overrides Fn its_key globals b done q stands.0 x n) (let same : k + 0 ≡ k = omega arith in same) (each 0 n refl),
            all_indexes (k + 1) ns (λ j x at. subst (λ (y : ℕ). IsWrittenIndex P calls z N s o.overrides Fn its_key globals b done q stands.0 y x) (let same : k + suc j ≡ k + 1 + j = omega arith in same) (each (suc j) x at)),
          )

          chain_written : IsWrittenChain P calls z N s o.overrides Fn its_key globals b done q
          chain_written = record {
            of_function = of_it;
            kind = chain_step q.op chain;
            stands = stands.0;
            block = stands.1;
            in_block = stands.2;
            inst = of_in stands.1.insts q stands.3;
            made = λ same. done_here (test_same stands.0 b same);
            own = no_module bytes m o read fine unit u inv told left p among q.result (own_local s o.entry right Fn in_mod q (as_among (insts_of Fn) q q_in));
            base_shape = λ ty points. (ruled.leads.1, ap (type_tree gs) (same_Some ty ruled.leads.0 (sym points ∙ ruled.leads.2)) ∙ ruled.leads.3);
            indexes = all_indexes 0 (drop 1 q.args) (λ j n at. subst (λ (x : ℕ). IsWrittenIndex P calls z N s o.overrides Fn its_key globals b done q stands.0 x n) (let same : j ≡ 0 + j = omega arith in same) (one_index j n at));
          }

        chain_right : IsRightChain s Fn constants q
        chain_right =
            let pointing = sym (ap (λ (x : Option ℕ). is_some (option_and_then (storage_class gs) x)) ruled.own) ∙ (lends.chains Fn one q of_it (chain_step q.op chain)).1 in
            let to = ruled.points (pointer_holds gs q.ty pointing) in
            record { t6 = ruled.sound; typed = types_as (drop 1 q.args) ruled.typed; result = ruled.own; to = to.0; points_to = to.2; shape = to.1; typed_as = to.3 }

      -- what no chain makes
      module _ (calls : Text → List Argument → State → Result (Option Typed × State)) (z : State) (n : ℕ) (none : NoneMakes n (insts_of Fn)) (r : Seen n) where
        abbrev Begins : Function → Type 0
        Begins g = IsWrittenStart P calls z N s o.overrides g its_key globals b done n

        user_in : IsIn r.user (insts_of Fn)
        user_in = linked_in Fn Marks r.block r.user n r.linked

        operand : has_operand r.user n ≡ true
        operand =
            let slot = (and_parts (slice_index_or Marks r.block false || is_base r.user r.linked.arg) (is_slot Fn Marks r.user r.linked.arg) r.linked.slot).1 in
            let names_id = (and_parts (is_id r.user.op r.user.args r.linked.arg) (is_value r.user.op r.linked.arg && is_taken Fn Marks r.user r.linked.arg) slot).0 in
            any_in (λ (q : ℕ × ℕ). is_id r.user.op r.user.args q.0 && (q.1 == n)) (enumerate_from 0 r.user.args) (r.linked.arg, n) (numbered_first r.user.args r.linked.arg n r.linked.word)
            (and_from (is_id r.user.op r.user.args r.linked.arg) (n == n) names_id (same_test n n refl))

        -- its type points to something
        pointing : is_pointer gs Fn n ≡ true
        pointing = by_type (type_in gs Fn n) r.points.2
          where
            by_type : (x : Option ℕ) → option_and_then (pointee gs) x ≡ Some r.points.0 → is_some (option_and_then (storage_class gs) x) ≡ true
            by_type None is = cc
            by_type (Some ty) is = class_pointed gs ty r.points.0 is

        by_parameter : is_parameter Fn n ≡ true → Begins Fn
        by_parameter on =
            subst Begins same_function
            (parameter_start bytes m o read fine unit u inv told left p among calls z b done n
            (subst (λ (g : Function). (is_parameter g n && is_pointer gs g n) ≡ true) (sym same_function) (and_from (is_parameter Fn n) (is_pointer gs Fn n) on pointing)))

        by_variable : (j : Inst) → IsIn j (insts_of Fn) → j.result ≡ n → step_kind j.op ≡ steps.variable → is_parameter Fn n ≡ false → Begins Fn
        by_variable j j_in same step off =
            subst Begins same_function
            (own_start bytes m o read fine unit u inv told left p among calls z b done n
            (subst (λ (g : Function). (not (is_parameter g n) && is_own_memory g n) ≡ true) (sym same_function)
            (and_from (not (is_parameter Fn n)) (is_own_memory Fn n) (ap not off) (ap (is_own_memory Fn) (sym same) ∙ rules.memory Fn one j (of_in (insts_of Fn) j j_in) step))))

        by_inst : (x : Option Inst) → inst_in Fn n ≡ x → is_parameter Fn n ≡ false → type_in gs Fn n ≡ option_and_then typed x → Begins Fn
        by_inst None made off type_is = absurd (clash (sym pointing ∙ ap (λ (y : Option ℕ). is_some (option_and_then (storage_class gs) y)) type_is))
        by_inst (Some j) made off type_is =
            let of_it = found_in (insts_of Fn) n j made in
            by_step of_it.0 of_it.1 (makes_pointer (step_kind j.op)) refl
          where
            by_kind : IsIn j (insts_of Fn) → j.result ≡ n → (step_kind j.op ≡ steps.chain) ⊎ (step_kind j.op ≡ steps.variable) → Begins Fn
            by_kind j_in same (inl step) = absurd (none_of n (insts_of Fn) j none j_in (chain_op j.op step) same)
            by_kind j_in same (inr step) = by_variable j j_in same step off

            by_step : IsIn j (insts_of Fn) → j.result ≡ n → (t : Bool) → makes_pointer (step_kind j.op) ≡ t → Begins Fn
            by_step j_in same true on = by_kind j_in same (variable_made (step_kind j.op) on)
            by_step j_in same false makes_none = absurd (clash (sym pointing ∙ (ap (is_pointer gs Fn) (sym same) ∙ rules.values Fn one j (of_in (insts_of Fn) j j_in) makes_none)))

        by_local : global gs n ≡ None → (x : Option ℕ) → parameter_in Fn n ≡ x → Begins Fn
        by_local local (Some y) is = by_parameter (ap is_some is)
        by_local local None is =
            by_inst (inst_in Fn n) refl (ap is_some is)
            (ap (λ (g : Option Inst). option_or (option_and_then typed g) (local_type Fn n)) local ∙ ap (λ (y : Option ℕ). option_or y (option_and_then typed (inst_in Fn n))) is)

        -- a variable of the module
        by_global_kind : (g : Inst) → global gs n ≡ Some g → IsIn g gs → (g.ty ≡ 0 → ⊥) → pointee gs g.ty ≡ Some r.points.0 → (is_constant g.op ≡ true) ⊎ (is g.op code.Variable ≡ true) → Begins Fn
        by_global_kind g at g_in some points (inl constant) =
            let v = constant_shaped s o.entry right g (as_among gs g g_in) constant some in
            absurd (no_some r.points.0 (sym (no_pointee gs g.ty v.0 v.1) ∙ points))
        by_global_kind g at g_in some points (inr variable) =
            subst Begins same_function
            (variable_start bytes m o read fine unit u inv told left p among calls z b done n g r.user
            (ap (λ (x : Option Inst). elim x as (λ x. Option Inst) [ None ↦ None | Some h ↦ as_variable h ]) at ∙ ap (λ (t : Bool). elim t as (λ t. Option Inst) [ true ↦ Some g | false ↦ None ]) variable)
            (subst (λ (h : Function). IsIn r.user (insts_of h)) (sym same_function) user_in) operand)

        by_typed : (g : Inst) → global gs n ≡ Some g → (x : Option ℕ) → typed g ≡ x → type_in gs Fn n ≡ option_or x (local_type Fn n) → Begins Fn
        by_typed g at None is type_is = absurd (by_type (local_type Fn n) refl)
          where
            by_type : (y : Option ℕ) → local_type Fn n ≡ y → ⊥
            by_type None lacks = clash (sym pointing ∙ ap (λ (q : Option ℕ). is_some (option_and_then (storage_class gs) q)) (type_is ∙ lacks))
            by_type (Some ty) has = no_some g (sym (local_outside s o.entry right kinds o unit u p among n ty has) ∙ at)
        by_typed g at (Some y) is type_is =
            let own = own_type_of g y is in
            let g_in = found_in gs n g at in
            by_global_kind g at g_in.0 own.1 (ap (pointee gs) own.0 ∙ (sym (ap (option_and_then (pointee gs)) type_is) ∙ r.points.2)) (kinds g g_in.0 own.1)

        by_global : (x : Option Inst) → global gs n ≡ x → Begins Fn
        by_global None at = by_local at (parameter_in Fn n) refl
        by_global (Some g) at = by_typed g at (typed g) refl (ap (λ (h : Option Inst). option_or (option_and_then typed h) (local_type Fn n)) at)

        start_written : Begins Fn
        start_written = by_global (global gs n) refl

    -- how a pointer is written in a block of a function
    abbrev pub IsWrittenSo : Function → (b : ℕ) → List Inst → ℕ → (Text → List Argument → State → Result (Option Typed × State)) → State → ℕ → Type 0
    IsWrittenSo g b done at calls z n = IsWrittenStart P calls z N s o.overrides g its_key globals b done n ⊎ ((q : Inst) × (q.result ≡ n) × IsWrittenChain P calls z N s o.overrides g its_key globals b done q × IsRightChain s g constants q × IsSeenAt b at (base q))

    abbrev pub AreWaysIn : Function → Type 0
    AreWaysIn g = (form : IsFormedFunction g) (b : ℕ) (body : Body g b) → reached_body g form b ≡ Some body → (done befores : List Inst) (i : Inst) (rest : List Inst) → body.insts ≡ befores ++ i ∷ rest → ((j : Inst) → IsOf j befores → IsOf j done)
        → (calls : Text → List Argument → State → Result (Option Typed × State)) (c : Conf) (z : State) → Agree N c z → (n : ℕ) → IsSeenAt b i.at n → IsWrittenSo g b done i.at calls z n

    inner : (j : Inst) → IsAmong j (insts_of Fn) → is_inner (group_of j.op) ≡ true
    inner j j_in = (accepted_inner bytes m read Fn one j j_in).0

    ways_there : AreWaysIn Fn
    ways_there form b body has done befores i rest split all calls c z agree n r = by_made (makes_in n (insts_of Fn))
      where
        reached : slice_index_or Marks b false ≡ true
        reached = reached_nth (graph Fn) b ∙ reached_only Fn form b body has

        split_so : (form.blocks b body.block body.there).behind ≡ befores ++ i ∷ (rest ++ body.last ∷ [])
        split_so = split_behind m Fn in_it.order in_it.formed inner b body (form.blocks b body.block body.there) befores i rest split

        by_chain : (q : Inst) → IsIn q (insts_of Fn) → is_chain q.op ≡ true → IsSeenAt b i.at q.result → IsWrittenSo Fn b done i.at calls z q.result
        by_chain q q_in chain v = inr (
          q,
          refl,
          chain_written form b body reached done befores i (rest ++ body.last ∷ []) split_so all q q_in chain v calls c z agree,
          chain_right form b body reached done befores i (rest ++ body.last ∷ []) split_so all q q_in chain v,
          base_seen form b body reached done befores i (rest ++ body.last ∷ []) split_so all q q_in chain v,
        )

        by_made : Found n (insts_of Fn) → IsWrittenSo Fn b done i.at calls z n
        by_made (inr none) = inl (start_written form b body reached done befores i (rest ++ body.last ∷ []) split_so all calls z n none r)
        by_made (inl w) = subst (λ (h : ℕ). IsSeenAt b i.at h → IsWrittenSo Fn b done i.at calls z h) w.1.2 (by_chain w.0 w.1.0 w.1.1) r

    -- The law.
    pub ways_in : AreWaysIn (written p)
    ways_in = subst AreWaysIn (sym same_function) ways_there

    -- So what an instruction mentions, that points to something.
    pub operand_seen : (form : IsFormedFunction Fn) (b : ℕ) (body : Body Fn b) → reached_body Fn form b ≡ Some body → (befores : List Inst) (i : Inst) (rest : List Inst) → body.insts ≡ befores ++ i ∷ rest → IsKeptBy bytes m o read fine unit u inv told left right kinds p among lends Where i
        → (k n : ℕ) → slice_get i.args k ≡ Some n → is_id i.op i.args k ≡ true → is_value i.op k ≡ true → (ty : ℕ) (t : Tree) → pointee_of gs Fn n ≡ Some ty → type_tree gs ty ≡ Some t → IsSeenAt b i.at n
    operand_seen form b body has befores i rest split kept k n word_is names_id value_is ty t points shaped = record {
      block = b;
      user = i;
      linked = as_linked Fn Marks b i n (mentioned bytes m o read fine unit u inv told left right kinds p among lends one form b body has befores i rest split kept k n word_is names_id value_is);
      no_phi = no_phi_here bytes m o read fine unit u inv told left right kinds p among lends one form b body has befores i rest split;
      seen = inl refl;
      early = (let itself : i.at ≤ i.at = omega arith in itself);
      points = (ty, t, points, shaped);
    }

    abbrev pub AreSeenIn : Function → Type 0
    AreSeenIn g = (form : IsFormedFunction g) (b : ℕ) (body : Body g b) → reached_body g form b ≡ Some body → (befores : List Inst) (i : Inst) (rest : List Inst) → body.insts ≡ befores ++ i ∷ rest → is_pure i.op ≡ false
        → (k n : ℕ) → slice_get i.args k ≡ Some n → is_id i.op i.args k ≡ true → is_value i.op k ≡ true → (ty : ℕ) (t : Tree) → pointee_of gs g n ≡ Some ty → type_tree gs ty ≡ Some t → IsSeenAt b i.at n

    -- of one with an effect
    pub effect_seen : AreSeenIn (written p)
    effect_seen = subst AreSeenIn (sym same_function) (λ form b body has befores i rest split effect. operand_seen form b body has befores i rest split (inl effect))
