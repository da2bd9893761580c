-- The pairs of an edge between reached blocks are as its moves need them: the target has a variable at the top of the function, the source the target's type, and what is read is a constant or has a variable where the block ends.
use Rattle.std.proofs.Common.{◌≡◌, ◌==◌, ◌&&◌, ◌||◌, not, ℕ, Bool, true, false, List, [], filter, Some, refl, sym, ap, ◌∙◌, subst}
use Rattle.std.specs.Prelude.{slice_get, option_and_then}
use Rattle.std.specs.List.{list_any}
use Rattle.spv_module.specs.State.{ModuleState}
use Rattle.spv_module.specs.Lists.{id}
use Rattle.spv_module.specs.declared.inst.Inst.{Inst}
use Rattle.spv_module.specs.declared.inst.Block.{Block}
use Rattle.spv_module.specs.declared.inst.Function.{Function}
use Rattle.spv_types.specs.Tree.{Tree}
use Rattle.spv_types.specs.Types.{type_tree}
use Rattle.spv_types.specs.Leaves.{IsSized}
use Rattle.spv_index.specs.Locals.{block_in, insts_of}
use Rattle.structure_rules.specs.Graph.{graph, nth}
use Rattle.conformance.specs.Rules.{Options}
use Rattle.traces.specs.Invocations.{Invocation}
use Rattle.module_semantics.specs.Setting.{Setting}
use Rattle.module_semantics.specs.Steps.{is_phi, phis, source_from}
use Rattle.use_chains.specs.Slots.{inst_at, IsLive}
use Rattle.phi_copies.specs.declared.moves.Src.{Src}
use Rattle.phi_copies.specs.declared.moves.Src.TheVariants.{Var as Variable, Constant}
use Rattle.phi_copies.specs.Sequence.{Pair}
use Rattle.glsl_ast.specs.Tree.{TranslationUnit}
use Rattle.glsl_semantics.specs.Shapes.{Shape, same_shape}
use Rattle.expr_forward.specs.Scope.{Scope}
use Rattle.function_plan.specs.Phis.{is_gone, is_constant_id, source_by, pairs_into}
use Rattle.function_text.specs.Functions.{FunctionPlan, written, is_hoisted}
use Rattle.unit_rules.specs.Unit.{reached_of, source_of, IsUnitOf}
use Rattle.agree_law.specs.Agree.{Naming}
use Rattle.agree_law.specs.Blocks.{IsOf, have_result}
use Rattle.agree_law.specs.Points.{Body, behind}
use Rattle.edge_law.specs.Copies.{EdgeNames, IsSource, IsRead}
use Rattle.fits_law.specs.State.{value_shape}
use Rattle.call_law.specs.Known.{IsFunctionOf, LendsWhole}
use Rattle.global_law.specs.Parts.{shape_in}
use Rattle.global_law.specs.Walks.{struct_names}
use Rattle.global_law.proofs.Path.Accesses.{shape_itself}
use Rattle.function_law.specs.Edges.{ArePhisOf}
use Rattle.function_law.proofs.PhiSources.{all_phis}
use Rattle.typed_law.specs.Conforms.{IsConforming}
use Rattle.claim_law.specs.Claimed.{IsIn}
use Rattle.grammar_law.proofs.Unit.Lists.{in_filter}
use Rattle.grammar_law.proofs.Unit.Ways.{HaveKinds, F, R, V, plan_is, written_is}
use Rattle.grammar_law.specs.Formed.{IsFormedBlock, IsFormedFunction}
use Rattle.text_law.specs.Names.{is_result, is_value_parameter}
use Rattle.text_law.proofs.Naming.Keys.{S, key, names}
use Rattle.text_law.proofs.Naming.Firsts.{of_in}
use Rattle.grammar_law.proofs.Grammar.PairsOf.{IsPairOf, pair_of}
use Rattle.text_law.proofs.Written.EdgeMoves.{IsRightPair}
use Rattle.text_law.proofs.Written.EdgePhis.{phis_are_of}
use Rattle.text_law.proofs.Written.NamesOf.{names_are}
use Rattle.text_law.proofs.Written.Shapes.{shape_of_value}
use Rattle.text_law.proofs.Moves.PhiOperands.{result_type, shaped, value_is, source_there, source_mentioned}

-- the id of a constant that is a source
abbrev number_of : Src → ℕ
number_of (Variable v) = 0
number_of (Constant c) = c.0

module _ (m : ModuleState) (opts : Options) (right : IsConforming m opts.entry) (kinds : HaveKinds m.globals) (unit : TranslationUnit) (u : IsUnitOf m opts unit) (inv : Invocation) (p : FunctionPlan) (among : IsIn p u.plans)
    (lives : (c place : ℕ) (i : Inst) → inst_at (F (S m opts unit u inv) opts.entry right kinds opts unit u p among) c place ≡ Some i → is_gone ((V (S m opts unit u inv) opts.entry right kinds opts unit u p among).form i.result) ≡ false
    → IsLive (F (S m opts unit u inv) opts.entry right kinds opts unit u p among) (R (S m opts unit u inv) opts.entry right kinds opts unit u p among) c place)
    (lends : LendsWhole (S m opts unit u inv)) (is_one : IsFunctionOf (F (S m opts unit u inv) opts.entry right kinds opts unit u p among) m.functions) where
  abbrev s : Setting
  s = S m opts unit u inv

  abbrev N : Naming
  N = names m opts unit u inv p

  abbrev gs : List Inst
  gs = m.globals

  abbrev Fn : Function
  Fn = F s opts.entry right kinds opts unit u p among

  abbrev Where : Scope
  Where = V s opts.entry right kinds opts unit u p among

  pub scope_is : p.scope ≡ Where
  scope_is = (plan_is s opts.entry right kinds opts unit u p among).scope_is

  function_is : written p ≡ Fn
  function_is = written_is s opts.entry right kinds opts unit u p among

  -- the shape of a value
  shape_by_value : (n : ℕ) (t : Tree) → value_shape s Fn n ≡ Some t → N.shape n ≡ shape_in s (struct_names (key m opts unit u inv)) t
  shape_by_value n t shaped_so = shape_of_value m opts unit u inv p n t (subst (λ (f : Function). value_shape s f n ≡ Some t) (sym function_is) shaped_so)

  module _ (b t : ℕ) (body : Body Fn b) (formed : IsFormedBlock body.block.insts) (here : (nth (graph Fn) b).reached ≡ true) (reached : (nth (graph Fn) t).reached ≡ true) (holder : Block) (held : slice_get Fn.blocks t ≡ Some holder) (phis_of : ArePhisOf N Where.form Fn b holder)
      (e : EdgeNames) (ps : List Pair) where
    abbrev done : ℕ → Bool
    done = have_result (behind [] body.insts)

    -- what the phi takes, and the phi's shape
    module _ (q : Pair) (w : IsPairOf gs Where.form Fn b holder q) where
      abbrev i : Inst
      i = w.phi

      abbrev n : ℕ
      n = w.value.0

      abbrev of_phi : (v : Tree) × (type_tree gs i.ty ≡ Some v) × IsSized v
      of_phi = shaped s opts.entry right kinds opts unit u p among lives t holder i held w.among w.is_phi w.kept reached

      target_shape : N.shape i.result ≡ shape_in s (struct_names (key m opts unit u inv)) of_phi.0
      target_shape = shape_by_value i.result of_phi.0 (ap (option_and_then (type_tree gs)) (result_type s opts.entry right kinds opts unit u p among lives t holder i held w.among w.is_phi w.kept reached) ∙ of_phi.1)

      source_shape : N.shape n ≡ N.shape i.result
      source_shape = shape_by_value n of_phi.0 (value_is s opts.entry right kinds opts unit u p among lives t holder i held w.among w.is_phi w.kept reached w.place n b w.at w.even w.from here) ∙ sym target_shape

      target_outer : N.is_outer i.result ≡ true
      target_outer =
          phis_of.outer i (subst (IsOf i) (sym (all_phis N gs Where.form Fn b holder phis_of)) (of_in (filter is_phi holder.insts) i (in_filter is_phi holder.insts i w.among w.is_phi)))
          ∙ ap not w.kept

      shape_same : same_shape (N.shape i.result) (N.shape i.result) ≡ true
      shape_same = subst (λ (x : Shape). same_shape x x ≡ true) (sym target_shape) (shape_itself s (key m opts unit u inv) of_phi.0 of_phi.2)

      source_typed : (c : Bool) → IsSource N e (N.shape i.result) (source_by c n)
      source_typed true = source_shape
      source_typed false = source_shape

      source_read : (c : Bool) → is_constant_id gs n ≡ c → ((k : ℕ) → source_by c n ≡ Constant (id k) → e.is_constant k ≡ true) → IsRead N e done (source_by c n)
      source_read true on reads = reads n refl
      source_read false off reads = source_there s opts.entry right kinds opts unit u p among lives t holder i held w.among w.is_phi w.kept reached w.place n b w.at w.even w.from here lends is_one off body formed N (names_are m opts right kinds unit u inv p among lends b)

      pair_right : ((k : ℕ) → q.1 ≡ Constant (id k) → e.is_constant k ≡ true) → IsRightPair N e done ps q
      pair_right reads =
          subst (IsRightPair N e done ps) w.same
          (record {
            outer = target_outer;
            same = shape_same;
            source = source_typed (is_constant_id gs n);
            read = source_read (is_constant_id gs n) refl (λ k is. reads k (ap (λ (x : Pair). x.1) (sym w.same) ∙ is));
          })

    pub right_here : (q : Pair) → IsIn q (pairs_into gs Where.form Fn b holder) → ((k : ℕ) → q.1 ≡ Constant (id k) → e.is_constant k ≡ true) → IsRightPair N e done ps q
    right_here q there reads = pair_right q (pair_of gs Where.form Fn b holder q there) reads

  -- The law, by the plan's own scope.
  abbrev AreRight : Scope → Type 0
  AreRight w =
      (b t : ℕ) (body : Body w.setting.function b) → IsFormedBlock body.block.insts → (nth (graph w.setting.function) b).reached ≡ true → (nth (graph w.setting.function) t).reached ≡ true → (holder : Block) → slice_get w.setting.function.blocks t ≡ Some holder → ArePhisOf N w.form w.setting.function b holder
      → (e : EdgeNames) (ps : List Pair) (q : Pair) → IsIn q (pairs_into gs w.form w.setting.function b holder) → ((k : ℕ) → q.1 ≡ Constant (id k) → e.is_constant k ≡ true) → IsRightPair N e (have_result (behind [] body.insts)) ps q

  pub right_pairs : AreRight p.scope
  right_pairs = subst AreRight (sym scope_is) (λ b t body formed here reached holder held phis_of e ps q there reads. right_here b t body formed here reached holder held phis_of e ps q there reads)

  -- what a pair reads as a constant the text mentions
  module _ (b t : ℕ) (here : (nth (graph Fn) b).reached ≡ true) (reached : (nth (graph Fn) t).reached ≡ true) (holder : Block) (held : slice_get Fn.blocks t ≡ Some holder) (q : Pair) (w : IsPairOf gs Where.form Fn b holder q) where
    same_constant : (c : Bool) (k n : ℕ) → source_by c k ≡ Constant (id n) → k ≡ n
    same_constant true k n e = ap number_of e
    same_constant false k n e = cc

    mentioned_here : (n : ℕ) → q.1 ≡ Constant (id n) → list_any (λ (x : ℕ). x == n) (reached_of (source_of m opts u.entry) u.plans).mentions ≡ true
    mentioned_here n is =
        subst (λ (k : ℕ). list_any (λ (x : ℕ). x == k) (reached_of (source_of m opts u.entry) u.plans).mentions ≡ true) (same_constant (is_constant_id gs w.value.0) w.value.0 n (ap (λ (x : Pair). x.1) w.same ∙ is))
        (source_mentioned s opts.entry right kinds opts unit u p among lives t holder w.phi held w.among w.is_phi w.kept reached w.place w.value.0 b w.at w.even w.from here)

  abbrev AreMentioned : Scope → Type 0
  AreMentioned w =
      (b t : ℕ) → (nth (graph w.setting.function) b).reached ≡ true → (nth (graph w.setting.function) t).reached ≡ true → (holder : Block) → slice_get w.setting.function.blocks t ≡ Some holder → (q : Pair) → IsIn q (pairs_into gs w.form w.setting.function b holder)
      → (n : ℕ) → q.1 ≡ Constant (id n) → list_any (λ (x : ℕ). x == n) (reached_of (source_of m opts u.entry) u.plans).mentions ≡ true

  pub constants_mentioned : AreMentioned p.scope
  constants_mentioned = subst AreMentioned (sym scope_is) (λ b t here reached holder held q there n is. mentioned_here b t here reached holder held q (pair_of gs Where.form Fn b holder q there) n is)

  -- and the phis of the block to which the edge leads are as the law of edges asks
  abbrev ArePhis : Scope → Type 0
  ArePhis w =
      IsFormedFunction w.setting.function → ((k : ℕ) (x : Block) → slice_get w.setting.function.blocks k ≡ Some x → block_in w.setting.function x.label.0 ≡ Some k)
      → (b t : ℕ) (from block : Block) → slice_get w.setting.function.blocks b ≡ Some from → slice_get w.setting.function.blocks t ≡ Some block → ((i : Inst) → IsOf i (phis block) → (n : ℕ) × (source_from from.label.0 i.args ≡ Some n)) → ArePhisOf N w.form w.setting.function b block

  outer_is : (n : ℕ) → N.is_outer n ≡ (is_value_parameter gs Fn n || (is_hoisted (Where.form n) && is_result Fn n))
  outer_is n = ap (λ (w : Scope). is_value_parameter gs w.setting.function n || (is_hoisted (w.form n) && is_result w.setting.function n)) scope_is

  pub phis_right : ((i : Inst) → IsIn i (insts_of Fn) → is_phi i ≡ true → (t : Tree) × (type_tree gs i.ty ≡ Some t)) → ArePhis p.scope
  phis_right typed = subst ArePhis (sym scope_is) (λ form places b t from block begins leads sources. phis_are_of s opts.entry right kinds opts unit u p among N outer_is form places typed b t from block begins leads sources)
