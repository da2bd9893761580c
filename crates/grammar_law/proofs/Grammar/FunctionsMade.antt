-- The declaration of a function is made of declared words, where its blocks and edges are.
use Rattle.std.proofs.Common.{◌≡◌, ◌==◌, ℕ, Bool, true, false, List, [], map, Option, Some, None, refl, sym, ◌∙◌, subst, if◌then◌else◌, ap}
use Rattle.std.specs.Prelude.{option_map, slice_get, slice_index, slice_index_or}
use Rattle.spv_ops.specs.Opcode.{is}
use Rattle.spv_ops.specs.declared.Op.TheVariants as code
use Rattle.spv_module.specs.Lists.{id}
use Rattle.spv_module.specs.declared.inst.Inst.{Inst}
use Rattle.spv_module.specs.declared.inst.Block.{Block}
use Rattle.spv_module.specs.declared.inst.Function.{Function}
use Rattle.spv_index.specs.Locals.{insts_of}
use Rattle.structure_rules.specs.declared.graph.Node.{Node}
use Rattle.structure_rules.specs.Graph.{graph, nth}
use Rattle.nest_place.specs.Nests.{IsSound}
use Rattle.structure_recover.specs.Follows.{target}
use Rattle.function_plan.specs.Targets.{target_of}
use Rattle.conformance.specs.Rules.{Options}
use Rattle.module_semantics.specs.Setting.{Setting}
use Rattle.name_alloc.specs.declared.claims.Key.{Key}
use Rattle.name_alloc.specs.declared.claims.Key.TheVariants.{Main, Id, Block as BlockKey, Member, Again, Leave, Fell, Captured, Spare}
use Rattle.name_alloc.specs.Naming.{space_of, name_of}
use Rattle.glsl_ast.specs.Tree.{Text, Expr, TranslationUnit}
use Rattle.glsl_grammar.specs.Read.{is_declared}
use Rattle.glsl_grammar.specs.Spelled.{IsName}
use Rattle.text_rules.specs.Printed.{is_written_struct}
use Rattle.expr_forward.specs.Scope.{Scope, type_of}
use Rattle.expr_forward.specs.Values.{value}
use Rattle.expr_forward.specs.Statements.{block_text}
use Rattle.control_text.specs.Statements.{function_text}
use Rattle.function_text.specs.Functions.{FunctionPlan, written, copies_text, first_operand, returned, elem_at, blocks_of, top_text, param_text, result_type, function_key, function_name, body_text, function_decl}
use Rattle.unit_rules.specs.Translation.{Naming, text_of, id_text}
use Rattle.unit_rules.specs.Unit.{source_of, reached_of, IsUnitOf}
use Rattle.list_law.proofs.Lists.{get_index}
use Rattle.claim_law.specs.Uses.{Words, UsesExpr}
use Rattle.claim_law.specs.Asked.{IsAsked}
use Rattle.claim_law.specs.Statements.{EachStmt}
use Rattle.claim_law.specs.Blocks.{FitWords, AreMade}
use Rattle.claim_law.specs.Units.{UseParams, UsesResult, UsesDecl}
use Rattle.claim_law.proofs.Spell.Values.{value-uses}
use Rattle.claim_law.proofs.Spell.Statements.{both-stmts}
use Rattle.claim_law.proofs.Spell.Sentences.{list-uses}
use Rattle.claim_law.proofs.Spell.Regions.{region-made}
use Rattle.typed_law.specs.Conforms.{IsConforming}
use Rattle.typed_law.specs.Words.{AreGivenWords}
use Rattle.typed_law.proofs.Values.{inside}
use Rattle.claim_law.specs.Claimed.{IsIn, HasName}
use Rattle.claim_law.specs.Apart.{is_flow, IsFlow}
use Rattle.claim_law.proofs.Claim.Keys.{main_claimed}
use Rattle.claim_law.proofs.Claim.Named.{Plans, has_name_of, function_named}
use Rattle.claim_law.proofs.Claim.Told.{axes_told}
use Rattle.claim_law.proofs.Claim.Flags.{again_is_flow, leave_is_flow, fell_is_flow}
use Rattle.grammar_law.specs.Mentioned.{IsValueIn}
use Rattle.grammar_law.specs.Switches.{IsReached, Chooses, Leads}
use Rattle.grammar_law.specs.Words.{is_struct_key, words_of, AreOfStructs}
use Rattle.grammar_law.proofs.Unit.Structs.{Written}
use Rattle.grammar_law.proofs.Unit.Switching.{switch_at}
use Rattle.grammar_law.proofs.Unit.Usable.{Ranks, ranked}
use Rattle.grammar_law.proofs.Unit.Ways.{HaveKinds, F, R, V, in_module, plan_is, written_is, reached_nth}
use Rattle.grammar_law.proofs.Unit.Whole.{tree-whole}
use Rattle.grammar_law.proofs.Unit.Words.{own_value, built_in_value}
use Rattle.grammar_law.proofs.Grammar.StructItems.{key_is_name}
use Rattle.grammar_law.proofs.Grammar.Signatures.{params_made, result_made}
use Rattle.grammar_law.proofs.Grammar.Tops.{top_made}
use Rattle.grammar_law.proofs.Grammar.Ends.{case_fits, chooser_usable, returned_usable}

-- flags and spares have names of the text's own
pub flow_own : (gs : List Inst) (key : Key) → is_flow key ≡ true → (space_of key ≡ None) × (is_struct_key gs key ≡ false)
flow_own gs (Again label) flow = (refl, refl)
flow_own gs (Leave label) flow = (refl, refl)
flow_own gs (Fell label) flow = (refl, refl)
flow_own gs (Spare from to number) flow = (refl, refl)
flow_own gs Main flow = cc
flow_own gs (Id n) flow = cc
flow_own gs (BlockKey v s) flow = cc
flow_own gs (Member s k) flow = cc
flow_own gs (Captured q k) flow = cc

module _ (s : Setting) (entry : Option (List ℕ)) (right : IsConforming s.of entry) (kinds : HaveKinds s.of.globals) (o : Options) (unit : TranslationUnit) (u : IsUnitOf s.of o unit) (p : FunctionPlan) (among : IsIn p u.plans) (names : List (List ℕ)) (structs : AreOfStructs s.of.globals (name_of u.claimed) names)
    (declared : (g : Inst) → IsIn g s.of.globals → is_written_struct (source_of s.of o u.entry) (Written s.of o unit u) g ≡ true → is_declared names (id_text (name_of u.claimed) g.result) ≡ true)
    (words : (g : Inst) → IsIn g s.of.globals → FitWords g.args) (given : AreGivenWords o.overrides) where
  abbrev Found : Naming
  Found = name_of u.claimed

  abbrev Fn : Function
  Fn = F s entry right kinds o unit u p among

  abbrev Where : Scope
  Where = V s entry right kinds o unit u p among

  abbrev Marks : List Bool
  Marks = R s entry right kinds o unit u p among

  abbrev W : Words
  W = words_of s.of.globals (name_of u.claimed) names

  scope_is : p.scope ≡ Where
  scope_is = (plan_is s entry right kinds o unit u p among).scope_is

  flow_value : (x : Text) → IsFlow Found x → W.value x
  flow_value x is_it = let own = flow_own s.of.globals is_it.0 is_it.1 in own_value s.of.globals Found u.lawful names structs x (record { key = is_it.0; is = is_it.2; space = own.0; other = own.1 })

  -- what is known of its blocks and edges
  pub record IsFunctionMade : Type 0 where
    pub asked : (b : ℕ) → IsAsked W Found Where (IsValueIn Where Marks b) b
    pub statements : (b : ℕ) → slice_index_or Marks b false ≡ true → EachStmt W (block_text Where b)
    pub copies : (b t : ℕ) → (nth (graph Fn) b).reached ≡ true → Leads (graph Fn) b t → EachStmt W (copies_text p b t)
    pub variables : (c : ℕ) (holder : Block) (i : Inst) → slice_get Fn.blocks c ≡ Some holder → IsIn i holder.insts → is i.op code.Variable ≡ true → (nth (graph Fn) c).reached ≡ true
    pub low : (i : Inst) → IsIn i (insts_of Fn) → FitWords i.args
    pub sound : IsSound (graph Fn)

  module _ (given_blocks : IsFunctionMade) where
    says : (b n : ℕ) → IsValueIn Where Marks b n → UsesExpr W (value Where b n)
    says b n usable =
        value-uses W (λ f. built_in_value s.of.globals Found u.lawful names structs f) (λ k. axes_told Found k) Found Where (IsValueIn Where Marks b) b (given_blocks.asked b) (Ranks s entry right kinds o unit u p among) (ranked s entry right kinds o unit u p among b) n usable

    made : AreMade W (blocks_of p) (IsReached (graph Fn)) (Chooses (graph Fn)) (Leads (graph Fn))
    made = record {
      statements = λ b here. subst (λ (w : Scope). EachStmt W (block_text w b)) (sym scope_is) (given_blocks.statements b (reached_nth (graph Fn) b ∙ here));
      condition = λ b here chooses. subst (λ (w : Scope). UsesExpr W (value w b (first_operand w.setting.function b))) (sym scope_is) (says b (first_operand Fn b) (chooser_usable s entry right kinds o unit u p among b here chooses));
      case = λ b l low. case_fits (elem_at p.scope (type_of p.scope (first_operand (written p) b))) l low;
      value = λ b e here is_it. returned_made b e here (subst (λ (w : Scope). option_map (value w b) (returned w.setting.function b) ≡ Some e) scope_is is_it);
      copies = λ b t here leads. given_blocks.copies b t here leads;
      again = λ b x is_it. flow_value x (again_is_flow s.of o unit u p among b x is_it);
      leave = λ b x is_it. flow_value x (leave_is_flow s.of o unit u p among b x is_it);
      fell = λ b x is_it. flow_value x (fell_is_flow s.of o unit u p among b x is_it);
    }
      where
        returned_made : (b : ℕ) (e : Expr) → (nth (graph Fn) b).reached ≡ true → option_map (value Where b) (returned Fn b) ≡ Some e → UsesExpr W e
        returned_made b e here is_it = by_value (returned Fn b) refl is_it
          where
            by_value : (q : Option ℕ) → returned Fn b ≡ q → option_map (value Where b) q ≡ Some e → UsesExpr W e
            by_value None told e_is = cc
            by_value (Some n) told e_is = let same : value Where b n ≡ e = cc in subst (UsesExpr W) same (says b n (returned_usable s entry right kinds o unit u p among b here n told))

    -- its name
    function_has : HasName Found (function_key u.entry (written p).id)
    function_has = by_test ((written p).id.0 == u.entry) refl
      where
        by_test : (t : Bool) → ((written p).id.0 == u.entry) ≡ t → HasName Found (if t then Main else Id (written p).id)
        by_test true is_it = has_name_of s.of o unit u Main (main_claimed (source_of s.of o u.entry) (reached_of (source_of s.of o u.entry) u.plans) (Plans s.of o unit u))
        by_test false other = function_named s.of o unit u p among other

    function_name_is : IsName (function_name p.scope)
    function_name_is =
        subst (λ (w : Scope). IsName (function_name w)) (sym scope_is)
        (subst (λ (f : Function). IsName (text_of Found (function_key u.entry f.id))) (written_is s entry right kinds o unit u p among) (key_is_name s.of entry right o unit u (function_key u.entry (written p).id) function_has))

    -- the targets of a reached block
    aimed : (b k t : ℕ) → (nth (graph Fn) b).reached ≡ true → target (graph Fn) b k ≡ Some t → target_of p.graph b k ≡ t
    aimed b k t here at =
        ap (λ (g : List Node). target_of g b k) (plan_is s entry right kinds o unit u p among).graph_is
        ∙ (ap (λ (r : Bool). slice_index (if r then (nth (graph Fn) b).targets else []) k) here ∙ get_index (nth (graph Fn) b).targets k t at)

    tree_made : EachStmt W (function_text (blocks_of p) p.region)
    tree_made =
        region-made W (blocks_of p) (IsReached (graph Fn)) (Chooses (graph Fn)) (Leads (graph Fn)) made (record { in_loop = None; continues = false; in_switch = false }) p.region
        (tree-whole Fn given_blocks.sound (λ h here on. switch_at Fn (λ i i_in. (inside s entry right Fn (in_module s entry right kinds o unit u p among)).formed i i_in) given_blocks.low h here on) (blocks_of p) (plan_is s entry right kinds o unit u p among).order_is aimed p.region (plan_is s entry right kinds o unit u p among).tree)

    body_made : EachStmt W (body_text p)
    body_made =
        both-stmts W (top_text p.scope (written p).blocks) (function_text (blocks_of p) p.region)
        (subst (λ (w : Scope). EachStmt W (top_text w w.setting.function.blocks)) (sym scope_is) (top_made s entry right kinds o unit u p among names structs declared words given given_blocks.variables)) tree_made

    -- the law
    pub function_made : UsesDecl W (function_decl p)
    function_made = (
      subst (λ (w : Scope). UsesResult W (result_type w)) (sym scope_is) (result_made s entry right kinds o unit u p among names structs declared words given),
      function_name_is,
      subst (λ (w : Scope). UseParams W (map (param_text w) w.setting.function.params)) (sym scope_is) (params_made s entry right kinds o unit u p among names structs declared words given Fn.params (λ q q_in. q_in)),
      list-uses W (body_text p) body_made,
    )
