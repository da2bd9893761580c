-- Where a block ends, the first operand that its terminator reads is ready; so its expression says its value.
use Rattle.std.proofs.Common.{◌≡◌, ◌≤◌, ℕ, Bool, true, false, List, [], ◌∷◌, ◌++◌, append_assoc, Option, Some, None, unwrap_or, inl, refl, sym, ap, ◌∙◌, subst, arith}
use Rattle.std.specs.Prelude.{option_and_then, slice_index_or}
use Rattle.spv_module.specs.declared.inst.Inst.{Inst}
use Rattle.spv_module.specs.declared.inst.Block.{Block}
use Rattle.spv_module.specs.declared.inst.Function.{Function}
use Rattle.spv_types.specs.Tree.{Tree, ValueTree}
use Rattle.spv_types.specs.Types.{type_tree}
use Rattle.spv_index.specs.Locals.{insts_of, type_in}
use Rattle.conformance.specs.Rules.{Options}
use Rattle.traces.specs.Runs.{Supplied}
use Rattle.traces.specs.Outcomes.{Result}
use Rattle.module_semantics.specs.Setting.{Setting}
use Rattle.module_semantics.specs.State.{Conf}
use Rattle.module_semantics.specs.Operands.{value_at, arg}
use Rattle.glsl_ast.specs.Tree.{Text, TranslationUnit}
use Rattle.glsl_semantics.specs.Shapes.{Typed}
use Rattle.glsl_semantics.specs.States.{State}
use Rattle.glsl_semantics.specs.Expressions.{Program, Argument}
use Rattle.expr_forward.specs.Scope.{Scope}
use Rattle.expr_forward.specs.Values.{value}
use Rattle.function_text.specs.Functions.{FunctionPlan}
use Rattle.unit_rules.specs.Unit.{IsUnitOf}
use Rattle.agree_law.specs.Agree.{Naming}
use Rattle.agree_law.specs.Points.{Body, behind, Stops}
use Rattle.call_law.specs.Known.{IsFunctionOf, LendsWhole}
use Rattle.typed_law.specs.Conforms.{IsConforming}
use Rattle.typed_law.proofs.Values.{inside}
use Rattle.claim_law.specs.Claimed.{IsIn}
use Rattle.claim_law.proofs.Claim.Listed.{in_right, in_flat, at_place}
use Rattle.grammar_law.proofs.Unit.Lists.{as_among}
use Rattle.grammar_law.proofs.Unit.Links.{placed_in}
use Rattle.grammar_law.proofs.Unit.Ways.{HaveKinds, F, R, V, in_module}
use Rattle.grammar_law.specs.Formed.{IsFormedBlock, IsFormedFunction}
use Rattle.grammar_law.proofs.Formed.Blocks.{behind_is, reached_body}
use Rattle.text_law.proofs.Written.Done.{all_behind}
use Rattle.text_law.proofs.Written.Mentions.{reads_first, first_no_phi, terminator_mentions}
use Rattle.text_law.proofs.Written.Says.{IsReady, AreNamesOf, SaysSo, IsLeftOfValues, ready_says}

module _ (s : Setting) (entry : Option (List ℕ)) (right : IsConforming s.of entry) (kinds : HaveKinds s.of.globals) (o : Options) (unit : TranslationUnit) (u : IsUnitOf s.of o unit) (p : FunctionPlan) (among : IsIn p u.plans) (lends : LendsWhole s) (b : ℕ) where
  abbrev gs : List Inst
  gs = s.of.globals

  abbrev Fn : Function
  Fn = F s entry right kinds o unit u p among

  abbrev Where : Scope
  Where = V s entry right kinds o unit u p among

  abbrev Marks : List Bool
  Marks = R s entry right kinds o unit u p among

  unwrapped : (x : Option ℕ) (t : Tree) → option_and_then (type_tree gs) x ≡ Some t → type_tree gs (unwrap_or x 0) ≡ Some t
  unwrapped None t is = cc
  unwrapped (Some ty) t is = is

  module _ (body : Body Fn b) (formed : IsFormedBlock body.block.insts) where
    -- the terminator stands in its block, behind the others
    pub split : formed.behind ≡ body.insts ++ body.last ∷ []
    split = sym (behind_is body.block formed) ∙ body.whole

    in_it : IsIn body.last body.block.insts
    in_it =
        subst (IsIn body.last) (sym (formed.whole ∙ (ap (λ (xs : List Inst). formed.heads ++ xs) split ∙ sym (append_assoc formed.heads body.insts (body.last ∷ [])))))
        (in_right body.last (formed.heads ++ body.insts) (body.last ∷ []) (inl refl))

    pub end_ready : slice_index_or Marks b false ≡ true → reads_first body.last.op ≡ true → (t : Tree) → option_and_then (type_tree gs) (type_in gs Fn (arg body.last 0)) ≡ Some t → IsReady s entry right kinds o unit u p among lends b body.last.at (arg body.last 0)
    end_ready here on t shaped =
        let at = placed_in Fn b body.block body.last body.there in_it in
        let in_function : IsIn body.last (insts_of Fn) = in_flat (λ (x : Block). x.insts) Fn.blocks body.block body.last (at_place Fn.blocks b body.block body.there) in_it in
        let whole = (inside s entry right Fn (in_module s entry right kinds o unit u p among)).formed body.last (as_among (insts_of Fn) body.last in_function) in
        record {
          value = record {
            user = body.last;
            mentioned = terminator_mentions Fn Marks b at.0 body.last at.1 here on whole.least;
            no_phi = first_no_phi body.last.op on;
            shape = t;
            shaped = unwrapped (type_in gs Fn (arg body.last 0)) t shaped;
          };
          early = (let itself : body.last.at ≤ body.last.at = omega arith in itself);
        }

  module _ (is_one : IsFunctionOf Fn s.of.functions) (program : Program) (calls : Text → List Argument → State → Result (Option Typed × State)) (N : Naming) (names : AreNamesOf s entry right kinds o unit u p among lends b N) (Holds : Conf → Type 0) (form : IsFormedFunction Fn) (c : Supplied Conf) (z : State) (stop : Stops N s Holds Fn (reached_body Fn form) b c z) where
    abbrev formed_here : IsFormedBlock stop.body_of.block.insts
    formed_here = form.blocks b stop.body_of.block stop.body_of.there

    -- what is left of the values of the block, where it ends
    abbrev pub IsLeftAtEnd : Type 0
    IsLeftAtEnd = IsLeftOfValues s entry right kinds o unit u p among lends b is_one program calls N names Holds (behind [] stop.body_of.insts) c z stop.at.stands stop.body_of formed_here stop.body_of.insts stop.body_of.last [] (split stop.body_of formed_here) (all_behind [] stop.body_of.insts)

    -- the law
    pub end_says : IsLeftAtEnd → slice_index_or Marks b false ≡ true → reads_first stop.body_of.last.op ≡ true → (t : Tree) → option_and_then (type_tree gs) (type_in gs Fn (arg stop.body_of.last 0)) ≡ Some t → (v : ValueTree) → value_at s c.at.top (arg stop.body_of.last 0) ≡ Some v
        → SaysSo s entry right kinds o unit u p among lends b is_one program calls N names Holds (behind [] stop.body_of.insts) c z stop.at.stands stop.body_of formed_here stop.body_of.insts stop.body_of.last [] (split stop.body_of formed_here) (all_behind [] stop.body_of.insts) (value Where b (arg stop.body_of.last 0)) (arg stop.body_of.last 0) v
    end_says left here on t shaped v has =
        ready_says s entry right kinds o unit u p among lends b is_one program calls N names Holds (behind [] stop.body_of.insts) c z stop.at.stands stop.body_of formed_here stop.body_of.insts stop.body_of.last [] (split stop.body_of formed_here) (all_behind [] stop.body_of.insts) left
        (arg stop.body_of.last 0) (end_ready stop.body_of formed_here here on t shaped) v has
