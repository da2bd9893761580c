-- Where the type of a live phi is declared in the text, the type of its variable stands for the variable's shape.
use Rattle.std.proofs.Common.{◌≡◌, ℕ, true, false, List, Some, Option, unwrap_or, sym, ap, ◌∙◌, subst}
use Rattle.std.specs.Prelude.{slice_get, option_and_then}
use Rattle.spv_ops.specs.Opcode.{is}
use Rattle.spv_ops.specs.declared.Op.TheVariants as code
use Rattle.spv_module.specs.State.{ModuleState}
use Rattle.spv_module.specs.Lists.{id}
use Rattle.spv_module.specs.declared.inst.Inst.{Inst}
use Rattle.spv_module.specs.declared.inst.Block.{Block}
use Rattle.spv_module.specs.declared.inst.Function.{Function}
use Rattle.spv_types.specs.Tree.{Tree}
use Rattle.spv_types.specs.Types.{type_tree}
use Rattle.spv_types.specs.Leaves.{IsSized}
use Rattle.structure_rules.specs.Graph.{graph, nth}
use Rattle.conformance.specs.Rules.{Options}
use Rattle.traces.specs.Invocations.{Invocation}
use Rattle.module_semantics.specs.Setting.{Setting}
use Rattle.use_chains.specs.Slots.{inst_at, IsLive}
use Rattle.phi_copies.specs.Sequence.{Pair, target}
use Rattle.name_alloc.specs.declared.claims.Key.TheVariants.{Id}
use Rattle.glsl_ast.specs.Tree.{TranslationUnit}
use Rattle.glsl_semantics.specs.Shapes.{Shape}
use Rattle.glsl_semantics.specs.Expressions.{Program, type_of}
use Rattle.text_rules.specs.Constants.{Source}
use Rattle.text_rules.specs.Declarations.{spelling, type_at}
use Rattle.expr_forward.specs.Scope as scope
use Rattle.expr_forward.specs.Scope.{Scope}
use Rattle.function_plan.specs.Phis.{is_gone, pairs_into}
use Rattle.function_text.specs.Functions.{FunctionPlan}
use Rattle.unit_rules.specs.Unit.{source_of, IsUnitOf}
use Rattle.agree_law.specs.Agree.{Naming}
use Rattle.fits_law.specs.State.{value_shape}
use Rattle.global_law.specs.Parts.{shape_in}
use Rattle.global_law.specs.Walks.{struct_names}
use Rattle.global_law.proofs.Path.Parts.{sized_lengths}
use Rattle.global_law.specs.Sources.{source_of as run_source}
use Rattle.global_law.specs.Names.{IsDeclared}
use Rattle.global_law.proofs.Global.Declared.{named_type, outline_same}
use Rattle.typed_law.specs.Conforms.{IsConforming}
use Rattle.claim_law.specs.Claimed.{IsIn}
use Rattle.grammar_law.proofs.Unit.Ways.{HaveKinds, F, R, V, plan_is, written_is}
use Rattle.text_law.proofs.Naming.Keys.{S, key, names}
use Rattle.grammar_law.proofs.Grammar.PairsOf.{IsPairOf, pair_of}
use Rattle.text_law.proofs.Written.Shapes.{shape_of_value}
use Rattle.text_law.proofs.Moves.PhiOperands.{result_type, shaped}

module _ (m : ModuleState) (opts : Options) (right : IsConforming m opts.entry) (kinds : HaveKinds m.globals) (unit : TranslationUnit) (u : IsUnitOf m opts unit) (inv : Invocation) (p : FunctionPlan) (among : IsIn p u.plans)
    (lives : (c place : ℕ) (i : Inst) → inst_at (F (S m opts unit u inv) opts.entry right kinds opts unit u p among) c place ≡ Some i → is_gone ((V (S m opts unit u inv) opts.entry right kinds opts unit u p among).form i.result) ≡ false
    → IsLive (F (S m opts unit u inv) opts.entry right kinds opts unit u p among) (R (S m opts unit u inv) opts.entry right kinds opts unit u p among) c place)
    (program : Program) where
  abbrev s : Setting
  s = S m opts unit u inv

  abbrev N : Naming
  N = names m opts unit u inv p

  abbrev gs : List Inst
  gs = m.globals

  abbrev Fn : Function
  Fn = F s opts.entry right kinds opts unit u p among

  abbrev Where : Scope
  Where = V s opts.entry right kinds opts unit u p among

  abbrev src : Source
  src = source_of m opts u.entry

  -- the types of the live phis of a reached block are declared
  abbrev pub AreDeclaredAt : ℕ → Type 0
  AreDeclaredAt t =
      (holder : Block) → slice_get (F (S m opts unit u inv) opts.entry right kinds opts unit u p among).blocks t ≡ Some holder → (nth (graph (F (S m opts unit u inv) opts.entry right kinds opts unit u p among)) t).reached ≡ true → (i : Inst) → IsIn i holder.insts → is i.op code.Phi ≡ true
      → is_gone ((V (S m opts unit u inv) opts.entry right kinds opts unit u p among).form i.result) ≡ false → (v : Tree) → type_tree m.globals i.ty ≡ Some v → IsDeclared program (S m opts unit u inv) (run_source (S m opts unit u inv) opts.overrides) (key m opts unit u inv) v

  module _ (b t : ℕ) (holder : Block) (held : slice_get Fn.blocks t ≡ Some holder) (reached : (nth (graph Fn) t).reached ≡ true) (declared : AreDeclaredAt t) (q : Pair) (w : IsPairOf gs Where.form Fn b holder q) where
    abbrev i : Inst
    i = w.phi

    abbrev of_phi : (v : Tree) × (type_tree gs i.ty ≡ Some v) × IsSized v
    of_phi = shaped s opts.entry right kinds opts unit u p among lives t holder i held w.among w.is_phi w.kept reached

    value_is : value_shape s Fn i.result ≡ Some of_phi.0
    value_is = ap (option_and_then (type_tree gs)) (result_type s opts.entry right kinds opts unit u p among lives t holder i held w.among w.is_phi w.kept reached) ∙ of_phi.1

    shape_is : N.shape i.result ≡ shape_in s (struct_names (key m opts unit u inv)) of_phi.0
    shape_is = shape_of_value m opts unit u inv p i.result of_phi.0 (subst (λ (f : Function). value_shape s f i.result ≡ Some of_phi.0) (sym (written_is s opts.entry right kinds opts unit u p among)) value_is)

    type_is : scope.type_of Where i.result ≡ i.ty
    type_is = ap (λ (x : Option ℕ). unwrap_or x 0) (result_type s opts.entry right kinds opts unit u p among lives t holder i held w.among w.is_phi w.kept reached)

    abbrev Stands : ℕ → Type 0
    Stands n = type_of program (type_at Where.setting.source Where.names (scope.type_of Where n)) ≡ Some (N.shape n)

    phi_stands : Stands i.result
    phi_stands =
        ap (λ (ty : ℕ). type_of program (type_at Where.setting.source Where.names ty)) type_is
        ∙ (ap (type_of program) (outline_same (spelling src (λ n. key m opts unit u inv (Id (id n)))) gs i.ty of_phi.0 of_phi.1)
        ∙ (named_type program s src (key m opts unit u inv) of_phi.0 (sized_lengths of_phi.0 of_phi.2) (declared holder held reached i w.among w.is_phi w.kept of_phi.0 of_phi.1)
        ∙ ap (λ (x : Shape). Some x) (sym shape_is)))

    stands_here : Stands (target q)
    stands_here = subst (λ (x : Pair). Stands (target x)) w.same phi_stands

  -- The law, by the plan's own scope.
  abbrev AreStanding : Scope → Type 0
  AreStanding w =
      (b t : ℕ) (holder : Block) → slice_get w.setting.function.blocks t ≡ Some holder → (nth (graph w.setting.function) t).reached ≡ true → AreDeclaredAt t → (q : Pair) → IsIn q (pairs_into gs w.form w.setting.function b holder)
      → type_of program (type_at w.setting.source w.names (scope.type_of w (target q))) ≡ Some (N.shape (target q))

  pub types_stand : AreStanding p.scope
  types_stand =
      subst AreStanding (sym (plan_is s opts.entry right kinds opts unit u p among).scope_is)
      (λ b t holder held reached declared q there. stands_here b t holder held reached declared q (pair_of gs Where.form Fn b holder q there))
