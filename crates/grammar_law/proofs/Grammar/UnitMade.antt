-- The unit of a conforming module is made of declared words, where the blocks and edges of its functions are, and its calculated constants: so it is in the grammar.
use Rattle.std.proofs.Common.{◌≡◌, ◌++◌, ℕ, true, List, [], ◌∷◌, map, find, Option, Some, None, inl, inr, refl, sym, subst}
use Rattle.std.specs.Prelude.{option_to_list}
use Rattle.spv_module.specs.State.{ModuleState}
use Rattle.spv_module.specs.declared.inst.Id.{Id}
use Rattle.spv_module.specs.declared.inst.Inst.{Inst}
use Rattle.profile_rules.specs.declared.constant.ConstantKind.TheVariants as kinds_of
use Rattle.profile_rules.specs.Constants.{constant_kind}
use Rattle.conformance.specs.Rules.{Options}
use Rattle.name_alloc.specs.Naming.{name_of}
use Rattle.glsl_ast.specs.Tree.{Text, Decl, TranslationUnit}
use Rattle.glsl_grammar.specs.Read.{is_declared}
use Rattle.glsl_grammar.specs.InGrammar.{IsInGrammar}
use Rattle.text_rules.specs.Printed.{is_written_struct, is_declared_constant}
use Rattle.function_text.specs.Functions.{FunctionPlan, function_decl}
use Rattle.unit_rules.specs.Translation.{id_text}
use Rattle.unit_rules.specs.Unit.{has_id, plan_at, in_order, source_of, IsUnitOf}
use Rattle.claim_law.specs.Uses.{Words, UsesExpr}
use Rattle.claim_law.specs.Units.{UsesDecl, UseDecls, UsesUnit}
use Rattle.claim_law.specs.Blocks.{FitWords}
use Rattle.typed_law.specs.Conforms.{IsConforming}
use Rattle.typed_law.specs.Words.{AreGivenWords}
use Rattle.claim_law.specs.Claimed.{IsIn}
use Rattle.grammar_law.specs.Words.{words_of, AreOfStructs}
use Rattle.grammar_law.proofs.Unit.Lists.{found_by, of_flat}
use Rattle.grammar_law.proofs.Unit.Words.{words-in-grammar}
use Rattle.grammar_law.proofs.Unit.Ways.{HaveKinds}
use Rattle.grammar_law.proofs.Grammar.Held.{Written, Run, AreDeclaredBefore}
use Rattle.grammar_law.proofs.Grammar.StructItems.{N}
use Rattle.grammar_law.proofs.Grammar.Items.{use_joined, Items, LastNames, items_made, last_structs, last_declared}
use Rattle.grammar_law.proofs.Grammar.CalculatedItems.{calculated_made}
use Rattle.grammar_law.proofs.Grammar.Sizes.{sizes_made}
use Rattle.grammar_law.proofs.Grammar.FunctionsMade.{IsFunctionMade, function_made}

-- a plan in the order of calls is one of the plans
of_option : {A : Type 0} (x : A) (q : Option A) → IsIn x (option_to_list q) → q ≡ Some x
of_option x None among = absurd among
of_option x (Some y) (inl same) = subst (λ z. Some y ≡ Some z) same refl
of_option x (Some y) (inr none) = absurd none

pub in_plans : (order : List Id) (plans : List FunctionPlan) (p : FunctionPlan) → IsIn p (in_order order plans) → IsIn p plans
in_plans order plans p among =
    let n = of_flat (plan_at plans) order p among in
    (found_by (has_id n.0) plans p (of_option p (find (has_id n.0) plans) n.2)).0

functions_use : (W : List Text → Words) (names : List (List ℕ)) (ps : List FunctionPlan) → ((p : FunctionPlan) → IsIn p ps → UsesDecl (W names) (function_decl p)) → UseDecls W names (map function_decl ps)
functions_use W names [] each = tt
functions_use W names (p ∷ ps) each = (each p (inl refl), functions_use W names ps (λ q q_in. each q (inr q_in)))

module _ (m : ModuleState) (o : Options) (right : IsConforming m o.entry) (unit : TranslationUnit) (u : IsUnitOf m o unit) (kinds : HaveKinds m.globals) (words : (h : Inst) → IsIn h m.globals → FitWords h.args) (rows : (h : Inst) → IsIn h m.heads → FitWords h.args) (given : AreGivenWords o.overrides)
    (functions : (p : FunctionPlan) (among : IsIn p u.plans) (names : List (List ℕ)) (structs : AreOfStructs m.globals (name_of u.claimed) names) (declared : (g : Inst) → IsIn g m.globals → is_written_struct (source_of m o u.entry) (Written m o.entry right o unit u) g ≡ true → is_declared names (id_text (name_of u.claimed) g.result) ≡ true) → IsFunctionMade (Run m o.entry right o unit u) o.entry right kinds o unit u p among names structs declared words given) where
  pub calculated : (g : Inst) → IsIn g m.globals → is_declared_constant (source_of m o u.entry) (Written m o.entry right o unit u) g ≡ true → constant_kind g.op ≡ kinds_of.Operation → (names : List (List ℕ)) → AreOfStructs m.globals (name_of u.claimed) names → AreDeclaredBefore m o.entry right o unit u names g.at → UsesExpr (words_of m.globals (name_of u.claimed) names) ((N m o.entry right o unit u).calculated g)
  calculated g there on kind names structs declared = calculated_made m o right unit u words given names structs g there on kind declared

  abbrev W : List Text → Words
  W = words_of m.globals (name_of u.claimed)

  abbrev pub Last : List (List ℕ)
  Last = LastNames m o.entry right o unit u words given rows calculated

  abbrev Decls : List Decl
  Decls = Items m o.entry right o unit u words given rows calculated

  pub structs : AreOfStructs m.globals (name_of u.claimed) Last
  structs = last_structs m o.entry right o unit u words given rows calculated

  pub declared : (g : Inst) → IsIn g m.globals → is_written_struct (source_of m o u.entry) (Written m o.entry right o unit u) g ≡ true → is_declared Last (id_text (name_of u.claimed) g.result) ≡ true
  declared = last_declared m o.entry right o unit u words given rows calculated

  decls_made : UseDecls W [] (Decls ++ map function_decl (in_order u.order u.plans))
  decls_made =
      use_joined W [] Decls (map function_decl (in_order u.order u.plans)) (items_made m o.entry right o unit u words given rows calculated)
      (functions_use W Last (in_order u.order u.plans) (λ p p_in. (let among = in_plans u.order u.plans p p_in in function_made (Run m o.entry right o unit u) o.entry right kinds o unit u p among Last structs declared words given (functions p among Last structs declared))))

  -- the law
  pub unit_made : UsesUnit W unit
  unit_made =
      let sizes = sizes_made m o right u.entry u.is_entry rows words given in
      subst (UsesUnit W) (sym u.unit_is) (sizes.0, sizes.1, sizes.2, decls_made)

  pub made-in-grammar : IsInGrammar unit
  made-in-grammar = words-in-grammar m.globals (name_of u.claimed) u.lawful unit unit_made
