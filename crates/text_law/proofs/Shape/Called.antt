-- The function that a call names is a function of the text.
use Rattle.std.proofs.Common.{◌≡◌, ◌==◌, ℕ, Bool, true, false, List, [], ◌∷◌, find, map, Some, inl, inr, refl, sym, ap, ◌∙◌, subst, if◌then◌else◌}
use Rattle.std.specs.Prelude.{bytes_eq, option_map}
use Rattle.std.proofs.lemmas.Bool.Decides.{eqb_tells}
use Rattle.std.proofs.lemmas.Bool.{or_left, or_right}
use Rattle.spv_ops.specs.Opcode.{is}
use Rattle.spv_ops.specs.declared.Op.TheVariants as code
use Rattle.spv_module.specs.State.{ModuleState}
use Rattle.spv_module.specs.Lists.{id}
use Rattle.spv_module.specs.declared.inst.Id.{Id as IdOf}
use Rattle.spv_module.specs.declared.inst.Inst.{Inst}
use Rattle.spv_module.specs.declared.inst.Function.{Function}
use Rattle.spv_index.specs.Locals.{insts_of}
use Rattle.profile_rules.specs.Calls.{callee}
use Rattle.conformance.specs.Rules.{Options}
use Rattle.module_check.specs.Judged.{IsRead, IsFine}
use Rattle.module_check.proofs.OfBytes.{called_functions}
use Rattle.module_semantics.specs.Setting.{Setting}
use Rattle.name_alloc.specs.declared.claims.Key.TheVariants.{Main, Id}
use Rattle.name_alloc.specs.Naming.{name_of as names_by}
use Rattle.glsl_ast.specs.Tree.{Text, Stmts, stmts_in, TranslationUnit}
use Rattle.expr_forward.specs.Statements.{callee_text}
use Rattle.function_text.specs.Functions.{FunctionPlan, body_text}
use Rattle.unit_rules.specs.Translation.{Naming, text_of}
use Rattle.unit_rules.specs.Unit.{is_called, IsUnitOf}
use Rattle.region_law.proofs.Flags.{same_text, own_text}
use Rattle.typed_law.specs.Conforms.{IsConforming}
use Rattle.claim_law.specs.Claimed.{IsIn}
use Rattle.claim_law.specs.Bodies.{functions_in}
use Rattle.claim_law.proofs.Claim.Told.{named_is}
use Rattle.claim_law.specs.Told.{is_among}
use Rattle.grammar_law.proofs.Unit.Ways.{HaveKinds, F, V}
use Rattle.grammar_law.proofs.Grammar.Held.{any_invocation, Run}
use Rattle.grammar_law.proofs.Grammar.Called.{right, kinds}
use Rattle.grammar_law.proofs.Grammar.Callees.{function, listed, other_entry, callee_named}
use Rattle.grammar_law.proofs.Grammar.FirstBlocks.{as_function}
use Rattle.text_law.proofs.Naming.Functions.{has_plan}
use Rattle.text_law.proofs.Naming.Keys.{some_in, equal}
use Rattle.text_law.specs.Shape.{name_of, has_name, body_of}
use Rattle.text_law.proofs.Shape.Found.{in_numbers, body_found}

-- what is found by its name is among the names
found_name : (ds : List (Text × Stmts)) (x : Text) (b : Stmts) → option_map (λ (d : Text × Stmts). d.1) (find (has_name (Some x)) ds) ≡ Some b → is_among (map (λ (d : Text × Stmts). d.0) ds) x ≡ true
found_name [] x b e = cc
found_name (d ∷ ds) x b e = by_test (bytes_eq d.0 x) refl e (found_name ds x b)
  where
    by_test : (t : Bool) → bytes_eq d.0 x ≡ t → option_map (λ (c : Text × Stmts). c.1) (if t then Some d else find (has_name (Some x)) ds) ≡ Some b → (option_map (λ (c : Text × Stmts). c.1) (find (has_name (Some x)) ds) ≡ Some b → is_among (map (λ (c : Text × Stmts). c.0) ds) x ≡ true) → is_among (d.0 ∷ map (λ (c : Text × Stmts). c.0) ds) x ≡ true
    by_test true same e later = or_left (bytes_eq x d.0) (is_among (map (λ (c : Text × Stmts). c.0) ds) x) (subst (λ (y : Text). bytes_eq x y ≡ true) (sym (same_text d.0 x same)) (own_text x))
    by_test false other e later = or_right (bytes_eq x d.0) (is_among (map (λ (c : Text × Stmts). c.0) ds) x) (later e)

module _ (m : ModuleState) (o : Options) (unit : TranslationUnit) (read : IsRead m) (fine : IsFine m o) (u : IsUnitOf m o unit) (p : FunctionPlan) (among : IsIn p u.plans) where
  abbrev Right : IsConforming m o.entry
  Right = right m o unit read fine u

  abbrev Kinds : HaveKinds m.globals
  Kinds = kinds m o unit read fine u

  abbrev S : Setting
  S = Run m o.entry (right m o unit read fine u) o unit u

  abbrev Found : Naming
  Found = names_by u.claimed

  module _ (i : Inst) (there : IsIn i (insts_of (F S o.entry Right Kinds o unit u p among))) (on : is i.op code.FunctionCall ≡ true) where
    abbrev It : (f : Function) × IsIn f m.functions × (f.id.0 ≡ callee i)
    It = function S o.entry Right Kinds o unit u p among (called_functions m read fine.typed.unbroken) fine.later.acyclic i there on

    abbrev Name : Text
    Name = text_of Found (Id (id (callee i)))

    is_called_too : is_called u.order It.0 ≡ true
    is_called_too = listed S o.entry Right Kinds o unit u p among (called_functions m read fine.typed.unbroken) fine.later.acyclic i there on

    no_entry : (It.0.id.0 == u.entry) ≡ false
    no_entry = elim (eqb_tells It.0.id.0 u.entry) [
      | inl w ↦ absurd (other_entry S o.entry Right Kinds o unit u p among (called_functions m read fine.typed.unbroken) fine.later.acyclic i there on (sym It.2 ∙ w.1))
      | inr w ↦ w.0
    ]

    named : name_of u.entry Found It.0 ≡ Some Name
    named =
        ap (λ (b : Bool). Found (if b then Main else Id It.0.id)) no_entry
        ∙ (ap (λ (n : ℕ). Found (Id (id n))) It.2 ∙ named_is Found (Id (id (callee i))) (callee_named S o.entry Right Kinds o unit u p among (called_functions m read fine.typed.unbroken) fine.later.acyclic i there on))

    has_body : (b : Stmts) × (body_of unit (Some Name) ≡ Some b)
    has_body =
        let n = some_in (λ (k : IdOf). k.0 == It.0.id.0) u.order is_called_too in
        let has = has_plan read.bytes m o read.is fine unit u It.0 n.0 (as_function m.functions It.0 It.1) (sym (equal n.0.0 It.0.id.0 n.2)) (in_numbers u.order n.0 n.1) in
        (stmts_in (body_text has.plan), ap (body_of unit) (sym named) ∙ (ap (λ (f : Function). body_of unit (name_of u.entry Found f)) (sym has.of_it) ∙ body_found m o unit u any_invocation n.0 has.plan has.at n.1))

    -- The law.
    pub callee_seen : is_among (map (λ (d : Text × Stmts). d.0) (functions_in unit)) (callee_text (V S o.entry Right Kinds o unit u p among) i) ≡ true
    callee_seen = found_name (functions_in unit) Name has_body.0 has_body.1
