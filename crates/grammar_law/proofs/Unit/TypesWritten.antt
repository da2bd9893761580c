-- Structs are written for the types of what is written of functions: of live results, of parameters and of what functions return.
use Rattle.std.proofs.Common.{◌≡◌, ◌&&◌, ◌||◌, ℕ, Bool, true, false, List, [], ◌∷◌, ◌++◌, map, filter, flat_map, inl, inr, refl, sym, ap, ◌∙◌, subst, if◌then◌else◌}
use Rattle.std.specs.Prelude.{slice_index_or}
use Rattle.std.specs.List.{enumerate_from}
use Rattle.std.proofs.lemmas.Bool.{or_right}
use Rattle.spv_ops.specs.Shape.{is_pure}
use Rattle.spv_module.specs.State.{ModuleState}
use Rattle.spv_module.specs.declared.inst.Id.{Id as IdOf}
use Rattle.spv_module.specs.declared.inst.Inst.{Inst}
use Rattle.conformance.specs.Rules.{Options}
use Rattle.hoist_plan.specs.declared.form.Form.{Form}
use Rattle.hoist_plan.specs.declared.form.Form.TheVariants.{Hoisted}
use Rattle.glsl_ast.specs.Tree.{TranslationUnit}
use Rattle.text_rules.specs.Constants.{Source}
use Rattle.text_rules.specs.Printed.{is_written_variable, is_declared_constant, written_types}
use Rattle.function_plan.specs.Phis.{is_gone}
use Rattle.function_plan.specs.Planned.{is_live, is_captured}
use Rattle.function_text.specs.Functions.{FunctionPlan, written, is_hoisted}
use Rattle.function_text.specs.Live.{is_composite, is_wanted, has_type_written, types_of, in_block}
use Rattle.unit_rules.specs.Unit.{claims_by, liveness_of, live_of, source_of, IsUnitOf}
use Rattle.claim_law.specs.Claimed.{IsIn, IsOf}
use Rattle.claim_law.proofs.Claim.Listed.{in_left, in_right, in_flat, in_mapped}
use Rattle.profile_rules.specs.TypeForm.{signature}
use Rattle.grammar_law.proofs.Unit.Lists.{numbered_first, in_filter}
use Rattle.grammar_law.proofs.Unit.Structs.{Written}

-- what is not gone is live
pub kept_live : (form : ℕ → Form) (i : Inst) → is_gone (form i.result) ≡ false → is_live form i ≡ true
kept_live form i kept = by_pure (is_pure i.op) (is_gone (form i.result)) kept
  where
    by_pure : (a b : Bool) → b ≡ false → elim a as (λ a. Bool) [ true ↦ elim b as (λ b. Bool) [ true ↦ false | false ↦ true ] | false ↦ true ] ≡ true
    by_pure true false off = refl
    by_pure true true off = cc
    by_pure false b off = refl

module _ (m : ModuleState) (o : Options) (unit : TranslationUnit) (u : IsUnitOf m o unit) where
  abbrev S : Source
  S = source_of m o u.entry

  abbrev Types : List ℕ
  Types = written_types (source_of m o u.entry) (Written m o unit u)

  of_live : (ty : ℕ) → IsIn ty (flat_map (live_of types_of S) u.plans) → IsIn ty Types
  of_live ty among =
      in_right ty (map (λ (g : Inst). g.ty) (filter (λ g. is_written_variable (Written m o unit u) g || is_declared_constant S (Written m o unit u) g) m.globals)) (flat_map signature (map written u.plans) ++ flat_map (live_of types_of S) u.plans)
      (in_right ty (flat_map signature (map written u.plans)) (flat_map (live_of types_of S) u.plans) among)

  of_signature : (ty : ℕ) → IsIn ty (flat_map signature (map written u.plans)) → IsIn ty Types
  of_signature ty among =
      in_right ty (map (λ (g : Inst). g.ty) (filter (λ g. is_written_variable (Written m o unit u) g || is_declared_constant S (Written m o unit u) g) m.globals)) (flat_map signature (map written u.plans) ++ flat_map (live_of types_of S) u.plans)
      (in_left ty (flat_map signature (map written u.plans)) (flat_map (live_of types_of S) u.plans) among)

  -- of variables and constants that are written
  pub global_type_written : (g : Inst) → IsIn g m.globals → (is_written_variable (Written m o unit u) g || is_declared_constant S (Written m o unit u) g) ≡ true → IsIn g.ty Types
  global_type_written g among on =
      in_left g.ty (map (λ (h : Inst). h.ty) (filter (λ h. is_written_variable (Written m o unit u) h || is_declared_constant S (Written m o unit u) h) m.globals)) (flat_map signature (map written u.plans) ++ flat_map (live_of types_of S) u.plans)
      (in_mapped (λ (h : Inst). h.ty) (filter (λ h. is_written_variable (Written m o unit u) h || is_declared_constant S (Written m o unit u) h) m.globals) g (in_filter (λ h. is_written_variable (Written m o unit u) h || is_declared_constant S (Written m o unit u) h) m.globals g among on))

  module _ (p : FunctionPlan) (among : IsIn p u.plans) where
    pub parameter_type_written : (q : IdOf × IdOf) → IsIn q (written p).params → IsIn q.1.0 Types
    parameter_type_written q there =
        of_signature q.1.0 (in_flat signature (map written u.plans) (written p) q.1.0 (in_mapped written u.plans p among) (inr (in_mapped (λ (r : IdOf × IdOf). r.1.0) (written p).params q there)))

    pub return_type_written : IsIn (written p).result.0 Types
    return_type_written = of_signature (written p).result.0 (in_flat signature (map written u.plans) (written p) (written p).result.0 (in_mapped written u.plans p among) (inl refl))

    pub type_written : (i : Inst) (of_it : IsOf (claims_by S p) i) → has_type_written (liveness_of S p) (slice_index_or (liveness_of S p).reached of_it.number false) i ≡ true → IsIn i.ty Types
    type_written i of_it on =
        of_live i.ty
        (in_flat (live_of types_of S) u.plans p i.ty among
        (in_flat (in_block types_of (liveness_of S p)) (enumerate_from 0 (written p).blocks) (of_it.number, of_it.block) i.ty (numbered_first (written p).blocks of_it.number of_it.block of_it.there)
        (in_flat (types_of (liveness_of S p) (slice_index_or (liveness_of S p).reached of_it.number false)) of_it.block.insts i i.ty of_it.among
        (subst (λ (b : Bool). IsIn i.ty (if b then i.ty ∷ [] else [])) (sym on) (inl refl)))))

    -- of a live instruction of a reached block
    pub live_type_written : (i : Inst) (of_it : IsOf (claims_by S p) i) → slice_index_or (liveness_of S p).reached of_it.number false ≡ true → is_gone (p.scope.form i.result) ≡ false → IsIn i.ty Types
    live_type_written i of_it here kept =
        type_written i of_it (ap (λ (b : Bool). if b then is_live p.scope.form i else is_wanted m.globals p.scope.form p.scope.carried i) here ∙ kept_live p.scope.form i kept)

    -- and of a composite that is declared at the top
    pub top_type_written : (i : Inst) (of_it : IsOf (claims_by S p) i) → p.scope.form i.result ≡ Hoisted → is_composite m.globals i.ty ≡ true → IsIn i.ty Types
    top_type_written i of_it top composite = by_here (slice_index_or (liveness_of S p).reached of_it.number false) refl
      where
        wanted : is_wanted m.globals p.scope.form p.scope.carried i ≡ true
        wanted = or_right (is_captured p.scope.carried i) (is_hoisted (p.scope.form i.result) && is_composite m.globals i.ty) (ap (λ (x : Form). is_hoisted x && is_composite m.globals i.ty) top ∙ composite)

        by_here : (b : Bool) → slice_index_or (liveness_of S p).reached of_it.number false ≡ b → IsIn i.ty Types
        by_here true here = live_type_written i of_it here (ap is_gone top)
        by_here false here = type_written i of_it (ap (λ (b : Bool). if b then is_live p.scope.form i else is_wanted m.globals p.scope.form p.scope.carried i) here ∙ wanted)
