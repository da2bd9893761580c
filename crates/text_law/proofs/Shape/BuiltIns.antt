-- Calls of the functions of GLSL by which operations are written are not seen: these are no functions of the text, no atomic functions and no barriers.
use Rattle.std.proofs.Common.{◌≡◌, ◌||◌, Bool, true, false, List, [], ◌∷◌, map, inl, inr, refl, sym, ap, ◌∙◌}
use Rattle.std.specs.Prelude.{bytes_eq, codes, flat_map}
use Rattle.std.proofs.lemmas.Bool.{or_from}
use Rattle.spv_module.specs.State.{ModuleState}
use Rattle.spv_module.specs.declared.inst.Function.{Function}
use Rattle.conformance.specs.Rules.{Options}
use Rattle.name_alloc.specs.Naming.{name_of}
use Rattle.name_alloc.specs.Reserved.{is_word, has_prefix}
use Rattle.glsl_ast.specs.Tree.{Text, Stmts, TranslationUnit}
use Rattle.int_lowering.specs.declared.built_ins.BuiltIn.{BuiltIn}
use Rattle.int_lowering.specs.declared.built_ins.BuiltIn.TheVariants.{Min}
use Rattle.int_lowering.specs.Term.{built_in_name}
use Rattle.function_text.specs.Functions.{FunctionPlan, written, function_key, function_name, function_decl}
use Rattle.unit_rules.specs.Unit.{in_order, source_of, IsUnitOf}
use Rattle.region_law.proofs.Flags.{own_text, other_text}
use Rattle.typed_law.proofs.Lists.{clash}
use Rattle.claim_law.specs.Bodies.{function_in}
use Rattle.claim_law.specs.Claimed.{IsIn}
use Rattle.claim_law.proofs.Claim.Bodies.{bodies_are}
use Rattle.claim_law.specs.Told.{is_among}
use Rattle.grammar_law.proofs.Grammar.Held.{any_invocation}
use Rattle.grammar_law.proofs.Grammar.UnitMade.{in_plans}
use Rattle.text_law.proofs.Naming.Unit.{named_so}
use Rattle.text_law.specs.Walks.{is_atomic, is_barrier, is_seen}
use Rattle.text_law.specs.Deeds.{calls}
use Rattle.text_law.specs.Shape.{outer_of}

-- a word, or what begins with a prefix, that GLSL reserves
abbrev pub is_barred : Text → Bool
is_barred x = is_word x || has_prefix x

pub built_barred : (f : BuiltIn) → is_barred (built_in_name f) ≡ true
unfolding built_in_name is_word has_prefix
built_barred Min = refl
built_barred f = refl

built_apart : (f : BuiltIn) → (is_atomic (built_in_name f) || is_barrier (built_in_name f)) ≡ false
unfolding built_in_name
built_apart Min = refl
built_apart f = refl

pub built_other : (f : BuiltIn) → bytes_eq (built_in_name f) (codes "main") ≡ false
unfolding built_in_name
built_other Min = refl
built_other f = refl

module _ (m : ModuleState) (o : Options) (unit : TranslationUnit) (u : IsUnitOf m o unit) where
  -- the name of a function is none that GLSL reserves, but main
  name_apart : (x : Text) → is_barred x ≡ true → bytes_eq x (codes "main") ≡ false → (p : FunctionPlan) → IsIn p u.plans → bytes_eq x (function_name p.scope) ≡ false
  name_apart x barred other p among = other_text x (function_name p.scope) (λ same.
      elim (u.lawful.each (function_key u.entry (written p).id) (function_name p.scope) (named_so m o unit u any_invocation p among)).free [
        | inl main ↦ clash (sym (own_text (codes "main")) ∙ (ap (λ (y : Text). bytes_eq y (codes "main")) (sym (same ∙ main.1)) ∙ other))
        | inr free ↦ clash (sym barred ∙ (ap is_barred same ∙ or_from (is_word (function_name p.scope)) (has_prefix (function_name p.scope)) free.word free.prefix))
      ])

  names_apart : (x : Text) → is_barred x ≡ true → bytes_eq x (codes "main") ≡ false → (ps : List FunctionPlan) → ((p : FunctionPlan) → IsIn p ps → IsIn p u.plans) → is_among (map (λ (d : Text × Stmts). d.0) (flat_map function_in (map function_decl ps))) x ≡ false
  names_apart x barred other [] sub = refl
  names_apart x barred other (p ∷ ps) sub =
      or_from (bytes_eq x (function_name p.scope)) (is_among (map (λ (d : Text × Stmts). d.0) (flat_map function_in (map function_decl ps))) x) (name_apart x barred other p (sub p (inl refl))) (names_apart x barred other ps (λ q q_in. sub q (inr q_in)))

  -- The law.
  pub built_unseen : (g : Function) (f : BuiltIn) → is_seen (outer_of (source_of m o u.entry) (name_of u.claimed) unit g) (calls (built_in_name f)) ≡ false
  built_unseen g f =
      or_from (is_among (outer_of (source_of m o u.entry) (name_of u.claimed) unit g).functions (built_in_name f)) (is_atomic (built_in_name f) || is_barrier (built_in_name f))
      (ap (λ (ds : List (Text × Stmts)). is_among (map (λ (d : Text × Stmts). d.0) ds) (built_in_name f)) (bodies_are m o unit u) ∙ names_apart (built_in_name f) (built_barred f) (built_other f) (in_order u.order u.plans) (λ p p_in. in_plans u.order u.plans p p_in))
      (built_apart f)
