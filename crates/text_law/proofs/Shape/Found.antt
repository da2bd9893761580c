-- The body of a planned function is found in the text by the function's name.
use Rattle.std.proofs.Common.{◌≡◌, ◌<◌, ◌==◌, ◌++◌, ℕ, suc, Bool, true, false, List, [], ◌∷◌, find, flat_map, length, map, Contains, Option, Some, None, inl, inr, refl, sym, ap, ◌∙◌, arith, if◌then◌else◌}
use Rattle.std.specs.Prelude.{◌⊎◌, bytes_eq, option_map, option_to_list}
use Rattle.std.proofs.lemmas.Bool.Decides.{eqb_tells}
use Rattle.std.proofs.lemmas.Option.{same_Some}
use Rattle.spv_module.specs.State.{ModuleState}
use Rattle.spv_module.specs.declared.inst.Id.{Id as IdOf}
use Rattle.profile_rules.specs.Calls.{numbers}
use Rattle.conformance.specs.Rules.{Options}
use Rattle.traces.specs.Invocations.{Invocation}
use Rattle.name_alloc.specs.Naming.{name_of as names_by}
use Rattle.glsl_ast.specs.Tree.{Text, Stmts, stmts_in, TranslationUnit}
use Rattle.function_text.specs.Functions.{FunctionPlan, written, function_name, function_decl, body_text}
use Rattle.unit_rules.specs.Unit.{has_id, in_order, IsUnitOf}
use Rattle.region_law.proofs.Flags.{same_text, own_text}
use Rattle.claim_law.specs.Claimed.{IsIn}
use Rattle.text_law.proofs.Naming.Unit.{named_so, names_differ, found_plan}
use Rattle.claim_law.specs.Bodies.{function_in}
use Rattle.claim_law.proofs.Claim.Bodies.{bodies_are}
use Rattle.text_law.specs.Shape.{has_name, name_of, body_of}

-- an id of an order
pub in_numbers : (order : List IdOf) (n : IdOf) → IsIn n order → Contains (numbers order) n.0
in_numbers [] n there = absurd there
in_numbers (k ∷ order) n (inl same) = (0, (let some : 0 < suc (length (numbers order)) = omega arith in some), ap (λ (i : IdOf). i.0) same)
in_numbers (k ∷ order) n (inr rest) = let w = in_numbers order n rest in let less = w.1 in (suc w.0, (let more : suc w.0 < suc (length (numbers order)) = omega (arith, less) in more), w.2)

-- ids with one number have one plan
one_plan : (ps : List FunctionPlan) (a b : IdOf) (p q : FunctionPlan) → a.0 ≡ b.0 → find (has_id a) ps ≡ Some p → find (has_id b) ps ≡ Some q → p ≡ q
one_plan ps a b p q same first second = same_Some p q (sym first ∙ (ap (λ (n : ℕ). find (λ (x : FunctionPlan). (written x).id.0 == n) ps) same ∙ second))

module _ (m : ModuleState) (o : Options) (unit : TranslationUnit) (u : IsUnitOf m o unit) (inv : Invocation) (n : IdOf) (p : FunctionPlan) (at : find (has_id n) u.plans ≡ Some p) where
  abbrev Bodies : List IdOf → List (Text × Stmts)
  Bodies order = flat_map function_in (map function_decl (in_order order u.plans))

  abbrev body : Text × Stmts
  body = (function_name p.scope, stmts_in (body_text p))

  found_in : (order : List IdOf) → IsIn n order → find (has_name (Some (function_name p.scope))) (Bodies order) ≡ Some body
  found_in [] there = absurd there
  found_in (k ∷ order) there = by_plan (find (has_id k) u.plans) refl there (found_in order)
    where
      by_plan : (q : Option FunctionPlan) → find (has_id k) u.plans ≡ q → (k ≡ n) ⊎ IsIn n order → (IsIn n order → find (has_name (Some (function_name p.scope))) (Bodies order) ≡ Some body) → find (has_name (Some (function_name p.scope))) (flat_map function_in (map function_decl (option_to_list q ++ in_order order u.plans))) ≡ Some body
      by_plan None is (inl same) later = let never : None ≡ Some p = sym is ∙ (ap (λ (j : IdOf). find (has_id j) u.plans) same ∙ at) in cc
      by_plan None is (inr rest) later = later rest
      by_plan (Some q) is here later = by_name (bytes_eq (function_name q.scope) (function_name p.scope)) refl
        where
          of_p : IsIn p u.plans × ((written p).id.0 ≡ n.0)
          of_p = found_plan m o unit u inv u.plans n p at

          of_q : IsIn q u.plans × ((written q).id.0 ≡ k.0)
          of_q = found_plan m o unit u inv u.plans k q is

          same_plan : (function_name q.scope ≡ function_name p.scope) → q ≡ p
          same_plan same = elim (eqb_tells (written q).id.0 (written p).id.0) [
            | inl w ↦ one_plan u.plans k n q p (sym of_q.1 ∙ (w.1 ∙ of_p.1)) is at
            | inr w ↦ absurd (names_differ m o unit u inv q p of_q.0 of_p.0 w.1 same)
          ]

          other : (k ≡ n) ⊎ IsIn n order → bytes_eq (function_name q.scope) (function_name p.scope) ≡ false → IsIn n order
          other (inl same) off =
              let own : q ≡ p = one_plan u.plans k n q p (ap (λ (j : IdOf). j.0) same) is at in
              let never : true ≡ false = sym (own_text (function_name p.scope)) ∙ (ap (λ (x : FunctionPlan). bytes_eq (function_name x.scope) (function_name p.scope)) (sym own) ∙ off) in
              absurd cc
          other (inr rest) off = rest

          by_name : (b : Bool) → bytes_eq (function_name q.scope) (function_name p.scope) ≡ b → (if b then Some (function_name q.scope, stmts_in (body_text q)) else find (has_name (Some (function_name p.scope))) (Bodies order)) ≡ Some body
          by_name true on = ap (λ (x : FunctionPlan). Some (function_name x.scope, stmts_in (body_text x))) (same_plan (same_text (function_name q.scope) (function_name p.scope) on))
          by_name false off = later (other here off)

  -- The law.
  pub body_found : IsIn n u.order → body_of unit (name_of u.entry (names_by u.claimed) (written p)) ≡ Some (stmts_in (body_text p))
  body_found there =
      ap (body_of unit) (named_so m o unit u inv p (found_plan m o unit u inv u.plans n p at).0)
      ∙ (ap (λ (ds : List (Text × Stmts)). option_map (λ (d : Text × Stmts). d.1) (find (has_name (Some (function_name p.scope))) ds)) (bodies_are m o unit u)
      ∙ ap (option_map (λ (d : Text × Stmts). d.1)) (found_in u.order there))
