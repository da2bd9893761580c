-- In the text of a module the names of a planned function are those of keys that are claimed, so they are apart.
use Rattle.std.proofs.Common.{◌≡◌, ◌==◌, ◌&&◌, ◌||◌, not, ℕ, Bool, true, false, List, [], ◌∷◌, map, Option, Some, inl, inr, refl, sym, ap, ◌∙◌, subst, if◌then◌else◌}
use Rattle.std.specs.Prelude.{bytes_eq}
use Rattle.std.specs.Option.{option_map_or}
use Rattle.std.specs.List.{list_any}
use Rattle.std.proofs.lemmas.Bool.{and_parts, or_cases, and_left, not-true}
use Rattle.spv_ops.specs.Opcode.{is}
use Rattle.spv_ops.specs.Groups.{is_chain}
use Rattle.spv_ops.specs.declared.Op.TheVariants as code
use Rattle.spv_module.specs.State.{ModuleState}
use Rattle.spv_module.specs.Held.{global}
use Rattle.spv_module.specs.Lists.{id}
use Rattle.spv_module.specs.declared.inst.Id.{Id as IdOf}
use Rattle.spv_module.specs.declared.inst.Inst.{Inst}
use Rattle.spv_index.specs.Locals.{insts_of, inst_in}
use Rattle.structure_rules.specs.Graph.{nth}
use Rattle.conformance.specs.Rules.{Options}
use Rattle.profile_rules.specs.MemoryRules.{is_pointer}
use Rattle.profile_rules.specs.Places.{is_variable}
use Rattle.traces.specs.Invocations.{Invocation}
use Rattle.hoist_plan.specs.declared.form.Form.{Form}
use Rattle.access_paths.specs.Ways.{captured_indexes}
use Rattle.name_alloc.specs.declared.claims.Key.{Key}
use Rattle.name_alloc.specs.declared.claims.Key.TheVariants.{Id, Captured}
use Rattle.name_alloc.specs.Naming.{name_of}
use Rattle.name_alloc.specs.Reserved.{has_prefix}
use Rattle.glsl_ast.specs.Tree.{Text, TranslationUnit}
use Rattle.text_rules.specs.Constants.{Source, is_constant}
use Rattle.text_rules.specs.Printed.{Reached, is_private, is_workgroup, is_block_variable, is_operand_in, is_written_variable, is_declared_constant}
use Rattle.function_plan.specs.Planned.{has_name_by, has_name, is_named_in}
use Rattle.function_text.specs.Functions.{FunctionPlan, written, is_hoisted}
use Rattle.unit_rules.specs.Translation.{text_of}
use Rattle.unit_rules.specs.Unit.{claims_by, reached_of, source_of, IsUnitOf}
use Rattle.module_semantics.specs.Setting.{Setting, setting}
use Rattle.list_law.proofs.Numbers.{same_number}
pub use Rattle.list_law.proofs.Numbers.{same_number as equal}
use Rattle.list_law.proofs.Tests.{common, no_flip}
use Rattle.region_law.proofs.Flags.{same_text}
use Rattle.agree_law.specs.Agree.{Naming, is_named, AreApart}
use Rattle.call_law.specs.Known.{is_parameter}
use Rattle.typed_law.specs.Conforms.{IsParameter}
use Rattle.typed_law.proofs.Lists.{some_by}
use Rattle.grammar_law.proofs.Ruled.Ruled.{parameter_of}
use Rattle.claim_law.specs.Claimed.{IsIn, HasName, IsOf}
use Rattle.claim_law.specs.Apart.{IsOutside, AreOfKeys}
use Rattle.claim_law.proofs.Claim.Keys.{result_claimed, constant_claimed, variable_claimed}
use Rattle.claim_law.proofs.Claim.Named.{Plans, has_name_of, plan_in, result_named, captured_named, parameter_named}
use Rattle.claim_law.proofs.Claim.Constants.{found_in, no_struct}
use Rattle.claim_law.proofs.Claim.Variables.{variable_no_struct, variable_no_constant, undeclared}
use Rattle.claim_law.proofs.Claim.Told.{named_is}
use Rattle.claim_law.proofs.Claim.Apart.{names_apart}
use Rattle.grammar_law.proofs.Unit.Lists.{in_block}
use Rattle.grammar_law.proofs.Meets.Roots.{named_variable}
pub use Rattle.grammar_law.proofs.Grammar.Tops.{hoisted_is}
use Rattle.text_law.specs.Alone.{AreAlone}
use Rattle.text_law.specs.Names.{is_other, is_result, is_value_parameter, is_variable_name, is_local_form, is_written_private, is_outer_global, has_text, keeps, names_of}
use Rattle.text_law.proofs.Naming.Alone.{variable_inst, outer_once, variable_once, lent_once, global_apart, private_once}

-- an instruction of a planned function stands in a block of it
pub placed : (m : ModuleState) (o : Options) (unit : TranslationUnit) (u : IsUnitOf m o unit) (p : FunctionPlan) (i : Inst) → IsIn i (insts_of (written p)) → IsOf (claims_by (source_of m o u.entry) p) i
placed m o unit u p i there = let b = in_block (written p).blocks i there in record { number = b.0; block = b.1; there = b.2; among = b.3 }

-- what passes a test is one of them
pub some_in : {A : Type 0} (test : A → Bool) (xs : List A) → list_any test xs ≡ true → (x : A) × IsIn x xs × (test x ≡ true)
some_in {A = A} test [] on = cc
some_in {A = A} test (x ∷ xs) on = by_test (test x) refl on (some_in test xs)
  where
    by_test : (b : Bool) → test x ≡ b → (b || list_any test xs) ≡ true → (list_any test xs ≡ true → (y : A) × IsIn y xs × (test y ≡ true)) → (y : A) × IsIn y (x ∷ xs) × (test y ≡ true)
    by_test true is on later = (x, inl refl, is)
    by_test false is on later = let w = later on in (w.0, inr w.1, w.2)

in_numbers : (xs : List (ℕ × ℕ)) (k : ℕ) (x : ℕ × ℕ) → IsIn x xs → x.0 ≡ k → IsIn k (map (λ (n : ℕ × ℕ). n.0) xs)
in_numbers [] k x among same = absurd among
in_numbers (y ∷ xs) k x (inl here) same = inl (ap (λ (n : ℕ × ℕ). n.0) here ∙ same)
in_numbers (y ∷ xs) k x (inr among) same = inr (in_numbers xs k x among same)

as_in : (ps : List (IdOf × IdOf)) (p : IdOf × IdOf) → IsParameter p ps → IsIn p ps
as_in [] p one = absurd one
as_in (q ∷ ps) p (inl same) = inl same
as_in (q ∷ ps) p (inr one) = inr (as_in ps p one)

module _ (m : ModuleState) (o : Options) (unit : TranslationUnit) (u : IsUnitOf m o unit) (inv : Invocation) where
  abbrev pub S : Setting
  S = setting m u.entry o.overrides inv

  abbrev pub found : Key → Option Text
  found = name_of u.claimed

  abbrev pub key : Key → Text
  key = text_of found

  abbrev src : Source
  src = source_of m o u.entry

  abbrev pub R : Reached
  R = reached_of src u.plans

  -- the names of a planned function
  abbrev pub names : FunctionPlan → Naming
  names p = names_of S o.overrides R key p

  -- what is declared outside of functions has a name
  written_named : (n : ℕ) (g : Inst) → global m.globals n ≡ Some g → is_variable g ≡ true → is_written_variable R g ≡ true → HasName found (Id (id n))
  written_named n g at variable is =
      let w = found_in m.globals n g at in
      subst (λ (k : ℕ). HasName found (Id (id k))) w.1
      (has_name_of m o unit u (Id (id g.result)) (variable_claimed src R (Plans m o unit u) g w.0 (variable_no_struct g.op variable) (undeclared m o unit u g variable) is))

  declared_named : (g : Inst) → IsIn g m.globals → is_declared_constant src R g ≡ true → HasName found (Id (id g.result))
  declared_named g among is = has_name_of m o unit u (Id (id g.result)) (constant_claimed src R (Plans m o unit u) g among (no_struct g.op (and_parts (is_constant g) _ is).0) is)

  module _ (p : FunctionPlan) (among : IsIn p u.plans) where
    abbrev N : Naming
    N = names p

    -- where an instruction of the function stands
    pub stands : (n : ℕ) (i : Inst) → inst_in (written p) n ≡ Some i → IsOf (claims_by src p) i × (i.result ≡ n)
    stands n i at =
        let w = found_in (insts_of (written p)) n i at in
        (placed m o unit u p i w.0, w.1)

    pub parameter_has : (n : ℕ) → is_parameter (written p) n ≡ true → HasName found (Id (id n))
    parameter_has n on =
        let q = parameter_of (written p).params n on in
        subst (λ (k : ℕ). HasName found (Id (id k))) q.2 (parameter_named m o unit u p q.0 among (as_in (written p).params q.0 q.1))

    hoisted_has : (n : ℕ) → is_hoisted (p.scope.form n) ≡ true → is_result (written p) n ≡ true → HasName found (Id (id n))
    hoisted_has n form on =
        let i = some_by is_other (inst_in (written p) n) on in
        let w = stands n i.0 i.1 in
        let named_by : has_name p.scope.form (nth p.graph w.0.number).reached i.0 ≡ true
        = ap (λ (x : Form). has_name_by x (nth p.graph w.0.number).reached (is i.0.op code.Variable)) (ap p.scope.form w.1 ∙ hoisted_is (p.scope.form n) form) in
        subst (λ (k : ℕ). HasName found (Id (id k))) w.1 (result_named m o unit u p i.0 among w.0 named_by)

    local_has : (n : ℕ) → is_result (written p) n ≡ true → is_named_in p.scope.form p.graph (written p).blocks n ≡ true → HasName found (Id (id n))
    local_has n on named_so =
        let i = some_by is_other (inst_in (written p) n) on in
        let w = stands n i.0 i.1 in
        subst (λ (k : ℕ). HasName found (Id (id k))) w.1
        (has_name_of m o unit u (Id (id i.0.result)) (result_claimed src R (Plans m o unit u) (claims_by src p) i.0 (plan_in m o unit u p among) w.0 (subst (λ (k : ℕ). is_named_in p.scope.form p.graph (written p).blocks k ≡ true) (sym w.1) named_so)))

    variable_has_one : (n : ℕ) → is_variable_name (written p) n ≡ true → HasName found (Id (id n))
    variable_has_one n on =
        let v = variable_inst (written p) n on in
        let w = stands n v.0 v.1 in
        let named_by : has_name p.scope.form (nth p.graph w.0.number).reached v.0 ≡ true
        = ap (has_name_by (p.scope.form v.0.result) (nth p.graph w.0.number).reached) v.2 ∙ named_variable (p.scope.form v.0.result) (nth p.graph w.0.number).reached in
        subst (λ (k : ℕ). HasName found (Id (id k))) w.1 (result_named m o unit u p v.0 among w.0 named_by)

    pub private_has : (n : ℕ) → N.is_private n ≡ true → HasName found (Id (id n))
    private_has n on =
        let g = some_by (is_written_private S o.overrides R key) (global m.globals n) on in
        let parts = and_parts (is_private g.0) (is_written_variable R g.0) g.2 in
        written_named n g.0 g.1 (and_parts (is_variable g.0) _ parts.0).0 parts.1

    outer_has : (n : ℕ) → N.is_outer n ≡ true → HasName found (Id (id n))
    outer_has n on = elim (or_cases (is_value_parameter m.globals (written p) n) (is_hoisted (p.scope.form n) && is_result (written p) n) on) [
      | inl value ↦ parameter_has n (and_parts (is_parameter (written p) n) (not (is_pointer m.globals (written p) n)) value).0
      | inr result ↦ let parts = and_parts (is_hoisted (p.scope.form n)) (is_result (written p) n) result in hoisted_has n parts.0 parts.1
    ]

    named_has : (n : ℕ) → is_named N n ≡ true → HasName found (Id (id n))
    named_has n on = elim (or_cases (N.is_outer n) (N.is_local n || (N.is_variable n || (N.is_lent n || N.is_private n))) on) [
      | inl outer ↦ outer_has n outer
      | inr more ↦ elim (or_cases (N.is_local n) (N.is_variable n || (N.is_lent n || N.is_private n)) more) [
        | inl local ↦
            let parts = and_parts (is_local_form (p.scope.form n)) (is_result (written p) n && is_named_in p.scope.form p.graph (written p).blocks n) local in
            let last = and_parts (is_result (written p) n) (is_named_in p.scope.form p.graph (written p).blocks n) parts.1 in
            local_has n last.0 last.1
        | inr more ↦ elim (or_cases (N.is_variable n) (N.is_lent n || N.is_private n) more) [
          | inl variable ↦ variable_has_one n variable
          | inr more ↦ elim (or_cases (N.is_lent n) (N.is_private n) more) [
            | inl lent ↦ parameter_has n (and_parts (is_parameter (written p) n) (is_pointer m.globals (written p) n) lent).0
            | inr private ↦ private_has n private
          ]
        ]
      ]
    ]

    -- the indexes that are kept
    kept_has : (q k : ℕ) → N.is_kept q k ≡ true → HasName found (Captured (id q) k)
    kept_has q k on =
        let i = some_by (keeps S o.overrides R key (written p) p.graph p.scope.form p.scope.carried k) (inst_in (written p) q) on in
        let w = stands q i.0 i.1 in
        subst (λ (c : ℕ). HasName found (Captured (id c) k)) w.1 (captured_named m o unit u p i.0 k among w.0 (by_test i.0 (is_chain i.0.op && p.scope.carried i.0.result) i.2))
      where
        by_test : (i : Inst) (b : Bool) → list_any (λ (n : ℕ × ℕ). n.0 == k) (if b then captured_indexes m.globals i else []) ≡ true → IsIn k (if b then map (λ (n : ℕ × ℕ). n.0) (captured_indexes m.globals i) else [])
        by_test i true e = let x = some_in (λ (n : ℕ × ℕ). n.0 == k) (captured_indexes m.globals i) e in in_numbers (captured_indexes m.globals i) k x.0 x.1 (same_number x.0.0 k x.2)
        by_test i false e = cc

    -- and what stands outside is nothing of the function
    module _ (alone : AreAlone m.globals (written p)) (each : (g : Inst) → IsIn g m.globals → global m.globals g.result ≡ Some g) where
      all_off : (a b c d e : Bool) → a ≡ false → b ≡ false → c ≡ false → d ≡ false → e ≡ false → (a || (b || (c || (d || e)))) ≡ false
      all_off true b c d e p q r s t = cc
      all_off false true c d e p q r s t = cc
      all_off false false true d e p q r s t = cc
      all_off false false false true e p q r s t = cc
      all_off false false false false e p q r s t = t

      not_named : (g : Inst) → IsIn g m.globals → is_private g ≡ false → is_named N g.result ≡ false
      not_named g there off =
          let a = global_apart S o.overrides R key (written p) p.graph p.scope.form p.scope.carried alone g.result g (each g there) in
          let no_private : N.is_private g.result ≡ false
          = ap (λ (x : Option Inst). option_map_or (is_written_private S o.overrides R key) x false) (each g there) ∙ ap (λ (t : Bool). t && is_written_variable R g) off in
          all_off (N.is_outer g.result) (N.is_local g.result) (N.is_variable g.result) (N.is_lent g.result) (N.is_private g.result) a.2 a.3 a.4 a.5 no_private

      constant_no_private : (g : Inst) → is_constant g ≡ true → is_private g ≡ false
      constant_no_private g on = by_test (is_variable g) refl
        where
          by_test : (t : Bool) → is_variable g ≡ t → is_private g ≡ false
          by_test true is = no_flip (is_constant g) on (variable_no_constant g.op is)
          by_test false is = and_left (is_variable g) _ is

      outside_is : (x : Text) → N.is_outside x ≡ true → IsOutside found N x
      outside_is x on = elim (or_cases (has_prefix x) (list_any (has_text S o.overrides R key x) m.globals) on) [
        | inl built_in ↦ inl built_in
        | inr some ↦
            let g = some_in (has_text S o.overrides R key x) m.globals some in
            let parts = and_parts (is_outer_global S o.overrides R key g.0) (bytes_eq (key (Id (id g.0.result))) x) g.2 in
            let same = same_text (key (Id (id g.0.result))) x parts.1 in
            elim (or_cases (is_declared_constant src R g.0) (is_written_variable R g.0 && not (is_private g.0)) parts.0) [
              | inl constant ↦ inr (g.0.result, not_named g.0 g.1 (constant_no_private g.0 (and_parts (is_constant g.0) _ constant).0), named_is found (Id (id g.0.result)) (declared_named g.0 g.1 constant) ∙ ap (λ (y : Text). Some y) same)
              | inr variable ↦
                  let is = and_parts (is_written_variable R g.0) (not (is_private g.0)) variable in
                  inr (g.0.result, not_named g.0 g.1 (not-true (is_private g.0) is.1), named_is found (Id (id g.0.result)) (written_named g.0.result g.0 (each g.0 g.1) (written_is_variable g.0 is.0) is.0) ∙ ap (λ (y : Text). Some y) same)
            ]
      ]
        where
          written_is_variable : (g : Inst) → is_written_variable R g ≡ true → is_variable g ≡ true
          written_is_variable g on = common (is_variable g) _ _ _ (and_parts (is_private g || (is_workgroup g || is_block_variable g)) (is_operand_in R.functions g.result) on).0

      pub keys_are : AreOfKeys found N
      keys_are = record {
        name = λ n on. named_is found (Id (id n)) (named_has n on);
        index = λ q k on. named_is found (Captured (id q) k) (kept_has q k on);
        outside = outside_is;
        once = outer_once S o.overrides R key (written p) p.graph p.scope.form p.scope.carried alone;
        variables = variable_once S o.overrides R key (written p) p.graph p.scope.form p.scope.carried alone;
        lents = lent_once S o.overrides R key (written p) p.graph p.scope.form p.scope.carried alone;
        privates = private_once S o.overrides R key (written p) p.graph p.scope.form p.scope.carried alone;
      }

      -- so no name of the function is another's
      pub are_apart : AreApart N
      are_apart = names_apart found u.lawful N keys_are
