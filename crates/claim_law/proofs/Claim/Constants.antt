-- In the text of a module each named constant has a name that a live instruction of a reached block mentions.
use Rattle.std.proofs.Common.{◌≡◌, ◌+◌, ◌==◌, ◌&&◌, ◌||◌, ℕ, Bool, true, false, List, [], ◌∷◌, ◌++◌, Some, find, inl, inr, refl, sym, ap, ◌∙◌, subst, arith, if◌then◌else◌}
use Rattle.std.specs.Prelude.{flat_map, is_some, slice_index_or}
use Rattle.std.specs.List.{enumerate_from, list_any}
use Rattle.std.proofs.lemmas.Bool.Decides.{eqb_tells}
use Rattle.std.proofs.lemmas.Bool.{and_from, or_left, or_right}
use Rattle.spv_ops.specs.Opcode.{is, number}
use Rattle.spv_ops.specs.Groups.{is_constant as is_constant_op}
use Rattle.spv_ops.specs.declared.Op.{Op}
use Rattle.spv_ops.specs.declared.Op.TheVariants as code
use Rattle.spv_module.specs.State.{ModuleState}
use Rattle.spv_module.specs.Held.{global}
use Rattle.spv_module.specs.Lists.{id}
use Rattle.spv_module.specs.declared.inst.Inst.{Inst}
use Rattle.use_chains.specs.Slots.{mentions}
use Rattle.conformance.specs.Rules.{Options}
use Rattle.name_alloc.specs.declared.claims.Key.TheVariants.{Id}
use Rattle.name_alloc.specs.Naming.{name_of}
use Rattle.glsl_ast.specs.Tree.{TranslationUnit}
use Rattle.text_rules.specs.Constants.{Source, is_constant, reading, free_spec_id}
use Rattle.text_rules.specs.Printed.{Reached, is_named, has_operand, needs_constant, declares, needed_from, is_needed, is_declared_constant}
use Rattle.function_plan.specs.Planned.{is_live}
use Rattle.function_text.specs.Functions.{FunctionPlan, written}
use Rattle.function_text.specs.Live.{mentions_of, in_block}
use Rattle.unit_rules.specs.Unit.{claims_by, liveness_of, live_of, reached_of, source_of, IsUnitOf}
use Rattle.claim_law.specs.Claimed.{IsIn, HasName, IsOf}
use Rattle.claim_law.proofs.Claim.Listed.{numbered}
use Rattle.claim_law.proofs.Claim.Keys.{constant_claimed}
use Rattle.claim_law.proofs.Claim.Named.{Plans, has_name_of}

-- tests of lists
any_left : {A : Type 0} (test : A → Bool) (xs ys : List A) → list_any test xs ≡ true → list_any test (xs ++ ys) ≡ true
any_left test [] ys on = cc
any_left test (x ∷ xs) ys on = by_test (test x) on (any_left test xs ys)
  where
    by_test : (b : Bool) → (b || list_any test xs) ≡ true → (list_any test xs ≡ true → list_any test (xs ++ ys) ≡ true) → (b || list_any test (xs ++ ys)) ≡ true
    by_test true on later = refl
    by_test false on later = later on

any_right : {A : Type 0} (test : A → Bool) (xs ys : List A) → list_any test ys ≡ true → list_any test (xs ++ ys) ≡ true
any_right test [] ys on = on
any_right test (x ∷ xs) ys on = by_test (test x) (any_right test xs ys on)
  where
    by_test : (b : Bool) → list_any test (xs ++ ys) ≡ true → (b || list_any test (xs ++ ys)) ≡ true
    by_test true later = refl
    by_test false later = later

any_flat : {A B : Type 0} (test : B → Bool) (f : A → List B) (xs : List A) (x : A) → IsIn x xs → list_any test (f x) ≡ true → list_any test (flat_map f xs) ≡ true
any_flat test f [] x among on = absurd among
any_flat test f (y ∷ xs) x (inl same) on = any_left test (f y) (flat_map f xs) (subst (λ z. list_any test (f z) ≡ true) (sym same) on)
any_flat test f (y ∷ xs) x (inr among) on = any_right test (f y) (flat_map f xs) (any_flat test f xs x among on)

-- what is found
pub found_in : (gs : List Inst) (n : ℕ) (g : Inst) → find (λ (i : Inst). i.result == n) gs ≡ Some g → IsIn g gs × (g.result ≡ n)
found_in [] n g is = cc
found_in (i ∷ gs) n g is = by_test (i.result == n) refl is (found_in gs n g)
  where
    equal : (i.result == n) ≡ true → i.result ≡ n
    equal e = elim (eqb_tells i.result n) [ inl w ↦ w.1 | inr w ↦ (let never : true ≡ false = sym e ∙ w.0 in absurd cc) ]

    by_test : (b : Bool) → (i.result == n) ≡ b → (if b then Some i else find (λ (j : Inst). j.result == n) gs) ≡ Some g → (find (λ (j : Inst). j.result == n) gs ≡ Some g → IsIn g gs × (g.result ≡ n)) → IsIn g (i ∷ gs) × (g.result ≡ n)
    by_test true on is later = let same : i ≡ g = cc in (inl same, ap (λ (j : Inst). j.result) (sym same) ∙ equal on)
    by_test false off is later = let w = later is in (inr w.0, w.1)

pub no_struct : (o : Op) → is_constant_op o ≡ true → is o code.TypeStruct ≡ false
unfolding number
no_struct code.TypeStruct on = cc
no_struct o on = refl

-- what the text needs of itself it needs
pub needed_first : (s : Source) (first : ℕ → Bool) (gs : List Inst) (n : ℕ) → first n ≡ true → needed_from s first gs n ≡ true
needed_first s first [] n on = on
needed_first s first (g ∷ gs) n on = by_test (needed_from s first gs n) (needed_first s first gs n on)
  where
    by_test : (b : Bool) → b ≡ true → elim b as (λ b. Bool) [ true ↦ true | false ↦ declares s (needed_from s first gs) g && has_operand g n ] ≡ true
    by_test true on = refl
    by_test false on = cc

module _ (m : ModuleState) (o : Options) (unit : TranslationUnit) (u : IsUnitOf m o unit) where
  abbrev s : Source
  s = source_of m o u.entry

  abbrev r : Reached
  r = reached_of s u.plans

  abbrev is_this : ℕ → ℕ → Bool
  is_this n k = k == n

  -- a live instruction of a reached block mentions it
  pub mention_in : (p : FunctionPlan) (i : Inst) (n : ℕ) → IsIn p u.plans → (of_it : IsOf (claims_by s p) i) → slice_index_or (liveness_of s p).reached of_it.number false ≡ true → is_live p.scope.form i ≡ true
      → list_any (is_this n) (mentions (written p) (liveness_of s p).reached i) ≡ true → list_any (is_this n) r.mentions ≡ true
  mention_in p i n among of_it here live on =
      any_flat (is_this n) (live_of mentions_of s) u.plans p among
      (any_flat (is_this n) (in_block mentions_of (liveness_of s p)) (enumerate_from 0 (written p).blocks) (of_it.number, of_it.block)
      (subst (λ (k : ℕ). IsIn (k, of_it.block) (enumerate_from 0 (written p).blocks)) (let zero_first : 0 + of_it.number ≡ of_it.number = omega arith in zero_first) (numbered (written p).blocks 0 of_it.number of_it.block of_it.there))
      (any_flat (is_this n) (mentions_of (liveness_of s p) (slice_index_or (liveness_of s p).reached of_it.number false)) of_it.block.insts i of_it.among
      (subst (λ (b : Bool). list_any (is_this n) (mentions_of (liveness_of s p) b i) ≡ true) (sym here) (subst (λ (b : Bool). list_any (is_this n) (if b then mentions (written p) (liveness_of s p).reached i else []) ≡ true) (sym live) on))))

  -- a constant that is mentioned, and read by its name, has one
  pub constant_named : (n : ℕ) (g : Inst) → list_any (is_this n) r.mentions ≡ true → global m.globals n ≡ Some g → is_constant g ≡ true → is_named (reading s g) ≡ true → HasName (name_of u.claimed) (Id (id n))
  constant_named n g on there constant named =
      let at = found_in m.globals n g there in
      let needed : is_needed s r g.result ≡ true = subst (λ (k : ℕ). is_needed s r k ≡ true) (sym at.1) (needed_first s (needs_constant s r) m.globals n (or_left (list_any (is_this n) r.mentions) _ on)) in
      let declared : is_declared_constant s r g ≡ true = and_from (is_constant g) _ constant (and_from (is_named (reading s g)) _ named (or_right (is_some (free_spec_id s g.result)) (is_needed s r g.result) needed)) in
      subst (λ (k : ℕ). HasName (name_of u.claimed) (Id (id k))) at.1 (has_name_of m o unit u (Id (id g.result)) (constant_claimed s r (Plans m o unit u) g at.0 (no_struct g.op constant) declared))
