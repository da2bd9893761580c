-- In the text of a module each of these keys has a name.
use Rattle.std.proofs.Common.{◌≡◌, ◌<◌, ◌+◌, ◌==◌, ℕ, true, false, List, [], ◌∷◌, map, Some, inl, inr, sym, ap, ◌∙◌, subst, arith}
use Rattle.std.specs.Prelude.{slice_get}
use Rattle.std.specs.List.{enumerate_from}
use Rattle.std.proofs.lemmas.Bool.{and_from, or_left, or_right}
use Rattle.spv_module.specs.State.{ModuleState}
use Rattle.spv_module.specs.Lists.{id}
use Rattle.spv_module.specs.declared.inst.Id.{Id as IdOf}
use Rattle.spv_module.specs.declared.inst.Inst.{Inst}
use Rattle.spv_module.specs.declared.inst.Block.{Block}
use Rattle.structure_rules.specs.Graph.{nth}
use Rattle.conformance.specs.Rules.{Options}
use Rattle.name_alloc.specs.declared.claims.Key.{Key}
use Rattle.name_alloc.specs.declared.claims.Key.TheVariants.{Id, Again, Leave, Fell, Captured, Spare}
use Rattle.name_alloc.specs.declared.claims.Claim.{Claim}
use Rattle.name_alloc.specs.Keys.{same_key}
use Rattle.name_alloc.specs.Naming.{name_of, is_claimed}
use Rattle.name_alloc.proofs.Keyed.{key_own}
use Rattle.name_alloc.proofs.Lawful.{claimed_is}
use Rattle.glsl_ast.specs.Tree.{TranslationUnit}
use Rattle.text_rules.specs.Claims.{Plan, label, claims}
use Rattle.text_items.specs.View.{claims_of}
use Rattle.function_plan.specs.Planned.{captured_numbers, spares_in, has_name, names_id, block_names, is_named_in}
use Rattle.function_plan.specs.Once.{once, itself}
use Rattle.function_plan.specs.Targets.{targets_in}
use Rattle.function_text.specs.Functions.{FunctionPlan, written}
use Rattle.unit_rules.specs.Unit.{claims_by, reached_of, source_of, IsUnitOf}
use Rattle.list_law.proofs.Numbers.{number_itself}
use Rattle.claim_law.specs.Claimed.{IsIn, HasKey, HasName, IsOf}
use Rattle.claim_law.proofs.Claim.Listed.{in_mapped, numbered, any_in}
use Rattle.claim_law.proofs.Claim.Keys.{function_claimed, parameter_claimed, result_claimed, again_claimed, leave_claimed, fell_claimed, captured_claimed, spare_claimed}

-- what has a claim has a name
claimed_has : (cs : List Claim) (key : Key) → HasKey key (claims_of cs) → is_claimed cs key ≡ true
claimed_has [] key has = absurd has
claimed_has (c ∷ cs) key (inl same) = or_left (same_key c.key key) (is_claimed cs key) (ap (λ k. same_key k key) same ∙ key_own key)
claimed_has (c ∷ cs) key (inr has) = or_right (same_key c.key key) (is_claimed cs key) (claimed_has cs key has)

-- a result that has a name by its form
named_by : (p : FunctionPlan) (i : Inst) (number : ℕ) (block : Block) → slice_get (written p).blocks number ≡ Some block → IsIn i block.insts → has_name p.scope.form (nth p.graph number).reached i ≡ true → is_named_in p.scope.form p.graph (written p).blocks i.result ≡ true
named_by p i number block at among named =
    any_in (block_names p.scope.form p.graph i.result) (enumerate_from 0 (written p).blocks) (number, block)
    (subst (λ (n : ℕ). IsIn (n, block) (enumerate_from 0 (written p).blocks)) (zero_first number) (numbered (written p).blocks 0 number block at))
    (any_in (names_id p.scope.form (nth p.graph number).reached i.result) block.insts i among (and_from (has_name p.scope.form (nth p.graph number).reached i) (i.result == i.result) named (number_itself i.result)))
  where
    zero_first : (n : ℕ) → 0 + n ≡ n
    zero_first n = omega arith

module _ (m : ModuleState) (o : Options) (unit : TranslationUnit) (u : IsUnitOf m o unit) where
  abbrev pub Plans : List Plan
  Plans = map (claims_by (source_of m o u.entry)) u.plans

  -- a key that the claims of the module's text have
  pub has_name_of : (key : Key) → HasKey key (claims (source_of m o u.entry) (reached_of (source_of m o u.entry) u.plans) Plans) → HasName (name_of u.claimed) key
  has_name_of key has = claimed_is u.claimed key ∙ claimed_has u.claimed key (subst (HasKey key) (sym u.claims_are) has)

  pub plan_in : (p : FunctionPlan) → IsIn p u.plans → IsIn (claims_by (source_of m o u.entry) p) Plans
  plan_in p among = in_mapped (claims_by (source_of m o u.entry)) u.plans p among

  -- the result of an instruction of a planned function that has a variable: one declared at the top, one declared in a reached block, and an OpVariable
  pub result_named : (p : FunctionPlan) (i : Inst) → IsIn p u.plans → (of_it : IsOf (claims_by (source_of m o u.entry) p) i) → has_name p.scope.form (nth p.graph of_it.number).reached i ≡ true → HasName (name_of u.claimed) (Id (id i.result))
  result_named p i among of_it named =
      has_name_of (Id (id i.result)) (result_claimed (source_of m o u.entry) (reached_of (source_of m o u.entry) u.plans) Plans (claims_by (source_of m o u.entry) p) i (plan_in p among) of_it (named_by p i of_it.number of_it.block of_it.there of_it.among named))

  -- flags, kept indexes and spares
  pub again_named : (p : FunctionPlan) (b : ℕ) (block : Block) → IsIn p u.plans → slice_get (written p).blocks b ≡ Some block → p.again b ≡ true → HasName (name_of u.claimed) (Again block.label)
  again_named p b block among at on = has_name_of (Again block.label) (again_claimed (source_of m o u.entry) (reached_of (source_of m o u.entry) u.plans) Plans (claims_by (source_of m o u.entry) p) b block (plan_in p among) at on)

  pub leave_named : (p : FunctionPlan) (b : ℕ) (block : Block) → IsIn p u.plans → slice_get (written p).blocks b ≡ Some block → p.leave b ≡ true → HasName (name_of u.claimed) (Leave block.label)
  leave_named p b block among at on = has_name_of (Leave block.label) (leave_claimed (source_of m o u.entry) (reached_of (source_of m o u.entry) u.plans) Plans (claims_by (source_of m o u.entry) p) b block (plan_in p among) at on)

  pub fell_named : (p : FunctionPlan) (b : ℕ) (block : Block) → IsIn p u.plans → slice_get (written p).blocks b ≡ Some block → p.fell b ≡ true → HasName (name_of u.claimed) (Fell block.label)
  fell_named p b block among at on = has_name_of (Fell block.label) (fell_claimed (source_of m o u.entry) (reached_of (source_of m o u.entry) u.plans) Plans (claims_by (source_of m o u.entry) p) b block (plan_in p among) at on)

  pub captured_named : (p : FunctionPlan) (i : Inst) (number : ℕ) → IsIn p u.plans → IsOf (claims_by (source_of m o u.entry) p) i → IsIn number (captured_numbers (source_of m o u.entry).of.globals p.scope.carried i) → HasName (name_of u.claimed) (Captured (id i.result) number)
  captured_named p i number among of_it there =
      has_name_of (Captured (id i.result) number) (captured_claimed (source_of m o u.entry) (reached_of (source_of m o u.entry) u.plans) Plans (claims_by (source_of m o u.entry) p) i number (plan_in p among) of_it there)

  pub spare_named : (p : FunctionPlan) (b t number : ℕ) (block : Block) → IsIn p u.plans → slice_get (written p).blocks b ≡ Some block → IsIn t (once itself (targets_in p.graph b)) → number < spares_in (p.moves b t) → HasName (name_of u.claimed) (Spare (id (label (written p) b)) (id (label (written p) t)) number)
  spare_named p b t number block among at to less =
      has_name_of (Spare (id (label (written p) b)) (id (label (written p) t)) number)
      (spare_claimed (source_of m o u.entry) (reached_of (source_of m o u.entry) u.plans) Plans (claims_by (source_of m o u.entry) p) b block t number (plan_in p among) at to less)

  -- parameters, and functions but the entry's
  pub parameter_named : (p : FunctionPlan) (param : IdOf × IdOf) → IsIn p u.plans → IsIn param (written p).params → HasName (name_of u.claimed) (Id (id param.0.0))
  parameter_named p param among there = has_name_of (Id (id param.0.0)) (parameter_claimed (source_of m o u.entry) (reached_of (source_of m o u.entry) u.plans) Plans (claims_by (source_of m o u.entry) p) param (plan_in p among) there)

  pub function_named : (p : FunctionPlan) → IsIn p u.plans → ((written p).id.0 == u.entry) ≡ false → HasName (name_of u.claimed) (Id (id (written p).id.0))
  function_named p among other = has_name_of (Id (id (written p).id.0)) (function_claimed (source_of m o u.entry) (reached_of (source_of m o u.entry) u.plans) Plans (claims_by (source_of m o u.entry) p) (plan_in p among) other)
