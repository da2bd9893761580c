-- The plans of the block variables, one for each.
use Rattle.std.proofs.Common.{◌≡◌, ◌<◌, ◌+◌, ◌++◌, ◌==◌, ℕ, Bool, true, false, cond, List, [], ◌∷◌, Option, Some, None, is_some, length, get_or, take, map, refl, sym, ap, subst, ◌∙◌}
use Rattle.std.specs.Prelude.{IsSome, IsSomeAnd}
use Rattle.std.specs.List.{find, filter}
use Rattle.std.specs.Option.{option_map_or}
use Rattle.std.proofs.lemmas.List.{map-append}
use Rattle.std.proofs.lemmas.List.Elements.{filter_more}
use Rattle.std.proofs.lemmas.Bool.{eqb-true, false_from_ne_true}
use Rattle.spv_words.specs.declared.rule.Rule.{Rule}
use Rattle.spv_module.specs.Held.{global}
use Rattle.spv_module.specs.State.{ModuleState}
use Rattle.spv_module.specs.declared.inst.Inst.{Inst}
use Rattle.layout_rules.specs.Blocks.{Broken as BreaksLayout, block_of, BreaksAt, IsBrokenBy, IsBlockVariable}
use Rattle.buffer_layout.specs.Plan.{IsPlanOf, IsPlanAt, IsWithinLimits}
use Rattle.buffer_layout.specs.declared.plan.BlockPlan.{BlockPlan}
use Rattle.profile_check.specs.Data.{is_block_variable, variables_among, block_variables, IsPlanned, ArePlans}

some_block : (gs : List Inst) (o : Option Inst) → IsSomeAnd o (λ v. IsSome (block_of gs v)) → option_map_or (λ (v : Inst). is_some (block_of gs v)) o false ≡ true
some_block gs None h = absurd h
some_block gs (Some v) h = h

-- a block variable passes the test
pub passes : (gs : List Inst) (id : ℕ) → IsBlockVariable gs id → is_block_variable gs id ≡ true
passes gs id h = some_block gs (global gs id) h

block_some : (gs : List Inst) (o : Option Inst) → option_map_or (λ (v : Inst). is_some (block_of gs v)) o false ≡ true → IsSomeAnd o (λ v. IsSome (block_of gs v))
block_some gs None e = cc
block_some gs (Some v) e = e

-- another id does not
pub fails : (gs : List Inst) (id : ℕ) → (IsBlockVariable gs id → ⊥) → is_block_variable gs id ≡ false
fails gs id h = false_from_ne_true (is_block_variable gs id) (λ e. h (block_some gs (global gs id) e))

one_more : (m : ModuleState) (ids : List ℕ) (plans : List BlockPlan) (id : ℕ) (plan : BlockPlan) → ArePlans m ids plans → IsPlanned m id plan → ArePlans m (ids ++ id ∷ []) (plans ++ plan ∷ [])
one_more m [] [] id plan h is = (is, tt)
one_more m [] (p ∷ plans) id plan h is = absurd h
one_more m (i ∷ ids) [] id plan h is = absurd h
one_more m (i ∷ ids) (p ∷ plans) id plan h is = (h.0, one_more m ids plans id plan h.1 is)

-- those among one more global
among_more : (gs xs : List Inst) (i : ℕ) (g : Inst) → i < length xs → g ≡ get_or xs i g → variables_among gs (take (i + 1) xs) ≡ variables_among gs (take i xs) ++ map (λ (x : Inst). x.result) (cond (is_block_variable gs g.result) (g ∷ []) [])
among_more gs xs i g inside is =
    let test : Inst → Bool = λ x. is_block_variable gs x.result in
    let last : cond (test (get_or xs i g)) (get_or xs i g ∷ []) [] ≡ cond (test g) (g ∷ []) [] = ap (λ (x : Inst). cond (test x) (x ∷ []) []) (sym is) in
    ap (map (λ (x : Inst). x.result)) (filter_more test xs i g inside ∙ ap (λ l. filter test (take i xs) ++ l) last)
    ∙ map-append (λ (x : Inst). x.result) (filter test (take i xs)) (cond (test g) (g ∷ []) [])

-- the plan of a block variable behind those before it
pub plan_more : (m : ModuleState) (xs : List Inst) (i : ℕ) (g : Inst) (plans : List BlockPlan) (plan : BlockPlan) → i < length xs → g ≡ get_or xs i g → IsBlockVariable m.globals g.result → ArePlans m (variables_among m.globals (take i xs)) plans → IsPlanOf m.heads m.globals g.result plan → IsWithinLimits m.globals g.result → ArePlans m (variables_among m.globals (take (i + 1) xs)) (plans ++ plan ∷ [])
plan_more m xs i g plans plan inside is variable h planned within =
    let before : List ℕ = variables_among m.globals (take i xs) in
    let same : variables_among m.globals (take (i + 1) xs) ≡ before ++ g.result ∷ [] =
    among_more m.globals xs i g inside is ∙ ap (λ b. before ++ map (λ (x : Inst). x.result) (cond b (g ∷ []) [])) (passes m.globals g.result variable) in
    let P : List ℕ → Type 0 = λ ids. ArePlans m ids (plans ++ plan ∷ []) in
    subst P (sym same) (one_more m before plans g.result plan h (planned, within))

append_none : (ids : List ℕ) → ids ++ [] ≡ ids
append_none [] = refl
append_none (id ∷ ids) = ap (λ l. id ∷ l) (append_none ids)

-- another global has none
pub none_more : (m : ModuleState) (xs : List Inst) (i : ℕ) (g : Inst) (plans : List BlockPlan) → i < length xs → g ≡ get_or xs i g → (IsBlockVariable m.globals g.result → ⊥) → ArePlans m (variables_among m.globals (take i xs)) plans → ArePlans m (variables_among m.globals (take (i + 1) xs)) plans
none_more m xs i g plans inside is other h =
    let before : List ℕ = variables_among m.globals (take i xs) in
    let same : variables_among m.globals (take (i + 1) xs) ≡ before =
    among_more m.globals xs i g inside is ∙ ap (λ b. before ++ map (λ (x : Inst). x.result) (cond b (g ∷ []) [])) (fails m.globals g.result other) ∙ append_none before in
    let P : List ℕ → Type 0 = λ ids. ArePlans m ids plans in
    subst P (sym same) h

-- the plan of one of these ids
abbrev SomePlan : ModuleState → ℕ → Type 0
SomePlan m id = (plan : BlockPlan) × IsPlanned m id plan

first_plan : (m : ModuleState) (id : ℕ) (ids : List ℕ) (plans : List BlockPlan) → ArePlans m (id ∷ ids) plans → SomePlan m id × ((rest : List BlockPlan) × ArePlans m ids rest)
first_plan m id ids [] h = absurd h
first_plan m id ids (plan ∷ plans) h = ((plan, h.0), (plans, h.1))

later_plan : (m : ModuleState) (b : Bool) (g : Inst) (others : List Inst) (plans : List BlockPlan) → ArePlans m (map (λ (x : Inst). x.result) (cond b (g ∷ others) others)) plans → (rest : List BlockPlan) × ArePlans m (map (λ (x : Inst). x.result) others) rest
later_plan m true g others plans h = (first_plan m g.result (map (λ (x : Inst). x.result) others) plans h).1
later_plan m false g others plans h = (plans, h)

-- one that is found among the globals, and is a block variable, has a plan
found_plan : (m : ModuleState) (id : ℕ) (xs : List Inst) (v : Inst) (plans : List BlockPlan) → find (λ (g : Inst). g.result == id) xs ≡ Some v → is_block_variable m.globals id ≡ true → ArePlans m (variables_among m.globals xs) plans → SomePlan m id
found_plan m id [] v plans found is h = cc
found_plan m id (x ∷ xs) v plans found is h =
    (elim (x.result == id) as (λ b. (x.result == id) ≡ b → cond b (Some x) (find (λ (g : Inst). g.result == id) xs) ≡ Some v → SomePlan m id) [
      | true ↦ λ here e.
          let same : x.result ≡ id = eqb-true x.result id here in
          let test : is_block_variable m.globals x.result ≡ true = ap (is_block_variable m.globals) same ∙ is in
          let others : List Inst = filter (λ (g : Inst). is_block_variable m.globals g.result) xs in
          let P : Bool → Type 0 = λ b. ArePlans m (map (λ (g : Inst). g.result) (cond b (x ∷ others) others)) plans in
          subst (SomePlan m) same (first_plan m x.result (variables_among m.globals xs) plans (subst P test h)).0
      | false ↦ λ other e.
          let others : List Inst = filter (λ (g : Inst). is_block_variable m.globals g.result) xs in
          let rest : (rest : List BlockPlan) × ArePlans m (variables_among m.globals xs) rest = later_plan m (is_block_variable m.globals x.result) x others plans h in
          found_plan m id xs v rest.0 e is rest.1
    ]) refl found

some_breaks : (heads gs : List Inst) (v : Inst) (rule : Rule) (o : Option Inst) → IsSomeAnd o (λ block. IsBrokenBy heads gs v block rule) → IsSome o
some_breaks heads gs v rule None h = absurd h
some_breaks heads gs v rule (Some block) h = refl

both_at : (heads gs : List Inst) (v : Inst) (rule : Rule) (plan : BlockPlan) (o : Option Inst) → IsSomeAnd o (λ block. IsBrokenBy heads gs v block rule) → IsSomeAnd o (λ block. IsPlanAt heads gs v block plan) → ⊥
both_at heads gs v rule plan None h is = h
both_at heads gs v rule plan (Some block) h is = (let same : None ≡ Some plan.kind = sym h.0 ∙ is.0 in cc)

-- where all block variables have plans, no rule on layout is broken
pub laid : (m : ModuleState) (plans : List BlockPlan) → ArePlans m (block_variables m.globals) plans → (rule : Rule) (at : ℕ) → BreaksLayout m rule at → ⊥
laid m plans h rule at (id, broken) = by_global (global m.globals id) refl broken
  where
    by_global : (o : Option Inst) → global m.globals id ≡ o → IsSomeAnd o (λ v. (at ≡ v.at) × BreaksAt m.heads m.globals v rule) → ⊥
    by_global None is b = b
    by_global (Some v) is b =
        let variable : IsBlockVariable m.globals id =
        (let P : Option Inst → Type 0 = λ o. IsSomeAnd o (λ v. IsSome (block_of m.globals v)) in subst P (sym is) (some_breaks m.heads m.globals v rule (block_of m.globals v) b.1)) in
        let planned : SomePlan m id = found_plan m id m.globals v plans is (passes m.globals id variable) h in
        let Q : Option Inst → Type 0 = λ o. IsSomeAnd o (λ v. IsSomeAnd (block_of m.globals v) (λ block. IsPlanAt m.heads m.globals v block planned.0)) in
        both_at m.heads m.globals v rule planned.0 (block_of m.globals v) b.1 (subst Q is planned.1.0)

pub ruleset plan_rules = (plan_more, none_more)
