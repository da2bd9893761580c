-- The expression of a value says what the module has: by the name of its variable, or, where it has none, by the expressions of its operands, which have not changed since.
use Rattle.std.proofs.Common.{◌≡◌, ◌<◌, ◌⊎◌, ℕ, zero, suc, true, List, [], Option, Some, None, inl, inr, refl, sym, ap, ◌∙◌, subst, arith}
use Rattle.spv_module.specs.declared.inst.Inst.{Inst}
use Rattle.spv_module.specs.declared.inst.Function.{Function}
use Rattle.spv_types.specs.Tree.{ValueTree}
use Rattle.traces.specs.Runs.{Supplied}
use Rattle.traces.specs.Outcomes.{Result, got, or_stuck}
use Rattle.module_semantics.specs.Setting.{Setting}
use Rattle.module_semantics.specs.State.{Held, value, pointer, Conf}
use Rattle.module_semantics.specs.Operands.{of_module, held, as_value, value_at}
use Rattle.module_semantics.specs.Steps.{step_kind}
use Rattle.glsl_ast.specs.Tree.{Text, Expr, name}
use Rattle.glsl_semantics.specs.Shapes.{Shape, Typed, typed}
use Rattle.glsl_semantics.specs.States.{State, Thing, found_in}
use Rattle.glsl_semantics.specs.Expressions.{Program, Argument, named, then_fetch, evaluate}
use Rattle.list_law.proofs.Numbers.{none_below}
use Rattle.region_law.specs.Leads.{In}
use Rattle.agree_law.specs.Agree.{Naming, variable_with, value_of}
use Rattle.agree_law.specs.Blocks.{IsOf, have_result, outcome, has_outcome, reads, Stands}
use Rattle.agree_law.proofs.Owned.{own_found}
use Rattle.agree_law.proofs.Evaluating.{named_is}

pub value_held : (h : Option Held) (v : ValueTree) → as_value h ≡ Some v → h ≡ Some (value v)
value_held None v e = cc
value_held (Some (value u)) v e = let same : u ≡ v = cc in ap (λ u. Some (value u)) same
value_held (Some (pointer r path)) v e = cc

-- a variable that has a value says it
pub name_says : (p : Program) (calls : Text → List Argument → State → Result (Option Typed × State)) (z : State) (x : Text) (t : Shape) (v : ValueTree) → found_in z.frames x ≡ Some (variable_with t (Some v)) → evaluate p calls (name x) z ≡ got [] (typed t v, z)
name_says p calls z x t v is = ap (λ (o : Option Thing). then_fetch (or_stuck o (λ y. got [] (y, z))) (λ v q. got [] (v, q))) (named_is p z x (variable_with t (Some v)) is)

-- an id of the function, which is none of the module, has what was set
pub value_set : (s : Setting) (c : Conf) (n : ℕ) (v : ValueTree) → of_module s n ≡ None → value_at s c.top n ≡ Some v → value_of c n ≡ Some v
value_set s c n v own e = by_id (c.top.ids n) refl
  where
    by_id : (o : Option Held) → c.top.ids n ≡ o → value_of c n ≡ Some v
    by_id None is = let never : None ≡ Some v = sym (ap as_value (ap (λ (o : Option Held). elim o as (λ q. Option Held) [ Some h ↦ Some h | None ↦ of_module s n ]) is ∙ own)) ∙ e in cc
    by_id (Some h) is =
        let now : held s c.top n ≡ Some h = ap (λ (o : Option Held). elim o as (λ q. Option Held) [ Some h ↦ Some h | None ↦ of_module s n ]) is in
        let same : Some h ≡ Some (value v) = value_held (Some h) v (sym (ap as_value now) ∙ e) in
        ap as_value (is ∙ same)

module _ (p : Program) (calls : Text → List Argument → State → Result (Option Typed × State)) (m : Naming) (s : Setting) (Holds : Conf → Type 0) (f : Function) (b : ℕ) (done : List Inst) (c : Supplied Conf) (z : State) (stands : Stands m s Holds f b done c z) (expr : ℕ → Expr) where
  abbrev pub Says : ℕ → ValueTree → Type 0
  Says n v = evaluate p calls (expr n) z ≡ got [] (typed (m.shape n) v, z)

  -- the id has a variable, at the top of the function or in the block, by whose name it is written
  pub record IsNamed (n : ℕ) : Type 0 where
    pub written : expr n ≡ name (m.name n)
    pub own : of_module s n ≡ None
    pub there : (m.is_outer n ≡ true) ⊎ ((m.is_local n ≡ true) × (have_result done n ≡ true))

  pub named_says : (n : ℕ) (v : ValueTree) → IsNamed n → value_at s c.at.top n ≡ Some v → Says n v
  named_says n v is has =
      subst (λ (e : Expr). evaluate p calls e z ≡ got [] (typed (m.shape n) v, z)) (sym is.written)
      (name_says p calls z (m.name n) (m.shape n) v (by_place is.there ∙ ap (λ (o : Option ValueTree). Some (variable_with (m.shape n) o)) (value_set s c.at n v is.own has)))
    where
      by_place : (m.is_outer n ≡ true) ⊎ ((m.is_local n ≡ true) × (have_result done n ≡ true)) → found_in z.frames (m.name n) ≡ Some (variable_with (m.shape n) (value_of c.at n))
      by_place (inl outer) = own_found z.frames (m.name n) _ (stands.agree.all.outer n outer)
      by_place (inr local) = stands.agree.local n local.1 local.0

  module _ (height : ℕ → ℕ) (IsUsable : ℕ → Type 0) where
    -- it is the result of an instruction without effect, whose operands are usable and lower; and where they say what they have, its expression says what it has from these
    pub record IsForwarded (n : ℕ) : Type 0 where
      pub by : Inst
      pub result : by.result ≡ n
      pub before : IsOf by done
      pub pure : has_outcome (step_kind by.op) ≡ true
      pub operands : (j : ℕ) → In j (reads by) → IsUsable j × (height j < height n)
      pub lowers : (v : ValueTree) → outcome (step_kind by.op) s c.at.top by ≡ Some (value v) → ((j : ℕ) → In j (reads by) → (u : ValueTree) → value_at s c.at.top j ≡ Some u → Says j u) → Says n v

    -- how an id is written: by its name; as what the module has from the start; or as its operation
    abbrev pub Way : ℕ → Type 0
    Way n = IsNamed n ⊎ (((v : ValueTree) → value_at s c.at.top n ≡ Some v → Says n v) ⊎ IsForwarded n)

    says_below : ((n : ℕ) → IsUsable n → Way n) → (h n : ℕ) → height n < h → IsUsable n → (v : ValueTree) → value_at s c.at.top n ≡ Some v → Says n v
    says_below ways zero n lt is v has = absurd (none_below _ lt)
    says_below ways (suc h) n lt is v has = by_way (ways n is) (λ j usable lower u had. says_below ways h j lower usable u had)
      where
        by_way : Way n → ((j : ℕ) → IsUsable j → height j < h → (u : ValueTree) → value_at s c.at.top j ≡ Some u → Says j u) → Says n v
        by_way (inl named) below = named_says n v named has
        by_way (inr (inl itself)) below = itself v has
        by_way (inr (inr g)) below =
            let held_is : held s c.at.top g.by.result ≡ Some (value v) = ap (held s c.at.top) g.result ∙ value_held (held s c.at.top n) v has in
            g.lowers v (sym (stands.settled.still g.by g.before g.pure) ∙ held_is) (λ j is u had. below j (g.operands j is).0 (omega (arith, lt, (g.operands j is).1)) u had)

    -- So each usable id that has a value says it, whatever has happened since its instruction in the block.
    pub value_says : ((n : ℕ) → IsUsable n → Way n) → (n : ℕ) → IsUsable n → (v : ValueTree) → value_at s c.at.top n ≡ Some v → Says n v
    value_says ways n is v has = says_below ways (suc (height n)) n (omega arith) is v has
