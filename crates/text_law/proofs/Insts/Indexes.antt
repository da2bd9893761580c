-- What is written of a chain keeps its indexes: each that is kept has a variable, which says it while the chain leads nowhere.
use Rattle.std.proofs.Common.{◌≡◌, ◌++◌, ◌==◌, ◌&&◌, ◌-◌, ◌+◌, ℕ, zero, suc, Bool, true, false, List, [], ◌∷◌, length, drop, Option, Some, None, inl, inr, refl, sym, ap, ◌∙◌, subst, arith, if◌then◌else◌, length-append}
use Rattle.std.specs.Prelude.{◌⊎◌, slice_get, slice_index}
use Rattle.std.specs.Option.{option_map_or}
use Rattle.std.specs.List.{list_any, enumerate_from}
use Rattle.std.proofs.lemmas.Bool.Decides.{eqb_tells}
use Rattle.spv_ops.specs.Groups.{is_chain}
use Rattle.spv_module.specs.State.{ModuleState}
use Rattle.spv_module.specs.declared.inst.Inst.{Inst}
use Rattle.spv_module.specs.declared.inst.Function.{Function}
use Rattle.spv_types.specs.Tree.{ValueTree, word}
use Rattle.spv_index.specs.Locals.{inst_in}
use Rattle.conformance.specs.Rules.{Options}
use Rattle.traces.specs.Invocations.{Invocation}
use Rattle.traces.specs.Runs.{Supplied}
use Rattle.traces.specs.Outcomes.{Result, got}
use Rattle.op_semantics.specs.Component.{each_one}
use Rattle.module_semantics.specs.Setting.{Setting}
use Rattle.module_semantics.specs.State.{Held, Conf}
use Rattle.module_semantics.specs.Operands.{of_module, value_at, word_at, as_value}
use Rattle.module_semantics.specs.Steps as steps
use Rattle.module_semantics.specs.Steps.{is_based_on, without_based}
use Rattle.access_paths.specs.Ways.{captured_indexes}
use Rattle.glsl_ast.specs.Tree.{Text, Expr, name, TranslationUnit}
use Rattle.glsl_semantics.specs.Shapes.{Shape, Typed, typed, same_shape}
use Rattle.glsl_semantics.specs.States.{State, found_in}
use Rattle.glsl_semantics.specs.Expressions.{Program, Argument, evaluate}
use Rattle.expr_forward.specs.declared.kinds.InstKind.TheVariants as kind
use Rattle.expr_forward.specs.Kinds.{kind_of}
use Rattle.expr_forward.specs.Scope.{globals}
use Rattle.expr_forward.specs.Paths.{index_expr}
use Rattle.expr_forward.specs.Statements.{captured_of}
use Rattle.function_text.specs.Functions.{FunctionPlan, written}
use Rattle.unit_rules.specs.Unit.{IsUnitOf}
use Rattle.region_law.specs.Leads.{In}
use Rattle.agree_law.specs.Agree.{Naming, AreApart, variable_with, value_of, AgreeIn}
use Rattle.agree_law.specs.Blocks.{read_ids, reads, IsNew, At, have_result}
use Rattle.agree_law.specs.Evaluates.{IsKept}
use Rattle.agree_law.specs.Points.{Body}
use Rattle.agree_law.proofs.Chains.{IsLed, IsFree, SayIndexes, nowhere}
use Rattle.agree_law.proofs.Machine.{machine}
use Rattle.agree_law.proofs.Owned.{own_found}
use Rattle.agree_law.proofs.Values.{name_says, value_set}
use Rattle.fits_law.proofs.Operations.{before_some}
use Rattle.type_law.proofs.Chains.{none_longer}
use Rattle.call_law.specs.Known.{IsFunctionOf, LendsWhole}
use Rattle.function_law.proofs.Selectors.{word_value}
use Rattle.typed_law.specs.Conforms.{IsConforming}
use Rattle.claim_law.specs.Claimed.{IsIn}
use Rattle.claim_law.proofs.Claim.Listed.{any_in}
use Rattle.grammar_law.proofs.Unit.Lists.{same_test, of_filter, of_numbered_first}
use Rattle.grammar_law.proofs.Unit.Ways.{HaveKinds, plan_is}
use Rattle.grammar_law.specs.Formed.{IsFormedFunction}
use Rattle.text_law.proofs.Naming.Insts.{kept_exprs}
use Rattle.text_law.proofs.Naming.Keys.{S, names}
use Rattle.text_law.proofs.Insts.Asks.{LeftBy}
use Rattle.text_law.proofs.Insts.KindSteps.{chain_step}

-- an element at its place, and what was told of each at the same place
in_at : (xs : List ℕ) (k n : ℕ) → slice_get xs k ≡ Some n → In n xs
in_at [] k n at = cc
in_at (x ∷ xs) zero n at = inl (let same : n ≡ x = cc in same)
in_at (x ∷ xs) (suc k) n at = inr (in_at xs k n at)

same_word : (a b : ℕ) (xs ys : List ℕ) → a ∷ xs ≡ b ∷ ys → (a ≡ b) × (xs ≡ ys)
same_word a b xs ys e = let first : a ≡ b = cc in let rest : xs ≡ ys = cc in (first, rest)

each_at : (g : ℕ → Option ℕ) (ns js : List ℕ) (k n : ℕ) → each_one g ns ≡ Some js → slice_get ns k ≡ Some n → g n ≡ Some (slice_index js k)
each_at g [] js k n each at = cc
each_at g (x ∷ ns) [] k n each at = let w = before_some (g x) (each_one g ns) [] each in absurd (none_longer w.0 w.1 w.4)
each_at g (x ∷ ns) (j ∷ js) zero n each at =
    let w = before_some (g x) (each_one g ns) (j ∷ js) each in
    let same : x ≡ n = cc in
    ap g (sym same) ∙ (w.2 ∙ ap (λ (y : ℕ). Some y) (sym (same_word j w.0 js w.1 w.4).0))
each_at g (x ∷ ns) (j ∷ js) (suc k) n each at =
    let w = before_some (g x) (each_one g ns) (j ∷ js) each in
    each_at g ns js k n (w.3 ∙ ap (λ (ys : List ℕ). Some ys) (sym (same_word j w.0 js w.1 w.4).1)) at

each_count : (g : ℕ → Option ℕ) (ns js : List ℕ) → each_one g ns ≡ Some js → length js ≡ length ns
each_count g [] js each = let same : js ≡ [] = cc in ap length same
each_count g (x ∷ ns) [] each = let w = before_some (g x) (each_one g ns) [] each in absurd (none_longer w.0 w.1 w.4)
each_count g (x ∷ ns) (j ∷ js) each =
    let w = before_some (g x) (each_one g ns) (j ∷ js) each in
    ap suc (each_count g ns js (w.3 ∙ ap (λ (ys : List ℕ). Some ys) (sym (same_word j w.0 js w.1 w.4).1)))

-- what stands at the end of a path
drop_front : (xs ys : List ℕ) (n : ℕ) → n ≡ length xs → drop n (xs ++ ys) ≡ ys
drop_front xs ys n same = ap (λ (k : ℕ). drop k (xs ++ ys)) same ∙ dropped xs
  where
    dropped : (xs : List ℕ) → drop (length xs) (xs ++ ys) ≡ ys
    dropped [] = refl
    dropped (x ∷ xs) = dropped xs

pub at_end : (xs ys : List ℕ) (n : ℕ) → length ys ≡ n → drop (length (xs ++ ys) - n) (xs ++ ys) ≡ ys
at_end xs ys n same = drop_front xs ys (length (xs ++ ys) - n) (let whole = length-append xs ys in omega (arith, whole, same))

module _ (m : ModuleState) (opts : Options) (right : IsConforming m opts.entry) (kinds : HaveKinds m.globals) (unit : TranslationUnit) (u : IsUnitOf m opts unit) (inv : Invocation) (p : FunctionPlan) (among : IsIn p u.plans) (lends : LendsWhole (S m opts unit u inv)) (is_one : IsFunctionOf (written p) m.functions)
    (program : Program) (calls : Text → List Argument → State → Result (Option Typed × State)) (k : ℕ) (apart : AreApart (names m opts unit u inv p)) (Holds : Conf → Type 0) (keeps : IsKept (machine (S m opts unit u inv)) Holds) (form : IsFormedFunction (written p)) (b : ℕ) (o : Body (written p) b) (done : List Inst) (i : Inst) (rest : List Inst) where
  abbrev s : Setting
  s = S m opts unit u inv

  abbrev N : Naming
  N = names m opts unit u inv p

  abbrev f : Function
  f = written p

  abbrev Rest : List Inst
  Rest = rest ++ o.last ∷ []

  -- an index that is kept has a variable, of the shape in which it is kept
  pub record HasIndex (j n : ℕ) : Type 0 where
    pub written : index_expr p.scope.setting n ≡ name (N.name n)
    pub own : of_module s n ≡ None
    pub there : (N.is_outer n ≡ true) ⊎ ((N.is_local n ≡ true) × (have_result done n ≡ true))
    pub shape : N.index_shape i.result j ≡ N.shape n
    pub same : same_shape (N.shape n) (N.shape n) ≡ true

  module _ (e : kind_of i.op ≡ kind.Chain) (new : IsNew i done) (free : IsFree f i done) (made : inst_in f i.result ≡ Some i) (indexes : (x : ℕ × ℕ) → IsIn x (captured_of p.scope i) → HasIndex x.0 x.1) where
    abbrev kept_test : ℕ → List Inst → Inst → Bool
    kept_test j gs x = list_any (λ (n : ℕ × ℕ). n.0 == j) (if is_chain x.op && p.scope.carried x.result then captured_indexes gs x else [])

    kept_so : (x : ℕ × ℕ) → IsIn x (captured_of p.scope i) → N.is_kept i.result x.0 ≡ true
    kept_so x there =
        ap (λ (y : Option Inst). option_map_or (kept_test x.0 m.globals) y false) made
        ∙ (ap (λ (gs : List Inst). kept_test x.0 gs i) (sym (ap globals (plan_is s opts.entry right kinds opts unit u p among).scope_is))
        ∙ any_in (λ (n : ℕ × ℕ). n.0 == x.0) (captured_of p.scope i) x there (same_test x.0 x.0 refl))

    -- where it stands among the chain's indexes
    stands_by : (t : Bool) (x : ℕ × ℕ) → IsIn x (if t then captured_indexes (globals p.scope) i else []) → slice_get (drop 1 i.args) x.0 ≡ Some x.1
    stands_by true x there = of_numbered_first (drop 1 i.args) x.0 x.1 (of_filter _ (enumerate_from 0 (drop 1 i.args)) x there).0
    stands_by false x there = absurd there

    read_so : (n j : ℕ) → slice_get (drop 1 i.args) j ≡ Some n → In n (reads i)
    read_so n j at = subst (λ (q : steps.StepKind). In n (read_ids q i)) (sym (chain_step i.op e)) (inr (in_at (drop 1 i.args) j n at))

    module _ (c : Supplied Conf) (z : State) (here : At N s Holds f b done (i ∷ Rest) c z) (g : IsLed s c.at Rest i) where
      abbrev Nowhere : Conf
      Nowhere = nowhere program calls k N apart s Holds f b keeps done i Rest c.at

      abbrev word_of : ℕ → ℕ
      word_of j = N.index_in i.result j (g.from.1 ++ g.indexes)

      word_is : (j : ℕ) → word_of j ≡ slice_index g.indexes j
      word_is j =
          ap (λ (y : Option Inst). option_map_or (λ (x : Inst). slice_index (drop (length (g.from.1 ++ g.indexes) - length (drop 1 x.args)) (g.from.1 ++ g.indexes)) j) y 0) made
          ∙ ap (λ (path : List ℕ). slice_index path j) (at_end g.from.1 g.indexes (length (drop 1 i.args)) (each_count (word_at s c.at.top) (drop 1 i.args) g.indexes g.words))

      -- the index has what it had
      still : (n j : ℕ) → slice_get (drop 1 i.args) j ≡ Some n → Nowhere.top.ids n ≡ c.at.top.ids n
      still n j at =
          ap (λ (t : Bool). elim t as (λ t. Option Held) [ true ↦ None | false ↦ without_based c.at.top.function i.result c.at.top.ids n ]) other
          ∙ ap (λ (t : Bool). elim t as (λ t. Option Held) [ true ↦ None | false ↦ c.at.top.ids n ]) (ap (λ (h : Function). is_based_on h i.result n) here.stands.function ∙ free.own n (read_so n j at))
        where
          other : (n == i.result) ≡ false
          other = elim (eqb_tells n i.result) [ inl w ↦ absurd (new.own n (read_so n j at) w.1) | inr w ↦ w.0 ]

      value_is : (n j : ℕ) → slice_get (drop 1 i.args) j ≡ Some n → of_module s n ≡ None → value_of Nowhere n ≡ Some (word (word_of j))
      value_is n j at own =
          ap as_value (still n j at)
          ∙ value_set s c.at n (word (word_of j)) own (word_value (value_at s c.at.top n) (word_of j) (each_at (word_at s c.at.top) (drop 1 i.args) g.indexes j n g.words at ∙ ap (λ (x : ℕ). Some x) (sym (word_is j))))

      says_index : (x : ℕ × ℕ) → IsIn x (captured_of p.scope i) → (y : State) → AgreeIn N (have_result done) Nowhere y → evaluate program calls (index_expr p.scope.setting x.1) y ≡ got [] (typed (N.index_shape i.result x.0) (word (word_of x.0)), y)
      says_index x among_it y agree =
          let h = indexes x among_it in
          let at = stands_by (is_chain i.op && p.scope.carried i.result) x among_it in
          ap (λ (v : Expr). evaluate program calls v y) h.written
          ∙ (name_says program calls y (N.name x.1) (N.shape x.1) (word (word_of x.0)) (found_there h.there ∙ ap (λ (v : Option ValueTree). Some (variable_with (N.shape x.1) v)) (value_is x.1 x.0 at h.own))
          ∙ ap (λ (t : Shape). got [] (typed t (word (word_of x.0)), y)) (sym h.shape))
        where
          found_there : (N.is_outer x.1 ≡ true) ⊎ ((N.is_local x.1 ≡ true) × (have_result done x.1 ≡ true)) → found_in y.frames (N.name x.1) ≡ Some (variable_with (N.shape x.1) (value_of Nowhere x.1))
          found_there (inl outer) = own_found y.frames (N.name x.1) _ (agree.all.outer x.1 outer)
          found_there (inr local) = agree.local x.1 local.1 local.0

      say_all : (xs : List (ℕ × ℕ)) → ((x : ℕ × ℕ) → IsIn x xs → IsIn x (captured_of p.scope i)) → SayIndexes program calls k N apart (have_result done) i.result Nowhere word_of (kept_exprs program calls k N apart s Holds f b keeps p.scope done i Rest xs)
      say_all [] sub = tt
      say_all (x ∷ xs) sub =
          let there = sub x (inl refl) in
          ((kept_so x there, subst (λ (t : Shape). same_shape t t ≡ true) (sym (indexes x there).shape) (indexes x there).same, says_index x there), say_all xs (λ y y_in. sub y (inr y_in)))

    -- the law
    pub chain_left : LeftBy m opts right kinds unit u inv p among lends is_one program calls k apart Holds keeps form b o done i rest kind.Chain
    chain_left c z here g = say_all c z here g (captured_of p.scope i) (λ x there. there)
