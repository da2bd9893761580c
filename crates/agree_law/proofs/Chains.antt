-- A chain is set on both sides: those based on it lead nowhere, its indexes are kept where other blocks need them, and it leads where they say.
use Rattle.std.proofs.Common.{◌≡◌, ◌≢◌, ◌⊎◌, ◌==◌, ◌++◌, ℕ, Bool, true, false, List, [], ◌∷◌, drop, Option, Some, None, inl, inr, refl, sym, ap, ◌∙◌, subst, arith}
use Rattle.std.specs.Prelude.{map, option_map, option_and_then}
use Rattle.std.proofs.lemmas.Bool.Decides.{eqb_tells}
use Rattle.spv_module.specs.declared.inst.Inst.{Inst}
use Rattle.spv_module.specs.declared.inst.Function.{Function}
use Rattle.spv_types.specs.Tree.{ValueTree, word}
use Rattle.profile_rules.specs.MemoryRules.{pointee_of}
use Rattle.traces.specs.Runs.{Act, goes, fails, go, Supplied, supplied}
use Rattle.traces.specs.Outcomes.{normal, begun, then_do, Result, got}
use Rattle.traces.specs.Simulation.{Follows}
use Rattle.traces.proofs.Moves.{Never, NeverGives, one_step, fewer, fails_now}
use Rattle.module_semantics.specs.Setting.{Setting}
use Rattle.module_semantics.specs.Memory.{are_allowed}
use Rattle.module_semantics.specs.State.{Held, pointer, Conf, put}
use Rattle.module_semantics.specs.Operands.{of_module, held, pointer_at, words_at, Target, as_value}
use Rattle.module_semantics.specs.Steps.{chain, step_kind, with_some, base, is_based_on, without_based, lead, lead_if, chain_step}
use Rattle.glsl_ast.specs.Tree.{Text, Expr, assign, lvalue, Stmts, stmts_in}
use Rattle.glsl_semantics.specs.Shapes.{Typed, typed, same_shape}
use Rattle.glsl_semantics.specs.States.{State, put_in}
use Rattle.glsl_semantics.specs.Expressions.{Program, Argument, evaluate}
use Rattle.glsl_semantics.specs.Statements.{Run, stmts_run}
use Rattle.region_law.proofs.Flags.{other_put}
use Rattle.region_law.specs.Leads.{In}
use Rattle.agree_law.specs.Answers.{move}
use Rattle.agree_law.specs.Own.{Own}
use Rattle.agree_law.specs.Agree.{Naming, AreApart, variable_with, AgreeIn}
use Rattle.agree_law.specs.Blocks.{IsOf, have_result, outcome, reads, IsSettled, IsNew, Stands, At}
use Rattle.agree_law.specs.Evaluates.{IsKept}
use Rattle.agree_law.proofs.Owned.{own_found, own_put, own_put_other}
use Rattle.agree_law.proofs.Braces.{local_named}
use Rattle.agree_law.proofs.Changes.{with_id, is_not, put_same, put_other, forgets, keeps_index, leads}
use Rattle.agree_law.proofs.InBlocks.{before_it}
use Rattle.agree_law.proofs.Settling.{settled_more, held_same}
use Rattle.agree_law.proofs.Steps.{assign_runs}
use Rattle.agree_law.proofs.Machine.{machine, kind_is}

-- where a chain leads, or that it has no meaning
pub record IsLed (s : Setting) (c : Conf) (rest : List Inst) (i : Inst) : Type 0 where
  pub from : Target
  pub indexes : List ℕ
  pub base_is : pointer_at s c.top (base i) ≡ Some from
  pub words : words_at s c.top (drop 1 i.args) ≡ Some indexes
  pub goes_on : chain_step s c rest i ≡ goes [] (lead c rest i from indexes)

pub chain_goes : (s : Setting) (c : Conf) (rest : List Inst) (i : Inst) → IsLed s c rest i ⊎ (chain_step s c rest i ≡ fails)
unfolding chain_step
chain_goes s c rest i = by_base (pointer_at s c.top (base i)) refl
  where
    last : Target → List ℕ → Option ℕ → Act Conf
    last p indexes o = with_some o (λ ty. lead_if (are_allowed s ty indexes) c rest i p indexes)

    words : Target → Option (List ℕ) → Act Conf
    words p o = with_some o (λ indexes. last p indexes (pointee_of s.of.globals c.top.function (base i)))

    first : Option Target → Act Conf
    first o = with_some o (λ p. words p (words_at s c.top (drop 1 i.args)))

    by_test : (p : Target) (indexes : List ℕ) (ty : ℕ) (t : Bool) → are_allowed s ty indexes ≡ t → pointer_at s c.top (base i) ≡ Some p → words_at s c.top (drop 1 i.args) ≡ Some indexes → first (pointer_at s c.top (base i)) ≡ lead_if (are_allowed s ty indexes) c rest i p indexes
        → IsLed s c rest i ⊎ (chain_step s c rest i ≡ fails)
    by_test p indexes ty true is b w e = inl (record { from = p; indexes = indexes; base_is = b; words = w; goes_on = e ∙ ap (λ (t : Bool). lead_if t c rest i p indexes) is })
    by_test p indexes ty false is b w e = inr (e ∙ ap (λ (t : Bool). lead_if t c rest i p indexes) is)

    by_type : (p : Target) (indexes : List ℕ) (o : Option ℕ) → pointee_of s.of.globals c.top.function (base i) ≡ o → pointer_at s c.top (base i) ≡ Some p → words_at s c.top (drop 1 i.args) ≡ Some indexes → IsLed s c rest i ⊎ (chain_step s c rest i ≡ fails)
    by_type p indexes None is b w = inr (ap first b ∙ ap (words p) w ∙ ap (last p indexes) is)
    by_type p indexes (Some ty) is b w = by_test p indexes ty (are_allowed s ty indexes) refl b w (ap first b ∙ ap (words p) w ∙ ap (last p indexes) is)

    by_words : (p : Target) (o : Option (List ℕ)) → words_at s c.top (drop 1 i.args) ≡ o → pointer_at s c.top (base i) ≡ Some p → IsLed s c rest i ⊎ (chain_step s c rest i ≡ fails)
    by_words p None w b = inr (ap first b ∙ ap (words p) w)
    by_words p (Some indexes) w b = by_type p indexes (pointee_of s.of.globals c.top.function (base i)) refl b w

    by_base : (o : Option Target) → pointer_at s c.top (base i) ≡ o → IsLed s c rest i ⊎ (chain_step s c rest i ≡ fails)
    by_base None b = inr (ap first b)
    by_base (Some p) b = by_words p (words_at s c.top (drop 1 i.args)) refl b

module _ (p : Program) (calls : Text → List Argument → State → Result (Option Typed × State)) (k : ℕ) (m : Naming) (apart : AreApart m) (done : ℕ → Bool) (q : ℕ) where
  -- what is written of the indexes that are kept, each by its number
  abbrev pub captures : List (ℕ × Expr) → Stmts
  captures cs = stmts_in (map (λ (c : ℕ × Expr). assign (lvalue (m.index_name q c.0) []) c.1) cs)

  -- while the chain leads nowhere, each of these says its index
  abbrev pub SayIndexes : Conf → (ℕ → ℕ) → List (ℕ × Expr) → Type 0
  SayIndexes c w [] = Unit {0}
  SayIndexes c w (e ∷ es) =
      ((m.is_kept q e.0 ≡ true) × (same_shape (m.index_shape q e.0) (m.index_shape q e.0) ≡ true) × ((y : State) → AgreeIn m done c y → evaluate p calls e.1 y ≡ got [] (typed (m.index_shape q e.0) (word (w e.0)), y))) × SayIndexes c w es

  abbrev pub IsNumber : ℕ → List (ℕ × Expr) → Type 0
  IsNumber j [] = ⊥
  IsNumber j (e ∷ es) = (j ≡ e.0) ⊎ IsNumber j es

  abbrev HasIndex : State → (ℕ → ℕ) → ℕ → Type 0
  HasIndex z w j = Own z.frames (m.index_name q j) (variable_with (m.index_shape q j) (Some (word (w j))))

  pub record AreCaptured (c : Conf) (w : ℕ → ℕ) (es : List (ℕ × Expr)) (D : ℕ → Type 0) (z : State) : Type 0 where
    pub to : State
    pub runs : stmts_run p calls k (captures es) z ≡ normal [] to
    pub agree : AgreeIn m done c to
    pub answers : to.answers ≡ z.answers
    pub own : (j : ℕ) → D j ⊎ IsNumber j es → HasIndex to w j

  -- one index is kept
  keeps_index_in : (c : Conf) (z : State) (j i : ℕ) → m.is_kept q j ≡ true → c.top.ids q ≡ None → AgreeIn m done c z → AgreeIn m done c (record z { frames = put_in z.frames (m.index_name q j) (word i) })
  keeps_index_in c z j i is none a = record {
    all = keeps_index m apart c z [] q j i is none a.all;
    local = λ n d e. other_put z.frames (m.index_name q j) (m.name n) (word i) (λ same. apart.both n q j (local_named m n e) is (sym same)) ∙ a.local n d e;
  }

  pub captured : (c : Conf) (w : ℕ → ℕ) → c.top.ids q ≡ None → (es : List (ℕ × Expr)) (D : ℕ → Type 0) (z : State) → ((j : ℕ) → D j → m.is_kept q j ≡ true) → ((j : ℕ) → D j → HasIndex z w j) → SayIndexes c w es → AgreeIn m done c z → AreCaptured c w es D z
  captured c w none [] D z kept own says a = record { to = z; runs = refl; agree = a; answers = refl; own = λ j h. elim h [ inl d ↦ own j d | inr never ↦ absurd never ] }
  captured c w none (e ∷ es) D z kept own says a =
      let old = a.all.kept q e.0 says.0.0 in
      let z1 : State = record z { frames = put_in z.frames (m.index_name q e.0) (word (w e.0)) } in
      let r = captured c w none es (λ j. D j ⊎ (j ≡ e.0)) z1 (λ j h. elim h [ inl d ↦ kept j d | inr same ↦ subst (λ j. m.is_kept q j ≡ true) (sym same) says.0.0 ]) (now e.0 old.0 old.1 says.0.0) says.1 (keeps_index_in c z e.0 (w e.0) says.0.0 none a) in
      record {
        to = r.to;
        runs = ap (λ (o : Run). then_do o (stmts_run p calls k (captures es))) (assign_runs p calls k z (m.index_name q e.0) e.1 (m.index_shape q e.0) old.0 (word (w e.0)) (own_found z.frames (m.index_name q e.0) _ old.1) says.0.1 (says.0.2 z a)) ∙ ap (λ (o : Run). begun [] o) r.runs;
        agree = r.agree;
        answers = r.answers;
        own = λ j h. r.own j (moved j h);
      }
    where
      now : (n : ℕ) (o : Option ValueTree) → Own z.frames (m.index_name q n) (variable_with (m.index_shape q n) o) → m.is_kept q n ≡ true → (j : ℕ) → D j ⊎ (j ≡ n) → HasIndex (record z { frames = put_in z.frames (m.index_name q n) (word (w n)) }) w j
      now n o old is j h = elim (eqb_tells j n) [
        | inl t ↦
            subst (λ l. Own (put_in z.frames (m.index_name q n) (word (w n))) (m.index_name q l) (variable_with (m.index_shape q l) (Some (word (w l))))) (sym t.1)
            (own_put z.frames (m.index_name q n) (variable_with (m.index_shape q n) o) (word (w n)) old)
        | inr t ↦ elim h [
          | inl d ↦ own_put_other z.frames (m.index_name q j) (m.index_name q n) _ (word (w n)) (λ same. t.1 (sym (apart.indexes q n q j is (kept j d) same).1)) (own j d)
          | inr same ↦ absurd (t.1 same)
        ]
      ]

      moved : (j : ℕ) → D j ⊎ ((j ≡ e.0) ⊎ IsNumber j es) → (D j ⊎ (j ≡ e.0)) ⊎ IsNumber j es
      moved j (inl d) = inl (inl d)
      moved j (inr (inl same)) = inl (inr same)
      moved j (inr (inr is)) = inr is

-- what a chain's frame has of other ids that are not based on it
lead_other : (s : Setting) (c : Conf) (rest : List Inst) (i : Inst) (t : Target) (indexes : List ℕ) (n : ℕ) → n ≢ i.result → is_based_on c.top.function i.result n ≡ false → (lead c rest i t indexes).top.ids n ≡ c.top.ids n
lead_other s c rest i t indexes n other free =
    put_other (without_based c.top.function i.result c.top.ids) i.result n (pointer t.0 (t.1 ++ indexes)) other
    ∙ ap (λ (b : Bool). elim b as (λ b. Option Held) [ true ↦ None | false ↦ c.top.ids n ]) free

-- none of these is based on the chain, nor reads what is
pub record IsFree (f : Function) (i : Inst) (done : List Inst) : Type 0 where
  pub result : (j : Inst) → IsOf j done → is_based_on f i.result j.result ≡ false
  pub unread : (j : Inst) → IsOf j done → (n : ℕ) → In n (reads j) → is_based_on f i.result n ≡ false
  pub own : (n : ℕ) → In n (reads i) → is_based_on f i.result n ≡ false

module _ (p : Program) (calls : Text → List Argument → State → Result (Option Typed × State)) (k : ℕ) (m : Naming) (apart : AreApart m) (s : Setting) (Holds : Conf → Type 0) (f : Function) (b : ℕ) (keeps : IsKept (machine s) Holds) (done : List Inst) (i : Inst) (rest : List Inst) where
  abbrev q : ℕ
  q = i.result

  abbrev Plain : Supplied Conf → Run → Type 0
  Plain c o = Follows (Supplied Conf) (machine s) State (Option Typed) (At m s Holds f b (i ∷ done) rest) (Never (Supplied Conf) (machine s) State (Option Typed)) (Never (Supplied Conf) (machine s) State (Option Typed)) (NeverGives (Supplied Conf) (machine s) State (Option Typed)) 0 k c o

  -- the chain and those based on it lead nowhere
  abbrev pub nowhere : Conf → Conf
  nowhere c = with_id c rest (λ n. elim (n == q) [ true ↦ None | false ↦ without_based c.top.function q c.top.ids n ])

  -- no chain has a variable
  abbrev pub HaveNone : Function → Type 0
  HaveNone g = (n : ℕ) → is_based_on g q n ≡ true → (m.is_outer n ≡ false) × (m.is_local n ≡ false)

  less : (c : Conf) → m.is_outer q ≡ false → HaveNone c.top.function → (n : ℕ) → ((nowhere c).top.ids n ≡ c.top.ids n) ⊎ (((nowhere c).top.ids n ≡ None) × (m.is_outer n ≡ false))
  less c outer none n = elim (eqb_tells n q) [
    | inl w ↦ inr (ap (λ (t : Bool). elim t as (λ t. Option Held) [ true ↦ None | false ↦ without_based c.top.function q c.top.ids n ]) w.0, ap m.is_outer w.1 ∙ outer)
    | inr w ↦ by_base (is_based_on c.top.function q n) refl w.0
  ]
    where
      by_base : (t : Bool) → is_based_on c.top.function q n ≡ t → (n == q) ≡ false → ((nowhere c).top.ids n ≡ c.top.ids n) ⊎ (((nowhere c).top.ids n ≡ None) × (m.is_outer n ≡ false))
      by_base true is off = inr (ap (λ (t : Bool). elim t as (λ t. Option Held) [ true ↦ None | false ↦ without_based c.top.function q c.top.ids n ]) off ∙ ap (λ (b : Bool). elim b as (λ b. Option Held) [ true ↦ None | false ↦ c.top.ids n ]) is, (none n is).0)
      by_base false is off = inl (ap (λ (t : Bool). elim t as (λ t. Option Held) [ true ↦ None | false ↦ without_based c.top.function q c.top.ids n ]) off ∙ ap (λ (b : Bool). elim b as (λ b. Option Held) [ true ↦ None | false ↦ c.top.ids n ]) is)

  -- an id with a variable in its block has what it had
  local_same : (c : Conf) → m.is_local q ≡ false → HaveNone c.top.function → (n : ℕ) → m.is_local n ≡ true → (nowhere c).top.ids n ≡ c.top.ids n
  local_same c off none n on =
      let other : (n == q) ≡ false = elim (eqb_tells n q) [ inl w ↦ absurd (is_not m.is_local n q on off w.1) | inr w ↦ w.0 ] in
      let free : is_based_on c.top.function q n ≡ false = by_base (is_based_on c.top.function q n) refl in
      ap (λ (t : Bool). elim t as (λ t. Option Held) [ true ↦ None | false ↦ without_based c.top.function q c.top.ids n ]) other ∙ ap (λ (b : Bool). elim b as (λ b. Option Held) [ true ↦ None | false ↦ c.top.ids n ]) free
    where
      by_base : (t : Bool) → is_based_on c.top.function q n ≡ t → is_based_on c.top.function q n ≡ false
      by_base true is = let never : true ≡ false = sym on ∙ (none n is).1 in cc
      by_base false is = is

  nowhere_in : (c : Conf) (z : State) → m.is_outer q ≡ false → m.is_local q ≡ false → HaveNone c.top.function → AgreeIn m (have_result done) c z → AgreeIn m (have_result done) (nowhere c) z
  nowhere_in c z outer off none a = record {
    all = forgets m apart c z rest (nowhere c).top.ids (less c outer none) a.all;
    local = λ n d e. a.local n d e ∙ ap (λ (o : Option Held). Some (variable_with (m.shape n) (as_value o))) (sym (local_same c off none n e));
  }

  -- and it leads where its indexes say
  leads_in : (c : Conf) (z : State) (t : Target) (indexes : List ℕ) → m.is_outer q ≡ false → m.is_local q ≡ false → m.is_lent q ≡ false
      → ((j : ℕ) → m.is_kept q j ≡ true → Own z.frames (m.index_name q j) (variable_with (m.index_shape q j) (Some (word (m.index_in q j (t.1 ++ indexes))))))
      → AgreeIn m (have_result done) (nowhere c) z → AgreeIn m (have_result (i ∷ done)) (lead c rest i t indexes) z
  leads_in c z t indexes outer off far own a =
      subst (λ (ids : ℕ → Option Held). AgreeIn m (have_result (i ∷ done)) (with_id c rest ids) z) same_ids
      (record {
        all = leads m apart (nowhere c) z rest q t.0 (t.1 ++ indexes) outer far own a.all;
        local = λ n d e. a.local n (before_it (have_result done) q n (is_not m.is_local n q e off) d) e ∙ ap (λ (o : Option Held). Some (variable_with (m.shape n) (as_value o))) (sym (put_other (nowhere c).top.ids q n (pointer t.0 (t.1 ++ indexes)) (is_not m.is_local n q e off)));
      })
    where
      by_test : (t b : Bool) (h : Option Held) (o : Option Held) → elim b as (λ b. Option Held) [ true ↦ h | false ↦ elim b as (λ b. Option Held) [ true ↦ None | false ↦ o ] ] ≡ elim b as (λ b. Option Held) [ true ↦ h | false ↦ o ]
      by_test t true h o = refl
      by_test t false h o = refl

      same_ids : put (nowhere c).top.ids q (pointer t.0 (t.1 ++ indexes)) ≡ put (without_based c.top.function q c.top.ids) q (pointer t.0 (t.1 ++ indexes))
      same_ids j n = by_test true (n == q) (Some (pointer t.0 (t.1 ++ indexes))) (without_based c.top.function q c.top.ids n) j

  -- the chain has what its base and its indexes have, and all else is as it was
  led_settled : (c : Supplied Conf) (g : IsLed s c.at rest i) → step_kind i.op ≡ chain → IsNew i done → IsFree c.at.top.function i done → IsSettled s done c.at.top → IsSettled s (i ∷ done) (lead c.at rest i g.from g.indexes).top
  led_settled c g kind new free a =
      settled_more s c.at.top (lead c.at rest i g.from g.indexes).top i done
      (record {
        result = λ j is. same j.result (new.result j is) (free.result j is);
        read = λ j is n r. same n (new.unread j is n r) (free.unread j is n r);
      })
      (λ n r. same n (new.own n r) (free.own n r))
      (λ on. held_now ∙ sym led_is)
      a
    where
      same : (n : ℕ) → n ≢ q → is_based_on c.at.top.function q n ≡ false → held s (lead c.at rest i g.from g.indexes).top n ≡ held s c.at.top n
      same n other off = held_same s c.at.top (lead c.at rest i g.from g.indexes).top n (lead_other s c.at rest i g.from g.indexes n other off)

      held_now : held s (lead c.at rest i g.from g.indexes).top q ≡ Some (pointer g.from.0 (g.from.1 ++ g.indexes))
      held_now = ap (λ (o : Option Held). elim o as (λ q. Option Held) [ Some h ↦ Some h | None ↦ of_module s q ]) (put_same (without_based c.at.top.function q c.at.top.ids) q (pointer g.from.0 (g.from.1 ++ g.indexes)))

      led_is : outcome (step_kind i.op) s c.at.top i ≡ Some (pointer g.from.0 (g.from.1 ++ g.indexes))
      led_is =
          ap (λ kind. outcome kind s c.at.top i) kind
          ∙ ap (λ (o : Option Target). option_and_then (λ (p : Target). option_map (λ (is : List ℕ). pointer p.0 (p.1 ++ is)) (words_at s c.at.top (drop 1 i.args))) o) g.base_is
          ∙ ap (λ (o : Option (List ℕ)). option_map (λ (is : List ℕ). pointer g.from.0 (g.from.1 ++ is)) o) g.words

  -- What is written of a chain: its indexes, by what they say while it leads nowhere. All that are kept are written.
  pub chain_follows : (c : Supplied Conf) (z : State) (es : List (ℕ × Expr)) → Stands m s Holds f b done c z → c.at.top.rest ≡ i ∷ rest → step_kind i.op ≡ chain → IsNew i done → IsFree c.at.top.function i done → HaveNone c.at.top.function
      → m.is_outer q ≡ false → m.is_local q ≡ false → m.is_lent q ≡ false
      → ((j : ℕ) → m.is_kept q j ≡ true → IsNumber p calls k m apart (have_result done) q j es)
      → ((g : IsLed s c.at rest i) → SayIndexes p calls k m apart (have_result done) q (nowhere c.at) (λ j. m.index_in q j (g.from.1 ++ g.indexes)) es)
      → Plain c (stmts_run p calls k (captures p calls k m apart (have_result done) q es) z)
  chain_follows c z es stands next kind new free none outer off far all says = elim (chain_goes s c.at rest i) [
    | inl g ↦ led g
    | inr e ↦ inr (fails_now (Supplied Conf) (machine s) c _ (kind_is s c i rest chain next kind ∙ ap (λ (a : Act Conf). move a c.answers) e))
  ]
    where
      led : (g : IsLed s c.at rest i) → Plain c (stmts_run p calls k (captures p calls k m apart (have_result done) q es) z)
      led g =
          let d : Supplied Conf = supplied (lead c.at rest i g.from g.indexes) c.answers in
          let w : ℕ → ℕ = λ j. m.index_in q j (g.from.1 ++ g.indexes) in
          let none_here : (nowhere c.at).top.ids q ≡ None = ap (λ (t : Bool). elim t as (λ t. Option Held) [ true ↦ None | false ↦ without_based c.at.top.function q c.at.top.ids q ]) (elim (eqb_tells q q) [ inl w ↦ w.0 | inr w ↦ absurd (w.1 refl) ]) in
          let r = captured p calls k m apart (have_result done) q (nowhere c.at) w none_here es (λ j. ⊥) z (λ j d. absurd d) (λ j d. absurd d) (says g) (nowhere_in c.at z outer off none stands.agree) in
          let goes_on : machine s c ≡ go [] d = kind_is s c i rest chain next kind ∙ ap (λ (a : Act Conf). move a c.answers) g.goes_on in
          subst (Plain c) (sym r.runs)
          (inl (record {
            to = d;
            comes = fewer (Supplied Conf) (machine s) 1 0 c d [] (omega arith) (one_step (Supplied Conf) (machine s) c d [] goes_on);
            holds = record {
              stands = record {
                function = stands.function;
                block = stands.block;
                agree = leads_in c.at r.to g.from g.indexes outer off far (λ j e. r.own j (inr (all j e))) r.agree;
                settled = led_settled c g kind new free stands.settled;
                holds = keeps c d [] refl goes_on stands.holds;
                answers = r.answers ∙ stands.answers;
              };
              next = refl;
            };
          }))
