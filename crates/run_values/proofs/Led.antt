-- What chains do: the state behind one, and that the definition of a step says the same.
use Rattle.std.proofs.Common.{◌≡◌, ◌==◌, ◌++◌, ℕ, Bool, true, false, List, [], drop, refl, ap, sym, ◌∙◌}
use Rattle.std.specs.Prelude.{Option, Some, None, option_and_then, if◌then◌else◌}
use Rattle.std.specs.Option.{option_map_or}
use Rattle.std.specs.BTreeMap.{BTreeMap}
use Rattle.spv_module.specs.declared.inst.Inst.{Inst}
use Rattle.spv_module.specs.declared.inst.Function.{Function}
use Rattle.profile_rules.specs.MemoryRules.{pointee_of}
use Rattle.traces.specs.Runs.{Act, goes, fails}
use Rattle.module_semantics.specs.Setting.{Setting}
use Rattle.module_semantics.specs.Memory.{are_allowed}
use Rattle.module_semantics.specs.State as state
use Rattle.module_semantics.specs.Operands.{Target, pointer_at, words_at}
use Rattle.module_semantics.specs.Steps.{with_some, base, is_based_on, lead_if, chain_step}
use Rattle.run_state.specs.declared.conf.Conf.{Conf}
use Rattle.run_state.specs.declared.held.Held.{Held}
use Rattle.run_state.specs.Ids.{ids_of, without}
use Rattle.run_state.specs.Confs.{conf_of, behind, IsSet}
use Rattle.run_state.proofs.States.{set_conf}
use Rattle.run_acts.specs.Narrowed.{narrowed}
use Rattle.run_values.specs.Chained.{allows, further_if, further, chained, led_without}

-- where a chain leads, by what is found of its base and its indexes
module _ (s : Setting) (f : state.Frame) (i : Inst) where
  abbrev chained_by : Option Target → Option state.Held
  chained_by o = option_and_then (λ (p : Target). option_and_then (further s f i p) (words_at s f (drop 1 i.args))) o

  pub no_base : (id : ℕ) → id ≡ base i → None ≡ pointer_at s f id → None ≡ chained s f i
  no_base id at none = ap chained_by (none ∙ ap (pointer_at s f) at)

  pub no_words : (id : ℕ) (list : List ℕ) (p : Target) → id ≡ base i → list ≡ drop 1 i.args → Some p ≡ pointer_at s f id → None ≡ words_at s f list → None ≡ chained s f i
  no_words id list p at behind some none = ap (option_and_then (further s f i p)) (none ∙ ap (words_at s f) behind) ∙ ap chained_by (some ∙ ap (pointer_at s f) at)

  pub is_chained : (id : ℕ) (list indexes : List ℕ) (p : Target) (b : Bool) (g : Function) → id ≡ base i → list ≡ drop 1 i.args → f.function ≡ g → Some p ≡ pointer_at s f id → Some indexes ≡ words_at s f list → b ≡ allows s g id indexes → further_if b p indexes ≡ chained s f i
  is_chained id list indexes p b g at behind here some words allowed =
      ap (λ (b : Bool). further_if b p indexes) (allowed ∙ ap (λ (g : Function). allows s g id indexes) (sym here) ∙ ap (λ (n : ℕ). allows s f.function n indexes) at)
      ∙ ap (option_and_then (further s f i p)) (words ∙ ap (words_at s f) behind)
      ∙ ap chained_by (some ∙ ap (pointer_at s f) at)

-- what an id has where chains are forgotten
forgotten : (b : Bool) (o : Option state.Held) → (elim b as (λ _. Option state.Held) [ true ↦ None | false ↦ o ]) ≡ (if b then None else o)
forgotten true o = refl
forgotten false o = refl

-- what an id has behind the chain
one_id : (b t : Bool) (h : state.Held) (m o : Option state.Held) → m ≡ (elim b as (λ _. Option state.Held) [ true ↦ Some h | false ↦ o ]) → (if b then m else (if t then None else m)) ≡ (elim b as (λ _. Option state.Held) [ true ↦ Some h | false ↦ if t then None else o ])
one_id true t h m o is = is
one_id false t h m o is = ap (λ (m : Option state.Held). if t then None else m) is

-- the chain is set, and then ids have nothing
pub led_conf : (fs : List Function) (old mid : Conf) (i : Inst) (h : state.Held) (test : ℕ → Bool) (m : BTreeMap ℕ (Option Held)) → IsSet old i.result h mid → ((q : ℕ) → ids_of m q ≡ (if q == i.result then ids_of mid.top.ids q else without test (ids_of mid.top.ids) q))
    → conf_of fs (record mid { top = record mid.top { ids = m } }) ≡ led_without test (conf_of fs old) (behind fs old) i h
led_conf fs old mid i h test m set is =
    ap (λ (c : state.Conf). state.with_top c (record c.top { ids = ids_of m })) (set_conf fs old mid i h set)
    ∙ (λ j. state.with_top (conf_of fs old) (record (conf_of fs old).top { rest = behind fs old; ids = λ q. (is q ∙ one_id (q == i.result) (test q) h (ids_of mid.top.ids q) (ids_of old.top.ids q) (set.ids q)) j }))

module _ (s : Setting) (c : state.Conf) (rest : List Inst) (i : Inst) where
  abbrev led : state.Held → Act state.Conf
  led h = goes [] (led_without (is_based_on c.top.function i.result) c rest i h)

  by_type : (p : Target) (indexes : List ℕ) (o : Option ℕ) → with_some o (λ ty. lead_if (are_allowed s ty indexes) c rest i p indexes) ≡ with_some (further_if (option_map_or (λ (ty : ℕ). are_allowed s ty indexes) o false) p indexes) led
  by_type p indexes None = refl
  by_type p indexes (Some ty) = by_test (are_allowed s ty indexes)
    where
      by_test : (t : Bool) → lead_if t c rest i p indexes ≡ with_some (further_if t p indexes) led
      by_test true = ap (λ (ids : ℕ → Option state.Held). goes [] (state.with_top c (record c.top { rest = rest; ids = state.put ids i.result (state.pointer p.0 (p.1 ++ indexes)) }))) (λ j k. forgotten (is_based_on c.top.function i.result k) (c.top.ids k) j)
      by_test false = refl

  by_words : (p : Target) (o : Option (List ℕ)) → with_some o (λ indexes. with_some (pointee_of s.of.globals c.top.function (base i)) (λ ty. lead_if (are_allowed s ty indexes) c rest i p indexes)) ≡ with_some (option_and_then (further s c.top i p) o) led
  by_words p None = refl
  by_words p (Some indexes) = by_type p indexes (pointee_of s.of.globals c.top.function (base i))

  by_base : (o : Option Target) → with_some o (λ p. with_some (words_at s c.top (drop 1 i.args)) (λ indexes. with_some (pointee_of s.of.globals c.top.function (base i)) (λ ty. lead_if (are_allowed s ty indexes) c rest i p indexes)))
      ≡ with_some (option_and_then (λ (p : Target). option_and_then (further s c.top i p) (words_at s c.top (drop 1 i.args))) o) led
  by_base None = refl
  by_base (Some p) = by_words p (words_at s c.top (drop 1 i.args))

  chain_is : chain_step s c rest i ≡ with_some (chained s c.top i) led
  unfolding chain_step
  chain_is = by_base (pointer_at s c.top (base i))

  pub chain_goes : (h : state.Held) (test : ℕ → Bool) → ((id : ℕ) → test id ≡ is_based_on c.top.function i.result id) → Some h ≡ chained s c.top i → goes [] (led_without test c rest i h) ≡ narrowed (chain_step s c rest i)
  chain_goes h test same is =
      ap (λ (t : ℕ → Bool). goes [] (led_without t c rest i h)) (λ j id. same id j)
      ∙ ap (λ o. narrowed (with_some o led)) is
      ∙ sym (ap narrowed chain_is)

  pub chain_fails : None ≡ chained s c.top i → fails ≡ narrowed (chain_step s c rest i)
  chain_fails is = ap (λ o. narrowed (with_some o led)) is ∙ sym (ap narrowed chain_is)
