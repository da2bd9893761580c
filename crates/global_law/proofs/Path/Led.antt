-- Chains lead from where their bases lead as long as they lead anywhere: each change that an instruction makes keeps it.
use Rattle.std.proofs.Common.{◌≡◌, ◌≢◌, ◌⊎◌, ◌==◌, ◌+◌, ◌++◌, ℕ, suc, Bool, true, false, List, [], ◌∷◌, drop, length, map, cond, Option, Some, None, inl, inr, refl, sym, ap, ◌∙◌, subst, arith}
use Rattle.std.specs.Prelude.{is_some, option_map, take, take_while}
use Rattle.std.specs.Option.{option_map_or}
use Rattle.std.specs.List.{prefix_len}
use Rattle.std.proofs.lemmas.Bool.Decides.{eqb_tells}
use Rattle.spv_ops.specs.Groups.{is_constant}
use Rattle.spv_ops.specs.Opcode.{is, number}
use Rattle.spv_ops.specs.OpGroups.{group_of}
use Rattle.spv_ops.specs.declared.Op.{Op}
use Rattle.spv_ops.specs.declared.Op.TheVariants as code
use Rattle.spv_module.specs.Held.{global as global_inst}
use Rattle.spv_module.specs.declared.inst.Inst.{Inst}
use Rattle.spv_module.specs.declared.inst.Function.{Function}
use Rattle.spv_types.specs.Tree.{ValueTree, word}
use Rattle.spv_index.specs.Locals.{insts_of}
use Rattle.spv_index.specs.Pointers.{pointee_of}
use Rattle.profile_rules.specs.MemoryRules.{is_pointer, is_own_memory}
use Rattle.module_semantics.specs.Setting.{Setting, as_variable}
use Rattle.module_semantics.specs.Memory.{are_allowed}
use Rattle.module_semantics.specs.State.{Root, global, own, Held, value, pointer, Frame, put, with_variable}
use Rattle.module_semantics.specs.Operands.{of_module, as_pointer, pointer_at, as_value, as_word, word_at, words_at, Target, arg}
use Rattle.module_semantics.specs.Steps.{chain, variable, step_kind, base, is_based_on, without_based, phis, is_phi, with_phis, argument_of, passed, entered}
use Rattle.access_paths.specs.Ways.{is_constant_index}
use Rattle.list_law.proofs.Tests.{not_both}
use Rattle.list_law.proofs.Lists.{same_first, same_rest}
use Rattle.fits_law.proofs.Operations.{before_some}
use Rattle.type_law.proofs.Chains.{none_longer}
use Rattle.agree_law.specs.Agree.{IfPointer}
use Rattle.agree_law.specs.Blocks.{IsOf}
use Rattle.call_law.specs.Frames.{makes_pointer, IsClosed}
use Rattle.call_law.specs.Known.{IsFunctionOf, is_parameter, IsLending, LendsWhole}
use Rattle.call_law.proofs.CodeKept.{next_of, phi_of, function_found}
use Rattle.call_law.proofs.Lending.{if_pointer, of_pointer, none_given, lending_closed}
use Rattle.global_law.specs.Chains.{ChainsRise, ConstantsAre, IsLed, is_global, AreLed, ChainsAreRight}
use Rattle.global_law.proofs.Path.Based.{chain_op, one_chain, free_base, own_base}

-- a constant is no variable
constant_op : (o : Op) → is_constant o ≡ true → is o code.Variable ≡ false
unfolding number
constant_op code.Variable e = cc
constant_op code.Undef e = refl
constant_op code.ConstantTrue e = refl
constant_op code.ConstantFalse e = refl
constant_op code.Constant e = refl
constant_op code.ConstantComposite e = refl
constant_op code.ConstantNull e = refl
constant_op code.SpecConstantTrue e = refl
constant_op code.SpecConstantFalse e = refl
constant_op code.SpecConstant e = refl
constant_op code.SpecConstantComposite e = refl
constant_op code.SpecConstantOp e = refl
constant_op o e = cc

-- a phi has a value
phi_kind : (o : Op) → is o code.Phi ≡ true → makes_pointer (step_kind o) ≡ false
unfolding number step_kind group_of
phi_kind code.Phi e = refl
phi_kind o e = cc

in_while : (xs : List Inst) (i : Inst) → IsOf i (take_while is_phi xs) → is_phi i ≡ true
in_while [] i at = absurd at
in_while (x ∷ xs) i at = by_test (is_phi x) refl at (λ later. in_while xs i later)
  where
    count : ℕ
    count = prefix_len is_phi xs

    by_test : (t : Bool) → is_phi x ≡ t → IsOf i (take (cond t (1 + count) 0) (x ∷ xs)) → (IsOf i (take count xs) → is_phi i ≡ true) → is_phi i ≡ true
    by_test true on at later = elim (subst (λ n. IsOf i (take n (x ∷ xs))) (let one : 1 + count ≡ suc count = omega arith in one) at) [ inl same ↦ ap is_phi (sym same) ∙ on | inr there ↦ later there ]
    by_test false off at later = absurd at

-- what a frame with one more entry has
put_there : (f : ℕ → Option Held) (n : ℕ) (h : Held) (k : ℕ) → k ≡ n → put f n h k ≡ Some h
put_there f n h k same = by_test (k == n) (eqb_tells k n)
  where
    by_test : (t : Bool) → ((t ≡ true) × (k ≡ n)) ⊎ ((t ≡ false) × (k ≡ n → ⊥)) → elim t as (λ t. Option Held) [ true ↦ Some h | false ↦ f k ] ≡ Some h
    by_test true w = refl
    by_test false (inl w) = cc
    by_test false (inr w) = absurd (w.1 same)

put_off : (f : ℕ → Option Held) (n : ℕ) (h : Held) (k : ℕ) → k ≢ n → put f n h k ≡ f k
put_off f n h k differ = by_test (k == n) (eqb_tells k n)
  where
    by_test : (t : Bool) → ((t ≡ true) × (k ≡ n)) ⊎ ((t ≡ false) × (k ≡ n → ⊥)) → elim t as (λ t. Option Held) [ true ↦ Some h | false ↦ f k ] ≡ f k
    by_test true (inl w) = absurd (differ w.1)
    by_test true (inr w) = cc
    by_test false w = refl

module _ (s : Setting) where
  -- a constant of the module is its value, where a call has none of its own
  constant_there : (f : Frame) (n i : ℕ) → is_constant_index s.of.globals n ≡ true → f.ids n ≡ None → word_at s f n ≡ Some i → s.constants n ≡ Some (word i)
  constant_there f n i on none e = by_value (s.constants n) refl (sym held_is ∙ e)
    where
      by_global : (o : Option Inst) → option_map_or (λ (g : Inst). is_constant g.op) o false ≡ true → elim o as (λ o. Option Inst) [ None ↦ None | Some g ↦ as_variable g ] ≡ None
      by_global None h = cc
      by_global (Some g) h = ap (λ t. elim t as (λ t. Option Inst) [ true ↦ Some g | false ↦ None ]) (constant_op g.op h)

      held_is : word_at s f n ≡ as_word (as_value (option_map value (s.constants n)))
      held_is =
          ap (λ o. as_word (as_value (elim o as (λ o. Option Held) [ Some h ↦ Some h | None ↦ of_module s n ]))) none
          ∙ ap (λ o. as_word (as_value (elim o as (λ o. Option Held) [ Some v ↦ Some (pointer (global n) []) | None ↦ option_map value (s.constants n) ]))) (by_global (global_inst s.of.globals n) on)

      by_tree : (v : ValueTree) → as_word (Some v) ≡ Some i → Some v ≡ Some (word i)
      by_tree (word w) e = let same : w ≡ i = cc in ap (λ a. Some (word a)) same
      by_tree v e = cc

      by_value : (o : Option ValueTree) → s.constants n ≡ o → as_word (as_value (option_map value o)) ≡ Some i → s.constants n ≡ Some (word i)
      by_value None is e = cc
      by_value (Some v) is e = is ∙ by_tree v e

  constant_global : (n : ℕ) → is_constant_index s.of.globals n ≡ true → is_global s.of.globals n ≡ true
  constant_global n on = by_global (global_inst s.of.globals n) on
    where
      by_global : (o : Option Inst) → option_map_or (λ (g : Inst). is_constant g.op) o false ≡ true → is_some o ≡ true
      by_global None e = cc
      by_global (Some g) e = refl

  constants_there : (f : Frame) (ns is : List ℕ) → ((n : ℕ) → is_global s.of.globals n ≡ true → f.ids n ≡ None) → words_at s f ns ≡ Some is → ConstantsAre s ns is
  constants_there f [] [] mine e = tt
  constants_there f [] (i ∷ is) mine e = cc
  constants_there f (n ∷ ns) [] mine e = let b = before_some (word_at s f n) (words_at s f ns) [] e in absurd (none_longer b.0 b.1 b.4)
  constants_there f (n ∷ ns) (i ∷ is) mine e =
      let b = before_some (word_at s f n) (words_at s f ns) (i ∷ is) e in
      ((λ on. constant_there f n i on (mine n (constant_global n on)) (b.2 ∙ ap (λ a. Some a) (sym (same_first i b.0 is b.1 b.4)))), constants_there f ns is mine (b.3 ∙ ap (λ a. Some a) (sym (same_rest i b.0 is b.1 b.4))))

  -- a frame that has of an id what another has
  pointer_same : (f g : Frame) (n : ℕ) → g.ids n ≡ f.ids n → pointer_at s g n ≡ pointer_at s f n
  pointer_same f g n same = ap (λ o. as_pointer (elim o as (λ o. Option Held) [ Some h ↦ Some h | None ↦ of_module s n ])) same

  led_same : (f g : Frame) (i : Inst) (r : Root) (at : List ℕ) → g.function ≡ f.function → g.ids (base i) ≡ f.ids (base i) → IsLed s f i r at → IsLed s g i r at
  led_same f g i r at function same l = record {
    from = l.from;
    indexes = l.indexes;
    base_is = pointer_same f g (base i) same ∙ l.base_is;
    whole = l.whole;
    type = l.type;
    points_to = ap (λ e. pointee_of s.of.globals e (base i)) function ∙ l.points_to;
    allowed = l.allowed;
    constants = l.constants;
  }

  module _ (whole : LendsWhole s) (right : ChainsAreRight s) where
    abbrev Chains : Frame → Type 0
    Chains f = (q : Inst) → IsOf q (insts_of f.function) → step_kind q.op ≡ chain → IfPointer (f.ids q.result) (IsLed s f q)

    -- where the ids of a frame are those of another, or lead nowhere, chain by chain
    still : (f g : Frame) → g.function ≡ f.function → ((q : Inst) → IsOf q (insts_of f.function) → step_kind q.op ≡ chain → (r : Root) (at : List ℕ) → g.ids q.result ≡ Some (pointer r at) → (f.ids q.result ≡ Some (pointer r at)) × (g.ids (base q) ≡ f.ids (base q))) → Chains f → Chains g
    still f g function kept all q is kind = if_pointer (IsLed s g q) (g.ids q.result) (λ r at has.
        let there : IsOf q (insts_of f.function) = subst (λ e. IsOf q (insts_of e)) function is in
        let k = kept q there kind r at has in
        led_same f g q r at function k.1 (of_pointer (IsLed s f q) (f.ids q.result) r at k.0 (all q there kind)))

    value_not : (v : ValueTree) (r : Root) (at : List ℕ) → Some (value v) ≡ Some (pointer r at) → ⊥
    value_not v r at e = cc

    -- one id gets a value, which is none to which a chain is based
    gets_value : (f : Frame) (ids : ℕ → Option Held) (n : ℕ) (v : ValueTree) (q : Inst) → base q ≢ n → (r : Root) (at : List ℕ) → put ids n (value v) q.result ≡ Some (pointer r at) → (ids q.result ≡ Some (pointer r at)) × (put ids n (value v) (base q) ≡ ids (base q))
    gets_value f ids n v q differ r at has = (by_test (q.result == n) (eqb_tells q.result n) has, put_off ids n (value v) (base q) differ)
      where
        by_test : (t : Bool) → ((t ≡ true) × (q.result ≡ n)) ⊎ ((t ≡ false) × (q.result ≡ n → ⊥)) → elim t as (λ t. Option Held) [ true ↦ Some (value v) | false ↦ ids q.result ] ≡ Some (pointer r at) → ids q.result ≡ Some (pointer r at)
        by_test true w e = absurd (value_not v r at e)
        by_test false w e = e

    -- what makes no pointer makes no base
    no_base : (f : Function) → IsFunctionOf f s.of.functions → (i q : Inst) → IsOf i (insts_of f) → makes_pointer (step_kind i.op) ≡ false → IsOf q (insts_of f) → step_kind q.op ≡ chain → base q ≢ i.result
    no_base f in_module i q is off there kind same = not_both (is_pointer s.of.globals f i.result) (ap (is_pointer s.of.globals f) (sym same) ∙ right.bases f in_module q there kind) (right.values f in_module i is off)

    own_put : (f : Frame) (ids : ℕ → Option Held) (i : Inst) (h : Held) → IsFunctionOf f.function s.of.functions → IsOf i (insts_of f.function) → ((n : ℕ) → is_global s.of.globals n ≡ true → ids n ≡ None) → (n : ℕ) → is_global s.of.globals n ≡ true → put ids i.result h n ≡ None
    own_put f ids i h in_module is mine n on =
        put_off ids i.result h n (λ same. not_both (is_global s.of.globals i.result) (ap (is_global s.of.globals) (sym same) ∙ on) (right.results f.function in_module i is)) ∙ mine n on

    own_without : (f : Frame) (k : ℕ) → ((n : ℕ) → is_global s.of.globals n ≡ true → f.ids n ≡ None) → (n : ℕ) → is_global s.of.globals n ≡ true → without_based f.function k f.ids n ≡ None
    own_without f k mine n on = by_test (is_based_on f.function k n)
      where
        by_test : (t : Bool) → elim t as (λ t. Option Held) [ true ↦ None | false ↦ f.ids n ] ≡ None
        by_test true = refl
        by_test false = mine n on

    -- the chain that is set leads further than its base
    leads_on : (ds : List (Frame × ℕ)) (f : Frame) (i : Inst) (rest : List Inst) (p : Target) (indexes : List ℕ) (ty : ℕ) → f.rest ≡ i ∷ rest → step_kind i.op ≡ chain → pointer_at s f (base i) ≡ Some p → words_at s f (drop 1 i.args) ≡ Some indexes → pointee_of s.of.globals f.function (base i) ≡ Some ty → are_allowed s ty indexes ≡ true
        → AreLed s ds f → Chains (record f { rest = rest; ids = put (without_based f.function i.result f.ids) i.result (pointer p.0 (p.1 ++ indexes)) })
    leads_on ds f i rest p indexes ty next kind is have points allowed at q there chained = by_test (q.result == i.result) (eqb_tells q.result i.result)
      where
        ids : ℕ → Option Held
        ids = put (without_based f.function i.result f.ids) i.result (pointer p.0 (p.1 ++ indexes))

        g : Frame
        g = record f { rest = rest; ids = ids }

        rise : ChainsRise (insts_of f.function)
        rise = right.rise f.function at.lending.code.of_module

        of_i : IsOf i (insts_of f.function)
        of_i = next_of s f i rest next at.lending.code

        unbased : (k : ℕ) → k ≢ i.result → is_based_on f.function i.result k ≡ false → ids k ≡ f.ids k
        unbased k differ off = put_off (without_based f.function i.result f.ids) i.result (pointer p.0 (p.1 ++ indexes)) k differ ∙ ap (λ t. elim t as (λ t. Option Held) [ true ↦ None | false ↦ f.ids k ]) off

        now : IsLed s g i p.0 (p.1 ++ indexes)
        now =
            let free = own_base f.function i rise of_i (chain_op i.op kind) in
            record {
              from = p.1;
              indexes = indexes;
              base_is = pointer_same f g (base i) (unbased (base i) free.0 free.1) ∙ is;
              whole = refl;
              type = ty;
              points_to = points;
              allowed = allowed;
              constants = constants_there f (drop 1 i.args) indexes at.own have;
            }

        by_based : (t : Bool) → is_based_on f.function i.result q.result ≡ t → q.result ≢ i.result → IfPointer (ids q.result) (IsLed s g q)
        by_based true on differ =
            subst (λ o. IfPointer o (IsLed s g q)) (sym (put_off (without_based f.function i.result f.ids) i.result (pointer p.0 (p.1 ++ indexes)) q.result differ ∙ ap (λ t. elim t as (λ t. Option Held) [ true ↦ None | false ↦ f.ids q.result ]) on)) tt
        by_based false off differ = if_pointer (IsLed s g q) (ids q.result) (λ r way has.
            let free = free_base f.function i.result q rise there (chain_op q.op chained) off in
            led_same f g q r way refl (unbased (base q) free.0 free.1) (of_pointer (IsLed s f q) (f.ids q.result) r way (sym (unbased q.result differ off) ∙ has) (at.chains q there chained)))

        by_test : (t : Bool) → ((t ≡ true) × (q.result ≡ i.result)) ⊎ ((t ≡ false) × (q.result ≡ i.result → ⊥)) → IfPointer (ids q.result) (IsLed s g q)
        by_test t (inl w) =
            let same : i ≡ q = one_chain (insts_of f.function) i q rise of_i there (chain_op i.op kind) (chain_op q.op chained) (sym w.1) in
            subst (λ q. IfPointer (ids q.result) (IsLed s g q)) same (subst (λ o. IfPointer o (IsLed s g i)) (sym (put_there (without_based f.function i.result f.ids) i.result (pointer p.0 (p.1 ++ indexes)) i.result refl)) now)
        by_test t (inr w) = by_based (is_based_on f.function i.result q.result) refl w.1

    -- the id of a variable leads to the variable, as it did before where it led anywhere
    target_parts : (r q : Root) (a b : List ℕ) → as_pointer (Some (pointer r a)) ≡ Some (q, b) → (r ≡ q) × (a ≡ b)
    target_parts r q a b e =
        let left : Target = (r, a) in
        let second : Target = (q, b) in
        let same : left ≡ second = cc in
        (ap (λ (x : Target). x.0) same, ap (λ (x : Target). x.1) same)

    pub variable_was : (ds : List (Frame × ℕ)) (f : Frame) (n : ℕ) (r : Root) (from : List ℕ) → AreLed s ds f → is_own_memory f.function n ≡ true → is_parameter f.function n ≡ false → pointer_at s f n ≡ Some (r, from) → (r ≡ own n) × (from ≡ [])
    variable_was ds f n r from at on off is = by_id (f.ids n) refl is
      where
        none_value : (o : Option ValueTree) → as_pointer (option_map value o) ≡ Some (r, from) → ⊥
        none_value None e = cc
        none_value (Some v) e = cc

        by_id : (o : Option Held) → f.ids n ≡ o → as_pointer (elim o as (λ o. Option Held) [ Some h ↦ Some h | None ↦ of_module s n ]) ≡ Some (r, from) → (r ≡ own n) × (from ≡ [])
        by_id None none e = absurd (none_value (s.constants n) (sym (ap (λ o. as_pointer (elim o as (λ o. Option Held) [ Some v ↦ Some (pointer (global n) []) | None ↦ option_map value (s.constants n) ])) (whole.own f.function at.lending.code.of_module n on)) ∙ e))
        by_id (Some (value v)) there e = cc
        by_id (Some (pointer q b)) there e =
            let parts = target_parts q r b from e in
            let old = of_pointer (λ r path. (r ≡ own n) × (path ≡ [])) (f.ids n) q b there (at.lending.variables n on off) in
            (sym parts.0 ∙ old.0, sym parts.1 ∙ old.1)

    declares_on : (ds : List (Frame × ℕ)) (f : Frame) (i : Inst) (rest : List Inst) → f.rest ≡ i ∷ rest → step_kind i.op ≡ variable → AreLed s ds f → Chains (record f { rest = rest; ids = put f.ids i.result (pointer (own i.result) []) })
    declares_on ds f i rest next kind at q there chained = if_pointer (IsLed s g q) (ids q.result) (λ r way has.
        led r way (of_pointer (IsLed s f q) (f.ids q.result) r way (sym (put_off f.ids i.result (pointer (own i.result) []) q.result (right.apart f.function at.lending.code.of_module i q of_i there kind chained)) ∙ has) (at.chains q there chained)))
      where
        ids : ℕ → Option Held
        ids = put f.ids i.result (pointer (own i.result) [])

        g : Frame
        g = record f { rest = rest; ids = ids }

        of_i : IsOf i (insts_of f.function)
        of_i = next_of s f i rest next at.lending.code

        by_test : (t : Bool) → ((t ≡ true) × (base q ≡ i.result)) ⊎ ((t ≡ false) × (base q ≡ i.result → ⊥)) → (r : Root) (way : List ℕ) → IsLed s f q r way → IsLed s g q r way
        by_test t (inr w) r way l = led_same f g q r way refl (put_off f.ids i.result (pointer (own i.result) []) (base q) w.1) l
        by_test t (inl w) r way l =
            let was = variable_was ds f i.result r l.from at (right.memory f.function at.lending.code.of_module i of_i kind) (whole.results f.function at.lending.code.of_module i of_i) (ap (pointer_at s f) (sym w.1) ∙ l.base_is) in
            record {
              from = l.from;
              indexes = l.indexes;
              base_is = ap (λ o. as_pointer (elim o as (λ o. Option Held) [ Some h ↦ Some h | None ↦ of_module s (base q) ])) (put_there f.ids i.result (pointer (own i.result) []) (base q) w.1) ∙ ap (λ a. as_pointer (Some (pointer a []))) (sym was.0) ∙ ap (λ b. as_pointer (Some (pointer r b))) (sym was.1);
              whole = l.whole;
              type = l.type;
              points_to = l.points_to;
              allowed = l.allowed;
              constants = l.constants;
            }

        led : (r : Root) (way : List ℕ) → IsLed s f q r way → IsLed s g q r way
        led r way l = by_test (base q == i.result) (eqb_tells (base q) i.result) r way l

    -- a call begins with nothing but its parameters
    called_own : (g : Function) (hs : List Held) → IsFunctionOf g s.of.functions → (n : ℕ) → is_global s.of.globals n ≡ true → argument_of g.params hs n ≡ None
    called_own g hs in_module n on = by_test (is_parameter g n) refl
      where
        by_test : (t : Bool) → is_parameter g n ≡ t → argument_of g.params hs n ≡ None
        by_test true is = absurd (not_both (is_global s.of.globals n) on (right.parameters g in_module n is))
        by_test false off = none_given g.params hs n off

    pub called_led : (ds : List (Frame × ℕ)) (g : Function) (hs : List Held) → IsFunctionOf g s.of.functions → IsLending s ds (entered s g hs) → AreLed s ds (entered s g hs)
    unfolding entered
    called_led ds g hs in_module lending = record {
      lending = lending;
      own = called_own g hs in_module;
      chains = λ q there kind. subst (λ o. IfPointer o (IsLed s (entered s g hs) q)) (sym (none_given g.params hs q.result (whole.results g in_module q there))) tt;
    }

    -- phis get values
    phis_kept : (f : Frame) (is : List Inst) (vs : List ValueTree) → IsFunctionOf f.function s.of.functions → ((i : Inst) → IsOf i is → IsOf i (insts_of f.function) × (makes_pointer (step_kind i.op) ≡ false)) → (q : Inst) → IsOf q (insts_of f.function) → step_kind q.op ≡ chain → (r : Root) (at : List ℕ) → with_phis is vs f.ids q.result ≡ Some (pointer r at) → (f.ids q.result ≡ Some (pointer r at)) × (with_phis is vs f.ids (base q) ≡ f.ids (base q))
    phis_kept f [] vs in_module all q there kind r at has = (has, refl)
    phis_kept f (i ∷ is) [] in_module all q there kind r at has = (has, refl)
    phis_kept f (i ∷ is) (v ∷ vs) in_module all q there kind r at has =
        let phi = all i (inl refl) in
        let g = gets_value f (with_phis is vs f.ids) i.result v q (no_base f.function in_module i q phi.0 phi.1 there kind) r at has in
        let later = phis_kept f is vs in_module (λ j at. all j (inr at)) q there kind r at g.0 in
        (later.0, g.1 ∙ later.1)

    phis_own : (f : Frame) (is : List Inst) (vs : List ValueTree) → IsFunctionOf f.function s.of.functions → ((i : Inst) → IsOf i is → IsOf i (insts_of f.function) × (makes_pointer (step_kind i.op) ≡ false)) → ((n : ℕ) → is_global s.of.globals n ≡ true → f.ids n ≡ None) → (n : ℕ) → is_global s.of.globals n ≡ true → with_phis is vs f.ids n ≡ None
    phis_own f [] vs in_module all mine n on = mine n on
    phis_own f (i ∷ is) [] in_module all mine n on = mine n on
    phis_own f (i ∷ is) (v ∷ vs) in_module all mine n on = own_put f (with_phis is vs f.ids) i (value v) in_module (all i (inl refl)).0 (phis_own f is vs in_module (λ j at. all j (inr at)) mine) n on

    -- So it is with all calls under way, step by step.
    pub led_closed : IsClosed (AreLed s) s
    led_closed = record {
      passes = λ ds f i rest next at. record {
        lending = lending.passes ds f i rest next at.lending;
        own = at.own;
        chains = still f (record f { rest = rest }) refl (λ q is kind r way has. (has, refl)) at.chains;
      };
      gets = λ ds f i rest v next kind at. record {
        lending = lending.gets ds f i rest v next kind at.lending;
        own = own_put f f.ids i (value v) at.lending.code.of_module (next_of s f i rest next at.lending.code) at.own;
        chains = still f (record f { rest = rest; ids = put f.ids i.result (value v) }) refl
            (λ q is chained r way has. gets_value f f.ids i.result v q (no_base f.function at.lending.code.of_module i q (next_of s f i rest next at.lending.code) kind is chained) r way has) at.chains;
      };
      leads = λ ds f i rest p indexes ty next kind is have points allowed at. record {
        lending = lending.leads ds f i rest p indexes ty next kind is have points allowed at.lending;
        own = own_put f (without_based f.function i.result f.ids) i (pointer p.0 (p.1 ++ indexes)) at.lending.code.of_module (next_of s f i rest next at.lending.code) (own_without f i.result at.own);
        chains = leads_on ds f i rest p indexes ty next kind is have points allowed at;
      };
      declares = λ ds f i rest v next kind has at. record {
        lending = lending.declares ds f i rest v next kind has at.lending;
        own = own_put f f.ids i (pointer (own i.result) []) at.lending.code.of_module (next_of s f i rest next at.lending.code) at.own;
        chains = declares_on ds f i rest next kind at;
      };
      stores = λ ds f n v at. record {
        lending = lending.stores ds f n v at.lending;
        own = at.own;
        chains = still f (with_variable n v f) refl (λ q is kind r way has. (has, refl)) at.chains;
      };
      lends = λ ds f depth n v g is at. record { lending = lending.lends ds f depth n v g is at.lending; own = at.own; chains = at.chains };
      calls = λ ds f i rest g hs next kind is have at.
          called_led ((record f { rest = rest }, i.result) ∷ ds) g (map (passed (length ds)) hs) (function_found s.of.functions (arg i 0) g is) (lending.calls ds f i rest g hs next kind is have at.lending);
      goes_to = λ ds f i rest o label t b values next kind leads to is have at.
          let all : (i : Inst) → IsOf i (phis b) → IsOf i (insts_of f.function) × (makes_pointer (step_kind i.op) ≡ false)
          = λ i at. (phi_of f.function.blocks t b is i at, phi_kind i.op (in_while b.insts i at)) in
          record {
            lending = lending.goes_to ds f i rest o label t b values next kind leads to is have at.lending;
            own = phis_own f (phis b) values at.lending.code.of_module all at.own;
            chains = still f _ refl (λ q there kind r way has. phis_kept f (phis b) values at.lending.code.of_module all q there kind r way has) at.chains;
          };
    }
      where
        lending : IsClosed (IsLending s) s
        lending = lending_closed s whole
