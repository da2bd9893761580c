-- The values of constants, one constant after the other.
use Rattle.std.proofs.Common.{◌≡◌, ◌<◌, ◌≤◌, ◌+◌, ◌==◌, ℕ, Bool, true, false, cond, List, [], ◌∷◌, ◌++◌, refl, ap, sym, ◌∙◌, arith, add-one, append_assoc, take, drop, get_or, length, map}
use Rattle.std.specs.Prelude.{Option, Some, None, option_map, option_and_then, fold, slice_get, slice_index}
use Rattle.std.specs.Option.{option_map_or, option_copied}
use Rattle.std.specs.Borrow.{Bor}
use Rattle.std.specs.List.{Any, find, position_or_len}
use Rattle.std.specs.BTreeMap.{BTreeMap, is_at, get}
use Rattle.std.specs.Ordering.{nat_cmp}
use Rattle.std.proofs.Math.Seq.{drop-cons}
use Rattle.std.proofs.lemmas.List.Sums.{fold_more}
use Rattle.std.proofs.lemmas.List.Folds.{find_at}
use Rattle.std.proofs.lemmas.List.{take_all, map_push, get_or-map}
use Rattle.std.proofs.lemmas.Option.{slice_get_within, get_or_from_slice_get}
use Rattle.list_law.proofs.Numbers.{order_at}
use Rattle.spv_words.specs.Limit.{limit_number}
use Rattle.spv_words.specs.declared.rule.Fault.{Fault}
use Rattle.spv_words.specs.declared.rule.Fault.TheVariants.{Refused, Limit, Memory}
use Rattle.spv_words.specs.declared.rule.Limit as the_limit
use Rattle.spv_words.specs.declared.rule.Limit.TheVariants.{Bytes, Bound, Depth, Types, Parts, Calls, Leaves}
use Rattle.spv_module.specs.Held.{global}
use Rattle.spv_module.specs.State.{ModuleState}
use Rattle.spv_module.specs.declared.inst.Inst.{Inst}
use Rattle.spv_module.specs.declared.tree.Value.{Value}
use Rattle.spv_types.specs.Tree.{ValueTree}
use Rattle.spv_types.specs.View.{value_of}
use Rattle.spv_types.specs.Types.{depth_at, parts_at, IsAbove, IsRight, type_tree}
use Rattle.spv_types.specs.Limits.{IsPassed, IsPassedBy}
use Rattle.profile_rules.specs.declared.given.Given.{Given}
use Rattle.profile_rules.specs.Constants.{with_value, value_step, shaped_value, constant_value, constants, given_to}
use Rattle.profile_rules.specs.TypeRules.{is_sound}
use Rattle.spec_constants.specs.Fit.{IsCause as IsFitCause}
use Rattle.spec_constants.specs.Counted.{IsOver}
use Rattle.op_semantics.specs.Component.{before, each_one}
use Rattle.value_ops.specs.References.{referred}
use Rattle.constant_values.specs.Held.{value_in, put_value, chosen_by}
use Rattle.constant_values.specs.Refused.{IsCause}

pub copied_value : (o : Option (Bor Value)) → option_map (λ (v : Bor Value). value_of v.now) o ≡ option_map value_of (option_copied o)
copied_value None = refl
copied_value (Some v) = refl

pub put_none : (f : ℕ → Option ValueTree) (id q : ℕ) (o : Option ValueTree) → o ≡ None → f q ≡ put_value f id o q
put_none f id q o none =
    sym (ap (λ x. put_value f id x q) none
    ∙ (elim (id == q) as (λ b. (elim b as (λ x. Option ValueTree) [ true ↦ f q | false ↦ f q ]) ≡ f q) [ true ↦ refl | false ↦ refl ]))

pub put_some : (old new : BTreeMap ℕ Value) (id q : ℕ) (v : Value) → get nat_cmp new q ≡ cond (is_at (nat_cmp id) q) (Some v) (get nat_cmp old q) → value_in new q ≡ put_value (value_in old) id (Some (value_of v)) q
put_some old new id q v set =
    ap (option_map value_of) set
    ∙ ap (λ b. option_map value_of (cond b (Some v) (get nat_cmp old q))) (order_at id q)
    ∙ (elim (id == q) as (λ b. option_map value_of (cond b (Some v) (get nat_cmp old q)) ≡ (elim b as (λ x. Option ValueTree) [ true ↦ Some (value_of v) | false ↦ value_in old q ])) [ true ↦ refl | false ↦ refl ])

each_at : (f : ℕ → Option ValueTree) (ids : List ℕ) (i : ℕ) → i < length ids → each_one f (drop i ids) ≡ before (f (slice_index ids i)) (each_one f (drop (i + 1) ids))
each_at f ids i inside = ap (each_one f) (drop-cons ids i 0 inside) ∙ ap (λ n. before (f (slice_index ids i)) (each_one f (drop n ids))) (sym (add-one i))

-- values are found up to one that there is none of
pub found_none : (f : ℕ → Option ValueTree) (ids : List ℕ) (i : ℕ) (vs : List ValueTree) → i < length ids → None ≡ f (slice_index ids i) → option_map (λ (rest : List ValueTree). vs ++ rest) (each_one f (drop i ids)) ≡ each_one f ids → None ≡ each_one f ids
found_none f ids i vs inside none whole =
    sym (ap (option_map (λ (rest : List ValueTree). vs ++ rest)) (each_at f ids i inside ∙ ap (λ o. before o (each_one f (drop (i + 1) ids))) (sym none))) ∙ whole

pushed_before : (vs : List ValueTree) (v : ValueTree) (rest : Option (List ValueTree)) → option_map (λ (l : List ValueTree). (vs ++ v ∷ []) ++ l) rest ≡ option_map (λ (l : List ValueTree). vs ++ l) (before (Some v) rest)
pushed_before vs v None = refl
pushed_before vs v (Some l) = ap Some (append_assoc vs (v ∷ []) l)

-- the values that are found, with one more
pub found_more : (f : ℕ → Option ValueTree) (ids : List ℕ) (i : ℕ) (rs : List (Bor Value)) (r : Bor Value) → i < length ids → Some (value_of r.now) ≡ f (slice_index ids i) → option_map (λ (rest : List ValueTree). referred rs ++ rest) (each_one f (drop i ids)) ≡ each_one f ids → option_map (λ (rest : List ValueTree). referred (rs ++ r ∷ []) ++ rest) (each_one f (drop (i + 1) ids)) ≡ each_one f ids
found_more f ids i rs r inside some whole =
    ap (λ vs. option_map (λ (rest : List ValueTree). vs ++ rest) (each_one f (drop (i + 1) ids))) (map_push (λ (x : Bor Value). value_of x.now) rs r)
    ∙ pushed_before (referred rs) (value_of r.now) (each_one f (drop (i + 1) ids))
    ∙ ap (λ o. option_map (λ (rest : List ValueTree). referred rs ++ rest) (before o (each_one f (drop (i + 1) ids)))) some
    ∙ ap (option_map (λ (rest : List ValueTree). referred rs ++ rest)) (sym (each_at f ids i inside))
    ∙ whole

module _ (m : ModuleState) (chosen : ℕ → Option ℕ) where
  abbrev pub so_far : ℕ → ℕ → Option ValueTree
  so_far i = fold (with_value (value_step m chosen)) (λ id. None) (take i m.globals)

  next_value : (i q : ℕ) (g : Inst) → i < length m.globals → g ≡ get_or m.globals i g → so_far (i + 1) q ≡ with_value (value_step m chosen) (so_far i) g q
  next_value i q g inside is =
      ap (λ f. f q) (fold_more (with_value (value_step m chosen)) (λ id. None) m.globals i g inside)
      ∙ ap (λ x. with_value (value_step m chosen) (so_far i) x q) (sym is)

  abbrev value_of_sound : (ℕ → Option ValueTree) → Option ℕ → Inst → Bool → Option ValueTree
  value_of_sound f word g sound = cond sound (option_and_then (shaped_value f word g) (type_tree m.globals g.ty)) None

  -- whether an instruction is sound, by its place
  pub sound_at : (marks : List Bool) (i : ℕ) (g : Inst) → marks ≡ map (is_sound m) m.globals → i < length m.globals → g ≡ get_or m.globals i g → get_or marks i false ≡ is_sound m g
  sound_at marks i g are inside is = ap (λ l. get_or l i false) are ∙ get_or-map (is_sound m) m.globals i g false inside ∙ ap (is_sound m) (sym is)

  -- the values so far, with that of one more constant
  pub value_next : (i q : ℕ) (g : Inst) (word : Option ℕ) (sound : Bool) (old new : ℕ → Option ValueTree) (o : Option ValueTree) → i < length m.globals → g ≡ get_or m.globals i g
      → ((x : ℕ) → old x ≡ so_far i x)
      → word ≡ chosen g.result
      → sound ≡ is_sound m g
      → o ≡ value_of_sound old word g sound
      → new q ≡ put_value old g.result o q
      → new q ≡ so_far (i + 1) q
  value_next i q g word sound old new o inside is known given judged value set =
      let same : old ≡ so_far i = λ j x. known x j in
      set
      ∙ ap (λ v. put_value old g.result v q) (value ∙ (ap (λ w. value_of_sound old w g sound) given ∙ ap (value_of_sound old (chosen g.result) g) judged))
      ∙ ap (λ f. put_value f g.result (value_step m chosen f g) q) same
      ∙ sym (next_value i q g inside is)

  pub all_values : (i q : ℕ) → length m.globals ≤ i → so_far i q ≡ constant_value m chosen q
  all_values i q past = ap (λ l. fold (with_value (value_step m chosen)) (λ id. None) l q) (take_all i m.globals past)

-- the overrides may be looked up in a map
pub resolved : (m : ModuleState) (pairs : List (ℕ × Given)) (heads : List Inst) (given : ℕ → Option Given) (special : ℕ → Option ℕ) (id : ℕ) → heads ≡ m.heads → ((s : ℕ) → given s ≡ given_to pairs s) → constant_value m (chosen_by heads given special) id ≡ constants m pairs special id
resolved m pairs heads given special id is same =
    ap (λ h. constant_value m (chosen_by h given special) id) is
    ∙ ap (λ g. constant_value m (chosen_by m.heads g special) id) (let all : given ≡ given_to pairs = λ j s. same s j in all)

found_any : (p : Inst → Bool) (P : Inst → Type 0) (gs : List Inst) (g : Inst) → find p gs ≡ Some g → P g → Any P gs
found_any p P gs g found holds =
    let here : slice_get gs (position_or_len p gs) ≡ Some g = sym (find_at p gs) ∙ found in
    (position_or_len p gs, g, slice_get_within gs (position_or_len p gs) g here, get_or_from_slice_get gs (position_or_len p gs) g g here, holds)

none_above : (l : the_limit.Limit) → IsAbove (limit_number Types) (limit_number Parts) 0 0 l → ⊥
none_above Bytes h = h
none_above Bound h = h
none_above Depth h = h
none_above Types h = omega arith
none_above Parts h = omega arith
none_above Calls h = h
none_above Leaves h = h

limit_passes : (gs : List Inst) (l : the_limit.Limit) (id : ℕ) (o : Option Inst) → global gs id ≡ o → IsAbove (limit_number Types) (limit_number Parts) (option_map_or (depth_at gs) o 0) (option_map_or (parts_at gs) o 0) l → IsPassed gs l
limit_passes gs l id None found above = absurd (none_above l above)
limit_passes gs l id (Some g) found above = found_any (λ (x : Inst). x.result == id) (λ (x : Inst). IsAbove (limit_number Types) (limit_number Parts) (depth_at gs x) (parts_at gs x) l) gs g found above

-- a limit that is passed by the type with an id is passed by a type
pub type_passes : (gs : List Inst) (id : ℕ) (fault : Fault) → IsRight gs id fault → IsPassedBy gs fault
type_passes gs id (Refused r) h = h
type_passes gs id (Limit l) h = limit_passes gs l id (global gs id) refl h
type_passes gs id Memory h = tt

-- each refusal has its cause
pub fit_cause : (m : ModuleState) (pairs : List (ℕ × Given)) (fault : Fault) → IsFitCause m pairs fault → IsCause m pairs fault
fit_cause m pairs (Refused r) h = h
fit_cause m pairs (Limit l) h = absurd h
fit_cause m pairs Memory h = tt

no_leaves : (gs : List Inst) → IsPassed gs Leaves → ⊥
no_leaves gs h = h.4

pub type_cause : (m : ModuleState) (pairs : List (ℕ × Given)) (fault : Fault) → IsPassedBy m.globals fault → IsCause m pairs fault
type_cause m pairs (Refused r) h = absurd h
type_cause m pairs (Limit Bytes) h = h
type_cause m pairs (Limit Bound) h = h
type_cause m pairs (Limit Depth) h = h
type_cause m pairs (Limit Types) h = h
type_cause m pairs (Limit Parts) h = h
type_cause m pairs (Limit Calls) h = h
type_cause m pairs (Limit Leaves) h = absurd (no_leaves m.globals h)
type_cause m pairs Memory h = tt

pub leaves_cause : (m : ModuleState) (pairs : List (ℕ × Given)) (fault : Fault) → IsOver m fault → IsCause m pairs fault
leaves_cause m pairs (Refused r) h = absurd h
leaves_cause m pairs (Limit Bytes) h = absurd h
leaves_cause m pairs (Limit Bound) h = absurd h
leaves_cause m pairs (Limit Depth) h = absurd h
leaves_cause m pairs (Limit Types) h = absurd h
leaves_cause m pairs (Limit Parts) h = absurd h
leaves_cause m pairs (Limit Calls) h = absurd h
leaves_cause m pairs (Limit Leaves) h = h
leaves_cause m pairs Memory h = tt

pub ruleset cause_rules = (fit_cause, type_cause, leaves_cause)
