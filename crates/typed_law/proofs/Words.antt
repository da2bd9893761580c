-- A module of words that break no rule is conforming: its instructions are formed, and have results apart.
use Rattle.std.proofs.Common.{◌≡◌, ◌<◌, ◌≤◌, ◌+◌, ◌==◌, ◌&&◌, ℕ, suc, Bool, true, false, List, [], ◌∷◌, ◌++◌, length, map, drop, min, Option, Some, None, inl, inr, refl, sym, ap, subst, ◌∙◌, if◌then◌else◌, length-take, length-drop, arith}
use Rattle.std.specs.Prelude.{◌⊎◌, ◌-◌, find, nat_le, nat_lt, unwrap_or, option_map, Contains, slice_index, slice_index_or}
use Rattle.std.specs.Option.{option_map_or}
use Rattle.std.proofs.lemmas.Bool.Decides.{eqb_tells, nat_tests}
use Rattle.std.proofs.lemmas.Bool.{and_from, false_from_ne_true, not-false, or_right as or_right_on}
use Rattle.spv_words.specs.Words.{insts, no_inst, nth_inst, slice, is_at_fault}
use Rattle.spv_words.specs.declared.rule.Rule.TheVariants.{T1}
use Rattle.spv_words.specs.declared.words.Inst1.{Inst1}
use Rattle.spv_ops.specs.Opcode.{number, op_of}
use Rattle.spv_ops.specs.Shape.{shape, count_of}
use Rattle.spv_ops.specs.declared.opcode.Op.{Op}
use Rattle.spv_ops.specs.declared.opcode.Op.TheVariants as op
use Rattle.spv_ops.proofs.Shapes.{room}
use Rattle.spv_module.specs.declared.kind.Kind.{Kind}
use Rattle.spv_module.specs.declared.kind.Kind.TheVariants.{Debug, Global, Undef, Variable, Function as Opening_of, Parameter, End, Label, Other}
use Rattle.spv_module.specs.declared.kind.Place.{Place}
use Rattle.spv_module.specs.declared.kind.Place.TheVariants.{Outside}
use Rattle.spv_module.specs.declared.inst.Id.{Id}
use Rattle.spv_module.specs.declared.inst.Inst.{Inst}
use Rattle.spv_module.specs.declared.inst.Function.{Function}
use Rattle.spv_module.specs.Inst.{word, has_type, has_result, known, inst_of}
use Rattle.spv_module.specs.Kinds.{kind_of_op, kind_of_opcode, kind_of, is_import}
use Rattle.spv_module.specs.Counts.{lacks_inner, is_unknown, is_misfit, is_misfit_of, is_within, fits_opcode}
use Rattle.spv_module.specs.Form.{after}
use Rattle.spv_module.specs.State.{ModuleState}
use Rattle.spv_module.specs.Held.{global}
use Rattle.spv_module.specs.Ids.{is_out, result_by, result_of, results, HasIdOut}
use Rattle.spv_module.specs.Lists.{id as id_of, is_global, globals_from, globals, with_inst, block_insts, block, with_block, blocks, with_param, params, function, with_function, functions_from, functions, module_of}
use Rattle.spv_index.specs.Locals.{insts_of}
use Rattle.profile_rules.specs.TypeRules.{broken, Broken as BrokenTypes}
use Rattle.list_law.proofs.Tests.{or_right, and_right, and_left, off_on}
use Rattle.list_law.proofs.Lists.{none_within}
use Rattle.plan_law.specs.InOrder.{IsAmong}
use Rattle.plan_law.specs.Distinct.{IsNone, AreDistinct}
use Rattle.plan_law.proofs.Listed.{flat, globals_rise, distinct}
use Rattle.plan_law.proofs.Owned.{parameter_result}
use Rattle.plan_law.proofs.Conforming.{said_of, are_in_order}
use Rattle.type_law.specs.Shaped.{EachFound, HaveResults}
use Rattle.typed_law.specs.Conforms.{BreakNone, size_of, IsFormed, IsParameter, IsConformingIn, IsConforming}

-- it is one of the words' instructions
abbrev pub IsOne : Inst1 → List Inst1 → Type 0
IsOne x [] = ⊥
IsOne x (i ∷ is) = (i ≡ x) ⊎ IsOne x is

by_place : (P : Inst1 → Type 0) (d : Inst1) (is : List Inst1) → ((k : ℕ) → k < length is → P (slice_index_or is k d)) → (x : Inst1) → IsOne x is → P x
by_place P d [] all x one = absurd one
by_place P d (i ∷ is) all x (inl same) = subst P same (all 0 (let less : 0 < suc (length is) = omega arith in less))
by_place P d (i ∷ is) all x (inr one) = by_place P d is (λ k less. all (suc k) (let more : suc k < suc (length is) = omega (arith, less) in more)) x one

none_found : (test : Inst1 → Bool) (is : List Inst1) (x : Inst1) → find test is ≡ None → IsOne x is → test x ≡ false
none_found test [] x e one = absurd one
none_found test (i ∷ is) x e one = by_test (test i) refl one e (λ rest later. none_found test is x rest later)
  where
    by_test : (b : Bool) → test i ≡ b → (i ≡ x) ⊎ IsOne x is → (if b then Some i else find test is) ≡ None → (find test is ≡ None → IsOne x is → test x ≡ false) → test x ≡ false
    by_test true at one e next = cc
    by_test false at (inl same) e next = subst (λ y. test y ≡ false) same at
    by_test false at (inr one) e next = next e one

-- opcodes
known_is : (n : ℕ) (o : Op) → op_of n ≡ Some o → known n ≡ o
unfolding known
known_is n o e = ap (λ q. unwrap_or q op.Nop) e

-- kinds of globals; these, functions and parameters have results
abbrev pub is_global_kind : Kind → Bool
is_global_kind Global = true
is_global_kind Undef = true
is_global_kind Variable = true
is_global_kind k = false

abbrev has_own : Kind → Bool
has_own Global = true
has_own Undef = true
has_own Variable = true
has_own Parameter = true
has_own Opening_of = true
has_own k = false

own_global : (k : Kind) → is_global_kind k ≡ true → has_own k ≡ true
own_global Global e = refl
own_global Undef e = refl
own_global Variable e = refl
own_global k e = cc

own_not_debug : (k : Kind) → has_own k ≡ true → k ≡ Debug → ⊥
own_not_debug k e debug = let clash : has_own Debug ≡ true = ap has_own (sym debug) ∙ e in cc

own_result : (o : Option Op) → has_own (option_map_or kind_of_op o Other) ≡ true → has_result (unwrap_or o op.Nop) ≡ true
unfolding kind_of_op shape
own_result None e = cc
own_result (Some op.Undef) e = refl
own_result (Some o) e = cc

is_function : (o : Op) → kind_of_op o ≡ Opening_of → o ≡ op.Function
unfolding kind_of_op shape
is_function op.Function e = refl
is_function o e = cc

of_function : (o : Option Op) (w : ℕ → ℕ) → option_map_or kind_of_op o Other ≡ Opening_of → (if has_result (unwrap_or o op.Nop) then w (1 + count_of (has_type (unwrap_or o op.Nop))) else 0) ≡ w 2
unfolding shape
of_function None w e = cc
of_function (Some o) w e = subst (λ (p : Op). (if has_result p then w (1 + count_of (has_type p)) else 0) ≡ w 2) (sym (is_function o e)) refl

result_by_other : (k : Kind) (i : Inst) → (k ≡ Debug → ⊥) → result_by k i ≡ i.result
result_by_other Debug i far = absurd (far refl)
result_by_other k i far = refl

-- numbers of words
within_words : (a b c n : ℕ) → (nat_le (a + 0) n && nat_le n (b + 0)) ≡ true → c ≡ n → (a ≤ c) × (c ≤ b)
within_words a b c n e same =
    let first = and_left (nat_le (a + 0) n) (nat_le n (b + 0)) e in
    let second = and_right (nat_le (a + 0) n) (nat_le n (b + 0)) e in
    (grind (arith, nat_tests, first, same), grind (arith, nat_tests, second, same))

room_below : (t r : Bool) (least len : ℕ) → nat_le (1 + count_of t + count_of r) least ≡ true → least ≤ len → 1 + count_of t + count_of r ≤ len
room_below t r least len e le = let n = 1 + count_of t + count_of r in grind (arith, nat_tests, e, le)

module _ (ws : List ℕ) where
  size_is : (x : Inst1) → is_at_fault (length ws) x ≡ false → length (slice ws x) ≡ x.len
  size_is x e =
      let few = length-take x.len (drop x.start ws) in
      let rest = length-drop x.start ws in
      let ends : nat_lt (length ws) (x.start + x.len) ≡ false = or_right (x.len == 0) (nat_lt (length ws) (x.start + x.len)) e in
      let low : x.start + x.len ≤ length ws = grind (arith, nat_tests, ends) in
      few ∙ (let least : min x.len (length (drop x.start ws)) ≡ x.len = omega (arith, low, rest) in least)

  -- an instruction that breaks none of these rules is formed
  module _ (x : Inst1) (uncut : is_at_fault (length ws) x ≡ false) (told : is_unknown ws x ≡ false) (counted : is_misfit ws x ≡ false) (listed : HasIdOut ws x → ⊥) (is_there : kind_of ws x ≡ Debug → ⊥) where
    the_op : (o : Option Op) → op_of x.opcode ≡ o → (p : Op) × (op_of x.opcode ≡ Some p)
    the_op None e = let clash : true ≡ false = ap (λ q. option_map_or (lacks_inner ws x) q true) (sym e) ∙ told in cc
    the_op (Some p) e = (p, e)

    within : is_within 0 (shape (known x.opcode)) x.len ≡ true
    within =
        let p = the_op (op_of x.opcode) refl in
        let right : is_misfit_of ws x p.0 ≡ false = ap (λ q. option_map_or (is_misfit_of ws x) q false) (sym p.1) ∙ counted in
        subst (λ o. is_within 0 (shape o) x.len ≡ true) (sym (known_is x.opcode p.0 p.1)) (and_left (is_within 0 (shape p.0) x.len) (fits_opcode ws x p.0) (not-false (is_within 0 (shape p.0) x.len && fits_opcode ws x p.0) right))

    abbrev O : Op
    O = known x.opcode

    roomy : 1 + count_of (has_type O) + count_of (has_result O) ≤ x.len
    roomy = room_below (has_type O) (has_result O) (shape O).least x.len (room O) (low (shape O).least (shape O).most x.len within)
      where
        low : (a b n : ℕ) → (nat_le (a + 0) n && nat_le n (b + 0)) ≡ true → a ≤ n
        low a b n e = (within_words a b n n e refl).0

    counted_size : size_of (inst_of ws x) ≡ x.len
    counted_size =
        let whole = size_is x uncut in
        let rest = length-drop (1 + count_of (has_type O) + count_of (has_result O)) (slice ws x) in
        let low = roomy in
        ap (λ n. 1 + count_of (has_type O) + count_of (has_result O) + n) rest
        ∙ (let same : 1 + count_of (has_type O) + count_of (has_result O) + (length (slice ws x) - (1 + count_of (has_type O) + count_of (has_result O))) ≡ x.len = omega (arith, whole, low) in same)

    no_zero : has_result O ≡ true → (inst_of ws x).result ≡ 0 → ⊥
    no_zero has zero_is =
        let at : nat_lt (1 + count_of (has_type O)) x.len ≡ true = behind (has_type O) (has_result O) x.len has roomy in
        let out : is_out (slice_index ws 3) (inst_of ws x).result ≡ true = ap (is_out (slice_index ws 3)) zero_is in
        listed (
          is_there,
          inl (or_right_on (has_type O && (nat_lt 1 x.len && is_out (slice_index ws 3) (inst_of ws x).ty)) (has_result O && (nat_lt (1 + count_of (has_type O)) x.len && is_out (slice_index ws 3) (inst_of ws x).result))
              (and_from (has_result O) (nat_lt (1 + count_of (has_type O)) x.len && is_out (slice_index ws 3) (inst_of ws x).result) has (and_from (nat_lt (1 + count_of (has_type O)) x.len) (is_out (slice_index ws 3) (inst_of ws x).result) at out))),
        )
      where
        behind : (t r : Bool) (len : ℕ) → r ≡ true → 1 + count_of t + count_of r ≤ len → nat_lt (1 + count_of t) len ≡ true
        behind true true len e le = grind (arith, nat_tests, le)
        behind false true len e le = grind (arith, nat_tests, le)
        behind t false len e le = cc

    pub formed : IsFormed (inst_of ws x)
    formed =
        let bounds = within_words (shape O).least (shape O).most (size_of (inst_of ws x)) x.len within counted_size in
        record {
          least = bounds.0;
          most = bounds.1;
          result = no_zero;
          untyped = λ none. ap (λ (b : Bool). if b then word ws x 1 else 0) none;
        }

  -- what lists are made of
  abbrev IsMade : List Inst1 → Inst → Type 0
  IsMade is i = (x : Inst1) × IsOne x is × (inst_of ws x ≡ i) × (kind_of ws x ≡ Debug → ⊥)

  more_made : (x : Inst1) (is : List Inst1) (i : Inst) → IsMade is i → IsMade (x ∷ is) i
  more_made x is i w = (w.0, inr w.1, w.2, w.3)

  abbrev pub IsGlobalMade : List Inst1 → Inst → Type 0
  IsGlobalMade is g = (x : Inst1) × IsOne x is × (inst_of ws x ≡ g) × (is_global_kind (kind_of ws x) ≡ true)

  pub global_made : (p : Place) (is : List Inst1) (g : Inst) → IsAmong g (globals_from ws p is) → IsGlobalMade is g
  global_made p [] g stands = absurd stands
  global_made p (i ∷ is) g stands = by_kind p (kind_of ws i) refl (global_made (after p (kind_of ws i)) is g) stands
    where
      more : IsGlobalMade is g → IsGlobalMade (i ∷ is) g
      more w = (w.0, inr w.1, w.2, w.3)

      here : (k : Kind) → kind_of ws i ≡ k → is_global_kind k ≡ true → inst_of ws i ≡ g → IsGlobalMade (i ∷ is) g
      here k e on same = (i, inl refl, same, ap is_global_kind e ∙ on)

      by_kind : (p : Place) (k : Kind) → kind_of ws i ≡ k → (IsAmong g (globals_from ws (after p k) is) → IsGlobalMade is g) → IsAmong g (if is_global p k then inst_of ws i ∷ globals_from ws (after p k) is else globals_from ws (after p k) is) → IsGlobalMade (i ∷ is) g
      by_kind p Global e rest (inl same) = here Global e refl same
      by_kind p Global e rest (inr there) = more (rest there)
      by_kind Outside Undef e rest (inl same) = here Undef e refl same
      by_kind Outside Undef e rest (inr there) = more (rest there)
      by_kind Outside Variable e rest (inl same) = here Variable e refl same
      by_kind Outside Variable e rest (inr there) = more (rest there)
      by_kind p k e rest there = more (rest there)

  insts_made : (is : List Inst1) (i : Inst) → (IsAmong i (block_insts ws is ++ flat (blocks ws is)) → IsMade is i) × (IsAmong i (flat (blocks ws is)) → IsMade is i)
  insts_made [] i = (λ stands. absurd stands, λ stands. absurd stands)
  insts_made (x ∷ is) i = by_kind (kind_of ws x) refl (insts_made is i)
    where
      by_kind : (k : Kind) → kind_of ws x ≡ k → (IsAmong i (block_insts ws is ++ flat (blocks ws is)) → IsMade is i) × (IsAmong i (flat (blocks ws is)) → IsMade is i)
          → (IsAmong i (with_inst k (inst_of ws x) (block_insts ws is) ++ flat (with_block k (block ws x is) (blocks ws is))) → IsMade (x ∷ is) i) × (IsAmong i (flat (with_block k (block ws x is) (blocks ws is))) → IsMade (x ∷ is) i)
      by_kind Label e rest = (λ stands. more_made x is i (rest.0 stands), λ stands. more_made x is i (rest.0 stands))
      by_kind End e rest = (λ stands. absurd stands, λ stands. absurd stands)
      by_kind Debug e rest = (λ stands. more_made x is i (rest.0 stands), λ stands. more_made x is i (rest.1 stands))
      by_kind k e rest = (λ stands. elim stands [ inl same ↦ (x, inl refl, same, λ debug. (let clash : k ≡ Debug = sym e ∙ debug in cc)) | inr there ↦ more_made x is i (rest.0 there) ], λ stands. more_made x is i (rest.1 stands))

  abbrev IsParameterMade : List Inst1 → Id × Id → Type 0
  IsParameterMade is p = (x : Inst1) × IsOne x is × ((id_of (word ws x 2), id_of (word ws x 1)) ≡ p) × (kind_of ws x ≡ Parameter)

  params_made : (is : List Inst1) (p : Id × Id) → IsParameter p (params ws is) → IsParameterMade is p
  params_made [] p stands = absurd stands
  params_made (x ∷ is) p stands = by_kind (kind_of ws x) refl (params_made is p) stands
    where
      more : IsParameterMade is p → IsParameterMade (x ∷ is) p
      more w = (w.0, inr w.1, w.2, w.3)

      by_kind : (k : Kind) → kind_of ws x ≡ k → (IsParameter p (params ws is) → IsParameterMade is p) → IsParameter p (with_param k (id_of (word ws x 2), id_of (word ws x 1)) (params ws is)) → IsParameterMade (x ∷ is) p
      by_kind Parameter e rest (inl same) = (x, inl refl, same, e)
      by_kind Parameter e rest (inr there) = more (rest there)
      by_kind Label e rest stands = absurd stands
      by_kind End e rest stands = absurd stands
      by_kind k e rest stands = more (rest stands)

  -- a function of these
  record IsFunctionMade (all : List Inst1) (f : Function) : Type 0 where
    insts : (i : Inst) → IsAmong i (insts_of f) → IsMade all i
    params : (p : Id × Id) → IsParameter p f.params → IsParameterMade all p

  abbrev AreFunctionsMade : List Inst1 → List Function → Type 0
  AreFunctionsMade all [] = Unit {0}
  AreFunctionsMade all (f ∷ fs) = IsFunctionMade all f × AreFunctionsMade all fs

  functions_made : (all is : List Inst1) → ((x : Inst1) → IsOne x is → IsOne x all) → AreFunctionsMade all (functions_from ws is)
  functions_made all [] sub = tt
  functions_made all (x ∷ is) sub = by_kind (kind_of ws x) (functions_made all is (λ y one. sub y (inr one)))
    where
      by_kind : (k : Kind) → AreFunctionsMade all (functions_from ws is) → AreFunctionsMade all (with_function k (function ws x is) (functions_from ws is))
      by_kind Opening_of rest = (
        record {
          insts = λ i stands. let w = (insts_made is i).1 stands in (w.0, sub w.0 (inr w.1), w.2, w.3);
          params = λ p stands. let w = params_made is p stands in (w.0, sub w.0 (inr w.1), w.2, w.3);
        },
        rest,
      )
      by_kind k rest = rest

  -- two with one result are one
  none_is : (id : ℕ) (is : List Inst1) (y : Inst1) → IsNone id (map (result_of ws) is) → IsOne y is → result_of ws y ≡ id → ⊥
  none_is id [] y none one same = one
  none_is id (i ∷ is) y none (inl here) same = none.0 (ap (result_of ws) here ∙ same)
  none_is id (i ∷ is) y none (inr one) same = none_is id is y none.1 one same

  same_one : (is : List Inst1) (x y : Inst1) → AreDistinct (map (result_of ws) is) → IsOne x is → IsOne y is → (result_of ws x ≡ 0 → ⊥) → result_of ws x ≡ result_of ws y → x ≡ y
  same_one [] x y apart x_in y_in some same = absurd x_in
  same_one (i ∷ is) x y apart (inl x_is) (inl y_is) some same = sym x_is ∙ y_is
  same_one (i ∷ is) x y apart (inl x_is) (inr y_in) some same =
      absurd (none_is (result_of ws i) is y (apart.0 (λ lacks. some (ap (result_of ws) (sym x_is) ∙ lacks))) y_in (sym same ∙ ap (result_of ws) (sym x_is)))
  same_one (i ∷ is) x y apart (inr x_in) (inl y_is) some same =
      absurd (none_is (result_of ws i) is x (apart.0 (λ lacks. some (same ∙ ap (result_of ws) (sym y_is) ∙ lacks))) x_in (same ∙ ap (result_of ws) (sym y_is)))
  same_one (i ∷ is) x y apart (inr x_in) (inr y_in) some same = same_one is x y apart.1 x_in y_in some same

-- what is found by its result
found_one : (gs : List Inst) (g : Inst) → IsAmong g gs → ((h : Inst) → IsAmong h gs → h.result ≡ g.result → h ≡ g) → global gs g.result ≡ Some g
found_one [] g stands alone = absurd stands
found_one (h ∷ gs) g stands alone = by_test (h.result == g.result) (eqb_tells h.result g.result) stands (λ there. found_one gs g there (λ x x_in same. alone x (inr x_in) same))
  where
    by_test : (b : Bool) → ((b ≡ true) × (h.result ≡ g.result)) ⊎ ((b ≡ false) × (h.result ≡ g.result → ⊥)) → (h ≡ g) ⊎ IsAmong g gs → (IsAmong g gs → global gs g.result ≡ Some g) → (if b then Some h else global gs g.result) ≡ Some g
    by_test true (inl w) there later = ap (λ (x : Inst). Some x) (alone h (inl refl) w.1)
    by_test true (inr w) there later = cc
    by_test false (inl w) there later = cc
    by_test false (inr w) (inl same) later = absurd (w.1 (ap (λ (x : Inst). x.result) same))
    by_test false (inr w) (inr there) later = later there

none_at : (gs : List Inst) (id : ℕ) → ((g : Inst) → IsAmong g gs → g.result ≡ id → ⊥) → global gs id ≡ None
none_at [] id far = refl
none_at (g ∷ gs) id far = by_test (g.result == id) (eqb_tells g.result id) (none_at gs id (λ x x_in same. far x (inr x_in) same))
  where
    by_test : (b : Bool) → ((b ≡ true) × (g.result ≡ id)) ⊎ ((b ≡ false) × (g.result ≡ id → ⊥)) → global gs id ≡ None → (if b then Some g else global gs id) ≡ None
    by_test b (inl w) later = absurd (far g (inl refl) w.1)
    by_test true (inr w) later = cc
    by_test false (inr w) later = later

each_found : (gs js : List Inst) → ((g : Inst) → IsAmong g js → global gs g.result ≡ Some g) → EachFound gs js
each_found gs [] all = tt
each_found gs (g ∷ js) all = (all g (inl refl), each_found gs js (λ h h_in. all h (inr h_in)))

found_param : (ps : List (Id × Id)) (p : Id × Id) → IsParameter p ps → ((q : Id × Id) → IsParameter q ps → q.0.0 ≡ p.0.0 → q ≡ p) → find (λ (q : Id × Id). q.0.0 == p.0.0) ps ≡ Some p
found_param [] p stands alone = absurd stands
found_param (q ∷ ps) p stands alone = by_test (q.0.0 == p.0.0) (eqb_tells q.0.0 p.0.0) stands (λ there. found_param ps p there (λ r r_in same. alone r (inr r_in) same))
  where
    by_test : (b : Bool) → ((b ≡ true) × (q.0.0 ≡ p.0.0)) ⊎ ((b ≡ false) × (q.0.0 ≡ p.0.0 → ⊥)) → (q ≡ p) ⊎ IsParameter p ps → (IsParameter p ps → find (λ (r : Id × Id). r.0.0 == p.0.0) ps ≡ Some p) → (if b then Some q else find (λ (r : Id × Id). r.0.0 == p.0.0) ps) ≡ Some p
    by_test true (inl w) there later = ap (λ (r : Id × Id). Some r) (alone q (inl refl) w.1)
    by_test true (inr w) there later = cc
    by_test false (inl w) there later = cc
    by_test false (inr w) (inl same) later = absurd (w.1 (ap (λ (r : Id × Id). r.0.0) same))
    by_test false (inr w) (inr there) later = later there

module _ (ws : List ℕ) (entry : Option (List ℕ)) (right : BreakNone ws entry) where
  of_all : (x : Inst1) → IsOne x (insts ws) → (kind_of ws x ≡ Debug → ⊥) → IsFormed (inst_of ws x)
  of_all x one is_there =
      formed ws x (none_found (is_at_fault (length ws)) (insts ws) x right.uncut one)
      (by_place (λ y. is_unknown ws y ≡ false) no_inst (insts ws) (λ k less. false_from_ne_true (is_unknown ws (nth_inst ws k)) (λ on. right.form.0 (nth_inst ws k).start (k, less, refl, on))) x one)
      (by_place (λ y. is_misfit ws y ≡ false) no_inst (insts ws) (λ k less. false_from_ne_true (is_misfit ws (nth_inst ws k)) (λ on. right.form.1.0 (nth_inst ws k).start (k, less, refl, on))) x one)
      (by_place (λ y. HasIdOut ws y → ⊥) no_inst (insts ws) (λ k less out. right.form.1.1.0 (nth_inst ws k).start (k, less, refl, inl out)) x one) is_there

  apart : AreDistinct (results ws)
  apart = distinct ws right.form.1.1.0

  result_is : (x : Inst1) → (kind_of ws x ≡ Debug → ⊥) → result_of ws x ≡ (inst_of ws x).result
  result_is x far = result_by_other (kind_of ws x) (inst_of ws x) far

  has_own_result : (x : Inst1) → has_own (kind_of ws x) ≡ true → has_result (known x.opcode) ≡ true
  unfolding kind_of_opcode known
  has_own_result x e = by_test ((x.opcode == number op.ExtInst) && is_import ws (word ws x 3)) e
    where
      by_test : (b : Bool) → has_own (if b then Debug else kind_of_opcode x.opcode) ≡ true → has_result (unwrap_or (op_of x.opcode) op.Nop) ≡ true
      by_test true e = cc
      by_test false e = own_result (op_of x.opcode) e

  own_some : (x : Inst1) → IsOne x (insts ws) → has_own (kind_of ws x) ≡ true → result_of ws x ≡ 0 → ⊥
  own_some x one own zero_is =
      let far = own_not_debug (kind_of ws x) own in
      (of_all x one far).result (has_own_result x own) (sym (result_is x far) ∙ zero_is)

  -- globals
  global_alone : (g : Inst) → IsAmong g (globals ws) → (h : Inst) → IsAmong h (globals ws) → h.result ≡ g.result → h ≡ g
  global_alone g g_in h h_in same =
      let x = global_made ws Outside (insts ws) h h_in in
      let y = global_made ws Outside (insts ws) g g_in in
      let own_x = own_global (kind_of ws x.0) x.3 in
      let x_is = result_is x.0 (own_not_debug (kind_of ws x.0) own_x) ∙ ap (λ (i : Inst). i.result) x.2 in
      let y_is = result_is y.0 (own_not_debug (kind_of ws y.0) (own_global (kind_of ws y.0) y.3)) ∙ ap (λ (i : Inst). i.result) y.2 in
      sym x.2 ∙ ap (inst_of ws) (same_one ws (insts ws) x.0 y.0 apart x.1 y.1 (own_some x.0 x.1 own_x) (x_is ∙ same ∙ sym y_is)) ∙ y.2

  global_some : (g : Inst) → IsAmong g (globals ws) → g.result ≡ 0 → ⊥
  global_some g g_in zero_is =
      let x = global_made ws Outside (insts ws) g g_in in
      let own = own_global (kind_of ws x.0) x.3 in
      own_some x.0 x.1 own (result_is x.0 (own_not_debug (kind_of ws x.0) own) ∙ ap (λ (i : Inst). i.result) x.2 ∙ zero_is)

  have_results : HaveResults (globals ws)
  have_results = record { each = each_found (globals ws) (globals ws) (λ g g_in. found_one (globals ws) g g_in (global_alone g g_in)); none = none_at (globals ws) 0 global_some }

  global_formed : (g : Inst) → IsAmong g (globals ws) → IsFormed g
  global_formed g g_in =
      let x = global_made ws Outside (insts ws) g g_in in
      subst IsFormed x.2 (of_all x.0 x.1 (own_not_debug (kind_of ws x.0) (own_global (kind_of ws x.0) x.3)))

  -- parameters
  module _ (p : Id × Id) (w : IsParameterMade ws (insts ws) p) where
    own_parameter : has_own (kind_of ws w.0) ≡ true
    own_parameter = ap has_own w.3

    pub parameter_is : result_of ws w.0 ≡ p.0.0
    parameter_is = result_is w.0 (own_not_debug (kind_of ws w.0) own_parameter) ∙ parameter_result ws w.0 w.3 ∙ ap (λ (q : Id × Id). q.0.0) w.2

    pub parameter_some : result_of ws w.0 ≡ 0 → ⊥
    parameter_some = own_some w.0 w.1 own_parameter

  parameter_outside : (p : Id × Id) → IsParameterMade ws (insts ws) p → global (globals ws) p.0.0 ≡ None
  parameter_outside p w = none_at (globals ws) p.0.0 (λ g g_in same.
      let y = global_made ws Outside (insts ws) g g_in in
      let y_is = result_is y.0 (own_not_debug (kind_of ws y.0) (own_global (kind_of ws y.0) y.3)) ∙ ap (λ (i : Inst). i.result) y.2 in
      let one = same_one ws (insts ws) w.0 y.0 apart w.1 y.1 (parameter_some p w) (parameter_is p w ∙ sym same ∙ sym y_is) in
      off_on (ap is_global_kind (sym w.3) ∙ ap (λ x. is_global_kind (kind_of ws x)) one ∙ y.3))

  parameter_alone : (p q : Id × Id) → IsParameterMade ws (insts ws) p → IsParameterMade ws (insts ws) q → q.0.0 ≡ p.0.0 → q ≡ p
  parameter_alone p q w v same =
      sym v.2 ∙ ap (λ x. (id_of (word ws x 2), id_of (word ws x 1))) (same_one ws (insts ws) v.0 w.0 apart v.1 w.1 (parameter_some q v) (parameter_is q v ∙ same ∙ sym (parameter_is p w))) ∙ w.2

  -- functions
  function_result : (x : Inst1) → kind_of ws x ≡ Opening_of → (inst_of ws x).result ≡ word ws x 2
  unfolding kind_of_opcode known
  function_result x e = by_test ((x.opcode == number op.ExtInst) && is_import ws (word ws x 3)) e
    where
      by_test : (b : Bool) → (if b then Debug else kind_of_opcode x.opcode) ≡ Opening_of → (inst_of ws x).result ≡ word ws x 2
      by_test true e = cc
      by_test false e = of_function (op_of x.opcode) (word ws x) e

  abbrev AreOutside : List Function → Type 0
  AreOutside [] = Unit {0}
  AreOutside (f ∷ fs) = (global (globals ws) f.id.0 ≡ None) × AreOutside fs

  function_outside : (x : Inst1) → IsOne x (insts ws) → kind_of ws x ≡ Opening_of → global (globals ws) (word ws x 2) ≡ None
  function_outside x one e = none_at (globals ws) (word ws x 2) (λ g g_in same.
      let own : has_own (kind_of ws x) ≡ true = ap has_own e in
      let x_is = result_is x (own_not_debug (kind_of ws x) own) ∙ function_result x e in
      let y = global_made ws Outside (insts ws) g g_in in
      let y_is = result_is y.0 (own_not_debug (kind_of ws y.0) (own_global (kind_of ws y.0) y.3)) ∙ ap (λ (i : Inst). i.result) y.2 in
      let alone = same_one ws (insts ws) x y.0 apart one y.1 (own_some x one own) (x_is ∙ sym same ∙ sym y_is) in
      off_on (ap is_global_kind (sym e) ∙ ap (λ z. is_global_kind (kind_of ws z)) alone ∙ y.3))

  all_outside : (is : List Inst1) → ((x : Inst1) → IsOne x is → IsOne x (insts ws)) → AreOutside (functions_from ws is)
  all_outside [] sub = tt
  all_outside (x ∷ is) sub = by_kind (kind_of ws x) refl (all_outside is (λ y one. sub y (inr one)))
    where
      by_kind : (k : Kind) → kind_of ws x ≡ k → AreOutside (functions_from ws is) → AreOutside (with_function k (function ws x is) (functions_from ws is))
      by_kind Opening_of e rest = (function_outside x (sub x (inl refl)) e, rest)
      by_kind k e rest = rest

  -- no function has the id of what stands outside of functions
  pub functions_outside : (f : Function) → Contains (functions ws) f → global (globals ws) f.id.0 ≡ None
  functions_outside f there = said_of (λ (g : Function). global (globals ws) g.id.0 ≡ None) AreOutside (λ g fs all. all) (functions ws) f (all_outside (insts ws) (λ x one. one)) there

  made_of : (f : Function) → Contains (functions ws) f → IsFunctionMade ws (insts ws) f
  made_of f there = said_of (IsFunctionMade ws (insts ws)) (AreFunctionsMade ws (insts ws)) (λ g fs all. all) (functions ws) f (functions_made ws (insts ws) (insts ws) (λ x one. one)) there

  conforming_in : (f : Function) → Contains (functions ws) f → IsConformingIn (module_of ws) f
  conforming_in f there =
      let made = made_of f there in
      record {
        order = are_in_order ws right.form.1.1.0 right.form.1.1.1.0 (λ at has. none_in (module_of ws) right.typed at has) f there;
        formed = λ i stands. let w = made.insts i stands in subst IsFormed w.2 (of_all w.0 w.1 w.3);
        some = λ p stands zero_is. let w = made.params p stands in parameter_some p w (parameter_is p w ∙ zero_is);
        outside = λ p stands. parameter_outside p (made.params p stands);
        found = λ p stands. ap (λ (o : Option (Id × Id)). option_map (λ (q : Id × Id). q.1.0) o) (found_param f.params p stands (λ q q_in same. parameter_alone p q (made.params p stands) (made.params q q_in) same));
      }
    where
      none_in : (m : ModuleState) → broken m ≡ [] → (at : ℕ) → BrokenTypes m T1 at → ⊥
      none_in m none at has = none_within (record { rule = T1; at = at }) (subst (λ rs. Contains rs (record { rule = T1; at = at })) none has)

  -- the module that words are
  pub conforms : IsConforming (module_of ws) entry
  conforms = record {
    results = have_results;
    rising = globals_rise ws;
    formed = global_formed;
    inside = conforming_in;
    declared = right.declared;
    typed = right.typed;
    accessed = right.accessed;
  }
