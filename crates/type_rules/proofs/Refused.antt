-- Refusals of lists that are put together.
use Rattle.std.proofs.Common.{◌≡◌, ◌<◌, ◌≤◌, ◌+◌, ◌==◌, ℕ, zero, suc, true, false, Bool, ◌||◌, refl, Some, Result, IfErr, if◌then◌else◌, arith, List, [], ◌∷◌, ◌++◌, length, take, get_or, ap, sym, ◌∙◌, subst}
use Rattle.std.specs.Prelude.{IfOk}
use Rattle.std.proofs.lemmas.Result.{IfOk-weaker}
use Rattle.std.specs.List.{flat_map, Contains}
use Rattle.std.proofs.lemmas.Bool.Decides.{nat_tests}
use Rattle.std.proofs.lemmas.List.{take_more, take_all, append-nil}
use Rattle.std.proofs.lemmas.List.Elements.{Contains-append_left, Contains-append_right}
use Rattle.std.proofs.lemmas.List.Concat.{flat_map-cons}
use Rattle.std.proofs.lemmas.Grind.{flat_map-append}
use Rattle.spv_ops.specs.Opcode.{is, op_of}
use Rattle.spv_ops.specs.declared.Op.{Op}
use Rattle.spv_ops.specs.declared.Op.TheVariants as code
use Rattle.std.specs.Option.{option_map_or}
use Rattle.spv_words.specs.declared.rule.Refusal.{Refusal}
use Rattle.spv_words.specs.declared.rule.Fault.{Fault}
use Rattle.spv_words.specs.declared.rule.Fault.TheVariants.{Refused, Limit as Exceeded, Memory}
use Rattle.spv_words.specs.declared.rule.Rule.{Rule}
use Rattle.spv_words.specs.Breaks.{NoRuleBroken}
use Rattle.spv_module.specs.State.{ModuleState}
use Rattle.spv_types.specs.Limits.{IsPassedBy}
use Rattle.profile_rules.specs.TypeRules.{IsRefusedBy, IsRight, Broken, broken, broken_as, broken_inside, inner}
use Rattle.spv_module.specs.declared.inst.Inst.{Inst}
use Rattle.spv_decor.specs.Rows.{word}

pub by_left : (xs ys : List Refusal) (fault : Fault) → IsRefusedBy xs fault → IsRefusedBy (xs ++ ys) fault
by_left xs ys (Refused r) h = Contains-append_left xs ys r h
by_left xs ys (Exceeded l) h = h
by_left xs ys Memory h = h

pub by_right : (xs ys : List Refusal) (fault : Fault) → IsRefusedBy ys fault → IsRefusedBy (xs ++ ys) fault
by_right xs ys (Refused r) h = Contains-append_right xs ys r h
by_right xs ys (Exceeded l) h = h
by_right xs ys Memory h = h

pub none_of_both : (xs ys : List Refusal) → xs ≡ [] → ys ≡ [] → xs ++ ys ≡ []
none_of_both xs ys h k = ap (λ l. l ++ ys) h ∙ k

-- a list with a refusal is not empty
pub sound_none : (rs : List Refusal) → rs ≡ [] → true ≡ (length rs == 0)
sound_none rs none = sym (ap (λ (l : List Refusal). length l == 0) none)

pub sound_some : (rs : List Refusal) (r : Refusal) → Contains rs r → false ≡ (length rs == 0)
sound_some [] r h = absurd (omega (arith, h.1))
sound_some (x ∷ rs) r h = grind (arith, nat_tests)

pub ruleset sound_rules = (sound_none, sound_some)

pub ruleset list_rules = (by_left, by_right, none_of_both)

-- a list's parts one by one
pub none_more : {X : Type 0} (f : X → List Refusal) (xs : List X) (i : ℕ) (x : X) → i < length xs → x ≡ get_or xs i x → flat_map f (take i xs) ≡ [] → f x ≡ [] → flat_map f (take (i + 1) xs) ≡ []
none_more f xs i x inside own before here =
    ap (flat_map f) (take_more xs i x inside)
    ∙ flat_map-append f (take i xs) (get_or xs i x ∷ [])
    ∙ none_of_both (flat_map f (take i xs)) (flat_map f (get_or xs i x ∷ [])) before (flat_map-cons f (get_or xs i x) [] ∙ (append-nil (f (get_or xs i x)) ∙ (ap f (sym own) ∙ here)))

pub none_at_end : {X : Type 0} (f : X → List Refusal) (xs : List X) (i : ℕ) → length xs ≤ i → flat_map f (take i xs) ≡ [] → flat_map f xs ≡ []
none_at_end f xs i past before = ap (flat_map f) (sym (take_all i xs past)) ∙ before

one_by : {X : Type 0} (f : X → List Refusal) (xs : List X) (i : ℕ) (x : X) (fault : Fault) → i < length xs → IsRefusedBy (f (get_or xs i x)) fault → IsRefusedBy (flat_map f xs) fault
one_by f [] i x fault inside h = absurd (omega arith)
one_by f (y ∷ xs) zero x fault inside h = by_left (f y) (flat_map f xs) fault h
one_by f (y ∷ xs) (suc i) x fault inside h = by_right (f y) (flat_map f xs) fault (one_by f xs i x fault (omega arith) h)

-- a part is refused
pub one_at : {X : Type 0} (f : X → List Refusal) (xs ys : List X) (i : ℕ) (x : X) (fault : Fault) → xs ≡ ys → i < length xs → x ≡ get_or xs i x → IsRefusedBy (f x) fault → IsRefusedBy (flat_map f ys) fault
one_at {X} f xs ys i x fault same inside own h =
    let P : X → Type 0 = λ y. IsRefusedBy (f y) fault in
    let Q : List X → Type 0 = λ l. IsRefusedBy (flat_map f l) fault in
    subst Q same (one_by f xs i x fault inside (subst P own h))

-- an OpSpecConstantOp is judged as the instruction inside
pub inside_right : (m : ModuleState) (g i : Inst) (o : Op) (r : Result (Unit {0}) Fault) → (is g.op code.SpecConstantOp) ≡ true → i ≡ inner g → op_of (word g 0) ≡ Some o → IfErr r (IsRefusedBy (broken_as m i o)) → IfErr r (IsRefusedBy (broken_inside m g))
inside_right m g i o r is_one made opcode h =
    let same : broken_inside m g ≡ broken_as m i o =
    ap (λ b. if b then option_map_or (broken_as m (inner g)) (op_of (word g 0)) [] else []) is_one ∙ (ap (λ x. option_map_or (broken_as m (inner g)) x []) opcode ∙ ap (λ j. broken_as m j o) (sym made)) in
    let P : List Refusal → Type 0 = λ l. IfErr r (IsRefusedBy l) in
    subst P (sym same) h

one_off : (r : Refusal) → Contains [] r → ⊥
one_off r h = absurd (omega (arith, h.1))

-- where no rule is broken anywhere, none of these is
pub none_broken : (m : ModuleState) (rules : List Rule) → broken m ≡ [] → NoRuleBroken (Broken m) rules
none_broken m [] none = tt
none_broken m (rule ∷ rules) none =
    let P : List Refusal → Type 0 = λ rs. (at : ℕ) → Contains rs (record { rule = rule; at = at }) → ⊥ in
    (subst P (sym none) (λ at h. one_off (record { rule = rule; at = at }) h), none_broken m rules none)

pub limits_right : (m : ModuleState) (fault : Fault) → IsPassedBy m.globals fault → IsRight m fault
limits_right m (Refused r) h = absurd h
limits_right m (Exceeded l) h = h
limits_right m Memory h = h

pub rules_right : (m : ModuleState) (fault : Fault) → IsRefusedBy (broken m) fault → IsRight m fault
rules_right m (Refused r) h = h
rules_right m (Exceeded l) h = absurd h
rules_right m Memory h = h

pub ruleset checked_rules = (none_broken, limits_right, rules_right)

-- what is judged outside functions too
pub flow_none : {E : Type 0} (r : Result Bool E) (a : Bool) → IfOk r (λ b. b ≡ a) → IfOk r (λ b. b ≡ (a || false))
flow_none r a h = IfOk-weaker r (λ b. b ≡ a) (λ b. b ≡ (a || false)) (λ b e. e ∙ or_no a) h
  where
    or_no : (x : Bool) → x ≡ (x || false)
    or_no true = refl
    or_no false = refl

pub ruleset flow_rules = (flow_none)
