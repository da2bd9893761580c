-- What is asked of variables alone, and what is collected of the others.
use Rattle.std.proofs.Common.{◌≡◌, ◌<◌, ◌==◌, ◌&&◌, ◌||◌, ◌+◌, ◌++◌, ℕ, Bool, true, false, List, [], ◌∷◌, Option, Some, None, cond, length, take, get_or, refl, ap, sym, ◌∙◌, arith, subst, append_assoc, append-nil, if◌then◌else◌}
use Rattle.std.specs.List.{find, filter, filter_map, cons_option, count_by, flat_map}
use Rattle.std.specs.Borrow.{Bor}
use Rattle.std.proofs.lemmas.List.{take_more, length-map}
use Rattle.std.proofs.lemmas.List.Folds.{list_any-append}
use Rattle.std.proofs.lemmas.List.Elements.{filter-append, filter_map-append}
use Rattle.std.proofs.lemmas.List.Concat.{flat_map-cons}
use Rattle.std.proofs.lemmas.List.Sums.{sum_by-cons}
use Rattle.std.proofs.lemmas.Grind.{flat_map-append}
use Rattle.std.proofs.Math.Bool.{or_assoc}
use Rattle.spv_module.specs.State.{ModuleState}
use Rattle.spv_module.specs.declared.inst.Inst.{Inst}
use Rattle.spv_module.specs.declared.inst.Block.{Block}
use Rattle.spv_module.specs.declared.inst.Function.{Function}
use Rattle.spv_decor.specs.Decorations.{local_insts}
use Rattle.spv_index.specs.Pointers.{pointee}
use Rattle.profile_rules.specs.Places.{is_among, is_variable, body_insts}
use Rattle.profile_rules.specs.TypeForm.{pointee_by, pointees, value_type, parts_of, held, is_held}
use Rattle.profile_rules.specs.Variables.{is_misclassed, is_other_input, is_push, is_other_block, is_other_initializer}
use Rattle.declaration_check.specs.declared.rows.Rows.{Rows}
use Rattle.declaration_check.specs.Kept.{outer_variables, inner_variables, variables_of, variables_in, AreKept, WithMore, AreValues}

module _ {X : Type 0} (q : X → Bool) where
  -- what fails wherever q does is found among those that pass q
  find_kept : (p : X → Bool) → ((x : X) → q x ≡ false → p x ≡ false) → (xs : List X) → find p (filter q xs) ≡ find p xs
  find_kept p fails [] = refl
  find_kept p fails (x ∷ xs) =
      (elim (q x) as (λ b. (b ≡ false → p x ≡ false) → find p (cond b (x ∷ filter q xs) (filter q xs)) ≡ cond (p x) (Some x) (find p xs)) [
        | true ↦ λ here. ap (cond (p x) (Some x)) (find_kept p fails xs)
        | false ↦ λ here. find_kept p fails xs ∙ sym (ap (λ b. cond b (Some x) (find p xs)) (here refl))
      ]) (fails x)

  filter_map_kept : {Y : Type 0} (h : X → Option Y) → ((x : X) → q x ≡ false → h x ≡ None) → (xs : List X) → filter_map h (filter q xs) ≡ filter_map h xs
  filter_map_kept h fails [] = refl
  filter_map_kept h fails (x ∷ xs) =
      (elim (q x) as (λ b. (b ≡ false → h x ≡ None) → filter_map h (cond b (x ∷ filter q xs) (filter q xs)) ≡ cons_option (h x) (filter_map h xs)) [
        | true ↦ λ here. ap (cons_option (h x)) (filter_map_kept h fails xs)
        | false ↦ λ here. filter_map_kept h fails xs ∙ sym (ap (λ o. cons_option o (filter_map h xs)) (here refl))
      ]) (fails x)

  count_kept : (p : X → Bool) → ((x : X) → q x ≡ false → p x ≡ false) → (xs : List X) → count_by p (filter q xs) ≡ count_by p xs
  count_kept p fails [] = refl
  count_kept p fails (x ∷ xs) =
      (elim (q x) as (λ b. (b ≡ false → p x ≡ false) → count_by p (cond b (x ∷ filter q xs) (filter q xs)) ≡ count_by p (x ∷ xs)) [
        | true ↦ λ here. counted x (filter q xs) ∙ ap (λ n. cond (p x) 1 0 + n) (count_kept p fails xs) ∙ sym (counted x xs)
        | false ↦ λ here. count_kept p fails xs ∙ sym (counted x xs ∙ ap (λ b. cond b 1 0 + count_by p xs) (here refl) ∙ nothing (count_by p xs))
      ]) (fails x)
    where
      counted : (y : X) (ys : List X) → count_by p (y ∷ ys) ≡ cond (p y) 1 0 + count_by p ys
      counted y ys = sum_by-cons (λ z. cond (p z) 1 0) y ys

      nothing : (n : ℕ) → 0 + n ≡ n
      nothing n = omega arith

variables_are : (m : ModuleState) → variables_of m ≡ filter is_variable (body_insts m)
variables_are m = sym (filter-append is_variable m.globals (local_insts m))

pub pointees_same : (m : ModuleState) (test : Inst → Bool) → filter_map (pointee_by m.globals test) (variables_of m) ≡ pointees m test
pointees_same m test =
    let h : Inst → Option ℕ = pointee_by m.globals test in
    ap (filter_map h) (variables_are m)
    ∙ filter_map_kept is_variable h (λ i none. ap (λ b. if b && test i then pointee m.globals i.ty else None) none) (body_insts m)

found_in_body : (m : ModuleState) (p : Inst → Bool) → ((i : Inst) → is_variable i ≡ false → p i ≡ false) → find p (variables_of m) ≡ find p (body_insts m)
found_in_body m p fails = ap (find p) (variables_are m) ∙ find_kept is_variable p fails (body_insts m)

pub misclassed_same : (m : ModuleState) → find (is_misclassed true m.globals) (inner_variables m) ≡ find (is_misclassed true m.globals) (local_insts m)
misclassed_same m = find_kept is_variable (is_misclassed true m.globals) (λ i none. rw none refl) (local_insts m)

pub input_same : (m : ModuleState) → find (is_other_input m.heads m.globals) (variables_of m) ≡ find (is_other_input m.heads m.globals) (body_insts m)
input_same m = found_in_body m (is_other_input m.heads m.globals) (λ i none. rw none refl)

pub initializer_same : (m : ModuleState) → find (is_other_initializer m) (variables_of m) ≡ find (is_other_initializer m) (body_insts m)
initializer_same m = found_in_body m (is_other_initializer m) (λ i none. rw none refl)

no_block_fault : (m : ModuleState) (pushes : ℕ) (i : Inst) → is_variable i ≡ false → is_other_block m.heads m.globals pushes i ≡ false
unfolding is_other_block
no_block_fault m pushes i none = rw none refl

pub block_same : (m : ModuleState) → find (is_other_block m.heads m.globals (count_by is_push (variables_of m))) (variables_of m) ≡ find (is_other_block m.heads m.globals (count_by is_push (body_insts m))) (body_insts m)
block_same m =
    let counted : count_by is_push (variables_of m) ≡ count_by is_push (body_insts m) =
    ap (count_by is_push) (variables_are m) ∙ count_kept is_variable is_push (λ i none. rw none refl) (body_insts m) in
    ap (λ n. find (is_other_block m.heads m.globals n) (variables_of m)) counted
    ∙ found_in_body m (is_other_block m.heads m.globals (count_by is_push (body_insts m))) (no_block_fault m (count_by is_push (body_insts m)))

among_both : (xs ys : List ℕ) (id : ℕ) → is_among (xs ++ ys) id ≡ (is_among xs id || is_among ys id)
among_both xs ys id = list_any-append (λ other. other == id) xs ys

-- a list that has the same ids as another, behind others
pub same_behind : (front a b : List ℕ) → ((id : ℕ) → is_among a id ≡ is_among b id) → (id : ℕ) → is_among (front ++ a) id ≡ is_among (front ++ b) id
same_behind front a b same id = among_both front a id ∙ ap (λ t. is_among front id || t) (same id) ∙ sym (among_both front b id)

-- and what such lists hold
pub held_same : (gs : List Inst) (a b : List ℕ) → ((id : ℕ) → is_among a id ≡ is_among b id) → (id : ℕ) → is_held gs a id ≡ is_held gs b id
held_same [] a b same id = same id
held_same (t ∷ ts) a b same id =
    let before : (other : ℕ) → is_among (held ts a) other ≡ is_among (held ts b) other = held_same ts a b same in
    ap (λ x. is_among (if x then parts_of t ++ held ts a else held ts a) id) (before t.result)
    ∙ (elim (is_among (held ts b) t.result) as (λ x. is_among (if x then parts_of t ++ held ts a else held ts a) id ≡ is_among (if x then parts_of t ++ held ts b else held ts b) id) [
      | true ↦ same_behind (parts_of t) (held ts a) (held ts b) before id
      | false ↦ before id
    ])

or_nothing : (x : Bool) → x ≡ (x || false)
or_nothing true = refl
or_nothing false = refl

pub with_none : (rows : Rows) → AreKept rows → WithMore [] rows rows
with_none rows kept = record { variables = sym (append-nil (variables_in rows)); types = λ id. or_nothing (is_among rows.types.items id); kept = kept }

with_both : (xs ys : List Inst) (old mid new : Rows) → WithMore xs old mid → WithMore ys mid new → WithMore (xs ++ ys) old new
with_both xs ys old mid new first second = record {
  variables =
      second.variables
      ∙ ap (λ l. l ++ filter is_variable ys) first.variables
      ∙ append_assoc (variables_in old) (filter is_variable xs) (filter is_variable ys)
      ∙ ap (λ l. variables_in old ++ l) (sym (filter-append is_variable xs ys));
  types = λ id.
      second.types id
      ∙ ap (λ b. b || is_among (filter_map value_type ys) id) (first.types id)
      ∙ or_assoc (is_among old.types.items id) (is_among (filter_map value_type xs) id) (is_among (filter_map value_type ys) id)
      ∙ ap (λ b. is_among old.types.items id || b) (sym (ap (λ l. is_among l id) (filter_map-append value_type xs ys) ∙ among_both (filter_map value_type xs) (filter_map value_type ys) id));
  kept = second.kept;
}

-- with one more part
pub with_part : {X : Type 0} (f : X → List Inst) (xs : List X) (i : ℕ) (x : X) (insts : List Inst) (old mid new : Rows) → i < length xs → x ≡ get_or xs i x → insts ≡ f x → WithMore (flat_map f (take i xs)) old mid → WithMore insts mid new → WithMore (flat_map f (take (i + 1) xs)) old new
with_part {X} f xs i x insts old mid new inside is own first second =
    let all : flat_map f (take i xs) ++ insts ≡ flat_map f (take (i + 1) xs) =
    ap (λ l. flat_map f (take i xs) ++ l) (own ∙ ap f is ∙ sym (append-nil (f (get_or xs i x))) ∙ sym (flat_map-cons f (get_or xs i x) []))
    ∙ sym (flat_map-append f (take i xs) (get_or xs i x ∷ []))
    ∙ ap (flat_map f) (sym (take_more xs i x inside)) in
    subst (λ l. WithMore l old new) all (with_both (flat_map f (take i xs)) insts old mid new first second)

-- with one more instruction
pub with_next : (xs : List Inst) (i : ℕ) (x : Inst) (old mid new : Rows) → i < length xs → x ≡ get_or xs i x → WithMore (take i xs) old mid → WithMore (x ∷ []) mid new → WithMore (take (i + 1) xs) old new
with_next xs i x old mid new inside is first second =
    let all : take i xs ++ x ∷ [] ≡ take (i + 1) xs = ap (λ y. take i xs ++ y ∷ []) is ∙ sym (take_more xs i x inside) in
    subst (λ l. WithMore l old new) all (with_both (take i xs) (x ∷ []) old mid new first second)

abbrev insts_of : List Function → List Inst
insts_of fs = flat_map (λ (f : Function). flat_map (λ (b : Block). b.insts) f.blocks) fs

-- what was collected outside functions, with all that stands in them
pub values_are : (m : ModuleState) (fs : List Function) (old new : Rows) (outer : ℕ) → fs ≡ m.functions → variables_in old ≡ outer_variables m → outer ≡ length old.variables.items → ((id : ℕ) → is_among old.types.items id ≡ is_among (filter_map value_type m.globals) id) → WithMore (insts_of fs) old new → AreValues m (variables_in new) outer new.types.items
values_are m fs old new outer all front count same more = record {
  all = more.variables ∙ ap (λ l. l ++ filter is_variable (insts_of fs)) front ∙ ap (λ gs. outer_variables m ++ filter is_variable (insts_of gs)) all;
  front = count ∙ sym (length-map old.variables.items (λ (i : Bor Inst). i.now)) ∙ ap length front;
  same_types = λ id.
      more.types id
      ∙ ap (λ b. b || is_among (filter_map value_type (insts_of fs)) id) (same id)
      ∙ ap (λ gs. is_among (filter_map value_type m.globals) id || is_among (filter_map value_type (insts_of gs)) id) all
      ∙ sym (ap (λ l. is_among l id) (filter_map-append value_type m.globals (local_insts m)) ∙ among_both (filter_map value_type m.globals) (filter_map value_type (local_insts m)) id);
}
