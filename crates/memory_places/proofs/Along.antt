-- Along indexes: types, bytes, and whether they are allowed. None of these asks what else a setting is.
use Rattle.std.proofs.Common.{◌≡◌, ◌<◌, ◌≤◌, ℕ, ◌+◌, ◌&&◌, Bool, true, false, List, [], ◌∷◌, min, refl, ap, sym, ◌∙◌, arith, length, drop, get_or}
use Rattle.std.proofs.Math.ListN.{drop_of_length-le}
use Rattle.std.proofs.lemmas.List.{drop_more}
use Rattle.traces.specs.Invocations.{Invocation}
use Rattle.module_semantics.specs.Setting.{Setting}
use Rattle.module_semantics.specs.Memory.{type_along, bytes_along, are_allowed, is_allowed, part_type, part_bytes}
use Rattle.memory_places.specs.Capped.{most_bytes}
use Rattle.memory_places.specs.Kernel.{Kernel, setting_for, bare, bare_with}

pub type_next : (s : Setting) (part next k d : ℕ) (is : List ℕ) (all : ℕ) → k < length is → type_along s part (drop k is) ≡ all → next ≡ part_type s part (get_or is k d) → type_along s next (drop (k + 1) is) ≡ all
type_next s part next k d is all inside so n = ap (λ t. type_along s t (drop (k + 1) is)) n ∙ (ap (type_along s part) (sym (drop_more is k d inside)) ∙ so)

pub type_end : (s : Setting) (part k : ℕ) (is : List ℕ) (all : ℕ) → length is ≤ k → type_along s part (drop k is) ≡ all → part ≡ all
type_end s part k is all past so = ap (type_along s part) (sym (drop_of_length-le is past)) ∙ so

pub ruleset type_rules = (type_next, type_end)

pub capped_right : (w p : ℕ) → min most_bytes (w + min most_bytes p) ≡ min most_bytes (w + p)
capped_right w p = omega arith

capped_more : (b p r : ℕ) → min most_bytes (min most_bytes (b + min most_bytes p) + r) ≡ min most_bytes (b + (p + r))
capped_more b p r = omega arith

pub bytes_next : (s : Setting) (part next bytes more here k d : ℕ) (is : List ℕ) (all : ℕ) → k < length is
    → min most_bytes (bytes + bytes_along s part (drop k is)) ≡ all
    → next ≡ part_type s part (get_or is k d) → here ≡ min most_bytes (part_bytes s part (get_or is k d)) → more ≡ min most_bytes (bytes + here)
    → min most_bytes (more + bytes_along s next (drop (k + 1) is)) ≡ all
bytes_next s part next bytes more here k d is all inside so n h m =
    ap (λ t. min most_bytes (more + bytes_along s t (drop (k + 1) is))) n
    ∙ (ap (λ b. min most_bytes (b + bytes_along s (part_type s part (get_or is k d)) (drop (k + 1) is))) (m ∙ ap (λ x. min most_bytes (bytes + x)) h)
    ∙ (capped_more bytes (part_bytes s part (get_or is k d)) (bytes_along s (part_type s part (get_or is k d)) (drop (k + 1) is))
    ∙ (ap (λ (l : List ℕ). min most_bytes (bytes + bytes_along s part l)) (sym (drop_more is k d inside)) ∙ so)))

pub bytes_end : (s : Setting) (part bytes k : ℕ) (is : List ℕ) (all : ℕ) → length is ≤ k → bytes ≤ most_bytes → min most_bytes (bytes + bytes_along s part (drop k is)) ≡ all → bytes ≡ all
bytes_end s part bytes k is all past small so =
    (let e : bytes ≡ min most_bytes (bytes + 0) = omega arith in e) ∙ (ap (λ (l : List ℕ). min most_bytes (bytes + bytes_along s part l)) (sym (drop_of_length-le is past)) ∙ so)

pub bytes_first : (b n : ℕ) → b ≡ 0 → min most_bytes (b + n) ≡ min most_bytes n
bytes_first b n e = omega (arith, e)

pub ruleset byte_rules = (bytes_next, bytes_end, bytes_first)

pub allowed_next : (s : Setting) (part next k d : ℕ) (is : List ℕ) (all : Bool) → k < length is → are_allowed s part (drop k is) ≡ all → is_allowed s part (get_or is k d) ≡ true
    → next ≡ part_type s part (get_or is k d) → are_allowed s next (drop (k + 1) is) ≡ all
allowed_next s part next k d is all inside so fine n =
    ap (λ t. are_allowed s t (drop (k + 1) is)) n
    ∙ (ap (λ (b : Bool). b && are_allowed s (part_type s part (get_or is k d)) (drop (k + 1) is)) (sym fine) ∙ (ap (are_allowed s part) (sym (drop_more is k d inside)) ∙ so))

pub allowed_stop : (s : Setting) (part k d : ℕ) (is : List ℕ) (all : Bool) → k < length is → are_allowed s part (drop k is) ≡ all → is_allowed s part (get_or is k d) ≡ false → false ≡ all
allowed_stop s part k d is all inside so not_fine =
    ap (λ (b : Bool). b && are_allowed s (part_type s part (get_or is k d)) (drop (k + 1) is)) (sym not_fine) ∙ (ap (are_allowed s part) (sym (drop_more is k d inside)) ∙ so)

pub allowed_end : (s : Setting) (part k : ℕ) (is : List ℕ) (all : Bool) → length is ≤ k → are_allowed s part (drop k is) ≡ all → true ≡ all
allowed_end s part k is all past so = ap (are_allowed s part) (sym (drop_of_length-le is past)) ∙ so

pub ruleset allowed_rules = (allowed_next, allowed_stop, allowed_end)

-- of each setting of a module the same
pub type_bare : (k : Kernel) (told : Invocation) (ty : ℕ) (is : List ℕ) → type_along (setting_for k told) ty is ≡ type_along (bare k.of) ty is
type_bare k told ty [] = refl
type_bare k told ty (i ∷ is) = type_bare k told (part_type (setting_for k told) ty i) is

pub bytes_bare : (k : Kernel) (told : Invocation) (ty : ℕ) (is : List ℕ) → bytes_along (setting_for k told) ty is ≡ bytes_along (bare k.of) ty is
bytes_bare k told ty [] = refl
bytes_bare k told ty (i ∷ is) = ap (λ n. part_bytes (setting_for k told) ty i + n) (bytes_bare k told (part_type (setting_for k told) ty i) is)

pub allowed_bare : (k : Kernel) (told : Invocation) (ty : ℕ) (is : List ℕ) → are_allowed (setting_for k told) ty is ≡ are_allowed (bare_with k.of k.values) ty is
allowed_bare k told ty [] = refl
allowed_bare k told ty (i ∷ is) = ap (λ b. is_allowed (setting_for k told) ty i && b) (allowed_bare k told (part_type (setting_for k told) ty i) is)

pub ruleset bare_rules = (type_bare, bytes_bare, allowed_bare)
