-- What types hold, with one more type before the others.
use Rattle.std.proofs.Common.{◌≡◌, ◌<◌, ◌≤◌, ◌-◌, ◌++◌, ◌&&◌, ◌||◌, ℕ, suc, Bool, true, false, List, ◌∷◌, length, drop, get_or, if◌then◌else◌, ap, sym, ◌∙◌, arith}
use Rattle.std.specs.Prelude.{◌==◌}
use Rattle.std.proofs.lemmas.List.Folds.{list_any-append}
use Rattle.std.proofs.Math.Seq.{drop-cons}
use Rattle.std.proofs.Math.Bool.{or_comm}
use Rattle.spv_module.specs.declared.inst.Inst.{Inst}
use Rattle.profile_rules.specs.Places.{is_among}
use Rattle.profile_rules.specs.TypeForm.{parts_of, held, is_held}

with_at : (b : Bool) (parts ids : List ℕ) (id : ℕ) → is_among (if b then parts ++ ids else ids) id ≡ (is_among ids id || (b && is_among parts id))
with_at true parts ids id = list_any-append (λ other. other == id) parts ids ∙ or_comm (is_among parts id) (is_among ids id)
with_at false parts ids id = or_comm false (is_among ids id)

pub held_step : (gs : List Inst) (types : List ℕ) (left : ℕ) (d : Inst) (old new : ℕ → Bool) → 0 < left → left ≤ length gs → ((id : ℕ) → old id ≡ is_held (drop left gs) types id) → ((id : ℕ) → new id ≡ (old id || (old (get_or gs (left - 1) d).result && is_among (parts_of (get_or gs (left - 1) d)) id))) → (id : ℕ) → new id ≡ is_held (drop (left - 1) gs) types id
held_step gs types left d old new some inside before now id =
    let g : Inst = get_or gs (left - 1) d in
    let rest : List Inst = drop left gs in
    let ids : List ℕ = held rest types in
    let less : left - 1 < length gs = omega arith in
    let same : suc (left - 1) ≡ left = omega arith in
    let all : drop (left - 1) gs ≡ g ∷ rest = drop-cons gs (left - 1) d less ∙ ap (λ n. g ∷ drop n gs) same in
    now id
    ∙ ap (λ b. b || (old g.result && is_among (parts_of g) id)) (before id)
    ∙ ap (λ b. is_among ids id || (b && is_among (parts_of g) id)) (before g.result)
    ∙ sym (with_at (is_among ids g.result) (parts_of g) ids id)
    ∙ ap (λ (l : List Inst). is_held l types id) (sym all)
