-- What instructions and functions mention, one after another.
use Rattle.std.proofs.Common.{◌≡◌, ◌<◌, ◌≤◌, ℕ, ◌+◌, ◌==◌, ◌&&◌, ◌||◌, Bool, true, false, cond, List, [], ◌∷◌, ◌++◌, refl, ap, sym, ◌∙◌, length, drop, take, get_or}
use Rattle.std.specs.List.{list_any}
use Rattle.std.proofs.Math.Bool.{or_assoc}
use Rattle.std.proofs.Math.ListN.{drop_of_length-le}
use Rattle.std.proofs.lemmas.List.{drop_more, append-nil}
use Rattle.std.proofs.lemmas.List.Elements.{filter_more}
use Rattle.std.proofs.lemmas.List.Folds.{list_any-append}
use Rattle.spv_module.specs.declared.inst.Function.{Function}
use Rattle.spv_index.specs.Locals.{insts_of}
use Rattle.profile_rules.specs.Calls.{id_of}
use Rattle.module_semantics.specs.Setting.{has_operand}
use Rattle.memory_places.specs.Mentions.{mentions_from, mention, with_ids}

or_nothing : (a : Bool) → (a || false) ≡ a
or_nothing true = refl
or_nothing false = refl

-- a set with the word at one place, against those from the next place on
pub word_next : (ids : ℕ → Bool) (id k : ℕ) (words : List ℕ) (d : ℕ) (new old all : Bool) → k < length words → new ≡ (old || ((get_or words k d == id) && ids k))
    → (old || mentions_from ids id k (drop k words)) ≡ all → (new || mentions_from ids id (k + 1) (drop (k + 1) words)) ≡ all
word_next ids id k words d new old all inside is so =
    ap (λ (b : Bool). b || mentions_from ids id (k + 1) (drop (k + 1) words)) is
    ∙ (or_assoc old ((get_or words k d == id) && ids k) (mentions_from ids id (k + 1) (drop (k + 1) words))
    ∙ (ap (λ (l : List ℕ). old || mentions_from ids id k l) (sym (drop_more words k d inside)) ∙ so))

pub word_end : (ids : ℕ → Bool) (id k : ℕ) (words : List ℕ) (set all : Bool) → length words ≤ k → (set || mentions_from ids id k (drop k words)) ≡ all → set ≡ all
word_end ids id k words set all past so =
    sym (ap (λ (l : List ℕ). set || mentions_from ids id k l) (drop_of_length-le words past) ∙ or_nothing set) ∙ so

pub ruleset word_rules = (word_next, word_end)

-- one more function, that is called or not
pub mention_next : (called : ℕ → Bool) (fs : List Function) (k : ℕ) (d : Function) (id : ℕ) (first old new : Bool) → k < length fs → called (id_of (get_or fs k d)) ≡ true
    → old ≡ (first || mention (with_ids called (take k fs)) id) → new ≡ (old || list_any (has_operand id) (insts_of (get_or fs k d)))
    → new ≡ (first || mention (with_ids called (take (k + 1) fs)) id)
mention_next called fs k d id first old new inside is o n =
    let before : List Function = with_ids called (take k fs) in
    let f : Function = get_or fs k d in
    let one : with_ids called (take (k + 1) fs) ≡ before ++ f ∷ [] =
    filter_more (λ (g : Function). called (id_of g)) fs k d inside ∙ ap (λ (b : Bool). before ++ cond b (f ∷ []) []) is in
    let here : mention (before ++ f ∷ []) id ≡ (mention before id || list_any (has_operand id) (insts_of f)) =
    list_any-append (λ (g : Function). list_any (has_operand id) (insts_of g)) before (f ∷ []) ∙ ap (λ (b : Bool). mention before id || b) (or_nothing (list_any (has_operand id) (insts_of f))) in
    n
    ∙ (ap (λ (b : Bool). b || list_any (has_operand id) (insts_of f)) o
    ∙ (or_assoc first (mention before id) (list_any (has_operand id) (insts_of f))
    ∙ ap (λ (b : Bool). first || b) (sym here ∙ ap (λ (l : List Function). mention l id) (sym one))))

pub mention_kept : (called : ℕ → Bool) (fs : List Function) (k : ℕ) (d : Function) → k < length fs → called (id_of (get_or fs k d)) ≡ false
    → with_ids called (take (k + 1) fs) ≡ with_ids called (take k fs)
mention_kept called fs k d inside is =
    filter_more (λ (g : Function). called (id_of g)) fs k d inside
    ∙ (ap (λ (b : Bool). with_ids called (take k fs) ++ cond b (get_or fs k d ∷ []) []) is ∙ append-nil (with_ids called (take k fs)))

pub ruleset function_rules = (mention_next, mention_kept)
