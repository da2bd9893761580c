-- Sets of the ids that are operands.
use Rattle.std.proofs.Common.{◌≡◌, ◌==◌, ◌&&◌, ◌||◌, ℕ, ◌+◌, ◌<◌, ◌≤◌, Bool, true, false, List, refl, sym, ap, ◌∙◌, drop, length, get_or}
use Rattle.std.specs.List.{list_any}
use Rattle.std.proofs.lemmas.List.{drop_more}
use Rattle.std.proofs.Math.ListN.{drop_of_length-le}
use Rattle.std.proofs.Math.Bool.{or_assoc}
use Rattle.spv_module.specs.declared.inst.Inst.{Inst}
use Rattle.text_rules.specs.Constants.{Source}
use Rattle.text_rules.specs.Printed.{has_operand, has_operand_from, is_private, is_length_of, declares, needed_with, needed_from}
use Rattle.text_items.specs.State.{is_written_by, needed_first}

-- the words from one place on: that at the place, and those behind it
pub operand_more : (ids : ℕ → Bool) (id k : ℕ) (words : List ℕ) (d : ℕ) → k < length words → has_operand_from ids id k (drop k words) ≡ ((ids k && (get_or words k d == id)) || has_operand_from ids id (k + 1) (drop (k + 1) words))
operand_more ids id k words d inside = ap (has_operand_from ids id k) (drop_more words k d inside)

pub operand_end : (ids : ℕ → Bool) (id k : ℕ) (words : List ℕ) → length words ≤ k → has_operand_from ids id k (drop k words) ≡ false
operand_end ids id k words past = ap (has_operand_from ids id k) (drop_of_length-le words past)

pub ruleset operand_rules = (operand_more, operand_end)

or_nothing : (a : Bool) → (a || false) ≡ a
or_nothing true = refl
or_nothing false = refl

-- a set with the word at one place, against those from the next place on
pub operand_step : (ids : ℕ → Bool) (id k : ℕ) (words : List ℕ) (d : ℕ) (new old all : Bool) → k < length words → new ≡ (old || (ids k && (get_or words k d == id))) → (old || has_operand_from ids id k (drop k words)) ≡ all → (new || has_operand_from ids id (k + 1) (drop (k + 1) words)) ≡ all
operand_step ids id k words d new old all inside is so =
    ap (λ (b : Bool). b || has_operand_from ids id (k + 1) (drop (k + 1) words)) is
    ∙ (or_assoc old (ids k && (get_or words k d == id)) (has_operand_from ids id (k + 1) (drop (k + 1) words))
    ∙ (ap (λ (b : Bool). old || b) (sym (operand_more ids id k words d inside)) ∙ so))

pub operand_all : (ids : ℕ → Bool) (id k : ℕ) (words : List ℕ) (set all : Bool) → length words ≤ k → (set || has_operand_from ids id k (drop k words)) ≡ all → set ≡ all
operand_all ids id k words set all past so = sym (ap (λ (b : Bool). set || b) (operand_end ids id k words past) ∙ or_nothing set) ∙ so

or_by : (b c : Bool) → (elim b [ true ↦ true | false ↦ c ]) ≡ (b || c)
or_by true c = refl
or_by false c = refl

-- one more constant, as a test
pub needed_is : (s : Source) (needed : ℕ → Bool) (g : Inst) (id : ℕ) → needed_with s needed g id ≡ (needed id || (declares s needed g && has_operand g id))
needed_is s needed g id = or_by (needed id) (declares s needed g && has_operand g id)

-- from one place on, where a set holds what those behind it need
pub earlier_more : (s : Source) (first set : ℕ → Bool) (gs : List Inst) (k : ℕ) (d : Inst) (id : ℕ) → k < length gs → ((n : ℕ) → set n ≡ needed_from s first (drop (k + 1) gs) n) → needed_with s set (get_or gs k d) id ≡ needed_from s first (drop k gs) id
earlier_more s first set gs k d id inside same =
    let sets : set ≡ needed_from s first (drop (k + 1) gs) = λ i n. same n i in
    ap (λ (f : ℕ → Bool). needed_with s f (get_or gs k d) id) sets ∙ ap (λ (rest : List Inst). needed_from s first rest id) (sym (drop_more gs k d inside))

pub earlier_end : (s : Source) (first : ℕ → Bool) (gs : List Inst) (k id : ℕ) → length gs ≤ k → needed_from s first (drop k gs) id ≡ first id
earlier_end s first gs k id past = ap (λ (rest : List Inst). needed_from s first rest id) (drop_of_length-le gs past)

pub ruleset needed_rules = (earlier_more, earlier_end)

-- what the text needs, from the sets one after the other
pub needed_all : (s : Source) (operand_ids : ℕ → Bool) (mentions : List ℕ) (gs : List Inst) (none one two three all : ℕ → Bool) → gs ≡ s.of.globals
    → ((n : ℕ) → none n ≡ false)
    → ((n : ℕ) → one n ≡ (none n || list_any (λ (m : ℕ). m == n) mentions))
    → ((n : ℕ) → two n ≡ (one n || list_any (is_length_of n) gs))
    → ((n : ℕ) → three n ≡ (two n || list_any (λ (g : Inst). is_private g && (is_written_by operand_ids g && has_operand g n)) gs))
    → ((n : ℕ) → all n ≡ needed_from s three gs n)
    → (n : ℕ) → all n ≡ needed_from s (needed_first s operand_ids mentions) s.of.globals n
needed_all s operand_ids mentions gs none one two three all same empty first second third last n =
    let inits : List Inst → ℕ → Bool = λ l m. list_any (λ (g : Inst). is_private g && (is_written_by operand_ids g && has_operand g m)) l in
    let at : (m : ℕ) → three m ≡ needed_first s operand_ids mentions m =
    λ m. third m ∙ (ap (λ (b : Bool). b || inits gs m) (second m ∙ ap (λ (b : Bool). b || list_any (is_length_of m) gs) (first m ∙ ap (λ (b : Bool). b || list_any (λ (k : ℕ). k == m) mentions) (empty m)))
    ∙ (or_assoc (list_any (λ (k : ℕ). k == m) mentions) (list_any (is_length_of m) gs) (inits gs m)
    ∙ ap (λ (l : List Inst). list_any (λ (k : ℕ). k == m) mentions || (list_any (is_length_of m) l || inits l m)) same)) in
    let sets : three ≡ needed_first s operand_ids mentions = λ i m. at m i in
    last n ∙ (ap (λ (l : List Inst). needed_from s three l n) same ∙ ap (λ (f : ℕ → Bool). needed_from s f s.of.globals n) sets)
