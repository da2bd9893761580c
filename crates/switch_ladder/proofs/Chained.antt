-- One step of a chain, and of a list of those that begin one.
use Rattle.std.proofs.Common.{◌≡◌, ◌<◌, ◌≤◌, ◌+◌, ◌-◌, ◌&&◌, ℕ, suc, Bool, true, false, List, [], ◌∷◌, ◌++◌, filter, length, get_or, drop, if◌then◌else◌, Option, Some, None, is_none, ap, sym, ◌∙◌, arith}
use Rattle.std.specs.Option.{option_map_or}
use Rattle.std.proofs.lemmas.List.{append-nil, append_assoc, drop_more, drop_all}
use Rattle.structure_rules.specs.declared.graph.Node.{Node}
use Rattle.structure_rules.specs.Nesting.{Links, first_of}
use Rattle.structure_rules.specs.EdgeKinds.{is_enter}
use Rattle.structure_recover.proofs.Onward.{not_enter}
use Rattle.switch_ladder.specs.Ladder.{chain_of, fallen_from, begins_chain}

left_over : (n i : ℕ) → i < n → n - i ≡ suc (n - (i + 1))
left_over n i less = omega (arith, less)

none_left : (n i : ℕ) → n ≤ i → n - i ≡ 0
none_left n i past = omega (arith, past)

chain_step : (links : Links) (m t : ℕ) (o : Option ℕ) → first_of links t ≡ o → chain_of links (suc m) t ≡ t ∷ option_map_or (chain_of links m) o []
chain_step links m t o e = ap (λ x. t ∷ option_map_or (chain_of links m) x []) e

pub chain_more : (links : Links) (n i t u : ℕ) (done : List ℕ) → i < n → first_of links t ≡ Some u → done ++ chain_of links (n - i) t ≡ (done ++ t ∷ []) ++ chain_of links (n - (i + 1)) u
chain_more links n i t u done less e =
    ap (λ m. done ++ chain_of links m t) (left_over n i less) ∙ (ap (λ c. done ++ c) (chain_step links (n - (i + 1)) t (Some u) e) ∙ sym (append_assoc done (t ∷ []) (chain_of links (n - (i + 1)) u)))

pub chain_last : (links : Links) (n i t : ℕ) (done : List ℕ) → i < n → first_of links t ≡ None → done ++ chain_of links (n - i) t ≡ done ++ t ∷ []
chain_last links n i t done less e = ap (λ m. done ++ chain_of links m t) (left_over n i less) ∙ ap (λ c. done ++ c) (chain_step links (n - (i + 1)) t None e)

pub chain_end : (links : Links) (n i t : ℕ) (done : List ℕ) → n ≤ i → done ++ chain_of links (n - i) t ≡ done
chain_end links n i t done past = ap (λ m. done ++ chain_of links m t) (none_left n i past) ∙ append-nil done

pub ruleset chain_rules = (chain_more, chain_last, chain_end)

pub begins : (g : List Node) (s t : ℕ) → is_enter g s t ≡ true → begins_chain g s t ≡ is_none (fallen_from g t)
begins g s t e = ap (λ b. b && is_none (fallen_from g t)) e

pub begins_none : (g : List Node) (s t : ℕ) → is_enter g s t ≡ false → begins_chain g s t ≡ false
begins_none g s t e = ap (λ b. b && is_none (fallen_from g t)) e

-- those that pass behind the first i
pub pass_more : (p : ℕ → Bool) (ts : List ℕ) (i : ℕ) (old new all : List ℕ) (x : Bool) → i < length ts → x ≡ p (get_or ts i 0) → new ≡ old ++ (if x then get_or ts i 0 ∷ [] else []) → old ++ filter p (drop i ts) ≡ all → new ++ filter p (drop (i + 1) ts) ≡ all
pass_more p ts i old new all x less is more e =
    let t = get_or ts i 0 in
    let rest = filter p (drop (i + 1) ts) in
    ap (λ q. q ++ rest) more
    ∙ (append_assoc old (if x then t ∷ [] else []) rest
    ∙ (ap (λ q. old ++ q) (sym (ap (filter p) (drop_more ts i 0 less) ∙ step x (sym is))) ∙ e))
  where
    step : (y : Bool) → p (get_or ts i 0) ≡ y → filter p (get_or ts i 0 ∷ drop (i + 1) ts) ≡ (if y then get_or ts i 0 ∷ [] else []) ++ filter p (drop (i + 1) ts)
    step true e = ap (λ b. if b then get_or ts i 0 ∷ filter p (drop (i + 1) ts) else filter p (drop (i + 1) ts)) e
    step false e = ap (λ b. if b then get_or ts i 0 ∷ filter p (drop (i + 1) ts) else filter p (drop (i + 1) ts)) e

pub pass_end : (p : ℕ → Bool) (ts : List ℕ) (i : ℕ) (done all : List ℕ) → length ts ≤ i → done ++ filter p (drop i ts) ≡ all → done ≡ all
pass_end p ts i done all past e = sym (append-nil done) ∙ (ap (λ q. done ++ filter p q) (sym (drop_all i ts past)) ∙ e)

pub ruleset begin_rules = (begins, begins_none, not_enter)
