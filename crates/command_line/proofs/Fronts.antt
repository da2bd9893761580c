-- The first of some words, and those behind it.
use Rattle.std.proofs.Common.{◌≡◌, ◌≤◌, ◌-◌, ℕ, List, [], ◌∷◌, Bor, arith, ap, drop, get_or, length, map, sym, take}
use Rattle.std.proofs.lemmas.List.{take_rest}

pub front : (ws : List (Bor (List ℕ))) (d : Bor (List ℕ)) → 1 ≤ length ws → map (λ (w : Bor (List ℕ)). w.now) ws ≡ (get_or ws 0 d).now ∷ map (λ (w : Bor (List ℕ)). w.now) (take (length ws - 1) (drop 1 ws))
front [] d h = absurd (omega (arith, h))
front (w ∷ ws) d h = ap (λ (l : List (Bor (List ℕ))). w.now ∷ map (λ (x : Bor (List ℕ)). x.now) l) (sym (take_rest (w ∷ ws) 1))
