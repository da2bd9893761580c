-- Regions as plain data.
use Rattle.std.specs.Prelude.{ℕ, Bool, true, false, List, [], ◌∷◌}
use Rattle.structure_recover.specs.declared.region.Exit.{Exit}

mutual
  pub data Region : Type 0 where
    ends : Exit → Region
    item : Item → Region → Region

  pub data Item : Type 0 where
    plain : (b : ℕ) → Item
    choose : (h : ℕ) → Region → Region → Item
    loose : (h : ℕ) → Region → Region → Item
    -- a loop without a continue construct, and one with it; the body comes last
    loop : (h : ℕ) → Region → Item
    loop_on : (h : ℕ) → Region → Region → Item
    switch : (h : ℕ) → Groups → Item

  pub data Groups : Type 0 where
    none : Groups
    group : (t : ℕ) → List ℕ → Bool → Region → Groups → Groups

-- the block for which an item stands, or the header of a loop
abbrev pub head : Item → ℕ
head (plain b) = b
head (choose h x y) = h
head (loose h x y) = h
head (loop h x) = h
head (loop_on h z x) = h
head (switch h gs) = h

abbrev pub is_loop : Item → Bool
is_loop (loop h x) = true
is_loop (loop_on h z x) = true
is_loop _ = false

abbrev pub targets : Groups → List ℕ
targets none = []
targets (group t labels default x gs) = t ∷ targets gs

-- these items, and the region behind them
abbrev pub before : List Item → Region → Region
before [] r = r
before (i ∷ is) r = item i (before is r)
