-- The slots that are built are in text order, and stay so where some are taken out.
use Rattle.std.proofs.Common.{◌≡◌, ◌+◌, ◌==◌, ◌&&◌, ◌∙◌, ap, ℕ, Bool, true, List, [], ◌∷◌, map, refl, inl, inr, arith}
use Rattle.std.specs.Prelude.{nat_le}
use Rattle.std.specs.List.{enumerate_from}
use Rattle.std.proofs.lemmas.Bool.{and_from, cases_Bool, le-leb}
use Rattle.spv_module.specs.declared.inst.Function.{Function}
use Rattle.use_chains.specs.declared.mention.Mention.{Mention}
use Rattle.use_chains.specs.Links.{Link, link_of, retargeted, retargeted_link, without_slot, AreLiveLinks}
use Rattle.use_chains.specs.Slots.{slots}
use Rattle.hoist_plan.specs.Kept.{are_rising_from, AreRising}
use Rattle.hoist_plan.proofs.Walking.{rising_kept}

all_rise : (n : ℕ) (ms : List Mention) → are_rising_from n (map link_of (enumerate_from n ms)) ≡ true
all_rise n [] = refl
all_rise n (m ∷ ms) = and_from (nat_le n n) (are_rising_from (n + 1) (map link_of (enumerate_from (n + 1) ms))) (le-leb n n (omega arith)) (all_rise (n + 1) ms)

pub live_rise : (f : Function) (reached : List Bool) (links : List Link) → AreLiveLinks f reached links → AreRising links
live_rise f reached links live = rw live.1.links_are (rising_kept _ 0 (map link_of (enumerate_from 0 (slots f reached))) (all_rise 0 (slots f reached)))

pub others_rise : (links : List Link) (slot : ℕ) → AreRising links → AreRising (without_slot links slot)
others_rise links slot rising = rising_kept _ 0 links rising

same_order : (n from to : ℕ) (ls : List Link) → are_rising_from n (map (retargeted_link from to) ls) ≡ are_rising_from n ls
same_order n from to [] = refl
same_order n from to (l ∷ ls) = elim (cases_Bool (l.id == from)) [
  | inl is ↦ rw is (ap (λ b. nat_le n l.slot && b) (same_order (l.slot + 1) from to ls))
  | inr other ↦ rw other (ap (λ b. nat_le n l.slot && b) (same_order (l.slot + 1) from to ls))
]

pub retargeted_rise : (links : List Link) (from to : ℕ) → AreRising links → AreRising (retargeted links from to)
retargeted_rise links from to rising = same_order 0 from to links ∙ rising

-- the slots that are built, or left where one is unlinked, or moved from an id to another
pub ruleset rising_rules = (live_rise, others_rise, retargeted_rise)
