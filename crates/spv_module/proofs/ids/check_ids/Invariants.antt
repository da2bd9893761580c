use Rattle.std.proofs.Common.{◌≡◌, ◌<◌, ◌+◌, ℕ, length, get_or, slice_index, true, false}
use Rattle.spv_words.specs.Words.{nth_inst}
use Rattle.spv_module.specs.Ids.{HasIdOut, IsRepeated, results}
use Rattle.spv_module.proofs.ids.check_ids.Given as goal

abbrev pub invariant-loop-i : goal.invariant-loop-i
invariant-loop-i l = record {
  size : length l.seen.items ≡ slice_index l.rows 3 + 1;
  seen : (r : ℕ) → get_or l.seen.items r false ≡ true → (j : ℕ) × (j < l.i) × (get_or (results l.rows) j 0 ≡ r);
  marked : (j : ℕ) → j < l.i → 0 < get_or (results l.rows) j 0 → get_or l.seen.items (get_or (results l.rows) j 0) false ≡ true;
  within : (k : ℕ) → k < l.i → HasIdOut l.rows (nth_inst l.rows k) → ⊥;
  once : (k : ℕ) → k < l.i → IsRepeated (results l.rows) k → ⊥;
}
