use Rattle.std.proofs.Common.{◌<◌, ◌^◌, ℕ, List, length, drop, length-drop, sym, subst, arith}
use Rattle.access_paths.proofs.indexes.few_indexes.Goals as goal

fewer : (xs : List ℕ) → length xs < 2 ^ 32 → length (drop 1 xs) < 2 ^ 32
fewer xs few = omega (arith, few, length-drop 1 xs)

pub returns-clause-few : goal.returns-clause-few
returns-clause-few c = subst (λ (xs : List ℕ). length xs < 2 ^ 32) (sym c.behind_first.ensures) (fewer c.args.chain.now.args c.requires)
