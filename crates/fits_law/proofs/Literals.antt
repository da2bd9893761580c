-- What literal indexes lead to: none of them has its top bit set, and the value is what they lead to.
use Rattle.std.proofs.Common.{◌≡◌, ℕ, Bool, true, false, List, Option, Some, None, refl}
use Rattle.std.specs.Prelude.{if◌then◌else◌}
use Rattle.spv_types.specs.Tree.{ValueTree}
use Rattle.op_semantics.specs.Composite.{extracted, inserted, are_indexes, extracted_by, inserted_by}

by_test : (b : Bool) (o : Option ValueTree) (r : ValueTree) → (if b then o else None) ≡ Some r → (b ≡ true) × (o ≡ Some r)
by_test true o r e = (refl, e)
by_test false o r e = cc

pub extracted_along : (ls : List ℕ) (v r : ValueTree) → extracted_by ls v ≡ Some r → (are_indexes ls ≡ true) × (extracted ls v ≡ Some r)
extracted_along ls v r e = by_test (are_indexes ls) (extracted ls v) r e

pub inserted_along : (object : ValueTree) (ls : List ℕ) (v r : ValueTree) → inserted_by object ls v ≡ Some r → (are_indexes ls ≡ true) × (inserted object ls v ≡ Some r)
inserted_along object ls v r e = by_test (are_indexes ls) (inserted object ls v) r e
