-- Other numbers of operands have no value.
use Rattle.std.proofs.Common.{◌≡◌, ◌<◌, ◌≤◌, List, [], ◌∷◌, refl, arith, length}
use Rattle.std.specs.Prelude.{Option, None}
use Rattle.std.specs.Borrow.{Bor}
use Rattle.spv_module.specs.declared.tree.Value.{Value}
use Rattle.spv_types.specs.Tree.{ValueTree}
use Rattle.op_semantics.specs.Value.{of_one, of_two, of_three, of_four}
use Rattle.value_ops.specs.References.{referred}

pub few_one : (f : ValueTree → Option ValueTree) (rs : List (Bor Value)) → length rs < 1 → of_one f (referred rs) ≡ None
few_one f [] few = refl
few_one f (a ∷ rs) few = absurd (omega arith)

pub more_one : (f : ValueTree → Option ValueTree) (rs : List (Bor Value)) → 2 ≤ length rs → of_one f (referred rs) ≡ None
more_one f [] more = refl
more_one f (a ∷ []) more = absurd (omega arith)
more_one f (a ∷ b ∷ rs) more = refl

pub few_two : (f : ValueTree → ValueTree → Option ValueTree) (rs : List (Bor Value)) → length rs < 2 → of_two f (referred rs) ≡ None
few_two f [] few = refl
few_two f (a ∷ []) few = refl
few_two f (a ∷ b ∷ rs) few = absurd (omega arith)

pub more_two : (f : ValueTree → ValueTree → Option ValueTree) (rs : List (Bor Value)) → 3 ≤ length rs → of_two f (referred rs) ≡ None
more_two f [] more = refl
more_two f (a ∷ []) more = refl
more_two f (a ∷ b ∷ []) more = absurd (omega arith)
more_two f (a ∷ b ∷ c ∷ rs) more = refl

pub few_three : (f : ValueTree → ValueTree → ValueTree → Option ValueTree) (rs : List (Bor Value)) → length rs < 3 → of_three f (referred rs) ≡ None
few_three f [] few = refl
few_three f (a ∷ []) few = refl
few_three f (a ∷ b ∷ []) few = refl
few_three f (a ∷ b ∷ c ∷ rs) few = absurd (omega arith)

pub more_three : (f : ValueTree → ValueTree → ValueTree → Option ValueTree) (rs : List (Bor Value)) → 4 ≤ length rs → of_three f (referred rs) ≡ None
more_three f [] more = refl
more_three f (a ∷ []) more = refl
more_three f (a ∷ b ∷ []) more = refl
more_three f (a ∷ b ∷ c ∷ []) more = absurd (omega arith)
more_three f (a ∷ b ∷ c ∷ d ∷ rs) more = refl

pub few_four : (f : ValueTree → ValueTree → ValueTree → ValueTree → Option ValueTree) (rs : List (Bor Value)) → length rs < 4 → of_four f (referred rs) ≡ None
few_four f [] few = refl
few_four f (a ∷ []) few = refl
few_four f (a ∷ b ∷ []) few = refl
few_four f (a ∷ b ∷ c ∷ []) few = refl
few_four f (a ∷ b ∷ c ∷ d ∷ rs) few = absurd (omega arith)

pub more_four : (f : ValueTree → ValueTree → ValueTree → ValueTree → Option ValueTree) (rs : List (Bor Value)) → 5 ≤ length rs → of_four f (referred rs) ≡ None
more_four f [] more = refl
more_four f (a ∷ []) more = refl
more_four f (a ∷ b ∷ []) more = refl
more_four f (a ∷ b ∷ c ∷ []) more = refl
more_four f (a ∷ b ∷ c ∷ d ∷ []) more = absurd (omega arith)
more_four f (a ∷ b ∷ c ∷ d ∷ e ∷ rs) more = refl

pub ruleset numbers = (few_one, more_one, few_two, more_two, few_three, more_three, few_four, more_four)
