-- An operation of so many operands has a value of so many alone.
use Rattle.std.proofs.Common.{◌≡◌, List, [], ◌∷◌, Option, Some}
use Rattle.spv_types.specs.Tree.{ValueTree}
use Rattle.op_semantics.specs.Value.{of_one, of_two, of_three, of_four}
use Rattle.int_lowering.specs.Operand.{Operand}
use Rattle.lowering_law.specs.Stands.{AllBy}

module _ (M : Operand → ValueTree → Type 0) where
  pub by_one_operand : (f : ValueTree → Option ValueTree) (xs : List Operand) (vs : List ValueTree) (r : ValueTree) (Q : List Operand → Type 0)
      → ((x : Operand) (v : ValueTree) → M x v → f v ≡ Some r → Q (x ∷ [])) → AllBy M xs vs → of_one f vs ≡ Some r → Q xs
  by_one_operand f xs [] r Q k m h = cc
  by_one_operand f [] (v ∷ vs) r Q k m h = absurd m
  by_one_operand f (x ∷ xs) (v ∷ (w ∷ vs)) r Q k m h = cc
  by_one_operand f (x ∷ (y ∷ xs)) (v ∷ []) r Q k m h = absurd m.1
  by_one_operand f (x ∷ []) (v ∷ []) r Q k m h = k x v m.0 h

  pub by_two_operands : (f : ValueTree → ValueTree → Option ValueTree) (xs : List Operand) (vs : List ValueTree) (r : ValueTree) (Q : List Operand → Type 0)
      → ((x y : Operand) (v w : ValueTree) → M x v → M y w → f v w ≡ Some r → Q (x ∷ y ∷ [])) → AllBy M xs vs → of_two f vs ≡ Some r → Q xs
  by_two_operands f xs [] r Q k m h = cc
  by_two_operands f [] (v ∷ vs) r Q k m h = absurd m
  by_two_operands f (x ∷ xs) (v ∷ []) r Q k m h = cc
  by_two_operands f (x ∷ []) (v ∷ (w ∷ vs)) r Q k m h = absurd m.1
  by_two_operands f (x ∷ (y ∷ xs)) (v ∷ (w ∷ (u ∷ vs))) r Q k m h = cc
  by_two_operands f (x ∷ (y ∷ (z ∷ xs))) (v ∷ (w ∷ [])) r Q k m h = absurd m.1.1
  by_two_operands f (x ∷ (y ∷ [])) (v ∷ (w ∷ [])) r Q k m h = k x y v w m.0 m.1.0 h

  pub by_three_operands : (f : ValueTree → ValueTree → ValueTree → Option ValueTree) (xs : List Operand) (vs : List ValueTree) (r : ValueTree) (Q : List Operand → Type 0)
      → ((x y z : Operand) (v w u : ValueTree) → M x v → M y w → M z u → f v w u ≡ Some r → Q (x ∷ y ∷ z ∷ [])) → AllBy M xs vs → of_three f vs ≡ Some r → Q xs
  by_three_operands f xs [] r Q k m h = cc
  by_three_operands f xs (v ∷ []) r Q k m h = cc
  by_three_operands f xs (v ∷ (w ∷ [])) r Q k m h = cc
  by_three_operands f xs (v ∷ (w ∷ (u ∷ (t ∷ vs)))) r Q k m h = cc
  by_three_operands f [] (v ∷ (w ∷ (u ∷ []))) r Q k m h = absurd m
  by_three_operands f (x ∷ []) (v ∷ (w ∷ (u ∷ []))) r Q k m h = absurd m.1
  by_three_operands f (x ∷ (y ∷ [])) (v ∷ (w ∷ (u ∷ []))) r Q k m h = absurd m.1.1
  by_three_operands f (x ∷ (y ∷ (z ∷ []))) (v ∷ (w ∷ (u ∷ []))) r Q k m h = k x y z v w u m.0 m.1.0 m.1.1.0 h
  by_three_operands f (x ∷ (y ∷ (z ∷ (a ∷ xs)))) (v ∷ (w ∷ (u ∷ []))) r Q k m h = absurd m.1.1.1

  pub by_four_operands : (f : ValueTree → ValueTree → ValueTree → ValueTree → Option ValueTree) (xs : List Operand) (vs : List ValueTree) (r : ValueTree) (Q : List Operand → Type 0)
      → ((x y z a : Operand) (v w u t : ValueTree) → M x v → M y w → M z u → M a t → f v w u t ≡ Some r → Q (x ∷ y ∷ z ∷ a ∷ [])) → AllBy M xs vs → of_four f vs ≡ Some r → Q xs
  by_four_operands f xs [] r Q k m h = cc
  by_four_operands f xs (v ∷ []) r Q k m h = cc
  by_four_operands f xs (v ∷ (w ∷ [])) r Q k m h = cc
  by_four_operands f xs (v ∷ (w ∷ (u ∷ []))) r Q k m h = cc
  by_four_operands f xs (v ∷ (w ∷ (u ∷ (t ∷ (q ∷ vs))))) r Q k m h = cc
  by_four_operands f [] (v ∷ (w ∷ (u ∷ (t ∷ [])))) r Q k m h = absurd m
  by_four_operands f (x ∷ []) (v ∷ (w ∷ (u ∷ (t ∷ [])))) r Q k m h = absurd m.1
  by_four_operands f (x ∷ (y ∷ [])) (v ∷ (w ∷ (u ∷ (t ∷ [])))) r Q k m h = absurd m.1.1
  by_four_operands f (x ∷ (y ∷ (z ∷ []))) (v ∷ (w ∷ (u ∷ (t ∷ [])))) r Q k m h = absurd m.1.1.1
  by_four_operands f (x ∷ (y ∷ (z ∷ (a ∷ [])))) (v ∷ (w ∷ (u ∷ (t ∷ [])))) r Q k m h = k x y z a v w u t m.0 m.1.0 m.1.1.0 m.1.1.1.0 h
  by_four_operands f (x ∷ (y ∷ (z ∷ (a ∷ (b ∷ xs))))) (v ∷ (w ∷ (u ∷ (t ∷ [])))) r Q k m h = absurd m.1.1.1.1
