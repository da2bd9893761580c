-- Each operation whose result is a vector, as it is written, says the value of the operation.
use Rattle.std.proofs.Common.{◌≡◌, ℕ, ◌≤◌, ◌==◌, Bool, false, List, [], ◌∷◌, Option, Some, None, inl, inr, refl, sym, ap, ◌∙◌, subst}
use Rattle.std.specs.Prelude.{is_none, if◌then◌else◌}
use Rattle.spv_module.specs.declared.tree.Elem.{Elem}
use Rattle.spv_module.specs.declared.tree.Elem.TheVariants as elem
use Rattle.spv_types.specs.Tree.{Tree, ValueTree, truth, word, many, ValueTrees}
use Rattle.glsl_ast.specs.Tree.{Text, Expr, choose}
use Rattle.op_semantics.specs.declared.operation.Unary.{Unary}
use Rattle.op_semantics.specs.declared.operation.Unary.TheVariants.{SNegate, Not, BitReverse, BitCount, SAbs, SSign, FindILsb, FindSMsb, FindUMsb}
use Rattle.op_semantics.specs.declared.operation.Binary.{Binary}
use Rattle.op_semantics.specs.declared.operation.Binary.TheVariants.{IAdd, ISub, IMul, UDiv, SDiv, UMod, SRem, SMod, ShiftRightLogical, ShiftRightArithmetic, ShiftLeftLogical, BitwiseOr, BitwiseXor, BitwiseAnd, UMin, SMin, UMax, SMax}
use Rattle.op_semantics.specs.declared.operation.Operation.{Operation}
use Rattle.op_semantics.specs.declared.operation.Operation.TheVariants as op
use Rattle.op_semantics.specs.Component.{listed, composite, by_one, by_two, by_three, unary_scalar, binary_scalar, chosen}
use Rattle.op_semantics.specs.Value.{value_of_operation}
use Rattle.int_lowering.specs.declared.basic.BasicType.{BasicType}
use Rattle.int_lowering.specs.Operand.{Operand, converted}
use Rattle.vec_lowering.specs.Component.{by_component, on_basic}
use Rattle.traces.specs.Outcomes.{Result}
use Rattle.glsl_semantics.specs.Shapes.{vector, Typed, typed}
use Rattle.glsl_semantics.specs.States.{State}
use Rattle.glsl_semantics.specs.Expressions.{Program, Argument}
use Rattle.fits_law.proofs.Parts.{listed_back}
use Rattle.lowering_law.specs.Says.{Says}
use Rattle.lowering_law.specs.Numbers.{IsNumeric}
use Rattle.lowering_law.specs.BuiltIns.{NoneDeclared}
use Rattle.lowering_law.specs.Stands.{IsVectorOf, MeansVector, MeansAny, AllMeanAny, StandsVector, vector_type}
use Rattle.lowering_law.specs.Wanted.{IsOfNumbers, OnVectors}
use Rattle.lowering_law.proofs.Counts.{by_one_operand, by_two_operands, by_three_operands}
use Rattle.lowering_law.proofs.Vectors.{flip_says, vector_says}
use Rattle.lowering_law.proofs.Components.{not_vector, unary_one, binary_two, by_component_says}
use Rattle.lowering_law.proofs.Whole.{words_listed, choice_says, copied_says, quotient_says, remainder_says}
use Rattle.lowering_law.proofs.Spread.{minus_says, left_says, right_says, signed_right_says}

as_it_is : (g : Elem) (n : ℕ) (e : Expr) → converted (vector_type g n) g e ≡ e
as_it_is elem.Bool n e = refl
as_it_is elem.Int n e = refl
as_it_is elem.Uint n e = refl

back : (vs : ValueTrees) → composite (listed vs) ≡ many vs
back vs = ap many (listed_back vs)

module _ (p : Program) (none : NoneDeclared p) (calls : Text → List Argument → State → Result (Option Typed × State)) (s : State) (g : Elem) (n : ℕ) (more : (n == 1) ≡ false) (four : n ≤ 4) where
  abbrev S : Expr → Typed → Type 0
  S = Says p calls s

  abbrev Gives : Expr → ValueTree → Type 0
  Gives e r = IsVectorOf g n r → S e (typed (vector g n) r)

  abbrev M : Operand → ValueTree → Type 0
  M = MeansAny p calls s n

  stands : (x : Operand) (vs : ValueTrees) → IsOfNumbers x → (m : MeansVector p calls s x n (listed vs)) → StandsVector p calls s x m.elem n vs
  stands x vs of m =
      let he : IsNumeric m.elem = subst (λ (ty : BasicType). IsNumeric ty.elem) m.of_type of.numbers in
      record { of_type = m.of_type; says = subst (λ v. S x.expr (typed (vector m.elem n) v)) (back vs) m.says; no_word = of.no_word; is_numeric = he; words = words_listed m.elem vs he m.fit; count = m.count }

  one_by_component : (o : Unary) (t : Tree) (l : List ℕ) (x : Operand) (v r : ValueTree) → M x v → by_one (unary_scalar o) v ≡ Some r → Gives (by_component (op.Unary o) g n (x ∷ [])) r
  one_by_component o t l x v r m h = by_component_says p none calls s g n more four (op.Unary o) t l (x ∷ []) (v ∷ []) r tt (m, tt) h

  both_by_component : (o : Binary) (t : Tree) (l : List ℕ) (x y : Operand) (v w r : ValueTree) → M x v → M y w → by_two (binary_scalar o) v w ≡ Some r → Gives (by_component (op.Binary o) g n (x ∷ y ∷ [])) r
  both_by_component o t l x y v w r mx my h = by_component_says p none calls s g n more four (op.Binary o) t l (x ∷ y ∷ []) (v ∷ w ∷ []) r tt (mx, (my, tt)) h

  on_vector : (o : Unary) (t : Tree) (l : List ℕ) (x : Operand) (vs : ValueTrees) (r : ValueTree) → IsNumeric g → IsOfNumbers x → MeansVector p calls s x n (listed vs) → by_one (unary_scalar o) (many vs) ≡ Some r → Gives (on_basic (op.Unary o) (vector_type g n) (x ∷ [])) r
  on_vector SNegate t l x vs r hg hx m h is = minus_says p calls s g m.elem n x vs r hg more (stands x vs hx m) h
  on_vector Not t l x vs r hg hx m h is = flip_says p calls s g m.elem n x vs r hg more (stands x vs hx m) h
  on_vector BitReverse t l x vs r hg hx m h is = one_by_component BitReverse t l x (many vs) r m h is
  on_vector BitCount t l x vs r hg hx m h is = one_by_component BitCount t l x (many vs) r m h is
  on_vector SAbs t l x vs r hg hx m h is = one_by_component SAbs t l x (many vs) r m h is
  on_vector SSign t l x vs r hg hx m h is = one_by_component SSign t l x (many vs) r m h is
  on_vector FindILsb t l x vs r hg hx m h is = one_by_component FindILsb t l x (many vs) r m h is
  on_vector FindSMsb t l x vs r hg hx m h is = one_by_component FindSMsb t l x (many vs) r m h is
  on_vector FindUMsb t l x vs r hg hx m h is = one_by_component FindUMsb t l x (many vs) r m h is

  unary_case : (o : Unary) (t : Tree) (l : List ℕ) (x : Operand) (v r : ValueTree) → M x v → by_one (unary_scalar o) v ≡ Some r → OnVectors (op.Unary o) g n (x ∷ []) → Gives (on_basic (op.Unary o) (vector_type g n) (x ∷ [])) r
  unary_case o t l x (many vs) r m h on is = on_vector o t l x vs r on.0 on.1 m h is
  unary_case o t l x (word a) r m h on is = absurd (not_vector g n r (unary_one o (word a) r h) is)
  unary_case o t l x (truth a) r m h on is = absurd (not_vector g n r (unary_one o (truth a) r h) is)

  on_two : (o : Binary) (t : Tree) (l : List ℕ) (x y : Operand) (vs ws : ValueTrees) (r : ValueTree) → IsNumeric g → IsOfNumbers x → IsOfNumbers y → MeansVector p calls s x n (listed vs) → MeansVector p calls s y n (listed ws)
      → by_two (binary_scalar o) (many vs) (many ws) ≡ Some r → Gives (on_basic (op.Binary o) (vector_type g n) (x ∷ y ∷ [])) r
  on_two IAdd t l x y vs ws r hg hx hy mx my h is = vector_says p calls s g mx.elem my.elem hg n more x y vs ws (stands x vs hx mx) (stands y ws hy my) IAdd r tt h
  on_two ISub t l x y vs ws r hg hx hy mx my h is = vector_says p calls s g mx.elem my.elem hg n more x y vs ws (stands x vs hx mx) (stands y ws hy my) ISub r tt h
  on_two IMul t l x y vs ws r hg hx hy mx my h is = vector_says p calls s g mx.elem my.elem hg n more x y vs ws (stands x vs hx mx) (stands y ws hy my) IMul r tt h
  on_two BitwiseOr t l x y vs ws r hg hx hy mx my h is = vector_says p calls s g mx.elem my.elem hg n more x y vs ws (stands x vs hx mx) (stands y ws hy my) BitwiseOr r tt h
  on_two BitwiseXor t l x y vs ws r hg hx hy mx my h is = vector_says p calls s g mx.elem my.elem hg n more x y vs ws (stands x vs hx mx) (stands y ws hy my) BitwiseXor r tt h
  on_two BitwiseAnd t l x y vs ws r hg hx hy mx my h is = vector_says p calls s g mx.elem my.elem hg n more x y vs ws (stands x vs hx mx) (stands y ws hy my) BitwiseAnd r tt h
  on_two UDiv t l x y vs ws r hg hx hy mx my h is = quotient_says p calls s g mx.elem my.elem hg n more x y vs ws (stands x vs hx mx) (stands y ws hy my) r is h
  on_two UMod t l x y vs ws r hg hx hy mx my h is = remainder_says p calls s g mx.elem my.elem hg n more x y vs ws (stands x vs hx mx) (stands y ws hy my) r is h
  on_two ShiftLeftLogical t l x y vs ws r hg hx hy mx my h is = left_says p calls s mx.elem my.elem n more x y vs ws (stands x vs hx mx) (stands y ws hy my) g r hg h
  on_two ShiftRightLogical t l x y vs ws r hg hx hy mx my h is = right_says p calls s mx.elem my.elem n more x y vs ws (stands x vs hx mx) (stands y ws hy my) g r hg is h
  on_two ShiftRightArithmetic t l x y vs ws r hg hx hy mx my h is = signed_right_says p calls s mx.elem my.elem n more x y vs ws (stands x vs hx mx) (stands y ws hy my) g r hg is h
  on_two SDiv t l x y vs ws r hg hx hy mx my h is = both_by_component SDiv t l x y (many vs) (many ws) r mx my h is
  on_two SRem t l x y vs ws r hg hx hy mx my h is = both_by_component SRem t l x y (many vs) (many ws) r mx my h is
  on_two SMod t l x y vs ws r hg hx hy mx my h is = both_by_component SMod t l x y (many vs) (many ws) r mx my h is
  on_two UMin t l x y vs ws r hg hx hy mx my h is = both_by_component UMin t l x y (many vs) (many ws) r mx my h is
  on_two SMin t l x y vs ws r hg hx hy mx my h is = both_by_component SMin t l x y (many vs) (many ws) r mx my h is
  on_two UMax t l x y vs ws r hg hx hy mx my h is = both_by_component UMax t l x y (many vs) (many ws) r mx my h is
  on_two SMax t l x y vs ws r hg hx hy mx my h is = both_by_component SMax t l x y (many vs) (many ws) r mx my h is

  binary_case : (o : Binary) (t : Tree) (l : List ℕ) (x y : Operand) (v w r : ValueTree) → M x v → M y w → by_two (binary_scalar o) v w ≡ Some r → OnVectors (op.Binary o) g n (x ∷ y ∷ []) → Gives (on_basic (op.Binary o) (vector_type g n) (x ∷ y ∷ [])) r
  binary_case o t l x y (many vs) (many ws) r mx my h on is = on_two o t l x y vs ws r on.0 on.1 on.2 mx my h is
  binary_case o t l x y (many vs) (word b) r mx my h on is = absurd (binary_two o (many vs) (word b) r h).0
  binary_case o t l x y (many vs) (truth b) r mx my h on is = absurd (binary_two o (many vs) (truth b) r h).0
  binary_case o t l x y (word a) w r mx my h on is = absurd (not_vector g n r (binary_two o (word a) w r h).2 is)
  binary_case o t l x y (truth a) w r mx my h on is = absurd (not_vector g n r (binary_two o (truth a) w r h).2 is)

  -- a choice by one bool
  by_one_bool : (x y z : Operand) (b : Bool) (w u r : ValueTree) → M x (truth b) → M y w → M z u → by_three chosen (truth b) w u ≡ Some r → y.ty ≡ vector_type g n → z.ty ≡ vector_type g n → S (choose x.expr y.expr z.expr) (typed (vector g n) r)
  by_one_bool x y z b (many vs) (many ws) r mx my mz h ty tz =
      let both : by_three chosen (truth b) (composite (listed vs)) (composite (listed ws)) ≡ Some r =
      ap (λ a. by_three chosen (truth b) a (composite (listed ws))) (back vs) ∙ (ap (λ a. by_three chosen (truth b) (many vs) a) (back ws) ∙ h) in
      choice_says p none calls s g n x y z b (listed vs) (listed ws) r mx my (ap (λ (ty : BasicType). ty.elem) (sym my.of_type ∙ ty)) mz (ap (λ (ty : BasicType). ty.elem) (sym mz.of_type ∙ tz)) both
  by_one_bool x y z b (many vs) (word c) r mx my mz h ty tz = let clash : None ≡ Some n = ap (λ (ty : BasicType). ty.size) (sym mz.0.of_type ∙ tz) in cc
  by_one_bool x y z b (many vs) (truth c) r mx my mz h ty tz = let clash : None ≡ Some n = ap (λ (ty : BasicType). ty.size) (sym mz.0 ∙ tz) in cc
  by_one_bool x y z b (word c) u r mx my mz h ty tz = let clash : None ≡ Some n = ap (λ (ty : BasicType). ty.size) (sym my.0.of_type ∙ ty) in cc
  by_one_bool x y z b (truth c) u r mx my mz h ty tz = let clash : None ≡ Some n = ap (λ (ty : BasicType). ty.size) (sym my.0 ∙ ty) in cc

  abbrev choice : Operand → Operand → Operand → BasicType → Expr
  choice x y z ty = if is_none ty.size then choose x.expr y.expr z.expr else by_component op.Select g n (x ∷ y ∷ z ∷ [])

  select_case : (t : Tree) (l : List ℕ) (x y z : Operand) (v w u r : ValueTree) → M x v → M y w → M z u → by_three chosen v w u ≡ Some r → OnVectors op.Select g n (x ∷ y ∷ z ∷ []) → Gives (on_basic op.Select (vector_type g n) (x ∷ y ∷ z ∷ [])) r
  select_case t l x y z (many vs) w u r mx my mz h on is =
      subst (λ ty. S (choice x y z ty) (typed (vector g n) r)) (sym mx.of_type)
      (by_component_says p none calls s g n more four op.Select t l (x ∷ y ∷ z ∷ []) (many vs ∷ w ∷ u ∷ []) r (ap (λ (ty : BasicType). ty.size) mx.of_type, on.0, on.1) (mx, (my, (mz, tt))) h is)
  select_case t l x y z (truth b) w u r mx my mz h on is = subst (λ ty. S (choice x y z ty) (typed (vector g n) r)) (sym mx.0) (by_one_bool x y z b w u r mx my mz h on.0 on.1)
  select_case t l x y z (word a) w u r mx my mz h on is = cc

  copy_case : (x : Operand) (v r : ValueTree) → M x v → Some v ≡ Some r → OnVectors op.Copy g n (x ∷ []) → Gives (on_basic op.Copy (vector_type g n) (x ∷ [])) r
  copy_case x (many vs) r m h (inl same) is =
      let whole : composite (listed vs) ≡ r = back vs ∙ (let it : many vs ≡ r = cc in it) in
      let of : m.elem ≡ g = ap (λ (ty : BasicType). ty.elem) (sym m.of_type ∙ same) in
      subst (λ (ty : BasicType). S (converted (vector_type g n) ty.elem x.expr) (typed (vector g n) r)) (sym same)
      (subst (λ e. S e (typed (vector g n) r)) (sym (as_it_is g n x.expr)) (subst (λ v. S x.expr (typed (vector g n) v)) whole (subst (λ e. S x.expr (typed (vector e n) (composite (listed vs)))) of m.says)))
  copy_case x (many vs) r m h (inr numbers) is =
      let whole : composite (listed vs) ≡ r = back vs ∙ (let it : many vs ≡ r = cc in it) in
      subst (λ v. S (converted (vector_type g n) x.ty.elem x.expr) (typed (vector g n) v)) whole
      (copied_says p none calls s g n x (listed vs) numbers.0 more m (subst (λ (ty : BasicType). IsNumeric ty.elem) m.of_type numbers.1))
  copy_case x (word a) r m h on is = let it : r ≡ word a = cc in absurd (subst (IsVectorOf g n) it is)
  copy_case x (truth a) r m h on is = let it : r ≡ truth a = cc in absurd (subst (IsVectorOf g n) it is)

  -- an operation whose result is a vector, applied to operands that stand for vectors and scalars, says the value of the operation, where it has one of the type of the result
  pub vectors_say : (o : Operation) (t : Tree) (l : List ℕ) (xs : List Operand) (vs : List ValueTree) (r : ValueTree) → OnVectors o g n xs → AllMeanAny p calls s n xs vs → value_of_operation o t l vs ≡ Some r → Gives (on_basic o (vector_type g n) xs) r
  vectors_say (op.Unary o) t l xs vs r on m h = by_one_operand M (by_one (unary_scalar o)) xs vs r (λ xs. OnVectors (op.Unary o) g n xs → Gives (on_basic (op.Unary o) (vector_type g n) xs) r) (λ x v mx h on is. unary_case o t l x v r mx h on is) m h on
  vectors_say (op.Binary o) t l xs vs r on m h = by_two_operands M (by_two (binary_scalar o)) xs vs r (λ xs. OnVectors (op.Binary o) g n xs → Gives (on_basic (op.Binary o) (vector_type g n) xs) r) (λ x y v w mx my h on is. binary_case o t l x y v w r mx my h on is) m h on
  vectors_say (op.Comparison o) t l xs vs r on m h = by_component_says p none calls s g n more four (op.Comparison o) t l xs vs r tt m h
  vectors_say (op.Logical o) t l xs vs r on m h = by_component_says p none calls s g n more four (op.Logical o) t l xs vs r tt m h
  vectors_say op.LogicalNot t l xs vs r on m h = by_component_says p none calls s g n more four op.LogicalNot t l xs vs r tt m h
  vectors_say (op.Clamp o) t l xs vs r on m h = by_component_says p none calls s g n more four (op.Clamp o) t l xs vs r tt m h
  vectors_say op.BitFieldInsert t l xs vs r on m h = by_component_says p none calls s g n more four op.BitFieldInsert t l xs vs r tt m h
  vectors_say op.BitFieldSExtract t l xs vs r on m h = by_component_says p none calls s g n more four op.BitFieldSExtract t l xs vs r tt m h
  vectors_say op.BitFieldUExtract t l xs vs r on m h = by_component_says p none calls s g n more four op.BitFieldUExtract t l xs vs r tt m h
  vectors_say op.Select t l xs vs r on m h = by_three_operands M (by_three chosen) xs vs r (λ xs. OnVectors op.Select g n xs → Gives (on_basic op.Select (vector_type g n) xs) r) (λ x y z v w u mx my mz h on is. select_case t l x y z v w u r mx my mz h on is) m h on
  vectors_say op.Copy t l xs vs r on m h = by_one_operand M Some xs vs r (λ xs. OnVectors op.Copy g n xs → Gives (on_basic op.Copy (vector_type g n) xs) r) (λ x v mx h on is. copy_case x v r mx h on is) m h on
  vectors_say op.Any t l xs vs r on m h = absurd on
  vectors_say op.All t l xs vs r on m h = absurd on
  vectors_say op.Undef t l xs vs r on m h = absurd on
  vectors_say op.VectorExtractDynamic t l xs vs r on m h = absurd on
  vectors_say op.VectorInsertDynamic t l xs vs r on m h = absurd on
  vectors_say op.VectorShuffle t l xs vs r on m h = absurd on
  vectors_say op.CompositeConstruct t l xs vs r on m h = absurd on
  vectors_say op.CompositeExtract t l xs vs r on m h = absurd on
  vectors_say op.CompositeInsert t l xs vs r on m h = absurd on
