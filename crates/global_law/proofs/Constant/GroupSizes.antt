-- The size of workgroups and its parts, as a text reads them, are what the module's constants have in the run.
use Rattle.std.proofs.Common.{◌≡◌, ◌⊎◌, ◌==◌, ◌||◌, ℕ, Bool, true, false, List, [], ◌∷◌, drop, find, map, Option, Some, None, inl, inr, refl, sym, ap, ap₂, ◌∙◌, subst, if◌then◌else◌}
use Rattle.std.specs.Prelude.{is_some, option_map, option_and_then, slice_index}
use Rattle.std.specs.Option.{option_map_or}
use Rattle.std.specs.List.{list_any, position_from}
use Rattle.std.proofs.lemmas.Bool.{or_left, or_right}
use Rattle.std.proofs.lemmas.Option.{same_Some}
use Rattle.spv_ops.specs.Opcode.{is, number}
use Rattle.spv_ops.specs.Enumerants.{built_in_number}
use Rattle.spv_ops.specs.declared.BuiltIn.TheVariants as built
use Rattle.spv_ops.specs.declared.Op.{Op}
use Rattle.spv_ops.specs.declared.Op.TheVariants as code
use Rattle.spv_module.specs.Held.{global}
use Rattle.spv_module.specs.declared.inst.Inst.{Inst}
use Rattle.spv_module.specs.declared.tree.Elem.TheVariants as elem
use Rattle.spv_types.specs.Tree as plain
use Rattle.spv_types.specs.Tree.{Tree, ValueTree, truth, word, many, values_in}
use Rattle.spv_types.specs.Types.{type_tree}
use Rattle.op_semantics.specs.Component.{each_one, composite}
use Rattle.op_semantics.specs.Fits.{fits}
use Rattle.profile_rules.specs.declared.given.Given.{Given}
use Rattle.profile_rules.specs.declared.constant.ConstantKind.TheVariants as kinds
use Rattle.profile_rules.specs.Constants.{constant_kind, spec_id, value_by_kind}
use Rattle.profile_rules.specs.Entry.{is_built_in, is_size_composite, is_local_size_id, size_by, size_part, size_by_literals, group_size}
use Rattle.module_semantics.specs.Setting.{Setting}
use Rattle.glsl_ast.specs.Tree.{Text, name, member}
use Rattle.traces.specs.Outcomes.{Result, got, then_get, or_stuck}
use Rattle.glsl_semantics.specs.Shapes as shapes
use Rattle.glsl_semantics.specs.Shapes.{Typed, typed}
use Rattle.glsl_semantics.specs.States.{State, Thing, value, member_of}
use Rattle.glsl_semantics.specs.Expressions.{Program, Argument, constant_length, size_length, named, then_fetch}
use Rattle.glsl_semantics.specs.Items.{words3, size_on}
use Rattle.text_rules.specs.Constants.{Source, size_ids, size_now, sizes, sizes_by, axis_text, group_size_text}
use Rattle.list_law.proofs.Options.{none_some}
use Rattle.list_law.proofs.Numbers.{same_number, number_itself}
use Rattle.list_law.proofs.Tests.{off_on}
use Rattle.plan_law.specs.InOrder.{IsAmong, AreRising}
use Rattle.fits_law.proofs.Steps.{named as named_so}
use Rattle.type_law.specs.Shaped.{HaveResults, HasConstants}
use Rattle.global_law.specs.Sources.{source_of, chosen}
use Rattle.global_law.proofs.Global.Sizes.{part_value, part_is, sizes_are}
use Rattle.lowering_law.specs.Says.{Says}
use Rattle.typed_law.proofs.Lists.{and_left, found_in}
use Rattle.global_law.specs.Items.{IsScalarSpec, AreSpecIds, AreSizes}
use Rattle.global_law.proofs.Constant.Valued.{IsValued, valued, IsOperand, AreOperands, operands}

first : (a b c : ℕ) → list_any (λ (k : ℕ). k == a) (a ∷ b ∷ c ∷ []) ≡ true
first a b c = or_left (a == a) (list_any (λ (k : ℕ). k == a) (b ∷ c ∷ [])) (number_itself a)

second : (a b c : ℕ) → list_any (λ (k : ℕ). k == b) (a ∷ b ∷ c ∷ []) ≡ true
second a b c = or_right (a == b) (list_any (λ (k : ℕ). k == b) (b ∷ c ∷ [])) (or_left (b == b) (list_any (λ (k : ℕ). k == b) (c ∷ [])) (number_itself b))

third : (a b c : ℕ) → list_any (λ (k : ℕ). k == c) (a ∷ b ∷ c ∷ []) ≡ true
third a b c = or_right (a == c) (list_any (λ (k : ℕ). k == c) (b ∷ c ∷ [])) (or_right (b == c) (list_any (λ (k : ℕ). k == c) (c ∷ [])) (or_left (c == c) false (number_itself c)))

-- a uint is a word
uint_word : (v : ValueTree) → fits plain.uint v ≡ true → (w : ℕ) × (v ≡ word w)
uint_word (word w) fit = (w, refl)
uint_word (truth b) fit = cc
uint_word (many vs) fit = cc

size_kind : (o : Op) → ((is o code.ConstantComposite) || (is o code.SpecConstantComposite)) ≡ true → constant_kind o ≡ kinds.Composite
unfolding constant_kind number
size_kind code.ConstantComposite on = refl
size_kind code.SpecConstantComposite on = refl
size_kind o on = cc

-- the three numbers of the line of sizes
abbrev pub size_value : Setting → List (ℕ × Given) → Typed
size_value s overrides = words3 (size_on s.invocation (sizes (source_of s overrides)) 0) (size_on s.invocation (sizes (source_of s overrides)) 1) (size_on s.invocation (sizes (source_of s overrides)) 2)

-- a value of three numbers, and a component of it
axis_said : (p : Program) (calls : Text → List Argument → State → Result (Option Typed × State)) (z : State) (x y w : ℕ) → named p z group_size_text ≡ Some (value (words3 x y w))
    → Says p calls z (member (name group_size_text) (axis_text 0)) (typed shapes.uint (word x)) × Says p calls z (member (name group_size_text) (axis_text 1)) (typed shapes.uint (word y)) × Says p calls z (member (name group_size_text) (axis_text 2)) (typed shapes.uint (word w))
axis_said p calls z x y w told = (
  ap (λ (o : Option Thing). then_fetch (then_get {A = Thing × State} (or_stuck o (λ a. got [] (a, z))) (λ a. or_stuck (member_of a.0 (axis_text 0)) (λ b. got [] (b, a.1)))) (λ v q. got [] (v, q))) told,
  ap (λ (o : Option Thing). then_fetch (then_get {A = Thing × State} (or_stuck o (λ a. got [] (a, z))) (λ a. or_stuck (member_of a.0 (axis_text 1)) (λ b. got [] (b, a.1)))) (λ v q. got [] (v, q))) told,
  ap (λ (o : Option Thing). then_fetch (then_get {A = Thing × State} (or_stuck o (λ a. got [] (a, z))) (λ a. or_stuck (member_of a.0 (axis_text 2)) (λ b. got [] (b, a.1)))) (λ v q. got [] (v, q))) told,
)

pub same_word : (i j : ℕ) → Some (word i) ≡ Some (word j) → i ≡ j
same_word i j e = cc

module _ (s : Setting) (overrides : List (ℕ × Given)) (have : HasConstants s (chosen s overrides)) (results : HaveResults s.of.globals) (rising : AreRising 0 s.of.globals) (spec_ids : AreSpecIds (source_of s overrides)) (are : AreSizes (source_of s overrides)) where
  abbrev source : Source
  source = source_of s overrides

  abbrev Gs : List Inst
  Gs = s.of.globals

  -- a constant that is no specialization constant has no SpecId
  no_spec : (g : Inst) → IsAmong g Gs → (IsScalarSpec (constant_kind g.op) → ⊥) → spec_id s.of.heads g.result ≡ None
  no_spec g there far = by_spec (spec_id s.of.heads g.result) refl
    where
      by_spec : (o : Option ℕ) → spec_id s.of.heads g.result ≡ o → o ≡ None
      by_spec None e = refl
      by_spec (Some k) e = absurd (far (spec_ids g there (ap is_some e)))

  -- a part has the number of its constant
  part_has : (n w : ℕ) → list_any (λ (k : ℕ). k == n) (size_ids source) ≡ true → s.constants n ≡ Some (word w) → part_value s.invocation (size_now overrides (size_part s.of n)) ≡ w
  part_has n w in_it has = by_kind c (are.part n c.inst in_it c.there).1
    where
      c : IsValued s (chosen s overrides) have results rising n (word w)
      c = valued s (chosen s overrides) have results rising n (word w) has

      by_kind : (c : IsValued s (chosen s overrides) have results rising n (word w)) → (constant_kind c.inst.op ≡ kinds.Word) ⊎ (constant_kind c.inst.op ≡ kinds.SpecWord) → part_value s.invocation (size_now overrides (size_part s.of n)) ≡ w
      by_kind c (inr spec) = part_is s overrides have results n w c.inst c.there spec has
      by_kind c (inl plain_is) =
          let own : c.inst.result ≡ n = named_so Gs n c.inst c.there in
          let none : spec_id s.of.heads n ≡ None = subst (λ k. spec_id s.of.heads k ≡ None) own (no_spec c.inst (found_in Gs n c.inst c.there) (λ is. subst IsScalarSpec plain_is is)) in
          ap (λ o. part_value s.invocation (size_now overrides (size_by o (option_map_or (λ (g : Inst). slice_index g.args 0) (global Gs n) 0)))) none
          ∙ ap (λ o. option_map_or (λ (g : Inst). slice_index g.args 0) o 0) c.there
          ∙ same_word (slice_index c.inst.args 0) w (ap (value_by_kind c.from (chosen s overrides c.inst.result) c.shape c.inst.args) (sym plain_is) ∙ c.made)

  -- the parts of the module's size are those of these ids
  group_parts : (a b c : ℕ) → size_ids source ≡ a ∷ b ∷ c ∷ [] → group_size s.of s.entry ≡ size_part s.of a ∷ size_part s.of b ∷ size_part s.of c ∷ []
  group_parts a b c e = by_composite (find (is_size_composite s.of.heads) Gs) (find (is_local_size_id s.entry) s.of.heads) e
    where
      by_composite : (o : Option Inst) (q : Option Inst) → option_map_or (λ (g : Inst). g.args) o (option_map_or (λ (i : Inst). drop 2 i.args) q []) ≡ a ∷ b ∷ c ∷ []
          → option_map_or (λ (g : Inst). map (size_part s.of) g.args) o (option_map_or (λ (i : Inst). map (size_part s.of) (drop 2 i.args)) q (size_by_literals s.of.heads s.entry)) ≡ size_part s.of a ∷ size_part s.of b ∷ size_part s.of c ∷ []
      by_composite (Some g) q e = ap (map (size_part s.of)) e
      by_composite None (Some i) e = ap (map (size_part s.of)) e
      by_composite None None e = cc

  -- so each axis has the number of its constant
  axes_have : (a b c : ℕ) → size_ids source ≡ a ∷ b ∷ c ∷ [] → ((x : ℕ) → s.constants a ≡ Some (word x) → size_on s.invocation (sizes source) 0 ≡ x) × ((x : ℕ) → s.constants b ≡ Some (word x) → size_on s.invocation (sizes source) 1 ≡ x) × ((x : ℕ) → s.constants c ≡ Some (word x) → size_on s.invocation (sizes source) 2 ≡ x)
  axes_have a b c e =
      let rows = sizes_are s.invocation overrides (size_part s.of a) (size_part s.of b) (size_part s.of c) in
      let line : sizes source ≡ sizes_by overrides (size_part s.of a ∷ size_part s.of b ∷ size_part s.of c ∷ []) = ap (sizes_by overrides) (group_parts a b c e) in (
        λ x has. ap (λ l. size_on s.invocation l 0) line ∙ rows.0 ∙ part_has a x (subst (λ l. list_any (λ (k : ℕ). k == a) l ≡ true) (sym e) (first a b c)) has,
        λ x has. ap (λ l. size_on s.invocation l 1) line ∙ rows.1 ∙ part_has b x (subst (λ l. list_any (λ (k : ℕ). k == b) l ≡ true) (sym e) (second a b c)) has,
        λ x has. ap (λ l. size_on s.invocation l 2) line ∙ rows.2 ∙ part_has c x (subst (λ l. list_any (λ (k : ℕ). k == c) l ≡ true) (sym e) (third a b c)) has,
      )

  -- an operand that is a part of the size
  part_word : (at n : ℕ) (u : Tree) (v : ValueTree) → list_any (λ (k : ℕ). k == n) (size_ids source) ≡ true → IsOperand s (chosen s overrides) have results rising at n u v → (w : ℕ) × (v ≡ word w)
  part_word at n u v in_it one = uint_word v (subst (λ q. fits q v ≡ true) (same_Some u plain.uint (sym one.typed_as ∙ (are.part n one.inst in_it one.there).0)) one.fit)

  -- the composite decorated WorkgroupSize has the value of the line
  pub size_has : (h : Inst) (v : ValueTree) → IsAmong h Gs → global Gs h.result ≡ Some h → is_size_composite s.of.heads h ≡ true → s.constants h.result ≡ Some v → (type_tree Gs h.ty ≡ Some (plain.vector elem.Uint 3)) × (size_value s overrides ≡ typed (shapes.vector elem.Uint 3) v)
  size_has h v there own size has = by_three are.three
    where
      told : (size_ids source ≡ h.args) × (type_tree Gs h.ty ≡ Some (plain.vector elem.Uint 3))
      told = are.composite h there size

      c : IsValued s (chosen s overrides) have results rising h.result v
      c = valued s (chosen s overrides) have results rising h.result v has

      same : c.inst ≡ h
      same = same_Some c.inst h (sym c.there ∙ own)

      kind : constant_kind h.op ≡ kinds.Composite
      kind = size_kind h.op (and_left ((is h.op code.ConstantComposite) || (is h.op code.SpecConstantComposite)) (is_built_in s.of.heads (built_in_number built.WorkgroupSize) h.result) size)

      made : option_map composite (each_one c.from h.args) ≡ Some v
      made = ap (value_by_kind c.from (chosen s overrides c.inst.result) c.shape h.args) (sym kind) ∙ ap (λ (x : Inst). value_by_kind c.from (chosen s overrides c.inst.result) c.shape x.args (constant_kind x.op)) (sym same) ∙ c.made

      fit : fits (plain.vector elem.Uint 3) v ≡ true
      fit = subst (λ t. fits t v ≡ true) (same_Some c.shape (plain.vector elem.Uint 3) (sym c.typed_as ∙ ap (λ (x : Inst). type_tree Gs x.ty) same ∙ told.1)) c.fit

      by_values : (a b d : ℕ) → size_ids source ≡ a ∷ b ∷ d ∷ [] → (ts : List Tree) (vs : List ValueTree) → composite vs ≡ v → AreOperands s (chosen s overrides) have results rising c.inst.at (a ∷ b ∷ d ∷ []) ts vs → size_value s overrides ≡ typed (shapes.vector elem.Uint 3) v
      by_values a b d e (t ∷ u ∷ r ∷ []) (x ∷ y ∷ w ∷ []) whole ones =
          let p = part_word c.inst.at a t x (subst (λ l. list_any (λ (k : ℕ). k == a) l ≡ true) (sym e) (first a b d)) ones.0 in
          let q = part_word c.inst.at b u y (subst (λ l. list_any (λ (k : ℕ). k == b) l ≡ true) (sym e) (second a b d)) ones.1.0 in
          let o = part_word c.inst.at d r w (subst (λ l. list_any (λ (k : ℕ). k == d) l ≡ true) (sym e) (third a b d)) ones.1.1.0 in
          let axes = axes_have a b d e in
          let one = ones.0 in
          let two = ones.1.0 in
          let three = ones.1.1.0 in
          ap₂ (λ i j. words3 i j (size_on s.invocation (sizes source) 2)) (axes.0 p.0 (one.has ∙ ap (λ l. Some l) p.1)) (axes.1 q.0 (two.has ∙ ap (λ l. Some l) q.1))
          ∙ ap (words3 p.0 q.0) (axes.2 o.0 (three.has ∙ ap (λ l. Some l) o.1))
          ∙ ap₂ (λ i j. typed (shapes.vector elem.Uint 3) (many (values_in (i ∷ j ∷ word o.0 ∷ [])))) (sym p.1) (sym q.1)
          ∙ ap (λ j. typed (shapes.vector elem.Uint 3) (many (values_in (x ∷ y ∷ j ∷ [])))) (sym o.1)
          ∙ ap (typed (shapes.vector elem.Uint 3)) whole
      by_values a b d e [] vs whole ones = absurd ones
      by_values a b d e (t ∷ ts) [] whole ones = absurd ones
      by_values a b d e (t ∷ []) (x ∷ vs) whole ones = absurd ones.1
      by_values a b d e (t ∷ u ∷ ts) (x ∷ []) whole ones = absurd ones.1
      by_values a b d e (t ∷ u ∷ []) (x ∷ y ∷ vs) whole ones = absurd ones.1.1
      by_values a b d e (t ∷ u ∷ r ∷ ts) (x ∷ y ∷ []) whole ones = absurd ones.1.1
      by_values a b d e (t ∷ u ∷ r ∷ q ∷ ts) (x ∷ y ∷ w ∷ vs) whole ones = absurd ones.1.1.1
      by_values a b d e (t ∷ u ∷ r ∷ []) (x ∷ y ∷ w ∷ o ∷ vs) whole ones = absurd ones.1.1.1

      by_list : (args : List ℕ) → h.args ≡ args → (o : Option (List ValueTree)) → each_one c.from args ≡ o → option_map composite o ≡ Some v → (a b d : ℕ) → args ≡ a ∷ b ∷ d ∷ [] → size_value s overrides ≡ typed (shapes.vector elem.Uint 3) v
      by_list args at None each e a b d list = none_some e
      by_list args at (Some vs) each e a b d list =
          let ones = operands s (chosen s overrides) have results rising c.inst.at c.from c.last c.earlier (a ∷ b ∷ d ∷ []) vs (ap (each_one c.from) (sym list) ∙ each) in
          by_values a b d (told.0 ∙ at ∙ list) ones.0 vs (same_Some (composite vs) v e) ones.1

      by_three : (size_ids source ≡ []) ⊎ ((a : ℕ) × (b : ℕ) × (c : ℕ) × (size_ids source ≡ a ∷ b ∷ c ∷ [])) → (type_tree Gs h.ty ≡ Some (plain.vector elem.Uint 3)) × (size_value s overrides ≡ typed (shapes.vector elem.Uint 3) v)
      by_three (inl none) = absurd (no_parts (same_Some (composite []) v (ap (λ l. option_map composite (each_one c.from l)) (sym none ∙ told.0) ∙ made)))
        where
          no_parts : composite [] ≡ v → ⊥
          no_parts e = off_on (subst (λ q. fits (plain.vector elem.Uint 3) q ≡ true) (sym e) fit)
      by_three (inr w) = (told.1, by_list h.args refl (each_one c.from h.args) refl made w.0 w.1 w.2 (sym told.0 ∙ w.3))

  -- a part that is read there: its axis, and its number
  pub record IsPartOf (h : Inst) (axis : ℕ) (v : ValueTree) : Type 0 where
    pub typed_as : type_tree Gs h.ty ≡ Some plain.uint
    pub count : ℕ
    pub value_is : v ≡ word count
    pub counted : size_on s.invocation (sizes source) axis ≡ count
    pub one : (axis ≡ 0) ⊎ ((axis ≡ 1) ⊎ (axis ≡ 2))

  pub part_is_of : (h : Inst) (axis : ℕ) (v : ValueTree) → global Gs h.result ≡ Some h → s.constants h.result ≡ Some v → position_from (λ (part : ℕ). part == h.result) 0 (size_ids source) ≡ Some axis → IsPartOf h axis v
  part_is_of h axis v own has at = by_three are.three
    where
      c : IsValued s (chosen s overrides) have results rising h.result v
      c = valued s (chosen s overrides) have results rising h.result v has

      same : c.inst ≡ h
      same = same_Some c.inst h (sym c.there ∙ own)

      -- the axis k of a part
      by_axis : (k n : ℕ) → n ≡ h.result → list_any (λ (q : ℕ). q == n) (size_ids source) ≡ true → ((x : ℕ) → s.constants n ≡ Some (word x) → size_on s.invocation (sizes source) k ≡ x) → (k ≡ 0) ⊎ ((k ≡ 1) ⊎ (k ≡ 2)) → k ≡ axis → IsPartOf h axis v
      by_axis k n same_id in_it number one same_axis =
          let inside : list_any (λ (q : ℕ). q == h.result) (size_ids source) ≡ true = subst (λ m. list_any (λ (q : ℕ). q == m) (size_ids source) ≡ true) same_id in_it in
          let shape = (are.part h.result h inside own).0 in
          let w = uint_word v (subst (λ q. fits q v ≡ true) (same_Some c.shape plain.uint (sym c.typed_as ∙ ap (λ (x : Inst). type_tree Gs x.ty) same ∙ shape)) c.fit) in
          subst (λ q. IsPartOf h q v) same_axis (record { typed_as = shape; count = w.0; value_is = w.1; counted = number w.0 (ap s.constants same_id ∙ has ∙ ap (λ q. Some q) w.1); one = one })

      by_place : (a b d : ℕ) → size_ids source ≡ a ∷ b ∷ d ∷ [] → (x y w : Bool) → (a == h.result) ≡ x → (b == h.result) ≡ y → (d == h.result) ≡ w → (if x then Some 0 else (if y then Some 1 else (if w then Some 2 else None))) ≡ Some axis → IsPartOf h axis v
      by_place a b d e true y w first_is second_is third_is at = by_axis 0 a (same_number a h.result first_is) (subst (λ l. list_any (λ (k : ℕ). k == a) l ≡ true) (sym e) (first a b d)) (axes_have a b d e).0 (inl refl) (same_Some 0 axis at)
      by_place a b d e false true w first_is second_is third_is at = by_axis 1 b (same_number b h.result second_is) (subst (λ l. list_any (λ (k : ℕ). k == b) l ≡ true) (sym e) (second a b d)) (axes_have a b d e).1 (inr (inl refl)) (same_Some 1 axis at)
      by_place a b d e false false true first_is second_is third_is at = by_axis 2 d (same_number d h.result third_is) (subst (λ l. list_any (λ (k : ℕ). k == d) l ≡ true) (sym e) (third a b d)) (axes_have a b d e).2 (inr (inr refl)) (same_Some 2 axis at)
      by_place a b d e false false false first_is second_is third_is at = none_some at

      by_three : (size_ids source ≡ []) ⊎ ((a : ℕ) × (b : ℕ) × (c : ℕ) × (size_ids source ≡ a ∷ b ∷ c ∷ [])) → IsPartOf h axis v
      by_three (inl none) = none_some (ap (position_from (λ (part : ℕ). part == h.result) 0) (sym none) ∙ at)
      by_three (inr w) = by_place w.0 w.1 w.2 w.3 (w.0 == h.result) (w.1 == h.result) (w.2 == h.result) refl refl refl (ap (position_from (λ (part : ℕ). part == h.result) 0) (sym w.3) ∙ at)

  -- so its expression says it
  pub part_says : (p : Program) (calls : Text → List Argument → State → Result (Option Typed × State)) (z : State) (h : Inst) (axis : ℕ) (v : ValueTree) → named p z group_size_text ≡ Some (value (size_value s overrides)) → IsPartOf h axis v → Says p calls z (member (name group_size_text) (axis_text axis)) (typed shapes.uint v)
  part_says p calls z h axis v is w = subst (λ q. Says p calls z (member (name group_size_text) (axis_text axis)) (typed shapes.uint q)) (sym w.value_is) (subst (λ q. Says p calls z (member (name group_size_text) (axis_text axis)) (typed shapes.uint (word q))) w.counted (by_one axis w.one))
    where
      said : Says p calls z (member (name group_size_text) (axis_text 0)) (typed shapes.uint (word (size_on s.invocation (sizes source) 0))) × Says p calls z (member (name group_size_text) (axis_text 1)) (typed shapes.uint (word (size_on s.invocation (sizes source) 1))) × Says p calls z (member (name group_size_text) (axis_text 2)) (typed shapes.uint (word (size_on s.invocation (sizes source) 2)))
      said = axis_said p calls z (size_on s.invocation (sizes source) 0) (size_on s.invocation (sizes source) 1) (size_on s.invocation (sizes source) 2) is

      by_one : (k : ℕ) → (k ≡ 0) ⊎ ((k ≡ 1) ⊎ (k ≡ 2)) → Says p calls z (member (name group_size_text) (axis_text k)) (typed shapes.uint (word (size_on s.invocation (sizes source) k)))
      by_one k (inl e) = subst (λ q. Says p calls z (member (name group_size_text) (axis_text q)) (typed shapes.uint (word (size_on s.invocation (sizes source) q)))) (sym e) said.0
      by_one k (inr (inl e)) = subst (λ q. Says p calls z (member (name group_size_text) (axis_text q)) (typed shapes.uint (word (size_on s.invocation (sizes source) q)))) (sym e) said.1
      by_one k (inr (inr e)) = subst (λ q. Says p calls z (member (name group_size_text) (axis_text q)) (typed shapes.uint (word (size_on s.invocation (sizes source) q)))) (sym e) said.2

  -- and as the length of an array it is its number
  pub part_length : (p : Program) (h : Inst) (axis : ℕ) (v : ValueTree) → p.things group_size_text ≡ Some (value (size_value s overrides)) → (w : IsPartOf h axis v) → size_length p (axis_text axis) ≡ Some w.count
  part_length p h axis v is w = by_one axis w.one ∙ ap (λ n. Some n) w.counted
    where
      by_one : (k : ℕ) → (k ≡ 0) ⊎ ((k ≡ 1) ⊎ (k ≡ 2)) → size_length p (axis_text k) ≡ Some (size_on s.invocation (sizes source) k)
      by_one k (inl e) = subst (λ q. size_length p (axis_text q) ≡ Some (size_on s.invocation (sizes source) q)) (sym e) (ap (λ o. constant_length (option_and_then (λ x. member_of x (axis_text 0)) o)) is)
      by_one k (inr (inl e)) = subst (λ q. size_length p (axis_text q) ≡ Some (size_on s.invocation (sizes source) q)) (sym e) (ap (λ o. constant_length (option_and_then (λ x. member_of x (axis_text 1)) o)) is)
      by_one k (inr (inr e)) = subst (λ q. size_length p (axis_text q) ≡ Some (size_on s.invocation (sizes source) q)) (sym e) (ap (λ o. constant_length (option_and_then (λ x. member_of x (axis_text 2)) o)) is)
