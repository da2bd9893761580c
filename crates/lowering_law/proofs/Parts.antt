-- A part of what an expression says is said by the expression of the part.
use Rattle.std.proofs.Common.{◌≡◌, ℕ, ◌^◌, Bool, true, false, List, [], ◌∷◌, ◌++◌, Option, Some, None, refl, sym, ap, ◌∙◌, subst}
use Rattle.std.specs.Prelude.{nat_lt, option_map, option_and_then, if◌then◌else◌}
use Rattle.spv_types.specs.Tree.{ValueTree}
use Rattle.op_semantics.specs.Composite.{part_at}
use Rattle.glsl_ast.specs.Tree.{Text, Expr}
use Rattle.traces.specs.Events.{Event, Access, reading, event_of}
use Rattle.traces.specs.Outcomes.{Result, got, cut, waits, stuck, with_before, then_get, or_stuck}
use Rattle.glsl_semantics.specs.Shapes.{Shape, Typed, typed, tree_of, is_sized}
use Rattle.glsl_semantics.specs.Places.{Site, locations}
use Rattle.glsl_semantics.specs.States.{State, Thing, value, variable, instance, memory, fetch, variable_value, read_if, accessed, told, named_part, member_of, part_at_index, part_of_option, shape_of_thing, index_word, element_shape, element_at, element_of}
use Rattle.glsl_semantics.specs.Expressions.{Program, Argument, then_fetch, denote}
use Rattle.lowering_law.specs.Says.{Says}
use Rattle.lowering_law.proofs.Saying.{both_empty, read, on_operand}

-- a value, or a variable or a part of one that has a value
abbrev pub IsHeld : Thing → Shape → ValueTree → Type 0
IsHeld (value u) t v = u ≡ typed t v
IsHeld (variable w path q o) t v = (q ≡ t) × (o ≡ Some v)
IsHeld _ t v = ⊥

abbrev seen : List Event → Result (Typed × State) → Result (Typed × State)
seen e g = with_before e (then_get g (λ y. got [] (y.0, y.1)))

abbrev Found : Type 0
Found = Typed × State

abbrev found_at : List Event → Typed → State → Result Found
found_at e a y = got e (a, y)

got_parts : (e : List Event) (a b : Typed) (y z : State) → found_at e a y ≡ found_at [] b z → (e ≡ []) × (a ≡ b) × (y ≡ z)
got_parts e a b y z h =
    let events : e ≡ [] = cc in
    let left : Found = (a, y) in
    let right : Found = (b, z) in
    let pair : left ≡ right = cc in
    (events, ap (λ (q : Typed × State). q.0) pair, ap (λ (q : Typed × State). q.1) pair)

same_typed : (q t : Shape) (u v : ValueTree) → typed q u ≡ typed t v → (q ≡ t) × (u ≡ v)
same_typed q t u v h = let shape : q ≡ t = cc in let value : u ≡ v = cc in (shape, value)

-- what comes to a value without an event is held
held_by : (g : Result (Thing × State)) (t : Shape) (v : ValueTree) (s : State) → read g ≡ got [] (typed t v, s) → (x : Thing) × (g ≡ got [] (x, s)) × IsHeld x t v
held_by (cut e) t v s h = cc
held_by (waits e) t v s h = cc
held_by (stuck e) t v s h = cc
held_by (got e x) t v s h = by_thing x.0 refl h
  where
    Held : Type 0
    Held = (y : Thing) × (got e x ≡ got [] (y, s)) × IsHeld y t v

    at : (y : Thing) (z : State) → e ≡ [] → x.0 ≡ y → x.1 ≡ z → got e x ≡ got [] (y, z)
    at y z none is same = ap (λ d. got d x) none ∙ (ap (λ q. got [] (q, x.1)) is ∙ ap (λ q. got [] (y, q)) same)

    by_value : (w : Text) (path : List ℕ) (q : Shape) (o r : Option ValueTree) → o ≡ r → x.0 ≡ variable w path q o → seen e (variable_value q r x.1) ≡ got [] (typed t v, s) → Held
    by_value w path q o None is there h = cc
    by_value w path q o (Some u) is there h =
        let parts = got_parts (e ++ []) (typed q u) (typed t v) x.1 s h in
        let same = same_typed q t u v parts.1 in
        (variable w path q o, at (variable w path q o) s (both_empty e [] parts.0).0 there parts.2, (same.0, is ∙ ap (λ k. Some k) same.1))

    no_event : (o : Option Event) (u : Typed) (z : State) → seen e (told o (u, z)) ≡ got [] (typed t v, s) → ⊥
    no_event None u z h = cc
    no_event (Some ev) u z h = let events : e ++ (ev ∷ []) ≡ [] = cc in let none = (both_empty e (ev ∷ []) events).1 in cc

    by_answers : (a : Access) (q : Shape) (f : List ℕ → List (List ℕ) → Typed × State) (answers : List (List ℕ)) → seen e (accessed a answers f) ≡ got [] (typed t v, s) → ⊥
    by_answers a q f [] h = cc
    by_answers a q f (ws ∷ more) h = no_event (event_of a ws) (f ws more).0 (f ws more).1 h

    by_sized : (b : Bool) (at' : Site) (q : Shape) → seen e (read_if b at' q x.1) ≡ got [] (typed t v, s) → ⊥
    by_sized false at' q h = cc
    by_sized true at' q h = by_answers (reading (locations (tree_of q) at')) q _ x.1.answers h

    by_thing : (y : Thing) → x.0 ≡ y → seen e (fetch y x.1) ≡ got [] (typed t v, s) → Held
    by_thing (value u) is h =
        let parts = got_parts (e ++ []) u (typed t v) x.1 s h in
        (value u, at (value u) s (both_empty e [] parts.0).0 is parts.2, parts.1)
    by_thing (variable w path q o) is h = by_value w path q o o refl is h
    by_thing (instance place kind members) is h = cc
    by_thing (memory at' q) is h = absurd (by_sized (is_sized q) at' q h)

-- a thing that is there is read
or_got : (o : Option Thing) (y : Thing) (r : Typed) (s : State) → o ≡ Some y → fetch y s ≡ got [] (r, s) → read (with_before [] (or_stuck o (λ y. got [] (y, s)))) ≡ got [] (r, s)
or_got o y r s is h = ap (λ q. read (with_before [] (or_stuck q (λ y. got [] (y, s))))) is ∙ ap (λ g. with_before [] (then_get g (λ y. got [] (y.0, y.1)))) h

-- the part of what is held is held
part_held : (x : Thing) (t u : Shape) (v c : ValueTree) (i : ℕ) (s : State) → IsHeld x t v → part_at v i ≡ Some c → (y : Thing) × (part_at_index x i u ≡ Some y) × (fetch y s ≡ got [] (typed u c, s))
part_held (value q) t u v c i s is part = (value (typed u c), subst (λ q. part_at_index (value q) i u ≡ Some (value (typed u c))) (sym is) (ap (option_map (λ k. value (typed u k))) part), refl)
part_held (variable w path q o) t u v c i s is part =
    (variable w (path ++ i ∷ []) u (part_of_option o i), refl, ap (λ r. variable_value u r s) (ap (λ r. part_of_option r i) is.1 ∙ part))
part_held (instance place kind members) t u v c i s is part = absurd is
part_held (memory at q) t u v c i s is part = absurd is

shape_held : (x : Thing) (t : Shape) (v : ValueTree) → IsHeld x t v → shape_of_thing x ≡ Some t
shape_held (value (typed q k)) t v is = let same : q ≡ t = cc in ap (λ z. Some z) same
shape_held (variable w path q o) t v is = ap (λ z. Some z) is.0
shape_held (instance place kind members) t v is = absurd is
shape_held (memory at q) t v is = absurd is

member_held : (x : Thing) (t : Shape) (v : ValueTree) (w : Text) → IsHeld x t v → member_of x w ≡ option_and_then (λ (p : ℕ × Shape). part_at_index x p.0 p.1) (named_part (shape_of_thing x) w)
member_held (value q) t v w is = refl
member_held (variable x path q o) t v w is = refl
member_held (instance place kind members) t v w is = absurd is
member_held (memory at q) t v w is = absurd is

module _ (p : Program) (calls : Text → List Argument → State → Result (Option Typed × State)) (s : State) where
  abbrev S : Expr → Typed → Type 0
  S = Says p calls s

  pub says_member : (e : Expr) (w : Text) (t u : Shape) (i : ℕ) (v c : ValueTree) → S e (typed t v) → named_part (Some t) w ≡ Some (i, u) → part_at v i ≡ Some c → S (Expr.member e w) (typed u c)
  says_member e w t u i v c h named part =
      let x = held_by (denote p calls e s) t v s h in
      let y = part_held x.0 t u v c i s x.2 part in
      ap (λ g. read (then_get g (λ x. or_stuck (member_of x.0 w) (λ y. got [] (y, x.1))))) x.1
      ∙ or_got (member_of x.0 w) y.0 (typed u c) s
      (member_held x.0 t v w x.2 ∙ (ap (λ o. option_and_then (λ (p : ℕ × Shape). part_at_index x.0 p.0 p.1) (named_part o w)) (shape_held x.0 t v x.2) ∙ (ap (option_and_then (λ (p : ℕ × Shape). part_at_index x.0 p.0 p.1)) named ∙ y.1))) y.2

  pub says_element : (e k : Expr) (t u : Shape) (i : ℕ) (v c : ValueTree) (index : Typed) → S e (typed t v) → S k index → index_word index ≡ Some i → nat_lt i (2 ^ 31) ≡ true → element_shape (Some t) i ≡ Some u → part_at v i ≡ Some c → S (Expr.index e k) (typed u c)
  says_element e k t u i v c index h hk word_is low shape part =
      let x = held_by (denote p calls e s) t v s h in
      let y = part_held x.0 t u v c i s x.2 part in
      ap (λ g. read (then_get g (λ x. then_fetch {A = Thing × State} (denote p calls k x.1) (λ v s. or_stuck (element_of x.0 v) (λ y. got [] (y, s)))))) x.1
      ∙ (ap (λ g. read (with_before [] g)) (on_index x.0)
      ∙ or_got (element_of x.0 index) y.0 (typed u c) s
      (ap (option_and_then (element_at x.0)) word_is
      ∙ (ap (λ b. if b then option_and_then (part_at_index x.0 i) (element_shape (shape_of_thing x.0) i) else None) low
      ∙ (ap (λ o. option_and_then (part_at_index x.0 i) (element_shape o i)) (shape_held x.0 t v x.2) ∙ (ap (option_and_then (part_at_index x.0 i)) shape ∙ y.1)))) y.2)
    where
      on_index : (x : Thing) → then_fetch {A = Thing × State} (denote p calls k s) (λ v s. or_stuck (element_of x v) (λ y. got [] (y, s))) ≡ or_stuck (element_of x index) (λ y. got [] (y, s))
      on_index x = on_operand p calls s k index (λ v s. or_stuck (element_of x v) (λ y. got [] (y, s))) hk
