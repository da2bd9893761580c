-- Flags of loops are those of headers of loops that are reached.
use Rattle.std.proofs.Common.{◌≡◌, ◌&&◌, ℕ, suc, Bool, true, false, List, [], ◌∷◌, length, Option, Some, None, refl, sym, ap, ◌∙◌, subst, if◌then◌else◌}
use Rattle.std.specs.Prelude.{is_some, find, option_and_then}
use Rattle.std.specs.List.{list_any, range_with_len}
use Rattle.std.proofs.lemmas.Bool.{and_parts}
use Rattle.structure_rules.specs.declared.graph.Merge.{Merge}
use Rattle.structure_rules.specs.declared.graph.Merge.TheVariants.{Absent, Selection, Loop as LoopMerge}
use Rattle.structure_rules.specs.declared.graph.Node.{Node}
use Rattle.structure_rules.specs.declared.graph.Part.{Part}
use Rattle.structure_rules.specs.declared.graph.Part.TheVariants.{If, Loop, Cont, Case}
use Rattle.structure_rules.specs.Graph.{nth, edges, is_value, continue_named}
use Rattle.structure_rules.specs.Nesting.{inner}
use Rattle.structure_rules.specs.EdgeKinds.{is_loop, loop_header, nearest_loop, innermost_switch, is_break}
use Rattle.nest_place.specs.Nests.{IsSound}
use Rattle.nest_place.proofs.Around.{IsLoopMerge, IsNested, inner_nested}
use Rattle.nest_place.proofs.Falling.{edges_none}
use Rattle.structure_recover.specs.Follows.{is_loop_merge, heads_loop, other_block, continue_block}
use Rattle.switch_ladder.specs.Flags.{needs_again, left_loop, leaves, needs_leave}
use Rattle.text_law.proofs.Naming.Keys.{some_in, equal}

-- the header of a loop, which is reached
pub record IsHeader (g : List Node) (h : ℕ) : Type 0 where
  pub reached : (nth g h).reached ≡ true
  pub heads : heads_loop g h ≡ true

pub again_header : (g : List Node) (h : ℕ) → needs_again g h ≡ true → IsHeader g h
again_header g h on =
    let parts = and_parts (nth g h).reached (is_some (continue_block g h)) on in
    record { reached = parts.0; heads = by_merge (nth g h).merge parts.1 }
  where
    by_merge : (m : Merge) → is_some (other_block g h (continue_named m)) ≡ true → is_loop_merge m ≡ true
    by_merge Absent on = cc
    by_merge (Selection t) on = cc
    by_merge (LoopMerge t c) on = refl

loop_merge : (m : Merge) → IsLoopMerge m → is_loop_merge m ≡ true
loop_merge Absent is = absurd is
loop_merge (Selection t) is = absurd is
loop_merge (LoopMerge t c) is = refl

-- of constructs one within the other, each that is a loop is that of a header
loop_of : (g : List Node) (n : ℕ) (ps : List Part) (h : ℕ) → IsNested g n ps → option_and_then loop_header (find is_loop ps) ≡ Some h → IsHeader g h
loop_of g n [] h nested at = cc
loop_of g n (If k ∷ ps) h nested at = loop_of g k ps h nested.4 at
loop_of g n (Case s t ∷ ps) h nested at = loop_of g s ps h nested.4 at
loop_of g n (Loop k ∷ ps) h nested at = let same : k ≡ h = cc in subst (IsHeader g) same (record { reached = nested.1; heads = loop_merge (nth g k).merge nested.2 })
loop_of g n (Cont k ∷ ps) h nested at = let same : k ≡ h = cc in subst (IsHeader g) same (record { reached = nested.1; heads = loop_merge (nth g k).merge nested.2 })

pub leave_header : (g : List Node) → IsSound g → (h : ℕ) → needs_leave g h ≡ true → IsHeader g h
leave_header g sound h on =
    let b = some_in (leaves g h) (range_with_len 0 (length g)) on in
    let t = some_in (λ (t : ℕ). is_value h (left_loop g b.0 t)) (edges (nth g b.0)) b.2 in
    by_break b.0 t.0 (by_reached b.0 (nth g b.0).reached refl b.2) (is_break g b.0 t.0 && is_some (innermost_switch g b.0)) t.2
  where
    by_reached : (b : ℕ) (q : Bool) → (nth g b).reached ≡ q → leaves g h b ≡ true → (nth g b).reached ≡ true
    by_reached b true at on = at
    by_reached b false at on = let never : false ≡ true = sym (ap (list_any (λ (t : ℕ). is_value h (left_loop g b t))) (edges_none (nth g b) at)) ∙ on in cc

    by_header : (b : ℕ) → (nth g b).reached ≡ true → (o : Option ℕ) → option_and_then loop_header (nearest_loop g b) ≡ o → is_value h o ≡ true → IsHeader g h
    by_header b here None at on = cc
    by_header b here (Some y) at on = subst (IsHeader g) (equal y h on) (loop_of g (suc b) (inner g b) y (inner_nested g b sound.grounded here) at)

    by_break : (b t : ℕ) → (nth g b).reached ≡ true → (c : Bool) → is_value h (if c then option_and_then loop_header (nearest_loop g b) else None) ≡ true → IsHeader g h
    by_break b t here false on = cc
    by_break b t here true on = by_header b here (option_and_then loop_header (nearest_loop g b)) refl on
