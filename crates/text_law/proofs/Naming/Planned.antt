-- The flags of a planned function have names apart, and a loop that is left through a switch has its header in the function.
use Rattle.std.proofs.Common.{◌≡◌, ◌<◌, ◌&&◌, ℕ, zero, suc, Bool, true, false, List, [], ◌∷◌, length, Option, Some, None, refl, sym, ap, ◌∙◌, if◌then◌else◌, arith}
use Rattle.std.specs.Prelude.{is_some, option_and_then}
use Rattle.std.specs.Option.{option_map_or}
use Rattle.std.specs.List.{range_with_len}
use Rattle.std.proofs.lemmas.Bool.{and_parts}
use Rattle.spv_module.specs.State.{ModuleState}
use Rattle.spv_module.specs.declared.inst.Id.{Id as IdOf}
use Rattle.spv_module.specs.declared.inst.Block.{Block}
use Rattle.spv_index.specs.Locals.{block_in}
use Rattle.structure_rules.specs.declared.graph.Node.{Node}
use Rattle.structure_rules.specs.Graph.{nth, edges, merge_block, is_value}
use Rattle.structure_rules.specs.EdgeKinds.{loop_header, nearest_loop, innermost_switch, is_break}
use Rattle.switch_ladder.specs.Flags.{left_loop, leaves, needs_leave}
use Rattle.conformance.specs.Rules.{Options}
use Rattle.name_alloc.specs.declared.claims.Key.{Key}
use Rattle.name_alloc.specs.declared.claims.Key.TheVariants.{Again, Leave, Fell}
use Rattle.glsl_ast.specs.Tree.{TranslationUnit}
use Rattle.function_text.specs.Functions.{FunctionPlan, written, label_of, blocks_of}
use Rattle.unit_rules.specs.Unit.{IsUnitOf}
use Rattle.list_law.proofs.Numbers.{same_number}
use Rattle.claim_law.specs.Claimed.{IsIn}
use Rattle.claim_law.proofs.Claim.Flags.{at_inside, again_key, leave_key, fell_key}
use Rattle.tree_law.specs.Written.{FlagsApart}
use Rattle.text_law.proofs.Naming.Keys.{some_in}
use Rattle.grammar_law.proofs.Formed.Labelled.{AreOnceLabels, label_found}

-- what names a merge block is a block
merges_inside : (g : List Node) (h t : ℕ) → merge_block g h ≡ Some t → h < length g
merges_inside [] h t e = cc
merges_inside (n ∷ g) zero t e = omega arith
merges_inside (n ∷ g) (suc h) t e = let less = merges_inside g h t e in omega (arith, less)

pub leave_inside : (g : List Node) (h : ℕ) → needs_leave g h ≡ true → h < length g
leave_inside g h on =
    let b = some_in (leaves g h) (range_with_len 0 (length g)) on in
    let t = some_in (λ (t : ℕ). is_value h (left_loop g b.0 t)) (edges (nth g b.0)) b.2 in
    by_break b.0 t.0 (is_break g b.0 t.0 && is_some (innermost_switch g b.0)) refl t.2
  where
    by_merge : (y t : ℕ) (o : Option ℕ) → merge_block g y ≡ o → is_value t o ≡ true → y ≡ h → h < length g
    by_merge y t None at on same = cc
    by_merge y t (Some z) at on same = let less = merges_inside g y z at in omega (arith, less, same)

    by_header : (b t : ℕ) (o : Option ℕ) → option_and_then loop_header (nearest_loop g b) ≡ o → option_map_or (λ (y : ℕ). is_value t (merge_block g y)) o false ≡ true → is_value h o ≡ true → h < length g
    by_header b t None at breaks on = cc
    by_header b t (Some y) at breaks on = by_merge y t (merge_block g y) refl breaks (same_number y h on)

    by_break : (b t : ℕ) (c : Bool) → (is_break g b t && is_some (innermost_switch g b)) ≡ c → is_value h (if c then option_and_then loop_header (nearest_loop g b) else None) ≡ true → h < length g
    by_break b t false at on = cc
    by_break b t true at on = by_header b t (option_and_then loop_header (nearest_loop g b)) refl (and_parts (is_break g b t) (is_some (innermost_switch g b)) at).0 on

-- the label of a flag
abbrev pub flow_number : Key → ℕ
flow_number (Again l) = l.0
flow_number (Leave l) = l.0
flow_number (Fell l) = l.0
flow_number _ = 0

module _ (m : ModuleState) (o : Options) (unit : TranslationUnit) (u : IsUnitOf m o unit) (p : FunctionPlan) (among : IsIn p u.plans) (once : AreOnceLabels (written p).blocks) where
  -- a block has a label of its own
  pub same_block : (a b : ℕ) → a < length (written p).blocks → b < length (written p).blocks → (label_of p a).0 ≡ (label_of p b).0 → a ≡ b
  same_block a b in_a in_b same =
      let x = at_inside (written p).blocks a in_a in
      let y = at_inside (written p).blocks b in_b in
      let label_x : (label_of p a).0 ≡ x.0.label.0 = ap (λ (c : Option Block). option_map_or (λ (block : Block). block.label.0) c 0) x.1 in
      let label_y : (label_of p b).0 ≡ y.0.label.0 = ap (λ (c : Option Block). option_map_or (λ (block : Block). block.label.0) c 0) y.1 in
      one (sym (label_found (written p) once a x.0 x.1) ∙ (ap (block_in (written p)) (sym label_x ∙ (same ∙ label_y)) ∙ label_found (written p) once b y.0 y.1))
    where
      one : Some a ≡ Some b → a ≡ b
      one e = cc

  pub flags_apart : FlagsApart (blocks_of p)
  flags_apart = record {
    again_once = λ a b x first second.
        let v = again_key m o unit u p among a x first in
        let w = again_key m o unit u p among b x second in
        same_block a b v.0 w.0 (ap flow_number (u.lawful.apart (Again (label_of p a)) (Again (label_of p b)) x refl v.1 w.1));
    leave_once = λ a b x first second.
        let v = leave_key m o unit u p among a x first in
        let w = leave_key m o unit u p among b x second in
        same_block a b v.0 w.0 (ap flow_number (u.lawful.apart (Leave (label_of p a)) (Leave (label_of p b)) x refl v.1 w.1));
    fell_once = λ a b x first second.
        let v = fell_key m o unit u p among a x first in
        let w = fell_key m o unit u p among b x second in
        same_block a b v.0 w.0 (ap flow_number (u.lawful.apart (Fell (label_of p a)) (Fell (label_of p b)) x refl v.1 w.1));
    again_leave = λ a b x first second. no_leave (label_of p a) (label_of p b) (u.lawful.apart (Again (label_of p a)) (Leave (label_of p b)) x refl (again_key m o unit u p among a x first).1 (leave_key m o unit u p among b x second).1);
    again_fell = λ a b x first second. no_fell (label_of p a) (label_of p b) (u.lawful.apart (Again (label_of p a)) (Fell (label_of p b)) x refl (again_key m o unit u p among a x first).1 (fell_key m o unit u p among b x second).1);
    leave_fell = λ a b x first second. no_left (label_of p a) (label_of p b) (u.lawful.apart (Leave (label_of p a)) (Fell (label_of p b)) x refl (leave_key m o unit u p among a x first).1 (fell_key m o unit u p among b x second).1);
  }
    where
      no_leave : (l k : IdOf) → Again l ≡ Leave k → ⊥
      no_leave l k e = cc

      no_fell : (l k : IdOf) → Again l ≡ Fell k → ⊥
      no_fell l k e = cc

      no_left : (l k : IdOf) → Leave l ≡ Fell k → ⊥
      no_left l k e = cc
