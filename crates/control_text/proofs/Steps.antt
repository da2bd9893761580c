-- One step of the loops over the items of a region and over the groups of a switch, and their ends.
use Rattle.std.proofs.Common.{◌≡◌, ◌≤◌, ◌<◌, ◌+◌, ◌++◌, ◌||◌, ℕ, zero, suc, Bool, List, [], ◌∷◌, map, length, get_or, drop, refl, ap, sym, subst, ◌∙◌, arith, append_assoc}
use Rattle.std.specs.Prelude.{Option, Some, None}
use Rattle.std.proofs.lemmas.List.{drop_more, map_push}
use Rattle.std.proofs.Math.Bool.{or_assoc}
use Rattle.structure_recover.specs.Tree as tree
use Rattle.structure_recover.specs.Tree.{before, ends}
use Rattle.structure_recover.specs.View.{item_of, region_of, group_of, groups_of}
use Rattle.structure_recover.specs.declared.region.Item.{Item}
use Rattle.structure_recover.specs.declared.region.Exit.{Exit}
use Rattle.structure_recover.specs.declared.region.Group.{Group}
use Rattle.structure_recover.proofs.Views.{group_is}
use Rattle.glsl_ast.specs.Tree as text
use Rattle.glsl_ast.specs.Tree.{Stmt, stmts_in}
use Rattle.glsl_ast.specs.View.{stmt_of}
use Rattle.glsl_ast.specs.declared.statements.Arm.{Arm}
use Rattle.glsl_ast.proofs.Views.{arm-is}
use Rattle.control_text.specs.declared.place.Place.{Place}
use Rattle.control_text.specs.Statements.{Blocks, is_break, item_has_break, plain_block, copies_from, onward, item_text, has_break, groups_have_break, exit_text, entering_case, labels_text, region_text, groups_text}
use Rattle.control_text.specs.Size.{item_size, region_size, groups_size}
use Rattle.control_text.specs.Written.{group_written}
use Rattle.control_text.proofs.Rows.{size_some}

-- an item of a region is smaller than the region
item_in : (l : List Item) (k : ℕ) (d : Item) (e : Exit) → k < length l → item_size (item_of (get_or l k d)) < region_size (before (map item_of l) (ends e))
item_in [] k d e h = absurd (omega arith)
item_in (x ∷ l) zero d e h = omega (arith, size_some (before (map item_of l) (ends e)))
item_in (x ∷ l) (suc k) d e h = omega (arith, item_in l k d e (omega arith))

pub item_smaller : (is : List Item) (i : ℕ) (x : Item) (e : Exit) → i < length is → x ≡ get_or is i x → item_size (item_of x) < region_size (before (map item_of is) (ends e))
item_smaller is i x e inside at = subst (λ (y : Item). item_size (item_of y) < region_size (before (map item_of is) (ends e))) (sym at) (item_in is i x e inside)

-- the body of a group is smaller than the switch
group_in : (l : List Group) (k : ℕ) (d : Group) → k < length l → region_size (region_of (get_or l k d).body) + 2 < groups_size (groups_of (map group_of l))
group_in [] k d h = absurd (omega arith)
group_in (x ∷ l) zero d h = rw (group_is x) (omega arith)
group_in (x ∷ l) (suc k) d h = omega (arith, group_in l k d (omega arith))

pub group_smaller : (gs : List Group) (i : ℕ) (g : Group) → i < length gs → g ≡ get_or gs i g → region_size (region_of g.body) + 2 < groups_size (groups_of (map group_of gs))
group_smaller gs i g inside e = subst (λ (x : Group). region_size (region_of x.body) + 2 < groups_size (groups_of (map group_of gs))) (sym e) (group_in gs i g inside)

item_at : (is : List Item) (i : ℕ) (x : Item) → i < length is → x ≡ get_or is i x → drop i is ≡ x ∷ drop (i + 1) is
item_at is i x inside e = drop_more is i x inside ∙ ap (λ y. y ∷ drop (i + 1) is) (sym e)

-- what the items from the i-th on write, behind a plain block or not
abbrev pub left_text : Blocks → Place → Exit → Option ℕ → List Item → List Stmt
left_text w p e from is = onward w from (before (map item_of is) (ends e)) ++ region_text w p (before (map item_of is) (ends e))

onward_item : (w : Blocks) (from : Option ℕ) (i : tree.Item) (r : tree.Region) → onward w from (tree.item i r) ≡ copies_from w from
onward_item w None i r = refl
onward_item w (Some b) i r = refl

onward_end : (w : Blocks) (from : Option ℕ) (e : Exit) → onward w from (ends e) ≡ []
onward_end w None e = refl
onward_end w (Some b) e = refl

drop_end : (l : List Item) (i : ℕ) → length l ≤ i → drop i l ≡ []
drop_end [] zero h = refl
drop_end [] (suc i) h = refl
drop_end (x ∷ l) zero h = absurd (omega arith)
drop_end (x ∷ l) (suc i) h = drop_end l i (omega arith)

-- one more item is written
pub item_more : (w : Blocks) (p : Place) (e : Exit) (is : List Item) (i : ℕ) (x : Item) (from now : Option ℕ) (old mid new all : List Stmt) → i < length is → x ≡ get_or is i x → now ≡ plain_block (item_of x) → mid ≡ old ++ copies_from w from → new ≡ mid ++ item_text w p (item_of x) → old ++ left_text w p e from (drop i is) ≡ all → new ++ left_text w p e now (drop (i + 1) is) ≡ all
item_more w p e is i x from now old mid new all inside at plain copied written kept =
    let rest = drop (i + 1) is in
    let one = item_text w p (item_of x) in
    let after = left_text w p e (plain_block (item_of x)) rest in
    ap (λ o. new ++ left_text w p e o rest) plain
    ∙ ap (λ l. l ++ after) written
    ∙ append_assoc mid one after
    ∙ ap (λ l. l ++ (one ++ after)) copied
    ∙ append_assoc old (copies_from w from) (one ++ after)
    ∙ ap (λ l. old ++ (l ++ (one ++ after))) (sym (onward_item w from (item_of x) (before (map item_of rest) (ends e))))
    ∙ ap (λ l. old ++ left_text w p e from l) (sym (item_at is i x inside at))
    ∙ kept

pub item_breaks_more : (e : Exit) (is : List Item) (i : ℕ) (x : Item) (old now all : Bool) → i < length is → x ≡ get_or is i x → now ≡ item_has_break (item_of x) → (old || has_break (before (map item_of (drop i is)) (ends e))) ≡ all → ((old || now) || has_break (before (map item_of (drop (i + 1) is)) (ends e))) ≡ all
item_breaks_more e is i x old now all inside at same kept =
    let rest = has_break (before (map item_of (drop (i + 1) is)) (ends e)) in
    or_assoc old now rest
    ∙ ap (λ b. old || (b || rest)) same
    ∙ ap (λ l. old || has_break (before (map item_of l) (ends e))) (sym (item_at is i x inside at))
    ∙ kept

-- all items are written
pub items_end : (w : Blocks) (p : Place) (e : Exit) (is : List Item) (i : ℕ) (from : Option ℕ) (old new all : List Stmt) → length is ≤ i → new ≡ old ++ exit_text w p e → old ++ left_text w p e from (drop i is) ≡ all → new ≡ all
items_end w p e is i from old new all past written kept =
    written
    ∙ ap (λ l. old ++ (l ++ exit_text w p e)) (sym (onward_end w from e))
    ∙ ap (λ l. old ++ left_text w p e from l) (sym (drop_end is i past))
    ∙ kept

pub items_breaks_end : (e : Exit) (is : List Item) (i : ℕ) (old now all : Bool) → length is ≤ i → now ≡ is_break e → (old || has_break (before (map item_of (drop i is)) (ends e))) ≡ all → (old || now) ≡ all
items_breaks_end e is i old now all past same kept =
    ap (λ b. old || b) same
    ∙ ap (λ l. old || has_break (before (map item_of l) (ends e))) (sym (drop_end is i past))
    ∙ kept

group_at : (gs : List Group) (i : ℕ) (g : Group) → i < length gs → g ≡ get_or gs i g → drop i gs ≡ g ∷ drop (i + 1) gs
group_at gs i g inside e = drop_more gs i g inside ∙ ap (λ x. x ∷ drop (i + 1) gs) (sym e)

-- one more group is written
pub group_more : (w : Blocks) (p : Place) (h : ℕ) (gs : List Group) (i : ℕ) (g : Group) (a : Arm) (old new : List (ℕ × Arm)) (all : List (ℕ × text.Arm)) → i < length gs → g ≡ get_or gs i g → a.labels.items ≡ labels_text w h g.labels.items g.default → map stmt_of a.body.items ≡ entering_case w h g.target (region_of g.body) ++ region_text w p (region_of g.body) → new ≡ old ++ (g.target, a) ∷ [] → map group_written old ++ groups_text w p h (groups_of (map group_of (drop i gs))) ≡ all → map group_written new ++ groups_text w p h (groups_of (map group_of (drop (i + 1) gs))) ≡ all
group_more w p h gs i g a old new all inside e labels body pushed kept =
    let rest = drop (i + 1) gs in
    let after = groups_text w p h (groups_of (map group_of rest)) in
    let one : ℕ × text.Arm = (g.target, text.group (labels_text w h g.labels.items g.default) (stmts_in (entering_case w h g.target (region_of g.body) ++ region_text w p (region_of g.body)))) in
    let written : group_written (g.target, a) ≡ one =
    ap (λ (v : text.Arm). (g.target, v)) (arm-is a ∙ ap (λ l. text.group l (stmts_in (map stmt_of a.body.items))) labels ∙ ap (λ b. text.group (labels_text w h g.labels.items g.default) (stmts_in b)) body) in
    let first : groups_text w p h (groups_of (map group_of (g ∷ rest))) ≡ one ∷ after = ap (λ v. groups_text w p h (groups_of (v ∷ map group_of rest))) (group_is g) in
    ap (λ l. map group_written l ++ after) pushed
    ∙ ap (λ l. l ++ after) (map_push group_written old (g.target, a))
    ∙ append_assoc (map group_written old) (group_written (g.target, a) ∷ []) after
    ∙ ap (λ v. map group_written old ++ v ∷ after) written
    ∙ ap (λ l. map group_written old ++ l) (sym first)
    ∙ ap (λ l. map group_written old ++ groups_text w p h (groups_of (map group_of l))) (sym (group_at gs i g inside e))
    ∙ kept

pub group_breaks_more : (gs : List Group) (i : ℕ) (g : Group) (old now all : Bool) → i < length gs → g ≡ get_or gs i g → now ≡ has_break (region_of g.body) → (old || groups_have_break (groups_of (map group_of (drop i gs)))) ≡ all → ((old || now) || groups_have_break (groups_of (map group_of (drop (i + 1) gs)))) ≡ all
group_breaks_more gs i g old now all inside e is kept =
    let rest = drop (i + 1) gs in
    or_assoc old now (groups_have_break (groups_of (map group_of rest)))
    ∙ ap (λ b. old || (b || groups_have_break (groups_of (map group_of rest)))) is
    ∙ ap (λ v. old || groups_have_break (groups_of (v ∷ map group_of rest))) (sym (group_is g))
    ∙ ap (λ l. old || groups_have_break (groups_of (map group_of l))) (sym (group_at gs i g inside e))
    ∙ kept
