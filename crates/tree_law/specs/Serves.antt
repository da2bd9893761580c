-- Where the edges out of a region lead, by the constructs round it (SPIR-V 1.6, section 2.11).
use Rattle.std.specs.Prelude.{◌≡◌, ℕ, Bool, true, false, not, List, Option, Some, None, find, is_some, option_and_then, slice_get}
use Rattle.structure_rules.specs.declared.graph.Node.{Node}
use Rattle.structure_rules.specs.declared.graph.Part.{Part}
use Rattle.structure_rules.specs.Graph.{nth, leads_to, merge_block, continue_target}
use Rattle.structure_rules.specs.EdgeKinds.{is_if, is_loop, body_header, continue_header, loop_header, if_header, case_switch, case_target, nearest_loop, innermost, innermost_switch}
use Rattle.structure_rules.specs.Structure.{falls_from}
use Rattle.glsl_ast.specs.Tree.{Text}
use Rattle.control_text.specs.declared.place.Place.{Place}
use Rattle.region_law.specs.Leads.{Ways, out_of}

-- the nearest loop, the innermost construct, and the innermost switch with no loop before it
abbrev pub nearest : List Part → Option Part
nearest ps = find is_loop ps

abbrev pub top : List Part → Option Part
top ps = slice_get ps 0

abbrev pub switch_in : List Part → Option ℕ
switch_in ps = option_and_then case_switch (find (λ p. not (is_if p)) ps)

-- what the text of a region knows of what stands round it
abbrev pub place_of : List Part → Place
place_of ps = record {
  in_loop = option_and_then loop_header (nearest ps);
  continues = is_some (option_and_then continue_header (nearest ps));
  in_switch = is_some (switch_in ps);
}

-- the edges of a block are told by these constructs: those round the region that they leave, and a switch is the innermost of its own edges
pub record Sees (g : List Node) (b : ℕ) (ps : List Part) : Type 0 where
  pub near : nearest_loop g b ≡ nearest ps
  pub switch : innermost_switch g b ≡ switch_in ps
  pub first : (p : Part) → innermost g b ≡ Some p → top ps ≡ Some p

module _ (leave : ℕ → Option Text) where
  -- the ways out are those that the constructs allow; that behind a loop which is left through a switch only where there is such a break
  pub record Serves (g : List Node) (ps : List Part) (v : Ways) (breaks : Bool) : Type 0 where
    pub merge : (h t : ℕ) → option_and_then if_header (top ps) ≡ Some h → merge_block g h ≡ Some t → (nth g t).reached ≡ true → v.normal ≡ Some t
    pub switched : (s t : ℕ) → switch_in ps ≡ Some s → merge_block g s ≡ Some t → (nth g t).reached ≡ true → v.leave ≡ Some t
    pub left : (h t : ℕ) → switch_in ps ≡ None → option_and_then loop_header (nearest ps) ≡ Some h → merge_block g h ≡ Some t → (nth g t).reached ≡ true → v.leave ≡ Some t
    pub out : breaks ≡ true → (h t : ℕ) (l : Text) → option_and_then loop_header (nearest ps) ≡ Some h → leave h ≡ Some l → merge_block g h ≡ Some t → (nth g t).reached ≡ true → v.out ≡ Some (l, t)
    pub again : (h t : ℕ) → option_and_then body_header (nearest ps) ≡ Some h → continue_target g h ≡ Some t → (nth g t).reached ≡ true → v.again ≡ Some t
    pub other : (h : ℕ) → option_and_then continue_header (nearest ps) ≡ Some h → continue_target g h ≡ Some h → ⊥
    pub back : (h : ℕ) → option_and_then continue_header (top ps) ≡ Some h → v.normal ≡ Some h
    pub fall : (b t u : ℕ) → (nth g b).reached ≡ true → leads_to t (nth g b) ≡ true → falls_from g b t ≡ Some u → option_and_then case_target (top ps) ≡ Some u → v.fall ≡ Some t

-- behind a construct: its merge block, where that is reached
abbrev pub if_there : List Node → Option ℕ → Option ℕ
if_there g None = None
if_there g (Some t) = elim (nth g t).reached [ true ↦ Some t | false ↦ None ]

abbrev pub behind : List Node → ℕ → Option ℕ
behind g h = if_there g (merge_block g h)

-- the ways out of what stands in a selection, in the body of a loop, and in its continue construct
abbrev pub in_choice : List Node → ℕ → Ways → Ways
in_choice g h v = record v { normal = behind g h; fall = None }

abbrev pub in_body : (ℕ → Option Text) → List Node → ℕ → ℕ → Ways
in_body leave g h c = record { normal = None; fall = None; leave = behind g h; again = Some c; out = out_of (leave h) (behind g h) }

abbrev pub in_continue : (ℕ → Option Text) → List Node → ℕ → Ways
in_continue leave g h = record { normal = Some h; fall = None; leave = behind g h; again = None; out = out_of (leave h) (behind g h) }

-- nothing stands round a whole tree
abbrev pub no_ways : Ways
no_ways = record { normal = None; fall = None; leave = None; again = None; out = None }
