-- Where the ways out of a region lead.
use Rattle.std.specs.Prelude.{◌≡◌, ◌≢◌, ◌⊎◌, ℕ, Bool, true, false, List, [], ◌∷◌, Option, Some, None}
use Rattle.structure_rules.specs.declared.graph.EdgeKind.{EdgeKind}
use Rattle.structure_rules.specs.declared.graph.EdgeKind.TheVariants.{Enter, Merge, SwitchBreak, Break, Continue, Back, Fall}
use Rattle.structure_recover.specs.declared.region.Exit.{Exit}
use Rattle.structure_recover.specs.declared.region.Exit.TheVariants.{Edge, Return, Lost, Closed}
use Rattle.structure_recover.specs.Tree.{Region, ends, item, Item, plain, choose, loose, loop, loop_on, switch, Groups, none, group, targets}
use Rattle.glsl_ast.specs.Tree.{Text}
use Rattle.control_text.specs.declared.place.Place.{Place}
use Rattle.control_text.specs.Statements.{Blocks, inside_loop, inside_switch, groups_have_break}

-- how a block ends
pub data Term : Type 0 where
  jump : ℕ → Term
  branch : ℕ → ℕ → Term
  table : Term
  return : Term
  lost : Term

-- the block behind the region's end, the case target into which it falls, and where `break` and `continue` lead; and the flag of the loop that a break through a switch leaves, with the block behind it
pub record Ways : Type 0 where
  pub normal : Option ℕ
  pub fall : Option ℕ
  pub leave : Option ℕ
  pub again : Option ℕ
  pub out : Option (Text × ℕ)

abbrev pub if_there : Option ℕ → (ℕ → Type 0) → Type 0
if_there None f = Unit {0}
if_there (Some t) f = f t

abbrev pub out_of : Option Text → Option ℕ → Option (Text × ℕ)
out_of (Some l) (Some m) = Some (l, m)
out_of _ _ = None

abbrev pub IsBlock : Region → Type 0
IsBlock (item (plain b) r) = Unit {0}
IsBlock (item (choose h x y) r) = Unit {0}
IsBlock (item (loose h x y) r) = Unit {0}
IsBlock (item (switch h gs) r) = Unit {0}
IsBlock _ = ⊥

abbrev pub IsItem : Region → Type 0
IsItem (ends e) = ⊥
IsItem (item i r) = Unit {0}

-- the edge leads to the region: it is the edge that the region is, or enters its first block
abbrev pub IsEdge : ℕ → ℕ → Region → Type 0
IsEdge b t (ends (Edge a u k)) = (a ≡ b) × (u ≡ t)
IsEdge b t (ends e) = ⊥
IsEdge b t (item i r) = Unit {0}

-- each target of an order is followed by that into which it falls
abbrev pub AreInOrder : (ℕ → Option ℕ) → List ℕ → Type 0
AreInOrder falls [] = Unit {0}
AreInOrder falls (t ∷ []) = falls t ≡ None
AreInOrder falls (t ∷ u ∷ ts) = ((falls t ≡ None) ⊎ (falls t ≡ Some u)) × AreInOrder falls (u ∷ ts)

abbrev pub In : ℕ → List ℕ → Type 0
In u [] = ⊥
In u (t ∷ ts) = (u ≡ t) ⊎ In u ts

abbrev pub AreApart : List ℕ → Type 0
AreApart [] = Unit {0}
AreApart (t ∷ ts) = (In t ts → ⊥) × AreApart ts

-- each of these once, and each followed by that into which it falls
pub record IsOrder (falls : ℕ → Option ℕ) (ts all : List ℕ) : Type 0 where
  pub apart : AreApart ts
  pub all_apart : AreApart all
  pub in_all : (t : ℕ) → In t ts → In t all
  pub in_order : (t : ℕ) → In t all → In t ts
  pub falls_on : AreInOrder falls ts

module _ (w : Blocks) (term : ℕ → Term) (falls : ℕ → Option ℕ) (Cases : ℕ → Groups → Type 0) where
  -- no loop and no case of the region has this flag
  abbrev mutual
    pub Fresh : Text → Region → Type 0
    Fresh x (ends e) = Unit {0}
    Fresh x (item i r) = FreshItem x i × Fresh x r

    pub FreshItem : Text → Item → Type 0
    FreshItem x (plain b) = Unit {0}
    FreshItem x (choose h y z) = Fresh x y × Fresh x z
    FreshItem x (loose h y z) = Fresh x y × Fresh x z
    FreshItem x (loop h y) = (w.leave h ≢ Some x) × Fresh x y
    FreshItem x (loop_on h z y) = (w.again h ≢ Some x) × (w.leave h ≢ Some x) × Fresh x z × Fresh x y
    FreshItem x (switch h gs) = FreshGroups x gs

    pub FreshGroups : Text → Groups → Type 0
    FreshGroups x none = Unit {0}
    FreshGroups x (group t labels default y gs) = (w.fell t ≢ Some x) × Fresh x y × FreshGroups x gs

  abbrev pub BreakLeads : Ways → Option ℕ → ℕ → Bool → Type 0
  BreakLeads v o t true = (h : ℕ) × (l : Text) × (o ≡ Some h) × (w.leave h ≡ Some l) × (v.out ≡ Some (l, t))
  BreakLeads v o t false = v.leave ≡ Some t

  abbrev pub BackLeads : Ways → ℕ → Bool → Type 0
  BackLeads v t true = v.normal ≡ Some t
  BackLeads v t false = v.again ≡ Some t

  abbrev pub EdgeLeads : Ways → Place → ℕ → EdgeKind → Type 0
  EdgeLeads v p t Enter = ⊥
  EdgeLeads v p t Merge = v.normal ≡ Some t
  EdgeLeads v p t SwitchBreak = v.leave ≡ Some t
  EdgeLeads v p t Break = BreakLeads v p.in_loop t p.in_switch
  EdgeLeads v p t Continue = v.again ≡ Some t
  EdgeLeads v p t Back = BackLeads v t p.continues
  EdgeLeads v p t Fall = v.fall ≡ Some t

  abbrev pub ExitLeads : Ways → Place → Exit → ℕ → Type 0
  ExitLeads v p (Edge b t k) at = (t ≡ at) × EdgeLeads v p t k
  ExitLeads v p _ at = ⊥

  -- what follows a plain block
  abbrev pub PlainLeads : Term → ℕ → Region → (ℕ → Type 0) → Type 0
  PlainLeads (jump t) b r X = (w.target b 0 ≡ t) × IsEdge b t r × X t
  PlainLeads return b r X = r ≡ ends (Return b)
  PlainLeads lost b r X = r ≡ ends (Lost b)
  PlainLeads _ b r X = ⊥

  abbrev pub OutLeads : Place → Ways → Bool → Type 0
  OutLeads p v true = (h : ℕ) × (l : Text) × (m : ℕ) × (p.in_loop ≡ Some h) × (w.leave h ≡ Some l) × (v.out ≡ Some (l, m))
  OutLeads p v false = Unit {0}

  abbrev pub out_if : Ways → Bool → Option (Text × ℕ)
  out_if v true = v.out
  out_if v false = None

  abbrev pub in_case : Ways → Bool → Option ℕ → ℕ → Ways
  in_case v breaks m t = record { normal = None; fall = falls t; leave = m; again = v.again; out = out_if v breaks }

  -- the flag, where there is one, is set in no other way inside the region
  abbrev pub FreshIf : Option Text → Region → Type 0
  FreshIf None r = Unit {0}
  FreshIf (Some l) r = Fresh l r

  -- the flags of these cases are set in no other way inside the groups
  abbrev pub FreshBodies : Text → Groups → Type 0
  FreshBodies x none = Unit {0}
  FreshBodies x (group t labels default y gs) = Fresh x y × FreshBodies x gs

  abbrev pub FellFresh : Groups → Groups → Type 0
  FellFresh all none = Unit {0}
  FellFresh all (group t labels default y gs) = ((x : Text) → w.fell t ≡ Some x → FreshBodies x all) × FellFresh all gs

  abbrev mutual
    pub Leads : Region → Place → Ways → ℕ → Type 0
    Leads (ends e) p v at = ExitLeads v p e at
    Leads (item (plain b) r) p v at = (b ≡ at) × PlainLeads (term b) b r (Leads r p v)
    Leads (item (choose h x y) r) p v at =
        (h ≡ at) × ((t u : ℕ) × (term h ≡ branch t u) × (w.target h 0 ≡ t) × (w.target h 1 ≡ u) × IsEdge h t x × IsEdge h u y
        × ((m : Option ℕ) × Leads x p (record v { normal = m; fall = None }) t × Leads y p (record v { normal = m; fall = None }) u × if_there m (λ q. IsItem r × Leads r p v q)))
    Leads (item (loose h x y) r) p v at =
        (h ≡ at) × ((t u : ℕ) × (term h ≡ branch t u) × (w.target h 0 ≡ t) × (w.target h 1 ≡ u) × IsEdge h t x × IsEdge h u y × Leads x p v t × Leads y p v u × (r ≡ ends Closed))
    Leads (item (loop h x) r) p v at =
        (h ≡ at) × IsBlock x × (w.again h ≡ None) × FreshIf (w.leave h) x
        × ((m : Option ℕ) × Leads x (inside_loop h false) (record { normal = None; fall = None; leave = m; again = Some h; out = out_of (w.leave h) m }) h × if_there m (λ q. IsItem r × Leads r p v q))
    Leads (item (loop_on h z x) r) p v at =
        (h ≡ at) × IsBlock x × ((a : Text) × (w.again h ≡ Some a) × (w.leave h ≢ Some a) × Fresh a z × Fresh a x × FreshIf (w.leave h) z × FreshIf (w.leave h) x
        × ((m : Option ℕ) × (c : ℕ) × IsItem z × Leads z (inside_loop h true) (record { normal = Some h; fall = None; leave = m; again = None; out = out_of (w.leave h) m }) c
        × Leads x (inside_loop h false) (record { normal = None; fall = None; leave = m; again = Some c; out = out_of (w.leave h) m }) h × if_there m (λ q. IsItem r × Leads r p v q)))
    Leads (item (switch h gs) r) p v at =
        (h ≡ at) × (term h ≡ table) × OutLeads p v (groups_have_break gs) × FellFresh gs gs × IsOrder falls (w.order h) (targets gs) × Cases h gs
        × ((m : Option ℕ) × GroupsLead gs h p v (groups_have_break gs) m × if_there m (λ q. IsItem r × Leads r p v q))

    -- each group, entered by the edge from the header
    pub GroupsLead : Groups → ℕ → Place → Ways → Bool → Option ℕ → Type 0
    GroupsLead none h p v breaks m = Unit {0}
    GroupsLead (group t labels default x gs) h p v breaks m = IsEdge h t x × ((y : Text) → w.fell t ≡ Some y → IsItem x) × Leads x (inside_switch p) (in_case v breaks m t) t × GroupsLead gs h p v breaks m
