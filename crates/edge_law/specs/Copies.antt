-- What is written of the moves of an edge, and what is asked of them.
use Rattle.std.specs.Prelude.{◌≡◌, ◌⊎◌, ℕ, Bool, true, false, List, [], ◌∷◌, Option, Some}
use Rattle.phi_copies.specs.declared.moves.Src.{Src}
use Rattle.phi_copies.specs.declared.moves.Src.TheVariants.{Var as Variable, Constant}
use Rattle.phi_copies.specs.declared.moves.Move.{Move}
use Rattle.phi_copies.specs.declared.moves.Move.TheVariants.{Set, Save, Restore}
use Rattle.phi_copies.specs.Meaning.{State as Values, value, step}
use Rattle.phi_copies.specs.Sequence.{Pair, target}
use Rattle.spv_module.specs.declared.inst.Inst.{Inst}
use Rattle.spv_types.specs.Tree.{ValueTree}
use Rattle.glsl_ast.specs.Tree.{Text, TypeName, Expr, name, Stmt, declare, assign, lvalue}
use Rattle.glsl_semantics.specs.Shapes.{Shape, same_shape}
use Rattle.agree_law.specs.Agree.{Naming, IsOther}

-- the names and the types of the spares of an edge, and the expressions of the constants that its moves read
pub record EdgeNames : Type 0 where
  pub spare : ℕ → Text
  pub spare_shape : ℕ → Shape
  pub spare_type : ℕ → TypeName
  pub constant : ℕ → Expr
  pub is_constant : ℕ → Bool

module _ (m : Naming) (e : EdgeNames) where
  -- a variable is given the value of another or of a constant; a spare is declared with the value of a variable; a variable is given that of a spare
  abbrev pub source_text : Src → Expr
  source_text (Variable v) = name (m.name v.0)
  source_text (Constant c) = e.constant c.0

  abbrev pub move_text : Move → Stmt
  move_text (Set v source) = assign (lvalue (m.name v.0) []) (source_text source)
  move_text (Save k v) = declare (e.spare_type k) (e.spare k) (Some (name (m.name v.0)))
  move_text (Restore v k) = assign (lvalue (m.name v.0) []) (name (e.spare k))

  -- both sides of a move have one type, and what it sets has a variable at the top of the function
  abbrev pub IsSource : Shape → Src → Type 0
  IsSource t (Variable v) = m.shape v.0 ≡ t
  IsSource t (Constant c) = m.shape c.0 ≡ t

  abbrev pub IsTyped : Move → Type 0
  IsTyped (Set v source) = (m.is_outer v.0 ≡ true) × (same_shape (m.shape v.0) (m.shape v.0) ≡ true) × IsSource (m.shape v.0) source
  IsTyped (Save k v) = (same_shape (e.spare_shape k) (e.spare_shape k) ≡ true) × (m.shape v.0 ≡ e.spare_shape k)
  IsTyped (Restore v k) = (m.is_outer v.0 ≡ true) × (same_shape (m.shape v.0) (m.shape v.0) ≡ true) × (e.spare_shape k ≡ m.shape v.0)

  abbrev pub AreTyped : List Move → Type 0
  AreTyped [] = Unit {0}
  AreTyped (q ∷ qs) = IsTyped q × AreTyped qs

  -- what is read are variables at the top of the function and those of the block, behind these results, and these constants
  module _ (done : ℕ → Bool) where
    abbrev pub IsRead : Src → Type 0
    IsRead (Variable v) = (m.is_outer v.0 ≡ true) ⊎ ((m.is_local v.0 ≡ true) × (done v.0 ≡ true))
    IsRead (Constant c) = e.is_constant c.0 ≡ true

    abbrev pub Reads : Move → Type 0
    Reads (Set v source) = IsRead source
    Reads (Save j v) = IsRead (Variable v)
    Reads (Restore v j) = Unit {0}

    abbrev pub AllReads : List Move → Type 0
    AllReads [] = Unit {0}
    AllReads (q ∷ qs) = Reads q × AllReads qs

  -- the spares have names of their own
  pub record SparesApart : Type 0 where
    pub other : (k : ℕ) → IsOther m (e.spare k)
    pub own : (j k : ℕ) → e.spare j ≡ e.spare k → j ≡ k

-- Values are those that variables have, or none.
abbrev pub V : Type 0
V = Option ValueTree

-- what a move reads, and that each of these reads something
abbrev pub read_by : (ℕ → V) → Values V → Move → V
read_by constants st (Set v source) = value V constants st.vars source
read_by constants st (Save k v) = st.vars v.0
read_by constants st (Restore v k) = st.spares k

abbrev pub AllRead : (ℕ → V) → Values V → List Move → Type 0
AllRead constants st [] = Unit {0}
AllRead constants st (q ∷ qs) = ((u : ValueTree) × (read_by constants st q ≡ Some u)) × AllRead constants (step V constants st q) qs

-- the first pair is that of the phi, and this holds of the others
abbrev pub IsPaired : Naming → (ℕ → V) → (ℕ → V) → Inst → ValueTree → (List Pair → Type 0) → List Pair → Type 0
IsPaired m constants before i v P [] = ⊥
IsPaired m constants before i v P (q ∷ qs) = (target q ≡ i.result) × (value V constants before q.1 ≡ Some v) × P qs

-- The pairs of these phis, which take these values: one for each phi that has a variable at the top of the function, in their order, whose source has what the phi takes.
abbrev pub ArePairs : Naming → (ℕ → V) → (ℕ → V) → List Inst → List ValueTree → List Pair → Type 0
ArePairs m constants before [] [] [] = Unit {0}
ArePairs m constants before (i ∷ is) (v ∷ vs) ps = ((m.is_outer i.result ≡ false) × ArePairs m constants before is vs ps) ⊎ IsPaired m constants before i v (ArePairs m constants before is vs) ps
ArePairs m constants before _ _ _ = ⊥
