-- What is written of a function's blocks and edges, as it is seen from outside: statements of blocks do these deeds, and all else does none.
use Rattle.std.specs.Prelude.{ℕ, ◌≡◌, Bool, true, false, List, [], ◌++◌, filter, map, Some}
use Rattle.name_alloc.specs.declared.claims.Key.{Key}
use Rattle.glsl_ast.specs.Tree.{Text, Expr, Stmt, stmts_in}
use Rattle.control_text.specs.Statements.{Blocks}
use Rattle.claim_law.specs.Told.{is_among}
use Rattle.safe_law.specs.Flags.{is_flag}
use Rattle.text_law.specs.Deeds.{Deed, deeds}
use Rattle.text_law.specs.Walks as walks
use Rattle.text_law.specs.Walks.{Outer, is_seen, Token, walk}
use Rattle.text_law.specs.Pairs.{Naming, is_again}

module _ (o : Outer) where
  -- nothing that it does is seen
  abbrev pub IsQuiet : Expr → Type 0
  IsQuiet e = filter (is_seen o) (deeds true e) ≡ []

  abbrev pub AreQuiet : List Stmt → Type 0
  AreQuiet xs = (ts : List Token) → walk o (stmts_in xs) ts ≡ ts

  -- these deeds are seen, one list a statement
  abbrev pub Does : List Stmt → List (List Deed) → Type 0
  Does xs dss = (ts : List Token) → walk o (stmts_in xs) ts ≡ map walks.does dss ++ ts

  -- of the blocks that stand in a tree, of which some choose by a condition or a selector, and of the edges that lead from one to another
  pub record AreSeen (w : Blocks) (seen : ℕ → List (List Deed)) (IsHere : ℕ → Type 0) (Chooses : ℕ → Type 0) (Leads : ℕ → ℕ → Type 0) : Type 0 where
    pub statements : (b : ℕ) → IsHere b → Does (w.statements b) (seen b)
    pub condition : (b : ℕ) → IsHere b → Chooses b → IsQuiet (w.condition b)
    pub value : (b : ℕ) (e : Expr) → IsHere b → w.value b ≡ Some e → IsQuiet e
    pub copies : (b t : ℕ) → IsHere b → Leads b t → AreQuiet (w.copies b t)
    pub again : (b : ℕ) (x : Text) → w.again b ≡ Some x → is_among o.memory x ≡ false
    pub leave : (b : ℕ) (x : Text) → w.leave b ≡ Some x → is_among o.memory x ≡ false
    pub fell : (b : ℕ) (x : Text) → w.fell b ≡ Some x → is_among o.memory x ≡ false

-- flags have the names of their keys
abbrev pub IsFlagOf : Naming → (Key → Bool) → Text → Type 0
IsFlagOf found is_such x = (key : Key) × (is_such key ≡ true) × (found key ≡ Some x)

pub record AreFlags (found : Naming) (w : Blocks) : Type 0 where
  pub again : (b : ℕ) (x : Text) → w.again b ≡ Some x → IsFlagOf found is_again x
  pub leave : (b : ℕ) (x : Text) → w.leave b ≡ Some x → IsFlagOf found is_flag x
  pub fell : (b : ℕ) (x : Text) → w.fell b ≡ Some x → IsFlagOf found is_flag x
