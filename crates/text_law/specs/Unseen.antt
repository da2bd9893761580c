-- Names of which nothing is seen from outside, so that expressions and statements made of them are quiet.
use Rattle.std.specs.Prelude.{◌≡◌, true, false, List, [], ◌∷◌, filter}
use Rattle.glsl_ast.specs.Tree.{LValue, lvalue, Stmt, declare, assign, leave, again, give}
use Rattle.claim_law.specs.Uses.{Words, UseSteps}
use Rattle.claim_law.specs.Told.{is_among}
use Rattle.text_law.specs.Deeds.{Deed, calls, own_deeds}
use Rattle.text_law.specs.Walks.{Outer, is_seen}

-- no path to memory begins with the name, and no call of such a function is seen; other names are no matter, nor is what only `length()` is asked of
abbrev pub unseen : Outer → Words
unseen o = record {
  value = λ x. is_among o.memory x ≡ false;
  called = λ x. is_seen o (calls x) ≡ false;
  size = λ x. Unit {0};
  measured = λ x. Unit {0};
  member = λ x. Unit {0};
  struct = λ x. Unit {0};
}

-- statements without statements inside
abbrev pub IsLeaf : Stmt → Type 0
IsLeaf (declare t x e) = Unit {0}
IsLeaf (assign place e) = Unit {0}
IsLeaf (Stmt.call f args) = Unit {0}
IsLeaf leave = Unit {0}
IsLeaf again = Unit {0}
IsLeaf (give e) = Unit {0}
IsLeaf _ = ⊥

abbrev pub AreLeaves : List Stmt → Type 0
AreLeaves [] = Unit {0}
AreLeaves (s ∷ ss) = IsLeaf s × AreLeaves ss

-- the deeds of statements that are seen, one list a statement
abbrev pub if_some : List Deed → List (List Deed) → List (List Deed)
if_some [] dss = dss
if_some (d ∷ ds) dss = (d ∷ ds) ∷ dss

abbrev pub seen_in : Outer → List Stmt → List (List Deed)
seen_in o [] = []
seen_in o (s ∷ ss) = if_some (filter (is_seen o) (own_deeds s)) (seen_in o ss)

-- a path to memory: it begins with such a name, and nothing else of it is seen
abbrev pub IsPath : Outer → LValue → Type 0
IsPath o (lvalue x steps) = (is_among o.memory x ≡ true) × UseSteps (unseen o) steps

-- statements whose own expressions do nothing that is seen
abbrev pub IsStill : Outer → Stmt → Type 0
IsStill o s = filter (is_seen o) (own_deeds s) ≡ []

abbrev pub AreStill : Outer → List Stmt → Type 0
AreStill o [] = Unit {0}
AreStill o (s ∷ ss) = IsStill o s × AreStill o ss
