-- Expressions and statements that are made of names of which nothing is seen are quiet; so are the moves of edges.
use Rattle.std.proofs.Common.{◌≡◌, ℕ, Bool, true, false, List, [], ◌∷◌, ◌++◌, Option, Some, None, map, filter, refl, ◌∙◌, ap, ap₂, if◌then◌else◌}
use Rattle.std.proofs.lemmas.List.Elements.{filter-append}
use Rattle.phi_copies.specs.declared.moves.Move.{Move}
use Rattle.phi_copies.specs.declared.moves.Move.TheVariants.{Set, Save, Restore}
use Rattle.glsl_ast.specs.Tree.{Text, Expr, literal, name, build, not, flip, binary, choose, length_of, Exprs, no_exprs, expr, LStep, LValue, lvalue, Stmt, declare, assign, when, either, loop, switch, leave, again, give, stmts_in}
use Rattle.control_text.specs.Statements.{Blocks}
use Rattle.function_text.specs.Functions.{FunctionPlan, move_text}
use Rattle.claim_law.specs.Uses.{UsesExpr, UsesMeasured, UseExprs, UseSteps, UsesLValue}
use Rattle.claim_law.specs.Statements.{UsesIfSome, UsesStmt, EachStmt}
use Rattle.claim_law.specs.Told.{is_among}
use Rattle.text_law.specs.Deeds.{Deed, reads, assigns, calls, deeds, deeds_of, deeds_if, step_deeds, place_deeds, own_deeds}
use Rattle.text_law.specs.Walks.{Outer, is_seen, Token, if_any, walk_stmt, walk}
use Rattle.text_law.specs.Quiet.{AreQuiet, Does, AreSeen}
use Rattle.text_law.specs.Unseen.{unseen, IsLeaf, AreLeaves, AreStill}

module _ (o : Outer) where
  abbrev seen_of : List Deed → List Deed
  seen_of ds = filter (is_seen o) ds

  none-of : (xs ys : List Deed) → seen_of xs ≡ [] → seen_of ys ≡ [] → seen_of (xs ++ ys) ≡ []
  none-of xs ys p q = filter-append (is_seen o) xs ys ∙ ap₂ (λ (a b : List Deed). a ++ b) p q

  drop-first : (d : Deed) (ds : List Deed) → is_seen o d ≡ false → seen_of (d ∷ ds) ≡ seen_of ds
  drop-first d ds off = ap (λ (b : Bool). if b then d ∷ seen_of ds else seen_of ds) off

  mutual
    pub uses-quiet : (read : Bool) (e : Expr) → UsesExpr (unseen o) e → seen_of (deeds read e) ≡ []
    uses-quiet read (literal l) uses = refl
    uses-quiet true (name x) uses = drop-first (reads x) [] uses
    uses-quiet false (name x) uses = refl
    uses-quiet read (build t args) uses = all-quiet args uses.1
    uses-quiet read (Expr.call f args) uses = drop-first (calls f) (deeds_of args) uses.0 ∙ all-quiet args uses.1
    uses-quiet read (not e) uses = uses-quiet true e uses
    uses-quiet read (flip e) uses = uses-quiet true e uses
    uses-quiet read (binary s a b) uses = none-of (deeds true a) (deeds true b) (uses-quiet true a uses.0) (uses-quiet true b uses.1)
    uses-quiet read (choose c a b) uses = none-of (deeds true c) (deeds true a ++ deeds true b) (uses-quiet true c uses.0) (none-of (deeds true a) (deeds true b) (uses-quiet true a uses.1) (uses-quiet true b uses.2))
    uses-quiet read (Expr.member e x) uses = uses-quiet read e uses.0
    uses-quiet read (Expr.index a i) uses = none-of (deeds read a) (deeds true i) (uses-quiet read a uses.0) (uses-quiet true i uses.1)
    uses-quiet read (length_of e) uses = measured-quiet e uses

    measured-quiet : (e : Expr) → UsesMeasured (unseen o) e → seen_of (deeds false e) ≡ []
    measured-quiet (name x) uses = refl
    measured-quiet (Expr.member e x) uses = measured-quiet e uses.0
    measured-quiet (Expr.index a i) uses = none-of (deeds false a) (deeds true i) (measured-quiet a uses.0) (uses-quiet true i uses.1)
    measured-quiet e uses = absurd uses

    all-quiet : (es : Exprs) → UseExprs (unseen o) es → seen_of (deeds_of es) ≡ []
    all-quiet no_exprs uses = refl
    all-quiet (expr e es) uses = none-of (deeds true e) (deeds_of es) (uses-quiet true e uses.0) (all-quiet es uses.1)

  if-quiet : (e : Option Expr) → UsesIfSome (unseen o) e → seen_of (deeds_if e) ≡ []
  if-quiet None uses = refl
  if-quiet (Some e) uses = uses-quiet true e uses

  pub steps-quiet : (steps : List LStep) → UseSteps (unseen o) steps → seen_of (step_deeds steps) ≡ []
  steps-quiet [] uses = refl
  steps-quiet (LStep.member x ∷ steps) uses = steps-quiet steps uses.1
  steps-quiet (LStep.index i ∷ steps) uses = none-of (deeds true i) (step_deeds steps) (uses-quiet true i uses.0) (steps-quiet steps uses.1)

  place-quiet : (place : LValue) → UsesLValue (unseen o) place → seen_of (place_deeds place) ≡ []
  place-quiet (lvalue x steps) uses = drop-first (assigns x) (step_deeds steps) uses.0 ∙ steps-quiet steps uses.1

  -- a statement without statements inside that does nothing
  quiet-leaf : (s : Stmt) → IsLeaf s → seen_of (own_deeds s) ≡ [] → (ts : List Token) → walk_stmt o s ts ≡ ts
  quiet-leaf (declare t x e) leaf off ts = ap (λ ds. if_any ds ts) off
  quiet-leaf (assign place e) leaf off ts = ap (λ ds. if_any ds ts) off
  quiet-leaf (Stmt.call f args) leaf off ts = ap (λ ds. if_any ds ts) off
  quiet-leaf (when c a) leaf off ts = absurd leaf
  quiet-leaf (either c a b) leaf off ts = absurd leaf
  quiet-leaf (loop a) leaf off ts = absurd leaf
  quiet-leaf (switch c arms) leaf off ts = absurd leaf
  quiet-leaf leave leaf off ts = refl
  quiet-leaf again leaf off ts = refl
  quiet-leaf (give e) leaf off ts = ap (λ ds. if_any ds ts) off

  pub leaf-quiet : (s : Stmt) → IsLeaf s → UsesStmt (unseen o) s → seen_of (own_deeds s) ≡ []
  leaf-quiet (declare t x e) leaf uses = if-quiet e uses.2
  leaf-quiet (assign place e) leaf uses = none-of (place_deeds place) (deeds true e) (place-quiet place uses.0) (uses-quiet true e uses.1)
  leaf-quiet (Stmt.call f args) leaf uses = drop-first (calls f) (deeds_of args) uses.0 ∙ all-quiet args uses.1
  leaf-quiet (when c a) leaf uses = absurd leaf
  leaf-quiet (either c a b) leaf uses = absurd leaf
  leaf-quiet (loop a) leaf uses = absurd leaf
  leaf-quiet (switch c arms) leaf uses = absurd leaf
  leaf-quiet leave leaf uses = refl
  leaf-quiet again leaf uses = refl
  leaf-quiet (give e) leaf uses = if-quiet e uses

  pub still-quiet : (xs : List Stmt) → AreLeaves xs → AreStill o xs → AreQuiet o xs
  still-quiet [] leaves still ts = refl
  still-quiet (x ∷ xs) leaves still ts = quiet-leaf x leaves.0 still.0 (walk o (stmts_in xs) ts) ∙ still-quiet xs leaves.1 still.1 ts

  leaves-still : (xs : List Stmt) → AreLeaves xs → EachStmt (unseen o) xs → AreStill o xs
  leaves-still [] leaves uses = tt
  leaves-still (x ∷ xs) leaves uses = (leaf-quiet x leaves.0 uses.0, leaves-still xs leaves.1 uses.1)

  pub leaves-quiet : (xs : List Stmt) → AreLeaves xs → EachStmt (unseen o) xs → AreQuiet o xs
  leaves-quiet xs leaves uses ts = still-quiet xs leaves (leaves-still xs leaves uses) ts

  -- a statement that does something, and no statement inside it
  pub does-leaf : (s : Stmt) (d : Deed) (ds : List Deed) → IsLeaf s → seen_of (own_deeds s) ≡ d ∷ ds → Does o (s ∷ []) ((d ∷ ds) ∷ [])
  does-leaf (declare t x e) d ds leaf on ts = ap (λ l. if_any l ts) on
  does-leaf (assign place e) d ds leaf on ts = ap (λ l. if_any l ts) on
  does-leaf (Stmt.call f args) d ds leaf on ts = ap (λ l. if_any l ts) on
  does-leaf (when c a) d ds leaf on ts = absurd leaf
  does-leaf (either c a b) d ds leaf on ts = absurd leaf
  does-leaf (loop a) d ds leaf on ts = absurd leaf
  does-leaf (switch c arms) d ds leaf on ts = absurd leaf
  does-leaf leave d ds leaf on ts = cc
  does-leaf again d ds leaf on ts = cc
  does-leaf (give e) d ds leaf on ts = ap (λ l. if_any l ts) on

-- the moves of an edge
move-leaf : (p : FunctionPlan) (b t : ℕ) (m : Move) → IsLeaf (move_text p b t m)
move-leaf p b t (Set v source) = tt
move-leaf p b t (Save k v) = tt
move-leaf p b t (Restore v k) = tt

pub moves-leaves : (p : FunctionPlan) (b t : ℕ) (ms : List Move) → AreLeaves (map (move_text p b t) ms)
moves-leaves p b t [] = tt
moves-leaves p b t (m ∷ ms) = (move-leaf p b t m, moves-leaves p b t ms)

-- Blocks that are written of names of which nothing is seen, but for the deeds of their statements.
pub are-seen : (o : Outer) (w : Blocks) (seen : ℕ → List (List Deed)) (IsHere : ℕ → Type 0) (Chooses : ℕ → Type 0) (Leads : ℕ → ℕ → Type 0)
    → ((b : ℕ) → IsHere b → Does o (w.statements b) (seen b))
    → ((b : ℕ) → IsHere b → Chooses b → UsesExpr (unseen o) (w.condition b))
    → ((b : ℕ) (e : Expr) → IsHere b → w.value b ≡ Some e → UsesExpr (unseen o) e)
    → ((b t : ℕ) → IsHere b → Leads b t → AreLeaves (w.copies b t) × EachStmt (unseen o) (w.copies b t))
    → ((b : ℕ) (x : Text) → w.again b ≡ Some x → is_among o.memory x ≡ false)
    → ((b : ℕ) (x : Text) → w.leave b ≡ Some x → is_among o.memory x ≡ false)
    → ((b : ℕ) (x : Text) → w.fell b ≡ Some x → is_among o.memory x ≡ false)
    → AreSeen o w seen IsHere Chooses Leads
are-seen o w seen IsHere Chooses Leads statements condition value copies first out fallen = record {
  statements = statements;
  condition = λ b here chooses. uses-quiet o true (w.condition b) (condition b here chooses);
  value = λ b e here is. uses-quiet o true e (value b e here is);
  copies = λ b t here leads. leaves-quiet o (w.copies b t) (copies b t here leads).0 (copies b t here leads).1;
  again = first;
  leave = out;
  fell = fallen;
}
