-- The statements of a block have no statements inside, so each is seen by its own deeds.
use Rattle.std.proofs.Common.{◌≡◌, ℕ, Bool, true, false, List, [], ◌∷◌, ◌++◌, map, filter, flat_map, refl, sym, ◌∙◌, ap, append_assoc, append-nil, if◌then◌else◌}
use Rattle.spv_module.specs.declared.inst.Inst.{Inst}
use Rattle.hoist_plan.specs.declared.form.Form.{Form}
use Rattle.hoist_plan.specs.declared.form.Form.TheVariants.{Local, Hoisted}
use Rattle.glsl_ast.specs.Tree.{Text, Expr, name, LStep, LValue, lvalue, Stmt, declare, assign, when, either, loop, switch, leave, again, give, stmts_in}
use Rattle.expr_forward.specs.declared.kinds.InstKind.{InstKind}
use Rattle.expr_forward.specs.declared.kinds.InstKind.TheVariants as kind
use Rattle.expr_forward.specs.Scope.{Scope}
use Rattle.expr_forward.specs.Paths.{further, lvalue_expr}
use Rattle.expr_forward.specs.Statements.{set_by, is_void, has_result, bare_call, when_bit, memory_barrier, semantics, capture, captured_of, insert_where_named, is_variable_form, inst_text, insts_at, block_text, kind_of}
use Rattle.text_law.specs.Deeds.{Deed, reads, assigns, deeds, step_deeds, place_deeds, own_deeds}
use Rattle.text_law.specs.Walks as walks
use Rattle.text_law.specs.Walks.{Outer, is_seen, Token, if_any, walk_stmt, walk}
use Rattle.text_law.specs.Quiet.{Does}
use Rattle.text_law.specs.Unseen.{IsLeaf, AreLeaves, if_some, seen_in, IsPath}
use Rattle.text_law.proofs.Shape.Unseen.{steps-quiet}

module _ (o : Outer) where
  if-token : (ds : List Deed) (dss : List (List Deed)) (ts us : List Token) → us ≡ map walks.does dss ++ ts → if_any ds us ≡ map walks.does (if_some ds dss) ++ ts
  if-token [] dss ts us same = same
  if-token (d ∷ ds) dss ts us same = ap (λ (l : List Token). walks.does (d ∷ ds) ∷ l) same

  leaf-walk : (s : Stmt) → IsLeaf s → (ts : List Token) → walk_stmt o s ts ≡ if_any (filter (is_seen o) (own_deeds s)) ts
  leaf-walk (declare t x e) leaf ts = refl
  leaf-walk (assign place e) leaf ts = refl
  leaf-walk (Stmt.call f args) leaf ts = refl
  leaf-walk (when c a) leaf ts = absurd leaf
  leaf-walk (either c a b) leaf ts = absurd leaf
  leaf-walk (loop a) leaf ts = absurd leaf
  leaf-walk (switch c arms) leaf ts = absurd leaf
  leaf-walk leave leaf ts = refl
  leaf-walk again leaf ts = refl
  leaf-walk (give e) leaf ts = refl

  pub leaves-do : (xs : List Stmt) → AreLeaves xs → Does o xs (seen_in o xs)
  leaves-do [] leaves ts = refl
  leaves-do (x ∷ xs) leaves ts =
      leaf-walk x leaves.0 (walk o (stmts_in xs) ts) ∙ if-token (filter (is_seen o) (own_deeds x)) (seen_in o xs) ts (walk o (stmts_in xs) ts) (leaves-do xs leaves.1 ts)

  if-both : (ds : List Deed) (xs ys : List (List Deed)) → if_some ds (xs ++ ys) ≡ if_some ds xs ++ ys
  if-both [] xs ys = refl
  if-both (d ∷ ds) xs ys = refl

  pub seen-both : (xs ys : List Stmt) → seen_in o (xs ++ ys) ≡ seen_in o xs ++ seen_in o ys
  seen-both [] ys = refl
  seen-both (x ∷ xs) ys = ap (if_some (filter (is_seen o) (own_deeds x))) (seen-both xs ys) ∙ if-both (filter (is_seen o) (own_deeds x)) (seen_in o xs) (seen_in o ys)

  -- a path is read, or assigned to
  further-deeds : (e : Expr) (steps : List LStep) → deeds true (further e steps) ≡ deeds true e ++ step_deeds steps
  further-deeds e [] = sym (append-nil (deeds true e))
  further-deeds e (LStep.member x ∷ steps) = further-deeds (Expr.member e x) steps
  further-deeds e (LStep.index i ∷ steps) = further-deeds (Expr.index e i) steps ∙ append_assoc (deeds true e) (deeds true i) (step_deeds steps)

  first-seen : (d : Deed) (ds : List Deed) → is_seen o d ≡ true → filter (is_seen o) ds ≡ [] → filter (is_seen o) (d ∷ ds) ≡ d ∷ []
  first-seen d ds on off = ap (λ (b : Bool). if b then d ∷ filter (is_seen o) ds else filter (is_seen o) ds) on ∙ ap (λ (l : List Deed). d ∷ l) off

  pub path-read : (place : LValue) → IsPath o place → (x : Text) × (filter (is_seen o) (deeds true (lvalue_expr place)) ≡ reads x ∷ [])
  path-read (lvalue x steps) is = (x, ap (filter (is_seen o)) (further-deeds (name x) steps) ∙ first-seen (reads x) (step_deeds steps) is.0 (steps-quiet o steps is.1))

  pub path-assigned : (place : LValue) → IsPath o place → (x : Text) × (filter (is_seen o) (place_deeds place) ≡ assigns x ∷ [])
  path-assigned (lvalue x steps) is = (x, first-seen (assigns x) (step_deeds steps) is.0 (steps-quiet o steps is.1))

-- the statements of instructions
pub both-leaves : (xs ys : List Stmt) → AreLeaves xs → AreLeaves ys → AreLeaves (xs ++ ys)
both-leaves [] ys p q = q
both-leaves (x ∷ xs) ys p q = (p.0, both-leaves xs ys p.1 q)

if-leaves : (b : Bool) (xs ys : List Stmt) → AreLeaves xs → AreLeaves ys → AreLeaves (if b then xs else ys)
if-leaves true xs ys p q = p
if-leaves false xs ys p q = q

module _ (w : Scope) where
  set-leaves : (i : Inst) (e : Expr) (form : Form) → AreLeaves (set_by w i e form)
  set-leaves i e Local = (tt, tt)
  set-leaves i e Hoisted = (tt, tt)
  set-leaves i e form = tt

  captured-leaves : (i : Inst) (ns : List (ℕ × ℕ)) → AreLeaves (map (capture w i) ns)
  captured-leaves i [] = tt
  captured-leaves i (n ∷ ns) = (tt, captured-leaves i ns)

  bit-leaves : (bits bit : ℕ) (f : Text) → AreLeaves (when_bit bits bit f)
  bit-leaves bits bit f = if-leaves _ [] (bare_call f) tt (tt, tt)

  barrier-leaves : (bits : ℕ) → AreLeaves (memory_barrier bits)
  barrier-leaves bits = both-leaves (when_bit bits 0x40 _) (when_bit bits 0x100 _) (bit-leaves bits 0x40 _) (bit-leaves bits 0x100 _)

  insert-leaves : (block : ℕ) (i : Inst) (composite : ℕ) (steps : List LStep) (object : ℕ) → AreLeaves (insert_where_named w block i composite steps object)
  insert-leaves block i composite steps object = if-leaves (is_variable_form (w.form i.result)) _ [] (both-leaves (set_by w i _ (w.form i.result)) (_ ∷ []) (set-leaves i _ (w.form i.result)) (tt, tt)) tt

  pub inst-leaves : (block : ℕ) (i : Inst) (k : InstKind) → AreLeaves (inst_text w block i k)
  inst-leaves block i kind.Load = set-leaves i _ (w.form i.result)
  inst-leaves block i kind.Store = (tt, tt)
  inst-leaves block i kind.Call = if-leaves (is_void w i.ty) _ _ (tt, tt) (set-leaves i _ (w.form i.result))
  inst-leaves block i (kind.Atomic a) = if-leaves (has_result a) _ _ (set-leaves i _ (w.form i.result)) (tt, tt)
  inst-leaves block i kind.ControlBarrier = both-leaves (memory_barrier (semantics w _)) (bare_call _) (barrier-leaves (semantics w _)) (tt, tt)
  inst-leaves block i kind.MemoryBarrier = barrier-leaves (semantics w _)
  inst-leaves block i kind.Chain = captured-leaves i (captured_of w i)
  inst-leaves block i kind.CompositeInsert = insert-leaves block i _ _ _
  inst-leaves block i kind.VectorInsertDynamic = insert-leaves block i _ _ _
  inst-leaves block i (kind.Value v) = set-leaves i _ (w.form i.result)
  inst-leaves block i kind.Silent = tt

  insts-leaves : (block : ℕ) (is : List Inst) → AreLeaves (flat_map (λ (i : Inst). inst_text w block i (kind_of i.op)) is)
  insts-leaves block [] = tt
  insts-leaves block (i ∷ is) = both-leaves (inst_text w block i (kind_of i.op)) (flat_map (λ (i : Inst). inst_text w block i (kind_of i.op)) is) (inst-leaves block i (kind_of i.op)) (insts-leaves block is)

  pub block-leaves : (block : ℕ) → AreLeaves (block_text w block)
  block-leaves block = insts-leaves block (insts_at w block)
