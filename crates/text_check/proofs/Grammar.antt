-- What passes the tests is in the grammar.
use Rattle.std.proofs.Common.{◌≡◌, ◌^◌, ◌≤◌, ◌&&◌, ◌==◌, not, true, List, [], ◌∷◌, length, Option, Some, None, ℕ, nat_lt, nat_le, refl, subst, arith}
use Rattle.std.specs.List.{list_all}
use Rattle.std.proofs.lemmas.Bool.{and_parts, not-true, ltb-true, leb-true, eqb-false}
use Rattle.glsl_ast.specs.Tree as tree
use Rattle.glsl_ast.specs.Tree.{Text, TypeName, type_name, Extent, Base, Expr, Exprs, no_exprs, LStep, LValue, lvalue, Stmt, Stmts, no_stmts, Arms, no_arms, Field, field, Member, Param, param, Decl, TranslationUnit, translation_unit}
use Rattle.glsl_ast.specs.declared.expressions.Literal.{Literal}
use Rattle.glsl_ast.specs.declared.expressions.Literal.TheVariants as literal
use Rattle.glsl_ast.specs.declared.statements.Label.{Label}
use Rattle.glsl_ast.specs.declared.statements.Label.TheVariants as label
use Rattle.glsl_ast.specs.declared.items.Size.{Size}
use Rattle.glsl_ast.specs.declared.items.BlockPlace.{BlockPlace}
use Rattle.glsl_ast.specs.declared.items.BlockPlace.TheVariants as place
use Rattle.glsl_grammar.specs.InGrammar.{IsInGrammar}
use Rattle.glsl_grammar.specs.Read.{is_declared, names_after}
use Rattle.glsl_grammar.specs.Scopes.{IsFree, IsDeclaredBase, IsDeclaredType, IsDeclaredExpr, AreDeclaredExprs, AreDeclaredSteps, IsDeclaredLValue, IsDeclaredValue, has_arms, IsDeclaredStmt, AreDeclaredStmts, AreDeclaredArms, AreDeclaredFields, AreDeclaredMembers, AreDeclaredParams, IsDeclaredResult, IsDeclaredDecl, AreDeclaredDecls, AreAxes, IsDeclared}
use Rattle.glsl_grammar.specs.Spelled.{IsName, FitsWord, IsVectorSize, IsSpelledExtent, AreSpelledExtents, IsSpelledBase, IsSpelledType, IsSpelledLiteral, IsSpelledExpr, AreSpelledExprs, AreSpelledSteps, IsSpelledLValue, IsSpelledIfSome, AreSpelledLabels, IsSpelledStmt, AreSpelledStmts, AreSpelledArms, AreSpelledFields, AreSpelledMembers, AreSpelledParams, IsSpelledPlace, IsSpelledResult, IsSpelledId, IsSpelledDecl, AreSpelledDecls, AreSpelledSizes}
use Rattle.text_check.specs.Words.{is_name, is_free, declared_after}
use Rattle.text_check.specs.Parts.{is_spelled, is_literal, is_extent, is_vector_size, is_base, is_type, is_expr, are_exprs, is_value}
use Rattle.text_check.specs.Statements.{is_step, is_lvalue, is_label, has_some, is_stmt, are_stmts, are_arms}
use Rattle.text_check.specs.Items.{is_named, is_field, is_member, is_param, is_place, is_result, is_id, is_valued, are_fields, are_members, is_block, is_item, are_items, is_size, none, is_unit}
use Rattle.text_check.proofs.NameTests.{name_is}

spelled_is : (n : ℕ) → is_spelled n ≡ true → FitsWord n
spelled_is n h = ltb-true n (2 ^ 32) h

literal_is : (l : Literal) → is_literal l ≡ true → IsSpelledLiteral l
literal_is (literal.Int n) h = spelled_is n h
literal_is (literal.Uint n) h = spelled_is n h
literal_is (literal.Hex n) h = spelled_is n h
literal_is (literal.Truth b) h = tt

extent_is : (e : Extent) → is_extent e ≡ true → IsSpelledExtent e
extent_is tree.open_end h = tt
extent_is (tree.Extent.number n) h = spelled_is n h
extent_is (tree.Extent.named w) h = name_is w h
extent_is (tree.Extent.size w) h = name_is w h

extents_are : (es : List Extent) → list_all is_extent es ≡ true → AreSpelledExtents es
extents_are [] h = tt
extents_are (e ∷ es) h = let k = and_parts (is_extent e) (list_all is_extent es) h in (extent_is e k.0, extents_are es k.1)

vector_is : (n : ℕ) → is_vector_size n ≡ true → IsVectorSize n
vector_is n h = let k = and_parts (nat_le 2 n) (nat_le n 4) h in (leb-true 2 n k.0, leb-true n 4 k.1)

some_of : {A : Type 0} → (xs : List A) → has_some xs ≡ true → 1 ≤ length xs
some_of xs h = let some = eqb-false (length xs) 0 (not-true (length xs == 0) h) in omega (arith, some)

labels_are : (ls : List Label) → list_all is_label ls ≡ true → AreSpelledLabels ls
labels_are [] h = tt
labels_are (label.Case l ∷ ls) h = let k = and_parts (is_literal l) (list_all is_label ls) h in (literal_is l k.0, labels_are ls k.1)
labels_are (label.Default ∷ ls) h = labels_are ls h

place_is : (p : BlockPlace) → is_place p ≡ true → IsSpelledPlace p
place_is (place.Set s b) h = let k = and_parts (is_spelled s) (is_spelled b) h in (spelled_is s k.0, spelled_is b k.1)
place_is place.Push h = tt

id_is : (id : Option ℕ) → is_id id ≡ true → IsSpelledId id
id_is None h = tt
id_is (Some n) h = spelled_is n h

-- where these structs are declared
module _ (names : List Text) where
  free_is : (w : Text) → is_free (is_declared names) w ≡ true → IsName w × IsFree names w
  free_is w h = let k = and_parts (is_name w) (not (is_declared names w)) h in (name_is w k.0, not-true (is_declared names w) k.1)

  base_is : (b : Base) → is_base (is_declared names) b ≡ true → IsSpelledBase b × IsDeclaredBase names b
  base_is tree.Base.boolean h = (tt, tt)
  base_is tree.Base.int h = (tt, tt)
  base_is tree.Base.uint h = (tt, tt)
  base_is (tree.Base.bool_vec n) h = (vector_is n h, tt)
  base_is (tree.Base.int_vec n) h = (vector_is n h, tt)
  base_is (tree.Base.uint_vec n) h = (vector_is n h, tt)
  base_is (tree.Base.struct w) h = let k = and_parts (is_name w) (is_declared names w) h in (name_is w k.0, k.1)

  type_is : (t : TypeName) → is_type (is_declared names) t ≡ true → IsSpelledType t × IsDeclaredType names t
  type_is (type_name b es) h =
      let k = and_parts (is_base (is_declared names) b) (list_all is_extent es) h in
      let base = base_is b k.0 in
      ((base.0, extents_are es k.1), base.1)

  mutual
    expr_is : (e : Expr) → is_expr (is_declared names) e ≡ true → IsSpelledExpr e × IsDeclaredExpr names e
    expr_is (tree.Expr.literal l) h = (literal_is l h, tt)
    expr_is (tree.Expr.name w) h = free_is w h
    expr_is (tree.Expr.build t args) h =
        let k = and_parts (is_type (is_declared names) t) (are_exprs (is_declared names) args) h in
        let a = type_is t k.0 in
        let b = exprs_are args k.1 in
        ((a.0, b.0), (a.1, b.1))
    expr_is (tree.Expr.call w args) h =
        let k = and_parts (is_free (is_declared names) w) (are_exprs (is_declared names) args) h in
        let a = free_is w k.0 in
        let b = exprs_are args k.1 in
        ((a.0, b.0), (a.1, b.1))
    expr_is (tree.Expr.not e) h = expr_is e h
    expr_is (tree.Expr.flip e) h = expr_is e h
    expr_is (tree.Expr.binary op a b) h =
        let k = and_parts (is_expr (is_declared names) a) (is_expr (is_declared names) b) h in
        let left = expr_is a k.0 in
        let right = expr_is b k.1 in
        ((left.0, right.0), (left.1, right.1))
    expr_is (tree.Expr.choose c a b) h =
        let k = and_parts (is_expr (is_declared names) c && is_expr (is_declared names) a) (is_expr (is_declared names) b) h in
        let front = and_parts (is_expr (is_declared names) c) (is_expr (is_declared names) a) k.0 in
        let test = expr_is c front.0 in
        let left = expr_is a front.1 in
        let right = expr_is b k.1 in
        ((test.0, (left.0, right.0)), (test.1, left.1, right.1))
    expr_is (tree.Expr.member e w) h =
        let k = and_parts (is_expr (is_declared names) e) (is_name w) h in
        let a = expr_is e k.0 in
        ((a.0, name_is w k.1), a.1)
    expr_is (tree.Expr.index a b) h =
        let k = and_parts (is_expr (is_declared names) a) (is_expr (is_declared names) b) h in
        let left = expr_is a k.0 in
        let right = expr_is b k.1 in
        ((left.0, right.0), (left.1, right.1))
    expr_is (tree.Expr.length_of e) h = expr_is e h

    exprs_are : (es : Exprs) → are_exprs (is_declared names) es ≡ true → AreSpelledExprs es × AreDeclaredExprs names es
    exprs_are no_exprs h = (tt, tt)
    exprs_are (tree.Exprs.expr e es) h =
        let k = and_parts (is_expr (is_declared names) e) (are_exprs (is_declared names) es) h in
        let a = expr_is e k.0 in
        let b = exprs_are es k.1 in
        ((a.0, b.0), (a.1, b.1))

  value_is : (o : Option Expr) → is_value (is_declared names) o ≡ true → IsSpelledIfSome o × IsDeclaredValue names o
  value_is None h = (tt, tt)
  value_is (Some e) h = expr_is e h

  steps_are : (s : List LStep) → list_all (is_step (is_declared names)) s ≡ true → AreSpelledSteps s × AreDeclaredSteps names s
  steps_are [] h = (tt, tt)
  steps_are (tree.LStep.member w ∷ s) h =
      let k = and_parts (is_name w) (list_all (is_step (is_declared names)) s) h in
      let rest = steps_are s k.1 in
      ((name_is w k.0, rest.0), rest.1)
  steps_are (tree.LStep.index e ∷ s) h =
      let k = and_parts (is_expr (is_declared names) e) (list_all (is_step (is_declared names)) s) h in
      let at = expr_is e k.0 in
      let rest = steps_are s k.1 in
      ((at.0, rest.0), (at.1, rest.1))

  lvalue_is : (l : LValue) → is_lvalue (is_declared names) l ≡ true → IsSpelledLValue l × IsDeclaredLValue names l
  lvalue_is (lvalue w s) h =
      let k = and_parts (is_free (is_declared names) w) (list_all (is_step (is_declared names)) s) h in
      let base = free_is w k.0 in
      let rest = steps_are s k.1 in
      ((base.0, rest.0), (base.1, rest.1))

  mutual
    stmt_is : (s : Stmt) → is_stmt (is_declared names) s ≡ true → IsSpelledStmt s × IsDeclaredStmt names s
    stmt_is (tree.Stmt.declare t w o) h =
        let k = and_parts (is_type (is_declared names) t && is_name w) (is_value (is_declared names) o) h in
        let front = and_parts (is_type (is_declared names) t) (is_name w) k.0 in
        let a = type_is t front.0 in
        let b = value_is o k.1 in
        ((a.0, (name_is w front.1, b.0)), (a.1, b.1))
    stmt_is (tree.Stmt.assign l e) h =
        let k = and_parts (is_lvalue (is_declared names) l) (is_expr (is_declared names) e) h in
        let a = lvalue_is l k.0 in
        let b = expr_is e k.1 in
        ((a.0, b.0), (a.1, b.1))
    stmt_is (tree.Stmt.call w args) h =
        let k = and_parts (is_free (is_declared names) w) (are_exprs (is_declared names) args) h in
        let a = free_is w k.0 in
        let b = exprs_are args k.1 in
        ((a.0, b.0), (a.1, b.1))
    stmt_is (tree.Stmt.when e a) h =
        let k = and_parts (is_expr (is_declared names) e) (are_stmts (is_declared names) a) h in
        let test = expr_is e k.0 in
        let body = stmts_are a k.1 in
        ((test.0, body.0), (test.1, body.1))
    stmt_is (tree.Stmt.either e a b) h =
        let k = and_parts (is_expr (is_declared names) e && are_stmts (is_declared names) a) (are_stmts (is_declared names) b) h in
        let front = and_parts (is_expr (is_declared names) e) (are_stmts (is_declared names) a) k.0 in
        let test = expr_is e front.0 in
        let body = stmts_are a front.1 in
        let other = stmts_are b k.1 in
        ((test.0, (body.0, other.0)), (test.1, body.1, other.1))
    stmt_is (tree.Stmt.loop a) h = stmts_are a h
    stmt_is (tree.Stmt.switch e arms) h =
        let k = and_parts (is_expr (is_declared names) e) (has_arms arms && are_arms (is_declared names) arms) h in
        let groups = and_parts (has_arms arms) (are_arms (is_declared names) arms) k.1 in
        let on = expr_is e k.0 in
        let body = arms_are arms groups.1 in
        ((on.0, body.0), (on.1, groups.0, body.1))
    stmt_is tree.Stmt.leave h = (tt, tt)
    stmt_is tree.Stmt.again h = (tt, tt)
    stmt_is (tree.Stmt.give o) h = value_is o h

    stmts_are : (ss : Stmts) → are_stmts (is_declared names) ss ≡ true → AreSpelledStmts ss × AreDeclaredStmts names ss
    stmts_are no_stmts h = (tt, tt)
    stmts_are (tree.Stmts.stmt s ss) h =
        let k = and_parts (is_stmt (is_declared names) s) (are_stmts (is_declared names) ss) h in
        let a = stmt_is s k.0 in
        let b = stmts_are ss k.1 in
        ((a.0, b.0), (a.1, b.1))

    arms_are : (r : Arms) → are_arms (is_declared names) r ≡ true → AreSpelledArms r × AreDeclaredArms names r
    arms_are no_arms h = (tt, tt)
    arms_are (tree.Arms.arm ls b r) h =
        let k = and_parts ((has_some ls && list_all is_label ls) && are_stmts (is_declared names) b) (are_arms (is_declared names) r) h in
        let front = and_parts (has_some ls && list_all is_label ls) (are_stmts (is_declared names) b) k.0 in
        let labels = and_parts (has_some ls) (list_all is_label ls) front.0 in
        let body = stmts_are b front.1 in
        let rest = arms_are r k.1 in
        ((labels_are ls labels.1, (body.0, rest.0)), (some_of ls labels.0, body.1, rest.1))

  named_is : (t : TypeName) (w : Text) → is_named (is_declared names) t w ≡ true → (IsSpelledType t × IsName w) × IsDeclaredType names t
  named_is t w h =
      let k = and_parts (is_type (is_declared names) t) (is_name w) h in
      let a = type_is t k.0 in
      ((a.0, name_is w k.1), a.1)

  valued_is : (t : TypeName) (w : Text) (e : Expr) → is_valued (is_declared names) t w e ≡ true → (IsSpelledType t × (IsName w × IsSpelledExpr e)) × (IsDeclaredType names t × IsDeclaredExpr names e)
  valued_is t w e h =
      let k = and_parts (is_named (is_declared names) t w) (is_expr (is_declared names) e) h in
      let a = named_is t w k.0 in
      let b = expr_is e k.1 in
      ((a.0.0, (a.0.1, b.0)), (a.1, b.1))

  fields_are : (fs : List Field) → list_all (is_field (is_declared names)) fs ≡ true → AreSpelledFields fs × AreDeclaredFields names fs
  fields_are [] h = (tt, tt)
  fields_are (field t w ∷ fs) h =
      let k = and_parts (is_named (is_declared names) t w) (list_all (is_field (is_declared names)) fs) h in
      let a = named_is t w k.0 in
      let b = fields_are fs k.1 in
      ((a.0, b.0), (a.1, b.1))

  members_are : (ms : List Member) → list_all (is_member (is_declared names)) ms ≡ true → AreSpelledMembers ms × AreDeclaredMembers names ms
  members_are [] h = (tt, tt)
  members_are (tree.Member.member n qs t w ∷ ms) h =
      let k = and_parts (is_spelled n && is_named (is_declared names) t w) (list_all (is_member (is_declared names)) ms) h in
      let front = and_parts (is_spelled n) (is_named (is_declared names) t w) k.0 in
      let a = named_is t w front.1 in
      let b = members_are ms k.1 in
      (((spelled_is n front.0, a.0), b.0), (a.1, b.1))

  params_are : (ps : List Param) → list_all (is_param (is_declared names)) ps ≡ true → AreSpelledParams ps × AreDeclaredParams names ps
  params_are [] h = (tt, tt)
  params_are (param inout t w ∷ ps) h =
      let k = and_parts (is_named (is_declared names) t w) (list_all (is_param (is_declared names)) ps) h in
      let a = named_is t w k.0 in
      let b = params_are ps k.1 in
      ((a.0, b.0), (a.1, b.1))

  result_is : (o : Option TypeName) → is_result (is_declared names) o ≡ true → IsSpelledResult o × IsDeclaredResult names o
  result_is None h = (tt, tt)
  result_is (Some t) h = type_is t h

  item_is : (d : Decl) → is_item (is_declared names) d ≡ true → IsSpelledDecl d × IsDeclaredDecl names d
  item_is (tree.Decl.struct w fs) h =
      let k = and_parts (is_name w) (are_fields (is_declared names) fs) h in
      let all = and_parts (has_some fs) (list_all (is_field (is_declared names)) fs) k.1 in
      let a = fields_are fs all.1 in
      ((name_is w k.0, a.0), (some_of fs all.0, a.1))
  item_is (tree.Decl.constant id t w e) h =
      let k = and_parts (is_id id) (is_valued (is_declared names) t w e) h in
      let a = valued_is t w e k.1 in
      ((id_is id k.0, a.0), a.1)
  item_is (tree.Decl.shared t w) h = named_is t w h
  item_is (tree.Decl.global t w e) h = valued_is t w e h
  item_is (tree.Decl.block p r qs buffer w ms instance) h =
      let k = and_parts (is_place p) (is_block (is_declared names) w ms instance) h in
      let parts = and_parts (is_name w && is_name instance) (are_members (is_declared names) ms) k.1 in
      let both = and_parts (is_name w) (is_name instance) parts.0 in
      let all = and_parts (has_some ms) (list_all (is_member (is_declared names)) ms) parts.1 in
      let a = members_are ms all.1 in
      ((place_is p k.0, (name_is w both.0, (a.0, name_is instance both.1))), (some_of ms all.0, a.1))
  item_is (tree.Decl.function result w ps body) h =
      let k = and_parts ((is_result (is_declared names) result && is_name w) && list_all (is_param (is_declared names)) ps) (are_stmts (is_declared names) body) h in
      let head = and_parts (is_result (is_declared names) result && is_name w) (list_all (is_param (is_declared names)) ps) k.0 in
      let front = and_parts (is_result (is_declared names) result) (is_name w) head.0 in
      let a = result_is result front.0 in
      let b = params_are ps head.1 in
      let c = stmts_are body k.1 in
      ((a.0, (name_is w front.1, (b.0, c.0))), (a.1, b.1, c.1))

-- the names behind an item are those that are declared there
after_is : (names : List Text) (d : Decl) → declared_after (is_declared names) d ≡ is_declared (names_after names d)
after_is names (tree.Decl.struct w fs) = refl
after_is names (tree.Decl.constant id t w e) = refl
after_is names (tree.Decl.shared t w) = refl
after_is names (tree.Decl.global t w e) = refl
after_is names (tree.Decl.block p r qs buffer w ms instance) = refl
after_is names (tree.Decl.function result w ps body) = refl

items_are : (names : List Text) (ds : List Decl) → are_items (is_declared names) ds ≡ true → AreSpelledDecls ds × AreDeclaredDecls names ds
items_are names [] h = (tt, tt)
items_are names (d ∷ ds) h =
    let k = and_parts (is_item (is_declared names) d) (are_items (declared_after (is_declared names) d) ds) h in
    let rest : are_items (is_declared (names_after names d)) ds ≡ true = subst (λ declared. are_items declared ds ≡ true) (after_is names d) k.1 in
    let a = item_is names d k.0 in
    let b = items_are (names_after names d) ds rest in
    ((a.0, b.0), (a.1, b.1))

sizes_are : (ss : List Size) → list_all is_size ss ≡ true → AreSpelledSizes ss × AreAxes ss
sizes_are [] h = (tt, tt)
sizes_are (s ∷ ss) h =
    let k = and_parts (is_size s) (list_all is_size ss) h in
    let front = and_parts (nat_lt s.axis 3) (is_spelled s.number) k.0 in
    let rest = sizes_are ss k.1 in
    ((spelled_is s.number front.1, rest.0), (ltb-true s.axis 3 front.0, rest.1))

pub unit_is : (u : TranslationUnit) → is_unit u ≡ true → IsInGrammar u
unfolding IsDeclared
unit_is (translation_unit ss ds) h =
    let k = and_parts (has_some ss && list_all is_size ss) (are_items none ds) h in
    let sizes = and_parts (has_some ss) (list_all is_size ss) k.0 in
    let a = sizes_are ss sizes.1 in
    let b = items_are [] ds k.1 in
    record { spelled = (a.0, b.0); declared = (some_of ss sizes.0, a.1, b.1) }
