-- The copies of an edge that enters a region, a conditional, and the sizes of regions.
use Rattle.std.proofs.Common.{◌≡◌, ◌≤◌, ◌<◌, ℕ, List, [], ◌∷◌, map, length, refl, arith}
use Rattle.structure_recover.specs.Tree as tree
use Rattle.structure_recover.specs.Tree.{before, ends}
use Rattle.structure_recover.specs.View.{item_of, region_of}
use Rattle.structure_recover.specs.declared.region.Region.{Region}
use Rattle.structure_recover.specs.declared.region.Item.{Item}
use Rattle.structure_recover.specs.declared.region.Exit.{Exit}
use Rattle.structure_recover.proofs.Views.{region_is, group_is}
use Rattle.glsl_ast.specs.Tree.{Expr, Stmt, when, either, stmts_in}
use Rattle.glsl_ast.specs.View.{stmt_of}
use Rattle.glsl_ast.specs.declared.statements.Stmt.{Stmt as StmtValue}
use Rattle.glsl_ast.proofs.Views.{arm-is}
use Rattle.control_text.specs.Statements.{Blocks, conditional, entering}
use Rattle.control_text.specs.Size.{region_size}

entering_before : (w : Blocks) (b t : ℕ) (is : List Item) (e : Exit) → 0 < length is → entering w b t (before (map item_of is) (ends e)) ≡ w.copies b t
entering_before w b t [] e h = absurd (omega arith)
entering_before w b t (i ∷ is) e h = refl

pub entering_some : (w : Blocks) (b t : ℕ) (r : Region) → 0 < length r.items.items → entering w b t (region_of r) ≡ w.copies b t
entering_some w b t r h = rw (region_is r) (entering_before w b t r.items.items r.exit h)

pub conditional_when : (c : Expr) (taken : List Stmt) (other : List StmtValue) → length other ≡ 0 → when c (stmts_in taken) ≡ conditional c taken (map stmt_of other)
conditional_when c taken [] h = refl
conditional_when c taken (s ∷ other) h = absurd (omega arith)

pub conditional_either : (c : Expr) (taken : List Stmt) (other : List StmtValue) → 0 < length other → either c (stmts_in taken) (stmts_in (map stmt_of other)) ≡ conditional c taken (map stmt_of other)
conditional_either c taken [] h = absurd (omega arith)
conditional_either c taken (s ∷ other) h = refl

pub size_some : (r : tree.Region) → 1 ≤ region_size r
size_some (ends e) = omega arith
size_some (tree.item i r) = omega (arith, size_some r)

pub ruleset group_rules = (group_is, arm-is)
