-- The statements of a case that is fallen into, with copies on the edges, computed.
use Rattle.std.specs.Prelude.{ℕ, ◌≡◌, ◌==◌, true, false, [], ◌∷◌, None, Some, refl, codes, if◌then◌else◌}
use Rattle.structure_rules.specs.declared.graph.EdgeKind.TheVariants.{SwitchBreak, Fall}
use Rattle.structure_recover.specs.declared.region.Exit.TheVariants.{Edge, Return}
use Rattle.structure_recover.specs.Tree.{Region, ends, item, plain, switch, none, group}
use Rattle.glsl_ast.specs.Tree as text
use Rattle.glsl_ast.specs.Tree.{Stmt, assign, when, give, stmts_in, lvalue, name, not}
use Rattle.glsl_ast.specs.declared.expressions.Literal.TheVariants.{Uint}
use Rattle.glsl_ast.specs.declared.statements.Label.TheVariants.{Case, Default}
use Rattle.control_text.specs.Statements.{Blocks, function_text, set_flag, declare_flag}

-- in place of what a block does: an assignment to a variable with its number
abbrev does : ℕ → Stmt
does b = assign (lvalue (b ∷ []) []) (name (b ∷ []))

-- in place of the copies of an edge: an assignment to a variable with the number of the block to which it leads
abbrev takes : ℕ → ℕ → Stmt
takes b t = assign (lvalue (t ∷ []) []) (name (b ∷ []))

abbrev blocks : Blocks
blocks = record {
  statements = λ b. does b ∷ [];
  condition = λ b. name (b ∷ []);
  case = λ b w. Uint w;
  value = λ b. None;
  target = λ b k. 0;
  copies = λ b t. takes b t ∷ [];
  again = λ h. None;
  leave = λ h. None;
  fell = λ t. if t == 4 then Some (codes "fell") else None;
  order = λ h. 5 ∷ 3 ∷ 4 ∷ [];
}

-- block 2 is a switch: case 1 is block 3, which falls into case 2, block 4; block 5 is its merge block and the default, which is written first
abbrev region : Region
region =
    item (switch 2 (
    group 3 (1 ∷ []) false (item (plain 3) (ends (Edge 3 4 Fall))) (
    group 4 (2 ∷ []) false (item (plain 4) (ends (Edge 4 5 SwitchBreak))) (
    group 5 [] true (ends (Edge 2 5 SwitchBreak)) none))))
    (item (plain 5) (ends (Return 5)))

fallen_into : function_text blocks region ≡
    does 2 ∷ declare_flag (codes "fell") ∷
    text.switch (name (2 ∷ [])) (text.arms_in (
    text.group (Default ∷ []) (stmts_in (takes 2 5 ∷ text.leave ∷ [])) ∷
    text.group (Case (Uint 1) ∷ []) (stmts_in (takes 2 3 ∷ does 3 ∷ takes 3 4 ∷ set_flag (codes "fell") true ∷ [])) ∷
    text.group (Case (Uint 2) ∷ []) (stmts_in (when (not (name (codes "fell"))) (stmts_in (takes 2 4 ∷ [])) ∷ does 4 ∷ takes 4 5 ∷ text.leave ∷ [])) ∷ [])) ∷
    does 5 ∷ give None ∷ []
fallen_into = refl
