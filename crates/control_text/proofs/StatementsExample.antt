-- The statements of a switch in a loop, computed.
use Rattle.std.specs.Prelude.{ℕ, ◌≡◌, ◌==◌, true, false, [], ◌∷◌, None, Some, refl, codes, if◌then◌else◌}
use Rattle.structure_rules.specs.declared.graph.EdgeKind.TheVariants.{SwitchBreak, Break, Continue, Back, Fall}
use Rattle.structure_recover.specs.declared.region.Exit.TheVariants.{Edge, Return}
use Rattle.structure_recover.specs.Tree.{Region, ends, item, plain, loop_on, switch, none, group}
use Rattle.glsl_ast.specs.Tree as text
use Rattle.glsl_ast.specs.Tree.{Stmt, assign, when, give, stmts_in, lvalue, name}
use Rattle.glsl_ast.specs.declared.expressions.Literal.TheVariants.{Uint}
use Rattle.glsl_ast.specs.declared.statements.Label.TheVariants.{Case, Default}
use Rattle.control_text.specs.Statements.{Blocks, function_text, set_flag, declare_flag}

-- in place of what a block does: an assignment to a variable with its number
abbrev does : ℕ → Stmt
does b = assign (lvalue (b ∷ []) []) (name (b ∷ []))

abbrev blocks : Blocks
blocks = record {
  statements = λ b. does b ∷ [];
  condition = λ b. name (b ∷ []);
  case = λ b w. Uint w;
  value = λ b. None;
  target = λ b k. 0;
  copies = λ b t. [];
  again = λ h. if h == 1 then Some (codes "again") else None;
  leave = λ h. if h == 1 then Some (codes "leave") else None;
  fell = λ t. None;
  order = λ h. 3 ∷ 4 ∷ 5 ∷ 6 ∷ 7 ∷ [];
}

-- block 2 is a switch: case 1 is block 3, which falls into case 2, block 4; block 5 is its merge block and the default; case 5 is the continue target, block 6, and case 3 the merge block of the loop, block 7
abbrev region : Region
region =
    item (plain 0) (item (loop_on 1
    (item (plain 6) (ends (Edge 6 1 Back)))
    (item (plain 1) (item (switch 2 (
    group 3 (1 ∷ []) false (item (plain 3) (ends (Edge 3 4 Fall))) (
    group 4 (2 ∷ []) false (item (plain 4) (ends (Edge 4 5 SwitchBreak))) (
    group 5 [] true (ends (Edge 2 5 SwitchBreak)) (
    group 6 (5 ∷ []) false (ends (Edge 2 6 Continue)) (
    group 7 (3 ∷ []) false (ends (Edge 2 7 Break)) none)))))) (item (plain 5) (ends (Edge 5 6 Continue))))))
    (item (plain 7) (ends (Return 7))))

switch_in_loop : function_text blocks region ≡
    does 0 ∷ declare_flag (codes "again") ∷ declare_flag (codes "leave") ∷
    text.loop (stmts_in (
    when (name (codes "again")) (stmts_in (does 6 ∷ [])) ∷
    set_flag (codes "again") true ∷
    does 1 ∷ does 2 ∷
    text.switch (name (2 ∷ [])) (text.arms_in (
    text.group (Case (Uint 1) ∷ []) (stmts_in (does 3 ∷ [])) ∷
    text.group (Case (Uint 2) ∷ []) (stmts_in (does 4 ∷ text.leave ∷ [])) ∷
    text.group (Default ∷ []) (stmts_in (text.leave ∷ [])) ∷
    text.group (Case (Uint 5) ∷ []) (stmts_in (text.again ∷ [])) ∷
    text.group (Case (Uint 3) ∷ []) (stmts_in (set_flag (codes "leave") true ∷ text.leave ∷ [])) ∷ [])) ∷
    when (name (codes "leave")) (stmts_in (text.leave ∷ [])) ∷
    does 5 ∷ text.again ∷ [])) ∷
    does 7 ∷ give None ∷ []
switch_in_loop = refl
