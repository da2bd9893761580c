-- What is written of a planned function has its shape, where its values and edges are written of names of which nothing is seen, and its instructions as is asked of them.
use Rattle.std.proofs.Common.{◌≡◌, ℕ, true, false, List, [], ◌∷◌, ◌++◌, map, filter, flat_map, Option, Some, None, refl}
use Rattle.std.specs.Prelude.{slice_get}
use Rattle.std.specs.Option.{option_map_or}
use Rattle.std.specs.List.{AllZip}
use Rattle.spv_module.specs.declared.inst.Inst.{Inst}
use Rattle.spv_module.specs.declared.inst.Block.{Block}
use Rattle.structure_rules.specs.Graph.{graph, nth, is_switch}
use Rattle.nest_place.specs.Nests.{IsSound}
use Rattle.structure_recover.specs.Follows.{continue_block, switch_targets, IsTree}
use Rattle.structure_recover.proofs.Standing.{tree_once}
use Rattle.glsl_ast.specs.Tree.{Text, Expr, Stmt, stmts_in}
use Rattle.region_law.specs.Leads.{In, AreApart}
use Rattle.text_rules.specs.Constants.{Source}
use Rattle.expr_forward.specs.Scope.{Scope}
use Rattle.expr_forward.specs.Statements.{insts_at, block_text, inst_text, kind_of, captured_of}
use Rattle.function_text.specs.Functions.{FunctionPlan, written, blocks_of, body_text, top_text, in_blocks, variables_text, hoisted_texts, captured_texts, variable_text, hoisted_text, captured_text, captured_texts_of, is_hoisted_in}
use Rattle.claim_law.specs.Uses.{UsesExpr}
use Rattle.claim_law.specs.Statements.{EachStmt}
use Rattle.claim_law.specs.Blocks.{IsWhole}
use Rattle.claim_law.specs.Told.{is_among}
use Rattle.profile_rules.specs.Places.{is_variable}
use Rattle.text_law.specs.Deeds.{Deed}
use Rattle.text_law.specs.Walks.{Outer}
use Rattle.text_law.specs.Pairs.{Act, does, is_done, Naming}
use Rattle.text_law.specs.Quiet.{AreFlags}
use Rattle.text_law.specs.Unseen.{unseen, IsLeaf, AreLeaves, seen_in, AreStill}
use Rattle.text_law.specs.Asked.{AllAskSeen}
use Rattle.text_law.specs.Shape.{block_acts, acts_at, IsShaped}
use Rattle.text_law.proofs.Shape.Unseen.{still-quiet, moves-leaves, are-seen}
use Rattle.text_law.proofs.Shape.Leaves.{leaves-do, block-leaves, both-leaves}
use Rattle.text_law.proofs.Shape.Done.{insts-done}
use Rattle.text_law.proofs.Shape.Shaped.{is_shaped}

-- the top of a function declares alone
insts-leaves : (text : Inst → Stmt) → ((i : Inst) → IsLeaf (text i)) → (is : List Inst) → AreLeaves (map text is)
insts-leaves text each [] = tt
insts-leaves text each (i ∷ is) = (each i, insts-leaves text each is)

captured-leaves : (w : Scope) (i : Inst) (ns : List (ℕ × ℕ)) → AreLeaves (map (captured_text w i) ns)
captured-leaves w i [] = tt
captured-leaves w i (n ∷ ns) = (tt, captured-leaves w i ns)

chains-leaves : (w : Scope) (is : List Inst) → AreLeaves (flat_map (captured_texts_of w) is)
chains-leaves w [] = tt
chains-leaves w (i ∷ is) = both-leaves (captured_texts_of w i) (flat_map (captured_texts_of w) is) (captured-leaves w i (captured_of w i)) (chains-leaves w is)

blocks-leaves : (text : List Inst → List Stmt) → ((is : List Inst) → AreLeaves (text is)) → (blocks : List Block) → AreLeaves (in_blocks text blocks)
blocks-leaves text each [] = tt
blocks-leaves text each (b ∷ bs) = both-leaves (text b.insts) (in_blocks text bs) (each b.insts) (blocks-leaves text each bs)

top-leaves : (w : Scope) (blocks : List Block) → AreLeaves (top_text w blocks)
top-leaves w blocks =
    both-leaves (in_blocks (variables_text w) blocks) (in_blocks (hoisted_texts w) blocks ++ in_blocks (captured_texts w) blocks) (blocks-leaves (variables_text w) (λ is. insts-leaves (variable_text w) (λ i. tt) (filter is_variable is)) blocks)
    (both-leaves (in_blocks (hoisted_texts w) blocks) (in_blocks (captured_texts w) blocks) (blocks-leaves (hoisted_texts w) (λ is. insts-leaves (hoisted_text w) (λ i. tt) (filter (is_hoisted_in w) is)) blocks)
    (blocks-leaves (captured_texts w) (chains-leaves w) blocks))

module _ (s : Source) (found : Naming) (o : Outer) (p : FunctionPlan) (IsHere : ℕ → Type 0) (Chooses : ℕ → Type 0) (Leads : ℕ → ℕ → Type 0)
    (sound : IsSound (graph (written p))) (tree : IsTree (written p) p.region) (whole : IsWhole (blocks_of p) IsHere Chooses Leads p.region)
    (asks : (h : ℕ) → IsHere h → AllAskSeen s o p.scope h (λ i. kind_of i.op) (insts_at p.scope h))
    (top : AreStill o (top_text p.scope (written p).blocks))
    (condition : (b : ℕ) → IsHere b → Chooses b → UsesExpr (unseen o) ((blocks_of p).condition b))
    (value : (b : ℕ) (e : Expr) → IsHere b → (blocks_of p).value b ≡ Some e → UsesExpr (unseen o) e)
    (copies : (b t : ℕ) → IsHere b → Leads b t → EachStmt (unseen o) ((blocks_of p).copies b t))
    (first : (b : ℕ) (x : Text) → (blocks_of p).again b ≡ Some x → is_among o.memory x ≡ false)
    (out : (b : ℕ) (x : Text) → (blocks_of p).leave b ≡ Some x → is_among o.memory x ≡ false)
    (fallen : (b : ℕ) (x : Text) → (blocks_of p).fell b ≡ Some x → is_among o.memory x ≡ false)
    (again : (h c : ℕ) → IsHere h → continue_block (graph (written p)) h ≡ Some c → (x : Text) × ((blocks_of p).again h ≡ Some x))
    (flags : AreFlags found (blocks_of p))
    (orders : (h : ℕ) → IsHere h → is_switch (nth (graph (written p)) h).exit ≡ true → AreApart (switch_targets (graph (written p)) h) × ((t : ℕ) → In t (switch_targets (graph (written p)) h) → In t ((blocks_of p).order h))) where
  abbrev seen : ℕ → List (List Deed)
  seen b = seen_in o (block_text p.scope b)

  done : (h : ℕ) → IsHere h → AllZip (λ (a : Act) (ds : List Deed). is_done o a (does h ds) ≡ true) (acts_at s (written p) h) (seen h)
  done h here = by_block (slice_get (written p).blocks h) (asks h here)
    where
      by_block : (x : Option Block) → AllAskSeen s o p.scope h (λ i. kind_of i.op) (option_map_or (λ (b : Block). b.insts) x [])
          → AllZip (λ (a : Act) (ds : List Deed). is_done o a (does h ds) ≡ true) (option_map_or (block_acts s) x []) (seen_in o (flat_map (λ (i : Inst). inst_text p.scope h i (kind_of i.op)) (option_map_or (λ (b : Block). b.insts) x [])))
      by_block None asked = tt
      by_block (Some b) asked = insts-done o h s p.scope h b.insts asked

  -- The law.
  pub function_shaped : IsShaped s found o (written p) (stmts_in (body_text p))
  function_shaped =
      is_shaped s found o (written p) (blocks_of p) p.region (top_text p.scope (written p).blocks) seen IsHere Chooses Leads tree (tree_once (written p) (graph (written p)) p.region sound refl tree) whole
      (are-seen o (blocks_of p) seen IsHere Chooses Leads (λ b here. leaves-do o (block_text p.scope b) (block-leaves p.scope b)) condition value (λ b t here leads. (moves-leaves p b t (p.moves b t), copies b t here leads)) first out fallen)
      (still-quiet o (top_text p.scope (written p).blocks) (top-leaves p.scope (written p).blocks) top) done again flags orders
