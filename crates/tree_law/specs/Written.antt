-- What is asked of what is written of a function's blocks, for its tree to lead where their edges lead.
use Rattle.std.specs.Prelude.{◌≡◌, ℕ, true, false, not, List, ◌++◌, ◌==◌, filter, Some, None, is_some}
use Rattle.std.specs.List.{list_any, concat}
use Rattle.spv_module.specs.declared.inst.Function.{Function}
use Rattle.structure_rules.specs.declared.graph.Node.{Node}
use Rattle.structure_rules.specs.declared.graph.Exit.TheVariants as terminator
use Rattle.structure_rules.specs.Graph.{nth, is_switch}
use Rattle.structure_recover.specs.declared.region.Exit.TheVariants.{Return, Lost}
use Rattle.structure_recover.specs.Tree.{Groups, targets}
use Rattle.structure_recover.specs.Follows.{target, left, switch_targets, FollowsGroups}
use Rattle.switch_ladder.specs.Ladder.{fallen_from, chains_of}
use Rattle.switch_ladder.specs.Flags.{needs_again, needs_leave}
use Rattle.glsl_ast.specs.Tree.{Text}
use Rattle.control_text.specs.Statements.{Blocks}
use Rattle.region_law.specs.Leads.{Term, jump, branch, table, return, lost}

-- no flag is another
pub record FlagsApart (w : Blocks) : Type 0 where
  pub again_once : (a b : ℕ) (x : Text) → w.again a ≡ Some x → w.again b ≡ Some x → a ≡ b
  pub leave_once : (a b : ℕ) (x : Text) → w.leave a ≡ Some x → w.leave b ≡ Some x → a ≡ b
  pub fell_once : (a b : ℕ) (x : Text) → w.fell a ≡ Some x → w.fell b ≡ Some x → a ≡ b
  pub again_leave : (a b : ℕ) (x : Text) → w.again a ≡ Some x → w.leave b ≡ Some x → ⊥
  pub again_fell : (a b : ℕ) (x : Text) → w.again a ≡ Some x → w.fell b ≡ Some x → ⊥
  pub leave_fell : (a b : ℕ) (x : Text) → w.leave a ≡ Some x → w.fell b ≡ Some x → ⊥

pub record IsWritten (f : Function) (g : List Node) (w : Blocks) (term : ℕ → Term) (Cases : ℕ → Groups → Type 0) : Type 0 where
  pub target_is : (b k t : ℕ) → (nth g b).reached ≡ true → target g b k ≡ Some t → w.target b k ≡ t
  pub jumps : (b : ℕ) → (nth g b).reached ≡ true → (nth g b).exit ≡ terminator.Branch → (t : ℕ) × (target g b 0 ≡ Some t) × (term b ≡ jump t)
  pub branches : (b : ℕ) → (nth g b).reached ≡ true → (nth g b).exit ≡ terminator.Conditional → (t u : ℕ) × (target g b 0 ≡ Some t) × (target g b 1 ≡ Some u) × (term b ≡ branch t u)
  pub tables : (b : ℕ) → (nth g b).reached ≡ true → is_switch (nth g b).exit ≡ true → term b ≡ table
  pub returns : (b : ℕ) → (nth g b).reached ≡ true → (nth g b).exit ≡ terminator.Leave → left f b ≡ Return b → term b ≡ return
  pub loses : (b : ℕ) → (nth g b).reached ≡ true → (nth g b).exit ≡ terminator.Leave → left f b ≡ Lost b → term b ≡ lost
  -- the targets of a switch are written chain by chain, and then the others
  pub order_is : (h : ℕ) → (nth g h).reached ≡ true → is_switch (nth g h).exit ≡ true → w.order h ≡ concat (chains_of g h) ++ filter (λ t. not (list_any (λ u. u == t) (concat (chains_of g h)))) (switch_targets g h)
  pub cases_are : (h : ℕ) (gs : Groups) → (nth g h).reached ≡ true → is_switch (nth g h).exit ≡ true → targets gs ≡ switch_targets g h → FollowsGroups f g gs h → Cases h gs
  -- flags where they are needed
  pub again : (h : ℕ) → needs_again g h ≡ true → (x : Text) × (w.again h ≡ Some x)
  pub no_again : (h : ℕ) → needs_again g h ≡ false → w.again h ≡ None
  pub leave : (h : ℕ) → needs_leave g h ≡ true → (x : Text) × (w.leave h ≡ Some x)
  pub fell : (t : ℕ) (x : Text) → w.fell t ≡ Some x → is_some (fallen_from g t) ≡ true
  pub flags : FlagsApart w
