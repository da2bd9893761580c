-- What the code's plan of a function says.
use Rattle.std.specs.Prelude.{ℕ, ◌≡◌, ◌<◌, ◌≤◌, ◌==◌, ◌&&◌, ◌||◌, true, false, Bool, List, [], map, min, if◌then◌else◌}
use Rattle.std.specs.BTreeMap.{BTreeMap, get}
use Rattle.std.specs.Ordering.{nat_cmp}
use Rattle.std.specs.List.{enumerate_from, list_any}
use Rattle.std.specs.declared.vec.Vec.{Vec}
use Rattle.std.specs.declared.alloc.Global.{Global}
use Rattle.spv_ops.specs.Opcode.{is}
use Rattle.spv_ops.specs.declared.Op.TheVariants as code
use Rattle.spv_ops.specs.Shape.{is_pure}
use Rattle.spv_module.specs.declared.inst.Id.{Id}
use Rattle.spv_module.specs.declared.inst.Inst.{Inst}
use Rattle.spv_module.specs.declared.inst.Block.{Block}
use Rattle.structure_rules.specs.declared.graph.Node.{Node}
use Rattle.structure_rules.specs.Graph.{nth}
use Rattle.hoist_plan.specs.declared.form.Form.{Form}
use Rattle.hoist_plan.specs.declared.form.Form.TheVariants.{Local, Hoisted}
use Rattle.phi_copies.specs.declared.moves.Move.{Move}
use Rattle.phi_copies.specs.Sequence.{saves}
use Rattle.access_paths.specs.Ways.{captured_indexes}
use Rattle.spv_ops.specs.Groups.{is_chain}
use Rattle.function_plan.specs.Phis.{is_gone}
use Rattle.function_plan.specs.Orders.{order_by}
use Rattle.function_plan.specs.Moved.{items_at}

-- the order of the targets of a switch, where there is one
abbrev pub order_in : BTreeMap ℕ (Vec ℕ Global) → ℕ → List ℕ
order_in orders h = items_at (get nat_cmp orders h)

-- the orders of the first n blocks
pub record AreOrdersBelow (g : List Node) (n : ℕ) (orders : BTreeMap ℕ (Vec ℕ Global)) : Type 0 where
  pub below : (h : ℕ) → h < n → order_in orders h ≡ order_by g h
  pub past : (h : ℕ) → n ≤ h → order_in orders h ≡ []

-- the result of an instruction has a name: that of an OpVariable, of a value that is declared at the top of the function, and of one that is declared in a block that is reached
abbrev pub has_name_by : Form → Bool → Bool → Bool
has_name_by Hoisted reached variable = true
has_name_by Local reached variable = reached || variable
has_name_by _ reached variable = variable

abbrev pub has_name : (ℕ → Form) → Bool → Inst → Bool
has_name form reached i = has_name_by (form i.result) reached (is i.op code.Variable)

abbrev pub names_id : (ℕ → Form) → Bool → ℕ → Inst → Bool
names_id form reached id i = has_name form reached i && (i.result == id)

abbrev pub block_names : (ℕ → Form) → List Node → ℕ → ℕ × Block → Bool
block_names form g id b = list_any (names_id form (nth g b.0).reached id) b.1.insts

abbrev pub is_named_in : (ℕ → Form) → List Node → List Block → ℕ → Bool
is_named_in form g blocks id = list_any (block_names form g id) (enumerate_from 0 blocks)

-- an instruction is live: it has an effect, or a slot that is linked mentions its result
abbrev pub is_live : (ℕ → Form) → Inst → Bool
is_live form i = elim (is_pure i.op) [ true ↦ elim (is_gone (form i.result)) [ true ↦ false | false ↦ true ] | false ↦ true ]

-- the number of an index
abbrev pub number_in : ℕ × Id → ℕ
number_in n = n.0

-- a chain whose indexes that are no constants have variables
abbrev pub is_captured : (ℕ → Bool) → Inst → Bool
is_captured carried i = is_chain i.op && carried i.result

abbrev pub captured_numbers : List Inst → (ℕ → Bool) → Inst → List ℕ
captured_numbers gs carried i = if is_captured carried i then map (λ (n : ℕ × ℕ). n.0) (captured_indexes gs i) else []

-- a block is reached
abbrev pub is_reached_node : Node → Bool
is_reached_node n = n.reached

-- the number of spares that moves need, counted up to the greatest word
abbrev pub spares_in : List Move → ℕ
spares_in moves = min (saves moves) 4294967295
