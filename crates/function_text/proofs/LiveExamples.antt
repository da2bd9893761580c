-- Which types and constants are written, computed on functions with a block that is not reached.
use Rattle.std.specs.Prelude.{ℕ, ◌≡◌, ◌==◌, true, false, Bool, List, [], ◌∷◌, map, filter, refl}
use Rattle.spv_module.specs.State.{ModuleState}
use Rattle.spv_module.specs.declared.inst.Inst.{Inst}
use Rattle.spv_module.specs.declared.inst.Block.{Block}
use Rattle.spv_module.specs.declared.inst.Function.{Function}
use Rattle.spv_decor.specs.Rows.{key_of}
use Rattle.spv_ops.specs.Opcode.{number, op_of}
use Rattle.spv_ops.specs.Operands.{is_id, inner_of}
use Rattle.spv_ops.specs.OpGroups.{group_of, takes_of}
use Rattle.spv_ops.specs.Shape.{shape}
use Rattle.spv_ops.specs.declared.Op.{Op}
use Rattle.spv_ops.specs.declared.Op.TheVariants as code
use Rattle.spv_types.specs.Types.{kind, below}
use Rattle.profile_rules.specs.Constants.{constant_kind}
use Rattle.hoist_plan.specs.declared.form.Form.TheVariants.{Hoisted}
use Rattle.text_rules.specs.Constants.{Source}
use Rattle.text_rules.specs.Printed.{Reached, is_declared_constant, is_written_struct}
use Rattle.function_text.specs.Live.{Liveness, types_of, mentions_of, in_function}

inst_at : ℕ → Op → ℕ → ℕ → List ℕ → Inst
inst_at at o ty result args = record { op = o; at = at; ty = ty; result = result; args = args }

inst : Op → ℕ → ℕ → List ℕ → Inst
inst = inst_at 9

block : ℕ → List Inst → Block
block label insts = record { label = record { 0 = label }; at = 0; insts = insts }

-- %8 is a 32-bit integer with the constants 14 and 15, %9 a vector of two with the constants 74 and 75, %10 a struct of these
globals : List Inst
globals =
    inst_at 1 code.TypeInt 0 8 (32 ∷ 0 ∷ []) ∷ inst_at 2 code.TypeVector 0 9 (8 ∷ 2 ∷ []) ∷ inst_at 3 code.TypeStruct 0 10 (9 ∷ 8 ∷ []) ∷ inst_at 4 code.Constant 8 14 (0 ∷ []) ∷ inst_at 5 code.Constant 8 15 (1 ∷ []) ∷
    inst_at 6 code.ConstantComposite 9 74 (14 ∷ 15 ∷ []) ∷ inst_at 7 code.ConstantComposite 9 75 (15 ∷ 15 ∷ []) ∷ []

source : Source
source = record { of = record { bound = 99; heads = []; globals = globals; functions = [] }; entry = 1; overrides = [] }

-- the first block leads to the third; all that is live is declared at the top, and these chains are mentioned in another block
place : (ℕ → Bool) → List Inst → List Inst → Liveness
place carried unreached reached = record {
  globals = globals;
  function = record {
    id = record { 0 = 1 };
    ty = record { 0 = 7 };
    result = record { 0 = 6 };
    at = 0;
    params = [];
    blocks = block 16 (inst code.Branch 0 0 (30 ∷ []) ∷ []) ∷ block 29 unreached ∷ block 30 reached ∷ [];
  };
  reached = true ∷ false ∷ true ∷ [];
  form = λ n. Hoisted;
  carried = carried;
}

written : Liveness → Reached
written p = record { functions = []; types = in_function types_of p; mentions = in_function mentions_of p }

constants : Liveness → List ℕ
constants p = map (λ (g : Inst). g.result) (filter (is_declared_constant source (written p)) globals)

structs : Liveness → List ℕ
structs p = map (λ (g : Inst). g.result) (filter (is_written_struct source (written p)) globals)

none : ℕ → Bool
none n = false

-- a phi mentions 74, which comes from the first block, and not 75, which would come from the second
phi_of_two : Liveness
phi_of_two = place none (inst code.Branch 0 0 (30 ∷ []) ∷ []) (inst code.Phi 9 40 (74 ∷ 16 ∷ 75 ∷ 29 ∷ []) ∷ inst code.Return 0 0 [] ∷ [])

phi_constants : constants phi_of_two ≡ 74 ∷ []
unfolding constants written place phi_of_two none source globals block inst inst_at shape key_of kind below constant_kind is_id takes_of group_of inner_of op_of number
phi_constants = refl

-- the struct that the second block makes of 75 is written, since the third has a part of it; 75 is not
struct_of_two : Liveness
struct_of_two = place none (inst code.CompositeConstruct 10 40 (75 ∷ 15 ∷ []) ∷ inst code.Branch 0 0 (30 ∷ []) ∷ []) (inst code.CompositeExtract 8 41 (40 ∷ 1 ∷ []) ∷ inst code.Return 0 0 [] ∷ [])

struct_constants : constants struct_of_two ≡ []
unfolding constants written place struct_of_two none source globals block inst inst_at shape key_of kind below constant_kind is_id takes_of group_of inner_of op_of number
struct_constants = refl

struct_structs : structs struct_of_two ≡ 10 ∷ []
unfolding structs written place struct_of_two none source globals block inst inst_at shape key_of kind below constant_kind is_id takes_of group_of inner_of op_of number
struct_structs = refl

-- a chain of the second block that the third needs mentions its indexes, and not its base
chain_mentions : in_function mentions_of (place (λ n. n == 40) (inst code.AccessChain 11 40 (5 ∷ 14 ∷ 76 ∷ []) ∷ inst code.AccessChain 11 42 (5 ∷ 77 ∷ []) ∷ []) (inst code.Load 8 41 (40 ∷ []) ∷ [])) ≡ 14 ∷ 76 ∷ 40 ∷ []
unfolding place globals block inst inst_at shape is_id takes_of group_of number
chain_mentions = refl
