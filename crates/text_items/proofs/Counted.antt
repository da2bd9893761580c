-- The struct of a block is one of the globals.
use Rattle.std.proofs.Common.{◌≡◌, ◌&&◌, ℕ, Bool, true, false, List, Option, Some, None, refl, subst}
use Rattle.std.specs.Prelude.{option_and_then, slice_index, if◌then◌else◌}
use Rattle.std.specs.List.{All, Contains}
use Rattle.spv_ops.specs.Opcode.{is}
use Rattle.spv_ops.specs.declared.Op.TheVariants as code
use Rattle.spv_module.specs.Held.{global}
use Rattle.spv_module.specs.declared.inst.Inst.{Inst}
use Rattle.spv_index.specs.Pointers.{pointee}
use Rattle.profile_rules.proofs.Globals.{found_global}
use Rattle.layout_rules.specs.Blocks.{as_struct, block_of, is_block_class}
use Rattle.few_law.specs.Short.{HasFewArgs}

contained : (gs : List Inst) (g : Inst) → All HasFewArgs gs → Contains gs g → HasFewArgs g
contained gs g few there = subst HasFewArgs there.2 (few there.0 g there.1)

-- what is found under a test, where it is found without it
if_some : (b : Bool) (o : Option Inst) (g : Inst) → (if b then o else None) ≡ Some g → o ≡ Some g
if_some true o g found = found
if_some false o g found = cc

struct_itself : (h g : Inst) → as_struct h ≡ Some g → h ≡ g
struct_itself h g found = (let same : Some h ≡ Some g = if_some (is h.op code.TypeStruct) (Some h) g found in cc)

struct_found : (gs : List Inst) (n : ℕ) (o : Option Inst) (g : Inst) → All HasFewArgs gs → global gs n ≡ o → option_and_then as_struct o ≡ Some g → HasFewArgs g
struct_found gs n None g few at found = cc
struct_found gs n (Some h) g few at found = subst HasFewArgs (struct_itself h g found) (contained gs h few (found_global gs n h at).0)

struct_at : (gs : List Inst) (p : Option ℕ) (g : Inst) → All HasFewArgs gs → option_and_then as_struct (option_and_then (global gs) p) ≡ Some g → HasFewArgs g
struct_at gs None g few found = cc
struct_at gs (Some n) g few found = struct_found gs n (global gs n) g few refl found

pub block_few : (gs : List Inst) (v g : Inst) → All HasFewArgs gs → block_of gs v ≡ Some g → HasFewArgs g
block_few gs v g few found =
    struct_at gs (pointee gs v.ty) g few
    (if_some (is v.op code.Variable && is_block_class (slice_index v.args 0)) (option_and_then as_struct (option_and_then (global gs) (pointee gs v.ty))) g found)
