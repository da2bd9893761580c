-- Which names a text claims, and in which order: each key with the name that the module gives it.
use Rattle.std.specs.Prelude.{ℕ, ◌==◌, ◌&&◌, ◌||◌, Bool, false, List, [], ◌∷◌, ◌++◌, flat_map, map, Option, Some, None, if◌then◌else◌, slice_get}
use Rattle.std.specs.Option.{option_map_or}
use Rattle.std.specs.List.{list_any, enumerate_from, range_with_len}
use Rattle.spv_ops.specs.Opcode.{is}
use Rattle.spv_ops.specs.declared.Op.TheVariants as code
use Rattle.spv_module.specs.Lists.{id}
use Rattle.spv_module.specs.declared.inst.Id.{Id as IdOf}
use Rattle.spv_module.specs.declared.inst.Inst.{Inst}
use Rattle.spv_module.specs.declared.inst.Block.{Block as BlockOf}
use Rattle.spv_module.specs.declared.inst.Function.{Function}
use Rattle.spv_decor.specs.Rows.{name_of, member_name_of}
use Rattle.spv_index.specs.Locals.{insts_of}
use Rattle.layout_rules.specs.Blocks.{block_of}
use Rattle.name_alloc.specs.declared.claims.Key.{Key}
use Rattle.name_alloc.specs.declared.claims.Key.TheVariants.{Main, Id, Block, Member, Again, Leave, Fell, Captured, Spare}
use Rattle.glsl_ast.specs.Tree.{Text}
use Rattle.text_rules.specs.Constants.{Source}
use Rattle.text_rules.specs.Printed.{Reached, is_written_variable, is_declared_constant, is_written_struct}
use Rattle.text_rules.specs.Declarations.{members}

abbrev pub Claim : Type 0
Claim = Key × Option Text

-- the claim of an id, with its OpName
abbrev pub claim_id : Source → ℕ → List Claim
claim_id s n = (Id (id n), name_of s.of.heads n) ∷ []

-- the members of a struct have names where it is written, or a block of it is
abbrev pub has_block : Source → ℕ → Inst → Bool
has_block s struct v = option_map_or (λ (g : Inst). g.result == struct) (block_of s.of.globals v) false

abbrev pub is_written_block : Source → Reached → ℕ → Bool
is_written_block s r struct = list_any (λ (v : Inst). is_written_variable r v && has_block s struct v) s.of.globals

abbrev pub claim_members : Source → Inst → List Claim
claim_members s g = map (λ (m : ℕ × ℕ). (Member (id g.result) m.0, member_name_of s.of.heads g.result m.0)) (members g)

abbrev pub claim_struct : Source → Reached → Inst → List Claim
claim_struct s r g =
    (if is_written_struct s r g then claim_id s g.result else []) ++
    (if is_written_struct s r g || is_written_block s r g.result then claim_members s g else [])

-- a block's name is by its struct
abbrev pub claim_block : Source → Inst → Option Inst → List Claim
claim_block s v None = []
claim_block s v (Some g) = (Block (id v.result) (id g.result), name_of s.of.heads g.result) ∷ []

abbrev pub claim_variable : Source → Inst → List Claim
claim_variable s v = claim_id s v.result ++ claim_block s v (block_of s.of.globals v)

abbrev pub claim_global : Source → Reached → Inst → List Claim
claim_global s r g =
    if is g.op code.TypeStruct then claim_struct s r g else
    (if is_declared_constant s r g then claim_id s g.result else
    (if is_written_variable r g then claim_variable s g else []))

-- what is planned of a function that is written: which results of its instructions have variables; which blocks need flags; the numbers of the indexes of a chain that are captured; the targets of a block, each once, and the number of spares of an edge
pub record Plan : Type 0 where
  pub function : Function
  pub is_named : ℕ → Bool
  pub again : ℕ → Bool
  pub leave : ℕ → Bool
  pub fell : ℕ → Bool
  pub captured : Inst → List ℕ
  pub targets : ℕ → List ℕ
  pub spares : ℕ → ℕ → ℕ

-- the ids of a function: its own, but for the entry, which is main; its parameters; what has variables
abbrev pub claim_function : Source → Plan → List Claim
claim_function s p =
    (if p.function.id.0 == s.entry then [] else claim_id s p.function.id.0) ++
    (flat_map (λ (param : IdOf × IdOf). claim_id s param.0.0) p.function.params ++
    flat_map (λ (i : Inst). if p.is_named i.result then claim_id s i.result else []) (insts_of p.function))

abbrev pub when : Bool → Key → List Claim
when b key = if b then (key, None) ∷ [] else []

-- the label of the block with an index
abbrev pub label : Function → ℕ → ℕ
label f b = option_map_or (λ (block : BlockOf). block.label.0) (slice_get f.blocks b) 0

abbrev pub claim_captured : Plan → Inst → List Claim
claim_captured p i = map (λ number. (Captured (id i.result) number, None)) (p.captured i)

abbrev pub claim_spares : Plan → ℕ → ℕ → List Claim
claim_spares p b t = map (λ number. (Spare (id (label p.function b)) (id (label p.function t)) number, None)) (range_with_len 0 (p.spares b t))

-- what a block claims besides: the flags of a loop header and of a case target, captured indexes, and the spares of the edges that leave it
abbrev pub claim_flow : Plan → ℕ × BlockOf → List Claim
claim_flow p b =
    when (p.again b.0) (Again b.1.label) ++ (when (p.leave b.0) (Leave b.1.label) ++ (when (p.fell b.0) (Fell b.1.label) ++
    (flat_map (claim_captured p) b.1.insts ++ flat_map (claim_spares p b.0) (p.targets b.0))))

-- all claims, where these are the plans of the functions that are written, in the order of the module
abbrev pub claims : Source → Reached → List Plan → List Claim
claims s r plans =
    (Main, None) ∷ (flat_map (claim_global s r) s.of.globals ++ (flat_map (claim_function s) plans ++
    flat_map (λ (p : Plan). flat_map (claim_flow p) (enumerate_from 0 p.function.blocks)) plans))
