-- The parts of what structs and functions claim.
use Rattle.std.specs.Prelude.{ℕ, ◌==◌, ◌++◌, List, [], None, flat_map, if◌then◌else◌}
use Rattle.std.specs.List.{enumerate_from}
use Rattle.spv_module.specs.Lists.{id}
use Rattle.spv_module.specs.declared.inst.Id.{Id}
use Rattle.spv_module.specs.declared.inst.Inst.{Inst}
use Rattle.spv_module.specs.declared.inst.Function.{Function}
use Rattle.spv_index.specs.Locals.{insts_of}
use Rattle.spv_decor.specs.Rows.{member_name_of}
use Rattle.name_alloc.specs.declared.claims.Key.TheVariants.{Member, Captured, Spare}
use Rattle.text_rules.specs.Constants.{Source}
use Rattle.text_rules.specs.Claims.{Claim, Plan, claim_id, claim_flow}

-- a member of a struct
abbrev pub claim_member : Source → Inst → ℕ × ℕ → Claim
claim_member s g m = (Member (id g.result) m.0, member_name_of s.of.heads g.result m.0)

-- a function's own, but for the entry
abbrev pub claim_own : Source → ℕ → List Claim
claim_own s n = if n == s.entry then [] else claim_id s n

abbrev pub claim_param : Source → Id × Id → List Claim
claim_param s param = claim_id s param.0.0

-- the result of an instruction that has a variable
abbrev pub claim_result : Source → Plan → Inst → List Claim
claim_result s p i = if p.is_named i.result then claim_id s i.result else []

-- all of these, of this function
abbrev pub claim_all : Source → Plan → Function → List Claim
claim_all s p f = claim_own s f.id.0 ++ (flat_map (claim_param s) f.params ++ flat_map (claim_result s p) (insts_of f))

-- the flags, captured indexes and spares of a function
abbrev pub claim_flows : Plan → List Claim
claim_flows p = flat_map (claim_flow p) (enumerate_from 0 p.function.blocks)

-- a captured index of a chain, and a spare of an edge
abbrev pub claim_index : Inst → ℕ → Claim
claim_index i number = (Captured (id i.result) number, None)

abbrev pub claim_spare : Id → Id → ℕ → Claim
claim_spare from to number = (Spare from to number, None)
