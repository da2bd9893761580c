-- Where the limits are kept and no calls form a cycle, only memory may be wanting.
use Rattle.std.proofs.Common.{◌≤◌, ℕ, List, arith}
use Rattle.spv_words.specs.declared.rule.Rule.{Rule}
use Rattle.spv_words.specs.declared.rule.Rule.TheVariants.{M6}
use Rattle.spv_words.specs.declared.rule.Fault.{Fault}
use Rattle.spv_words.specs.declared.rule.Fault.TheVariants.{Refused, Limit as Exceeded, Memory}
use Rattle.spv_words.specs.declared.rule.Limit.{Limit}
use Rattle.spv_words.specs.declared.rule.Limit.TheVariants.{Calls as CallLimit}
use Rattle.spv_words.specs.Limit.{limit_number}
use Rattle.spv_module.specs.declared.inst.Inst.{Inst}
use Rattle.spv_module.specs.declared.inst.Function.{Function}
use Rattle.spv_types.specs.Limits.{AreWithin}
use Rattle.spv_types.specs.Types.{IsRight}
use Rattle.conformance.proofs.TypeLimits.{none_passes}
use Rattle.profile_rules.specs.Calls.{Broken, Exceeds, IsAcyclic, IsWithinCalls, IsRight as IsRightOfCalls}
use Rattle.memory_places.specs.Conditions.{IsMemory}

broken_none : (fs : List Function) (rule : Rule) (at : ℕ) → IsAcyclic fs → Broken fs rule at → ⊥
broken_none fs M6 at a b = a at b
broken_none fs rule at a b = b

exceeds_none : (fs : List Function) (entry : ℕ) (l : Limit) → IsWithinCalls fs entry → Exceeds fs entry l → ⊥
exceeds_none fs entry CallLimit w (a, (count, more, chain)) = let most : count ≤ limit_number CallLimit = w count chain in absurd (omega (arith, most, more))
exceeds_none fs entry l w e = e

pub call_fault : (fs : List Function) (entry : ℕ) (fault : Fault) → IsRightOfCalls fs entry fault → IsAcyclic fs → IsWithinCalls fs entry → IsMemory fault
call_fault fs entry (Refused r) h a w = broken_none fs r.rule r.at a h
call_fault fs entry (Exceeded l) h a w = exceeds_none fs entry l w h
call_fault fs entry Memory h a w = tt

pub type_fault : (gs : List Inst) (id : ℕ) (fault : Fault) → IsRight gs id fault → AreWithin gs → IsMemory fault
type_fault gs id (Refused r) h w = h
type_fault gs id (Exceeded l) h w = none_passes gs l w (id, h)
type_fault gs id Memory h w = tt
