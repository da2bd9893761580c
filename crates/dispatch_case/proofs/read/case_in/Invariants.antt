use Rattle.std.proofs.Common.{◌≡◌, drop, map}
use Rattle.dispatch_case.specs.declared.read.Stage.TheVariants.{Start}
use Rattle.dispatch_case.specs.Cases.{parts_of}
use Rattle.dispatch_case.specs.Written.{after_parts, unsaid}
use Rattle.dispatch_case.proofs.read.case_in.Given as goal

abbrev pub invariant-loop-text : goal.invariant-loop-text
invariant-loop-text l = after_parts l.stage (parts_of l.case) (map (λ t. t.now) (drop l.text-index l.texts)) ≡ after_parts Start unsaid (map (λ t. t.now) l.texts)
