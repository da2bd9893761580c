use Rattle.std.proofs.lemmas.Result.{IfOk-weaker}
use Rattle.sample_modules.proofs.read.module_of.Goals as goal

pub returns : goal.returns
returns c = IfOk-weaker c.read_module.result _ _ (λ m is. record { bytes = c.deref.result.now; is = is }) c.read_module.ensures.read
