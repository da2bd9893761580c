use Rattle.std.proofs.Common.{◌∙◌, subst}
use Rattle.module_check.specs.Structure.{AreStructured}
use Rattle.module_check.proofs.judges.check_later.Goals as goal

pub returns-clause-passes : goal.returns-clause-passes
returns-clause-passes c = record {
  leaves = c.in_ok-check_rest.ensures.within;
  layout = c.in_ok-check_rest.ensures.laid_out;
  access = c.in_ok-check_rest.ensures.accessed;
  known = c.in_ok-check_rest.ensures.known;
  fits = c.in_ok-check_rest.ensures.fits;
  structure = subst AreStructured (c.as_slice-2.ensures.value ∙ c.requires.locals) c.in_ok-places.ensures.passes;
  acyclic = c.in_ok-order.ensures.acyclic;
  calls = c.in_ok-order.ensures.within;
}
