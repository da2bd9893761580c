use Rattle.std.proofs.Common.{◌≡◌, arith, length}
use Rattle.spv_run.proofs.Stepped.{fits, resumed}
use Rattle.spv_run.proofs.program.ModuleProgramProgram.resume.Goals as goal

pub copy_from_slice-requires : goal.copy_from_slice-requires
copy_from_slice-requires c =
    let same : length c.args.words.now ≡ length c.args.state.now.words.items = fits c.args.self.now.map c.args.state.now c.args.words.now c.requires.fits in
    omega (arith, same, c.args.state.now.words.ok.0)

pub returns : goal.returns
returns c = resumed c.args.self.now.map c.args.state.now c.args.words.now c.copy_from_slice.new.self.items c.copy_from_slice.ensures.items c.requires.fits
