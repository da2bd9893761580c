use Rattle.std.proofs.Common.{◌<◌, ◌^◌, subst, rules}
use Rattle.std.specs.Prelude.{All}
use Rattle.std.proofs.lemmas.List.Elements.{All-map}
use Rattle.module_gen.specs.Assembly.{Assembly, instruction}
use Rattle.module_gen.specs.Held.{IsEncodable}
use Rattle.module_gen.proofs.Assembled.{IsBuilt, built_words, built_insts, built_whole}
use Rattle.module_gen.proofs.builder.Builder.finish.Goals as goal

pub returns : goal.returns
returns c =
    let built : IsBuilt c.args.self c.args.bound c.put_insts.new.bytes.items = record {
      version_fits = subst (λ (m : Assembly). m.version < 2 ^ 32) c.self.view_is c.self.invariant.version;
      bound_fits = c.ranges.bound.fits;
      insts_fit = subst (λ (m : Assembly). All IsEncodable m.insts) c.self.view_is (All-map IsEncodable instruction c.self.inside.insts.items c.self.invariant.insts);
      octets = search rules;
    } in
    record {
      bytes = built.octets;
      words = built_words _ _ _ built;
      insts = built_insts _ _ _ built;
      whole = built_whole _ _ _ built;
    }
