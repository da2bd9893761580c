use Rattle.std.proofs.Common.{rules, ℕ, Vec}
use Rattle.std.specs.declared.alloc.Global.{Global}
use Rattle.run_state.specs.Ids.{ids_of}
use Rattle.run_operands.specs.Looks.{word_by}
use Rattle.run_operands.proofs.Founds.{result_found, same_list}
use Rattle.run_operands.proofs.look.words.Goals as goal

pub returns : goal.returns
returns c = result_found _ (λ (n : ℕ). n) (word_by c.args.map.now (ids_of c.args.ids.now)) (λ id r p. search rules) c.each.result (λ (v : Vec ℕ Global). v.items) c.args.list.now (λ v. same_list v.items) c.each.ensures
