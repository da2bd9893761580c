use Rattle.std.proofs.Common.{List, refl, map}
use Rattle.glsl_ast.specs.declared.items.Member.{Member}
use Rattle.glsl_ast.specs.View.{member_of}
use Rattle.glsl_grammar.specs.Layout.{members_text}
use Rattle.glsl_grammar.specs.Layout.{member_text}
use Rattle.glsl_print.proofs.Steps.{remains_item, remains_none}
use Rattle.glsl_print.proofs.items.print_members.Goals as goal

pub loop-member-preserved : goal.loop-member-preserved
loop-member-preserved g c = remains_item (λ (xs : List Member). members_text (map member_of xs)) (λ (x : Member). member_text (member_of x)) _ _ _ (λ y ys. refl) c.loop-member-test.true c.member-item.is c.loop-member.invariant c.print_member.ensures

pub returns : goal.returns
returns g c = remains_none (λ (xs : List Member). members_text (map member_of xs)) _ _ c.loop-member-test.false refl c.loop-member.invariant
