use Rattle.std.proofs.Common.{◌≡◌, ◌∷◌, [], ◌∙◌, Some, None, sym, ap, rules}
use Rattle.std.proofs.lemmas.Result.{MatchResult-weaker}
use Rattle.layout_rules.specs.Blocks.{block_of}
use Rattle.glsl_ast.specs.Tree.{Decl}
use Rattle.text_rules.specs.Constants.{Source}
use Rattle.text_rules.specs.Declarations.{variable_decl}
use Rattle.text_items.specs.Names.{item_names}
use Rattle.text_items.specs.Plain.{plain_decl}
use Rattle.text_items.proofs.Counted.{block_few}
use Rattle.text_items.proofs.variables.declare_variable.Goals as goal

pub declare_block-requires : goal.declare_block-requires
declare_block-requires c =
    let found : Some c.in-Some.block.now ≡ block_of c.args.written.now.source.of.globals c.args.inst.now = search rules in
    block_few c.args.written.now.source.of.globals c.args.inst.now c.in-Some.block.now c.requires (sym found)

pub returns-in-None : goal.returns-in-None
returns-in-None c =
    let none : None ≡ block_of c.args.written.now.source.of.globals c.args.inst.now = search rules in
    MatchResult-weaker c.declare_plain.result c.declare_plain.ensures
    (λ decl is. ap (λ (d : Decl). d ∷ []) (is ∙ ap (λ (o : Source). plain_decl o (item_names o c.args.names.now) c.args.inst.now) c.readings.ensures)
    ∙ ap (variable_decl c.args.written.now.source (item_names c.args.written.now.source c.args.names.now) c.args.inst.now) none) (λ e no. no)
