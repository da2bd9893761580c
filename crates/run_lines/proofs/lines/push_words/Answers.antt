use Rattle.std.proofs.Common.{◌∙◌, ◌++◌, ℕ, List, ap, sym, string_bytes}
use Rattle.std.proofs.lemmas.List.{flat_map_more}
use Rattle.std.specs.Prelude.{codes}
use Rattle.std.specs.Fmt.{decimal}
use Rattle.std.specs.List.{flat_map}
use Rattle.dispatch_semantics.specs.Store.{found_at}
use Rattle.group_items.proofs.Naming.{turn_more}
use Rattle.group_items.specs.Schedule.{turn}
use Rattle.group_sched.specs.Stores.{words_in}
use Rattle.run_lines.specs.Lines.{word_text}
use Rattle.run_lines.proofs.lines.push_words.Goals as goal

pub loop-k-preserved : goal.loop-k-preserved
loop-k-preserved c =
    let store = words_in c.args.store.now in
    let start = string_bytes c.args.text.now in
    let k = c.loop-k.k in
    let word = c.word.ensures ∙ ap (found_at store 0) c.place.ensures in
    c.in_ok-push_number.ensures
    ∙ ap (λ (w : ℕ). string_bytes c.loop-k.text ++ (codes " " ++ decimal w)) word
    ∙ ap (λ (t : List ℕ). t ++ word_text store c.args.row k) c.loop-k.invariant
    ∙ flat_map_more (word_text store c.args.row) start (turn k) k
    ∙ ap (λ (ks : List ℕ). start ++ flat_map (word_text store c.args.row) ks) (sym (turn_more k))
