use Rattle.std.proofs.Common.{ap, ◌∙◌, sym, subst, ◌<◌, length}
use Rattle.group_items.specs.Memory.{put_among, word_among}
use Rattle.group_items.specs.Events.{location_of}
use Rattle.group_items.proofs.Kept.{stored_put, home_inside}
use Rattle.group_items.proofs.store.Store.put.Goals as goal

pub returns-clause-put : goal.returns-clause-put
returns-clause-put c =
    stored_put c.args.self.now.maps.items c.args.group c.args.word (location_of c.args.place.now) c.home-place_home.result c.index_mut.result.now c.put_in.new.words
    c.home-place_home.ensures
    (subst (λ n. n < length c.args.self.now.maps.items) (sym c.home-place_home.ensures) (home_inside c.args.group (length c.args.self.now.maps.items) (location_of c.args.place.now) c.requires))
    c.index_mut.ensures.value
    (λ x. c.in_ok-put_in.ensures x ∙ ap (λ l. put_among l c.args.word (word_among c.index_mut.result.now.entries) x) c.in_ok-clone_in.ensures)
