use Rattle.group_items.proofs.sequence.play_schedule.Given as goal

abbrev pub ghost-play_all : goal.ghost-play_all
ghost-play_all g a = g.d

abbrev pub ghost-rounds : goal.ghost-rounds
ghost-rounds g a = g.d
