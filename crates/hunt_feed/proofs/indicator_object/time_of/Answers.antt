use Rattle.hunt_feed.proofs.indicator_object.time_of.Goals as goal

pub unreachable-requires : goal.unreachable-requires
unreachable-requires c = c.in-None.ensures c.requires.there.0 c.requires.there.1
