use Rattle.match_pruning.proofs.heap.+later_run.Given as goal

abbrev pub decreases-later_run : goal.decreases-later_run
decreases-later_run l = l.place
