use Rattle.match_pruning.proofs.heap.+later_run_end.Given as goal

abbrev pub decreases-later_run_end : goal.decreases-later_run_end
decreases-later_run_end l = l.place
