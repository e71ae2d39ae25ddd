use Rattle.std.proofs.Common.{◌≡◌, ◌++◌, ℕ, List, Option, take}
use Rattle.match_run.specs.Buffered.{IsBuffered}
use Rattle.hunt_report.specs.Lines.{hits_text}
use Rattle.hunt_report.proofs.hit_line.add_hits.Given as goal

abbrev pub invariant-loop-hit : goal.invariant-loop-hit
invariant-loop-hit g l = record {
  way : (before : List ℕ) (first : Option (List ℕ)) → IsBuffered before l.fn.pending first (g.O.Sink.written l.fn.output)
      → IsBuffered (before ++ hits_text l.hunted (take l.hit-index l.hits)) l.pending first (g.O.Sink.written l.output);
  quiet : g.O.Sink.faults l.output ≡ g.O.Sink.faults l.fn.output;
}
