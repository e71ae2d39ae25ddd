use Rattle.std.proofs.Common.{◌≡◌, take}
use Rattle.match_run.specs.Buffered.{IsBuffered}
use Rattle.taxii_client.specs.Telling.{told_of}
use Rattle.command_pull.proofs.writing.add_page.Given as goal

abbrev pub invariant-loop-entry : goal.invariant-loop-entry
invariant-loop-entry g l = record {
  way : IsBuffered (told_of (take l.entry-index l.entries)) l.pending (g.O.Sink.written l.fn.output) (g.O.Sink.written l.output);
  quiet : g.O.Sink.faults l.output ≡ g.O.Sink.faults l.fn.output;
}
