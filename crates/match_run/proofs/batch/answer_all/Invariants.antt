use Rattle.std.proofs.Common.{◌≡◌, ◌+◌, take, drop}
use Rattle.stix_bundles.specs.Objects.{data_in}
use Rattle.match_run.specs.inner.Rows.{so_far, IsAtSome, GoesThrough}
use Rattle.match_run.specs.Reading.{MayFollow}
use Rattle.match_run.proofs.batch.answer_all.Given as goal

abbrev pub invariant-loop-at : goal.invariant-loop-at
invariant-loop-at g l = record {
  pattern : l.matcher.pattern ≡ l.fn.matcher.pattern;
  most : l.matcher.retained_limit ≡ l.fn.matcher.retained_limit;
  behind : IsAtSome (so_far l.matcher l.tally);
  follow : MayFollow l.matcher.last (l.matcher.rows + 1) (drop l.at l.observations);
  goes : GoesThrough (data_in l.batch.bundle) (take l.at l.observations) (so_far l.fn.matcher l.fn.tally) (so_far l.matcher l.tally)
      l.pending.items (g.O.Sink.written l.fn.output) (g.O.Sink.written l.output);
  quiet : g.O.Sink.faults l.output ≡ g.O.Sink.faults l.fn.output;
}
