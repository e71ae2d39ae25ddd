use Rattle.std.proofs.Common.{◌≡◌, ◌≤◌, ◌-◌, length}
use Rattle.flow_edges.specs.declared.source.TheConstants.{MAX_READ}
use Rattle.http_messages.specs.Replies.{TakesFromLink}
use Rattle.http_messages.proofs.reply_body.read_body.Given as goal

abbrev pub invariant-loop-body : goal.invariant-loop-body
invariant-loop-body g l = record {
  room : length l.buffer ≡ MAX_READ;
  fits : length l.body.items ≤ l.count;
  takes : TakesFromLink l.body.items (g.S.Source.left l.fn.link) (g.S.Source.left l.link);
  unwritten : g.S.Source.other l.link ≡ g.S.Source.other l.fn.link;
  quiet : g.S.Source.faults l.link ≡ g.S.Source.faults l.fn.link;
}

abbrev pub decreases-loop-body : goal.decreases-loop-body
decreases-loop-body g l = l.count - length l.body.items
