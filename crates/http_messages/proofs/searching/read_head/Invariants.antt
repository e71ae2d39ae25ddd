use Rattle.std.proofs.Common.{◌≡◌, ◌≤◌, ◌-◌, take, length}
use Rattle.flow_edges.specs.declared.source.TheConstants.{MAX_READ}
use Rattle.http_messages.specs.declared.frame.TheConstants.{MAX_HEAD}
use Rattle.http_messages.specs.ReplyHeads.{HoldNoHead}
use Rattle.http_messages.specs.Replies.{TakesFromLink}
use Rattle.http_messages.proofs.searching.read_head.Given as goal

abbrev pub invariant-loop-end : goal.invariant-loop-end
invariant-loop-end g l = record {
  room : length l.buffer ≡ MAX_READ;
  fits : l.end ≤ MAX_HEAD;
  none : HoldNoHead (take l.end l.buffer);
  takes : TakesFromLink (take l.end l.buffer) (g.S.Source.left l.fn.link) (g.S.Source.left l.link);
  unwritten : g.S.Source.other l.link ≡ g.S.Source.other l.fn.link;
  quiet : g.S.Source.faults l.link ≡ g.S.Source.faults l.fn.link;
}

abbrev pub decreases-loop-end : goal.decreases-loop-end
decreases-loop-end g l = MAX_HEAD - l.end
