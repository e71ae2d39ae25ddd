use Rattle.std.proofs.Common.{◌≡◌, ◌⊎◌, IfSome, ◌-◌, ◌+◌, length}
use Rattle.http_messages.specs.declared.frame.TheConstants.{MAX_HEAD}
use Rattle.taxii_server.specs.declared.connection.TheConstants.{MAX_BODY}
use Rattle.taxii_server.specs.inner.Receiving.{WantedMore}
use Rattle.taxii_server.proofs.TakesLemmas.{HasTaken}
use Rattle.taxii_server.proofs.receiver.Receiver.receive.Given as goal

abbrev pub invariant-loop-request : goal.invariant-loop-request
invariant-loop-request g l = record {
  taken : HasTaken l.fn.self l.self (g.L.Source.left l.fn.link) (g.L.Source.left l.link);
  unwritten : g.L.Source.other l.link ≡ g.L.Source.other l.fn.link;
  in_time : (l.link ≡ l.fn.link) ⊎ IfSome (g.L.Source.began l.link) (WantedMore l.fn.self (g.L.Source.left l.fn.link));
  quiet : g.L.Source.faults l.link ≡ g.L.Source.faults l.fn.link;
}

abbrev pub decreases-loop-request : goal.decreases-loop-request
decreases-loop-request g l = MAX_HEAD + MAX_BODY - length l.self
