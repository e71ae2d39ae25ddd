use Rattle.std.proofs.Common.{arith}
use Rattle.taxii_server.proofs.TakesLemmas.{takes-read, takes_more-err}
use Rattle.taxii_server.proofs.receiver.Receiver.take.Goals as goal

pub returns-in_err-feed-clause-takes : goal.returns-in_err-feed-clause-takes
returns-in_err-feed-clause-takes g c =
    takes_more-err _ _ _ c.from_residual-in_err-feed.ensures.1
    (takes-read _ c.read.new.buffer _ _ (omega (arith, c.in_ok-count.ensures.within)) c.in_ok-count.ensures.given c.in_ok-count.ensures.rest) tt
