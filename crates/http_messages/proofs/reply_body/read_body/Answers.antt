use Rattle.std.proofs.Common.{◌≤◌, length, take, arith, length-append}
use Rattle.std.proofs.lemmas.List.{length-take-le}
use Rattle.http_messages.specs.inner.Reading.{ReadsBody}
use Rattle.http_messages.proofs.ReadLemmas.{body_unkept, passed_on, takes_read}
use Rattle.http_messages.proofs.reply_body.read_body.Goals as goal

pub returns-in_err-add-clause-reads : goal.returns-in_err-add-clause-reads
returns-in_err-add-clause-reads g c =
    let chunk = c.read.new.buffer in
    let within : c.in_ok-taken.taken ≤ length chunk = omega (arith, c.in_ok-taken.ensures.within, c.read.auto.buffer) in
    let few : c.in_ok-taken.taken ≤ c.min-needed.result =
    omega (arith, c.in_ok-taken.ensures.within, length-take-le c.min-needed.result c.loop-body.buffer (omega (arith, c.min-needed.ensures, c.loop-body.invariant.room))) in
    passed_on (ReadsBody c.args.count (g.S.Source.left c.args.link.now) (g.S.Source.left c.read.new.self)) _ _ c.from_residual-in_err-add.ensures.1
    (body_unkept c.args.count c.loop-body.body.items (take c.in_ok-taken.taken chunk) _ _ _
    (omega (
      arith,
      length-append c.loop-body.body.items (take c.in_ok-taken.taken chunk),
      length-take-le c.in_ok-taken.taken chunk within,
      few,
      c.min-needed.ensures,
      c.len-in-loop-body.ensures,
      c.loop-body.invariant.fits,
    ))
    c.loop-body.invariant.takes
    (takes_read c.in_ok-taken.taken chunk _ _ within c.in_ok-taken.ensures.given c.in_ok-taken.ensures.rest))
