use Rattle.std.proofs.Common.{ap}
use Rattle.match_run.proofs.ReadingLemmas.{is_open, next-answers}
use Rattle.match_run.proofs.next.next_bundle.Goals as goal

pub returns-clause-next : goal.returns-clause-next
returns-clause-next g c first earlier far =
    let left = g.I.Source.left c.args.input.now in
    let began = g.I.Source.began c.args.input.now in
    let reader = c.args.reader.now in
    let opened = is_open first left began reader earlier far in
    next-answers c.continues.ensures c.observations_are_spans.ensures first left began (g.I.Source.left c.next.new.source) (g.I.Source.began c.next.new.source)
    reader c.next.new.self earlier far c.next.result (c.next.ensures.next opened)
    (λ holds. ap g.I.Source.began (c.next.ensures.unread holds)) (c.next.ensures.in_time opened)
