use Rattle.std.proofs.Common.{◌∙◌, ◌+◌, inl, refl, arith}
use Rattle.taxii_server.specs.Environment.{LinkView, client_view}
use Rattle.taxii_server.proofs.EndsLemmas.{finishes-leave, quiet-leave, finishes-answered, finishes-cut}
use Rattle.taxii_server.proofs.EnvironmentLemmas.{sink_side, source_side}
use Rattle.taxii_server.proofs.TakesLemmas.{next-in-time}
use Rattle.taxii_server.proofs.SoFarLemmas.{IsNextAnswer, so_far-start, so_far-received, received-in-time, so_far-next, few-next}
use Rattle.taxii_server.proofs.connection.serve_link.Goals as goal

pub loop-request-init : goal.loop-request-init
loop-request-init g c = record {
  so_far = rw c.in-Ok.ensures (so_far-start _ _ _ _);
  in_time = inl refl;
  few = omega arith;
  agrees = c.requires.agrees;
  keeper = refl;
  config = refl;
  read_faults = refl;
  write_faults = refl;
}

pub returns-in-Err-receive-clause-serves : goal.returns-in-Err-receive-clause-serves
returns-in-Err-receive-clause-serves g c =
    let read = sink_side (g.met.L.Link.unwritten c.loop-request.link) (g.met.L.Link.unwritten c.receive.new.link) c.in-Err-receive.ensures.unwritten in
    let wrote = source_side (g.met.L.Link.unread c.receive.new.link) (g.met.L.Link.unread c.write_closing_answer-in-Err-receive.new.link) c.write_closing_answer-in-Err-receive.ensures.unread in
    let link : LinkView = client_view g.L.Source.left g.L.Source.began g.L.Sink.written g.L.Source.faults g.L.Sink.faults c.args.link.now in
    let so_far = so_far-received {link = link} c.later_bytes_change_nothing.ensures c.loop-request.invariant.so_far c.in-Err-receive.ensures.receives read.0 in
    let in_time = received-in-time {link = link} c.later_bytes_change_nothing.ensures g.L.Source.left g.L.Source.began
    c.loop-request.link c.receive.new.link c.loop-request.invariant.so_far c.loop-request.invariant.in_time c.in-Err-receive.ensures.in_time in
    finishes-leave {link = link} _ c.in-Err-receive.receive_end c.write_closing_answer-in-Err-receive.result c.after-in-Err-receive.result so_far wrote.0
    (rw (← c.loop-request.invariant.read_faults, wrote.1) c.in-Err-receive.ensures.receives.gives) c.write_closing_answer-in-Err-receive.ensures.leave
    (λ fine. rw (← c.loop-request.invariant.write_faults, ← read.1) (c.write_closing_answer-in-Err-receive.ensures.causes fine).failed) (rw (wrote.0, wrote.2) in_time)
    (λ closed is.
    let quiet = quiet-leave c.in-Err-receive.receive_end c.write_closing_answer-in-Err-receive.result c.after-in-Err-receive.result _ closed c.after-in-Err-receive.ensures is
    (λ failed. (c.write_closing_answer-in-Err-receive.ensures.failed failed).0) (λ fine. c.in-Err-receive.ensures.quiet (λ failed. fine (cc failed)))
    (λ fine. (c.write_closing_answer-in-Err-receive.ensures.causes fine).quiet) in
    (wrote.1 ∙ quiet.0 ∙ c.loop-request.invariant.read_faults, quiet.1 ∙ read.1 ∙ c.loop-request.invariant.write_faults))
    c.after-in-Err-receive.ensures

pub returns-in-Ok-true-clause-serves : goal.returns-in-Ok-true-clause-serves
returns-in-Ok-true-clause-serves g c =
    let read = sink_side (g.met.L.Link.unwritten c.loop-request.link) (g.met.L.Link.unwritten c.receive.new.link) c.in-Ok-receive.ensures.unwritten in
    let wrote = source_side (g.met.L.Link.unread c.receive.new.link) (g.met.L.Link.unread c.answer.new.link) c.in-Ok-true.ensures.unread in
    let link : LinkView = client_view g.L.Source.left g.L.Source.began g.L.Sink.written g.L.Source.faults g.L.Sink.faults c.args.link.now in
    let so_far = so_far-received {link = link} c.later_bytes_change_nothing.ensures c.loop-request.invariant.so_far c.in-Ok-receive.ensures.receives read.0 in
    let answers = rw c.loop-request.invariant.config at c.in-Ok-true.ensures.answers in
    finishes-answered {link = link} _ so_far (record { request = c.in-Ok-receive.request; is_last = _; answers = answers; first = c.in-Ok-receive.ensures.receives.gives; last = refl; few = c.loop-request.invariant.few }) wrote.0 c.in-Ok-true.field-0-test (
      wrote.1 ∙ c.in-Ok-receive.ensures.quiet (λ failed. absurd (cc failed)) ∙ c.loop-request.invariant.read_faults,
      c.in-Ok-true.ensures.causes.quiet (λ failed. absurd (cc failed)) ∙ read.1 ∙ c.loop-request.invariant.write_faults,
    )

pub returns-in-Err-answer-clause-serves : goal.returns-in-Err-answer-clause-serves
returns-in-Err-answer-clause-serves g c =
    let read = sink_side (g.met.L.Link.unwritten c.loop-request.link) (g.met.L.Link.unwritten c.receive.new.link) c.in-Ok-receive.ensures.unwritten in
    let wrote = source_side (g.met.L.Link.unread c.receive.new.link) (g.met.L.Link.unread c.answer.new.link) c.in-Err-answer.ensures.unread in
    let link : LinkView = client_view g.L.Source.left g.L.Source.began g.L.Sink.written g.L.Source.faults g.L.Sink.faults c.args.link.now in
    let so_far = so_far-received {link = link} c.later_bytes_change_nothing.ensures c.loop-request.invariant.so_far c.in-Ok-receive.ensures.receives read.0 in
    let answers = rw c.loop-request.invariant.config at c.in-Err-answer.ensures.answers in
    let in_time = received-in-time {link = link} c.later_bytes_change_nothing.ensures g.L.Source.left g.L.Source.began
    c.loop-request.link c.receive.new.link c.loop-request.invariant.so_far c.loop-request.invariant.in_time c.in-Ok-receive.ensures.in_time in
    finishes-cut {link = link} _ so_far (record { request = c.in-Ok-receive.request; is_last = _; answers = answers; first = c.in-Ok-receive.ensures.receives.gives; last = refl; few = c.loop-request.invariant.few }) wrote.0
    (rw (← c.loop-request.invariant.write_faults, ← read.1) (c.in-Err-answer.ensures.causes.failed refl)) (rw (wrote.0, wrote.2) in_time)

pub loop-request-preserved : goal.loop-request-preserved
loop-request-preserved g c =
    let read = sink_side (g.met.L.Link.unwritten c.loop-request.link) (g.met.L.Link.unwritten c.receive.new.link) c.in-Ok-receive.ensures.unwritten in
    let wrote = source_side (g.met.L.Link.unread c.receive.new.link) (g.met.L.Link.unread c.answer.new.link) c.in-Ok-false.ensures.unread in
    let link : LinkView = client_view g.L.Source.left g.L.Source.began g.L.Sink.written g.L.Source.faults g.L.Sink.faults c.args.link.now in
    let so_far = so_far-received {link = link} c.later_bytes_change_nothing.ensures c.loop-request.invariant.so_far c.in-Ok-receive.ensures.receives read.0 in
    let answers = rw c.loop-request.invariant.config at c.in-Ok-false.ensures.answers in
    let next : IsNextAnswer _ _ _ _ _ _ _ _ _ _ _ =
    record { request = c.in-Ok-receive.request; is_last = _; answers = answers; first = c.in-Ok-receive.ensures.receives.gives; last = refl; few = c.loop-request.invariant.few } in
    let in_time = received-in-time {link = link} c.later_bytes_change_nothing.ensures g.L.Source.left g.L.Source.began
    c.loop-request.link c.receive.new.link c.loop-request.invariant.so_far c.loop-request.invariant.in_time c.in-Ok-receive.ensures.in_time in
    record {
      in_time = next-in-time _ c.loop-request.requests (c.loop-request.requests + 1) (omega arith) (rw (wrote.0, wrote.2) in_time);
      so_far = so_far-next {link = link} _ so_far next wrote.0 c.in-Ok-false.field-0-test;
      few = few-next next c.in-Ok-false.field-0-test;
      agrees = c.in-Ok-false.ensures.agrees;
      keeper = c.in-Ok-false.ensures.keeper ∙ c.loop-request.invariant.keeper;
      config = c.in-Ok-false.ensures.config ∙ c.loop-request.invariant.config;
      read_faults = wrote.1 ∙ c.in-Ok-receive.ensures.quiet (λ failed. absurd (cc failed)) ∙ c.loop-request.invariant.read_faults;
      write_faults = c.in-Ok-false.ensures.causes.quiet (λ failed. absurd (cc failed)) ∙ read.1 ∙ c.loop-request.invariant.write_faults;
    }

pub returns-in-Err-clause-serves : goal.returns-in-Err-clause-serves
returns-in-Err-clause-serves g c =
    let wrote = source_side (g.met.L.Link.unread c.args.link.now) (g.met.L.Link.unread c.write_closing_answer.new.link) c.write_closing_answer.ensures.unread in
    finishes-leave _ _ c.write_closing_answer.result c.after.result (so_far-start _ _ _ _) wrote.0 tt c.write_closing_answer.ensures.leave
    (λ fine. (c.write_closing_answer.ensures.causes fine).failed) (inl wrote.0)
    (λ closed is.
    let quiet = quiet-leave {reads = 0} {reads_now = 0} _ c.write_closing_answer.result c.after.result _ closed c.after.ensures is (λ failed. absurd (cc failed)) (λ fine. refl)
    (λ fine. (c.write_closing_answer.ensures.causes fine).quiet) in
    (wrote.1, quiet.1))
    c.after.ensures
