use Rattle.std.proofs.Common.{inr, ◌≡◌, ◌<◌, ◌+◌, List, ℕ, ◌++◌, length, ap, ◌∙◌, arith}
use Rattle.http_messages.specs.declared.frame.TheConstants.{MAX_HEAD}
use Rattle.http_messages.specs.declared.frame.Frame.TheVariants.{More, Refused as Bad}
use Rattle.http_messages.specs.Frames.{IsFirstFrame}
use Rattle.taxii_server.specs.declared.connection.TheConstants.{MAX_BODY}
use Rattle.taxii_server.proofs.TakesLemmas.{fed-falls, receives-receive_end, receives-refused, taken-more, wanted-more}
use Rattle.taxii_server.proofs.receiver.Receiver.receive.Goals as goal

pub loop-request-smaller : goal.loop-request-smaller
loop-request-smaller g c =
    let more = rw c.in-More.is at c.in_ok-request.ensures.first in
    let few : length c.self.inside.session.fed < MAX_HEAD + c.self.inside.session.max_body = c.few_bytes_need_more.ensures _ _ _ more in
    let same : c.next_request.new.self.fed ≡ c.loop-request.self = more.1 ∙ c.self.view_is in
    let gives = c.in_ok-take-in-More.ensures.takes.gives in
    fed-falls (MAX_HEAD + MAX_BODY) _ _ _ (omega (arith, few, ap length c.self.view_is, c.self.invariant.0))
    (gives.0 ∙ ap (λ (front : List ℕ). front ++ c.in_ok-take-in-More.ensures.takes.taken) same) gives.1

pub returns-in_err-take-in-More-clause-receives : goal.returns-in_err-take-in-More-clause-receives
returns-in_err-take-in-More-clause-receives g c =
    let more = rw c.in-More.is at c.in_ok-request.ensures.first in
    let more_of : IsFirstFrame MAX_BODY c.loop-request.self More c.next_request.new.self.fed = rw (← c.self.view_is, ← c.self.invariant.0) more in
    receives-receive_end _ c.loop-request.invariant.taken more_of c.in_err-take-in-More.ensures.takes c.loop-request.invariant.quiet
    c.from_residual-in_err-take-in-More.ensures.1

pub returns-in-Refused-clause-receives : goal.returns-in-Refused-clause-receives
returns-in-Refused-clause-receives g c =
    let first = rw c.in-Refused.is at c.in_ok-request.ensures.first in
    let refused : IsFirstFrame MAX_BODY c.loop-request.self (Bad c.in-Refused.refusal) c.next_request.new.self.fed = rw (← c.self.view_is, ← c.self.invariant.0) first in
    receives-refused {after = c.next_request.new.self.fed} {faults_now = g.L.Source.faults c.loop-request.link} c.loop-request.invariant.taken refused

pub returns-in_err-take-in-More-clause-in_time : goal.returns-in_err-take-in-More-clause-in_time
returns-in_err-take-in-More-clause-in_time g c =
    let more = rw c.in-More.is at c.in_ok-request.ensures.first in
    let more_of : IsFirstFrame MAX_BODY c.loop-request.self More c.next_request.new.self.fed = rw (← c.self.view_is, ← c.self.invariant.0) more in
    inr (wanted-more c.loop-request.invariant.taken more_of _ c.in_err-take-in-More.ensures.began)

pub loop-request-preserved : goal.loop-request-preserved
loop-request-preserved g c =
    let more = rw c.in-More.is at c.in_ok-request.ensures.first in
    let more_of : IsFirstFrame MAX_BODY c.loop-request.self More c.next_request.new.self.fed = rw (← c.self.view_is, ← c.self.invariant.0) more in
    let same : c.next_request.new.self.fed ≡ c.loop-request.self = more.1 ∙ c.self.view_is in
    let takes = c.in_ok-take-in-More.ensures.takes in
    record {
      taken = taken-more c.loop-request.invariant.taken takes.taken takes.takes (takes.gives.0 ∙ ap (λ (front : List ℕ). front ++ takes.taken) same);
      unwritten = c.in_ok-take-in-More.ensures.unwritten ∙ c.loop-request.invariant.unwritten;
      in_time = inr (wanted-more c.loop-request.invariant.taken more_of _ c.in_ok-take-in-More.ensures.began);
      quiet = c.in_ok-take-in-More.ensures.quiet (λ failed. absurd (cc failed)) ∙ c.loop-request.invariant.quiet;
    }
