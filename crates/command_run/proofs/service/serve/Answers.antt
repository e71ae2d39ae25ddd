use Rattle.std.proofs.lemmas.Bool.{false≢true}
use Rattle.std.proofs.Common.{ℕ, inl, inr, refl, subst}
use Rattle.taxii_server.specs.Connections.{Pass}
use Rattle.taxii_server.specs.Serving.{exchanges_of}
use Rattle.command_run.proofs.ServingLemmas.{concluded-ends, serves-of}
use Rattle.command_run.proofs.service.serve.Goals as goal

pub returns-in-Ok-serve_door-clause-ends : goal.returns-in-Ok-serve_door-clause-ends
returns-in-Ok-serve_door-clause-ends g c =
    let did = c.in-Ok-serve_door.ensures.serves in
    let server = c.in-Ok.server in
    let last = c.serve_door.new.server.state in
    let pass = subst (λ (n : ℕ). Pass (exchanges_of did.0) record { moments = g.C.Clock.moments c.args.clock.now; faults = n } record { moments = g.C.Clock.moments c.serve_door.new.clock; faults = g.K.Keeper.faults c.serve_door.new.keeper })
    (c.in-Ok.ensures.causes.quiet (λ is. absurd (cc is))) did.2 in
    concluded-ends _ _ _ _ c.in-Ok-serve_door.served c.conclude.result (
      did.0,
      serves-of _ _ _ _ server last did.0 (g.K.Keeper.kept c.open.new.keeper) c.in-Ok.ensures.ok c.in-Ok.ensures.observable
          c.in-Ok-serve_door.ensures.keeper did.1 c.in-Ok-serve_door.ensures.agrees.told_is (rw c.from-connections.ensures at did.3) pass
          (λ dated. c.walks_among_requests_skip_no_row.ensures server.config server.state last (exchanges_of did.0) dated
          (c.clients_make_history.ensures _ server.config server.state last did.0 did.1)),
      elim did.4 [ inl p ↦ p | inr q ↦ absurd (false≢true q.0) ],
      rw c.from-connections.ensures at did.5,
    )
    c.conclude.ensures.concludes

pub returns-clause-ends : goal.returns-clause-ends
returns-clause-ends g c =
    let did = c.in-Err-serve_door.ensures.serves in
    let server = c.in-Ok.server in
    let last = c.serve_door.new.server.state in
    let pass = subst (λ (n : ℕ). Pass (exchanges_of did.0) record { moments = g.C.Clock.moments c.args.clock.now; faults = n } record { moments = g.C.Clock.moments c.serve_door.new.clock; faults = g.K.Keeper.faults c.serve_door.new.keeper })
    (c.in-Ok.ensures.causes.quiet (λ is. absurd (cc is))) did.2 in (
      (
        did.0,
        serves-of _ _ _ _ server last did.0 (g.K.Keeper.kept c.open.new.keeper) c.in-Ok.ensures.ok c.in-Ok.ensures.observable
            c.in-Err-serve_door.ensures.keeper did.1 c.in-Err-serve_door.ensures.agrees.told_is (rw c.from-connections.ensures at did.3) pass
            (λ dated. c.walks_among_requests_skip_no_row.ensures server.config server.state last (exchanges_of did.0) dated
            (c.clients_make_history.ensures _ server.config server.state last did.0 did.1)),
        elim did.4 [ inl p ↦ inl p | inr q ↦ inr (q.1, q.2) ],
      ),
      refl,
    )
