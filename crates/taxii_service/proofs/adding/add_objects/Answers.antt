use Rattle.std.proofs.Common.{inr, refl}
use Rattle.taxii_service.proofs.adding.add_objects.Goals as goal

pub returns-in-Err-Fault-clause-err : goal.returns-in-Err-Fault-clause-err
returns-in-Err-Fault-clause-err g c =
    let prepared = c.in_ok-prepared.prepared in
    inr (inr (
      refl,
      (
        prepared.planned.rows,
        prepared.body,
        (λ none. let wrong = (c.in-Err-Fault.ensures.nothing none).0 in absurd (cc wrong)),
        c.in_ok-prepared.ensures.adding,
      ),
    ))
