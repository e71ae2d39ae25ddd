use Rattle.std.proofs.Common.{◌≡◌, ◌⊎◌, ℕ, subst, sym, ◌∙◌}
use Rattle.command_run.specs.RunEndings.{ServesNone}
use Rattle.command_run.proofs.RunEndingsLemmas.{usage-run, no_line-run, pattern-run, refused-run, listing-run, making-run, counted-as}
use Rattle.command_run.proofs.program.run.Goals as goal

pub returns-clause-ends : goal.returns-clause-ends
returns-clause-ends g c =
    let status = c.finish.ensures.status in
    let ends = c.execute-ending.ensures.end in record {
      ending = c.execute-ending.result;
      status_is = status;
      stands = ends;
      text = c.finish.ensures.reason.0;
      reason_is = c.finish.ensures.reason.1;
      reason = c.finish.ensures.reason.2;
      refusals = record {
        usage = λ is. usage-run _ _ _ _ _ ends (sym status ∙ is);
        no_line = λ none. subst (λ (n : ℕ). (n ≡ 2) ⊎ (n ≡ 1)) (sym status) (no_line-run _ _ _ _ _ ends none);
        pattern = λ is. pattern-run _ _ _ _ _ ends (sym status ∙ is);
        refused = λ refuses. subst (λ (n : ℕ). (n ≡ 3) ⊎ (n ≡ 1)) (sym status) (refused-run c.one_request.ensures _ _ _ _ _ ends refuses);
      };
    }

pub returns-clause-done : goal.returns-clause-done
returns-clause-done g c = λ is. record {
  listing = listing-run c.one_request.ensures _ _ _ _ _ c.execute-ending.ensures.end (sym c.finish.ensures.status ∙ is);
  numbers = making-run c.one_request.ensures _ _ _ _ _ c.execute-ending.ensures.end (sym c.finish.ensures.status ∙ is);
}

pub returns-clause-untouched : goal.returns-clause-untouched
returns-clause-untouched g c = λ is. c.execute-ending.ensures.untouched (subst (λ (n : ℕ). (n ≡ 2) ⊎ (n ≡ 3)) c.finish.ensures.status is)

pub returns-clause-unread : goal.returns-clause-unread
returns-clause-unread g c = c.execute-ending.ensures.unasked.0

pub returns-clause-others : goal.returns-clause-others
returns-clause-others g c = c.execute-ending.ensures.unasked.1

pub returns-clause-unserved : goal.returns-clause-unserved
returns-clause-unserved g c = λ none. c.execute-ending.ensures.unserved (subst (λ (n : ℕ). ServesNone n) c.finish.ensures.status none)

pub returns-clause-input : goal.returns-clause-input
returns-clause-input g c = counted-as c.finish.ensures.status c.execute-ending.ensures.input

pub returns-clause-output : goal.returns-clause-output
returns-clause-output g c = counted-as c.finish.ensures.status c.execute-ending.ensures.output

pub returns-clause-door : goal.returns-clause-door
returns-clause-door g c = counted-as c.finish.ensures.status c.execute-ending.ensures.door

pub returns-clause-keeper : goal.returns-clause-keeper
returns-clause-keeper g c = λ none.
    counted-as c.finish.ensures.status (c.execute-ending.ensures.keeper (subst (λ (n : ℕ). ServesNone n) c.finish.ensures.status none))
