use Rattle.std.proofs.Common.{inr}
use Rattle.taxii_service.proofs.StepAnswerLemmas.{route_step_no_fault}
use Rattle.taxii_service.proofs.DateLemmas.{done_dated, refused_dated}
use Rattle.taxii_service.proofs.PerformLemmas.{refusal_counted}
use Rattle.taxii_service.proofs.response.respond_at.Goals as goal

pub returns-in-Ok-clause-dates : goal.returns-in-Ok-clause-dates
returns-in-Ok-clause-dates g c = done_dated c.rows_of_pages.ensures.stored _ _ _ _ _ _ _ _ c.rows.ensures.sound c.in-Ok.ensures.ok

pub returns-in-Ok-clause-causes : goal.returns-in-Ok-clause-causes
returns-in-Ok-clause-causes g c =
    let counted = c.in-Ok.ensures.causes in record {
      later = counted.later;
      failed = λ failed. absurd (route_step_no_fault _ _ _ _ _ _ _ _ (inr c.in-Ok.ensures.ok) failed);
      quiet = λ _. counted.quiet (λ wrong. absurd (cc wrong));
    }

pub returns-in-Err-clause-causes : goal.returns-in-Err-clause-causes
returns-in-Err-clause-causes g c = refusal_counted c.args.request.now.method c.in-Err.refusal c.answer_to.result _ _ c.answer_to.ensures.ok c.answer_to.ensures.there c.in-Err.ensures.causes

pub returns-in-Err-clause-dates : goal.returns-in-Err-clause-dates
returns-in-Err-clause-dates g c = refused_dated c.args.request.now.method c.in-Err.refusal c.answer_to.result c.answer_to.ensures.ok
