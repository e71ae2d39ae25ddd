use Rattle.taxii_theorems.proofs.ReadingLemmas.{Laws as Readings}
use Rattle.taxii_theorems.proofs.RefusalLemmas.{Laws as Refusals}
use Rattle.taxii_theorems.proofs.StepLemmas.{Laws, one_reading_step, stays}
use Rattle.taxii_theorems.proofs.unique_answer.readings_change_nothing.Goals as goal

pub returns-clause-answer : goal.returns-clause-answer
returns-clause-answer c config before first second moment later request answer other no_post no_delete =
    let readings : Readings = record {
      identifier = c.one_identifier.ensures;
      text = c.one_text_of_digits.ensures;
      page = c.one_page.ensures.page;
      more = c.one_page.ensures.more;
    } in
    let refusals : Refusals = record { refusal = c.one_refusal.ensures; never_both = c.never_both.ensures } in
    let laws : Laws = record {
      path = c.one_target.ensures.path;
      text = c.one_target.ensures.query;
      route = c.one_route.ensures;
      query = c.one_query.ensures;
      readings = readings;
      refusals = refusals;
    } in
    one_reading_step laws config before first second moment later request answer other (no_post, no_delete)

pub returns-clause-state : goal.returns-clause-state
returns-clause-state c config before after moment request answer no_post no_delete = stays config before after moment request answer (no_post, no_delete)
