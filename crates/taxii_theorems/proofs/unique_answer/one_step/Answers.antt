use Rattle.std.proofs.Common.{ℕ}
use Rattle.http_messages.specs.declared.request.Request.{Request}
use Rattle.taxii_exchange.specs.declared.answer.Answer.{Answer}
use Rattle.taxii_exchange.specs.declared.config.Config.{Config}
use Rattle.taxii_service.specs.declared.state.State.{State}
use Rattle.taxii_service.specs.Step.{Step}
use Rattle.taxii_store.specs.History.{IsDated}
use Rattle.taxii_theorems.proofs.ReadingLemmas.{Laws as Readings}
use Rattle.taxii_theorems.proofs.RefusalLemmas.{Laws as Refusals}
use Rattle.taxii_theorems.proofs.EntryLemmas.{Laws as Entries}
use Rattle.taxii_theorems.proofs.StepLemmas.{Laws}
use Rattle.taxii_theorems.proofs.ChangeLemmas.{IsOne}
use Rattle.taxii_theorems.proofs.WholeLemmas.{one_whole, one_served}
use Rattle.taxii_theorems.proofs.unique_answer.one_step.Goals as goal

one : (c : goal.After-requests_make_history) → (config : Config) (before first second : State) (moment : ℕ) (request : Request) (answer other : Answer) → IsDated before.library
    → Step config before moment request answer first → Step config before moment request other second → IsOne answer other first second
one c config before first second moment request answer other dated step step_too =
    let readings : Readings = record {
      identifier = c.one_identifier.ensures;
      text = c.one_text_of_digits.ensures;
      page = c.one_page.ensures.page;
      more = c.one_page.ensures.more;
    } in
    let refusals : Refusals = record { refusal = c.one_refusal.ensures; never_both = c.never_both.ensures } in
    let laws : Laws = record {
      path = c.one_target.ensures.path;
      text = c.one_target.ensures.query;
      route = c.one_route.ensures;
      query = c.one_query.ensures;
      readings = readings;
      refusals = refusals;
    } in
    let entries : Entries = record {
      breaks = c.one_list.ensures;
      id = c.one_id.ensures;
      time = c.one_timestamp.ensures;
      version = c.one_version.ensures.only;
      text = c.one_text_of_digits.ensures;
    } in
    let served = one_served config before second moment request other step_too in
    one_whole laws entries config before first second moment request answer other (c.requests_make_history.ensures.dated config before second served.0 served.1 dated) step step_too

pub returns-clause-answer : goal.returns-clause-answer
returns-clause-answer c config before first second moment request answer other dated step step_too =
    (one c config before first second moment request answer other dated step step_too).0

pub returns-clause-state : goal.returns-clause-state
returns-clause-state c config before first second moment request answer other dated step step_too =
    (one c config before first second moment request answer other dated step step_too).1
