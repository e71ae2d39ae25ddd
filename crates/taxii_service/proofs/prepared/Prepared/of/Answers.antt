use Rattle.std.proofs.Common.{◌≡◌, ◌⊎◌, inl, inr, length, ◌∙◌, arith}
use Rattle.taxii_exchange.specs.declared.refusal.Refusal.TheVariants.{NoMemory}
use Rattle.taxii_store.specs.Addition.{first_date}
use Rattle.taxii_service.specs.Adding.{CannotAdd}
use Rattle.taxii_service.proofs.ChangeAnswerLemmas.{handed_on, as_many}
use Rattle.taxii_service.proofs.prepared.Prepared.of.Goals as goal

pub returns-in_err-planned-clause-err : goal.returns-in_err-planned-clause-err
returns-in_err-planned-clause-err c =
    let state = c.args.state.now in
    handed_on c.from_residual-in_err-planned.result c.in_err-planned.field-0.0
    (λ refusal. (refusal ≡ NoMemory) ⊎ CannotAdd state c.args.collection c.args.moment c.args.body.now refusal)
    c.from_residual-in_err-planned.ensures.1
    (elim c.in_err-planned.ensures.err [
      | inl none ↦ inl none
      | inr used ↦ inr (inr (used.0, record { posted = c.in_ok-posted.posted; posted_is = c.in_ok-posted.ensures.ok; lacks = used.1 }))
    ])

pub report_of-requires : goal.report_of-requires
report_of-requires c = record {
  rows = c.outcomes_have_rows.ensures c.args.state.now.library c.args.collection c.args.moment c.in_ok-posted.posted.objects.items
      c.in_ok-planned.planned.outcomes c.in_ok-planned.planned.rows c.in_ok-planned.ensures.ok;
}

pub status_body-requires : goal.status_body-requires
status_body-requires c =
    let addition = c.in_ok-planned.ensures.ok in
    let planned = c.in_ok-planned.planned in
    let store = c.args.state.now.library in
    let many = as_many c.args.collection (first_date store.watermark c.args.moment (length planned.rows)) store.rows c.in_ok-posted.posted.objects.items planned.outcomes planned.rows addition.adds in
    let report = c.in_ok-report.ensures in
    omega (arith, many, report.success_count, report.failure_count_is, c.in_ok-posted.ensures.few)

pub returns-clause-adding : goal.returns-clause-adding
returns-clause-adding c =
    let report = c.in_ok-report.ensures in
    record {
      posted = c.in_ok-posted.posted;
      outcomes = c.in_ok-planned.planned.outcomes;
      report = c.in_ok-report.report;
      posted_is = c.in_ok-posted.ensures.ok;
      addition = c.in_ok-planned.ensures.ok;
      report_is = record {
        number_is = report.number_is ∙ c.next_number-number.ensures;
        moment_is = report.moment_is;
        successes = report.successes;
        failures = report.failures_are;
        success_count = report.success_count;
        failure_count = report.failure_count_is;
      };
      text_is = c.in_ok-text.ensures;
    }
