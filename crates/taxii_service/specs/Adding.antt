-- What a request to add objects does (TAXII 2.1, section 5.5).
use Rattle.std.specs.Prelude.{◌≡◌, ◌⊎◌, ℕ, List, ◌++◌, length, take}
use Rattle.std.specs.List.{Contains, AllZip}
use Rattle.taxii_rows.specs.declared.stored_row.StoredRow.{StoredRow}
use Rattle.taxii_rows.specs.Keeper.{with_rows}
use Rattle.taxii_store.specs.declared.add_outcome.AddOutcome.{AddOutcome}
use Rattle.taxii_store.specs.Addition.{IsAddition, UsesUpDates, date_in, watermark_after}
use Rattle.taxii_bodies.specs.declared.details.Detail.{Detail}
use Rattle.taxii_bodies.specs.declared.status.StatusReport.{StatusReport}
use Rattle.taxii_bodies.specs.Details.{IsSuccessOf}
use Rattle.taxii_bodies.specs.Status.{status_id_of, IsStatus}
use Rattle.taxii_service.specs.declared.posted.Posted.{Posted}
use Rattle.taxii_service.specs.declared.posted.TheConstants.{MAX_DETAILS}
use Rattle.taxii_service.specs.Posted.{IsPosted, IsUnreadableBody}
use Rattle.taxii_exchange.specs.Statuses.{next_number, with_status}
use Rattle.taxii_bodies.specs.declared.problem.Problem.TheVariants.{DatesUsedUp}
use Rattle.taxii_exchange.specs.declared.refusal.Refusal.{Refusal}
use Rattle.taxii_exchange.specs.declared.refusal.Refusal.TheVariants.{Problem}
use Rattle.taxii_service.specs.declared.state.State.{State}

-- the detail is that of the row of an outcome
abbrev pub IsSuccess : List StoredRow → AddOutcome → Detail → Type 0
IsSuccess rows outcome detail = (row : StoredRow) × Contains rows row × (row.date ≡ date_in outcome) × IsSuccessOf row detail

-- what is reported of an addition, with these rows after it
pub record IsStatusReport (number moment : ℕ) (posted : Posted) (outcomes : List AddOutcome) (rows : List StoredRow) (report : StatusReport) : Type 0 where
  pub number_is : report.number ≡ number
  pub moment_is : report.moment ≡ moment
  pub successes : AllZip (IsSuccess rows) (take MAX_DETAILS outcomes) report.successes
  pub failures : report.failures ≡ posted.failures
  pub success_count : report.success_count ≡ length outcomes
  pub failure_count : report.failure_count ≡ posted.failure_count

-- an addition to a collection at a moment: the entries of the body, their outcomes, the new rows,
-- and the text of the status
pub record IsAdding (before : State) (collection moment : ℕ) (body : List ℕ) (new : List StoredRow) (text : List ℕ) : Type 0 where
  pub posted : Posted
  pub outcomes : List AddOutcome
  pub report : StatusReport
  pub posted_is : IsPosted body moment posted
  pub addition : IsAddition before.library collection moment posted.objects.items outcomes new
  pub report_is : IsStatusReport (next_number before.statuses) moment posted outcomes (before.library.rows ++ new) report
  pub text_is : IsStatus report text

-- the state with new rows, and with the text as the latest status
abbrev pub with_added : List StoredRow → List ℕ → State → State
with_added new text before = record {
  library = with_rows new (watermark_after before.library.watermark new) before.library;
  statuses = with_status (record { id = status_id_of (next_number before.statuses); body = text }) before.statuses;
}

-- fewer dates are left than the addition has new rows
pub record LacksDatesForAddition (before : State) (collection moment : ℕ) (body : List ℕ) : Type 0 where
  pub posted : Posted
  pub posted_is : IsPosted body moment posted
  pub lacks : UsesUpDates before.library collection posted.objects.items

-- why nothing can be added
abbrev pub CannotAdd : State → ℕ → ℕ → List ℕ → Refusal → Type 0
CannotAdd before collection moment body refusal =
    IsUnreadableBody body refusal ⊎ ((refusal ≡ Problem DatesUsedUp) × LacksDatesForAddition before collection moment body)
