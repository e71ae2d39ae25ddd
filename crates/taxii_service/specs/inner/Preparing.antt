-- An addition that is made ready: its report.
use Rattle.std.specs.Prelude.{◌≡◌, ℕ, List, length, take}
use Rattle.std.specs.List.{Contains, AllZip}
use Rattle.taxii_rows.specs.declared.stored_row.StoredRow.{StoredRow}
use Rattle.taxii_store.specs.declared.add_outcome.AddOutcome.{AddOutcome}
use Rattle.taxii_store.specs.Addition.{date_in}
use Rattle.taxii_bodies.specs.declared.details.Detail.{Detail}
use Rattle.taxii_bodies.specs.declared.status.StatusReport.{StatusReport}
use Rattle.taxii_service.specs.declared.posted.TheConstants.{MAX_DETAILS}
use Rattle.taxii_service.specs.Adding.{IsSuccess}

-- the date in the outcome is that of a row
abbrev pub HasRow : List StoredRow → AddOutcome → Type 0
HasRow rows outcome = (row : StoredRow) × Contains rows row × (row.date ≡ date_in outcome)

-- the report of an addition
pub record IsReportOf (number moment : ℕ) (failures : List Detail) (failure_count : ℕ) (outcomes : List AddOutcome) (rows : List StoredRow) (report : StatusReport) : Type 0 where
  pub number_is : report.number ≡ number
  pub moment_is : report.moment ≡ moment
  pub successes : AllZip (IsSuccess rows) (take MAX_DETAILS outcomes) report.successes
  pub failures_are : report.failures ≡ failures
  pub success_count : report.success_count ≡ length outcomes
  pub failure_count_is : report.failure_count ≡ failure_count
