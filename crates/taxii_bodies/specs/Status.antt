-- The status of a request to add objects (TAXII 2.1, section 4.3.1): how many there were, what
-- became of them, and when they came.
use Rattle.std.specs.Prelude.{◌≡◌, ℕ, ◌+◌, ◌%◌, ◌^◌, List, map, codes, Option, None, Some}
use Rattle.serde_json.specs.Data.{Data, unsigned, number, string, object, Members, no_members, member}
use Rattle.serde_json.specs.Written.{compact_text}
use Rattle.stix_ids.specs.Uuid.{uuid_text}
use Rattle.taxii_bodies.specs.declared.details.Detail.{Detail}
use Rattle.taxii_bodies.specs.declared.status.StatusReport.{StatusReport}
use Rattle.taxii_bodies.specs.Details.{IsMomentText}
use Rattle.taxii_bodies.specs.Page.{list_before}

-- a status's identifier: 00000000-0000-4000-8000- and the last 48 bits of the number of the request
abbrev pub status_id_of : ℕ → List ℕ
status_id_of request = uuid_text (0x4000_8000_0000_0000_0000 + request % 2 ^ 48)

-- a message before other members, if any
abbrev pub message_before : Option (List ℕ) → Members → Members
message_before None rest = rest
message_before (Some message) rest = member (codes "message") (string message) rest

-- what became of an object
abbrev pub detail_data : Detail → Data
detail_data detail = object
    (member (codes "id") (string detail.id)
    (message_before detail.message
    (member (codes "version") (string detail.version) no_members)))

-- the status, of the text of its moment; a list of details is left out where it is empty
abbrev pub status_data : StatusReport → List ℕ → Data
status_data report moment = object
    (member (codes "failure_count") (number (unsigned report.failure_count))
    (list_before (codes "failures") (map detail_data report.failures)
    (member (codes "id") (string (status_id_of report.number))
    (member (codes "pending_count") (number (unsigned 0))
    (member (codes "request_timestamp") (string moment)
    (member (codes "status") (string (codes "complete"))
    (member (codes "success_count") (number (unsigned report.success_count))
    (list_before (codes "successes") (map detail_data report.successes)
    (member (codes "total_count") (number (unsigned (report.success_count + report.failure_count))) no_members)))))))))

-- the text is the body of the status
pub record IsStatus (report : StatusReport) (text : List ℕ) : Type 0 where
  pub moment : List ℕ
  pub moment_is : IsMomentText report.moment moment
  pub text_is : text ≡ compact_text (status_data report moment)
