-- The bytes of an answer (RFC 9112, section 6; RFC 9110, sections 8.6 and 10.2.1; TAXII 2.1,
-- section 3.2).
use Rattle.std.specs.Prelude.{◌≡◌, ℕ, ◌*◌, ◌≤◌, Bool, if◌then◌else◌, ⊤, List, [], ◌++◌, length, codes, decimal, pos, Option, Some, None, option_map, IfSome, Result, OnErr}
use Rattle.flow_edges.specs.Flow.{WritesWhole, WritesPart}
use Rattle.stix_times.specs.Writing.{IsTextOfDigits}
use Rattle.http_messages.specs.declared.request_refusal.Refusal.{Refusal}
use Rattle.http_messages.specs.declared.status.Status.{Status}
use Rattle.http_messages.specs.declared.status.Status.TheVariants as status
use Rattle.http_messages.specs.Lines.{status_line, field_line, line_if_some, line_end}
use Rattle.http_messages.specs.Statuses.{refusal_status, refusal_title}
use Rattle.taxii_exchange.specs.declared.answer.Allow.{Allow}
use Rattle.taxii_exchange.specs.declared.answer.Allow.TheVariants.{Get, GetPost, GetDelete}
use Rattle.taxii_exchange.specs.declared.answer.Answer.{Answer}
use Rattle.taxii_exchange.specs.declared.answer.TheConstants.{MAX_DATE}

-- the media type of every body
abbrev pub media_type : List ℕ
media_type = codes "application/taxii+json;version=2.1"

-- the methods that a resource allows
abbrev pub methods_of : Allow → List ℕ
methods_of Get = codes "GET"
methods_of GetPost = codes "GET, POST"
methods_of GetDelete = codes "GET, DELETE"

-- the bytes of a body
abbrev pub body_bytes : Option (List ℕ) → List ℕ
body_bytes None = []
body_bytes (Some body) = body

-- the head of an answer, with the texts of its two dates
unfoldable pub head_text : Answer → Option (List ℕ) → Option (List ℕ) → Bool → List ℕ
head_text answer first last close =
    status_line answer.status
    ++ line_if_some (codes "Content-Type") (option_map (λ body. media_type) answer.body)
    ++ line_if_some (codes "Allow") (option_map methods_of answer.allow)
    ++ line_if_some (codes "X-TAXII-Date-Added-First") first
    ++ line_if_some (codes "X-TAXII-Date-Added-Last") last
    ++ field_line (codes "Content-Length") (decimal (length (body_bytes answer.body)))
    ++ (if close then field_line (codes "Connection") (codes "close") else [])
    ++ line_end

-- the text of a date in microseconds since 1970, with six digits of a second, where there is a date
abbrev pub IsOptionalDateText : Option ℕ → Option (List ℕ) → Type 0
IsOptionalDateText None None = ⊤
IsOptionalDateText None (Some text) = ⊥
IsOptionalDateText (Some micros) None = ⊥
IsOptionalDateText (Some micros) (Some text) = IsTextOfDigits 6 text (pos (1000 * micros))

-- the text of an answer, after which the connection ends or not
pub record IsAnswerText (answer : Answer) (close : Bool) (text : List ℕ) : Type 0 where
  pub first : Option (List ℕ)
  pub last : Option (List ℕ)
  pub first_is : IsOptionalDateText answer.first first
  pub last_is : IsOptionalDateText answer.last last
  pub text_is : text ≡ head_text answer first last close ++ body_bytes answer.body

-- the dates lie before the year 10000
pub record HasDates (answer : Answer) : Type 0 where
  pub first : IfSome answer.first (λ micros. micros ≤ MAX_DATE)
  pub last : IfSome answer.last (λ micros. micros ≤ MAX_DATE)

-- what a call says that writes an answer: its text was written, or less than all of it and a fault
pub record WritesAnswer {T E : Type 0} (answer : Answer) (close : Bool) (before now : Option (List ℕ)) (result : Result T E) : Type 0 where
  pub text : List ℕ
  pub text_is : IsAnswerText answer close text
  pub writes : WritesWhole text before now result
  pub part : OnErr result (WritesPart text before now)

-- an answer that says no more than a title (TAXII 2.1, section 3.6.1)
abbrev pub titled : Status → List ℕ → Answer
titled status title = record {
  status = status;
  body = Some (codes "{\"title\":\"" ++ title ++ codes "\"}");
  first = None;
  last = None;
  allow = None;
}

-- the answer to a refusal
abbrev pub answer_to : Refusal → Answer
answer_to refusal = titled (refusal_status refusal) (refusal_title refusal)

-- the answer when out of memory
abbrev pub no_memory_answer : Answer
no_memory_answer = titled status.ServiceUnavailable (codes "out of memory")
