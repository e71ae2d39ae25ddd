-- The answers of the server: an error's title, a resource's body, and a page with the dates of its
-- first and its last row (TAXII 2.1, sections 3.1, 3.4 and 3.6.1).
use Rattle.std.specs.Prelude.{ℕ, List, [], ◌∷◌, Option, Some, None}
use Rattle.std.specs.List.{last_or}
use Rattle.serde_json.specs.Written.{compact_text}
use Rattle.http_messages.specs.declared.method.Method.{Method}
use Rattle.http_messages.specs.declared.method.Method.TheVariants.{Get, Head, Post, Delete, Other}
use Rattle.http_messages.specs.declared.status.Status.{Status}
use Rattle.http_messages.specs.declared.status.Status.TheVariants as status
use Rattle.taxii_exchange.specs.declared.answer.Allow.{Allow}
use Rattle.taxii_exchange.specs.declared.answer.Answer.{Answer}
use Rattle.taxii_rows.specs.declared.stored_row.StoredRow.{StoredRow}
use Rattle.taxii_rows.specs.StoreState.{dates_of}
use Rattle.taxii_bodies.specs.declared.problem.Problem.{Problem}
use Rattle.taxii_bodies.specs.declared.problem.Problem.TheVariants.{BadValue, Repeated, Forbidden, NotFound, NotAcceptable, UnsupportedMediaType, NotJson, NotList, StoreFault, DatesUsedUp}
use Rattle.taxii_bodies.specs.Title.{title_data}
use Rattle.taxii_bodies.specs.Problem.{problem_title}

-- the status of a problem
abbrev pub problem_status : Problem → Status
problem_status (BadValue param) = status.BadRequest
problem_status (Repeated param) = status.BadRequest
problem_status Forbidden = status.Forbidden
problem_status NotFound = status.NotFound
problem_status NotAcceptable = status.NotAcceptable
problem_status UnsupportedMediaType = status.UnsupportedMediaType
problem_status NotJson = status.UnprocessableEntity
problem_status NotList = status.UnprocessableEntity
problem_status StoreFault = status.InternalServerError
problem_status DatesUsedUp = status.ServiceUnavailable

-- an answer with a body and no more
abbrev pub body_answer : Status → List ℕ → Answer
body_answer code body = record { status = code; body = Some body; first = None; last = None; allow = None }

-- an answer with a status alone
abbrev pub bare_answer : Status → Option Allow → Answer
bare_answer code its = record { status = code; body = None; first = None; last = None; allow = its }

-- the answer to a problem
abbrev pub problem_answer : Problem → Answer
problem_answer problem = body_answer (problem_status problem) (compact_text (title_data (problem_title problem)))

-- the first of some dates
abbrev pub first_date_of : List ℕ → Option ℕ
first_date_of [] = None
first_date_of (date ∷ dates) = Some date

-- the answer to a problem of a request: to a HEAD it has no body (RFC 9110, section 9.3.2)
abbrev pub answer_to_problem : Method → Problem → Answer
answer_to_problem Head problem = bare_answer (problem_status problem) None
answer_to_problem Get problem = problem_answer problem
answer_to_problem Post problem = problem_answer problem
answer_to_problem Delete problem = problem_answer problem
answer_to_problem Other problem = problem_answer problem

-- the answer with a page of rows, of that body
abbrev pub page_answer : List StoredRow → List ℕ → Answer
page_answer rows body = record {
  status = status.Okay;
  body = Some body;
  first = first_date_of (dates_of rows);
  last = last_or None (dates_of rows);
  allow = None;
}
