-- The invariant of a session. No public contract cites these.
use Rattle.std.specs.Prelude.{ℕ, ◌≤◌, List, length}
use Rattle.httparse.specs.declared.spans.HeaderSpan.{HeaderSpan}
use Rattle.http_messages.specs.declared.request_grammar.TheConstants.{MAX_FIELDS}
use Rattle.http_messages.specs.declared.search.HeadSearch.{HeadSearch}
use Rattle.http_messages.specs.inner.Searching.{IsSearched, Needs}

-- what was found of the bytes so far is true of them, and there is room for the fields of any head
pub record IsSession (greatest : ℕ) (bytes : List ℕ) (search : HeadSearch) (needed : ℕ) (spans : List HeaderSpan) : Type 0 where
  pub searched : IsSearched bytes search
  pub needs : Needs greatest bytes needed
  pub room : MAX_FIELDS ≤ length spans
