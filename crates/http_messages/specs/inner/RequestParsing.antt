-- The spans that httparse returns for a request head. No public contract cites these.
use Rattle.std.specs.Prelude.{ℕ, List, []}
use Rattle.httparse.specs.declared.spans.HeaderSpan.{HeaderSpan}
use Rattle.httparse.specs.declared.spans.RequestSpans.{RequestSpans}
use Rattle.httparse.specs.Grammar.{RequestHead, ReadsRequest}
use Rattle.httparse.specs.Spans.{IsRequestAt, IsRequestWithin}

-- the bytes are a head, and the spans cover its parts
pub record IsParsedRequest (head : List ℕ) (spans : List HeaderSpan) (read : RequestSpans) : Type 0 where
  pub within : IsRequestWithin head spans read
  pub tree : RequestHead
  pub reads : ReadsRequest head tree []
  pub covers : IsRequestAt head spans read tree
