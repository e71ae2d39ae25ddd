-- The spans that httparse returns for a response head, and the result of checking it. No public
-- contract cites these.
use Rattle.std.specs.Prelude.{ℕ, List, []}
use Rattle.httparse.specs.declared.spans.HeaderSpan.{HeaderSpan}
use Rattle.httparse.specs.declared.spans.ResponseSpans.{ResponseSpans}
use Rattle.httparse.specs.Grammar.{ResponseHead, ReadsResponse}
use Rattle.httparse.specs.Spans.{IsResponseAt, IsResponseWithin}

-- the bytes are a head, and the spans cover its parts
pub record IsParsedResponse (head : List ℕ) (spans : List HeaderSpan) (read : ResponseSpans) : Type 0 where
  pub within : IsResponseWithin head spans read
  pub tree : ResponseHead
  pub reads : ReadsResponse head tree []
  pub covers : IsResponseAt head spans read tree
