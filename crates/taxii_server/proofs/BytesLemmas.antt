-- Requests that bytes begin with: bytes that come after, and one request more at the end.
use Rattle.std.proofs.Common.{◌≢◌, ℕ, List, [], ◌∷◌, ◌++◌, refl, ap}
use Rattle.http_messages.specs.declared.frame.Frame.{Frame}
use Rattle.http_messages.specs.declared.frame.Frame.TheVariants.{More, Request as Given}
use Rattle.http_messages.specs.declared.request.Request.{Request}
use Rattle.http_messages.specs.Frames.{IsFirstFrame}
use Rattle.taxii_server.specs.declared.connection.TheConstants.{MAX_BODY}
use Rattle.taxii_server.specs.Connections.{BeginWith}

-- the law of `http_messages`: a request and a refusal are the same whatever bytes follow
abbrev pub LaterBytesChangeNothing : Type 0
LaterBytesChangeNothing = (greatest : ℕ) (bytes more : List ℕ) (frame : Frame) (rest : List ℕ)
    → IsFirstFrame greatest bytes frame rest → frame ≢ More → IsFirstFrame greatest (bytes ++ more) frame (rest ++ more)

-- bytes that come after stand in the rest
pub begin_with-more : LaterBytesChangeNothing → (bytes more : List ℕ) (requests : List Request) (rest : List ℕ)
    → BeginWith bytes requests rest → BeginWith (bytes ++ more) requests (rest ++ more)
begin_with-more later bytes more [] rest begins = ap (λ (some : List ℕ). some ++ more) begins
begin_with-more later bytes more (request ∷ requests) rest (behind, first, begins) =
    (behind ++ more, later MAX_BODY bytes more (Given request) behind first (λ is. absurd (cc is)), begin_with-more later behind more requests rest begins)

-- the rest begins with one more
pub begin_with-next : (bytes : List ℕ) (requests : List Request) (rest : List ℕ) (request : Request) (after : List ℕ)
    → BeginWith bytes requests rest → IsFirstFrame MAX_BODY rest (Given request) after → BeginWith bytes (requests ++ request ∷ []) after
begin_with-next bytes [] rest request after begins first = (after, rw begins at first, refl)
begin_with-next bytes (earlier ∷ requests) rest request after (behind, its, begins) first =
    (behind, its, begin_with-next behind requests rest request after begins first)
