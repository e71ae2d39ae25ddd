-- A client's request for a page, and that the server parses it as intended (TAXII 2.1, sections 3.4
-- and 5.4).
use Rattle.std.specs.Prelude.{◌≡◌, ⊤, ℕ, ℤ, ◌<◌, ◌≤◌, ◌^◌, All, codes, List, [], Option, Some, None, IfSome, IsSomeAnd}
use Rattle.http_messages.specs.Frames.{GivesRequest}
use Rattle.http_messages.specs.declared.status.Status.TheVariants.{Okay}
use Rattle.taxii_routes.specs.declared.query.Query.{Query}
use Rattle.taxii_store.specs.Walk.{Wanted}
use Rattle.taxii_theorems.specs.Runs.{Round}
use Rattle.taxii_theorems.specs.Following.{IsFetch}
use Rattle.stix_times.specs.Reading.{IsTextOfInstant}
use Rattle.taxii_client.specs.Requests.{request_of}
use Rattle.taxii_client.specs.declared.target.Target.{Target}

-- a collection of a server, whose API root is `/api/`; the host's bytes are visible ones, and so
-- are those of the time, if any
pub record IsServersOwn (target : Target) : Type 0 where
  pub root : target.root ≡ codes "/api/"
  pub host : All (λ byte. (33 ≤ byte) × (byte < 127)) target.host
  pub port : target.port < 2 ^ 16
  pub collection : target.collection < 2 ^ 128
  pub limit : target.limit < 2 ^ 64
  pub since : IfSome target.since (λ time. All (λ byte. (33 ≤ byte) × (byte < 127)) time)

-- a cursor that a client received, of visible bytes
abbrev pub IsVisibleToken : Option (List ℕ) → Type 0
IsVisibleToken None = ⊤
IsVisibleToken (Some next) = All (λ byte. (33 ≤ byte) × (byte < 127)) next

-- a query without filters, or with `added_after`
abbrev pub query_after : Option ℤ → Query
query_after instant = record { added_after = instant; limit = None; next = None; ids = None; kinds = None; picks = None; specs = None }

-- the scope of a client's walk: the objects of its target's collection, all or those added after an
-- instant
abbrev pub wanted_after : Target → Option ℤ → Wanted
wanted_after target instant = record { collection = target.collection; only = None; query = query_after instant }

-- the request of the round is the one that a server reads in the bytes that the client writes, and
-- it was answered with 200; the server's collections have numbers of 128 bits
pub record IsAnswered (target : Target) (next : Option (List ℕ)) (round : Round) : Type 0 where
  pub max_body : ℕ
  pub understood : GivesRequest max_body (request_of target next) round.exchange.request []
  pub okay : round.exchange.answer.status ≡ Okay
  pub numbers : All (λ info. info.id < 2 ^ 128) round.config.collections

-- the instant of a time, if any
abbrev pub IsInstantOf : Option (List ℕ) → Option ℤ → Type 0
IsInstantOf None instant = instant ≡ None
IsInstantOf (Some time) instant = IsSomeAnd instant (λ its. IsTextOfInstant time its)

-- the round is a fetch of all versions that the client requests since its time, with the `next`
-- that it sends
pub record IsUnderstood (target : Target) (next : Option (List ℕ)) (round : Round) : Type 0 where
  pub instant : Option ℤ
  pub time : IsInstantOf target.since instant
  pub fetch : IsFetch (wanted_after target instant) next round
