-- The request for a page of a collection (TAXII 2.1, sections 3.4 and 5.4): all versions of the
-- objects, at most `limit` of them. `added_after` restricts them to those added after a time,
-- `next` to those after a page. All pages have the same query but for `next`.
use Rattle.std.specs.Prelude.{ℕ, List, [], ◌++◌, codes, decimal, Option, Some, None}
use Rattle.form_urlencoded.specs.Form.{byte_serialize}
use Rattle.stix_ids.specs.Uuid.{uuid_text}
use Rattle.http_messages.specs.Lines.{field_line, line_end}
use Rattle.taxii_client.specs.declared.target.Target.{Target}

-- the pair of a query that asks for what follows a page
abbrev pub next_pair : Option (List ℕ) → List ℕ
next_pair None = []
next_pair (Some next) = codes "&next=" ++ byte_serialize next

-- the pair that asks for what was added after a time
abbrev pub since_pair : Option (List ℕ) → List ℕ
since_pair None = []
since_pair (Some time) = codes "&added_after=" ++ byte_serialize time

-- what asks for what was added since a time, and for what follows a page
abbrev pub behind : Option (List ℕ) → Option (List ℕ) → List ℕ
behind since next = since_pair since ++ next_pair next

-- the path to a collection's objects, below the root
abbrev pub objects_path : Target → List ℕ
objects_path target = target.root ++ codes "collections/" ++ uuid_text target.collection ++ codes "/objects/"

-- the query for at most `limit` objects, in all their versions
abbrev pub query_of : ℕ → Option (List ℕ) → Option (List ℕ) → List ℕ
query_of limit since next = codes "?limit=" ++ decimal limit ++ codes "&match%5Bversion%5D=all" ++ behind since next

abbrev pub request_line : Target → Option (List ℕ) → List ℕ
request_line target next = codes "GET " ++ objects_path target ++ query_of target.limit target.since next ++ codes " HTTP/1.1" ++ line_end

abbrev pub host_of : Target → List ℕ
host_of target = target.host ++ codes ":" ++ decimal target.port

-- the request for the first page, or for the one that `next` asks for
unfoldable pub request_of : Target → Option (List ℕ) → List ℕ
request_of target next =
    request_line target next
    ++ field_line (codes "Host") (host_of target)
    ++ field_line (codes "Accept") (codes "application/taxii+json;version=2.1")
    ++ field_line (codes "Connection") (codes "close")
    ++ line_end
