-- The request that a client writes, by the grammar of requests: a GET of a collection's objects.
use Rattle.std.proofs.Common.{◌≡◌, ◌≢◌, ℕ, zero, suc, ◌+◌, ◌-◌, ◌/◌, ◌%◌, ◌<◌, ◌≤◌, ◌^◌, Bool, true, false, List, [], ◌∷◌, ◌++◌, All, length, take, drop, codes, decimal, Option, Some, refl, sym, ap, subst, ◌∙◌, append_assoc, append-nil, take-append-drop, length-append, arith}
use Rattle.std.specs.Prelude.{slice_index, slice_range, if◌then◌else◌, not, ◌&&◌, ◌==◌, nat_lt}
use Rattle.std.specs.List.{list_all, flat_map}
use Rattle.std.specs.Int.{to_be_bytes, w128}
use Rattle.std.proofs.lemmas.Bool.{ltb-true, ltb-false, eqb-false}
use Rattle.std.proofs.lemmas.Fmt.{decimal_is_IsNumeral}
use Rattle.std.proofs.lemmas.List.Elements.{All-nil, All-cons, All-head, All-tail, All-append, All-weaker}
use Rattle.httparse.specs.Grammar.{is_token_byte, is_value_byte, Field, IsField, crlf, print_field, RequestHead, IsRequestHead, ReadsRequest, print_request}
use Rattle.httparse.proofs.GrammarLemmas.{request_unique, print_request-append}
use Rattle.uuid.specs.Text.{by_index, hex_digit, nibble, digit_place, is_hyphen_place, lower}
use Rattle.uuid.proofs.TextLemmas.{by_index_length}
use Rattle.stix_ids.specs.Uuid.{uuid_text}
use Rattle.http_messages.specs.Lines.{line_end, field_line}
use Rattle.http_messages.specs.Fields.{HeadParts, head_parts, method_of}
use Rattle.http_messages.specs.Frames.{GivesRequest}
use Rattle.http_messages.specs.RequestHeads.{is_line_byte}
use Rattle.http_messages.specs.declared.method.Method.TheVariants.{Get}
use Rattle.http_messages.specs.declared.request.Request.{Request}
use Rattle.taxii_routes.specs.Route.{IsRoutePath}
use Rattle.taxii_routes.specs.Target.{IsTargetOf}
use Rattle.taxii_routes.specs.declared.route.Route.TheVariants.{Objects}
use Rattle.taxii_client.specs.Requests.{behind, objects_path, query_of, host_of, request_of}
use Rattle.taxii_client.specs.declared.target.Target.{Target}
use Rattle.taxii_theorems.specs.Asking.{IsServersOwn}
use Rattle.taxii_theorems.proofs.BytesLemmas.{passes, AreFrom, seen, from_all, from_both, from_less, are_values, are_uri, are_text, are_digits}
use Rattle.taxii_theorems.proofs.HeadLemmas.{field, is_field, printed_field, token}
use Rattle.taxii_theorems.proofs.QueryLemmas.{query_for, behind_seen}

-- ---- the text of a UUID

-- a hex digit in lower case, or a hyphen
pub record IsUuidByte (b : ℕ) : Type 0 where
  pub low : 33 ≤ b
  pub high : b < 127
  pub no_slash : b ≢ 47
  pub no_watermark : b ≢ 63

all_index : (n : ℕ) (f : ℕ → ℕ) → ((k : ℕ) → IsUuidByte (f k)) → All IsUuidByte (by_index n f)
unfolding by_index
all_index zero f each = All-nil IsUuidByte
all_index (suc n) f each = All-append IsUuidByte (by_index n f) (f n ∷ []) (all_index n f each) (All-cons IsUuidByte (f n) [] (each n) (All-nil IsUuidByte))

hex_byte : (d : ℕ) → d < 16 → IsUuidByte (hex_digit lower d)
hex_byte d few = by_test (nat_lt d 10) refl
  where
    by_test : (t : Bool) → nat_lt d 10 ≡ t → IsUuidByte (if t then 48 + d else lower + d - 10)
    by_test true is = let small : d < 10 = ltb-true d 10 is in
        record { low = omega arith; high = omega (arith, small); no_slash = λ same. omega (arith, same); no_watermark = λ same. omega (arith, same, small) }
    by_test false is = let big : 10 ≤ d = ltb-false d 10 is in
        record { low = omega (arith, big); high = omega (arith, few); no_slash = λ same. omega (arith, same, big); no_watermark = λ same. omega (arith, same, big) }

nibble_low : (xs : List ℕ) (k : ℕ) → nibble xs k < 16
nibble_low xs k = by_test (k % 2 == 0)
  where
    by_test : (t : Bool) → (if t then slice_index xs (k / 2) / 16 % 16 else slice_index xs (k / 2) % 16) < 16
    by_test true = omega arith
    by_test false = omega arith

uuid_byte : (xs : List ℕ) (k : ℕ) → IsUuidByte (if is_hyphen_place k then 45 else hex_digit lower (nibble xs (digit_place k)))
uuid_byte xs k = by_test (is_hyphen_place k)
  where
    by_test : (t : Bool) → IsUuidByte (if t then 45 else hex_digit lower (nibble xs (digit_place k)))
    by_test true = record { low = omega arith; high = omega arith; no_slash = λ same. omega (arith, same); no_watermark = λ same. omega (arith, same) }
    by_test false = hex_byte (nibble xs (digit_place k)) (nibble_low xs (digit_place k))

pub uuid_bytes : (number : ℕ) → All IsUuidByte (uuid_text number)
unfolding uuid_text
uuid_bytes number = all_index 36 (λ k. if is_hyphen_place k then 45 else hex_digit lower (nibble (to_be_bytes w128 number) (digit_place k))) (uuid_byte (to_be_bytes w128 number))

some_uuid : (number : ℕ) → 0 < length (uuid_text number)
unfolding uuid_text
some_uuid number = omega (arith, by_index_length 36 (λ k. if is_hyphen_place k then 45 else hex_digit lower (nibble (to_be_bytes w128 number) (digit_place k))))

seen_uuid : (bytes : List ℕ) → All IsUuidByte bytes → AreFrom 33 bytes
seen_uuid [] are = tt
seen_uuid (b ∷ bytes) are = let first = All-head IsUuidByte b bytes are in (first.low, first.high, seen_uuid bytes (All-tail IsUuidByte b bytes are))

-- ---- the target

abbrev pub target_text : Target → Option (List ℕ) → List ℕ
target_text target next = objects_path target ++ query_of target.limit target.since next

abbrev own_path_text : Target → List ℕ
own_path_text target = codes "/api/" ++ codes "collections/" ++ uuid_text target.collection ++ codes "/objects/"

path_is : (target : Target) → IsServersOwn target → objects_path target ≡ own_path_text target
path_is target own = ap (λ (root : List ℕ). root ++ codes "collections/" ++ uuid_text target.collection ++ codes "/objects/") own.root

path_seen : (target : Target) → IsServersOwn target → AreFrom 33 (objects_path target)
path_seen target own =
    subst (AreFrom 33) (sym (path_is target own))
    (from_both 33 (codes "/api/collections/" ++ uuid_text target.collection) (codes "/objects/")
    (from_both 33 (codes "/api/collections/") (uuid_text target.collection) (seen 33 (codes "/api/collections/") refl) (seen_uuid (uuid_text target.collection) (uuid_bytes target.collection)))
    (seen 33 (codes "/objects/") refl))

limit_seen : (limit : ℕ) → limit < 2 ^ 64 → AreFrom 33 (decimal limit)
limit_seen limit few = are_digits (decimal limit) (decimal_is_IsNumeral limit few).0.1

query_seen : (limit : ℕ) (since next : Option (List ℕ)) → limit < 2 ^ 64 → AreFrom 33 (query_of limit since next)
query_seen limit since next few =
    from_both 33 (codes "?limit=" ++ decimal limit ++ codes "&match%5Bversion%5D=all") (behind since next)
    (from_both 33 (codes "?limit=" ++ decimal limit) (codes "&match%5Bversion%5D=all")
    (from_both 33 (codes "?limit=") (decimal limit) (seen 33 (codes "?limit=") refl) (limit_seen limit few))
    (seen 33 (codes "&match%5Bversion%5D=all") refl))
    (behind_seen since next)

target_seen : (target : Target) (next : Option (List ℕ)) → IsServersOwn target → AreFrom 33 (target_text target next)
target_seen target next own = from_both 33 (objects_path target) (query_of target.limit target.since next) (path_seen target own) (query_seen target.limit target.since next own.limit)

-- ---- the head

host_seen : (target : Target) → IsServersOwn target → AreFrom 33 (host_of target)
host_seen target own =
    from_both 33 (target.host ++ codes ":") (decimal target.port)
    (from_both 33 target.host (codes ":") (from_all target.host own.host) (seen 33 (codes ":") refl))
    (limit_seen target.port (omega (arith, own.port)))

abbrev media : List ℕ
media = codes "application/taxii+json;version=2.1"

abbrev fields_of : Target → List Field
fields_of target = field (codes "Host") (host_of target) ∷ field (codes "Accept") media ∷ field (codes "Connection") (codes "close") ∷ []

abbrev pub tree_of : Target → Option (List ℕ) → RequestHead
tree_of target next = record {
  blank = [];
  method = codes "GET";
  target = target_text target next;
  minor = 1;
  line_end = crlf;
  fields = fields_of target;
  last = crlf;
}

some_target : (target : Target) (next : Option (List ℕ)) → 0 < length (target_text target next)
some_target target next = omega (
  arith,
  length-append (objects_path target) (query_of target.limit target.since next),
  length-append (target.root ++ codes "collections/" ++ uuid_text target.collection) (codes "/objects/"),
)

tree_valid : (target : Target) (next : Option (List ℕ)) → IsServersOwn target → IsRequestHead (tree_of target next)
unfolding is_token_byte
tree_valid target next own = record {
  method = token (codes "GET") (omega arith) refl;
  target = (
    some_target target next,
    are_uri (target_text target next) (target_seen target next own),
  );
  target_text = are_text 33 (target_text target next) (target_seen target next own);
  minor = omega arith;
  fields =
      All-cons IsField (field (codes "Host") (host_of target)) (field (codes "Accept") media ∷ field (codes "Connection") (codes "close") ∷ [])
      (is_field (codes "Host") (host_of target) (token (codes "Host") (omega arith) refl) (are_values (host_of target) (from_less 33 32 (host_of target) (omega arith) (host_seen target own))))
      (All-cons IsField (field (codes "Accept") media) (field (codes "Connection") (codes "close") ∷ []) (is_field (codes "Accept") media (token (codes "Accept") (omega arith) refl) (passes is_value_byte media refl))
      (All-cons IsField (field (codes "Connection") (codes "close")) [] (is_field (codes "Connection") (codes "close") (token (codes "Connection") (omega arith) refl) (passes is_value_byte (codes "close") refl))
      (All-nil IsField)));
}

from_right : (path query host accept close end : List ℕ)
    → codes "GET " ++ path ++ query ++ codes " HTTP/1.1" ++ end ++ host ++ accept ++ close ++ end
    ≡ codes "GET " ++ (path ++ (query ++ (codes " HTTP/1.1" ++ (end ++ (host ++ (accept ++ (close ++ end)))))))
from_right path query host accept close end = simp append_assoc

regrouped : (path query version end host accept close : List ℕ)
    → (path ++ query) ++ (version ++ (end ++ ((host ++ (accept ++ close)) ++ end))) ≡ path ++ (query ++ (version ++ (end ++ (host ++ (accept ++ (close ++ end))))))
regrouped path query version end host accept close = simp append_assoc

fields_printed : (target : Target) → flat_map print_field (fields_of target)
    ≡ field_line (codes "Host") (host_of target) ++ (field_line (codes "Accept") media ++ field_line (codes "Connection") (codes "close"))
fields_printed target =
    let accept = print_field (field (codes "Accept") media) in
    let close = print_field (field (codes "Connection") (codes "close")) in
    ap (λ (line : List ℕ). line ++ (accept ++ (close ++ []))) (printed_field (codes "Host") (host_of target))
    ∙ ap (λ (line : List ℕ). field_line (codes "Host") (host_of target) ++ (line ++ (close ++ []))) (printed_field (codes "Accept") media)
    ∙ ap (λ (line : List ℕ). field_line (codes "Host") (host_of target) ++ (field_line (codes "Accept") media ++ line))
    (append-nil close ∙ printed_field (codes "Connection") (codes "close"))

printed_head : (target : Target) (next : Option (List ℕ)) → print_request (tree_of target next)
    ≡ codes "GET " ++ (target_text target next ++ (codes " HTTP/1.1" ++ (line_end ++ (flat_map print_field (fields_of target) ++ line_end))))
printed_head target next =
    sym (append-nil (print_request (tree_of target next))) ∙ print_request-append (tree_of target next) []
    ∙ ap (λ (text : List ℕ). codes "GET " ++ (target_text target next ++ (codes " HTTP/1.1" ++ (line_end ++ text)))) (append-nil (flat_map print_field (fields_of target) ++ line_end))

pub tree_printed : (target : Target) (next : Option (List ℕ)) → request_of target next ≡ print_request (tree_of target next)
unfolding request_of
tree_printed target next =
    let host = field_line (codes "Host") (host_of target) in
    let accept = field_line (codes "Accept") media in
    let close = field_line (codes "Connection") (codes "close") in
    from_right (objects_path target) (query_of target.limit target.since next) host accept close line_end
    ∙ ap (λ (text : List ℕ). codes "GET " ++ text)
    (sym (ap (λ (fields : List ℕ). target_text target next ++ (codes " HTTP/1.1" ++ (line_end ++ (fields ++ line_end)))) (fields_printed target)
    ∙ regrouped (objects_path target) (query_of target.limit target.since next) (codes " HTTP/1.1") line_end host accept close))
    ∙ sym (printed_head target next)

-- ---- what a server reads

-- it begins with the request's first byte
first_byte : (target : Target) (next : Option (List ℕ)) → slice_index (request_of target next) 0 ≡ 71
unfolding request_of
first_byte target next = refl

at_start : (target : Target) (next : Option (List ℕ)) (start : ℕ) → ((place : ℕ) → place < start → is_line_byte (slice_index (request_of target next) place) ≡ true) → start ≡ 0
at_start target next zero dropped = refl
at_start target next (suc start) dropped =
    absurd (let clash : is_line_byte 71 ≡ true = ap is_line_byte (sym (first_byte target next)) ∙ dropped 0 (omega arith) in cc)

-- the request that a server reads in it is a GET of this target
pub record IsGetOf (target : Target) (next : Option (List ℕ)) (request : Request) : Type 0 where
  pub get : request.method ≡ Get
  pub target_is : request.target ≡ target_text target next

pub is_get : (target : Target) (next : Option (List ℕ)) (greatest : ℕ) (request : Request) (rest : List ℕ) → IsServersOwn target
    → GivesRequest greatest (request_of target next) request rest → IsGetOf target next request
is_get target next greatest request rest own gives =
    let parts_are : gives.parts ≡ head_parts (tree_of target next) = gives.accepts.read.parts_are ∙ ap head_parts (sym trees.0) in record {
      get = ap (λ (r : Request). r.method) gives.request_is ∙ ap (λ (parts : HeadParts). method_of parts.method) parts_are;
      target_is = ap (λ (r : Request). r.target) gives.request_is ∙ ap (λ (parts : HeadParts). parts.target) parts_are;
    }
  where
    bytes : List ℕ
    bytes = request_of target next

    start : gives.start ≡ 0
    start = at_start target next gives.start gives.accepts.head.at.dropped

    its_head : ReadsRequest bytes (tree_of target next) []
    its_head = (tree_valid target next own, tree_printed target next ∙ sym (append-nil (print_request (tree_of target next))))

    none_less : gives.end - 0 ≡ gives.end
    none_less = omega arith

    front : take gives.end bytes ≡ print_request gives.accepts.read.tree
    front = ap (λ (count : ℕ). take count bytes) (sym none_less) ∙ sym (ap (λ (from : ℕ). slice_range bytes from gives.end) start) ∙ gives.accepts.read.reads.1 ∙ append-nil (print_request gives.accepts.read.tree)

    read_head : ReadsRequest bytes gives.accepts.read.tree (drop gives.end bytes)
    read_head = (
      gives.accepts.read.reads.0,
      sym (take-append-drop gives.end bytes) ∙ ap (λ (text : List ℕ). text ++ drop gives.end bytes) front,
    )

    trees : (tree_of target next ≡ gives.accepts.read.tree) × ([] ≡ drop gives.end bytes)
    trees = request_unique bytes (tree_of target next) gives.accepts.read.tree [] (drop gives.end bytes) its_head read_head

-- ---- its path and its route

unmarked : (bytes : List ℕ) → list_all (λ b. not (b == 63)) bytes ≡ true → All (λ byte. byte ≢ 63) bytes
unmarked [] none = All-nil (λ byte. byte ≢ 63)
unmarked (b ∷ bytes) none = by_test (b == 63) refl none (unmarked bytes)
  where
    by_test : (t : Bool) → (b == 63) ≡ t → not t && list_all (λ x. not (x == 63)) bytes ≡ true → (list_all (λ x. not (x == 63)) bytes ≡ true → All (λ byte. byte ≢ 63) bytes)
        → All (λ byte. byte ≢ 63) (b ∷ bytes)
    by_test true is rest later = absurd (cc)
    by_test false is rest later = All-cons (λ byte. byte ≢ 63) b bytes (eqb-false b 63 is) (later rest)

path_unmarked : (target : Target) → IsServersOwn target → All (λ byte. byte ≢ 63) (objects_path target)
path_unmarked target own =
    subst (All (λ byte. byte ≢ 63)) (sym (path_is target own))
    (All-append (λ byte. byte ≢ 63) (codes "/api/collections/" ++ uuid_text target.collection) (codes "/objects/")
    (All-append (λ byte. byte ≢ 63) (codes "/api/collections/") (uuid_text target.collection) (unmarked (codes "/api/collections/") refl)
    (All-weaker IsUuidByte (λ byte. byte ≢ 63) (λ b is. is.no_watermark) (uuid_text target.collection) (uuid_bytes target.collection)))
    (unmarked (codes "/objects/") refl))

pub own_target : (target : Target) (next : Option (List ℕ)) → IsServersOwn target → IsTargetOf (target_text target next) (objects_path target) (Some (query_for target.limit target.since next))
own_target target next own = record { unmarked = path_unmarked target own; spelling = refl }

pub own_path : (target : Target) → IsServersOwn target → IsRoutePath (objects_path target) (Objects (uuid_text target.collection))
own_path target own = (
  record {
    some = λ none. omega (arith, some_uuid target.collection, ap length none);
    bytes = All-weaker IsUuidByte (λ byte. byte ≢ 47) (λ b is. is.no_slash) (uuid_text target.collection) (uuid_bytes target.collection);
  },
  path_is target own ∙ sym (append_assoc (codes "/api/collections/" ++ uuid_text target.collection) (codes "/") (codes "objects/")),
)
