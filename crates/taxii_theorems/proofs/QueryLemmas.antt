-- The query that a client writes: its pairs, and what they ask for.
use Rattle.std.proofs.Common.{◌≡◌, ℕ, ◌+◌, ◌/◌, ◌<◌, ◌≤◌, ◌^◌, ◌==◌, ◌⊎◌, Bool, cond, List, [], ◌∷◌, ◌++◌, All, length, map, codes, decimal, get_or, Option, Some, None, inl, inr, refl, sym, ap, subst, ◌∙◌, append_assoc, append-nil, length-append, arith}
use Rattle.std.specs.Prelude.{⊤, IsSomeAnd, IfSome, unwrap_or}
use Rattle.std.specs.List.{AllZip, Contains}
use Rattle.std.specs.Str.Lossy.{utf8_lossy}
use Rattle.std.specs.Str.Parse.{AllDigits}
use Rattle.std.proofs.lemmas.Bool.{cond-true, lt-ltb}
use Rattle.std.proofs.lemmas.Bool.Decides.{nat_tests}
use Rattle.std.proofs.lemmas.Fmt.{decimal_is_IsNumeral}
use Rattle.std.proofs.lemmas.List.Elements.{All-nil, All-cons, All-head, All-tail, All-weaker}
use Rattle.std.proofs.lemmas.Str.{utf8_lossy-IsUtf8}
use Rattle.std.proofs.lemmas.Str.Parse.{digit_from_value}
use Rattle.form_urlencoded.specs.Form.{raw_pairs, decode, parse, IsUnchanged, byte_serialize, serialize_pair, separator, append_pair, extend_pairs}
use Rattle.form_urlencoded.proofs.FormLemmas.{byte_serialize-nil, byte_serialize-cons, IsSerializedByte, All-byte_serialize, IsBytePair, round_trip}
use Rattle.form_urlencoded.proofs.OnLiterals.{form_urlencoded_on_literals}
use Rattle.percent_encoding.specs.Percent.{percent_encode_byte}
use Rattle.percent_encoding.proofs.PercentLemmas.{IsByte}
use Rattle.stix_ids.specs.declared.pick.Pick.{Pick}
use Rattle.stix_ids.specs.declared.pick.Pick.TheVariants as pick
use Rattle.stix_times.specs.Timestamp.{Timestamp, text_of}
use Rattle.taxii_routes.specs.declared.param.Param.TheVariants.{AddedAfter, Limit, Next, MatchId, MatchType, MatchVersion, MatchSpec}
use Rattle.taxii_routes.specs.declared.query.Query.{Query}
use Rattle.taxii_routes.specs.Param.{param_name}
use Rattle.taxii_routes.specs.Query.{Pair, pairs_of, parameter_values, IsQueryOf}
use Rattle.taxii_routes.specs.Query as query
use Rattle.taxii_routes.specs.Value.{IsLimit, IsPickText, value_members}
use Rattle.taxii_store.specs.Walk.{AsksAlike}
use Rattle.taxii_client.specs.Requests.{behind, since_pair, next_pair}
use Rattle.taxii_theorems.specs.Following.{sent}
use Rattle.taxii_theorems.specs.Asking.{IsVisibleToken, IsInstantOf, query_after}
use Rattle.taxii_theorems.proofs.BytesLemmas.{AreFrom, seen, from_all, from_both, all_low, are_text, are_digits}

-- ---- the pairs

abbrev since_pairs : Option (List ℕ) → List Pair
since_pairs None = []
since_pairs (Some time) = (codes "added_after", time) ∷ []

abbrev next_pairs : Option (List ℕ) → List Pair
next_pairs None = []
next_pairs (Some next) = (codes "next", next) ∷ []

abbrev pairs_behind : Option (List ℕ) → Option (List ℕ) → List Pair
pairs_behind since next = since_pairs since ++ next_pairs next

abbrev pub pairs_for : ℕ → Option (List ℕ) → Option (List ℕ) → List Pair
pairs_for limit since next = (codes "limit", decimal limit) ∷ (codes "match[version]", codes "all") ∷ pairs_behind since next

-- the query without its question watermark
abbrev pub query_for : ℕ → Option (List ℕ) → Option (List ℕ) → List ℕ
query_for limit since next = codes "limit=" ++ decimal limit ++ codes "&match%5Bversion%5D=all" ++ behind since next

unchanged_digit : (b : ℕ) → 48 ≤ b → b ≤ 57 → IsUnchanged b
unchanged_digit b low high = grind (arith, nat_tests)

digits_kept : (bytes : List ℕ) → AllDigits 10 bytes → byte_serialize bytes ≡ bytes
digits_kept [] are = byte_serialize-nil
digits_kept (b ∷ bytes) (digit, are) =
    let range = digit_from_value b digit in
    byte_serialize-cons b bytes
    ∙ ap (λ (t : Bool). (cond t (b ∷ []) (cond (b == 32) (43 ∷ []) (percent_encode_byte b))) ++ byte_serialize bytes)
    (unchanged_digit b range.0 range.1)
    ∙ ap (λ (rest : List ℕ). b ∷ rest) (digits_kept bytes are)

-- after what is there already stands an `&`
joined : (form : List ℕ) → 0 < length form → separator form ≡ 38 ∷ []
joined form some = cond-true _ _ _ (lt-ltb 0 _ some)

one_more : (form name value pair : List ℕ) → 0 < length form → serialize_pair (name, value) ≡ pair → append_pair form name value ≡ form ++ (38 ∷ pair)
one_more form name value pair some is =
    ap (λ (sep : List ℕ). form ++ sep ++ serialize_pair (name, value)) (joined form some)
    ∙ append_assoc form (38 ∷ []) (serialize_pair (name, value))
    ∙ ap (λ (its : List ℕ). form ++ (38 ∷ its)) is

version_pair : serialize_pair (codes "match[version]", codes "all") ≡ codes "match%5Bversion%5D=all"
unfolding form_urlencoded_on_literals
version_pair = refl

next_pair_is : (next : List ℕ) → serialize_pair (codes "next", next) ≡ codes "next=" ++ byte_serialize next
unfolding form_urlencoded_on_literals
next_pair_is next = refl

since_pair_is : (time : List ℕ) → serialize_pair (codes "added_after", time) ≡ codes "added_after=" ++ byte_serialize time
unfolding form_urlencoded_on_literals
since_pair_is time = refl

first_pair : (limit : ℕ) → extend_pairs [] ((codes "limit", decimal limit) ∷ []) ≡ codes "limit=" ++ byte_serialize (decimal limit)
unfolding form_urlencoded_on_literals
first_pair limit = refl

abbrev front_for : ℕ → List ℕ
front_for limit = codes "limit=" ++ decimal limit

some_front : (limit : ℕ) → 0 < length (front_for limit)
some_front limit = omega (arith, length-append (codes "limit=") (decimal limit))

first_is : (limit : ℕ) → limit < 2 ^ 64 → extend_pairs [] ((codes "limit", decimal limit) ∷ []) ≡ front_for limit
first_is limit few = first_pair limit ∙ ap (λ (text : List ℕ). codes "limit=" ++ text) (digits_kept (decimal limit) (decimal_is_IsNumeral limit few).0.1)

both_are : (limit : ℕ) → limit < 2 ^ 64
    → append_pair (extend_pairs [] ((codes "limit", decimal limit) ∷ [])) (codes "match[version]") (codes "all") ≡ front_for limit ++ codes "&match%5Bversion%5D=all"
both_are limit few =
    ap (λ (form : List ℕ). append_pair form (codes "match[version]") (codes "all")) (first_is limit few)
    ∙ one_more (front_for limit) (codes "match[version]") (codes "all") (codes "match%5Bversion%5D=all") (some_front limit) version_pair

-- after those two stands one more pair
one_behind : (limit : ℕ) (name value pair : List ℕ) → limit < 2 ^ 64 → serialize_pair (name, value) ≡ pair
    → (front_for limit ++ codes "&match%5Bversion%5D=all") ++ (38 ∷ pair)
    ≡ append_pair (append_pair (extend_pairs [] ((codes "limit", decimal limit) ∷ [])) (codes "match[version]") (codes "all")) name value
one_behind limit name value pair few is =
    let front = front_for limit ++ codes "&match%5Bversion%5D=all" in
    sym (ap (λ (form : List ℕ). append_pair form name value) (both_are limit few)
    ∙ one_more front name value pair (omega (arith, length-append (front_for limit) (codes "&match%5Bversion%5D=all"))) is)

serialized : (limit : ℕ) (since next : Option (List ℕ)) → limit < 2 ^ 64 → query_for limit since next ≡ extend_pairs [] (pairs_for limit since next)
serialized limit None None few = append-nil (front_for limit ++ codes "&match%5Bversion%5D=all") ∙ sym (both_are limit few)
serialized limit (Some time) None few =
    ap (λ (its : List ℕ). (front_for limit ++ codes "&match%5Bversion%5D=all") ++ its) (append-nil (codes "&added_after=" ++ byte_serialize time))
    ∙ one_behind limit (codes "added_after") time (codes "added_after=" ++ byte_serialize time) few (since_pair_is time)
serialized limit None (Some next) few = one_behind limit (codes "next") next (codes "next=" ++ byte_serialize next) few (next_pair_is next)
serialized limit (Some time) (Some next) few =
    let front = (front_for limit ++ codes "&match%5Bversion%5D=all") ++ (codes "&added_after=" ++ byte_serialize time) in
    let both = append_pair (append_pair (extend_pairs [] ((codes "limit", decimal limit) ∷ [])) (codes "match[version]") (codes "all")) (codes "added_after") time in
    let first : front ≡ both = one_behind limit (codes "added_after") time (codes "added_after=" ++ byte_serialize time) few (since_pair_is time) in
    let some : 0 < length front =
    omega (arith, length-append (front_for limit ++ codes "&match%5Bversion%5D=all") (codes "&added_after=" ++ byte_serialize time), length-append (codes "&added_after=") (byte_serialize time)) in
    sym (append_assoc (front_for limit ++ codes "&match%5Bversion%5D=all") (codes "&added_after=" ++ byte_serialize time) (codes "&next=" ++ byte_serialize next))
    ∙ sym (one_more front (codes "next") next (codes "next=" ++ byte_serialize next) some (next_pair_is next))
    ∙ ap (λ (form : List ℕ). append_pair form (codes "next") next) first

-- ---- they are read back

are_ascii : (least : ℕ) (bytes : List ℕ) → AreFrom least bytes → All IsByte bytes
are_ascii least bytes are = All-weaker (λ b. b < 128) IsByte (λ b low. omega (arith, low)) bytes (all_low least bytes are)

limit_name : AreFrom 33 (codes "limit")
limit_name = seen 33 (codes "limit") refl

all_value : AreFrom 33 (codes "all")
all_value = seen 33 (codes "all") refl

next_name : AreFrom 33 (codes "next")
next_name = seen 33 (codes "next") refl

since_name : AreFrom 33 (codes "added_after")
since_name = seen 33 (codes "added_after") refl

version_name : AreFrom 33 (codes "match[version]")
version_name = seen 33 (codes "match[version]") refl

-- both texts of a pair are visible
abbrev IsSeen : Pair → Type 0
IsSeen pair = AreFrom 33 pair.0 × AreFrom 33 pair.1

abbrev AreSeen : List Pair → Type 0
AreSeen [] = ⊤
AreSeen (pair ∷ pairs) = IsSeen pair × AreSeen pairs

-- a time of visible bytes, where there is one
abbrev pub IsSeenTime : Option (List ℕ) → Type 0
IsSeenTime since = IfSome since (λ time. All (λ byte. (33 ≤ byte) × (byte < 127)) time)

behind_are : (since next : Option (List ℕ)) → IsSeenTime since → IsVisibleToken next → AreSeen (pairs_behind since next)
behind_are None None visible told = tt
behind_are (Some time) None visible told = ((since_name, from_all time visible), tt)
behind_are None (Some next) visible told = ((next_name, from_all next told), tt)
behind_are (Some time) (Some next) visible told = ((since_name, from_all time visible), ((next_name, from_all next told), tt))

pairs_seen : (limit : ℕ) (since next : Option (List ℕ)) → limit < 2 ^ 64 → IsSeenTime since → IsVisibleToken next → AreSeen (pairs_for limit since next)
pairs_seen limit since next few visible told =
    ((limit_name, are_digits (decimal limit) (decimal_is_IsNumeral limit few).0.1), ((version_name, all_value), behind_are since next visible told))

all_bytes : (pairs : List Pair) → AreSeen pairs → All IsBytePair pairs
all_bytes [] are = All-nil IsBytePair
all_bytes (pair ∷ pairs) ((name, value), are) = All-cons IsBytePair pair pairs (are_ascii 33 pair.0 name, are_ascii 33 pair.1 value) (all_bytes pairs are)

abbrev lossy_pair : Pair → Pair
lossy_pair pair = (utf8_lossy pair.0, utf8_lossy pair.1)

abbrev decoded_pair : Pair → Pair
decoded_pair pair = (decode pair.0, decode pair.1)

abbrev text_pair : Pair → Pair
text_pair pair = (query.decoded_text pair.0, query.decoded_text pair.1)

abbrev paired : List ℕ → List ℕ → Pair
paired a b = (a, b)

same_pair : (a b c d : List ℕ) → a ≡ b → c ≡ d → paired a c ≡ paired b d
same_pair a b c d first second = ap (λ (x : List ℕ). paired x c) first ∙ ap (λ (x : List ℕ). paired b x) second

lossy_same : (pairs : List Pair) → AreSeen pairs → map lossy_pair pairs ≡ pairs
lossy_same [] are = refl
lossy_same (pair ∷ pairs) ((name, value), are) =
    ap (λ (its : Pair). its ∷ map lossy_pair pairs)
    (same_pair (utf8_lossy pair.0) pair.0 (utf8_lossy pair.1) pair.1 (utf8_lossy-IsUtf8 pair.0 (are_text 33 pair.0 name)) (utf8_lossy-IsUtf8 pair.1 (are_text 33 pair.1 value)))
    ∙ ap (λ (rest : List Pair). pair ∷ rest) (lossy_same pairs are)

texts_of : (raw : List Pair) → map text_pair raw ≡ map lossy_pair (map decoded_pair raw)
texts_of [] = refl
texts_of (pair ∷ raw) = ap (λ (rest : List Pair). text_pair pair ∷ rest) (texts_of raw)

pub pairs_are : (limit : ℕ) (since next : Option (List ℕ)) → limit < 2 ^ 64 → IsSeenTime since → IsVisibleToken next → pairs_of (query_for limit since next) ≡ pairs_for limit since next
pairs_are limit since next few visible told =
    let are = pairs_seen limit since next few visible told in
    texts_of (raw_pairs (query_for limit since next))
    ∙ ap (map lossy_pair)
    (ap parse (serialized limit since next few) ∙ round_trip (pairs_for limit since next) (all_bytes (pairs_for limit since next) are))
    ∙ lossy_same (pairs_for limit since next) are

-- ---- what they ask for

pub next_values : (limit : ℕ) (since next : Option (List ℕ)) → parameter_values (param_name Next) (pairs_for limit since next) ≡ sent next
next_values limit None None = refl
next_values limit (Some time) None = refl
next_values limit None (Some next) = refl
next_values limit (Some time) (Some next) = refl

pub instant_is : (limit : ℕ) (since next : Option (List ℕ)) (parsed : Query) → IsQueryOf (pairs_for limit since next) parsed → IsInstantOf since parsed.added_after
instant_is limit None None parsed is = is AddedAfter
instant_is limit (Some time) None parsed is = is AddedAfter
instant_is limit None (Some next) parsed is = is AddedAfter
instant_is limit (Some time) (Some next) parsed is = is AddedAfter

-- `all` is no time
no_time : (t : Timestamp) → t.year < 10000 → codes "all" ≡ text_of t → ⊥
unfolding text_of
no_time t few same = let first : 97 ≡ 48 + t.year / 100 / 10 = ap (λ (text : List ℕ). get_or text 0 0) same in omega (arith, first, few)

one_pick : (p : Pick) → IsPickText (codes "all") p → p ≡ pick.All
one_pick pick.Last is = absurd (let letter : 97 ≡ 108 = ap (λ (text : List ℕ). get_or text 0 0) is in omega (arith, letter))
one_pick pick.First is = absurd (let letter : 97 ≡ 102 = ap (λ (text : List ℕ). get_or text 0 0) is in omega (arith, letter))
one_pick pick.All is = refl
one_pick (pick.At micros) (t, spells, exact) = absurd (no_time t spells.shaped.year spells.spelling)

all_picked : (picks : Option (List Pick)) → IsSomeAnd picks (λ its. AllZip IsPickText (value_members (codes "all")) its)
    → Contains (unwrap_or picks (pick.Last ∷ [])) pick.All
all_picked None none = absurd none
all_picked (Some []) none = absurd none
all_picked (Some (p ∷ [])) (is, rest) = subst (λ (its : Pick). Contains (its ∷ []) pick.All) (sym (one_pick p is)) (0, omega arith, refl)
all_picked (Some (p ∷ q ∷ picks)) (is, rest) = absurd rest

some_limit : (text : List ℕ) (limit : Option ℕ) → IsSomeAnd limit (λ its. IsLimit text its) → IfSome limit (λ its. 0 < its)
some_limit text None none = absurd none
some_limit text (Some its) is = is.some

alike_by : (limit : ℕ) (parsed : Query) → IsSomeAnd parsed.picks (λ its. AllZip IsPickText (value_members (codes "all")) its) → parsed.ids ≡ None → parsed.kinds ≡ None → parsed.specs ≡ None
    → IsSomeAnd parsed.limit (λ its. IsLimit (decimal limit) its) → AsksAlike (query_after parsed.added_after) parsed
alike_by limit parsed picks ids kinds specs few = record {
  all = all_picked parsed.picks picks;
  added_after = refl;
  ids = ids;
  kinds = kinds;
  specs = specs;
  limit = some_limit (decimal limit) parsed.limit few;
}

pub asks_alike : (limit : ℕ) (since next : Option (List ℕ)) (parsed : Query) → IsQueryOf (pairs_for limit since next) parsed → AsksAlike (query_after parsed.added_after) parsed
asks_alike limit None None parsed is = alike_by limit parsed (is MatchVersion) (is MatchId) (is MatchType) (is MatchSpec) (is Limit)
asks_alike limit (Some time) None parsed is = alike_by limit parsed (is MatchVersion) (is MatchId) (is MatchType) (is MatchSpec) (is Limit)
asks_alike limit None (Some next) parsed is = alike_by limit parsed (is MatchVersion) (is MatchId) (is MatchType) (is MatchSpec) (is Limit)
asks_alike limit (Some time) (Some next) parsed is = alike_by limit parsed (is MatchVersion) (is MatchId) (is MatchType) (is MatchSpec) (is Limit)

-- ---- its bytes are visible

serialized_seen : (bytes : List ℕ) → All IsSerializedByte bytes → AreFrom 33 bytes
serialized_seen [] are = tt
serialized_seen (b ∷ bytes) are =
    let first = seen b (All-head IsSerializedByte b bytes are) in
    (first.0, first.1, serialized_seen bytes (All-tail IsSerializedByte b bytes are))
  where
    unchanged : (b : ℕ) → IsUnchanged b → (33 ≤ b) × (b < 127)
    unchanged b kept = (grind (arith, nat_tests), grind (arith, nat_tests))

    seen : (b : ℕ) → IsSerializedByte b → (33 ≤ b) × (b < 127)
    seen b its = either its.allowed
      where
        either : IsUnchanged b ⊎ ((b ≡ 43) ⊎ (b ≡ 37)) → (33 ≤ b) × (b < 127)
        either (inl kept) = unchanged b kept
        either (inr (inl plus)) = (omega (arith, plus), omega (arith, plus))
        either (inr (inr percent)) = (omega (arith, percent), omega (arith, percent))

since_seen : (since : Option (List ℕ)) → AreFrom 33 (since_pair since)
since_seen None = tt
since_seen (Some time) = from_both 33 (codes "&added_after=") (byte_serialize time) (seen 33 (codes "&added_after=") refl) (serialized_seen (byte_serialize time) (All-byte_serialize time))

next_is_seen : (next : Option (List ℕ)) → AreFrom 33 (next_pair next)
next_is_seen None = tt
next_is_seen (Some next) = from_both 33 (codes "&next=") (byte_serialize next) (seen 33 (codes "&next=") refl) (serialized_seen (byte_serialize next) (All-byte_serialize next))

pub behind_seen : (since next : Option (List ℕ)) → AreFrom 33 (behind since next)
behind_seen since next = from_both 33 (since_pair since) (next_pair next) (since_seen since) (next_is_seen next)
