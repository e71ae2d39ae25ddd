-- Queries (TAXII 2.1, section 3.4), encoded as `application/x-www-form-urlencoded` (URL Standard,
-- section 5): a list of pairs of a name and a value. Each parameter occurs at most once, and pairs
-- with other names are ignored.
use Rattle.std.specs.Prelude.{◌≡◌, ◌≢◌, ℕ, List, [], ◌∷◌, ◌++◌, map, filter, bytes_eq, Option, None, IsSomeAnd}
use Rattle.std.specs.Str.Lossy.{utf8_lossy}
use Rattle.form_urlencoded.specs.Form.{raw_pairs, decode}
use Rattle.taxii_routes.specs.declared.param.Param.{Param}
use Rattle.taxii_routes.specs.declared.param.Param.TheVariants.{AddedAfter, Limit, Next, MatchId, MatchType, MatchVersion, MatchSpec}
use Rattle.taxii_routes.specs.declared.query.Query.{Query}
use Rattle.taxii_routes.specs.declared.refusal.QueryRefusal.{QueryRefusal}
use Rattle.taxii_routes.specs.declared.refusal.QueryRefusal.TheVariants.{BadValue, Repeated, NoMemory}
use Rattle.taxii_routes.specs.Param.{param_name}
use Rattle.taxii_routes.specs.Value.{Meaning, IsParameterValue, HasMeaning}

-- a name and a value
abbrev pub Pair : Type 0
Pair = List ℕ × List ℕ

-- the text that an encoded one represents
abbrev pub decoded_text : List ℕ → List ℕ
decoded_text encoded = utf8_lossy (decode encoded)

-- the pairs of a query, in order
abbrev pub pairs_of : List ℕ → List Pair
pairs_of query = map (λ pair. (decoded_text pair.0, decoded_text pair.1)) (raw_pairs query)

-- the values of the pairs of a name
abbrev pub parameter_values : List ℕ → List Pair → List (List ℕ)
parameter_values name pairs = map (λ pair. pair.1) (filter (λ pair. bytes_eq pair.0 name) pairs)

-- what a query asks for by a parameter
abbrev pub asked : (param : Param) → Query → Option (Meaning param)
asked AddedAfter query = query.added_after
asked Limit query = query.limit
asked Next query = query.next
asked MatchId query = query.ids
asked MatchType query = query.kinds
asked MatchVersion query = query.picks
asked MatchSpec query = query.specs

-- these values of a parameter ask for that: nothing if there is none, else what the one means
abbrev pub AskFor : (param : Param) → List (List ℕ) → Option (Meaning param) → Type 0
AskFor param [] slot = slot ≡ None
AskFor param (value ∷ []) slot = IsSomeAnd slot (λ meaning. IsParameterValue param value meaning)
AskFor param (value ∷ other ∷ values) slot = ⊥

-- the pairs ask for the query
abbrev pub IsQueryOf : List Pair → Query → Type 0
IsQueryOf pairs query = (param : Param) → AskFor param (parameter_values (param_name param) pairs) (asked param query)

-- what is wrong with a pair after others: its parameter stood there before, or its value has no
-- meaning
abbrev pub IsBadPairAfter : List Pair → Pair → QueryRefusal → Type 0
IsBadPairAfter before pair (Repeated param) = (pair.0 ≡ param_name param) × (parameter_values pair.0 before ≢ [])
IsBadPairAfter before pair (BadValue param) = (pair.0 ≡ param_name param) × (parameter_values pair.0 before ≡ []) × (¬ HasMeaning param pair.1)
IsBadPairAfter before pair NoMemory = ⊥

-- the first bad pair: those before it are a query
pub record IsRefusedQuery (pairs : List Pair) (refusal : QueryRefusal) : Type 0 where
  pub before : List Pair
  pub pair : Pair
  pub after : List Pair
  pub spelling : pairs ≡ before ++ pair ∷ after
  pub fine : (query : Query) × IsQueryOf before query
  pub bad : IsBadPairAfter before pair refusal
