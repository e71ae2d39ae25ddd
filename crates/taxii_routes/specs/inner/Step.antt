-- What one pair does to a query.
use Rattle.std.specs.Prelude.{◌≡◌, ◌≢◌, ◌⊎◌, ⊤, ℕ, List, Option, Some, None}
use Rattle.taxii_routes.specs.declared.param.Param.{Param}
use Rattle.taxii_routes.specs.declared.param.Param.TheVariants.{AddedAfter, Limit, Next, MatchId, MatchType, MatchVersion, MatchSpec}
use Rattle.taxii_routes.specs.declared.query.Query.{Query}
use Rattle.taxii_routes.specs.declared.refusal.QueryRefusal.{QueryRefusal}
use Rattle.taxii_routes.specs.declared.refusal.QueryRefusal.TheVariants.{BadValue, Repeated, NoMemory}
use Rattle.taxii_routes.specs.Value.{Meaning, IsParameterValue, HasMeaning}
use Rattle.taxii_routes.specs.Param.{param_name}
use Rattle.taxii_routes.specs.Query.{decoded_text, asked}

-- the query that asks for this by the parameter, and for the rest as before
abbrev pub with_parameter : (param : Param) → Option (Meaning param) → Query → Query
with_parameter AddedAfter slot query = record query { added_after = slot }
with_parameter Limit slot query = record query { limit = slot }
with_parameter Next slot query = record query { next = slot }
with_parameter MatchId slot query = record query { ids = slot }
with_parameter MatchType slot query = record query { kinds = slot }
with_parameter MatchVersion slot query = record query { picks = slot }
with_parameter MatchSpec slot query = record query { specs = slot }

-- a parameter for which the query asked nothing is set to what the value means
pub record AddsParameter (param : Param) (value : List ℕ) (old new : Query) : Type 0 where
  pub before : asked param old ≡ None
  pub meaning : Meaning param
  pub means : IsParameterValue param value meaning
  pub change : new ≡ with_parameter param (Some meaning) old

-- why a value cannot be added
abbrev pub CannotAddParameter : Param → List ℕ → Query → QueryRefusal → Type 0
CannotAddParameter param value old (Repeated name) = (name ≡ param) × (asked param old ≢ None)
CannotAddParameter param value old (BadValue name) = (name ≡ param) × (asked param old ≡ None) × (¬ HasMeaning param value)
CannotAddParameter param value old NoMemory = ⊤

-- what an encoded pair does: it adds what it asks for, and nothing where no parameter has its name
abbrev pub Steps : List ℕ → List ℕ → Query → Query → Type 0
Steps name value old new =
    ((param : Param) × (decoded_text name ≡ param_name param) × AddsParameter param (decoded_text value) old new)
    ⊎ (((param : Param) → decoded_text name ≢ param_name param) × (new ≡ old))

-- why it cannot
abbrev pub Stops : List ℕ → List ℕ → Query → QueryRefusal → Type 0
Stops name value old refusal =
    (refusal ≡ NoMemory) ⊎ ((param : Param) × (decoded_text name ≡ param_name param) × CannotAddParameter param (decoded_text value) old refusal)
