-- The names of the parameters of a query, as TAXII 2.1, section 3.4, has them.
use Rattle.std.specs.Prelude.{ℕ, List, codes}
use Rattle.taxii_routes.specs.declared.param.Param.{Param}
use Rattle.taxii_routes.specs.declared.param.Param.TheVariants.{AddedAfter, Limit, Next, MatchId, MatchType, MatchVersion, MatchSpec}

-- the name of a parameter
abbrev pub param_name : Param → List ℕ
param_name AddedAfter = codes "added_after"
param_name Limit = codes "limit"
param_name Next = codes "next"
param_name MatchId = codes "match[id]"
param_name MatchType = codes "match[type]"
param_name MatchVersion = codes "match[version]"
param_name MatchSpec = codes "match[spec_version]"
