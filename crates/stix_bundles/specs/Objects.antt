-- The objects of a bundle as values of the data model.
use Rattle.std.specs.Prelude.{List, map}
use Rattle.serde_json.specs.Data.{Data}
use Rattle.stix_json.specs.declared.value.Json.{Json}
use Rattle.stix_json.specs.DataOf.{data_of}

-- the values of a list of Json
abbrev pub data_in : List Json → List Data
data_in values = map data_of values
