-- The object of a last time, where it was read in the objects of a bundle.
use Rattle.std.proofs.Common.{arith, ◌≡◌, List, Some, slice_get, slice_index_or, sym, subst, ◌∙◌}
use Rattle.std.proofs.lemmas.Option.{slice_get_within}
use Rattle.std.proofs.lemmas.List.{length-map}
use Rattle.stix_json.specs.declared.value.Json.{Json}
use Rattle.stix_json.specs.DataOf.{data_of}
use Rattle.stix_bundles.specs.declared.last_time.LastTime.{LastTime}
use Rattle.stix_bundles.specs.Objects.{data_in}
use Rattle.stix_bundles.specs.Observations.{IsObservedData}
use Rattle.stix_bundles.specs.inner.LastTimes.{IsLastTimeOf}
use Rattle.stix_bundles.proofs.ObjectsLemmas.{data_read}
use Rattle.stix_bundles.proofs.ObjectsLemmas.{same_some}

pub stands : (read all : List Json) → read ≡ all → (last_time : LastTime) → IsLastTimeOf (data_in all) last_time → (value : Json) → value ≡ slice_index_or read last_time.at value
    → slice_get (data_in all) last_time.at ≡ Some (data_of value)
stands read all same last_time is value at =
    let inside = slice_get_within (data_in all) last_time.at is.object is.there in
    let count = length-map all data_of in
    data_read all last_time.at value (omega arith) (subst (λ (values : List Json). value ≡ slice_index_or values last_time.at value) same at)

pub stands_observed : (read all : List Json) → read ≡ all → (last_time : LastTime) → IsLastTimeOf (data_in all) last_time → (value : Json) → value ≡ slice_index_or read last_time.at value
    → IsObservedData (data_of value)
stands_observed read all same last_time is value at =
    subst IsObservedData (same_some is.object (data_of value) (sym is.there ∙ stands read all same last_time is value at)) is.observed
