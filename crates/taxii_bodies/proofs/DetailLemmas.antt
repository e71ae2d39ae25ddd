-- The version that an object tells is a whole number of microseconds, and what holds of a text where there is one.
use Rattle.std.proofs.Common.{ℤ, Option, Some, None, Result, Ok, Err, IfOk}
use Rattle.std.specs.Prelude.{IfSome}
use Rattle.flow_values.specs.Answers.{FindsExactly}
use Rattle.serde_json.specs.Data.{Data}
use Rattle.stix_times.specs.Writing.{IsWhole}
use Rattle.taxii_rows.specs.Version.{IsVersionTime}
use Rattle.stix_times.proofs.WholeLemmas.{is_whole}
use Rattle.taxii_rows.proofs.VersionLemmas.{time_whole}

pub ok_then : {T E : Type 0} (answer : Result T E) (P Q : T → Type 0) → ((value : T) → P value → Q value) → IfOk answer P → IfOk answer Q
ok_then (Ok value) P Q then holds = then value holds
ok_then (Err error) P Q then holds = tt

pub whole_time : (whole : Data) (instant : ℤ) → IsVersionTime whole instant → IsWhole 1000 instant
whole_time whole instant time = let micros = time_whole whole instant time in is_whole micros.0 instant micros.1

pub whole_where_found : (whole : Data) (found : Option ℤ) → FindsExactly (IsVersionTime whole) found → IfSome found (IsWhole 1000)
whole_where_found whole (Some instant) is = whole_time whole instant is
whole_where_found whole None none = tt
