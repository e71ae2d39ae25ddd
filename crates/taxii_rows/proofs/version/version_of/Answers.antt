use Rattle.std.proofs.Common.{rules}
use Rattle.std.proofs.lemmas.Bool.{false≢true}
use Rattle.std.proofs.lemmas.Int.{to_z-of_z}
use mir.Syntax.{w64}
use mir.Val.{SFits}
use Rattle.stix_json.specs.DataOf.{data_of}
use Rattle.stix_times.proofs.WholeLemmas.{is_whole}
use Rattle.taxii_rows.proofs.VersionLemmas.{time_whole, no_version, version_at}
use Rattle.taxii_rows.proofs.version.version_of.Goals as goal

pub returns-in_err-time : goal.returns-in_err-time
returns-in_err-time c = rw c.from_residual.ensures (no_version c.args.set (data_of c.args.object.now) c.in_err-time.ensures)

pub micros-requires : goal.micros-requires
micros-requires c =
    let whole = time_whole (data_of c.args.object.now) c.in_ok-time.time c.in_ok-time.ensures in is_whole whole.0 c.in_ok-time.time whole.1

pub returns : goal.returns
returns c =
    let fits : SFits w64 c.micros.result = search rules in
    rw (to_z-of_z w64 c.micros.result fits) (version_at c.args.set (data_of c.args.object.now) c.micros.result c.in_ok-time.time c.micros.ensures
    (λ is. false≢true (c.if-has_type_of.ensures.1 is)) c.in_ok-time.ensures)
