use Rattle.std.proofs.Common.{◌∙◌, rules}
use Rattle.std.proofs.lemmas.Bool.{false≢true}
use Rattle.std.proofs.lemmas.Int.{to_z-of_z}
use mir.Syntax.{w64, w128}
use mir.Val.{SFits}
use Rattle.stix_json.specs.DataOf.{data_of}
use Rattle.taxii_rows.proofs.SoundLemmas.{dated_fits, undated_fits, undated_never_fits}
use Rattle.taxii_rows.proofs.sound.fits_under.Goals as goal

pub returns-in-Some-true : goal.returns-in-Some-true
returns-in-Some-true c =
    let own : SFits w64 c.args.row.now.version = search rules in
    let observable : SFits w64 c.in-Some-true.version = search rules in
    dated_fits c.one_version.ensures.only c.args.set c.args.row.now (data_of c.args.object.now) c.in-Some-true.version c.in-Some-true.is-1 c.in-Some-true.ensures own observable

pub returns-in-None-false : goal.returns-in-None-false
returns-in-None-false c =
    let whole : SFits w64 c.args.row.now.version = search rules in
    let own : SFits w128 c.from.result = search rules in
    let date : SFits w128 c.from-in-None-false.result = search rules in
    undated_fits c.args.set c.args.row.now (data_of c.args.object.now) c.from.result c.from-in-None-false.result c.in-None-false.is-1
    (rw c.in-None-false.is-0 at c.version_of.ensures) (c.from.ensures ∙ to_z-of_z w64 c.args.row.now.version whole) c.from-in-None-false.ensures own date

pub returns-in-Some-false : goal.returns-in-Some-false
returns-in-Some-false c = (
  λ yes. absurd (false≢true yes),
  λ fits. absurd (undated_never_fits c.args.set c.args.row.now (data_of c.args.object.now) _ c.in-Some-false.is-1 c.in-Some-false.ensures fits),
)
