use Rattle.std.proofs.Common.{arith, ℤ, List, ℕ, [], sym, subst}
use Rattle.std.specs.Prelude.{min}
use Rattle.serde_json.specs.Data.{Data}
use Rattle.stix_objects.specs.Breaks.{AreBreaksOf}
use Rattle.hunt_report.specs.declared.seen.TheConstants.{MAX_COUNT}
use Rattle.hunt_report.specs.Sightings.{IsVersionInstantText, version_digits}
use Rattle.hunt_report.proofs.AnswerLemmas.{ok_follows}
use Rattle.hunt_report.proofs.SightingLemmas.{few_digits, many_digits, breaks_none}
use Rattle.hunt_report.proofs.object.sighting.Goals as goal

pub returns-clause-unbroken : goal.returns-clause-unbroken
returns-clause-unbroken c =
    let seen = c.args.seen.now in
    let times = c.written_reads_back-2.ensures in
    let read = c.written_reads_back.ensures in
    let Millis = λ (text : List ℕ) (instant : ℤ) (is : IsVersionInstantText instant text).
    times.millis (version_digits instant) instant text (many_digits instant) (few_digits instant) is in
    ok_follows c.object_of.result
    (λ json is. subst (λ (d : Data). AreBreaksOf d []) (sym is.is)
    (breaks_none c.one_instant.ensures (min seen.count MAX_COUNT) (omega arith) is.created is.first is.id is.last is.modified is.of seen.created is.instant seen.first seen.last
    seen.indicator.now.number seen.indicator.now (Millis is.created seen.created is.created_is) (Millis is.modified is.instant is.modified_is) is.modified_at.after_created
    (times.shortest seen.first is.first is.first_is) (times.shortest seen.last is.last is.last_is) c.requires.in_order (read _ is.id is.id_is) (read _ is.of is.of_is)))
    c.object_of.ensures
