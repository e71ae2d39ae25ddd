use Rattle.std.proofs.Common.{arith, ◌≡◌, ◌+◌, ◌<◌, List, length, take, subst, sym}
use Rattle.std.proofs.lemmas.List.{length-map}
use Rattle.stix_json.specs.DataOf.{data_of}
use Rattle.stix_bundles.specs.Objects.{data_in}
use Rattle.stix_versions.specs.declared.version_break.VersionBreak.{VersionBreak}
use Rattle.stix_versions.specs.Versions.{AreVersionBreaksFrom}
use Rattle.stix_versions.proofs.VersionBreaksLemmas.{breaks_at, breaks_of_all}
use Rattle.stix_versions.proofs.versions.version_breaks.Goals as goal

pub loop-at-preserved : goal.loop-at-preserved
loop-at-preserved c =
    let objects = data_in c.args.bundle.now in
    let at = c.loop-at.at in
    let count = length-map c.args.bundle.now data_of in
    let inside : at < length objects = omega arith in
    let told = c.in_ok-add_breaks.ensures.told in
    record {
      kept = c.in_ok-add_breaks.ensures.kept;
      told = subst (λ (found : List VersionBreak). AreVersionBreaksFrom objects 0 (take (at + 1) objects) found) (sym told.2)
          (breaks_at objects at c.loop-at.found told.0 inside c.loop-at.invariant.told told.1);
    }

pub returns : goal.returns
returns c =
    let objects = data_in c.args.bundle.now in
    let count = length-map c.args.bundle.now data_of in
    let end : c.loop-at.at ≡ length objects = omega arith in
    breaks_of_all objects c.loop-at.at c.loop-at.found end c.loop-at.invariant.told
