use Rattle.std.specs.Prelude.{slice_index_or}
use Rattle.hunt_report.proofs.HuntableLemmas.{kind_of_skipped}
use Rattle.hunt_report.proofs.hit_laws.skipped_have_lines.Goals as goal

pub returns : goal.returns
returns c objects moment hunt unbroken is = λ k x inside.
    kind_of_skipped c.no_breaks.ensures.named c.one_id.ensures objects moment (slice_index_or hunt.skipped k x) unbroken (is.skipped k x inside)
