use Rattle.std.specs.Prelude.{slice_index_or}
use Rattle.hunt_report.proofs.HuntableLemmas.{huntable}
use Rattle.hunt_report.proofs.hit_laws.hunted_are_huntable.Goals as goal

pub returns : goal.returns
returns c objects moment hunt unbroken is = λ k x inside.
    huntable c.no_breaks.ensures.named c.one_id.ensures c.millis_are_whole.ensures c.leaves_are_brackets.ensures objects moment
    (slice_index_or hunt.hunted k x) unbroken (is.hunted k x inside)
