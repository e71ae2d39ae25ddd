use Rattle.std.proofs.Common.{◌∙◌}
use Rattle.clap.specs.Matches.{found_of}
use Rattle.command_line.proofs.FoundLemmas.{one_text_row}
use Rattle.command_line.proofs.read.is_given.Goals as goal

pub returns : goal.returns
returns c =
    let same = one_text_row (found_of c.args.values.now) c.args.name.now in
    (λ given. c.get_flag.ensures.value (same ∙ given), λ absent. c.get_flag.ensures.other (same ∙ absent))
