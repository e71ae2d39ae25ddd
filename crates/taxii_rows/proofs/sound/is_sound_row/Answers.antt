use Rattle.taxii_rows.proofs.SoundLemmas.{sound_answer}
use Rattle.taxii_rows.proofs.sound.is_sound_row.Goals as goal

pub returns-in-Some : goal.returns-in-Some
returns-in-Some c =
    let reads = rw c.in-Some.is at c.in_ok-object.ensures in
    sound_answer c.args.row.now c.in-Some.object reads c.is_row_of.result c.is_row_of.ensures
