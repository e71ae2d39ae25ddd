use Rattle.pattern_writer.proofs.AddingLemmas.{two_added}
use Rattle.pattern_writer.proofs.CharactersLemmas.{escaped_more}
use Rattle.pattern_writer.proofs.words.write_characters.Goals as goal

pub loop-character-preserved : goal.loop-character-preserved
loop-character-preserved c = rw (escaped_more c.loop-character.yielded c.in-Some.character) (two_added _ _ _ _ _ c.loop-character.invariant c.in_ok-write_character.ensures)
