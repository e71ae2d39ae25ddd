use Rattle.pattern_writer.proofs.CharactersLemmas.{other_character}
use Rattle.pattern_writer.proofs.words.write_character.Goals as goal

pub returns : goal.returns
returns c =
    let e = other_character c.args.character c.if-character-eq39.false c.if-character-eq92.false in
    rw (e, ← c.encode_utf8.ensures.value) c.push-2.ensures.ok
