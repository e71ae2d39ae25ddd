use Rattle.std.proofs.Common.{◌≡◌, ◌++◌}
use Rattle.std.specs.Prelude.{encode_utf8}
use Rattle.match_comparisons.proofs.CharactersLemmas.{chars-last, chars-empty}
use Rattle.match_comparisons.proofs.characters.split_last.Goals as goal

pub returns-in_err-last : goal.returns-in_err-last
returns-in_err-last c = rw c.from_residual.ensures (chars-empty c.args.text.now (cc (c.in_err-last.ensures.steps.0, c.chars-characters.ensures.rest)))

pub returns : goal.returns
returns c =
    let split : c.args.text.now ≡ c.as_str.result.now ++ encode_utf8 c.in_ok-last.last = cc (c.in_ok-last.ensures.steps) in
    chars-last c.args.text.now c.as_str.result.now c.in_ok-last.last c.utf8.text c.as_str.utf8 split
