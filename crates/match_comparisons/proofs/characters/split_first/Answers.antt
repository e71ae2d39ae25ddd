use Rattle.std.proofs.Common.{◌≡◌, ◌++◌}
use Rattle.std.specs.Prelude.{encode_utf8}
use Rattle.std.proofs.lemmas.Str.{chars_past_char}
use Rattle.match_comparisons.proofs.characters.split_first.Goals as goal

pub returns : goal.returns
returns c =
    let split : c.args.text.now ≡ encode_utf8 c.in_ok-first.first ++ c.as_str.result.now = cc (c.in_ok-first.ensures.steps.0) in
    chars_past_char c.args.text.now c.as_str.result.now c.in_ok-first.first c.utf8.text split
