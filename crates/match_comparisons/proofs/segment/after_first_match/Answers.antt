use Rattle.std.proofs.Common.{arith}
use Rattle.std.specs.Str.{chars}
use Rattle.std.proofs.lemmas.Str.Pattern.{contains_char}
use Rattle.match_comparisons.specs.Like.{any_one}
use Rattle.match_comparisons.specs.inner.Segments.{LacksCharacter}
use Rattle.match_comparisons.proofs.CharactersLemmas.{lacks_chars, lacks_where_not_found}
use Rattle.match_comparisons.proofs.PlainSegmentLemmas.{plain_nowhere, plain_first}
use Rattle.match_comparisons.proofs.segment.after_first_match.Goals as goal

pub returns-in_err-left : goal.returns-in_err-left
returns-in_err-left c =
    let finds = contains_char any_one c.args.segment.now c.contains.result c.contains.ensures.cases (omega arith) in
    let plain : LacksCharacter (chars c.args.segment.now) any_one = lacks_chars c.args.segment.now any_one (omega arith) c.utf8.segment (lacks_where_not_found c.args.segment.now any_one c.contains.result finds.1 c.if-contains.false) in
    rw c.from_residual.ensures (plain_nowhere c.args.text.now c.args.segment.now c.utf8.text c.utf8.segment c.requires plain c.in_err-left.ensures.cases)

pub returns : goal.returns
returns c =
    let finds = contains_char any_one c.args.segment.now c.contains.result c.contains.ensures.cases (omega arith) in
    let plain : LacksCharacter (chars c.args.segment.now) any_one = lacks_chars c.args.segment.now any_one (omega arith) c.utf8.segment (lacks_where_not_found c.args.segment.now any_one c.contains.result finds.1 c.if-contains.false) in
    let cases = c.in_ok-left.ensures.cases in
    plain_first c.args.text.now c.args.segment.now c.utf8.text c.utf8.segment c.requires plain _ c.in_ok-left.left.now cases.0 cases.1 cases.2 cases.3 cases.4 (omega (arith, cases.5, cases.7))
