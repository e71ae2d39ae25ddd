use Rattle.std.proofs.Common.{Some, None, refl, arith}
use Rattle.std.proofs.lemmas.Str.Pattern.{split_parts}
use Rattle.pattern_types.proofs.SlashLemmas.{no_slash_from_reads}
use Rattle.pattern_types.proofs.text.cut_at_slash.Goals as goal

pub returns-in-Some : goal.returns-in-Some
returns-in-Some c =
    let parts = split_parts 47 c.args.text.now (Some (c.in-Some.address, c.in-Some.length)) c.in-Some.ensures.cases (omega arith) in
    (parts.0, no_slash_from_reads c.in-Some.address.now parts.1)

pub returns-in-None : goal.returns-in-None
returns-in-None c =
    let parts = split_parts 47 c.args.text.now None c.in-None.ensures.cases (omega arith) in
    (refl, no_slash_from_reads c.args.text.now parts)
