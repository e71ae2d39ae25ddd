use Rattle.std.proofs.Common.{rules}
use Rattle.match_input.proofs.InputRefusalTextLemmas.{broken_line}
use Rattle.match_input.proofs.refusal_text.write_broken.Goals as goal

pub returns-clause-text : goal.returns-clause-text
returns-clause-text g c =
    let same = broken_line c.args.line.now c.args.name.now c.args.object.now c.args.rule.now c.args.path.now in
    search (rules, same)

pub returns-clause-part : goal.returns-clause-part
returns-clause-part g c =
    let same = broken_line c.args.line.now c.args.name.now c.args.object.now c.args.rule.now c.args.path.now in
    search (rules, same)
