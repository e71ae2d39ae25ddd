use Rattle.std.proofs.Common.{map}
use Rattle.hunt_index.proofs.ListLemmas.{at_map}
use Rattle.hunt_index.proofs.PostingsLemmas.{postings_next}
use Rattle.hunt_index.proofs.postings.postings_of.Goals as goal

pub loop-bracket-preserved : goal.loop-bracket-preserved
loop-bracket-preserved c =
    let brackets = c.args.brackets.now in
    let there = at_map (λ leaf. leaf.now) brackets c.loop-bracket.bracket c.index-brackets-bracket.result c.loop-bracket-test.true c.index-brackets-bracket.is in
    postings_next (map (λ leaf. leaf.now) brackets) c.loop-bracket.bracket c.index-brackets-bracket.result.now c.loop-bracket.postings c.add.new.self there c.loop-bracket.invariant c.in_ok-add.ensures
