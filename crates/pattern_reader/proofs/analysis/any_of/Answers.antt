use Rattle.std.proofs.Common.{◌≡◌, Ok, Err, rules}
use Rattle.std.specs.Prelude.{MatchResult}
use Rattle.pattern_types.specs.declared.leaf.Leaf.TheVariants as leaf
use Rattle.pattern_reader.proofs.ChainLemmas.{any_leaf}
use Rattle.pattern_reader.proofs.OutcomeLemmas.{mapped_outcome}
use Rattle.pattern_reader.proofs.analysis.any_of.Goals as goal

pub returns : goal.returns
returns c = λ text p q h.
    let m : MatchResult c.args.chain.parts (λ parts. c.map.result ≡ Ok (leaf.Any parts)) (λ r. c.map.result ≡ Err r) = search rules in
    record { at = h.at; roots = h.roots; leaf = mapped_outcome leaf.Any _ _ _ _ _ m (any_leaf text p q) h.parts }
