use Rattle.std.proofs.Common.{◌≡◌, Ok, Err, refl, rules}
use Rattle.std.specs.Prelude.{MatchResult}
use Rattle.pattern_types.specs.declared.leaf.Leaf.TheVariants as leaf
use Rattle.pattern_reader.specs.LeafMeaning.{means_test}
use Rattle.pattern_reader.proofs.ChainLemmas.{named_root}
use Rattle.pattern_reader.proofs.OutcomeLemmas.{mapped_outcome}
use Rattle.pattern_reader.proofs.RootSetLemmas.{same_as}
use Rattle.pattern_reader.proofs.analysis.analyze_test.Goals as goal

pub returns : goal.returns
returns c =
    let m : MatchResult c.in_ok-test_of.field-0 (λ test. c.map-leaf.result ≡ Ok (leaf.Test test)) (λ r. c.map-leaf.result ≡ Err r) = search rules in
    record {
      at = refl;
      roots = λ root. same_as (c.in_ok-roots.ensures root) (named_root _ _ _ c.text_of.ensures.some c.text_of.ensures.none root);
      leaf = mapped_outcome leaf.Test _ _ _ _ _ m (λ test h. record { means = means_test h.0; sound = h.1 }) c.in_ok-test_of.ensures;
    }
