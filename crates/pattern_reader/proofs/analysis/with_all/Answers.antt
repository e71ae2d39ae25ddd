use Rattle.std.proofs.Common.{◌≡◌, Ok, Err, List, ℕ, rules}
use Rattle.std.specs.Prelude.{MatchResult}
use Rattle.pattern_reader.proofs.ChainLemmas.{all_more_outcome}
use Rattle.pattern_reader.proofs.RootSetLemmas.{same_both}
use Rattle.pattern_reader.proofs.analysis.with_all.Goals as goal

pub returns : goal.returns
returns c = λ text p q x y.
    let m : MatchResult c.both.result (λ pair. c.map-parts.result ≡ Ok pair.1) (λ r. c.map-parts.result ≡ Err r) = search rules in
    let roots = λ (root : List ℕ). same_both (c.in_ok-roots.ensures root) (x.roots root) (y.roots root) in
    record {
      at = x.at;
      roots = roots;
      parts = all_more_outcome text p q _ _ _ _ _ _ x.parts y.leaf c.in_ok-parts.ensures (c.rooted.ensures text p q x.at roots) c.both.ensures m;
    }
