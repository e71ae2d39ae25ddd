use Rattle.pattern_reader.proofs.ChainLemmas.{any_more_outcome}
use Rattle.pattern_reader.proofs.RootSetLemmas.{same_either}
use Rattle.pattern_reader.proofs.analysis.with_any.Goals as goal

pub returns : goal.returns
returns c = λ text p q x y. record {
  at = x.at;
  roots = λ root. same_either (c.in_ok-roots.ensures root) (x.roots root) (y.roots root);
  parts = any_more_outcome text p q _ _ _ x.parts y.leaf c.in_ok-parts.ensures;
}
