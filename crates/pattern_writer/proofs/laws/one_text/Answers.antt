use Rattle.pattern_writer.proofs.OneTextLemmas.{canonical_once}
use Rattle.pattern_writer.proofs.laws.one_text.Goals as goal

pub returns : goal.returns
returns c = λ m a b h k. canonical_once (λ x y i p q. c.one_canonical_text.ensures i x y p q) m a b h k
