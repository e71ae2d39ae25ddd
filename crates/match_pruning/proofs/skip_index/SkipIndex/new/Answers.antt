use Rattle.std.proofs.Common.{List, subst}
use Rattle.match_pruning.specs.declared.key.SortKey.{SortKey}
use Rattle.match_pruning.specs.inner.SkipIndexes.{AreLevelsOf}
use Rattle.match_pruning.proofs.skip_index.SkipIndex.new.Goals as goal

pub returns : goal.returns
returns c = λ _. record {
  keys = c.in_ok-keys.ensures;
  levels = subst (λ (z : List SortKey). AreLevelsOf z c.in_ok-levels.levels.items) c.deref.ensures.value c.in_ok-levels.ensures;
}
