-- Blocks of one size more.
use Rattle.std.proofs.Common.{List, subst, inl, inr, rules}
use Rattle.std.specs.List.{Contains}
use Rattle.std.proofs.lemmas.List.Elements.{Contains-push_cases}
use Rattle.match_pruning.specs.declared.block.Blocks.{Blocks}
use Rattle.match_pruning.specs.inner.SkipIndexes.{AreBlocksOf}
use Rattle.match_pruning.proofs.skip_index.levels.Goals as goal

pub sizes-preserved : goal.sizes-preserved
sizes-preserved c = record {
  some = search rules;
  levels = λ blocks there.
      elim (Contains-push_cases c.sizes.levels.items c.in_ok-blocks.blocks blocks (subst (λ (z : List Blocks). Contains z blocks) c.in_ok-push.ensures.items there)) [
        | inl old ↦ c.sizes.invariant.levels blocks old
        | inr is ↦ subst (AreBlocksOf c.args.keys.now) is c.in_ok-blocks.ensures
      ];
}
