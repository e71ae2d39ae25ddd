-- One block more.
use Rattle.std.proofs.Common.{List, subst, inl, inr}
use Rattle.std.specs.List.{Contains}
use Rattle.std.proofs.lemmas.List.Elements.{Contains-push_cases}
use Rattle.match_pruning.specs.declared.block.Block.{Block}
use Rattle.match_pruning.specs.inner.SkipIndexes.{IsBlockOfKeys}
use Rattle.match_pruning.proofs.block.Blocks.new.Goals as goal

pub cuts-preserved : goal.cuts-preserved
cuts-preserved c = λ block there.
    elim (Contains-push_cases c.cuts.blocks.items c.in_ok-block.block block (subst (λ (z : List Block). Contains z block) c.in_ok-push.ensures.items there)) [
      | inl old ↦ c.cuts.invariant block old
      | inr is ↦ subst (IsBlockOfKeys c.args.keys.now) is c.in_ok-block.ensures.keys
    ]
