-- One key more.
use Rattle.std.proofs.Common.{◌<◌, length, ◌∙◌, rules}
use Rattle.std.specs.Prelude.{slice_index_or}
use Rattle.std.proofs.lemmas.List.Elements.{at_read, AllWithin-more}
use Rattle.match_pruning.specs.inner.SkipIndexes.{IsCommonTo}
use Rattle.match_pruning.proofs.block.Block.new.Goals as goal

pub places-preserved : goal.places-preserved
places-preserved c =
    let keys = c.args.keys.now in let at = c.places.place in let before = c.places.invariant in
    let here : at < length keys = search rules in
    record {
      start = c.add.ensures.places.0 ∙ before.start;
      end = c.add.ensures.places.1 ∙ before.end;
      over = AllWithin-more (IsCommonTo c.add.new.self) keys c.args.start at (λ k d low high. c.add.ensures.kept (slice_index_or keys k d) (before.over k d low high))
          (at_read keys (IsCommonTo c.add.new.self) at c.index-keys-place.result here c.index-keys-place.is c.add.ensures.added);
    }
