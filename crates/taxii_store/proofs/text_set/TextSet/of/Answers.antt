use Rattle.std.proofs.Common.{◌∙◌, ap, map}
use Rattle.std.proofs.lemmas.List.{take_all}
use Rattle.taxii_store.specs.inner.Sets.{measured, HasTexts}
use Rattle.taxii_store.proofs.SetLemmas.{keys_of}
use Rattle.taxii_store.proofs.text_set.TextSet.of.Goals as goal

pub returns : goal.returns
unfolding HasTexts
returns c =
    let texts = c.args.texts.now in
    let all = c.loop-text.invariant ∙ ap (map measured) (take_all c.loop-text.text-index texts c.loop-text-test.false) in
    record {
      has = keys_of (map measured texts) c.loop-text.row.items c.sort.new.self.items c.dedup.new.self.items all c.sort.ensures.permutation c.in_ok-sort.ensures.sorted c.dedup.ensures.filtered;
      missed = tt;
    }
