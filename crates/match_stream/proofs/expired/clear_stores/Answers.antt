use Rattle.std.proofs.Common.{◌<◌, length, ap, arith, sym, ◌∙◌}
use Rattle.std.proofs.lemmas.List.{length-set}
use Rattle.match_pruning.specs.declared.store.Store.{Store}
use Rattle.match_pruning.specs.inner.Steps.{kept}
use Rattle.match_stream.specs.inner.Nodes.{store_list}
use Rattle.std.specs.List.{sum_by}
use Rattle.match_stream.proofs.ArrangedLemmas.{stores_more, rest_more}
use Rattle.match_stream.proofs.expired.clear_stores.Goals as goal

pub loop-store-preserved : goal.loop-store-preserved
loop-store-preserved c =
    let items = c.loop-store.store-items in let index = c.loop-store.store-index in let x = c.store-item.result in let f = kept c.args.window.now c.args.now in
    let within : index < length c.args.stores.now.items = omega (arith, c.loop-store-test.true, ap length c.deref_mut-store-items.ensures.value) in
    record {
      same = stores_more f c.args.stores.now.items items index x c.clear.new.self within c.loop-store.invariant.length c.loop-store.invariant.same c.loop-store.invariant.rest c.store-item.is
          (λ weight. c.clear.ensures weight ∙ sym (ap (λ (s : Store). sum_by weight (f (store_list s))) c.store-item.is));
      rest = rest_more c.args.stores.now.items items index c.clear.new.self within c.loop-store.invariant.rest;
      length = length-set items index c.clear.new.self ∙ c.loop-store.invariant.length;
    }
