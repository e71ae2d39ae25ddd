use Rattle.std.proofs.Common.{List, Option, ap, sym, subst}
use Rattle.pattern_types.specs.PlainLeaf.{plain_leaf}
use Rattle.match_comparisons.specs.Tests.{HoldsAt}
use Rattle.hunt_index.specs.Definite.{IsDefinite}
use Rattle.hunt_index.specs.declared.index_key.IndexKey.{IndexKey}
use Rattle.hunt_index.specs.inner.IndexKeys.{AreIndexKeys, IndexKeys, AreSufficient, Sufficient}
use Rattle.hunt_index.proofs.ListLemmas.{on_follows}
use Rattle.hunt_index.proofs.PostingsLemmas.{adds_index_keys}
use Rattle.hunt_index.proofs.postings.Postings.add.Goals as goal

pub returns-in-Ok-Some : goal.returns-in-Ok-Some
returns-in-Ok-Some c =
    let leaf = c.args.leaf.now in
    let own = subst (IndexKeys (λ objects root. HoldsAt objects root (plain_leaf leaf))) c.in-Ok-Some.field-0-is c.in-Ok-Some.ensures.needed in
    let lent = subst (AreIndexKeys (λ objects root. HoldsAt objects root (plain_leaf leaf))) (sym c.as_slice.ensures) own in
    let sufficient = subst (λ (found : Option (List IndexKey)). IsDefinite (plain_leaf leaf) → Sufficient (λ objects root. HoldsAt objects root (plain_leaf leaf)) found) c.in-Ok-Some.field-0-is c.in-Ok-Some.ensures.sufficient in
    let lent_sufficient = subst (λ (index_keys : List IndexKey). IsDefinite (plain_leaf leaf) → AreSufficient (λ objects root. HoldsAt objects root (plain_leaf leaf)) index_keys) (sym c.as_slice.ensures) sufficient in
    on_follows c.add_index_keys.result
    (λ is. adds_index_keys leaf c.args.bracket c.as_slice.result.now c.args.self.now c.add_index_keys.new.self lent lent_sufficient is (ap (λ unindexed. unindexed.items) c.add_index_keys.ensures.unindexed)) c.add_index_keys.ensures.indexed
