use Rattle.std.proofs.Common.{◌≡◌, ◌∙◌, ℕ, List, ap, map}
use Rattle.std.proofs.lemmas.List.{take_all}
use Rattle.taxii_store.specs.inner.Sets.{NumberedTextKey, key_parts, number_and_kind, HasIds}
use Rattle.taxii_store.proofs.SetLemmas.{keys_of, next_id}
use Rattle.taxii_store.proofs.id_set.IdSet.of.Goals as goal

pub loop-id-preserved : goal.loop-id-preserved
loop-id-preserved c =
    let id = c.id-item.result in
    let key : NumberedTextKey = (id.number, c.as_str.result) in
    let own : key_parts key ≡ number_and_kind id = ap (λ (kind : List ℕ). let parts : ℕ × List ℕ = (id.number, kind) in parts) c.as_str.ensures in
    ap (λ row. map key_parts row) c.in_ok-push.ensures.items ∙ next_id c.args.ids.now c.loop-id.row.items c.loop-id.id-index key id c.loop-id-test.true c.id-item.is own c.loop-id.invariant

pub returns : goal.returns
unfolding HasIds
returns c =
    let ids = c.args.ids.now in
    let all = c.loop-id.invariant ∙ ap (map number_and_kind) (take_all c.loop-id.id-index ids c.loop-id-test.false) in
    keys_of (map number_and_kind ids) c.loop-id.row.items c.sort.new.self.items c.dedup.new.self.items all c.sort.ensures.permutation c.in_ok-sort.ensures.sorted c.dedup.ensures.filtered
