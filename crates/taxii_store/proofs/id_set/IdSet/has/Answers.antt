use Rattle.std.proofs.Common.{◌≡◌, ℕ, List, ap}
use Rattle.taxii_store.specs.inner.Sets.{NumberedTextKey, key_parts, number_and_kind}
use Rattle.taxii_store.proofs.SetLemmas.{found_id}
use Rattle.taxii_store.proofs.id_set.IdSet.has.Goals as goal

pub returns : goal.returns
returns c = λ ids has.
    let id = c.args.id.now in
    let key : NumberedTextKey = (id.number, c.as_str.result) in
    let own : key_parts key ≡ number_and_kind id = ap (λ (kind : List ℕ). let parts : ℕ × List ℕ = (id.number, kind) in parts) c.as_str.ensures in
    found_id ids c.deref.result.now c.args.self.now.ids.items key id c.binary_search.result c.is_ok.result c.deref.ensures.value c.is_ok.ensures.value own has c.binary_search.ensures.bound c.binary_search.ensures.position
