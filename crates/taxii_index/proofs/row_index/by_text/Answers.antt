use Rattle.std.proofs.Common.{◌∙◌, map, sym, ap, subst, rules}
use Rattle.std.proofs.lemmas.Iterator.{YieldsList-from_slice, YieldsList-from_map}
use Rattle.std.proofs.lemmas.Iterator.Adapters.{fact_from_collect}
use Rattle.std.proofs.lemmas.Result.{IfOk-at_ok}
use Rattle.std.specs.BTreeSet.{IsFromIterResult}
use Rattle.std.specs.Slice.Iter.{iter_rest}
use Rattle.taxii_index.specs.Keys.{key_cmp, HasKeys}
use Rattle.taxii_index.specs.Index.{text_key}
use Rattle.taxii_index.proofs.KeyLemmas.{keys_made}
use Rattle.taxii_index.proofs.row_index.by_text.Goals as goal

pub returns : goal.returns
returns c =
    let rows = c.args.rows.now in
    let keys = map (text_key c.args.secret) rows in
    let got = fact_from_collect (λ ys s. IsFromIterResult key_cmp ys s) c.collect.result c.collect.ensures.ran
    (YieldsList-from_map _ (text_key c.args.secret) (YieldsList-from_slice rows (ap iter_rest c.map.ensures.source ∙ c.iter.ensures.rest)) c.map.ensures.closure (λ x r q k. search rules)) in
    let made = IfOk-at_ok (λ s. IsFromIterResult key_cmp keys s) c.in_ok-keys.was got in
    subst (HasKeys keys) (sym c.of.ensures) (keys_made keys c.in_ok-keys.keys made.0)
