use Rattle.std.proofs.Common.{◌≡◌, rules}
use Rattle.std.proofs.lemmas.Iterator.{YieldsList-from_map, items_from_collect}
use Rattle.std.proofs.lemmas.Iterator.Consumers.{YieldsList-from_rest}
use Rattle.std.proofs.lemmas.Result.{IfOk-at_ok}
use Rattle.std.specs.Vec.{vec_items}
use Rattle.taxii_index.specs.Keys.{Key}
use Rattle.taxii_index.specs.Index.{key_dates}
use Rattle.taxii_index.proofs.indexed_rows.gather_dates.Goals as goal

pub returns : goal.returns
returns c =
    let road = YieldsList-from_map _ (λ (key : Key). key.2) (YieldsList-from_rest c.args.keys c.map.ensures.source) c.map.ensures.closure (λ x r q k. search rules) in
    let got = items_from_collect c.collect.result c.collect.ensures.ran road in
    IfOk-at_ok (λ dates. vec_items dates ≡ key_dates c.args.keys) c.in_ok-collect.was got
