use Rattle.std.proofs.Common.{rules, string_bytes}
use Rattle.std.proofs.lemmas.Map.Text.{btree_map_updates_text}
use Rattle.stix_ids.specs.PartsOf.{id_of}
use Rattle.stix_bundles.proofs.PutsLemmas.{put_known, put_unknown}
use Rattle.stix_bundles.proofs.positions.Positions.put.Goals as goal

pub returns-in-Some : goal.returns-in-Some
returns-in-Some c =
    let before = c.args.self.now.kinds in
    let after = c.get_mut.follows.lender c.insert.new.self in
    let written = (c.get_mut.follows.holds c.insert.new.self).3 (search rules) in
    put_known before after (id_of c.args.id) c.args.at c.in-Some.numbers.now c.insert.new.self c.in-Some.ensures.value c.in_ok-insert.ensures.updates.0
    (btree_map_updates_text c.args.id.kind.now before after _ written)

pub returns : goal.returns
returns c =
    let before = c.args.self.now.kinds in
    let lent = c.get_mut.follows.lender-at-none in
    let after = c.insert-3.new.self in
    let kind = string_bytes c.in_ok-kind.kind in
    put_unknown before lent after (id_of c.args.id) c.args.at kind c.new-numbers.result c.insert-2.new.self c.get_mut.follows.holds-at-none c.in_default.ensures.value
    c.in_ok-kind.ensures.ok c.new-numbers.ensures.empty c.in_ok-insert-2.ensures.updates.0
    (btree_map_updates_text kind lent after _ c.in_ok-insert-3.ensures.updates)
