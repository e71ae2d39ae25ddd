use Rattle.std.proofs.Common.{sym, subst, List, ℕ}
use Rattle.std.specs.List.{Contains}
use Rattle.std.proofs.lemmas.List.Elements.{All-contains}
use Rattle.taxii_rows.specs.declared.stored_row.StoredRow.{StoredRow}
use Rattle.taxii_rows.specs.StoreState.{dates_of, AscendFrom}
use Rattle.taxii_index.specs.Keys.{IsIn64Bits}
use Rattle.taxii_index.specs.Names.{id_of_number}
use Rattle.taxii_index.specs.Index.{version_key, LeadsToObject}
use Rattle.taxii_index.proofs.ObjectLemmas.{ascend_once, each_once, date_of_each}
use Rattle.taxii_index.proofs.indexed_rows.IndexedRows.dates_of.Goals as goal

pub returns-clause-ascend : goal.returns-clause-ascend
returns-clause-ascend c = ascend_once c.sort.new.self.items c.dedup.new.self.items c.in_ok-sort.ensures.sorted c.dedup.ensures.filtered

pub returns-clause-every : goal.returns-clause-every
returns-clause-every c =
    let rows = c.args.self.now in
    let ascend = subst (λ (rows : List StoredRow). AscendFrom 1 (dates_of rows)) c.self.view_is c.self.invariant.0 in
    let bits = subst (λ (rows : List StoredRow). (row : StoredRow) → Contains rows row → IsIn64Bits (version_key c.self.inside.index.secret row)) c.self.view_is
    (λ row here. All-contains (λ (r : StoredRow). IsIn64Bits (version_key c.self.inside.index.secret r)) c.self.inside.rows.items row c.self.invariant.1.bits here) in
    let leads = subst (λ (rows : List StoredRow). LeadsToObject c.self.inside.index.secret c.args.collection c.args.id.now rows c.of_object-keys.result) c.self.view_is
    (subst (λ (kind : List ℕ). LeadsToObject c.self.inside.index.secret c.args.collection (id_of_number c.args.id.now.number kind) c.self.inside.rows.items c.of_object-keys.result) c.as_str.ensures
    (c.of_object-keys.ensures c.self.inside.rows.items c.self.invariant.1)) in
    λ row here its. each_once c.in_ok-dates.dates.items c.sort.new.self.items c.dedup.new.self.items c.sort.ensures.permutation c.dedup.ensures.filtered row.date
    (subst (λ (dates : List _). Contains dates row.date) (sym c.in_ok-dates.ensures)
    (date_of_each c.self.inside.index.secret c.args.collection c.args.id.now rows c.of_object-keys.result ascend bits leads row here its))
