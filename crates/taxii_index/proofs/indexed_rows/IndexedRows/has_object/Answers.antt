use Rattle.std.proofs.Common.{List, subst}
use Rattle.std.specs.List.{Contains}
use Rattle.std.proofs.lemmas.List.Elements.{All-contains}
use Rattle.taxii_rows.specs.declared.stored_row.StoredRow.{StoredRow}
use Rattle.taxii_rows.specs.StoreState.{dates_of, AscendFrom}
use Rattle.taxii_index.specs.Keys.{IsIn64Bits}
use Rattle.taxii_index.specs.Names.{id_of_number}
use Rattle.taxii_index.specs.Index.{version_key, LeadsToObject}
use Rattle.taxii_index.proofs.LookUpLemmas.{object_found}
use Rattle.taxii_index.proofs.indexed_rows.IndexedRows.has_object.Goals as goal

pub returns : goal.returns
returns c =
    let id = id_of_number c.args.number c.args.kind.now in
    let rows = c.args.self.now in
    let ascend = subst (λ (rows : List StoredRow). AscendFrom 1 (dates_of rows)) c.self.view_is c.self.invariant.0 in
    let bits = subst (λ (rows : List StoredRow). (row : StoredRow) → Contains rows row → IsIn64Bits (version_key c.self.inside.index.secret row)) c.self.view_is
    (λ row here. All-contains (λ (r : StoredRow). IsIn64Bits (version_key c.self.inside.index.secret r)) c.self.inside.rows.items row c.self.invariant.1.bits here) in
    let leads = subst (λ (rows : List StoredRow). LeadsToObject c.self.inside.index.secret c.args.collection id rows c.of_object-keys.result) c.self.view_is (c.of_object-keys.ensures c.self.inside.rows.items c.self.invariant.1) in
    object_found c.self.inside.index.secret c.args.collection id rows c.of_object-keys.result c.has_object_among.result ascend bits leads c.has_object_among.ensures
