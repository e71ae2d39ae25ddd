use Rattle.std.proofs.Common.{pos, arith}
use Rattle.std.proofs.lemmas.Int.{ints}
use Rattle.std.proofs.lemmas.List.Elements.{All-contains}
use Rattle.taxii_rows.specs.declared.stored_row.StoredRow.{StoredRow}
use Rattle.taxii_index.specs.Keys.{IsIn64Bits}
use Rattle.taxii_index.specs.Names.{id_of_number}
use Rattle.taxii_index.specs.Index.{version_key, front_of}
use Rattle.taxii_index.proofs.LookUpLemmas.{leads_to_later}
use Rattle.taxii_index.proofs.row_index.RowIndex.of_object.Goals as goal

pub returns : goal.returns
returns c = λ rows index.
    let front = front_of c.args.collection (id_of_number c.args.number c.args.kind.now) in
    let leads = leads_to_later c.args.self.now.secret front rows (pos 9223372036854775807) 18446744073709551615 c.args.self.now.by_version.keys index.versions
    (λ other here. let bits = All-contains (λ (r : StoredRow). IsIn64Bits (version_key c.args.self.now.secret r)) rows other index.bits here in (omega (arith, ints, bits.number), omega (arith, bits.date))) in
    rw (c.after.ensures, c.parts_name-name.ensures) leads
