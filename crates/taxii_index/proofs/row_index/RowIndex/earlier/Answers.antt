use Rattle.std.proofs.Common.{negsuc, arith}
use Rattle.std.proofs.lemmas.Int.{ints}
use Rattle.std.proofs.lemmas.List.Elements.{All-contains}
use Rattle.taxii_rows.specs.declared.stored_row.StoredRow.{StoredRow}
use Rattle.taxii_index.specs.Keys.{IsIn64Bits}
use Rattle.taxii_index.specs.Index.{version_key}
use Rattle.taxii_index.proofs.LookUpLemmas.{leads_to_earlier}
use Rattle.taxii_index.proofs.row_index.RowIndex.earlier.Goals as goal

pub returns : goal.returns
returns c = λ rows index.
    let leads = leads_to_earlier c.args.self.now.secret c.args.row.now rows (negsuc 9223372036854775807) c.args.self.now.by_version.keys index.versions
    (λ other here. let bits = All-contains (λ (r : StoredRow). IsIn64Bits (version_key c.args.self.now.secret r)) rows other index.bits here in omega (arith, ints, bits.number)) in
    rw (c.before-2.ensures, c.version_key.ensures.key) leads
