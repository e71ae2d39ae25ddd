use Rattle.std.proofs.Common.{map, refl}
use Rattle.taxii_rows.specs.declared.stored_row.StoredRow.{StoredRow}
use Rattle.taxii_index.specs.Keys.{IsIn64Bits}
use Rattle.taxii_index.specs.Index.{version_key, text_key}
use Rattle.taxii_index.proofs.IndexLemmas.{has_unpushed, own_key, all_but_last}
use Rattle.taxii_index.proofs.row_index.RowIndex.remove.Goals as goal

pub returns : goal.returns
returns c = λ rows absent index.
    let row = c.args.row.now in
    let secret = c.args.self.now.secret in
    let version = c.version_key.ensures.key in
    let text = c.text_key.ensures in record {
      versions = c.remove.ensures (map (version_key secret) rows) (own_key (version_key secret) (λ _. refl) rows row c.version_key.result version absent)
          (has_unpushed (version_key secret) rows row c.version_key.result c.args.self.now.by_version.keys version index.versions);
      texts = c.remove-2.ensures (map (text_key secret) rows) (own_key (text_key secret) (λ _. refl) rows row c.text_key.result text absent)
          (has_unpushed (text_key secret) rows row c.text_key.result c.args.self.now.by_text.keys text index.texts);
      bits = all_but_last (λ (r : StoredRow). IsIn64Bits (version_key secret r)) rows row index.bits;
    }
