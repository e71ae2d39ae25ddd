use Rattle.std.proofs.Common.{map}
use Rattle.taxii_index.specs.declared.row_index.RowIndex.{RowIndex}
use Rattle.taxii_index.specs.Index.{version_key, text_key}
use Rattle.taxii_index.proofs.IndexLemmas.{index_left}
use Rattle.taxii_index.proofs.row_index.RowIndex.remove_many.Goals as goal

pub returns : goal.returns
returns c = λ rows index.
    let secret = c.args.self.now.secret in
    let left : RowIndex = record { secret = secret; by_version = c.remove_dates.new.self; by_text = c.remove_dates-2.new.self } in
    index_left c.args.dates.now rows left (record {
      versions = c.remove_dates.ensures (map (version_key secret) rows) index.versions;
      texts = c.remove_dates-2.ensures (map (text_key secret) rows) index.texts;
      bits = index.bits;
    })
