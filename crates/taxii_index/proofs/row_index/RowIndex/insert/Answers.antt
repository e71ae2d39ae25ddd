use Rattle.std.proofs.Common.{map, subst, refl, rules}
use Rattle.taxii_index.specs.declared.row_index.RowIndex.{RowIndex}
use Rattle.taxii_index.specs.Keys.{IsIn64Bits}
use Rattle.taxii_index.specs.Index.{version_key, text_key, IsIndexOf}
use Rattle.taxii_index.proofs.IndexLemmas.{has_pushed, own_key, on_ok, on_err, index_with}
use Rattle.taxii_index.proofs.row_index.RowIndex.insert.Goals as goal

pub returns-in_err-insert-clause-err : goal.returns-in_err-insert-clause-err
returns-in_err-insert-clause-err c = λ rows absent index.
    let secret = c.args.self.now.secret in
    let left : RowIndex = record { secret = secret; by_version = c.insert.new.self; by_text = c.args.self.now.by_text } in
    let still : IsIndexOf rows left = record {
      versions = c.in_err-insert.ensures.err (map (version_key secret) rows) index.versions;
      texts = index.texts;
      bits = index.bits;
    } in
    search rules

pub returns-then-is_err-clause-err : goal.returns-then-is_err-clause-err
returns-then-is_err-clause-err c = λ rows absent index.
    let row = c.args.row.now in
    let secret = c.args.self.now.secret in
    let version = c.version_key-key.ensures.key in
    on_err c.insert-added.result (c.insert-added.ensures.err (map (text_key secret) rows) index.texts) (λ texts. record {
      versions = c.remove.ensures (map (version_key secret) rows) (own_key (version_key secret) (λ _. refl) rows row c.version_key-key.result version absent)
          (c.in_ok-insert.ensures.ok (map (version_key secret) rows) index.versions);
      texts = texts;
      bits = index.bits;
    })

pub returns-else-is_err-clause-ok : goal.returns-else-is_err-clause-ok
returns-else-is_err-clause-ok c = λ rows index.
    let row = c.args.row.now in
    let secret = c.args.self.now.secret in
    on_ok c.insert-added.result (c.insert-added.ensures.ok (map (text_key secret) rows) index.texts) (λ texts.
    index_with rows row c.args.self.now c.insert.new.self c.insert-added.new.self index (subst IsIn64Bits c.version_key-key.ensures.key c.in_ok-insert.ensures.bits)
    (has_pushed (version_key secret) rows row c.version_key-key.result c.insert.new.self.keys c.version_key-key.ensures.key (c.in_ok-insert.ensures.ok (map (version_key secret) rows) index.versions))
    (has_pushed (text_key secret) rows row c.text_key.result c.insert-added.new.self.keys c.text_key.ensures texts))
