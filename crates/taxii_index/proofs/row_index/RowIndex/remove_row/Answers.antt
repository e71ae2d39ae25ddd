use Rattle.std.proofs.Common.{map, refl, subst, ◌++◌, [], ◌∷◌}
use Rattle.taxii_index.specs.Keys.{Key, HasKeysBut}
use Rattle.taxii_index.specs.Index.{version_key, text_key}
use Rattle.taxii_index.proofs.IndexLemmas.{alone_in}
use Rattle.taxii_index.proofs.row_index.RowIndex.remove_row.Goals as goal

pub returns : goal.returns
returns c = λ gone rows ascend here index.
    let row = c.args.row.now in
    let secret = c.args.self.now.secret in
    let version = c.version_key.ensures.key in
    let text = c.text_key.ensures in record {
      versions = subst (λ (k : Key). HasKeysBut (gone ++ k.2 ∷ []) (map (version_key secret) rows) c.remove_one.new.self.keys) version
          (c.remove_one.ensures gone (map (version_key secret) rows) (alone_in (version_key secret) (λ _. refl) rows row c.version_key.result version ascend here) index.versions);
      texts = subst (λ (k : Key). HasKeysBut (gone ++ k.2 ∷ []) (map (text_key secret) rows) c.remove_one-2.new.self.keys) text
          (c.remove_one-2.ensures gone (map (text_key secret) rows) (alone_in (text_key secret) (λ _. refl) rows row c.text_key.result text ascend here) index.texts);
      bits = index.bits;
    }
