use Rattle.std.proofs.Common.{not, rules}
use Rattle.std.proofs.lemmas.Fn.{filter_same}
use Rattle.taxii_rows.specs.Keeper.{is_date_in}
use Rattle.taxii_index.specs.Keys.{Key}
use Rattle.taxii_index.proofs.KeyLemmas.{keys_swept}
use Rattle.taxii_index.proofs.keys.Keys.remove_dates.Goals as goal

pub returns : goal.returns
returns c = λ keys has.
    let test = λ (key : Key). not (is_date_in c.args.dates.now key.2) in
    keys_swept c.args.dates.now keys c.args.self.now.keys c.retain.new.self has (filter_same _ test _ (λ x b f k. search rules) _ _ c.retain.ensures.filtered)
