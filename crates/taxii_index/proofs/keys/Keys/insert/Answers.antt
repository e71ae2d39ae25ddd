use Rattle.taxii_index.proofs.KeyLemmas.{keys_with}
use Rattle.taxii_index.proofs.keys.Keys.insert.Goals as goal

pub returns-clause-ok : goal.returns-clause-ok
returns-clause-ok c = λ keys has. keys_with keys c.args.key c.args.self.now.keys c.insert.new.self has c.in_ok-insert.ensures.updates.0
