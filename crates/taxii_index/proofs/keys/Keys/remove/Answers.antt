use Rattle.taxii_index.proofs.KeyLemmas.{keys_without}
use Rattle.taxii_index.proofs.keys.Keys.remove.Goals as goal

pub returns : goal.returns
returns c = λ keys apart has. keys_without keys c.args.key c.args.self.now.keys c.remove.new.self apart has c.remove.ensures.updates.0
