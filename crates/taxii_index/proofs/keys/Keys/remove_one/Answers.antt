use Rattle.taxii_index.proofs.KeyLemmas.{one_less}
use Rattle.taxii_index.proofs.keys.Keys.remove_one.Goals as goal

pub returns : goal.returns
returns c = λ dates keys alone has. one_less dates keys c.args.key c.args.self.now.keys c.remove.new.self alone has c.remove.ensures.updates.0
