use Rattle.taxii_store.proofs.AskingLemmas.{id_asked}
use Rattle.taxii_store.proofs.asked.has_id.Goals as goal

pub returns-in-Some : goal.returns-in-Some
returns-in-Some c = λ named asked. id_asked named c.args.ids.now c.in-Some.ids c.args.id.now c.has.result c.in-Some.is c.has.ensures asked
