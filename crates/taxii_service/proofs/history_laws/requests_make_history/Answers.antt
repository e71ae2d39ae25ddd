use Rattle.taxii_service.proofs.DatedLemmas.{history_dated}
use Rattle.taxii_service.proofs.ServedLemmas.{served_history}
use Rattle.taxii_service.proofs.history_laws.requests_make_history.Goals as goal

pub returns-clause-history : goal.returns-clause-history
returns-clause-history c config before after exchanges served = served_history config before exchanges after served.each served.follow

pub returns-clause-dated : goal.returns-clause-dated
returns-clause-dated c config before after exchanges served =
    history_dated before.library after.library (served_history config before exchanges after served.each served.follow)
