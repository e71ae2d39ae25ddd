use Rattle.taxii_store.proofs.PageLemmas.{page_stored, page_sound}
use Rattle.taxii_store.proofs.page_laws.rows_of_pages.Goals as goal

pub returns-clause-stored : goal.returns-clause-stored
returns-clause-stored c rows collection only query page more = page_stored rows collection only query page more

pub returns-clause-sound : goal.returns-clause-sound
returns-clause-sound c state collection only query page more = page_sound state collection only query page more
