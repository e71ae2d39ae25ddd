use Rattle.taxii_store.proofs.OnePageLemmas.{page_same, more_same}
use Rattle.taxii_store.proofs.walk_laws.one_page.Goals as goal

pub returns-clause-page : goal.returns-clause-page
returns-clause-page c rows collection only query first second left more = page_same rows collection only query first second left more

pub returns-clause-more : goal.returns-clause-more
returns-clause-more c rows collection only query first second left more = more_same rows collection only query first second left more
