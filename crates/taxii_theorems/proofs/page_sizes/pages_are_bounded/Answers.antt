use Rattle.taxii_theorems.proofs.PageSizeLemmas.{page_bounded}
use Rattle.taxii_theorems.proofs.page_sizes.pages_are_bounded.Goals as goal

pub returns : goal.returns
returns c rows collection only query page more = page_bounded rows collection only query page more
