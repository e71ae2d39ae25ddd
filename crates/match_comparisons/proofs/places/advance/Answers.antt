use Rattle.std.proofs.Common.{arith}
use Rattle.match_comparisons.proofs.PlacesLemmas.{shows_next}
use Rattle.match_comparisons.proofs.places.advance.Goals as goal

pub returns : goal.returns
returns c text shows is = shows_next c.args.window.now text c.args.at c.args.mark (omega arith) shows is
