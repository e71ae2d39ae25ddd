use Rattle.std.proofs.Common.{sym, ◌∙◌}
use Rattle.taxii_routes.proofs.RouteAnswerLemmas.{copied, same_some, no_some}
use Rattle.taxii_routes.proofs.routes.Routes.text.Goals as goal

pub returns-in-Some : goal.returns-in-Some
returns-in-Some c = λ value takes.
    copied c.from_text.result c.in-Some.text.now value c.from_text.ensures (same_some c.in-Some.text.now value (sym (c.in-Some.ensures takes.texts) ∙ takes.found))

pub returns-in-None : goal.returns-in-None
returns-in-None c = λ value takes. absurd (no_some value (sym (c.in-None.ensures takes.texts) ∙ takes.found))
