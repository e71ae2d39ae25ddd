use Rattle.std.proofs.Common.{◌++◌, ◌∙◌, ap, List, ℕ}
use Rattle.std.specs.Prelude.{codes}
use Rattle.taxii_bodies.specs.Envelope.{next_text}
use Rattle.taxii_bodies.proofs.EnvelopeLemmas.{three_pushed}
use Rattle.taxii_bodies.proofs.envelope.push_next.Goals as goal

pub returns : goal.returns
returns c =
    let digits = c.as_str.ensures ∙ c.in_ok-digits.ensures in
    let second = c.in_ok-push-2.ensures.ok ∙ ap (λ (b : List ℕ). c.push.new.self ++ b) digits in
    three_pushed c.args.text.now (codes "{\"more\":true,\"next\":\"") (next_text c.args.date) (codes "\"") c.push.new.self c.push-2.new.self c.push-3.new.self
    c.in_ok-push.ensures.ok second c.in_ok-push-3.ensures.ok
