use Rattle.std.proofs.Common.{◌++◌, ◌∙◌, ap, List, ℕ}
use Rattle.std.specs.Prelude.{codes}
use Rattle.taxii_bodies.proofs.EnvelopeLemmas.{listed}
use Rattle.taxii_bodies.proofs.envelope.push_list.Goals as goal

pub returns : goal.returns
returns c =
    let second = c.in_ok-push-2.ensures.ok ∙ ap (λ (b : List ℕ). c.push.new.self ++ b) c.as_str.ensures in
    listed c.args.text.now (codes ",\"objects\":[") c.args.first.now.body c.args.others.now (codes "]") c.push.new.self c.push-2.new.self c.push_others.new.text c.push-3.new.self
    c.in_ok-push.ensures.ok second c.in_ok-push_others.ensures c.in_ok-push-3.ensures.ok
