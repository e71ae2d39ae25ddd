use Rattle.std.proofs.Common.{option_map, List, ℕ, ◌++◌, ◌∙◌, ap}
use Rattle.std.proofs.lemmas.List.{append_assoc}
use Rattle.taxii_client.specs.Requests.{since_pair, next_pair}
use Rattle.taxii_client.proofs.request.push_behind.Goals as goal

pub returns : goal.returns
returns c =
    c.in_ok-push_next.ensures
    ∙ ap (λ (t : List ℕ). t ++ next_pair (option_map (λ next. next.now) c.args.next)) c.in_ok-push_since.ensures
    ∙ append_assoc c.args.text.now (since_pair c.args.target.now.since) (next_pair (option_map (λ next. next.now) c.args.next))
