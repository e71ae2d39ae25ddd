use Rattle.std.proofs.Common.{◌∙◌, ap, map, List, ℕ, Bor}
use Rattle.http_messages.specs.Fields.{asks_to_close}
use Rattle.http_messages.proofs.ValueLemmas.{any_of}
use Rattle.http_messages.proofs.RequestCheckLemmas.{close_old, close_new}
use Rattle.http_messages.proofs.request_head.Head.closes.Goals as goal
use Rattle.http_messages.proofs.request_head.Head.closes.Goals.{then-minor-eq0, else-minor-eq0}

pub returns : goal.returns
returns c =
    elim c.if-minor-eq0.branch [
      | then-minor-eq0 w ↦ close_old _ _ _ _ c.minor.ensures w.if-minor-eq0.true w.result-is
      | else-minor-eq0 w ↦ close_new _ _ _ _ (λ e. w.if-minor-eq0.false (c.minor.ensures ∙ e))
          (w.any_asks_to_close.ensures ∙ any_of asks_to_close _ _ (ap (map (λ (x : Bor (List ℕ)). x.now)) w.deref.ensures.value ∙ c.in_ok-connection.ensures)) w.result-is
    ]
