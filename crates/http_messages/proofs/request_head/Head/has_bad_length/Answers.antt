use Rattle.std.proofs.Common.{◌∙◌, ap, map, List, ℕ, Bor}
use Rattle.http_messages.proofs.RequestCheckLemmas.{bad_length}
use Rattle.http_messages.proofs.request_head.Head.has_bad_length.Goals as goal

pub returns : goal.returns
returns c =
    bad_length _ _ c.deref-2.result.now c.deref.result.now _
    (ap (map (λ (x : Bor (List ℕ)). x.now)) c.deref-2.ensures.value ∙ c.in_ok-lengths.ensures)
    (ap (map (λ (x : Bor (List ℕ)). x.now)) c.deref.ensures.value ∙ c.in_ok-lengths.ensures)
    c.first_length.ensures.number c.all_state.ensures
