use Rattle.std.proofs.Common.{◌∙◌, ap, not, map, List, ℕ, Bor}
use Rattle.std.specs.Str.{is_utf8}
use Rattle.http_messages.proofs.ValueLemmas.{all_of}
use Rattle.http_messages.proofs.request_head.Head.has_bad_text_in.Goals as goal

pub returns : goal.returns
returns c =
    ap not (c.are_texts.ensures ∙ all_of is_utf8 _ _ (ap (map (λ (x : Bor (List ℕ)). x.now)) c.deref.ensures.value ∙ c.in_ok-values.ensures))
