use Rattle.std.proofs.Common.{◌∙◌, ap, map, List, ℕ, Bor}
use Rattle.std.specs.Str.{is_utf8}
use Rattle.std.proofs.lemmas.Str.{is_utf8-from_IsUtf8}
use Rattle.http_messages.proofs.ValueLemmas.{all_of}
use Rattle.http_messages.proofs.RequestCheckLemmas.{are_texts}
use Rattle.http_messages.proofs.request_head.Head.request.Goals as goal

pub text_of-requires : goal.text_of-requires
text_of-requires c = rw c.target.ensures (is_utf8-from_IsUtf8 _ c.requires.target)

pub joined-requires : goal.joined-requires
joined-requires c =
    all_of is_utf8 _ _ (ap (map (λ (x : Bor (List ℕ)). x.now)) c.deref.ensures.value ∙ c.in_ok-values.ensures)
    ∙ (are_texts c.args.self.now c.requires.texts).accept

pub first_text-requires : goal.first_text-requires
first_text-requires c =
    all_of is_utf8 _ _ (ap (map (λ (x : Bor (List ℕ)). x.now)) c.deref-2.ensures.value ∙ c.in_ok-values-2.ensures)
    ∙ (are_texts c.args.self.now c.requires.texts).content_type
