-- What bytes begin with: one thing at most.
use Rattle.std.proofs.Common.{◌≡◌, inl, inr, List, ◌++◌, ℕ, true, Some, refl, sym, ap, subst, ◌∙◌}
use Rattle.stix_json.specs.declared.envelope.Envelope.{Envelope}
use Rattle.stix_json.specs.declared.refusal.JsonRefusal.{JsonRefusal}
use Rattle.stix_json.specs.declared.refusal.JsonRefusal.TheVariants as Json
use Rattle.stix_json.specs.Envelopes.{IsEnvelopeOf, HasNoEnvelopeAs, IsNoPage, next_in}
use Rattle.http_messages.specs.Replies.{Outcome as ReplyOutcome, IsOutcome as IsReplyOutcome}
use Rattle.http_messages.specs.Replies.Outcome.{Whole, Fails as Refuses, Ends as Cuts}
use Rattle.taxii_client.specs.declared.reply_refusal.ReplyRefusal.{ReplyRefusal}
use Rattle.taxii_client.specs.ReplyRefusals.{for_head}
use Rattle.taxii_client.specs.Fetches.{IsPageReply, IsRefusedPage, FetchOutcome, IsFetchOutcome}
use Rattle.taxii_client.specs.Fetches.FetchOutcome.{Comes, Fails, Ends}

-- a body isn't a page and none
no_page : (body : List ℕ) (envelope : Envelope) (refusal : JsonRefusal) → IsEnvelopeOf body envelope → (refusal ≡ Json.NoMemory → ⊥) → HasNoEnvelopeAs body refusal → ⊥
no_page body envelope Json.NotJson is other none = none is.whole is.value
no_page body envelope (Json.TooDeep path) is other none = none
no_page body envelope (Json.NotWhole path) is other none = none
no_page body envelope (Json.Null path) is other none = none
no_page body envelope (Json.OutOfRange path) is other none = none
no_page body envelope Json.NotList is other none =
    let whole = is.value.value in
    let its = none.1.value in
    let same : none.0 ≡ is.whole = cc (whole, its) in
    by_lack (subst IsNoPage same none.2)
  where
    by_lack : IsNoPage is.whole → ⊥
    by_lack (inl list) = let there = is.objects in cc
    by_lack (inr (inl more)) = let there = is.more in cc
    by_lack (inr (inr next)) =
        let more = next.0 in
        let there = is.more in
        let its : true ≡ envelope.more = cc (more, there) in
        let asks = subst (λ more. next_in more is.whole ≡ Some envelope.next) (sym its) is.next in
        let lacks = next.1 in
        cc (asks, lacks)
no_page body envelope Json.NoMemory is other none = other refl

-- what bytes begin with as a reply
abbrev OneReply : Type 0
OneReply = (bytes : List ℕ) (first second : ReplyOutcome) → IsReplyOutcome bytes first → IsReplyOutcome bytes second → first ≡ second

one_refusal : OneReply → (bytes a r b s : List ℕ) (p q : ReplyRefusal) → bytes ≡ a ++ r → bytes ≡ b ++ s → IsRefusedPage a p → IsRefusedPage b q → p ≡ q
one_refusal one bytes a r b s p q is other (inl head) (inl again) =
    let same = one bytes (Refuses head.0) (Refuses again.0) (a, r, is, head.2) (b, s, other, again.2) in
    let heads : head.0 ≡ again.0 = cc same in
    head.1 ∙ ap for_head heads ∙ sym again.1
one_refusal one bytes a r b s p q is other (inl head) (inr body) =
    let same = one bytes (Refuses head.0) (Whole body.1) (a, r, is, head.2) (b, s, other, body.2) in
    absurd (cc same)
one_refusal one bytes a r b s p q is other (inr body) (inl head) =
    let same = one bytes (Whole body.1) (Refuses head.0) (a, r, is, body.2) (b, s, other, head.2) in
    absurd (cc same)
one_refusal one bytes a r b s p q is other (inr body) (inr again) = body.0 ∙ sym again.0

not_page_refused : OneReply → (bytes a r b s : List ℕ) (envelope : Envelope) (q : ReplyRefusal) → bytes ≡ a ++ r → bytes ≡ b ++ s → IsPageReply a envelope → IsRefusedPage b q → ⊥
not_page_refused one bytes a r b s envelope q is other page (inl head) =
    let same = one bytes (Whole page.body) (Refuses head.0) (a, r, is, page.is_reply) (b, s, other, head.2) in
    cc same
not_page_refused one bytes a r b s envelope q is other page (inr body) =
    let same = one bytes (Whole page.body) (Whole body.1) (a, r, is, page.is_reply) (b, s, other, body.2) in
    let bodies : page.body ≡ body.1 = cc same in
    no_page body.1 envelope body.3.0 (subst (λ (b : List ℕ). IsEnvelopeOf b envelope) bodies page.is_envelope) body.3.1 body.3.2

not_refused_cut : OneReply → (bytes a r : List ℕ) (p : ReplyRefusal) → bytes ≡ a ++ r → IsRefusedPage a p → IsReplyOutcome bytes Cuts → ⊥
not_refused_cut one bytes a r p is (inl head) cut = let same = one bytes (Refuses head.0) Cuts (a, r, is, head.2) cut in cc same
not_refused_cut one bytes a r p is (inr body) cut = let same = one bytes (Whole body.1) Cuts (a, r, is, body.2) cut in cc same

not_page_cut : OneReply → (bytes a r : List ℕ) (envelope : Envelope) → bytes ≡ a ++ r → IsPageReply a envelope → IsReplyOutcome bytes Cuts → ⊥
not_page_cut one bytes a r envelope is page cut = let same = one bytes (Whole page.body) Cuts (a, r, is, page.is_reply) cut in cc same

pub one_outcome : OneReply → (bytes : List ℕ) (first second : FetchOutcome) → IsFetchOutcome bytes first → IsFetchOutcome bytes second → first ≡ second
one_outcome one bytes Comes Comes a b = refl
one_outcome one bytes Comes (Fails q) a b = absurd (not_page_refused one bytes a.0 a.1 b.0 b.1 a.2 q a.3 b.2 a.4 b.3)
one_outcome one bytes Comes Ends a b = absurd (not_page_cut one bytes a.0 a.1 a.2 a.3 a.4 b)
one_outcome one bytes (Fails p) Comes a b = absurd (not_page_refused one bytes b.0 b.1 a.0 a.1 b.2 p b.3 a.2 b.4 a.3)
one_outcome one bytes (Fails p) (Fails q) a b = ap Fails (one_refusal one bytes a.0 a.1 b.0 b.1 p q a.2 b.2 a.3 b.3)
one_outcome one bytes (Fails p) Ends a b = absurd (not_refused_cut one bytes a.0 a.1 p a.2 a.3 b)
one_outcome one bytes Ends Comes a b = absurd (not_page_cut one bytes b.0 b.1 b.2 b.3 b.4 a)
one_outcome one bytes Ends (Fails q) a b = absurd (not_refused_cut one bytes b.0 b.1 q b.2 b.3 a)
one_outcome one bytes Ends Ends a b = refl
