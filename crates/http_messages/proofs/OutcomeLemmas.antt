-- What bytes begin with: one thing at most, and which beginnings of it are cut.
use Rattle.std.proofs.Common.{◌≡◌, ◌⊎◌, inl, inr, ℕ, ◌<◌, ◌≤◌, List, [], ◌++◌, length, take, Some, None, refl, sym, ap, subst, ◌∙◌, arith, length-append}
use Rattle.std.proofs.lemmas.Bool.{cases_lt}
use Rattle.std.proofs.lemmas.List.{append_assoc}
use Rattle.std.proofs.Math.Seq.{take-append_seam}
use Rattle.httparse.proofs.GrammarLemmas.{response_unique}
use Rattle.http_messages.specs.declared.frame.TheConstants.{MAX_HEAD}
use Rattle.http_messages.specs.declared.reply_refusal.HeadRefusal.{HeadRefusal}
use Rattle.http_messages.specs.ReplyHeads.{IsHead, HoldNoHead, ReplyHeadParts, reply_head_parts, IsResponseHeadReadAs, reply_body_length, reply_head_refusal}
use Rattle.http_messages.specs.Replies.{Announces, IsReply, IsLong, IsHeadRefusalOf, IsRefusedReply, IsCutReply, IsNeeded, Outcome, IsOutcome}
use Rattle.http_messages.specs.Replies.Outcome.{Whole, Fails, Ends}
use Rattle.http_messages.proofs.ReplyHeadLemmas.{overlap, no_head_front, head_front, head_there, one_head}

same_front : (a b c d : List ℕ) → a ++ b ≡ c ++ d → length a ≡ length c → a ≡ c
same_front a b c d same long =
    sym (take-append_seam a b) ∙ ap (take (length a)) same ∙ ap (λ (n : ℕ). take n (c ++ d)) long ∙ take-append_seam c d

-- ---- one reading of a head

same_parts : (head : List ℕ) (parts other : ReplyHeadParts) → IsResponseHeadReadAs head parts → IsResponseHeadReadAs head other → parts ≡ other
same_parts head parts other read again =
    read.parts_are ∙ ap reply_head_parts (response_unique _ _ _ _ _ read.reads again.reads).0 ∙ sym again.parts_are

one_count : (head : List ℕ) (m n : ℕ) → Announces head m → Announces head n → m ≡ n
one_count head m n first second = first.count_is ∙ ap reply_body_length (same_parts head _ _ first.read second.read) ∙ sym second.count_is

none_or_some : (parts other : ReplyHeadParts) (refusal : HeadRefusal) → parts ≡ other → reply_head_refusal parts ≡ None → reply_head_refusal other ≡ Some refusal → ⊥
none_or_some parts other refusal same fine refused = let e : None ≡ Some refusal = sym fine ∙ ap reply_head_refusal same ∙ refused in cc

not_both : (head : List ℕ) (count : ℕ) (refusal : HeadRefusal) → Announces head count → IsHeadRefusalOf head refusal → ⊥
not_both head count refusal announces (inl bad) = bad.0 announces.read.tree announces.read.reads
not_both head count refusal announces (inr refused) =
    none_or_some _ _ refusal (same_parts head _ _ announces.read refused.1) announces.fine refused.2

one_reason : (head : List ℕ) (p q : HeadRefusal) → IsHeadRefusalOf head p → IsHeadRefusalOf head q → p ≡ q
one_reason head p q (inl bad) (inl again) = bad.1 ∙ sym again.1
one_reason head p q (inl bad) (inr refused) = absurd (bad.0 refused.1.tree refused.1.reads)
one_reason head p q (inr refused) (inl bad) = absurd (bad.0 refused.1.tree refused.1.reads)
one_reason head p q (inr refused) (inr again) =
    let e : Some p ≡ Some q = sym refused.2 ∙ ap reply_head_refusal (same_parts head _ _ refused.1 again.1) ∙ again.2 in
    cc

-- ---- bytes with a head are no bytes without one

no_head_long : (head bytes r s : List ℕ) → IsHead head → length head ≤ MAX_HEAD → IsLong bytes → head ++ r ≡ bytes ++ s → ⊥
no_head_long head bytes r s is_head fits long same =
    let over = overlap head r bytes s same (omega (arith, fits, long.full)) in
    head_there head is_head (no_head_front head over.middle (subst HoldNoHead over.longer long.none))

no_head_none : (head bytes r : List ℕ) → IsHead head → HoldNoHead bytes → bytes ≡ head ++ r → ⊥
no_head_none head bytes r is_head none is = head_there head is_head (no_head_front head r (subst HoldNoHead is none))

-- ---- of two of the cases one is none

replied : (reply body rest bytes : List ℕ) (r : IsReply reply body) → bytes ≡ reply ++ rest → bytes ≡ r.head ++ (body ++ rest)
replied reply body rest bytes r is = is ∙ ap (λ (front : List ℕ). front ++ rest) r.bytes ∙ append_assoc r.head body rest

one_body : (bytes a x r b y s : List ℕ) → IsReply a x → IsReply b y → bytes ≡ a ++ r → bytes ≡ b ++ s → x ≡ y
one_body bytes a x r b y s first second is other =
    let same = one_head first.head second.head (x ++ r) (y ++ s) first.announces.is_head second.announces.is_head
    (sym (replied a x r bytes first is) ∙ replied b y s bytes second other) in
    let there : Announces first.head (length y) = subst (λ (head : List ℕ). Announces head (length y)) (sym same.0) second.announces in
    same_front x r y s same.1 (one_count first.head (length x) (length y) first.announces there)

not_reply_refused : (bytes a x r f s : List ℕ) (p : HeadRefusal) → IsReply a x → IsRefusedReply f p → bytes ≡ a ++ r → bytes ≡ f ++ s → ⊥
not_reply_refused bytes a x r f s p reply (inl long) is other =
    no_head_long reply.head f (x ++ r) s reply.announces.is_head reply.announces.fits long.0 (sym (replied a x r bytes reply is) ∙ other)
not_reply_refused bytes a x r f s p reply (inr refused) is other =
    let same = one_head reply.head f (x ++ r) s reply.announces.is_head refused.is_head (sym (replied a x r bytes reply is) ∙ other) in
    not_both f (length x) p (subst (λ (head : List ℕ). Announces head (length x)) same.0 reply.announces) refused.refused

one_refusal : (bytes f r g s : List ℕ) (p q : HeadRefusal) → IsRefusedReply f p → IsRefusedReply g q → bytes ≡ f ++ r → bytes ≡ g ++ s → p ≡ q
one_refusal bytes f r g s p q (inl long) (inl again) is other = long.1 ∙ sym again.1
one_refusal bytes f r g s p q (inl long) (inr refused) is other = absurd (no_head_long g f s r refused.is_head refused.fits long.0 (sym other ∙ is))
one_refusal bytes f r g s p q (inr refused) (inl long) is other = absurd (no_head_long f g r s refused.is_head refused.fits long.0 (sym is ∙ other))
one_refusal bytes f r g s p q (inr refused) (inr again) is other =
    let same = one_head f g r s refused.is_head again.is_head (sym is ∙ other) in
    one_reason f p q refused.refused (subst (λ (head : List ℕ). IsHeadRefusalOf head q) (sym same.0) again.refused)

not_cut_reply : (bytes a x r : List ℕ) → IsCutReply bytes → IsReply a x → bytes ≡ a ++ r → ⊥
not_cut_reply bytes a x r (inl lacks) reply is = no_head_none reply.head bytes (x ++ r) reply.announces.is_head lacks.none (replied a x r bytes reply is)
not_cut_reply bytes a x r (inr lacks) reply is =
    let same = one_head reply.head lacks.head (x ++ r) lacks.some reply.announces.is_head lacks.announces.is_head (sym (replied a x r bytes reply is) ∙ lacks.bytes_are) in
    let count = one_count lacks.head (length x) lacks.count (subst (λ (head : List ℕ). Announces head (length x)) same.0 reply.announces) lacks.announces in
    omega (arith, count, lacks.short, ap length same.1, length-append x r)

not_cut_refused : (bytes f r : List ℕ) (p : HeadRefusal) → IsCutReply bytes → IsRefusedReply f p → bytes ≡ f ++ r → ⊥
not_cut_refused bytes f r p (inl lacks) (inl long) is = omega (arith, lacks.room, long.0.full, ap length is, length-append f r)
not_cut_refused bytes f r p (inl lacks) (inr refused) is = no_head_none f bytes r refused.is_head lacks.none is
not_cut_refused bytes f r p (inr lacks) (inl long) is = no_head_long lacks.head f lacks.some r lacks.announces.is_head lacks.announces.fits long.0 (sym lacks.bytes_are ∙ is)
not_cut_refused bytes f r p (inr lacks) (inr refused) is =
    let same = one_head lacks.head f lacks.some r lacks.announces.is_head refused.is_head (sym lacks.bytes_are ∙ is) in
    not_both f lacks.count p (subst (λ (head : List ℕ). Announces head lacks.count) same.0 lacks.announces) refused.refused

pub one_outcome : (bytes : List ℕ) (first second : Outcome) → IsOutcome bytes first → IsOutcome bytes second → first ≡ second
one_outcome bytes (Whole x) (Whole y) a b = ap Whole (one_body bytes a.0 x a.1 b.0 y b.1 a.3 b.3 a.2 b.2)
one_outcome bytes (Whole x) (Fails q) a b = absurd (not_reply_refused bytes a.0 x a.1 b.0 b.1 q a.3 b.3 a.2 b.2)
one_outcome bytes (Whole x) Ends a b = absurd (not_cut_reply bytes a.0 x a.1 b a.3 a.2)
one_outcome bytes (Fails p) (Whole y) a b = absurd (not_reply_refused bytes b.0 y b.1 a.0 a.1 p b.3 a.3 b.2 a.2)
one_outcome bytes (Fails p) (Fails q) a b = ap Fails (one_refusal bytes a.0 a.1 b.0 b.1 p q a.3 b.3 a.2 b.2)
one_outcome bytes (Fails p) Ends a b = absurd (not_cut_refused bytes a.0 a.1 p b a.3 a.2)
one_outcome bytes Ends (Whole y) a b = absurd (not_cut_reply bytes b.0 y b.1 a b.3 b.2)
one_outcome bytes Ends (Fails q) a b = absurd (not_cut_refused bytes b.0 b.1 q a b.3 b.2)
one_outcome bytes Ends Ends a b = refl

pub later_outcome : (bytes more : List ℕ) (outcome : Outcome) → IsOutcome bytes outcome → (outcome ≡ Ends → ⊥) → IsOutcome (bytes ++ more) outcome
later_outcome bytes more (Whole body) is whole = (is.0, is.1 ++ more, ap (λ (b : List ℕ). b ++ more) is.2 ∙ append_assoc is.0 is.1 more, is.3)
later_outcome bytes more (Fails refusal) is whole = (is.0, is.1 ++ more, ap (λ (b : List ℕ). b ++ more) is.2 ∙ append_assoc is.0 is.1 more, is.3)
later_outcome bytes more Ends is whole = absurd (whole refl)

-- ---- which bytes were needed

pub needed_none : IsNeeded []
needed_none front back is some = absurd (omega (arith, some, ap length is, length-append front back))

pub needed_head : (head : List ℕ) → IsHead head → length head ≤ MAX_HEAD → IsNeeded head
needed_head head is_head fits front back is some = inl (record {
  room = omega (arith, fits, some, ap length is, length-append front back);
  none = head_front head front back is_head is some;
})

pub needed_body : (head some : List ℕ) (count : ℕ) → Announces head count → length some ≤ count → IsNeeded (head ++ some)
needed_body head some count announces few front back is more = by_length (cases_lt (length front) (length head))
  where
    by_length : (length front < length head) ⊎ (length head ≤ length front) → IsCutReply front
    by_length (inl lt) =
        let over = overlap front back head some (sym is) (omega (arith, lt)) in
        needed_head head announces.is_head announces.fits front over.middle over.longer
        (omega (arith, lt, ap length over.longer, length-append front over.middle))
    by_length (inr le) =
        let over = overlap head some front back is le in inr (record {
          head = head;
          count = count;
          announces = announces;
          some = over.middle;
          bytes_are = over.longer;
          short = omega (arith, few, more, ap length over.rest, length-append over.middle back);
        })

pub cut_none : IsCutReply []
cut_none = inl (record { room = omega arith; none = λ k low lt. absurd (omega (arith, lt)) })

pub needed_reply : (reply body : List ℕ) → IsReply reply body → IsNeeded reply
needed_reply reply body is = subst IsNeeded (sym is.bytes) (needed_body is.head body (length body) is.announces (omega arith))

pub needed_refused : (bytes : List ℕ) (refusal : HeadRefusal) → IsRefusedReply bytes refusal → IsNeeded bytes
needed_refused bytes refusal (inl long) = λ front back is some. inl (record {
  room = omega (arith, long.0.full, some, ap length is, length-append front back);
  none = no_head_front front back (subst HoldNoHead is long.0.none);
})
needed_refused bytes refusal (inr refused) = needed_head bytes refused.is_head refused.fits
