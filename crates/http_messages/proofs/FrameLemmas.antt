-- What bytes begin with: one thing at most, and the same whatever follows.
use Rattle.std.proofs.Common.{◌≡◌, ◌≢◌, ℕ, ◌+◌, ◌-◌, ◌<◌, ◌≤◌, inl, inr, ◌==◌, List, ◌++◌, length, get_or, take, drop, slice_range, Some, None, refl, sym, ap, subst, ◌∙◌, arith, length-append, length-drop}
use Rattle.std.proofs.lemmas.List.{take-append-le, drop-append-le}
use Rattle.httparse.proofs.GrammarLemmas.{request_unique}
use Rattle.http_messages.specs.declared.frame.TheConstants.{MAX_HEAD}
use Rattle.http_messages.specs.declared.frame.Frame.{Frame}
use Rattle.http_messages.specs.declared.frame.Frame.TheVariants.{More, Request as Given, Refused}
use Rattle.http_messages.specs.declared.request_refusal.Refusal.{Refusal}
use Rattle.http_messages.specs.declared.request.Request.{Request}
use Rattle.http_messages.specs.RequestHeads.{IsHeadAt, HasNoHeadIn}
use Rattle.http_messages.specs.Fields.{HeadParts, head_parts, body_length}
use Rattle.http_messages.specs.Frames.{head_refusal, framed_request, HoldsHead, IsRequestHeadReadAs, IsUnreadableRequestHead, AcceptsHead, NeedsHead, GivesRequest, HasLongHead, IsRefusedRequest, IsFirstFrame}
use Rattle.http_messages.specs.inner.Searching.{IsMore, Needs, HasNoHead}
use Rattle.http_messages.proofs.RequestHeadLemmas.{after_low, head_grows, head_shrinks, one_head}

-- ---- what stands in the bytes stands there whatever follows

pub range_grows : (bytes more : List ℕ) (a b : ℕ) → a ≤ b → b ≤ length bytes → slice_range (bytes ++ more) a b ≡ slice_range bytes a b
range_grows bytes more a b order inside =
    ap (λ (l : List ℕ). take (b - a) l) (drop-append-le a bytes more (omega arith))
    ∙ take-append-le (b - a) (drop a bytes) more (omega (arith, length-drop a bytes))

pub head_order : (bytes : List ℕ) (start end : ℕ) → IsHeadAt bytes start end → start ≤ end
head_order bytes start end head =
    omega (arith, head.after, head.end_is, after_low (get_or bytes (head.last + 1) 0 == 10) head.last)

pub holds_grows : (bytes more : List ℕ) (start end : ℕ) → HoldsHead bytes start end → HoldsHead (bytes ++ more) start end
holds_grows bytes more start end holds = record { at = head_grows bytes more start end holds.at; fits = holds.fits }

pub same_bytes : (bytes more : List ℕ) (start end : ℕ) → HoldsHead bytes start end → slice_range (bytes ++ more) start end ≡ slice_range bytes start end
same_bytes bytes more start end holds = range_grows bytes more start end (head_order bytes start end holds.at) holds.at.within

pub accepts_grows : (greatest : ℕ) (bytes more : List ℕ) (start end : ℕ) (parts : HeadParts) → AcceptsHead greatest bytes start end parts → AcceptsHead greatest (bytes ++ more) start end parts
accepts_grows greatest bytes more start end parts accepts = record {
  head = holds_grows bytes more start end accepts.head;
  read = subst (λ (head : List ℕ). IsRequestHeadReadAs head parts) (sym (same_bytes bytes more start end accepts.head)) accepts.read;
  fine = accepts.fine;
}

-- a body that isn't whole isn't whole until all of it has come
pub needs_body : (greatest : ℕ) (bytes : List ℕ) (start end : ℕ) (parts : HeadParts) → AcceptsHead greatest bytes start end parts → Needs greatest bytes (end + body_length parts)
needs_body greatest bytes start end parts accepts more short = inr (record {
  start = start;
  end = end;
  parts = parts;
  accepts = accepts_grows greatest bytes more start end parts accepts;
  short = short;
})

pub needs_nothing : (greatest : ℕ) (bytes : List ℕ) → Needs greatest bytes 0
needs_nothing greatest bytes more short = absurd (omega arith)

-- ---- of two of the cases one is none

no_needs_holds : (bytes : List ℕ) (s e : ℕ) → NeedsHead bytes → HoldsHead bytes s e → ⊥
no_needs_holds bytes s e needs holds = let within = holds.at.within in let beyond = needs.none s e holds.at in omega arith

no_long_holds : (bytes : List ℕ) (s e : ℕ) → HasLongHead bytes → HoldsHead bytes s e → ⊥
no_long_holds bytes s e long holds = let fits = holds.fits in let beyond = long.none s e holds.at in omega arith

-- two readings of the heads of the same bytes
pub record SameRead (e f : ℕ) (parts other : HeadParts) : Type 0 where
  pub same_end : e ≡ f
  pub same_parts : parts ≡ other

same_tree : (head : List ℕ) (parts other : HeadParts) → IsRequestHeadReadAs head parts → IsRequestHeadReadAs head other → parts ≡ other
same_tree head parts other read again =
    read.parts_are ∙ ap head_parts (request_unique _ _ _ _ _ read.reads again.reads).0 ∙ sym again.parts_are

same_read : (bytes : List ℕ) (s e t f : ℕ) (parts other : HeadParts) → HoldsHead bytes s e → IsRequestHeadReadAs (slice_range bytes s e) parts
    → HoldsHead bytes t f → IsRequestHeadReadAs (slice_range bytes t f) other → SameRead e f parts other
same_read bytes s e t f parts other holds read again other_read =
    let same = one_head bytes s e t f holds.at again.at in
    let there : IsRequestHeadReadAs (slice_range bytes s e) other = rw (same.same_start, same.same_end) other_read in
    record { same_end = same.same_end; same_parts = same_tree _ parts other read there }

no_bad_read : (bytes : List ℕ) (s e t f : ℕ) (parts : HeadParts) → HoldsHead bytes s e → IsUnreadableRequestHead (slice_range bytes s e)
    → HoldsHead bytes t f → IsRequestHeadReadAs (slice_range bytes t f) parts → ⊥
no_bad_read bytes s e t f parts holds bad again read =
    let same = one_head bytes s e t f holds.at again.at in
    let there : IsRequestHeadReadAs (slice_range bytes s e) parts = rw (same.same_start, same.same_end) read in
    bad there.tree there.reads

no_more_given : (greatest : ℕ) (bytes : List ℕ) (request : Request) (rest : List ℕ) → IsMore greatest bytes → GivesRequest greatest bytes request rest → ⊥
no_more_given greatest bytes request rest (inl needs) gives = no_needs_holds bytes _ _ needs gives.accepts.head
no_more_given greatest bytes request rest (inr body) gives =
    let same = same_read bytes _ _ _ _ _ _ body.accepts.head body.accepts.read gives.accepts.head gives.accepts.read in
    let size : body_length body.parts ≡ body_length gives.parts = ap body_length same.same_parts in
    let end = same.same_end in
    let short = body.short in
    let whole = gives.whole in
    omega arith

none_or_some : (greatest : ℕ) (parts other : HeadParts) (refusal : Refusal) → parts ≡ other → head_refusal greatest parts ≡ None → head_refusal greatest other ≡ Some refusal → ⊥
none_or_some greatest parts other refusal same fine refused = let e : None ≡ Some refusal = sym fine ∙ ap (head_refusal greatest) same ∙ refused in cc

no_accepted_refused : (greatest : ℕ) (bytes : List ℕ) (s e : ℕ) (parts : HeadParts) (refusal : Refusal) → AcceptsHead greatest bytes s e parts → IsRefusedRequest greatest bytes refusal → ⊥
no_accepted_refused greatest bytes s e parts refusal accepts (inl long) = no_long_holds bytes s e long.0 accepts.head
no_accepted_refused greatest bytes s e parts refusal accepts (inr (inl bad)) =
    no_bad_read bytes _ _ s e parts bad.0.head bad.0.bad accepts.head accepts.read
no_accepted_refused greatest bytes s e parts refusal accepts (inr (inr refused)) =
    let same = same_read bytes s e _ _ parts _ accepts.head accepts.read refused.head refused.read in
    none_or_some greatest parts _ refusal same.same_parts accepts.fine refused.refused

no_more_refused : (greatest : ℕ) (bytes : List ℕ) (refusal : Refusal) → IsMore greatest bytes → IsRefusedRequest greatest bytes refusal → ⊥
no_more_refused greatest bytes refusal (inl needs) (inl long) = let room = needs.room in let full = long.0.full in omega arith
no_more_refused greatest bytes refusal (inl needs) (inr (inl bad)) = no_needs_holds bytes _ _ needs bad.0.head
no_more_refused greatest bytes refusal (inl needs) (inr (inr refused)) = no_needs_holds bytes _ _ needs refused.head
no_more_refused greatest bytes refusal (inr body) refused = no_accepted_refused greatest bytes _ _ _ refusal body.accepts refused

one_refusal : (greatest : ℕ) (bytes : List ℕ) (p q : Refusal) → IsRefusedRequest greatest bytes p → IsRefusedRequest greatest bytes q → p ≡ q
one_refusal greatest bytes p q (inl long) (inl again) = long.1 ∙ sym again.1
one_refusal greatest bytes p q (inl long) (inr (inl bad)) = absurd (no_long_holds bytes _ _ long.0 bad.0.head)
one_refusal greatest bytes p q (inl long) (inr (inr refused)) = absurd (no_long_holds bytes _ _ long.0 refused.head)
one_refusal greatest bytes p q (inr (inl bad)) (inl long) = absurd (no_long_holds bytes _ _ long.0 bad.0.head)
one_refusal greatest bytes p q (inr (inl bad)) (inr (inl again)) = bad.1 ∙ sym again.1
one_refusal greatest bytes p q (inr (inl bad)) (inr (inr refused)) =
    absurd (no_bad_read bytes _ _ _ _ _ bad.0.head bad.0.bad refused.head refused.read)
one_refusal greatest bytes p q (inr (inr refused)) (inl long) = absurd (no_long_holds bytes _ _ long.0 refused.head)
one_refusal greatest bytes p q (inr (inr refused)) (inr (inl bad)) =
    absurd (no_bad_read bytes _ _ _ _ _ bad.0.head bad.0.bad refused.head refused.read)
one_refusal greatest bytes p q (inr (inr refused)) (inr (inr again)) =
    let same = same_read bytes _ _ _ _ _ _ refused.head refused.read again.head again.read in
    let e : Some p ≡ Some q = sym refused.refused ∙ ap (head_refusal greatest) same.same_parts ∙ again.refused in
    cc

-- two frames of the same bytes
record SameFrame (frame other : Frame) (rest other_rest : List ℕ) : Type 0 where
  pub same_frame : frame ≡ other
  pub same_rest : rest ≡ other_rest

one_given : (greatest : ℕ) (bytes : List ℕ) (p q : Request) (r s : List ℕ) → GivesRequest greatest bytes p r → GivesRequest greatest bytes q s → SameFrame (Given p) (Given q) r s
one_given greatest bytes p q r s x y =
    let same = same_read bytes _ _ _ _ _ _ x.accepts.head x.accepts.read y.accepts.head y.accepts.read in
    let size : x.end + body_length x.parts ≡ y.end + body_length y.parts =
    ap (λ (n : ℕ). n + body_length x.parts) same.same_end ∙ ap (λ (h : HeadParts). y.end + body_length h) same.same_parts in
    let body : slice_range bytes x.end (x.end + body_length x.parts) ≡ slice_range bytes y.end (y.end + body_length y.parts) =
    ap (λ (n : ℕ). slice_range bytes x.end n) size ∙ ap (λ (n : ℕ). slice_range bytes n (y.end + body_length y.parts)) same.same_end in
    let request : p ≡ q =
    x.request_is ∙ ap (λ (h : HeadParts). framed_request h (slice_range bytes x.end (x.end + body_length x.parts))) same.same_parts
    ∙ ap (framed_request y.parts) body ∙ sym y.request_is in record {
      same_frame = ap Given request;
      same_rest = x.rest_is ∙ ap (λ (n : ℕ). drop n bytes) size ∙ sym y.rest_is;
    }

pub one_frame : (greatest : ℕ) (bytes : List ℕ) (frame other : Frame) (rest other_rest : List ℕ) → IsFirstFrame greatest bytes frame rest
    → IsFirstFrame greatest bytes other other_rest → (frame ≡ other) × (rest ≡ other_rest)
one_frame g b More More r s x y = (refl, x.1 ∙ sym y.1)
one_frame g b More (Given q) r s x y = absurd (no_more_given g b q s x.0 y)
one_frame g b More (Refused p) r s x y = absurd (no_more_refused g b p x.0 y.0)
one_frame g b (Given q) More r s x y = absurd (no_more_given g b q r y.0 x)
one_frame g b (Given q) (Given p) r s x y = let same = one_given g b q p r s x y in (same.same_frame, same.same_rest)
one_frame g b (Given q) (Refused p) r s x y = absurd (no_accepted_refused g b _ _ _ p x.accepts y.0)
one_frame g b (Refused p) More r s x y = absurd (no_more_refused g b p y.0 x.0)
one_frame g b (Refused p) (Given q) r s x y = absurd (no_accepted_refused g b _ _ _ p y.accepts x.0)
one_frame g b (Refused p) (Refused q) r s x y = (ap Refused (one_refusal g b p q x.0 y.0), x.1 ∙ sym y.1)

-- ---- what is no More is the same whatever follows

long_grows : (bytes more : List ℕ) → HasLongHead bytes → HasLongHead (bytes ++ more)
long_grows bytes more long =
    let full = long.full in record {
      full = omega (arith, length-append bytes more);
      none = λ s e head.
          let not_within : e ≤ MAX_HEAD → ⊥ = λ within. let beyond = long.none s e (head_shrinks bytes more s e head (omega arith)) in omega arith in
          omega arith;
    }

refused_grows : (greatest : ℕ) (bytes more : List ℕ) (p : Refusal) → IsRefusedRequest greatest bytes p → IsRefusedRequest greatest (bytes ++ more) p
refused_grows greatest bytes more p (inl long) = inl (long_grows bytes more long.0, long.1)
refused_grows greatest bytes more p (inr (inl bad)) = inr (inl (
  record {
    start = bad.0.start;
    end = bad.0.end;
    head = holds_grows bytes more _ _ bad.0.head;
    bad = subst IsUnreadableRequestHead (sym (same_bytes bytes more _ _ bad.0.head)) bad.0.bad;
  },
  bad.1,
))
refused_grows greatest bytes more p (inr (inr refused)) = inr (inr (record {
  start = refused.start;
  end = refused.end;
  parts = refused.parts;
  head = holds_grows bytes more _ _ refused.head;
  read = subst (λ (head : List ℕ). IsRequestHeadReadAs head refused.parts) (sym (same_bytes bytes more _ _ refused.head)) refused.read;
  refused = refused.refused;
}))

given_grows : (greatest : ℕ) (bytes more : List ℕ) (request : Request) (rest : List ℕ) → GivesRequest greatest bytes request rest → GivesRequest greatest (bytes ++ more) request (rest ++ more)
given_grows greatest bytes more request rest gives =
    let whole = gives.whole in record {
      start = gives.start;
      end = gives.end;
      parts = gives.parts;
      accepts = accepts_grows greatest bytes more _ _ _ gives.accepts;
      whole = omega (arith, length-append bytes more);
      request_is = gives.request_is ∙ ap (framed_request gives.parts) (sym (range_grows bytes more gives.end (gives.end + body_length gives.parts) (omega arith) whole));
      rest_is = ap (λ (l : List ℕ). l ++ more) gives.rest_is ∙ sym (drop-append-le (gives.end + body_length gives.parts) bytes more whole);
    }

pub later_frame : (greatest : ℕ) (bytes more : List ℕ) (frame : Frame) (rest : List ℕ) → IsFirstFrame greatest bytes frame rest → frame ≢ More
    → IsFirstFrame greatest (bytes ++ more) frame (rest ++ more)
later_frame g b more More rest x not = absurd (not refl)
later_frame g b more (Given q) rest x not = given_grows g b more q rest x
later_frame g b more (Refused p) rest x not = (refused_grows g b more p x.0, ap (λ (l : List ℕ). l ++ more) x.1)

-- ---- a request takes a byte at least

pub takes_byte : (greatest : ℕ) (bytes : List ℕ) (request : Request) (rest : List ℕ) → IsFirstFrame greatest bytes (Given request) rest → length rest < length bytes
takes_byte greatest bytes request rest gives =
    let head = gives.accepts.head.at in
    let low : 2 ≤ gives.end = omega (arith, head.end_is, after_low (get_or bytes (head.last + 1) 0 == 10) head.last) in
    let whole = gives.whole in
    omega (arith, ap length gives.rest_is, length-drop (gives.end + body_length gives.parts) bytes)

-- ---- bytes without a head

pub none_in : (bytes : List ℕ) (n : ℕ) → HasNoHead bytes → HasNoHeadIn n bytes
none_in bytes n none s e head = absurd (none s e head)
