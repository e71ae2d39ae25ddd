-- What the parts of a read make together.
use Rattle.std.proofs.Common.{◌≡◌, ◌⊎◌, inl, inr, ℕ, ◌+◌, ◌-◌, ◌<◌, ◌≤◌, true, false, List, [], ◌++◌, length, take, drop, Option, Some, None, option_map, is_some, IfSome, Result, Ok, Err, IsErrAnd, refl, sym, ap, subst, ◌∙◌, arith, length-append, length-drop}
use Rattle.std.proofs.lemmas.Bool.{cases_lt}
use Rattle.std.proofs.lemmas.List.{append_assoc, take-append-drop, take-append-le, length-take-le}
use Rattle.std.proofs.Math.Seq.{take-append-add, take-append_seam}
use borrow.Rule.Slice.PartMut.{put_mid, post_of}
use Rattle.flow_edges.specs.Flow.{left_after, IsNextOf}
use Rattle.http_messages.specs.declared.frame.TheConstants.{MAX_HEAD}
use Rattle.http_messages.specs.RequestHeads.{HasNoEnd, IsFirstEnd}
use Rattle.http_messages.specs.declared.reply_refusal.HeadRefusal.{HeadRefusal}
use Rattle.http_messages.specs.declared.reply_end.ReplyEnd.{ReplyEnd}
use Rattle.http_messages.specs.declared.reply_end.ReplyEnd.TheVariants.{Fault, Cut, Refused, NoMemory}
use Rattle.http_messages.specs.ReplyHeads.{IsHead, HoldNoHead}
use Rattle.http_messages.specs.Replies.{Announces, IsRefusedHead, IsCutReply, TakesFromLink, IsReplyTakenFor, ReadsReply}
use Rattle.http_messages.specs.inner.Reading.{ReadsHead, ReadsBody, IsBodyTaken}
use Rattle.http_messages.proofs.ReplyHeadLemmas.{first_of_all, none_of_all, whole_head}
use Rattle.http_messages.proofs.OutcomeLemmas.{needed_none, needed_head, needed_body}

-- ---- bytes that are taken

pub takes_none : (left : Option (List ℕ)) → TakesFromLink [] left left
takes_none None = refl
takes_none (Some bytes) = refl

-- first these bytes, and then some more
pub takes_both : (first more : List ℕ) (left middle now : Option (List ℕ)) → TakesFromLink first left middle → TakesFromLink more middle now → TakesFromLink (first ++ more) left now
takes_both first more left middle None begins continues = begins ∙ ap (option_map (λ rest. first ++ rest)) continues
takes_both first more left middle (Some rest) begins continues =
    begins ∙ ap (option_map (λ rest. first ++ rest)) continues ∙ ap Some (sym (append_assoc first more rest))

-- what one read took
pub takes_read : (n : ℕ) (chunk : List ℕ) (left now : Option (List ℕ)) → n ≤ length chunk → IsNextOf (take n chunk) left → now ≡ left_after n left → TakesFromLink (take n chunk) left now
takes_read n chunk None now few next rest = rw rest refl
takes_read n chunk (Some bytes) now few next rest =
    let size : length (take n chunk) ≡ n = length-take-le n chunk few in
    let front : take n bytes ≡ take n chunk = ap (λ (k : ℕ). take k bytes) (sym size) ∙ next in
    rw rest (ap Some (sym (take-append-drop n bytes) ∙ ap (λ (b : List ℕ). b ++ drop n bytes) front))

-- ---- the head

-- the bytes at the front of the buffer after a read after them
pub grown : (k end count : ℕ) (buffer chunk : List ℕ) → end ≤ length buffer → count ≤ length chunk
    → take (end + count) (put_mid end k buffer chunk) ≡ take end buffer ++ take count chunk
grown k end count buffer chunk inside few =
    let size : length (take end buffer) ≡ end = length-take-le end buffer inside in
    ap (λ (n : ℕ). take (n + count) (put_mid end k buffer chunk)) (sym size)
    ∙ take-append-add (take end buffer) (chunk ++ post_of end k buffer) count
    ∙ ap (λ (b : List ℕ). take end buffer ++ b) (take-append-le count chunk (post_of end k buffer) few)

start_of : (n from : ℕ) → from ≡ n - 2 → (from + 2 ≤ n) ⊎ (from ≡ 0)
start_of n from is = by_size (cases_lt n 2)
  where
    by_size : (n < 2) ⊎ (2 ≤ n) → (from + 2 ≤ n) ⊎ (from ≡ 0)
    by_size (inl small) = inr (omega (arith, is, small))
    by_size (inr large) = inl (omega (arith, is, large))

pub found_head : (old more : List ℕ) (least from : ℕ) (found : Option ℕ) → HoldNoHead old → length more ≤ least
    → ((some : List ℕ) → length some < least → HoldNoHead old → HoldNoHead (old ++ some))
    → from ≡ length old - 2 → IfSome found (IsFirstEnd (old ++ more) from) → is_some found ≡ true → IsHead (old ++ more)
found_head old more least from None none few lacks start first is = absurd (cc is)
found_head old more least from (Some offset) none few lacks start first is =
    whole_head old more least offset none few lacks (first_of_all old more from offset none (start_of (length old) from start) first)

pub no_head_found : (old more : List ℕ) (from : ℕ) (found : Option ℕ) → HoldNoHead old → from ≡ length old - 2
    → (found ≡ None → HasNoEnd (old ++ more) from (length (old ++ more))) → is_some found ≡ false → HoldNoHead (old ++ more)
no_head_found old more from None none start others is = none_of_all old more from none (start_of (length old) from start) (others refl)
no_head_found old more from (Some offset) none start others is = absurd (cc is)

-- ---- the answers of the parts

pub passed_on : {T E : Type 0} (P : Result T E → Type 0) (answer : Result T E) (its : E) → IsErrAnd answer (λ e. e ≡ its) → P (Err its) → P answer
passed_on P (Ok value) its passed fact = absurd passed
passed_on P (Err e) its passed fact = subst (λ e. P (Err e)) (sym passed) fact

pub body_unkept : (count : ℕ) (body more : List ℕ) (left middle now : Option (List ℕ)) → length (body ++ more) ≤ count → TakesFromLink body left middle → TakesFromLink more middle now
    → ReadsBody count left now (Err NoMemory)
body_unkept count body more left middle now few begins continues = record { taken = body ++ more; takes = takes_both body more left middle now begins continues; answers = few }

pub nothing_read : (left : Option (List ℕ)) → ReadsReply left left (Err NoMemory)
nothing_read left = record { taken = []; takes = takes_none left; answers = needed_none }

-- a head that was read
pub record HasHead (head : List ℕ) (left now : Option (List ℕ)) : Type 0 where
  pub is_head : IsHead head
  pub fits : length head ≤ MAX_HEAD
  pub takes : TakesFromLink head left now

pub has_head : (buffer head : List ℕ) (end : ℕ) (left now : Option (List ℕ)) → ReadsHead buffer left now (Ok end) → head ≡ take end buffer → HasHead head left now
has_head buffer head end left now reads is =
    let same : reads.taken ≡ head = reads.answers.2 ∙ sym is in record {
      is_head = subst IsHead same reads.answers.0;
      fits = subst (λ (b : List ℕ). length b ≤ MAX_HEAD) same reads.answers.1;
      takes = subst (λ (b : List ℕ). TakesFromLink b left now) same reads.takes;
    }

pub head_unjudged : (head : List ℕ) (left now : Option (List ℕ)) → HasHead head left now → ReadsReply left now (Err NoMemory)
head_unjudged head left now has = record { taken = head; takes = has.takes; answers = needed_head head has.is_head has.fits }

pub head_refused : (head : List ℕ) (left now : Option (List ℕ)) (refusal : HeadRefusal) → HasHead head left now → IsRefusedHead head refusal → ReadsReply left now (Err (Refused refusal))
head_refused head left now refusal has refused = record { taken = head; takes = has.takes; answers = inr refused }

pub with_body : (head : List ℕ) (count : ℕ) (left middle now : Option (List ℕ)) (answer : Result (List ℕ) ReplyEnd) → HasHead head left middle → Announces head count
    → ReadsBody count middle now answer → ReadsReply left now answer
with_body head count left middle now answer has announces reads = record {
  taken = head ++ reads.taken;
  takes = takes_both head reads.taken left middle now has.takes reads.takes;
  answers = by_answer answer reads.taken reads.answers;
}
  where
    lacking : (some : List ℕ) → length some < count → IsCutReply (head ++ some)
    lacking some short = inr (record { head = head; count = count; announces = announces; some = some; bytes_are = refl; short = short })

    by_answer : (answer : Result (List ℕ) ReplyEnd) (taken : List ℕ) → IsBodyTaken count taken now answer → IsReplyTakenFor (head ++ taken) now answer
    by_answer (Ok body) taken is =
        record { head = head; announces = subst (Announces head) (sym is.1) announces; bytes = ap (λ (b : List ℕ). head ++ b) is.0 }
    by_answer (Err Fault) taken is = lacking taken is
    by_answer (Err Cut) taken is = (lacking taken is.0, is.1)
    by_answer (Err (Refused refusal)) taken is = absurd is
    by_answer (Err NoMemory) taken is = needed_body head taken count announces is

-- ---- one read of a head

-- what stands before a read, and what it took
pub record HasRead (old : List ℕ) (least count : ℕ) (chunk : List ℕ) (left middle now : Option (List ℕ)) : Type 0 where
  pub none : HoldNoHead old
  pub takes : TakesFromLink old left middle
  pub lacks : (some : List ℕ) → length some < least → HoldNoHead old → HoldNoHead (old ++ some)
  pub few : count ≤ least
  pub within : count ≤ length chunk
  pub next : IsNextOf (take count chunk) middle
  pub rest : now ≡ left_after count middle

taken_with : (old chunk : List ℕ) (least count : ℕ) (left middle now : Option (List ℕ)) → HasRead old least count chunk left middle now → TakesFromLink (old ++ take count chunk) left now
taken_with old chunk least count left middle now has =
    takes_both old (take count chunk) left middle now has.takes (takes_read count chunk middle now has.within has.next has.rest)

pub head_read : (buffer chunk : List ℕ) (end k count least from : ℕ) (found : Option ℕ) (left middle now : Option (List ℕ)) → HasRead (take end buffer) least count chunk left middle now
    → end ≤ length buffer → end + count ≤ MAX_HEAD → from ≡ end - 2 → IfSome found (IsFirstEnd (take (end + count) (put_mid end k buffer chunk)) from) → is_some found ≡ true
    → ReadsHead (put_mid end k buffer chunk) left now (Ok (end + count))
head_read buffer chunk end k count least from found left middle now has inside fits start first is =
    let whole = grown k end count buffer chunk inside has.within in
    let size : length (take end buffer) ≡ end = length-take-le end buffer inside in
    let more : length (take count chunk) ≡ count = length-take-le count chunk has.within in
    let both : length (take end buffer ++ take count chunk) ≡ end + count = omega (arith, size, more, length-append (take end buffer) (take count chunk)) in record {
      taken = take end buffer ++ take count chunk;
      takes = taken_with (take end buffer) chunk least count left middle now has;
      answers = (
        found_head (take end buffer) (take count chunk) least from found has.none (omega (arith, more, has.few)) has.lacks (omega (arith, start, size))
            (subst (λ (bytes : List ℕ). IfSome found (IsFirstEnd bytes from)) whole first) is,
        omega (arith, both, fits),
        sym whole,
        sym both,
      );
    }

-- what stands after it where no head has ended
pub record IsUnended (bytes : List ℕ) (left now : Option (List ℕ)) : Type 0 where
  pub none : HoldNoHead bytes
  pub takes : TakesFromLink bytes left now

pub head_unended : (buffer chunk : List ℕ) (end k count least from : ℕ) (found : Option ℕ) (left middle now : Option (List ℕ)) → HasRead (take end buffer) least count chunk left middle now
    → end ≤ length buffer → from ≡ end - 2
    → (found ≡ None → HasNoEnd (take (end + count) (put_mid end k buffer chunk)) from (length (take (end + count) (put_mid end k buffer chunk)))) → is_some found ≡ false
    → IsUnended (take (end + count) (put_mid end k buffer chunk)) left now
head_unended buffer chunk end k count least from found left middle now has inside start none is =
    let whole = grown k end count buffer chunk inside has.within in
    let size : length (take end buffer) ≡ end = length-take-le end buffer inside in
    subst (λ (bytes : List ℕ). IsUnended bytes left now) (sym whole) (record {
      none = no_head_found (take end buffer) (take count chunk) from found has.none (omega (arith, start, size))
          (subst (λ (bytes : List ℕ). found ≡ None → HasNoEnd bytes from (length bytes)) whole none) is;
      takes = taken_with (take end buffer) chunk least count left middle now has;
    })

-- a buffer keeps its length when a part of it is overwritten
pub same_length : (a k : ℕ) (xs ys : List ℕ) → a + k ≤ length xs → length ys ≡ k → length (put_mid a k xs ys) ≡ length xs
same_length a k xs ys inside few =
    let whole : length (put_mid a k xs ys) ≡ length (take a xs) + length (ys ++ post_of a k xs) = length-append (take a xs) (ys ++ post_of a k xs) in
    let back : length (post_of a k xs) ≡ length xs - a - k = length-drop k (drop a xs) ∙ ap (λ (n : ℕ). n - k) (length-drop a xs) in
    omega (arith, whole, back, length-append ys (post_of a k xs), length-take-le a xs (omega (arith, inside)), inside, few)

-- a list that was lent and is given back whole
pub given_back : (len : ℕ) (new items : List ℕ) → len ≡ length items → length new ≡ length items → take len (new ++ drop (length new) items) ≡ new
given_back len new items all same =
    ap (λ (n : ℕ). take n (new ++ drop (length new) items)) (omega (arith, all, same)) ∙ take-append_seam new (drop (length new) items)
