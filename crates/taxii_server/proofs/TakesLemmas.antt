-- Bytes that are taken from those that are left.
use Rattle.std.proofs.Common.{◌≡◌, ◌⊎◌, inl, inr, IfSome, ℕ, ◌-◌, ◌<◌, ◌≤◌, List, [], ◌++◌, length, take, drop, Option, Some, None, Result, Ok, Err, IsErrAnd, refl, sym, ap, ◌∙◌, subst, append_assoc, length-append, arith}
use Rattle.std.proofs.lemmas.List.{append-nil, take-append-drop, length-take-le}
use Rattle.flow_edges.specs.Flow.{left_after, IsNextOf}
use Rattle.http_messages.specs.declared.frame.Frame.TheVariants.{More, Refused as Bad}
use Rattle.http_messages.specs.declared.request_refusal.Refusal.{Refusal}
use Rattle.http_messages.specs.declared.request.Request.{Request}
use Rattle.http_messages.specs.Frames.{IsFirstFrame}
use Rattle.taxii_server.specs.declared.connection.TheConstants.{MAX_BODY}
use Rattle.taxii_server.specs.declared.receive_end.ReceiveEnd.{ReceiveEnd}
use Rattle.taxii_server.specs.declared.receive_end.ReceiveEnd.TheVariants.{AtEnd, Refused, NoMemory, Failed}
use Rattle.taxii_server.specs.Connections.{BeginWith, Reply, RepliesInTime}
use Rattle.taxii_server.specs.Environment.{LinkView, TakesFromClient}
use Rattle.taxii_server.proofs.BytesLemmas.{LaterBytesChangeNothing, begin_with-more}
use Rattle.taxii_server.specs.inner.Receiving.{FailsToReceive, TakesMore, StopsReceivingAt, Receives, WantedMore, IsReceivedInTime}

-- none was taken
pub takes-none : (left now : Option (List ℕ)) → now ≡ left → TakesFromClient [] left now
takes-none None now same = same
takes-none (Some bytes) now same = (bytes, refl, same)

-- a read gave these
pub takes-read : (n : ℕ) (buffer : List ℕ) (left now : Option (List ℕ)) → n ≤ length buffer → IsNextOf (take n buffer) left → now ≡ left_after n left
    → TakesFromClient (take n buffer) left now
takes-read n buffer None now within given rest = rest
takes-read n buffer (Some bytes) now within given rest = (
  drop n bytes,
  sym (take-append-drop n bytes) ∙ ap (λ (front : List ℕ). front ++ drop n bytes) (sym (ap (λ k. take k bytes) (length-take-le n buffer within)) ∙ given),
  rest,
)

-- some were taken, and then some more
pub takes-then : (first more : List ℕ) (left middle now : Option (List ℕ)) → TakesFromClient first left middle → TakesFromClient more middle now → TakesFromClient (first ++ more) left now
takes-then first more None None now takes later = later
takes-then first more None (Some bytes) now takes later = absurd (cc takes)
takes-then first more (Some bytes) None now takes later = absurd (cc takes.2)
takes-then first more (Some bytes) (Some middle) now takes later =
    let same : takes.0 ≡ middle = cc takes.2 in
    (later.0, takes.1 ∙ ap (λ (rest : List ℕ). first ++ rest) (same ∙ later.1) ∙ sym (append_assoc first more later.0), later.2)

-- some bytes were taken, and follow those that were there before
pub record HasTaken (before after : List ℕ) (left now : Option (List ℕ)) : Type 0 where
  pub taken : List ℕ
  pub takes : TakesFromClient taken left now
  pub fed : after ≡ before ++ taken

-- and then some more
pub taken-more : {before fed after : List ℕ} {left middle now : Option (List ℕ)} → HasTaken before fed left middle → (taken : List ℕ) → TakesFromClient taken middle now
    → after ≡ fed ++ taken → HasTaken before after left now
taken-more {before = before} {left = left} {middle = middle} {now = now} has taken takes is = record {
  taken = has.taken ++ taken;
  takes = takes-then has.taken taken left middle now has.takes takes;
  fed = is ∙ ap (λ (front : List ℕ). front ++ taken) has.fed ∙ append_assoc before has.taken taken;
}

-- a read that gave at least a byte, where there was room for more, leaves less room
pub fed-falls : (most : ℕ) (before after taken : List ℕ) → length before < most → after ≡ before ++ taken → 0 < length taken
    → most - length after < most - length before
fed-falls most before after taken room fed some = omega (arith, ap length fed, length-append before taken)

-- why no more bytes were taken
pub takes_more-err : {T : Type 0} {before after : List ℕ} {left now : Option (List ℕ)} {faults faults_now : ℕ} (taken : List ℕ) (its : ReceiveEnd) (result : Result T ReceiveEnd)
    → IsErrAnd result (λ receive_end. receive_end ≡ its) → TakesFromClient taken left now → FailsToReceive taken now faults faults_now its → TakesMore before after left now faults faults_now result
takes_more-err taken its (Ok done) failed takes lacks = absurd failed
takes_more-err {now = now} {faults = faults} {faults_now = faults_now} taken its (Err receive_end) failed takes lacks =
    record { taken = taken; takes = takes; gives = subst (λ (p : ReceiveEnd). FailsToReceive taken now faults faults_now p) (sym failed) lacks }

-- bytes to which none were added still want more
pauses : (bytes taken : List ℕ) (left : Option (List ℕ)) (faults now : ℕ) (receive_end : ReceiveEnd) → IsFirstFrame MAX_BODY bytes More bytes
    → FailsToReceive taken left faults now receive_end → StopsReceivingAt (bytes ++ taken) left faults now receive_end
pauses bytes taken left faults now AtEnd first (none, ended) = (rw (none, append-nil bytes) first, ended)
pauses bytes taken left faults now (Refused refusal) first lacks = absurd lacks
pauses bytes taken left faults now NoMemory first lacks = tt
pauses bytes taken left faults now Failed first (none, rose) = (rw (none, append-nil bytes) first, rose)

-- after some bytes were taken, which want more, no more were
pub receives-receive_end : {T : Type 0} {before fed rest after : List ℕ} {left middle now : Option (List ℕ)} {faults faults_middle faults_now : ℕ} {receive_end : ReceiveEnd} (result : Result Request ReceiveEnd)
    → HasTaken before fed left middle → IsFirstFrame MAX_BODY fed More rest → TakesMore {T = T} rest after middle now faults_middle faults_now (Err receive_end)
    → faults_middle ≡ faults → IsErrAnd result (λ p. p ≡ receive_end) → Receives before after left now faults faults_now result
receives-receive_end (Ok request) has first more quiet failed = absurd failed
receives-receive_end {before = before} {fed = fed} {left = left} {middle = middle} {now = now} {faults_middle = faults_middle} {faults_now = faults_now} {receive_end = receive_end} (Err its) has first more quiet failed =
    let bytes : fed ++ more.taken ≡ before ++ (has.taken ++ more.taken) =
    ap (λ (front : List ℕ). front ++ more.taken) has.fed ∙ append_assoc before has.taken more.taken in
    let wants : IsFirstFrame MAX_BODY fed More fed = (first.0, refl) in
    let at : StopsReceivingAt (fed ++ more.taken) now faults_middle faults_now receive_end = pauses fed more.taken now faults_middle faults_now receive_end wants more.gives in
    record {
      taken = has.taken ++ more.taken;
      takes = takes-then has.taken more.taken left middle now has.takes more.takes;
      gives = rw (← bytes, failed, ← quiet) at;
    }

-- after some bytes were taken, they are refused
pub receives-refused : {before fed rest after : List ℕ} {left now : Option (List ℕ)} {faults faults_now : ℕ} {refusal : Refusal}
    → HasTaken before fed left now → IsFirstFrame MAX_BODY fed (Bad refusal) rest → Receives before after left now faults faults_now (Err (Refused refusal))
receives-refused has first = record { taken = has.taken; takes = has.takes; gives = rw (← has.fed) (first.0, refl) }

-- ---- when the last read began

pub each_told : (began : Option (List ℕ)) {P Q : List ℕ → Type 0} → ((bytes : List ℕ) → P bytes → Q bytes) → IfSome began P → IfSome began Q
each_told None each observable = tt
each_told (Some bytes) each observable = each bytes observable

-- all bytes are those taken, and then those left
takes-all : (taken bytes : List ℕ) (first left : Option (List ℕ)) → TakesFromClient taken first left → left ≡ Some bytes → first ≡ Some (taken ++ bytes)
takes-all taken bytes None left takes is = absurd (cc (takes, is))
takes-all taken bytes (Some all) left takes is =
    let same : takes.0 ≡ bytes = cc (takes.2, is) in
    ap Some (takes.1 ∙ ap (λ (rest : List ℕ). taken ++ rest) same)

-- a read that began after bytes that want more
pub wanted-more : {before fed rest : List ℕ} {first left : Option (List ℕ)} → HasTaken before fed first left → IsFirstFrame MAX_BODY fed More rest
    → (began : Option (List ℕ)) → IfSome began (λ bytes. left ≡ Some bytes) → IfSome began (WantedMore before first)
wanted-more {fed = fed} {first = first} {left = left} has more began observable =
    let wants : IsFirstFrame MAX_BODY fed More fed = (more.0, refl) in
    each_told began (λ bytes is. record {
      early = has.taken;
      all = takes-all has.taken bytes first left has.takes is;
      wants = rw (← has.fed) wants;
    }) observable

-- so it began when only the requests that were given before had come whole
pub still-in-time : {first left left_then began began_then : Option (List ℕ)} (taken rest : List ℕ) (requests : List Request) (given : ℕ)
    → LaterBytesChangeNothing → IsReceivedInTime first left began given → TakesFromClient taken first left → BeginWith taken requests rest → length requests ≡ given
    → ((left_then ≡ left) × (began_then ≡ began)) ⊎ IfSome began_then (WantedMore rest left) → IsReceivedInTime first left_then began_then given
still-in-time {first = first} {left_then = left_then} taken rest requests given later so_far takes begins count (inl same) =
    rw (same.0, same.1) so_far
still-in-time {first = first} {left = left} {began_then = began_then} taken rest requests given later so_far takes begins count (inr observable) =
    inr (each_told began_then (λ bytes wanted. (
      given,
      omega arith,
      record {
        taken = taken ++ wanted.early;
        all = takes-all taken (wanted.early ++ bytes) first left takes wanted.all ∙ ap Some (sym (append_assoc taken wanted.early bytes));
        whole = requests;
        rest = rest ++ wanted.early;
        begins = begin_with-more later taken wanted.early requests rest begins;
        wants = wanted.wants;
        count = count;
      },
    )) observable)

-- and so before one reply more is due
pub next-in-time : {first left : Option (List ℕ)} (began : Option (List ℕ)) (given later : ℕ) → given ≤ later → IsReceivedInTime first left began given → IsReceivedInTime first left began later
next-in-time began given later fewer (inl same) = inl same
next-in-time began given later fewer (inr observable) = inr (each_told began (λ bytes came. (came.0, omega (arith, came.1, fewer), came.2)) observable)

pub replies-in-time : (before now : LinkView) (replies : List Reply) (given : ℕ) → given < length replies → IsReceivedInTime before.left now.left now.began given
    → RepliesInTime before now replies
replies-in-time before now replies given fewer (inl same) = inl same
replies-in-time before now replies given fewer (inr observable) = inr (each_told now.began (λ bytes came. (came.0, omega (arith, came.1, fewer), came.2)) observable)
