-- What a fetch writes, reads and counts, by how far it came.
use Rattle.std.proofs.Common.{◌≡◌, ◌⊎◌, inl, inr, ℕ, List, [], length, Option, Some, None, Result, Ok, Err, IsErrAnd, IfOk, IfErr, refl, sym, ap, subst, ◌∙◌, arith, length-append}
use Rattle.std.proofs.lemmas.List.{append-nil}
use Rattle.std.proofs.Math.Seq.{take-length}
use Rattle.flow_edges.specs.Flow.{written_with, WritesPrefix, SinkSide, SourceSide}
use Rattle.stix_json.specs.declared.envelope.Envelope.{Envelope}
use Rattle.stix_json.specs.Envelopes.{IsEnvelopeOf}
use Rattle.http_messages.specs.Replies.{IsReply, IsNeeded, TakesFromLink, ReadsReply}
use Rattle.taxii_client.specs.declared.reply_refusal.ReplyRefusal.TheVariants.{NotEnvelope}
use Rattle.taxii_client.specs.declared.target.Target.{Target}
use Rattle.taxii_client.specs.declared.fetch_end.FetchEnd.{FetchEnd}
use Rattle.taxii_client.specs.declared.fetch_end.FetchEnd.TheVariants.{Refused, NoMemory}
use Rattle.taxii_client.specs.Requests.{request_of}
use Rattle.taxii_client.specs.Environment.{ClientLinkView, CountsLink}
use Rattle.taxii_client.specs.Fetches.{IsNoEnvelope, Fetched}

pub passed_on : {T E : Type 0} (P : Result T E → Type 0) (answer : Result T E) (its : E) → IsErrAnd answer (λ e. e ≡ its) → P (Err its) → P answer
passed_on P (Ok value) its passed fact = absurd passed
passed_on P (Err e) its passed fact = subst (λ e. P (Err e)) (sym passed) fact

-- ---- the two sides of a link

-- a read of a link leaves what was written as it is
pub sink_side : {before now : SinkSide} {bytes bytes_now : Option (List ℕ)} {faults faults_now : ℕ} → before ≡ record { written = bytes; faults = faults }
    → now ≡ record { written = bytes_now; faults = faults_now } → now ≡ before → (bytes_now ≡ bytes) × (faults_now ≡ faults)
sink_side {bytes = bytes} {bytes_now = bytes_now} {faults = faults} {faults_now = faults_now} is is_now same =
    let sides : ◌≡◌ {A = SinkSide} (record { written = bytes_now; faults = faults_now }) (record { written = bytes; faults = faults }) = sym is_now ∙ same ∙ is in
    (ap (λ (side : SinkSide). side.written) sides, ap (λ (side : SinkSide). side.faults) sides)

-- and a write what is left
pub source_side : {before now : SourceSide} {bytes bytes_now began began_now : Option (List ℕ)} {faults faults_now : ℕ}
    → before ≡ record { left = bytes; began = began; faults = faults } → now ≡ record { left = bytes_now; began = began_now; faults = faults_now } → now ≡ before
    → (bytes_now ≡ bytes) × (faults_now ≡ faults)
source_side {bytes = bytes} {bytes_now = bytes_now} {began = began} {began_now = began_now} {faults = faults} {faults_now = faults_now} is is_now same =
    let sides : ◌≡◌ {A = SourceSide} (record { left = bytes_now; began = began_now; faults = faults_now }) (record { left = bytes; began = began; faults = faults })
    = sym is_now ∙ same ∙ is in
    (ap (λ (side : SourceSide). side.left) sides, ap (λ (side : SourceSide). side.faults) sides)

-- ---- nothing was done

takes_none : (left : Option (List ℕ)) → TakesFromLink [] left left
takes_none None = refl
takes_none (Some bytes) = refl

needed_none : IsNeeded []
needed_none front back is some = absurd (omega (arith, some, ap length is, length-append front back))

writes_none : (text : List ℕ) (written : Option (List ℕ)) → WritesPrefix text written written
writes_none text None = (0, omega arith, refl)
writes_none text (Some bytes) = (0, omega arith, ap Some (sym (append-nil bytes)))

pub nothing_done : (target : Target) (next : Option (List ℕ)) (view : ClientLinkView) → Fetched target next view view (Err NoMemory)
nothing_done target next view = record {
  writes = writes_none (request_of target next) view.written;
  reads = record { taken = []; takes = takes_none view.left; answers = needed_none };
  counts = record {
    reads_later = omega arith;
    writes_later = omega arith;
    failed = λ failed. absurd (cc failed);
    quiet_reads = λ _. refl;
    quiet_writes = λ _. refl;
  };
}

-- ---- the request was written and the reply read

-- the two counts stay
pub record IsQuiet (before now : ClientLinkView) : Type 0 where
  pub reads : now.read_faults ≡ before.read_faults
  pub writes : now.write_faults ≡ before.write_faults

counts_quiet : {Failed : Type 0} (before now : ClientLinkView) → IsQuiet before now → (Failed → ⊥) → CountsLink Failed before now
counts_quiet before now quiet fine = record {
  reads_later = omega (arith, quiet.reads);
  writes_later = omega (arith, quiet.writes);
  failed = λ failed. absurd (fine failed);
  quiet_reads = λ _. quiet.reads;
  quiet_writes = λ _. quiet.writes;
}

abbrev AllAreNeeded : Type 0
AllAreNeeded = (reply body : List ℕ) → IsReply reply body → IsNeeded reply

pub reply_judged : AllAreNeeded → (target : Target) (next : Option (List ℕ)) (before now : ClientLinkView) (body : List ℕ) (middle : Option (List ℕ)) (answer : Result Envelope FetchEnd)
    → middle ≡ before.left → now.written ≡ written_with (request_of target next) before.written → ReadsReply middle now.left (Ok body) → IsQuiet before now
    → IfOk answer (λ envelope. IsEnvelopeOf body envelope) → IfErr answer (λ end. (end ≡ NoMemory) ⊎ ((end ≡ Refused NotEnvelope) × IsNoEnvelope body))
    → Fetched target next before now answer
reply_judged all target next before now body middle (Ok envelope) same wrote reads quiet page none = record {
  writes = wrote;
  reads = record { taken = reads.taken; takes = sym same ∙ reads.takes; answers = record { body = body; is_reply = reads.answers; is_envelope = page } };
  counts = counts_quiet before now quiet (λ failed. cc failed);
}
reply_judged all target next before now body middle (Err end) same wrote reads quiet page (inl memory) =
    subst (λ e. Fetched target next before now (Err e)) (sym memory) (record {
      writes = (length text, omega arith, wrote ∙ ap (λ (t : List ℕ). written_with t before.written) (sym (take-length text)));
      reads = record { taken = reads.taken; takes = sym same ∙ reads.takes; answers = all reads.taken body reads.answers };
      counts = counts_quiet before now quiet (λ failed. cc failed);
    })
  where
    text : List ℕ
    text = request_of target next
reply_judged all target next before now body middle (Err end) same wrote reads quiet page (inr refused) =
    subst (λ e. Fetched target next before now (Err e)) (sym refused.0) (record {
      writes = wrote;
      reads = record { taken = reads.taken; takes = sym same ∙ reads.takes; answers = inr (refl, body, reads.answers, refused.1) };
      counts = counts_quiet before now quiet (λ failed. cc failed);
    })
