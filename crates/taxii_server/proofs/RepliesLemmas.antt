-- Replies in turn, and one more at the end.
use Rattle.std.proofs.Common.{◌≡◌, ℕ, suc, ◌+◌, ◌-◌, ◌<◌, List, [], ◌∷◌, ◌++◌, length, true, false, ◌||◌, nat_eq, Option, Some, None, refl, sym, ap, ◌∙◌, arith, append_assoc}
use Rattle.std.proofs.lemmas.Bool.Decides.{nat_tests}
use Rattle.std.proofs.lemmas.List.{append-nil}
use Rattle.flow_edges.specs.Flow.{written_with, WritesPart}
use Rattle.taxii_exchange.specs.Answers.{IsAnswerText}
use Rattle.taxii_service.specs.Exchanges.{Exchange}
use Rattle.taxii_server.specs.Connections.{Reply, ends_out_of_memory, replies_within, KeepConnection, End, IsTextOfReplies, WritesReplies, CutsReplies}

-- the reply to an exchange before which so many may be given
abbrev pub reply_within : ℕ → Exchange → Reply
reply_within left e = record { answer = e.answer; close = e.request.close || ends_out_of_memory e.course || nat_eq left 1 }

pub replies-next : (left : ℕ) (exchanges : List Exchange) (e : Exchange)
    → replies_within left (exchanges ++ e ∷ []) ≡ replies_within left exchanges ++ reply_within (left - length exchanges) e ∷ []
replies-next left [] e = ap (λ k. reply_within k e ∷ []) (omega arith)
replies-next left (first ∷ exchanges) e =
    ap (λ (replies : List Reply). reply_within left first ∷ replies) (replies-next (left - 1) exchanges e
    ∙ ap (λ k. replies_within (left - 1) exchanges ++ reply_within k e ∷ []) (omega arith))

pub replies-count : (left : ℕ) (exchanges : List Exchange) → length (replies_within left exchanges) ≡ length exchanges
replies-count left [] = refl
replies-count left (first ∷ exchanges) = ap suc (replies-count (left - 1) exchanges)

-- the last reply that may be given
pub last-within : (most requests : ℕ) → requests < most → nat_eq (most - requests) 1 ≡ nat_eq (requests + 1) most
last-within most requests few = grind (arith, nat_tests)

pub proceed-next : (replies : List Reply) (reply : Reply) → KeepConnection replies → reply.close ≡ false → KeepConnection (replies ++ reply ∷ [])
proceed-next [] reply proceed stays = (stays, tt)
proceed-next (first ∷ replies) reply (its, proceed) stays = (its, proceed-next replies reply proceed stays)

texts-next : (replies : List Reply) (reply : Reply) (text more : List ℕ) → IsTextOfReplies replies text → IsAnswerText reply.answer reply.close more
    → IsTextOfReplies (replies ++ reply ∷ []) (text ++ more)
texts-next [] reply text more none its = (more, [], its, refl, ap (λ (t : List ℕ). t ++ more) none ∙ sym (append-nil more))
texts-next (first ∷ replies) reply text more (one, rest, is, are, whole) its =
    (one, rest ++ more, is, texts-next replies reply rest more are its, ap (λ (t : List ℕ). t ++ more) whole ∙ append_assoc one rest more)

written-then : (text more : List ℕ) (written : Option (List ℕ)) → written_with more (written_with text written) ≡ written_with (text ++ more) written
written-then text more None = refl
written-then text more (Some bytes) = ap Some (append_assoc bytes text more)

pub writes-none : (written : Option (List ℕ)) → WritesReplies [] written written
writes-none None = ([], refl, refl)
writes-none (Some bytes) = ([], refl, ap Some (sym (append-nil bytes)))

pub writes-next : (replies : List Reply) (reply : Reply) (more : List ℕ) (before middle now : Option (List ℕ)) → WritesReplies replies before middle
    → IsAnswerText reply.answer reply.close more → now ≡ written_with more middle → WritesReplies (replies ++ reply ∷ []) before now
writes-next replies reply more before middle now (text, are, is) its says =
    (text ++ more, texts-next replies reply text more are its, says ∙ ap (written_with more) is ∙ written-then text more before)

-- the last one ends the connection
pub end-next : (replies : List Reply) (reply : Reply) → KeepConnection replies → reply.close ≡ true → End (replies ++ reply ∷ [])
end-next replies reply proceed close = (replies, reply, refl, proceed, close)

-- less than all of the last one was written
pub cuts-next : (replies : List Reply) (reply : Reply) (text : List ℕ) (before middle now : Option (List ℕ)) → KeepConnection replies → WritesReplies replies before middle
    → IsAnswerText reply.answer reply.close text → WritesPart text middle now → CutsReplies (replies ++ reply ∷ []) before now
cuts-next replies reply text before middle now proceed writes its part = (replies, reply, middle, text, refl, proceed, writes, its, part)
