-- Bytes that begin with an answer of 200 and with a reply: the reply's body is the answer's.
use Rattle.std.proofs.Common.{◌≡◌, ℕ, ◌<◌, ◌^◌, Bool, true, false, ◌&&◌, ◌==◌, not, List, [], ◌∷◌, ◌++◌, length, take, codes, decimal, map, Some, None, refl, sym, ap, subst, ◌∙◌, append_assoc, append-nil, length-append, arith}
use Rattle.std.specs.Prelude.{if◌then◌else◌, nat_lt}
use Rattle.std.specs.Str.Parse.{digits_value}
use Rattle.std.proofs.lemmas.Fmt.{decimal_is_IsNumeral}
use Rattle.std.proofs.lemmas.List.{take_at}
use Rattle.httparse.specs.Grammar.{ResponseHead, ReadsResponse, print_response}
use Rattle.httparse.specs.Spans.{name_and_value}
use Rattle.httparse.proofs.GrammarLemmas.{response_unique}
use Rattle.http_messages.specs.declared.status.Status.TheVariants.{Okay}
use Rattle.http_messages.specs.Fields.{values_among, first_length, length_of, is_length}
use Rattle.taxii_exchange.specs.declared.answer.Answer.{Answer}
use Rattle.taxii_exchange.specs.Answers.{body_bytes, head_text, IsAnswerText}
use Rattle.http_messages.specs.declared.reply_refusal.HeadRefusal.{HeadRefusal}
use Rattle.http_messages.specs.declared.reply_refusal.HeadRefusal.TheVariants.{Status, Coding, NoLength, TooLarge}
use Rattle.http_messages.specs.declared.reply_refusal.TheConstants.{MAX_REPLY}
use Rattle.http_messages.specs.ReplyHeads.{ReplyHeadParts, codings, lengths, reply_body_length, state_no_length, reply_head_refusal}
use Rattle.http_messages.specs.Replies.{IsReply}
use Rattle.taxii_theorems.proofs.HeadLemmas.{tree_of, tree_valid, tree_printed, stated}

-- ---- the length that a head states

fine_length : (a b c d : Bool) (w x y z : HeadRefusal) → (if a then Some w else if b then Some x else if c then Some y else if d then Some z else None) ≡ None → c ≡ false
fine_length true b c d w x y z none = absurd (cc)
fine_length false true c d w x y z none = absurd (cc)
fine_length false false true d w x y z none = absurd (cc)
fine_length false false false d w x y z none = refl

one_stated : (value : List ℕ) → state_no_length (value ∷ []) ≡ false → is_length value ≡ true
one_stated value none = by_test (is_length value) refl none
  where
    by_test : (t : Bool) → is_length value ≡ t → not ((t && (length_of value == length_of value)) && true) ≡ false → is_length value ≡ true
    by_test true is rest = is
    by_test false is rest = absurd (cc)

-- the length of the body of a head that isn't refused, whose only stated length is this number
length_is : (parts : ReplyHeadParts) (n : ℕ) → n < 2 ^ 64 → lengths parts ≡ decimal n ∷ [] → reply_head_refusal parts ≡ None → reply_body_length parts ≡ n
length_is parts n few only fine =
    let none : state_no_length (lengths parts) ≡ false = fine_length (not (parts.status == 200)) (nat_lt 0 (length (codings parts))) (state_no_length (lengths parts))
    (nat_lt MAX_REPLY (reply_body_length parts)) (Status parts.status) Coding NoLength TooLarge fine in
    let is : is_length (decimal n) ≡ true = one_stated (decimal n) (subst (λ (values : List (List ℕ)). state_no_length values ≡ false) only none) in
    ap first_length only ∙ ap (λ (t : Bool). if t then digits_value 10 (decimal n) else 0) is ∙ (decimal_is_IsNumeral n few).1

-- ---- one list of bytes

same_front : (a b r s : List ℕ) → a ++ r ≡ b ++ s → length a ≡ length b → a ≡ b
same_front a b r s same long = sym (take_at a r (length b) long) ∙ ap (take (length b)) same ∙ take_at b s (length b) refl

pub same_body : (answer : Answer) (close : Bool) (text later reply body own rest : List ℕ) → answer.status ≡ Okay → answer.body ≡ Some own
    → IsAnswerText answer close text → length text < 2 ^ 64 → IsReply reply body → text ++ later ≡ reply ++ rest → body ≡ own
same_body answer close text later reply body own rest okay body_is its few is same =
    same_front body own rest later (sym trees.1 ∙ ap (λ (b : List ℕ). b ++ later) own_is) (is.announces.count_is ∙ length_is is.announces.parts (length (body_bytes answer.body)) small only is.announces.fine ∙ ap length own_is)
  where
    own_is : body_bytes answer.body ≡ own
    own_is = ap body_bytes body_is

    tree : ResponseHead
    tree = tree_of answer its.first its.last close

    small : length (body_bytes answer.body) < 2 ^ 64
    small = omega (arith, few, ap length its.text_is, length-append (head_text answer its.first its.last close) (body_bytes answer.body))

    its_head : ReadsResponse (text ++ later) tree (body_bytes answer.body ++ later)
    its_head = (
      tree_valid answer its.first its.last close its.first_is its.last_is small,
      ap (λ (t : List ℕ). t ++ later) its.text_is ∙ append_assoc (head_text answer its.first its.last close) (body_bytes answer.body) later
          ∙ ap (λ (h : List ℕ). h ++ (body_bytes answer.body ++ later)) (tree_printed answer its.first its.last close okay),
    )

    read_head : ReadsResponse (text ++ later) is.announces.read.tree (body ++ rest)
    read_head = (
      is.announces.read.reads.0,
      same ∙ ap (λ (t : List ℕ). t ++ rest) is.bytes ∙ append_assoc is.head body rest
          ∙ ap (λ (h : List ℕ). h ++ (body ++ rest)) (is.announces.read.reads.1 ∙ append-nil (print_response is.announces.read.tree)),
    )

    trees : (tree ≡ is.announces.read.tree) × (body_bytes answer.body ++ later ≡ body ++ rest)
    trees = response_unique (text ++ later) tree is.announces.read.tree (body_bytes answer.body ++ later) (body ++ rest) its_head read_head

    only : lengths is.announces.parts ≡ decimal (length (body_bytes answer.body)) ∷ []
    only = ap lengths is.announces.read.parts_are ∙ ap (λ (t : ResponseHead). values_among (codes "content-length") (map name_and_value t.fields)) (sym trees.0)
        ∙ stated answer its.first its.last close small
