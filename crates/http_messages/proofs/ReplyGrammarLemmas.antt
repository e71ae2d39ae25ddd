-- How many fields a head of so many bytes can have, and what httparse answers for one.
use Rattle.std.proofs.Common.{◌≡◌, ℕ, ◌+◌, ◌*◌, ◌≤◌, List, ◌∷◌, ◌++◌, length, arith, length-append, sym, ap, Result, Ok, Err, subst}
use Rattle.httparse.specs.Grammar.{print_end, ResponseHead, ReadsResponse, print_response, print_section, print_blank, print_version, print_reason}
use Rattle.httparse.specs.declared.Error.{Error}
use Rattle.httparse.specs.declared.Status.{Status}
use Rattle.httparse.specs.declared.Status.TheVariants.{Complete, Partial}
use Rattle.httparse.specs.declared.spans.ResponseSpans.{ResponseSpans}
use Rattle.httparse.specs.Outcome.{IsCompleteAnd}
use Rattle.httparse.proofs.GrammarLemmas.{print_response-append}
use Rattle.http_messages.proofs.RequestGrammarLemmas.{fields_length}

pub head_room : (buf : List ℕ) (h : ResponseHead) (rest : List ℕ) → ReadsResponse buf h rest
    → (3 * length h.fields ≤ length buf) × (length (print_response h) + length rest ≡ length buf)
head_room buf h rest reads =
    let few = fields_length h.fields reads.0.fields in
    let whole : length (print_response h) + length rest ≡ length buf = rw reads.1 (sym (length-append (print_response h) rest)) in
    let opened : length (print_response h ++ rest) ≡ length (print_blank h.blank ++ (print_version h.minor ++ 32 ∷ (h.digits ++ (print_reason h.reason
    ++ (print_end h.line_end ++ (print_section h.fields h.last ++ rest)))))) = ap length (print_response-append h rest) in
    let big : 3 * length h.fields ≤ length (print_response h ++ rest) = rw opened (simp length-append (omega (arith, few))) in
    (rw reads.1 big, whole)

pub at_complete : (P : ResponseSpans → Type 0) (r : Result (Status ResponseSpans) Error) (s : ResponseSpans)
    → IsCompleteAnd r P → r ≡ Ok (Complete s) → P s
at_complete P r s found is = subst (λ r. IsCompleteAnd r P) is found

pub not_partial : (P : ResponseSpans → Type 0) (r : Result (Status ResponseSpans) Error)
    → IsCompleteAnd r P → r ≡ Ok Partial → ⊥
not_partial P r found is = subst (λ r. IsCompleteAnd r P) is found

pub not_err : (P : ResponseSpans → Type 0) (r : Result (Status ResponseSpans) Error) {e : Error}
    → IsCompleteAnd r P → r ≡ Err e → ⊥
not_err P r found is = subst (λ r. IsCompleteAnd r P) is found
