-- How many fields a head of so many bytes can have, and what httparse answers for one.
use Rattle.std.proofs.Common.{◌≡◌, ℕ, ◌+◌, ◌*◌, ◌≤◌, List, [], ◌∷◌, ◌++◌, length, All, arith, length-append, sym, ap, suc, Result, Ok, Err, subst}
use Rattle.std.specs.List.{flat_map}
use Rattle.httparse.specs.Grammar.{LineEnd, crlf, lf, print_end, Field, IsField, print_field, RequestHead, ReadsRequest, print_request, print_section, print_blank, print_version}
use Rattle.httparse.specs.declared.Error.{Error}
use Rattle.httparse.specs.declared.Status.{Status}
use Rattle.httparse.specs.declared.Status.TheVariants.{Complete, Partial}
use Rattle.httparse.specs.declared.spans.RequestSpans.{RequestSpans}
use Rattle.httparse.specs.Outcome.{IsCompleteAnd}
use Rattle.httparse.proofs.GrammarLemmas.{print_request-append}

end_length : (e : LineEnd) → 1 ≤ length (print_end e)
end_length crlf = omega arith
end_length lf = omega arith

field_length : (f : Field) → IsField f → 3 ≤ length (print_field f)
field_length f ok =
    let name = ok.name.0 in
    let e = end_length f.end in
    simp (length-append) (omega arith)

fields_tail : (f : Field) (fs : List Field) → All IsField (f ∷ fs) → All IsField fs
fields_tail f fs ok k d below = ok (suc k) d (omega arith)

pub fields_length : (fs : List Field) → All IsField fs → 3 * length fs ≤ length (flat_map print_field fs)
fields_length [] ok = omega arith
fields_length (f ∷ fs) ok =
    let one = field_length f (ok 0 f (omega arith)) in
    let rest = fields_length fs (fields_tail f fs ok) in
    rw (length-append (print_field f) (flat_map print_field fs)) (omega (arith, one, rest))

pub head_room : (buf : List ℕ) (h : RequestHead) (rest : List ℕ) → ReadsRequest buf h rest
    → (3 * length h.fields ≤ length buf) × (length (print_request h) + length rest ≡ length buf)
head_room buf h rest reads =
    let few = fields_length h.fields reads.0.fields in
    let whole : length (print_request h) + length rest ≡ length buf = rw reads.1 (sym (length-append (print_request h) rest)) in
    let opened : length (print_request h ++ rest) ≡ length (print_blank h.blank ++ (h.method ++ 32 ∷ (h.target ++ 32 ∷ (print_version h.minor
    ++ (print_end h.line_end ++ (print_section h.fields h.last ++ rest)))))) = ap length (print_request-append h rest) in
    let big : 3 * length h.fields ≤ length (print_request h ++ rest) = rw opened (simp length-append (omega (arith, few))) in
    (rw reads.1 big, whole)

pub at_complete : (P : RequestSpans → Type 0) (r : Result (Status RequestSpans) Error) (s : RequestSpans)
    → IsCompleteAnd r P → r ≡ Ok (Complete s) → P s
at_complete P r s found is = subst (λ r. IsCompleteAnd r P) is found

pub not_partial : (P : RequestSpans → Type 0) (r : Result (Status RequestSpans) Error)
    → IsCompleteAnd r P → r ≡ Ok Partial → ⊥
not_partial P r found is = subst (λ r. IsCompleteAnd r P) is found

pub not_err : (P : RequestSpans → Type 0) (r : Result (Status RequestSpans) Error) {e : Error}
    → IsCompleteAnd r P → r ≡ Err e → ⊥
not_err P r found is = subst (λ r. IsCompleteAnd r P) is found
