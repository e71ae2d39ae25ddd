-- What stands between an opening and the `'` at the end, by what the two strips say.
use Rattle.std.proofs.Common.{◌≡◌, ◌≢◌, ℕ, List, [], ◌∷◌, ◌++◌, Bor, Option, Some, None, IfSome, IfNone, MatchOption, append_assoc, ap, sym, ◌∙◌, subst, codes, ℤ, Result, Ok, Err}
use Rattle.std.specs.Result.{result_ok}
use Rattle.std.proofs.lemmas.List.{append_cancel_left, append_cancel_right}
use Rattle.stix_times.specs.declared.refusal.TimeRefusal.{TimeRefusal}
use Rattle.stix_times.specs.Reading.{IsTextOfInstant, ReadsTimestamp}
use Rattle.pattern_lexer.specs.Values.{IsTimestampText}

-- what stands before the `'` at the end, if one does
abbrev pub Ends : List ℕ → Option (Bor (List ℕ)) → Type 0
Ends after r = MatchOption r ((front : List ℕ) → after ≢ front ++ 39 ∷ []) (λ x. after ≡ x.now ++ 39 ∷ [])

pub found : (text opening after : List ℕ) (r : Option (Bor (List ℕ))) → text ≡ opening ++ after → Ends after r → IfSome r (λ x. text ≡ opening ++ x.now ++ 39 ∷ [])
found text opening after None e h = tt
found text opening after (Some x) e h = e ∙ ap (λ l. opening ++ l) h ∙ sym (append_assoc opening x.now (39 ∷ []))

pub missing : (text opening after : List ℕ) (r : Option (Bor (List ℕ))) → text ≡ opening ++ after → Ends after r → IfNone r ((inside : List ℕ) → text ≢ opening ++ inside ++ 39 ∷ [])
missing text opening after (Some x) e h = tt
missing text opening after None e h = λ inside same. h inside (append_cancel_left opening after (inside ++ 39 ∷ []) (sym e ∙ same ∙ append_assoc opening inside (39 ∷ [])))

-- a text has one inside
pub one_inside : (opening a b text : List ℕ) → text ≡ opening ++ a ++ 39 ∷ [] → text ≡ opening ++ b ++ 39 ∷ [] → a ≡ b
one_inside opening a b text e h =
    append_cancel_left opening a b (append_cancel_right (opening ++ a) (opening ++ b) (39 ∷ []) (sym e ∙ h))

-- a time that is refused is no instant's
pub no_moment : (text time : List ℕ) (r : Result ℤ TimeRefusal) (o : Option ℤ) → o ≡ result_ok r → text ≡ (codes "t'") ++ time ++ 39 ∷ [] → ((other : Result ℤ TimeRefusal) → ReadsTimestamp time other → other ≡ r) → IfNone o ((instant : ℤ) → ¬ IsTimestampText text instant)
no_moment text time r (Some instant) is spelled only = tt
no_moment text time (Ok instant) None is spelled only = absurd (cc)
no_moment text time (Err refusal) None is spelled only = λ instant names.
    let same = one_inside (codes "t'") names.0 time text names.1 spelled in
    let P : List ℕ → Type 0 = λ l. IsTextOfInstant l instant in
    let e : ◌≡◌ {A = Result ℤ TimeRefusal} (Ok instant) (Err refusal) = only (Ok instant) (subst P same names.2) in
    absurd (cc)
