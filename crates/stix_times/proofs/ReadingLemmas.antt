-- A text reads in one way: it names one instant, or has one refusal with one offset.
use Rattle.std.proofs.Common.{◌≡◌, ℕ, List, length, Result, Ok, Err, IfOk, IfErr, ℤ, refl, sym, ap, ◌∙◌, subst, arith}
use Rattle.stix_times.specs.declared.refusal.TimeRefusal.{TimeRefusal}
use Rattle.stix_times.specs.declared.refusal.TimeRefusal.TheVariants.{Shape, NoSuchDay, TooFine, NotMillis}
use Rattle.stix_times.specs.Timestamp.{Timestamp, Spells, HasDay, nanos_of}
use Rattle.stix_times.specs.Reading.{IsExact, HasMillis, IsLongestShapePrefix, IsRefusedTimestamp, IsRefusedMillis, ReadsTimestamp, ReadsMillis}
use Rattle.stix_times.specs.Parts.{NamesInstant, IsTimestampRefusal}
use Rattle.stix_times.proofs.ShapeLemmas.{one_timestamp}

same_offset : (s : List ℕ) (n m : ℕ) → IsLongestShapePrefix s n → IsLongestShapePrefix s m → n ≡ m
same_offset s n m p q = omega (arith, p.longest m q.within q.begins, q.longest n p.within p.begins)

-- two timestamps of one text are one
module _ (s : List ℕ) (t u : Timestamp) (p : Spells t s) (q : Spells u s) where
  same_nanos : (z w : ℤ) → nanos_of t ≡ z → nanos_of u ≡ w → z ≡ w
  same_nanos z w e f = sym e ∙ ap nanos_of (one_timestamp s t u p q) ∙ f

  same_day : HasDay t → HasDay u
  same_day h = subst HasDay (one_timestamp s t u p q) h

  same_digits : length t.fraction ≡ length u.fraction
  same_digits = ap (λ v. length v.fraction) (one_timestamp s t u p q)

-- a text that names an instant is not refused
not_refused : (s : List ℕ) (t : Timestamp) → Spells t s → IsExact t → (e : TimeRefusal) → IsRefusedTimestamp s e → ⊥
not_refused s t p x (Shape at) q = q.0 (t, p)
not_refused s t p x NoSuchDay q = q.2 (same_day s t q.0 p q.1 x.day)
not_refused s t p x TooFine q = let fine = x.fine in omega (arith, same_digits s t q.0 p q.1, q.2.1)
not_refused s t p x NotMillis q = q

-- and a refused text has one refusal
one_refusal : (s : List ℕ) (a b : TimeRefusal) → IsRefusedTimestamp s a → IsRefusedTimestamp s b → a ≡ b
one_refusal s (Shape n) (Shape m) p q = ap Shape (same_offset s n m p.1 q.1)
one_refusal s (Shape n) NoSuchDay p q = absurd (p.0 (q.0, q.1))
one_refusal s (Shape n) TooFine p q = absurd (p.0 (q.0, q.1))
one_refusal s NoSuchDay (Shape m) p q = absurd (q.0 (p.0, p.1))
one_refusal s NoSuchDay NoSuchDay p q = refl
one_refusal s NoSuchDay TooFine p q = absurd (p.2 (same_day s q.0 p.0 q.1 p.1 q.2.0))
one_refusal s TooFine (Shape m) p q = absurd (q.0 (p.0, p.1))
one_refusal s TooFine NoSuchDay p q = absurd (q.2 (same_day s p.0 q.0 p.1 q.1 p.2.0))
one_refusal s TooFine TooFine p q = refl
one_refusal s NotMillis b p q = absurd p
one_refusal s (Shape n) NotMillis p q = absurd q
one_refusal s NoSuchDay NotMillis p q = absurd q
one_refusal s TooFine NotMillis p q = absurd q

pub only_reading : (s : List ℕ) (a b : Result ℤ TimeRefusal) → ReadsTimestamp s a → ReadsTimestamp s b → a ≡ b
only_reading s (Ok z) (Ok w) p q = ap Ok (same_nanos s p.0 q.0 p.1 q.1 z w p.2.1 q.2.1)
only_reading s (Ok z) (Err e) p q = absurd (not_refused s p.0 p.1 p.2.0 e q)
only_reading s (Err e) (Ok w) p q = absurd (not_refused s q.0 q.1 q.2.0 e p)
only_reading s (Err e) (Err f) p q = ap Err (one_refusal s e f p q)

same_millis : (s : List ℕ) (t u : Timestamp) → Spells t s → Spells u s → HasMillis t → HasMillis u
same_millis s t u p q h = omega (arith, same_digits s t u p q)

not_refused_millis : (s : List ℕ) (t : Timestamp) → Spells t s → IsExact t → HasMillis t → (e : TimeRefusal) → IsRefusedMillis s e → ⊥
not_refused_millis s t p x m (Shape at) q = not_refused s t p x (Shape at) q
not_refused_millis s t p x m NoSuchDay q = not_refused s t p x NoSuchDay q
not_refused_millis s t p x m TooFine q = not_refused s t p x TooFine q
not_refused_millis s t p x m NotMillis q = q.2.1 (same_millis s t q.0 p q.1 m)

one_refusal_millis : (s : List ℕ) (a b : TimeRefusal) → IsRefusedMillis s a → IsRefusedMillis s b → a ≡ b
one_refusal_millis s NotMillis NotMillis p q = refl
one_refusal_millis s NotMillis (Shape m) p q = absurd (not_refused s p.0 p.1 p.2.0 (Shape m) q)
one_refusal_millis s NotMillis NoSuchDay p q = absurd (not_refused s p.0 p.1 p.2.0 NoSuchDay q)
one_refusal_millis s NotMillis TooFine p q = absurd (not_refused s p.0 p.1 p.2.0 TooFine q)
one_refusal_millis s (Shape n) NotMillis p q = absurd (not_refused s q.0 q.1 q.2.0 (Shape n) p)
one_refusal_millis s NoSuchDay NotMillis p q = absurd (not_refused s q.0 q.1 q.2.0 NoSuchDay p)
one_refusal_millis s TooFine NotMillis p q = absurd (not_refused s q.0 q.1 q.2.0 TooFine p)
one_refusal_millis s (Shape n) (Shape m) p q = one_refusal s (Shape n) (Shape m) p q
one_refusal_millis s (Shape n) NoSuchDay p q = one_refusal s (Shape n) NoSuchDay p q
one_refusal_millis s (Shape n) TooFine p q = one_refusal s (Shape n) TooFine p q
one_refusal_millis s NoSuchDay (Shape m) p q = one_refusal s NoSuchDay (Shape m) p q
one_refusal_millis s NoSuchDay NoSuchDay p q = refl
one_refusal_millis s NoSuchDay TooFine p q = one_refusal s NoSuchDay TooFine p q
one_refusal_millis s TooFine (Shape m) p q = one_refusal s TooFine (Shape m) p q
one_refusal_millis s TooFine NoSuchDay p q = one_refusal s TooFine NoSuchDay p q
one_refusal_millis s TooFine TooFine p q = refl

pub only_millis : (s : List ℕ) (a b : Result ℤ TimeRefusal) → ReadsMillis s a → ReadsMillis s b → a ≡ b
only_millis s (Ok z) (Ok w) p q = ap Ok (same_nanos s p.0 q.0 p.1 q.1 z w p.2.2 q.2.2)
only_millis s (Ok z) (Err e) p q = absurd (not_refused_millis s p.0 p.1 p.2.0 p.2.1 e q)
only_millis s (Err e) (Ok w) p q = absurd (not_refused_millis s q.0 q.1 q.2.0 q.2.1 e p)
only_millis s (Err e) (Err f) p q = ap Err (one_refusal_millis s e f p q)

-- what the parts refuse, their text is refused for
pub refused : (s : List ℕ) (t : Timestamp) → Spells t s → (e : TimeRefusal) → IsTimestampRefusal t e → IsRefusedTimestamp s e
refused s t p (Shape at) h = absurd h
refused s t p NoSuchDay h = (t, p, h)
refused s t p TooFine h = (t, p, h)
refused s t p NotMillis h = absurd h

-- a refusal of reading is one where three to six digits are asked for
pub refused_millis : (s : List ℕ) (e : TimeRefusal) → IsRefusedTimestamp s e → IsRefusedMillis s e
refused_millis s (Shape at) h = h
refused_millis s NoSuchDay h = h
refused_millis s TooFine h = h
refused_millis s NotMillis h = absurd h

-- what the parts answer, reading answers
pub reads_from_parts : (s : List ℕ) (t : Timestamp) → Spells t s → (r : Result ℤ TimeRefusal) → IfOk r (NamesInstant t) → IfErr r (IsTimestampRefusal t) → ReadsTimestamp s r
reads_from_parts s t p (Ok z) ok err = (t, p, (ok.exact, ok.nanos))
reads_from_parts s t p (Err e) ok err = refused s t p e err
