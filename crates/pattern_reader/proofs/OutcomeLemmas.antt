-- Outcomes: of what is found or not, and of two parts together.
use Rattle.std.proofs.Common.{◌≡◌, ◌⊎◌, inl, inr, Option, Some, None, Result, Ok, Err, refl, sym, subst}
use Rattle.std.specs.Option.{ok_or}
use Rattle.std.specs.Prelude.{MatchResult}
use Rattle.flow_values.specs.Answers.{FindsExactly}
use Rattle.pattern_reader.specs.declared.value_refusal.ValueRefusal.{ValueRefusal}
use Rattle.pattern_reader.specs.ValueRefusal.{Precedes, IsEarliest}
use Rattle.pattern_reader.specs.Refusals.{Lacks}
use Rattle.pattern_reader.specs.inner.Analysis.{IsOutcome}
use Rattle.pattern_reader.specs.inner.Analysis.{IsFirstOfTwo, IsJoined}
use Rattle.pattern_reader.proofs.EarliestLemmas.{precedes_itself, first_stays, second_stays}

-- what is refused alone
pub only_refusal : (P : ValueRefusal → Type 0) (a : ValueRefusal) → P a → ((r : ValueRefusal) → P r → r ≡ a) → IsEarliest P a
only_refusal P a one same = record { one = one; first = λ r h. subst (Precedes a) (sym (same r h)) (precedes_itself a) }

-- what is found, or refused where nothing is
pub found_outcome : {T : Type 0} (IsOne : T → Type 0) (refused : ValueRefusal) (found : Option T) → FindsExactly IsOne found → IsOutcome IsOne (Lacks IsOne refused) (ok_or found refused)
found_outcome IsOne refused (Some x) h = record { this = h; earliest = λ r l. l.none x h }
found_outcome IsOne refused None h = record { this = tt; earliest = only_refusal (Lacks IsOne refused) refused (record { none = h; here = refl }) (λ r l. l.here) }

-- the same values and the same refusals in other words
pub outcome_same : {T : Type 0} (A B : T → Type 0) (P Q : ValueRefusal → Type 0) (a : Result T ValueRefusal) → ((x : T) → A x → B x) → ((r : ValueRefusal) → P r → Q r) → ((r : ValueRefusal) → Q r → P r) → IsOutcome A P a → IsOutcome B Q a
outcome_same A B P Q (Ok x) f g h o = record { this = f x o.this; earliest = λ r q. o.earliest r (h r q) }
outcome_same A B P Q (Err p) f g h o = record { this = tt; earliest = record { one = g p o.earliest.one; first = λ r q. o.earliest.first r (h r q) } }

-- two outcomes together
first_earliest : (P Q : ValueRefusal → Type 0) (a b r : ValueRefusal) → IsFirstOfTwo a b r → IsEarliest P a → IsEarliest Q b → IsEarliest (λ s. P s ⊎ Q s) r
first_earliest P Q a b r (inl h) x y = subst (IsEarliest (λ s. P s ⊎ Q s)) (sym h.0) (first_stays P Q a b h.1 x y)
first_earliest P Q a b r (inr h) x y = subst (IsEarliest (λ s. P s ⊎ Q s)) (sym h.0) (second_stays P Q a b h.1 x y)

pub joined_outcome : {A B C : Type 0} (join : A → B → C) (IsA : A → Type 0) (IsB : B → Type 0) (IsC : C → Type 0) (P Q : ValueRefusal → Type 0) (a : Result A ValueRefusal) (b : Result B ValueRefusal) (c : Result C ValueRefusal)
    → ((x : A) (y : B) → IsA x → IsB y → IsC (join x y)) → IsJoined join a b c → IsOutcome IsA P a → IsOutcome IsB Q b → IsOutcome IsC (λ r. P r ⊎ Q r) c
joined_outcome join IsA IsB IsC P Q (Ok x) (Ok y) (Ok z) f j o u = record { this = subst IsC (sym j) (f x y o.this u.this); earliest = λ r h. elim h [ inl p ↦ o.earliest r p | inr q ↦ u.earliest r q ] }
joined_outcome join IsA IsB IsC P Q (Ok x) (Err q) (Err r) f j o u = record { this = tt; earliest = subst (IsEarliest (λ s. P s ⊎ Q s)) (sym j) (record { one = inr u.earliest.one; first = λ s h. elim h [ inl p ↦ absurd (o.earliest s p) | inr v ↦ u.earliest.first s v ] }) }
joined_outcome join IsA IsB IsC P Q (Err p) (Ok y) (Err r) f j o u = record { this = tt; earliest = subst (IsEarliest (λ s. P s ⊎ Q s)) (sym j) (record { one = inl o.earliest.one; first = λ s h. elim h [ inl v ↦ o.earliest.first s v | inr q ↦ absurd (u.earliest s q) ] }) }
joined_outcome join IsA IsB IsC P Q (Err p) (Err q) (Err r) f j o u = record { this = tt; earliest = first_earliest P Q p q r j o.earliest u.earliest }
joined_outcome join IsA IsB IsC P Q _ _ _ f j o u = absurd j

-- what is made of a value, and the same refusal
pub of_ok : {A B : Type 0} {IsA : A → Type 0} {IsB : B → Type 0} {P : ValueRefusal → Type 0} {x : A} {y : B} → (IsA x → IsB y) → IsOutcome IsA P (Ok x) → IsOutcome IsB P (Ok y)
of_ok f o = record { this = f o.this; earliest = o.earliest }

pub of_err : {A B : Type 0} {IsA : A → Type 0} {IsB : B → Type 0} {P : ValueRefusal → Type 0} {r : ValueRefusal} → IsOutcome IsA P (Err r) → IsOutcome IsB P (Err r)
of_err o = record { this = tt; earliest = o.earliest }

pub mapped_outcome : {A B : Type 0} (f : A → B) (IsA : A → Type 0) (IsB : B → Type 0) (P : ValueRefusal → Type 0) (a : Result A ValueRefusal) (b : Result B ValueRefusal) → MatchResult a (λ x. b ≡ Ok (f x)) (λ r. b ≡ Err r) → ((x : A) → IsA x → IsB (f x)) → IsOutcome IsA P a → IsOutcome IsB P b
mapped_outcome f IsA IsB P (Ok x) b e g o = rw e (record { this = g x o.this; earliest = o.earliest })
mapped_outcome f IsA IsB P (Err r) b e g o = rw e (record { this = tt; earliest = o.earliest })
