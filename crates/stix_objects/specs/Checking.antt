-- Combinators for checks. The outcome of a check is none if all is met, else the violation.
use Rattle.std.specs.Prelude.{◌≡◌, Option, Some, None, MatchOption}
use Rattle.stix_objects.specs.declared.rule.Rule.{Rule}
use Rattle.stix_objects.specs.declared.rule.Rule.TheVariants.{WrongKind}

-- the fact is required: if it fails, the outcome is this violation
abbrev pub Requires : {A : Type 0} → Type 0 → A → Option A → Type 0
Requires P told None = P
Requires P told (Some found) = (¬ P) × (found ≡ told)

-- the fact is forbidden: if it holds, the outcome is this violation
abbrev pub Forbids : {A : Type 0} → Type 0 → A → Option A → Type 0
Forbids P told None = ¬ P
Forbids P told (Some found) = P × (found ≡ told)

-- one check, and if it finds nothing, the next
abbrev pub ChecksInTurn : {A : Type 0} → (Option A → Type 0) → (Option A → Type 0) → Option A → Type 0
ChecksInTurn {A} First Next outcome = (first : Option A) × First first × MatchOption first (Next outcome) (λ found. outcome ≡ Some found)

-- a value of one JSON type is checked as such, and any other is WrongKind
abbrev pub OfKind : {A : Type 0} → Option A → (A → Option Rule → Type 0) → Option Rule → Type 0
OfKind of Checks outcome = MatchOption of (outcome ≡ Some WrongKind) (λ value. Checks value outcome)
