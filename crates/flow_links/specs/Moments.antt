-- The times that a clock will return, in microseconds since 1970: the next one has index 0. They
-- may be in any order, and needn't be observable.
use Rattle.std.specs.Prelude.{◌≡◌, ℕ, ◌+◌, Option, IfSome}

-- it is the next time, as far as that is observable
abbrev pub IsNext : (ℕ → Option ℕ) → ℕ → Type 0
IsNext moments moment = IfSome (moments 0) (λ observable. moment ≡ observable)

-- after one call the rest are unchanged
abbrev pub Continues : (ℕ → Option ℕ) → (ℕ → Option ℕ) → Type 0
Continues before after = (n : ℕ) → after n ≡ before (n + 1)
