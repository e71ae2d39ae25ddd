-- The digits of a fraction to write.
use Rattle.std.specs.Prelude.{◌≡◌, ℕ, zero, suc, ◌+◌, ◌/◌, ◌%◌, ◌^◌, List, [], ◌∷◌, ◌++◌}

-- a number below 10 ^ n in n digits
abbrev pub digits_text : ℕ → ℕ → List ℕ
digits_text zero value = []
digits_text (suc n) value = (48 + value / 10 ^ n) ∷ digits_text n (value % 10 ^ n)

-- the last digit is 0
abbrev pub EndsInZero : List ℕ → Type 0
EndsInZero digits = (front : List ℕ) × (digits ≡ front ++ 48 ∷ [])
