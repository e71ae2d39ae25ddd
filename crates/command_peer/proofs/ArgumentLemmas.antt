-- A number that a rule holds of exactly, and the first four arguments.
use Rattle.std.proofs.Common.{◌≡◌, ◌↔◌, ℕ, ◌-◌, ◌≤◌, List, [], ◌∷◌, length, take, drop, get_or, String, Global, string_bytes, Option, None, Some, refl, ap, ◌∙◌, arith}
use Rattle.std.proofs.Math.Seq.{take-length}
use Rattle.std.specs.Prelude.{IfSome, IfNone}
use Rattle.command_line.specs.CommandLines.{argument_texts}

-- a value of which a rule holds exactly, where there is one
pub found_some : (Rule : ℕ → Type 0) (found : Option ℕ) → ((n : ℕ) → (found ≡ Some n) ↔ Rule n) → IfSome found Rule
found_some Rule None exactly = tt
found_some Rule (Some n) exactly = (exactly n).0 refl

pub found_none : (Rule : ℕ → Type 0) (found : Option ℕ) → ((n : ℕ) → (found ≡ Some n) ↔ Rule n) → IfNone found ((n : ℕ) → ¬ Rule n)
found_none Rule None exactly = λ n holds. let none = (exactly n).1 holds in cc
found_none Rule (Some n) exactly = tt

abbrev Argument : Type 0
Argument = String Global

four : (arguments : List Argument) (a b c d : Argument) → 4 ≤ length arguments → a ≡ get_or arguments 0 a → b ≡ get_or arguments 1 b → c ≡ get_or arguments 2 c → d ≡ get_or arguments 3 d
    → arguments ≡ a ∷ b ∷ c ∷ d ∷ take (length arguments - 4) (drop 4 arguments)
four [] a b c d least is_a is_b is_c is_d = absurd (omega arith)
four (x ∷ []) a b c d least is_a is_b is_c is_d = absurd (omega arith)
four (x ∷ y ∷ []) a b c d least is_a is_b is_c is_d = absurd (omega arith)
four (x ∷ y ∷ z ∷ []) a b c d least is_a is_b is_c is_d = absurd (omega arith)
four (x ∷ y ∷ z ∷ w ∷ arguments) a b c d least is_a is_b is_c is_d =
    let count : length (x ∷ y ∷ z ∷ w ∷ arguments) - 4 ≡ length arguments = omega arith in
    let rest : take (length (x ∷ y ∷ z ∷ w ∷ arguments) - 4) (drop 4 (x ∷ y ∷ z ∷ w ∷ arguments)) ≡ arguments = ap (λ (n : ℕ). take n arguments) count ∙ take-length arguments in
    cc

pub four_arguments : (arguments : List Argument) (a b c d : Argument) (host port root collection : List ℕ) → 4 ≤ length arguments
    → a ≡ get_or arguments 0 a → b ≡ get_or arguments 1 b → c ≡ get_or arguments 2 c → d ≡ get_or arguments 3 d
    → host ≡ string_bytes a → port ≡ string_bytes b → root ≡ string_bytes c → collection ≡ string_bytes d
    → argument_texts arguments ≡ host ∷ port ∷ root ∷ collection ∷ argument_texts (take (length arguments - 4) (drop 4 arguments))
four_arguments arguments a b c d host port root collection least is_a is_b is_c is_d is_host is_port is_root is_collection =
    let are = ap argument_texts (four arguments a b c d least is_a is_b is_c is_d) in cc
