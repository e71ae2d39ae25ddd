-- The least number of tries, two arguments, and that a text is read exactly where it is a timestamp.
use Rattle.std.proofs.Common.{◌≡◌, ◌↔◌, ℕ, ℤ, ◌≤◌, ◌<◌, Bool, List, [], ◌∷◌, length, get_or, String, Global, string_bytes, Option, Result, Ok, Err, IfOk, refl, sym, ap, subst, ◌∙◌, arith}
use Rattle.command_line.specs.CommandLines.{argument_texts}
use Rattle.std.specs.Prelude.{IsTrue}
use Rattle.std.specs.Result.{is_ok}
use Rattle.stix_times.specs.declared.refusal.TimeRefusal.{TimeRefusal}
use Rattle.stix_times.specs.Reading.{IsTextOfInstant, ReadsTimestamp}
use Rattle.command_mirror.specs.Arguments.{AreStoreArguments, IsInstantText}

pub tries_least : (more : List (List ℕ)) (file : List ℕ) (tries : ℕ) (since : Option (List ℕ)) → AreStoreArguments more file tries since → 1 ≤ tries
tries_least [] file tries since are = absurd are
tries_least (name ∷ []) file tries since are = absurd are
tries_least (name ∷ number ∷ last) file tries since (is, some, its, time) = its.at_least

read_exactly : (text : List ℕ) (answer : Result ℤ TimeRefusal) → IfOk answer (IsTextOfInstant text) → ((other : Result ℤ TimeRefusal) → ReadsTimestamp text other → other ≡ answer)
    → IsTrue (is_ok answer) ↔ IsInstantText text
read_exactly text (Ok instant) ok only = (λ read. (instant, ok), λ is. refl)
read_exactly text (Err refusal) ok only = (λ read. absurd (cc read), λ is. absurd (no_error is.0 (only (Ok is.0) is.1)))
  where
    no_error : (instant : ℤ) → ◌≡◌ {A = Result ℤ TimeRefusal} (Ok instant) (Err refusal) → ⊥
    no_error instant same = cc

pub timestamp_exactly : (text : List ℕ) (answer : Result ℤ TimeRefusal) (read : Bool) → IfOk answer (IsTextOfInstant text) → ((other : Result ℤ TimeRefusal) → ReadsTimestamp text other → other ≡ answer)
    → read ≡ is_ok answer → IsTrue read ↔ IsInstantText text
timestamp_exactly text answer read ok only is = subst (λ (b : Bool). IsTrue b ↔ IsInstantText text) (sym is) (read_exactly text answer ok only)

abbrev Argument : Type 0
Argument = String Global

two : (arguments : List Argument) (a b : Argument) → 2 ≤ length arguments → length arguments < 3 → a ≡ get_or arguments 0 a → b ≡ get_or arguments 1 b → arguments ≡ a ∷ b ∷ []
two [] a b least most is_a is_b = absurd (omega arith)
two (x ∷ []) a b least most is_a is_b = absurd (omega arith)
two (x ∷ y ∷ []) a b least most is_a is_b = cc
two (x ∷ y ∷ z ∷ arguments) a b least most is_a is_b = absurd (omega arith)

pub two_arguments : (arguments : List Argument) (a b : Argument) (first second : List ℕ) → 2 ≤ length arguments → length arguments < 3 → a ≡ get_or arguments 0 a → b ≡ get_or arguments 1 b
    → first ≡ string_bytes a → second ≡ string_bytes b → argument_texts arguments ≡ first ∷ second ∷ []
two_arguments arguments a b first second least most is_a is_b is_first is_second =
    ap argument_texts (two arguments a b least most is_a is_b) ∙ ap (λ (text : List ℕ). text ∷ string_bytes b ∷ []) (sym is_first) ∙ ap (λ (text : List ℕ). first ∷ text ∷ []) (sym is_second)
