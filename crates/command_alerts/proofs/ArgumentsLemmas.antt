-- Three arguments, and what they ask for.
use Rattle.std.proofs.Common.{◌≡◌, ℕ, ◌≤◌, ◌<◌, List, [], ◌∷◌, length, String, Global, string_bytes, get_or, sym, ap, subst, ◌∙◌, arith}
use Rattle.command_line.specs.CommandLines.{IsNumberIn, argument_texts}
use Rattle.command_alerts.specs.declared.arguments.TheConstants.{MAX_N, MAX_SECONDS}
use Rattle.command_alerts.specs.Tasks.{AlertTask, AskForAlerts, AskForNoAlerts}

abbrev Argument : Type 0
Argument = String Global

pub three : (arguments : List Argument) (a b c : Argument) → 3 ≤ length arguments → length arguments < 4
    → a ≡ get_or arguments 0 a → b ≡ get_or arguments 1 b → c ≡ get_or arguments 2 c → arguments ≡ a ∷ b ∷ c ∷ []
three [] a b c least most is_a is_b is_c = absurd (omega arith)
three (x ∷ []) a b c least most is_a is_b is_c = absurd (omega arith)
three (x ∷ y ∷ []) a b c least most is_a is_b is_c = absurd (omega arith)
three (x ∷ y ∷ z ∷ []) a b c least most is_a is_b is_c = cc
three (x ∷ y ∷ z ∷ w ∷ arguments) a b c least most is_a is_b is_c = absurd (omega arith)

module _ (arguments : List Argument) (a b c : Argument) (are : arguments ≡ a ∷ b ∷ c ∷ []) where
  their : argument_texts arguments ≡ string_bytes a ∷ string_bytes b ∷ string_bytes c ∷ []
  their = ap argument_texts are

  second : (pattern n_text seconds_text : List ℕ) → argument_texts arguments ≡ pattern ∷ n_text ∷ seconds_text ∷ [] → n_text ≡ string_bytes b
  second pattern n_text seconds_text is = let both = sym their ∙ is in cc

  third : (pattern n_text seconds_text : List ℕ) → argument_texts arguments ≡ pattern ∷ n_text ∷ seconds_text ∷ [] → seconds_text ≡ string_bytes c
  third pattern n_text seconds_text is = let both = sym their ∙ is in cc

  pub no_n : ((n : ℕ) → ¬ IsNumberIn 1 MAX_N (string_bytes b) n) → AskForNoAlerts (argument_texts arguments)
  no_n none task asked =
      none task.n (subst (λ (text : List ℕ). IsNumberIn 1 MAX_N text task.n) (second task.pattern asked.n_text asked.seconds_text asked.arguments_are) asked.n_is)

  pub no_seconds : ((n : ℕ) → ¬ IsNumberIn 1 MAX_SECONDS (string_bytes c) n) → AskForNoAlerts (argument_texts arguments)
  no_seconds none task asked =
      none task.seconds
      (subst (λ (text : List ℕ). IsNumberIn 1 MAX_SECONDS text task.seconds) (third task.pattern asked.n_text asked.seconds_text asked.arguments_are) asked.seconds_is)

  pub asks : (task : AlertTask) → task.pattern ≡ string_bytes a → IsNumberIn 1 MAX_N (string_bytes b) task.n
      → IsNumberIn 1 MAX_SECONDS (string_bytes c) task.seconds → AskForAlerts (argument_texts arguments) task
  asks task pattern n seconds = record {
    n_text = string_bytes b;
    seconds_text = string_bytes c;
    arguments_are = their ∙ ap (λ (text : List ℕ). text ∷ string_bytes b ∷ string_bytes c ∷ []) (sym pattern);
    n_is = n;
    seconds_is = seconds;
  }
