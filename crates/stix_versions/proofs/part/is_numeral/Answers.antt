use Rattle.std.proofs.Common.{arith}
use Rattle.std.proofs.lemmas.Bool.Decides.{nat_tests}
use Rattle.stix_versions.proofs.DigitsLemmas.{are_digits, digits_are}
use Rattle.stix_versions.proofs.part.is_numeral.Goals as goal

pub returns-then-not-is_empty : goal.returns-then-not-is_empty
returns-then-not-is_empty c = (
  λ is. (grind (arith, nat_tests), are_digits c.args.text.now (c.is_all_digits.ensures.0 is)),
  λ numeral. c.is_all_digits.ensures.1 (digits_are c.args.text.now numeral.1),
)
