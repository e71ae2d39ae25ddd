use Rattle.std.proofs.Common.{◌≡◌, refl, ap, ◌∙◌, subst, arith, Ok}
use Rattle.pattern_types.specs.PrefixLength.{BeginsAsDecimal}
use Rattle.pattern_types.proofs.PrefixLengthLemmas.{begins_from_decimal, spelled_from_parse, parse_from_spelled}
use Rattle.pattern_types.proofs.prefix_length.read_decimal.Goals as goal

pub returns-then-not-begins_as_decimal-clause-exact : goal.returns-then-not-begins_as_decimal-clause-exact
returns-then-not-begins_as_decimal-clause-exact c = λ number. (
  λ given. absurd (cc given),
  λ spelled.
      let bytes = c.as_bytes.ensures.value ∙ spelled.0 in
      let begins = begins_from_decimal number c.as_bytes.result.now (omega arith) bytes in
      absurd (cc (c.if-not-begins_as_decimal.ensures.1 begins)),
)

pub returns-in_default-clause-exact : goal.returns-in_default-clause-exact
returns-in_default-clause-exact c = λ number. (
  λ given. absurd (cc given),
  λ spelled. absurd (c.in_default.not-Ok number (parse_from_spelled c.args.digits.now c.parse.result number (omega arith) c.parse.ensures.value.0 spelled.0)),
)

pub returns-then-number-most-clause-exact : goal.returns-then-number-most-clause-exact
returns-then-number-most-clause-exact c = λ number.
    let begins = subst BeginsAsDecimal c.as_bytes.ensures.value (c.if-not-begins_as_decimal.ensures.0 refl) in
    let given = c.in-Ok.is in (
      λ same.
          let number_is : c.in-Ok.number ≡ number = cc in
          (spelled_from_parse c.args.digits.now c.parse.result number begins c.parse.ensures.value.0 (given ∙ ap Ok number_is), omega arith),
      λ spelled. cc (parse_from_spelled c.args.digits.now c.parse.result number (omega arith) c.parse.ensures.value.0 spelled.0),
    )

pub returns-else-number-most-clause-exact : goal.returns-else-number-most-clause-exact
returns-else-number-most-clause-exact c = λ number. (
  λ given. absurd (cc given),
  λ spelled.
      let given = parse_from_spelled c.args.digits.now c.parse.result number (omega arith) c.parse.ensures.value.0 spelled.0 in
      let same : c.in-Ok.number ≡ number = cc in
      absurd (omega arith),
)
