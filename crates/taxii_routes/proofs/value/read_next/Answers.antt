use Rattle.taxii_routes.proofs.ValueLemmas.{found_next}
use Rattle.taxii_routes.proofs.value.read_next.Goals as goal

pub returns : goal.returns
returns c =
    found_next c.args.value.now c.from_str_radix.result c.ok.result c.if-value-ne-NEXT_LENGTH.false (c.has_hex_digits.ensures.0 c.if-not-has_hex_digits.false)
    c.from_str_radix.ensures.value c.ok.ensures.value
