use Rattle.std.proofs.Common.{ap, ◌∙◌}
use Rattle.uuid.specs.Text.{hyphenated_text, lower}
use Rattle.stix_ids.specs.Uuid.{uuid_text}
use Rattle.stix_ids.proofs.hyphenated.write_uuid.Goals as goal

pub returns : goal.returns
unfolding uuid_text
returns c = c.encode_lower.ensures.text ∙ ap (hyphenated_text lower) (c.hyphenated.ensures ∙ c.from_u128.ensures)
