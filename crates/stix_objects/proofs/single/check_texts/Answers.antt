use Rattle.std.proofs.Common.{◌≡◌, List, [], ◌∷◌, length, map, Some, None, false, refl, ◌==◌, sym, ◌∙◌}
use Rattle.stix_json.specs.declared.value.Field.{Field}
use Rattle.stix_json.specs.DataOf.{field_data, members_of}
use Rattle.stix_objects.specs.declared.rule.Rule.TheVariants.{WrongKind}
use Rattle.stix_objects.specs.Singles.{HasMember}
use Rattle.stix_objects.proofs.CheckingLemmas.{not_true}
use Rattle.stix_objects.proofs.single.check_texts.Goals as goal

pub returns-then-not-are_texts : goal.returns-then-not-are_texts
returns-then-not-are_texts c = (Some WrongKind, (λ all. not_true c.are_texts.result c.if-not-are_texts.true (c.are_texts.ensures.1 all), refl), refl)

has_member : (fields : List Field) → (length fields == 0) ≡ false → HasMember (members_of (map field_data fields))
has_member [] filled = absurd (cc)
has_member (field ∷ fields) filled = tt

pub returns : goal.returns
returns c = (None, c.are_texts.ensures.0 c.if-not-are_texts.false, has_member c.args.fields.now (sym c.is_empty.ensures ∙ c.if-is_empty.false))
