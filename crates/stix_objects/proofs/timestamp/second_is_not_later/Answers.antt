use Rattle.stix_objects.proofs.TimestampLemmas.{never_there, not_before, not_later_of}
use Rattle.stix_objects.proofs.timestamp.second_is_not_later.Goals as goal

pub returns-in_default : goal.returns-in_default
returns-in_default c =
    rw (← c.json-object.ensures) (λ f. absurd (cc), λ found. absurd (never_there found.from (c.in_default.ensures.only found.from found.begins)))

pub returns-in-None : goal.returns-in-None
returns-in-None c =
    rw (← c.json-object.ensures) (λ f. absurd (cc), λ found. absurd (never_there found.to (c.in-None.ensures.only found.to found.ends)))

pub returns-in-Some-instant_at : goal.returns-in-Some-instant_at
returns-in-Some-instant_at c =
    rw (← c.json-object.ensures) (
      λ before. record {
        from = c.in-Some.from;
        to = c.in-Some-instant_at.to;
        begins = c.in-Some.ensures.there;
        ends = c.in-Some-instant_at.ensures.there;
        not_later = not_before c.in-Some.from c.in-Some-instant_at.to c.is_before.result c.is_before.ensures before;
      },
      λ found. not_later_of found.from c.in-Some.from found.to c.in-Some-instant_at.to c.is_before.result
          (c.in-Some.ensures.only found.from found.begins) (c.in-Some-instant_at.ensures.only found.to found.ends) c.is_before.ensures found.not_later,
    )
