use Rattle.std.proofs.Common.{◌≡◌, ℕ, ℤ, List, Result, Err, Some, None, subst, refl}
use Rattle.stix_times.specs.declared.refusal.TimeRefusal.{TimeRefusal}
use Rattle.stix_times.specs.declared.refusal.TimeRefusal.TheVariants.{NotMillis}
use Rattle.stix_times.specs.Reading.{IsRefusedMillis, ReadsMillis}
use Rattle.stix_objects.specs.declared.rule.Rule.TheVariants.{BadTime}
use Rattle.stix_objects.specs.declared.form.Precision.TheVariants.{Millis}
use Rattle.stix_objects.specs.Singles.{ChecksTimestamp}
use Rattle.stix_objects.proofs.TimestampLemmas.{not_refused_millis, names_none, time_of_fine}
use Rattle.stix_objects.proofs.timestamp.check_millis.Goals as goal

pub returns-in-Err-NotMillis : goal.returns-in-Err-NotMillis
returns-in-Err-NotMillis c =
    let s = c.args.text.now in
    let fine : IsRefusedMillis s NotMillis = subst (λ (e : TimeRefusal). IsRefusedMillis s e) c.in-Err-NotMillis.field-0-is c.in-Err-NotMillis.ensures.err in (
      None,
      time_of_fine s fine,
      (λ named. not_refused_millis s c.in-Err-NotMillis.field-0 c.read_millis.result c.read_millis.ensures.only c.in-Err-NotMillis.is named.0 named.1, refl),
    )

-- a text that is refused for another cause
bad_time : (s : List ℕ) (e : TimeRefusal) (answer : Result ℤ TimeRefusal) → ((other : Result ℤ TimeRefusal) → ReadsMillis s other → other ≡ answer)
    → answer ≡ Err e → ¬ (e ≡ NotMillis) → ChecksTimestamp Millis s (Some BadTime)
bad_time s e answer only is other = (Some BadTime, (λ named. names_none s e answer only is other named.0 named.1, refl), refl)

pub returns-in-Err-Shape : goal.returns-in-Err-Shape
returns-in-Err-Shape c =
    bad_time c.args.text.now c.in-Err-Shape.field-0 c.read_millis.result c.read_millis.ensures.only c.in-Err-Shape.is (λ other. cc)

pub returns-in-Err-NoSuchDay : goal.returns-in-Err-NoSuchDay
returns-in-Err-NoSuchDay c =
    bad_time c.args.text.now c.in-Err-NoSuchDay.field-0 c.read_millis.result c.read_millis.ensures.only c.in-Err-NoSuchDay.is (λ other. cc)

pub returns-in-Err-TooFine : goal.returns-in-Err-TooFine
returns-in-Err-TooFine c =
    bad_time c.args.text.now c.in-Err-TooFine.field-0 c.read_millis.result c.read_millis.ensures.only c.in-Err-TooFine.is (λ other. cc)
