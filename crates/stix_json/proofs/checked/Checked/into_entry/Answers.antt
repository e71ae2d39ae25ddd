use Rattle.std.proofs.Common.{sym, subst}
use Rattle.stix_json.specs.declared.limits.TheConstants.{MAX_LEVELS}
use Rattle.stix_json.specs.declared.refusal.JsonRefusal.{JsonRefusal}
use Rattle.stix_json.specs.Reading.{IsRefusalOf}
use Rattle.stix_json.specs.inner.Checking.{IsCheckedAs}
use Rattle.stix_json.proofs.FirstErrorLemmas.{no_first_error, first_error_refused}
use Rattle.stix_json.proofs.checked.Checked.into_entry.Goals as goal

pub returns-in-Good : goal.returns-in-Good
returns-in-Good c d ordered checked =
    let good = subst (IsCheckedAs MAX_LEVELS d) c.in-Good.is checked in
    record { same = good.1; good = no_first_error d good.0; ordered = ordered }

pub returns-in-Bad : goal.returns-in-Bad
returns-in-Bad c d ordered checked =
    subst (λ (refusal : JsonRefusal). IsRefusalOf d refusal) (sym c.into_refusal.ensures) (first_error_refused d c.in-Bad.first_error (subst (IsCheckedAs MAX_LEVELS d) c.in-Bad.is checked))
