use Rattle.std.proofs.Common.{sym, subst}
use Rattle.stix_json.specs.declared.limits.TheConstants.{MAX_LEVELS}
use Rattle.stix_json.specs.declared.refusal.JsonRefusal.{JsonRefusal}
use Rattle.stix_json.specs.Reading.{IsJsonRefusedAs}
use Rattle.stix_json.specs.inner.Checking.{IsCheckedAs}
use Rattle.stix_json.proofs.OrderedLemmas.{json_of, value_ordered}
use Rattle.stix_json.proofs.FirstErrorLemmas.{no_first_error, first_error_refused, refused_json}
use Rattle.stix_json.proofs.read.read_whole.Goals as goal

pub returns-in-Good-clause-ok : goal.returns-in-Good-clause-ok
returns-in-Good-clause-ok c =
    let found = c.in_ok-json.ensures.ok in
    let bytes = c.args.whole.now.value in
    let d = found.0 in
    let good = subst (IsCheckedAs MAX_LEVELS d) c.in-Good.is found.2 in
    json_of bytes d c.in-Good.json found.1 (record { same = good.1; good = no_first_error d good.0; ordered = value_ordered bytes d found.1 })

pub returns-in-Bad-clause-err : goal.returns-in-Bad-clause-err
returns-in-Bad-clause-err c =
    let found = c.in_ok-json.ensures.ok in
    let bytes = c.args.whole.now.value in
    let d = found.0 in
    let refused = first_error_refused d c.in-Bad.first_error (subst (IsCheckedAs MAX_LEVELS d) c.in-Bad.is found.2) in
    subst (λ (refusal : JsonRefusal). IsJsonRefusedAs bytes refusal) (sym c.into_refusal.ensures) (refused_json bytes d _ found.1 refused)
