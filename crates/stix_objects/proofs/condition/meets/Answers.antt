use Rattle.std.proofs.Common.{◌≡◌, Bool, Option, Some, None, is_some, not, true, false, option_map, IsTrue, ◌↔◌, MatchOption, subst, refl}
use Rattle.serde_json.specs.Data.{Data}
use Rattle.stix_json.specs.DataOf.{data_of}
use Rattle.stix_objects.specs.declared.row_break.ValueBreak.{ValueBreak}
use Rattle.stix_objects.specs.BreakAt.{BreakAt}
use Rattle.stix_objects.specs.Forms.{MeetsForm, ChecksForm}
use Rattle.stix_objects.specs.inner.Views.{form_view, value_break_view}
use Rattle.stix_objects.proofs.BreaksLemmas.{IsOne, form_one}
use Rattle.stix_objects.proofs.condition.meets.Goals as goal

-- nothing is found exactly where the judgement's one outcome is none
none_found : (Checks : Option BreakAt → Type 0) → IsOne Checks → (found : Option ValueBreak) (none : Bool) → is_some found ≡ not none → Checks (option_map value_break_view found)
    → (IsTrue none ↔ Checks None)
none_found Checks one None true is checked = (λ met. checked, λ met. refl)
none_found Checks one None false is checked = absurd (cc)
none_found Checks one (Some value_break) true is checked = absurd (cc)
none_found Checks one (Some value_break) false is checked =
    (λ met. absurd (cc), λ met. let same : Some (value_break_view value_break) ≡ None = one (Some (value_break_view value_break)) None checked met in absurd (cc))

pub returns-in-Some : goal.returns-in-Some
returns-in-Some c =
    let form = form_view c.args.form.now in
    let d = data_of c.in-Some.value.now in
    subst (λ (o : Option Data). IsTrue c.is_none.result ↔ MatchOption o ⊥ (MeetsForm form)) c.in-Some.ensures
    (none_found (ChecksForm form d) (form_one form d) c.check_form.result c.is_none.result c.is_none.ensures c.check_form.ensures)
