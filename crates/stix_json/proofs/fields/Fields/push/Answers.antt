use Rattle.std.proofs.Common.{ap, refl, subst, ◌∙◌, Some}
use Rattle.std.proofs.lemmas.Result.{on_ok_weaker}
use Rattle.stix_json.specs.inner.FirstErrors.{deciding_error, first_error_under}
use Rattle.stix_json.specs.inner.Checking.{IsCheckedAs}
use Rattle.stix_json.proofs.ValueErrorsLemmas.{same_member}
use Rattle.stix_json.proofs.CheckedLemmas.{fields_good, fields_bad}
use Rattle.stix_json.proofs.fields.Fields.push.Goals as goal

pub returns-in-Good : goal.returns-in-Good
returns-in-Good c =
    on_ok_weaker c.add.result
    (λ fields levels done d are checked.
    let good = subst (IsCheckedAs levels d) c.in-Good.is checked in
    fields_good levels done d c.args.member.name c.args.self.now c.add.new.self _ are good.0 (same_member c.in-Good.value refl good.1) c.add.ensures.first_error fields)
    c.add.ensures.fields

pub returns-in-Bad : goal.returns-in-Bad
returns-in-Bad c =
    on_ok_weaker c.note.result
    (λ noted levels done d are checked.
    fields_bad levels done d c.args.member.name c.args.self.now c.note.new.self c.in-Bad.first_error are (subst (IsCheckedAs levels d) c.in-Bad.is checked)
    (noted ∙ ap (λ name. deciding_error c.args.self.now.first_error (Some (first_error_under name c.in-Bad.first_error))) c.as_str.ensures))
    c.note.ensures
