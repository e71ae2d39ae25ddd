use Rattle.std.proofs.Common.{rules, ◌≡◌, ◌+◌, subst}
use Rattle.std.proofs.lemmas.Result.{on_ok_weaker}
use Rattle.stix_json.specs.inner.Checking.{IsCheckedAs}
use Rattle.stix_json.proofs.CheckedLemmas.{elements_good, elements_bad}
use Rattle.stix_json.proofs.elements.Elements.push.Goals as goal

pub returns-in-Good : goal.returns-in-Good
returns-in-Good c =
    let old = c.args.self.now in
    let new = c.add.new.self in
    let len : new.len ≡ old.len + 1 = search rules in
    on_ok_weaker c.add.result
    (λ items levels done d is checked.
    let good = subst (IsCheckedAs levels d) c.in-Good.is checked in
    elements_good levels done d old new c.in-Good.item is good.0 good.1 c.add.ensures.first_error len items)
    c.add.ensures.items

pub returns-in-Bad : goal.returns-in-Bad
returns-in-Bad c =
    let old = c.args.self.now in
    let new = c.note.new.self in
    let len : new.len ≡ old.len + 1 = search rules in
    on_ok_weaker c.note.result
    (λ noted levels done d is checked. elements_bad levels done d old new c.in-Bad.first_error is (subst (IsCheckedAs levels d) c.in-Bad.is checked) noted len)
    c.note.ensures.first_error
