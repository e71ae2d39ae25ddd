use Rattle.std.proofs.Common.{bytes_eq, sym, ap, ◌∙◌}
use Rattle.stix_json.specs.inner.Checking.{member_name}
use Rattle.stix_json.proofs.InsertionLemmas.{last_ends}
use Rattle.stix_json.proofs.raw_members.ends_with_name.Goals as goal

pub returns-in-Some : goal.returns-in-Some
returns-in-Some c =
    let last = c.in-Some.last.now in
    let name = c.args.next.now.name in
    c.eq.ensures
    ∙ ap (λ n. bytes_eq n c.as_str-in-Some.result.now) c.as_str.ensures
    ∙ ap (bytes_eq last.name) c.as_str-in-Some.ensures
    ∙ sym (last_ends member_name name c.args.members.now last (sym c.in-Some.ensures.value))
