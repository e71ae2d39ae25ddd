use Rattle.std.proofs.Common.{◌∙◌}
use Rattle.taxii_bodies.specs.inner.Members.{members_in}
use Rattle.taxii_bodies.proofs.StatusLemmas.{middle_joined, named_middle}
use Rattle.taxii_bodies.proofs.status.add_middle.Goals as goal

pub returns : goal.returns
returns c =
    middle_joined (members_in c.args.fields.now) (members_in c.add_text.new.self) (members_in c.add_number.new.self) (members_in c.add_text-2.new.self)
    (members_in c.add_text-3.new.self) (members_in c.add_number-2.new.self) _ _ _ _ _
    c.in_ok-add_text.ensures c.in_ok-add_number.ensures c.in_ok-add_text-2.ensures c.in_ok-add_text-3.ensures c.in_ok-add_number-2.ensures
    ∙ named_middle (members_in c.args.fields.now) c.args.report.now c.args.moment.now c.as_str.result.now (c.as_str.ensures ∙ c.in_ok-id.ensures)
