use Rattle.taxii_bodies.specs.inner.Members.{members_in}
use Rattle.taxii_bodies.proofs.StatusLemmas.{status_joined}
use Rattle.taxii_bodies.proofs.status.status_fields.Goals as goal

pub returns : goal.returns
returns c = status_joined c.args.report.now c.args.moment.now
    (members_in c.new-fields.result) (members_in c.add_number.new.self) (members_in c.add_details.new.fields) (members_in c.add_middle.new.fields)
    (members_in c.add_details-2.new.fields) (members_in c.add_number-2.new.self) c.as_slice.result.now c.as_slice-2.result.now
    c.new-fields.ensures c.in_ok-add_number.ensures c.in_ok-add_details.ensures c.as_slice.ensures c.in_ok-add_middle.ensures
    c.in_ok-add_details-2.ensures c.as_slice-2.ensures c.in_ok-add_number-2.ensures
