use Rattle.std.proofs.Common.{◌≡◌, sym, subst, map}
use Rattle.std.specs.Prelude.{IfOk, codes}
use Rattle.serde_json.specs.Data.{boolean, object, Members}
use Rattle.serde_json.specs.Written.{compact_text}
use Rattle.stix_json.specs.DataOf.{data_of}
use Rattle.stix_json.specs.Ordered.{MembersAreOrdered}
use Rattle.taxii_bodies.specs.inner.Members.{members_in}
use Rattle.taxii_bodies.proofs.FieldLemmas.{with_list}
use Rattle.taxii_bodies.proofs.page.page_text.Goals as goal

pub into_text-requires : goal.into_text-requires
into_text-requires c =
    subst MembersAreOrdered
    (sym (with_list (members_in c.new-page.result) (members_in c.add_truth.new.self) (members_in c.add_some.new.self) (record { name = codes "more"; value = boolean c.args.more })
    c.args.name.now (map data_of c.args.values) c.new-page.ensures c.in_ok-add_truth.ensures c.in_ok-add_some.ensures))
    c.requires

pub returns : goal.returns
returns c =
    subst (λ (ms : Members). IfOk c.into_text.result (λ text. text ≡ compact_text (object ms)))
    (with_list (members_in c.new-page.result) (members_in c.add_truth.new.self) (members_in c.add_some.new.self) (record { name = codes "more"; value = boolean c.args.more })
    c.args.name.now (map data_of c.args.values) c.new-page.ensures c.in_ok-add_truth.ensures c.in_ok-add_some.ensures)
    c.into_text.ensures
