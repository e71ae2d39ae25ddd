use Rattle.std.proofs.Common.{refl}
use Rattle.taxii_routes.specs.declared.param.Param.TheVariants.{AddedAfter, Limit, Next, MatchId, MatchType, MatchVersion, MatchSpec}
use Rattle.taxii_routes.specs.Query.{asked}
use Rattle.taxii_routes.proofs.FieldLemmas.{none_asked, adds}
use Rattle.taxii_routes.proofs.query.Query.add.Goals as goal

pub returns-in-AddedAfter-clause-ok : goal.returns-in-AddedAfter-clause-ok
returns-in-AddedAfter-clause-ok c =
    let old = c.args.self.now in
    (adds c.args.param AddedAfter c.args.value.now old (record old { added_after = c.set.new.slot }) c.read_instant.result c.set.new.slot c.set.result c.in-AddedAfter.is
    (none_asked (asked c.args.param old) c.has.result c.has.ensures c.if-has.false) c.read_instant.ensures c.set.ensures refl).0

pub returns-in-AddedAfter-clause-err : goal.returns-in-AddedAfter-clause-err
returns-in-AddedAfter-clause-err c =
    let old = c.args.self.now in
    (adds c.args.param AddedAfter c.args.value.now old (record old { added_after = c.set.new.slot }) c.read_instant.result c.set.new.slot c.set.result c.in-AddedAfter.is
    (none_asked (asked c.args.param old) c.has.result c.has.ensures c.if-has.false) c.read_instant.ensures c.set.ensures refl).1

pub returns-in-Limit-clause-ok : goal.returns-in-Limit-clause-ok
returns-in-Limit-clause-ok c =
    let old = c.args.self.now in
    (adds c.args.param Limit c.args.value.now old (record old { limit = c.set-in-Limit.new.slot }) c.read_limit.result c.set-in-Limit.new.slot c.set-in-Limit.result c.in-Limit.is
    (none_asked (asked c.args.param old) c.has.result c.has.ensures c.if-has.false) c.read_limit.ensures c.set-in-Limit.ensures refl).0

pub returns-in-Limit-clause-err : goal.returns-in-Limit-clause-err
returns-in-Limit-clause-err c =
    let old = c.args.self.now in
    (adds c.args.param Limit c.args.value.now old (record old { limit = c.set-in-Limit.new.slot }) c.read_limit.result c.set-in-Limit.new.slot c.set-in-Limit.result c.in-Limit.is
    (none_asked (asked c.args.param old) c.has.result c.has.ensures c.if-has.false) c.read_limit.ensures c.set-in-Limit.ensures refl).1

pub returns-in-Next-clause-ok : goal.returns-in-Next-clause-ok
returns-in-Next-clause-ok c =
    let old = c.args.self.now in
    (adds c.args.param Next c.args.value.now old (record old { next = c.set-in-Next.new.slot }) c.read_next.result c.set-in-Next.new.slot c.set-in-Next.result c.in-Next.is
    (none_asked (asked c.args.param old) c.has.result c.has.ensures c.if-has.false) c.read_next.ensures c.set-in-Next.ensures refl).0

pub returns-in-Next-clause-err : goal.returns-in-Next-clause-err
returns-in-Next-clause-err c =
    let old = c.args.self.now in
    (adds c.args.param Next c.args.value.now old (record old { next = c.set-in-Next.new.slot }) c.read_next.result c.set-in-Next.new.slot c.set-in-Next.result c.in-Next.is
    (none_asked (asked c.args.param old) c.has.result c.has.ensures c.if-has.false) c.read_next.ensures c.set-in-Next.ensures refl).1

pub returns-in_ok-read_ids-in-MatchId-clause-ok : goal.returns-in_ok-read_ids-in-MatchId-clause-ok
returns-in_ok-read_ids-in-MatchId-clause-ok c =
    let old = c.args.self.now in
    (adds c.args.param MatchId c.args.value.now old (record old { ids = c.set-in-MatchId.new.slot }) c.in_ok-read_ids-in-MatchId.field-0 c.set-in-MatchId.new.slot c.set-in-MatchId.result c.in-MatchId.is
    (none_asked (asked c.args.param old) c.has.result c.has.ensures c.if-has.false) c.in_ok-read_ids-in-MatchId.ensures c.set-in-MatchId.ensures refl).0

pub returns-in_ok-read_ids-in-MatchId-clause-err : goal.returns-in_ok-read_ids-in-MatchId-clause-err
returns-in_ok-read_ids-in-MatchId-clause-err c =
    let old = c.args.self.now in
    (adds c.args.param MatchId c.args.value.now old (record old { ids = c.set-in-MatchId.new.slot }) c.in_ok-read_ids-in-MatchId.field-0 c.set-in-MatchId.new.slot c.set-in-MatchId.result c.in-MatchId.is
    (none_asked (asked c.args.param old) c.has.result c.has.ensures c.if-has.false) c.in_ok-read_ids-in-MatchId.ensures c.set-in-MatchId.ensures refl).1

pub returns-in_ok-read_texts-in-MatchType-clause-ok : goal.returns-in_ok-read_texts-in-MatchType-clause-ok
returns-in_ok-read_texts-in-MatchType-clause-ok c =
    let old = c.args.self.now in
    (adds c.args.param MatchType c.args.value.now old (record old { kinds = c.set-in-MatchType.new.slot }) c.in_ok-read_texts-in-MatchType.field-0 c.set-in-MatchType.new.slot c.set-in-MatchType.result c.in-MatchType.is
    (none_asked (asked c.args.param old) c.has.result c.has.ensures c.if-has.false) c.in_ok-read_texts-in-MatchType.ensures c.set-in-MatchType.ensures refl).0

pub returns-in_ok-read_texts-in-MatchType-clause-err : goal.returns-in_ok-read_texts-in-MatchType-clause-err
returns-in_ok-read_texts-in-MatchType-clause-err c =
    let old = c.args.self.now in
    (adds c.args.param MatchType c.args.value.now old (record old { kinds = c.set-in-MatchType.new.slot }) c.in_ok-read_texts-in-MatchType.field-0 c.set-in-MatchType.new.slot c.set-in-MatchType.result c.in-MatchType.is
    (none_asked (asked c.args.param old) c.has.result c.has.ensures c.if-has.false) c.in_ok-read_texts-in-MatchType.ensures c.set-in-MatchType.ensures refl).1

pub returns-in_ok-read_picks-in-MatchVersion-clause-ok : goal.returns-in_ok-read_picks-in-MatchVersion-clause-ok
returns-in_ok-read_picks-in-MatchVersion-clause-ok c =
    let old = c.args.self.now in
    (adds c.args.param MatchVersion c.args.value.now old (record old { picks = c.set-in-MatchVersion.new.slot }) c.in_ok-read_picks-in-MatchVersion.field-0 c.set-in-MatchVersion.new.slot c.set-in-MatchVersion.result c.in-MatchVersion.is
    (none_asked (asked c.args.param old) c.has.result c.has.ensures c.if-has.false) c.in_ok-read_picks-in-MatchVersion.ensures c.set-in-MatchVersion.ensures refl).0

pub returns-in_ok-read_picks-in-MatchVersion-clause-err : goal.returns-in_ok-read_picks-in-MatchVersion-clause-err
returns-in_ok-read_picks-in-MatchVersion-clause-err c =
    let old = c.args.self.now in
    (adds c.args.param MatchVersion c.args.value.now old (record old { picks = c.set-in-MatchVersion.new.slot }) c.in_ok-read_picks-in-MatchVersion.field-0 c.set-in-MatchVersion.new.slot c.set-in-MatchVersion.result c.in-MatchVersion.is
    (none_asked (asked c.args.param old) c.has.result c.has.ensures c.if-has.false) c.in_ok-read_picks-in-MatchVersion.ensures c.set-in-MatchVersion.ensures refl).1

pub returns-in_ok-read_texts-in-MatchSpec-clause-ok : goal.returns-in_ok-read_texts-in-MatchSpec-clause-ok
returns-in_ok-read_texts-in-MatchSpec-clause-ok c =
    let old = c.args.self.now in
    (adds c.args.param MatchSpec c.args.value.now old (record old { specs = c.set-in-MatchSpec.new.slot }) c.in_ok-read_texts-in-MatchSpec.field-0 c.set-in-MatchSpec.new.slot c.set-in-MatchSpec.result c.in-MatchSpec.is
    (none_asked (asked c.args.param old) c.has.result c.has.ensures c.if-has.false) c.in_ok-read_texts-in-MatchSpec.ensures c.set-in-MatchSpec.ensures refl).0

pub returns-in_ok-read_texts-in-MatchSpec-clause-err : goal.returns-in_ok-read_texts-in-MatchSpec-clause-err
returns-in_ok-read_texts-in-MatchSpec-clause-err c =
    let old = c.args.self.now in
    (adds c.args.param MatchSpec c.args.value.now old (record old { specs = c.set-in-MatchSpec.new.slot }) c.in_ok-read_texts-in-MatchSpec.field-0 c.set-in-MatchSpec.new.slot c.set-in-MatchSpec.result c.in-MatchSpec.is
    (none_asked (asked c.args.param old) c.has.result c.has.ensures c.if-has.false) c.in_ok-read_texts-in-MatchSpec.ensures c.set-in-MatchSpec.ensures refl).1
