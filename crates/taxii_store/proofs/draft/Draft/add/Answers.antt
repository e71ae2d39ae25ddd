use Rattle.std.proofs.Common.{◌+◌, ◌∷◌, ◌++◌, [], ap, subst, sym, arith}
use Rattle.taxii_store.specs.inner.Moving.{IsDraft, next_date}
use Rattle.taxii_store.proofs.CountLemmas.{counts_ascend}
use Rattle.taxii_store.proofs.DraftLemmas.{object_pushed}
use Rattle.taxii_store.proofs.draft.Draft.add.Goals as goal

pub push-requires : goal.push-requires
push-requires c =
    let next = ap (next_date c.args.watermark) c.as_slice.ensures.rows in
    let draft = object_pushed c.args.watermark c.args.self.now.outcomes c.args.self.now.added c.args.object _ c.args.collection c.into_row.result
    c.requires.draft c.requires.sound c.into_row.ensures next (omega (arith, c.if-date-gt-LAST_DATE.false)) in
    record { later = counts_ascend 1 (c.args.watermark + 1) (c.args.self.now.added ++ c.into_row.result ∷ []) (omega arith) draft.dates }

pub returns-clause-draft : goal.returns-clause-draft
returns-clause-draft c =
    let next = ap (next_date c.args.watermark) c.as_slice.ensures.rows in
    subst (IsDraft c.args.watermark c.args.self.now.outcomes) (sym c.in_ok-push.ensures.ok)
    (object_pushed c.args.watermark c.args.self.now.outcomes c.args.self.now.added c.args.object _ c.args.collection c.into_row.result
    c.requires.draft c.requires.sound c.into_row.ensures next (omega (arith, c.if-date-gt-LAST_DATE.false)))
