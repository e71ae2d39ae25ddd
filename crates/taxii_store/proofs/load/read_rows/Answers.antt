use Rattle.std.proofs.Common.{◌≡◌, ℕ, ◌<◌, IfSome, sym, subst, ◌∙◌}
use Rattle.taxii_rows.specs.Keeper.{Kept, row_after}
use Rattle.taxii_store.specs.declared.load_refusal.LoadRefusal.TheVariants.{BadRow}
use Rattle.taxii_store.specs.Loading.{IsFitRow, IsBadAfter}
use Rattle.taxii_store.specs.inner.Reading.{IsBadNext}
use Rattle.taxii_store.proofs.AnswerLemmas.{handed_on}
use Rattle.taxii_store.proofs.LoadLemmas.{AreGood, IsReadTo, good_pushed, read_pushed, read_whole, bad_told, if_both}
use Rattle.taxii_store.proofs.load.read_rows.Goals as goal

pub returns-in_err-row-clause-bad : goal.returns-in_err-row-clause-bad
returns-in_err-row-clause-bad g c =
    let loop = c.loop-rows in
    handed_on c.from_residual-in_err-row.result c.in_err-row.field-0.0
    (λ refusal. (after : ℕ) → refusal ≡ BadRow after → IfSome (g.K.Keeper.kept c.args.keeper.now).observable (λ state. IsBadAfter state after))
    c.from_residual-in_err-row.ensures.1
    (λ at is. bad_told (g.K.Keeper.kept c.args.keeper.now).observable c.args.watermark loop.after at loop.rows c.requires.observable loop.invariant.2 loop.invariant.3
    (c.in_err-row.ensures.bad at is).0
    (subst (λ (kept : Kept). IfSome kept.observable (λ state. IsBadNext state loop.after)) loop.invariant.0 (c.in_err-row.ensures.bad at is).1))

pub returns-in_default-clause-rows : goal.returns-in_default-clause-rows
returns-in_default-clause-rows g c =
    let loop = c.loop-rows in
    let observable = (g.K.Keeper.kept c.args.keeper.now).observable in
    let next = subst (λ (kept : Kept). IfSome kept.observable (λ state. c.in_ok-row.field-0 ≡ row_after loop.after state.rows)) loop.invariant.0 c.in_ok-row.ensures.next in
    if_both observable (λ state. IsReadTo state loop.rows loop.after) (λ state. c.in_ok-row.field-0 ≡ row_after loop.after state.rows) (λ state. loop.rows ≡ state.rows)
    (λ state read found. read_whole state c.args.watermark loop.after loop.rows loop.invariant.2 read (sym c.in_default.is ∙ found))
    loop.invariant.3 next

pub loop-rows-preserved : goal.loop-rows-preserved
loop-rows-preserved g c =
    let loop = c.loop-rows in
    let row = c.in-Some.row in
    let observable = (g.K.Keeper.kept c.args.keeper.now).observable in
    let fits = subst (λ found. IfSome found (λ one. (loop.after < one.date) × IsFitRow c.args.watermark one)) c.in-Some.is c.in_ok-row.ensures.fit in
    let next = subst (λ (kept : Kept). IfSome kept.observable (λ state. c.in_ok-row.field-0 ≡ row_after loop.after state.rows)) loop.invariant.0 c.in_ok-row.ensures.next in
    let pushed = sym c.in_ok-push.ensures.ok in (
      c.in_ok-row.ensures.stays ∙ loop.invariant.0,
      c.in_ok-row.ensures.causes.quiet (λ failed. absurd (cc failed)) ∙ loop.invariant.1,
      subst (AreGood c.args.watermark row.date) pushed (good_pushed c.args.watermark loop.after loop.rows row loop.invariant.2 fits.0 fits.1),
      subst (λ rows. IfSome observable (λ state. IsReadTo state rows row.date)) pushed
          (if_both observable (λ state. IsReadTo state loop.rows loop.after) (λ state. c.in_ok-row.field-0 ≡ row_after loop.after state.rows) (λ state. IsReadTo state _ row.date)
          (λ state read found. read_pushed state c.args.watermark loop.after loop.rows row loop.invariant.2 read (sym c.in-Some.is ∙ found))
          loop.invariant.3 next),
    )
