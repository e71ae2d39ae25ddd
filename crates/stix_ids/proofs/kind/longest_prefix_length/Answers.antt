use Rattle.std.proofs.Common.{below_more, arith, refl}
use Rattle.std.proofs.lemmas.Bool.{iff_false}
use Rattle.stix_ids.specs.KindBytes.{FitsAt}
use Rattle.stix_ids.proofs.KindLemmas.{longest_prefix, fits_from_follows, follows_from_fits, next_last}
use Rattle.stix_ids.proofs.kind.longest_prefix_length.Goals as goal

pub loop-at-init : goal.loop-at-init
loop-at-init c = record { fits = λ k l. absurd (omega arith); last = refl }

pub returns-then-not-may_follow : goal.returns-then-not-may_follow
returns-then-not-may_follow c =
    let end = c.min-end.ensures in
    longest_prefix c.args.bytes.now c.loop-at.at (omega arith) c.loop-at.invariant.fits (λ _ fits.
    iff_false c.may_follow.ensures c.if-not-may_follow.true
    (follows_from_fits c.args.bytes.now c.loop-at.at c.loop-at.before c.loop-at.invariant.last fits))

pub loop-at-preserved : goal.loop-at-preserved
loop-at-preserved c =
    let s = c.args.bytes.now in
    let at = c.loop-at.at in
    let inv = c.loop-at.invariant in
    let end = c.min-end.ensures in
    record {
      fits = below_more (FitsAt s) at inv.fits (fits_from_follows s at c.loop-at.before (omega arith) inv.last (c.may_follow.ensures.0 c.if-not-may_follow.false));
      last = next_last s at;
    }

pub returns : goal.returns
returns c =
    let end = c.min-end.ensures in
    longest_prefix c.args.bytes.now c.min-end.result (omega arith) (λ k l. c.loop-at.invariant.fits k (omega arith))
    (λ l fits. let place = fits.place in absurd (omega arith))
