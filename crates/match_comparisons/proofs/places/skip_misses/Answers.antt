use Rattle.std.proofs.Common.{rules, IsUtf8, subst, sym, List, ℕ, ◌∙◌}
use Rattle.std.specs.Str.{chars}
use Rattle.match_comparisons.specs.inner.Places.{SamePlaces}
use Rattle.match_comparisons.proofs.PlacesLemmas.{first_places, same_on, no_longer, shorter}
use Rattle.match_comparisons.proofs.places.skip_misses.Goals as goal

pub loop-places-smaller : goal.loop-places-smaller
loop-places-smaller c =
    let utf8 : IsUtf8 c.loop-places.text.now = search rules in
    shorter c.loop-places.text.now (chars c.skip-text.result.now) c.candidates-places.result utf8 (sym c.is_empty.ensures ∙ c.loop-places-test.true) c.if-places-ne0.false c.skip-text.ensures

pub loop-places-preserved : goal.loop-places-preserved
loop-places-preserved c =
    let segment = chars c.args.segment.now in
    let text = chars c.loop-places.text.now in
    let rest = chars c.skip-text.result.now in
    let first = first_places text segment c.candidates-places.result (search rules) c.candidates-places.ensures in
    let skipped = subst (λ (part : List ℕ). SamePlaces text part segment) (sym c.skip-text.ensures) first in (
      search rules,
      same_on (chars c.args.whole_text.now) text rest segment c.loop-places.invariant.1 skipped,
      no_longer _ text rest (chars c.args.whole_text.now) c.skip-text.ensures c.loop-places.invariant.2,
    )

pub returns-then-places-ne0-clause-same : goal.returns-then-places-ne0-clause-same
returns-then-places-ne0-clause-same c =
    let segment = chars c.args.segment.now in
    let text = chars c.loop-places.text.now in
    let rest = chars c.skip-text.result.now in
    let first = first_places text segment c.candidates-places.result (search rules) c.candidates-places.ensures in
    let skipped = subst (λ (part : List ℕ). SamePlaces text part segment) (sym c.skip-text.ensures) first in
    same_on (chars c.args.whole_text.now) text rest segment c.loop-places.invariant.1 skipped

pub returns-then-places-ne0-clause-within : goal.returns-then-places-ne0-clause-within
returns-then-places-ne0-clause-within c =
    no_longer _ (chars c.loop-places.text.now) (chars c.skip-text.result.now) (chars c.args.whole_text.now) c.skip-text.ensures c.loop-places.invariant.2
