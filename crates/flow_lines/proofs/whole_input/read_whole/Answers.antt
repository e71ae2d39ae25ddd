use Rattle.std.proofs.Common.{◌∙◌, arith, refl}
use Rattle.flow_edges.specs.declared.source.TheConstants.{MAX_READ}
use Rattle.flow_lines.proofs.TakesAtMostLemmas.{takes-these, takes-more, taken-more, is-whole, is-too-long, began-at-end, left_after-none}
use Rattle.flow_lines.proofs.CausesLemmas.{counts_none, counts_fine, counts_failed, other_error}
use Rattle.flow_lines.proofs.whole_input.read_whole.Goals as goal

pub returns-in_err-permit-clause-taken : goal.returns-in_err-permit-clause-taken
returns-in_err-permit-clause-taken g c = takes-these _ _ _ _ c.loop-turn.invariant.all (omega (arith, c.loop-turn.invariant.fits))

pub returns-in-Ok-eq0-clause-taken : goal.returns-in-Ok-eq0-clause-taken
returns-in-Ok-eq0-clause-taken g c =
    takes-more _ MAX_READ _ _ _ _ (takes-these _ _ _ _ c.loop-turn.invariant.all c.loop-turn.invariant.fits) c.in-Ok-eq0.ensures.filled.rest (omega (arith, c.in-Ok-eq0.ensures.filled.count_is, c.fill.ensures.room))

pub returns-then-count-len-clause-taken : goal.returns-then-count-len-clause-taken
returns-then-count-len-clause-taken g c =
    takes-more _ MAX_READ _ _ _ _ (takes-these _ _ _ _ c.loop-turn.invariant.all c.loop-turn.invariant.fits) c.in-Ok.ensures.filled.rest (omega (arith, c.in-Ok.ensures.filled.count_is, c.fill.ensures.room))

pub returns-in_err-read_buffer-clause-causes : goal.returns-in_err-read_buffer-clause-causes
returns-in_err-read_buffer-clause-causes g c =
    counts_none _ _ refl (other_error _ _ _ c.from_residual.ensures.1 (λ is. cc))

pub returns-in_err-permit-clause-causes : goal.returns-in_err-permit-clause-causes
returns-in_err-permit-clause-causes g c =
    counts_none _ _ c.loop-turn.invariant.quiet (other_error _ _ _ c.from_residual-in_err-permit.ensures.1 (λ is. cc))

pub returns-in-Ok-eq0-clause-causes : goal.returns-in-Ok-eq0-clause-causes
returns-in-Ok-eq0-clause-causes g c =
    counts_fine _ _ _ c.loop-turn.invariant.quiet c.in-Ok-eq0.ensures.causes (λ failed. cc) (λ is. cc)

pub returns-in-Err-clause-causes : goal.returns-in-Err-clause-causes
returns-in-Err-clause-causes g c =
    counts_failed _ _ _ c.loop-turn.invariant.quiet c.in-Err.ensures.causes refl refl

pub returns-then-count-len-clause-causes : goal.returns-then-count-len-clause-causes
returns-then-count-len-clause-causes g c =
    counts_fine _ _ _ c.loop-turn.invariant.quiet c.in-Ok.ensures.causes (λ failed. cc) (λ is. cc)

pub returns-in-Ok-eq0-clause-whole : goal.returns-in-Ok-eq0-clause-whole
returns-in-Ok-eq0-clause-whole g c =
    let filled = rw c.in-Ok-eq0.field-0-test at c.in-Ok-eq0.ensures.filled in
    is-whole _ _ _ _ _ _ _ _ _ c.loop-turn.invariant c.in_ok-permit.ensures.ok.1 c.from_vec.ensures (c.fill.ensures.end (rw c.in-Ok-eq0.field-0-test at c.in-Ok-eq0.is)) filled.rest

pub returns-then-count-len-clause-too_long : goal.returns-then-count-len-clause-too_long
returns-then-count-len-clause-too_long g c long =
    is-too-long _ _ _ _ _ _ _ _ _ _ c.loop-turn.invariant c.in_ok-permit.ensures.ok.1 c.in-Ok.ensures.filled (omega (arith, c.if-count-len.true, c.len.ensures))

pub loop-turn-preserved : goal.loop-turn-preserved
loop-turn-preserved g c =
    taken-more _ _ _ _ _ _ _ _ _ _ _ c.loop-turn.invariant c.in_ok-permit.ensures.ok.1 c.in-Ok.ensures.filled c.in-Ok.count-test.1 (grind arith)
    (c.in-Ok.ensures.causes.quiet (λ failed. cc))

pub returns-in-Ok-eq0-clause-to_end : goal.returns-in-Ok-eq0-clause-to_end
returns-in-Ok-eq0-clause-to_end g c = began-at-end _ _ (c.fill.ensures.end (rw c.in-Ok-eq0.field-0-test at c.in-Ok-eq0.is)) c.in-Ok-eq0.ensures.began

pub returns-in-Err-clause-taken : goal.returns-in-Err-clause-taken
returns-in-Err-clause-taken g c =
    takes-more _ MAX_READ 0 _ _ _ (takes-these _ _ _ _ c.loop-turn.invariant.all c.loop-turn.invariant.fits) (c.in-Err.ensures.err ∙ left_after-none _) (omega arith)
