-- What is kept without rows is the retained part of the empty log.
use Rattle.std.proofs.Common.{◌≡◌, [], refl, sym, ◌∙◌, ap, subst}
use Rattle.match_bindings.specs.declared.bounds.Bounds.{Bounds}
use Rattle.match_bindings.specs.Bounds.{no_bounds}
use Rattle.match_bindings.specs.NumberedPattern.{numbered_pattern}
use Rattle.match_bindings.specs.Log.{observed_in}
use Rattle.match_stream.specs.RetainedPart.{IsRetainedPart, time_of}
use Rattle.match_pruning.specs.inner.Steps.{State, empty_state, contents_of}
use Rattle.match_stream.specs.inner.Nodes.{node_state}
use Rattle.match_stream.specs.inner.Shape.{state_fits}
use Rattle.match_stream.proofs.LogLemmas.{empty_stands}
use Rattle.match_stream.proofs.ShapeLemmas.{retained_from, fits_empty}
use Rattle.match_stream.proofs.matcher.Matcher.new.Goals as goal

pub invariant_of-result : goal.invariant_of-result
invariant_of-result c =
    let p = numbered_pattern c.args.pattern.now in
    let e : node_state c.into_inner-node.result ≡ empty_state no_bounds p = ap node_state c.into_inner-node.ensures ∙ c.in_ok-boxed.ensures ∙ ap (λ (w : Bounds). empty_state w p) c.open.ensures in
    ap (state_fits no_bounds p) e ∙ fits_empty p no_bounds

pub returns-clause-represents : goal.returns-clause-represents
returns-clause-represents c =
    let p = numbered_pattern c.args.pattern.now in
    let e : node_state c.into_inner-node.result ≡ empty_state no_bounds p = ap node_state c.into_inner-node.ensures ∙ c.in_ok-boxed.ensures ∙ ap (λ (w : Bounds). empty_state w p) c.open.ensures in
    record {
      runs = refl;
      rows = refl;
      last = refl;
      retained = subst (λ (z : State). IsRetainedPart p [] (contents_of z)) (sym e)
          (retained_from c.test_is_the_rule.ensures (observed_in []) (time_of []) p no_bounds (empty_state no_bounds p) (empty_stands p no_bounds (time_of [])));
    }
