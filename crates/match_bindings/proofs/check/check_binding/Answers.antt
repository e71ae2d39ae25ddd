-- There is a span exactly for a binding.
use Rattle.std.proofs.Common.{◌≡◌, ◌∙◌, refl, sym, ap}
use Rattle.std.specs.Prelude.{Bool, true, false, is_some}
use Rattle.match_bindings.specs.declared.span.Span.{Span}
use Rattle.match_bindings.specs.NumberedPattern.{numbered_pattern}
use Rattle.match_bindings.specs.BindTree.{tree_of}
use Rattle.match_bindings.specs.Log.{observed_in}
use Rattle.match_bindings.specs.Test.{is_binding}
use Rattle.match_bindings.specs.inner.Candidates.{span_if}
use Rattle.match_bindings.proofs.IsBindingLemmas.{binding_to, binding_from}
use Rattle.match_bindings.proofs.check.check_binding.Goals as goal

some_if : (b : Bool) (s : Span) → is_some (span_if b s) ≡ b
some_if true s = refl
some_if false s = refl

pub returns : goal.returns
returns c =
    let o = observed_in c.args.log.now in
    let p = numbered_pattern c.args.pattern.now in
    let x = tree_of c.args.bind.now in
    let is : c.is_some.result ≡ is_binding o p x = c.is_some.ensures ∙ ap is_some c.verify.ensures ∙ some_if (is_binding o p x) _ in
    (λ h. binding_to o p x (sym is ∙ h), λ h. is ∙ binding_from o p x h)
