use Rattle.std.proofs.Common.{◌≡◌, ◌++◌, ◌∷◌, [], arith, List, ℕ, Option, Some, None, IfNone, sym, subst}
use denote.Ref.{Bor}
use Rattle.std.proofs.lemmas.Str.Pattern.{strip_prefix_char, strip_suffix_char}
use Rattle.stix_versions.specs.Selector.{in_brackets}
use Rattle.stix_versions.proofs.BracketsLemmas.{stripped_some, stripped_none}
use Rattle.stix_versions.proofs.part.bracketed.Goals as goal

pub returns-in_err-strip_prefix-clause-none : goal.returns-in_err-strip_prefix-clause-none
returns-in_err-strip_prefix-clause-none c =
    subst (λ (o : Option (Bor (List ℕ))). IfNone o ((inner : List ℕ) → c.args.text.now ≡ in_brackets inner → ⊥)) (sym c.from_residual.ensures)
    (λ inner is. strip_prefix_char 91 c.args.text.now None c.in_err-strip_prefix.ensures.cases (omega arith) (inner ++ 93 ∷ []) is)

pub returns-clause-some : goal.returns-clause-some
returns-clause-some c =
    let rest = c.in_ok-strip_prefix.field-0 in
    stripped_some c.args.text.now rest.now (strip_prefix_char 91 c.args.text.now (Some rest) c.in_ok-strip_prefix.ensures.cases (omega arith)) c.strip_suffix.result
    (strip_suffix_char 93 rest.now c.strip_suffix.result c.strip_suffix.ensures.cases (omega arith))

pub returns-clause-none : goal.returns-clause-none
returns-clause-none c =
    let rest = c.in_ok-strip_prefix.field-0 in
    stripped_none c.args.text.now rest.now (strip_prefix_char 91 c.args.text.now (Some rest) c.in_ok-strip_prefix.ensures.cases (omega arith)) c.strip_suffix.result
    (strip_suffix_char 93 rest.now c.strip_suffix.result c.strip_suffix.ensures.cases (omega arith))
