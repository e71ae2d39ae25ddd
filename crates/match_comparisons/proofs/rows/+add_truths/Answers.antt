use Rattle.std.proofs.Common.{inl, inr, Bool, List, sym, subst}
use Rattle.std.specs.Prelude.{OnOk}
use Rattle.stix_bundles.specs.declared.observation.Observation.{Observation}
use Rattle.stix_bundles.specs.Objects.{data_in}
use Rattle.pattern_types.specs.declared.pattern.Pattern.{Pattern}
use Rattle.pattern_types.specs.PlainPattern.{plain_pattern}
use Rattle.match_comparisons.specs.Truths.{AreTruths}
use Rattle.match_comparisons.specs.inner.Rows.{AddsTruths}
use Rattle.match_comparisons.proofs.RowsLemmas.{on_ok, each_both}
use Rattle.match_comparisons.proofs.rows.+add_truths.Goals as goal

pub returns-in-Within : goal.returns-in-Within
returns-in-Within t c =
    let P = λ (pattern : Pattern). OnOk c.add_truths.result (AddsTruths (data_in c.args.seen.now.bundle.now) (plain_pattern pattern) c.args.seen.now.observations.now c.args.rows.now c.add_truths.new.rows) in
    let part = subst P c.deref.ensures c.add_truths.ensures in
    elim c.in-Within.is [
      | inl is ↦ subst P (sym is.1) part
      | inr later ↦ elim later [
        | inl is ↦ subst P (sym is.2) part
        | inr is ↦ subst P (sym is.1) part
      ]
    ]

pub returns-in_ok-add_truths-in-Both : goal.returns-in_ok-add_truths-in-Both
returns-in_ok-add_truths-in-Both t c =
    let objects = data_in c.args.seen.now.bundle.now in
    let observations = c.args.seen.now.observations.now in
    let Own = λ (pattern : Pattern) (observation : Observation) (own : List Bool). AreTruths objects observation.roots (plain_pattern pattern) own in
    let left = subst (λ (pattern : Pattern). AddsTruths objects (plain_pattern pattern) observations c.args.rows.now c.add_truths-in-Both.new.rows) c.deref-in-Both.ensures c.in_ok-add_truths-in-Both.ensures in
    let right = subst (λ (pattern : Pattern). OnOk c.add_truths-in-Both-2.result (AddsTruths objects (plain_pattern pattern) observations c.add_truths-in-Both.new.rows c.add_truths-in-Both-2.new.rows)) c.deref-in-Both-2.ensures c.add_truths-in-Both-2.ensures in
    let both = on_ok c.add_truths-in-Both-2.result (each_both (Own c.in-Both.left.value) (Own c.in-Both.right.value) observations c.args.rows.now c.add_truths-in-Both.new.rows c.add_truths-in-Both-2.new.rows left) right in
    let P = λ (pattern : Pattern). OnOk c.add_truths-in-Both-2.result (AddsTruths objects (plain_pattern pattern) observations c.args.rows.now c.add_truths-in-Both-2.new.rows) in
    elim c.in-Both.is [
      | inl is ↦ subst P (sym is) both
      | inr later ↦ elim later [
        | inl is ↦ subst P (sym is) both
        | inr is ↦ subst P (sym is) both
      ]
    ]
