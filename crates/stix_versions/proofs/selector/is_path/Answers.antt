use Rattle.std.proofs.Common.{rules, sym, ◌∙◌}
use Rattle.std.proofs.lemmas.Bool.{false≢true}
use Rattle.stix_versions.proofs.PathLemmas.{path_begins, path_continues, path_ends}
use Rattle.stix_versions.proofs.selector.is_path.Goals as goal

pub returns-then-not-is_part : goal.returns-then-not-is_part
returns-then-not-is_part c = (
  λ is. absurd (false≢true is),
  λ path. absurd (false≢true (sym c.if-not-is_part.true ∙ c.is_part.ensures.1
      (path_begins c.loop-part.rest.now (c.in-Some.part, c.in-Some.after) c.in-Some.ensures.cases (c.loop-part.invariant.1.0 path)))),
)

pub loop-part-preserved : goal.loop-part-preserved
loop-part-preserved c =
    let on = path_continues c.loop-part.rest.now (c.in-Some.part, c.in-Some.after) c.in-Some.ensures.cases (c.is_part.ensures.0 c.if-not-is_part.false) in
    (search rules, (λ path. on.0 (c.loop-part.invariant.1.0 path), λ path. c.loop-part.invariant.1.1 (on.1 path)))

pub returns : goal.returns
returns c =
    let ends = path_ends c.loop-part.rest.now c.in_default.ensures.cases in (
      λ is. c.loop-part.invariant.1.1 (ends.1 (c.is_part-2.ensures.0 is)),
      λ path. c.is_part-2.ensures.1 (ends.0 (c.loop-part.invariant.1.0 path)),
    )
