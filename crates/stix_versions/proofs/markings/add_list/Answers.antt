use Rattle.std.proofs.Common.{◌++◌, [], List, Some, None, append-nil, append_assoc, sym, ap, subst, ◌∙◌}
use Rattle.serde_json.specs.Data.{Data}
use Rattle.stix_json.specs.DataOf.{data_of}
use Rattle.stix_versions.specs.declared.marking_break.MarkingBreak.{MarkingBreak}
use Rattle.stix_versions.specs.Markings.{AreBreaksOfMarkings}
use Rattle.stix_versions.proofs.FirstObjectsLemmas.{taken_all}
use Rattle.stix_versions.proofs.MarkingBreaksLemmas.{told, breaks_at}
use Rattle.stix_versions.proofs.markings.add_list.Goals as goal
use Rattle.stix_versions.proofs.markings.add_list.Goals.{in-Some+in_ok-push, in_default}

pub loop-at-preserved : goal.loop-at-preserved
loop-at-preserved c =
    let place = c.args.object_at in
    let d = data_of c.args.object.now in
    let markings = c.args.markings.now in
    let at = c.loop-at.at in
    let marking = c.index-markings-at.result in
    let before = c.args.found.now in
    let own = c.loop-at.invariant.0 in
    elim c.match-broken_rule.branch [
      | in-Some+in_ok-push w ↦
          let new = told place at (Some w.in-Some.rule) in (
            own ++ new,
            breaks_at place d markings at marking own (Some w.in-Some.rule) c.loop-at-test.true c.index-markings-at.is c.loop-at.invariant.1 w.in-Some.ensures,
            w.found-is ∙ w.in_ok-push.ensures.ok ∙ ap (λ (found : List MarkingBreak). found ++ new) c.loop-at.invariant.2 ∙ append_assoc before own new,
          )
      | in_default w ↦ (
        own ++ [],
        breaks_at place d markings at marking own None c.loop-at-test.true c.index-markings-at.is c.loop-at.invariant.1 w.in_default.ensures,
        w.found-is ∙ c.loop-at.invariant.2 ∙ ap (λ (more : List MarkingBreak). before ++ more) (sym (append-nil own)),
      )
    ]

pub returns : goal.returns
returns c =
    let own = c.loop-at.invariant.0 in (
      own,
      subst (λ (ms : List Data). AreBreaksOfMarkings c.args.object_at (data_of c.args.object.now) 0 ms own) (taken_all c.args.markings.now c.loop-at.at c.loop-at-test.false) c.loop-at.invariant.1,
      c.loop-at.invariant.2,
    )
