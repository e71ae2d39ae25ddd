use Rattle.std.proofs.Common.{◌+◌, ◌<◌, List, Some, None, get_or, drop, length, sym, ap, subst, ◌∙◌, arith}
use Rattle.std.proofs.lemmas.List.{length-set}
use Rattle.hunt_engine.specs.declared.found.Hit.{Hit}
use Rattle.hunt_report.specs.Hunting.{HunterState}
use Rattle.hunt_report.specs.inner.Noting.{hit_summary_after, all_noted, AreBefore}
use Rattle.hunt_report.proofs.LinesLemmas.{drop_at}
use Rattle.hunt_report.proofs.HitSummaryLemmas.{noted_before}
use Rattle.hunt_report.proofs.hunter.Hunter.count_all.Goals as goal

pub loop-hit-preserved : goal.loop-hit-preserved
loop-hit-preserved c =
    let hit = c.hit-item.result in
    let hits = c.args.hits.now in
    let i = c.loop-hit.hit-index in
    let last = c.args.last in
    let hit_summaries = c.loop-hit.self.hit_summaries in
    let is = c.note.ensures in
    let inv = c.loop-hit.invariant in
    let here = drop_at hits i hit c.loop-hit-test.true c.hit-item.is in
    let own : hit.hunted < length c.args.self.now.hit_summaries = subst (λ (h : Hit). h.hunted < length c.args.self.now.hit_summaries) (sym c.hit-item.is) (c.requires.inside i hit c.loop-hit-test.true) in
    let count = inv.count in
    let inside : hit.hunted < length hit_summaries = omega (arith, own, count) in
    record {
      hunted = ap (λ (s : HunterState). s.hunted) is ∙ inv.hunted;
      engine = ap (λ (s : HunterState). s.engine) is ∙ inv.engine;
      count = ap (λ (s : HunterState). length s.hit_summaries) is ∙ length-set hit_summaries hit.hunted (Some (hit_summary_after last (get_or hit_summaries hit.hunted None))) ∙ inv.count;
      before = subst (λ (s : HunterState). AreBefore last s.hit_summaries) (sym is) (noted_before last hit hit_summaries inside inv.before);
      noted = ap (λ (s : HunterState). all_noted last (drop (i + 1) hits) s.hit_summaries) is ∙ sym (ap (λ (l : List Hit). all_noted last l hit_summaries) here) ∙ inv.noted;
    }
