use Rattle.std.proofs.Common.{◌≡◌, ◌<◌, ◌++◌, ℕ, Err, List, [], ◌∷◌, length, sym, ap, subst, ◌∙◌}
use Rattle.std.specs.Prelude.{All}
use Rattle.stix_bundles.specs.Objects.{data_in}
use Rattle.match_stream.specs.MatcherState.{Falls}
use Rattle.hunt_engine.specs.declared.found.Hit.{Hit}
use Rattle.hunt_engine.specs.EngineLog.{engine_row}
use Rattle.hunt_engine.specs.Memo.{brackets_of, IsSoundMemo}
use Rattle.hunt_report.specs.Hunting.{HunterState, patterns_of, IsReadyHunter}
use Rattle.hunt_report.specs.inner.Noting.{all_noted}
use Rattle.hunt_report.specs.inner.HitReporting.{TakesHuntRow, EndsAtHuntedRow}
use Rattle.hunt_report.proofs.HunterLemmas.{right-engine, right-hunted, takes-row, ends-engine, hits-inside, seen-before}
use Rattle.hunt_report.proofs.hunter.Hunter.take.Goals as goal

pub take-requires-clause-ready : goal.take-requires-clause-ready
take-requires-clause-ready c = λ runs. let ready = subst IsReadyHunter (sym c.self.view_is) c.requires.ready in (ready.rows, ready.hunts.engine)

pub take-requires-clause-right : goal.take-requires-clause-right
take-requires-clause-right c =
    let before : HunterState = record { hunted = c.self.inside.hunted.now; engine = c.self.inside.engine; hit_summaries = c.self.inside.hit_summaries.items } in
    right-engine before (data_in c.args.bundle.now) c.args.memo.now (subst IsReadyHunter (sym c.self.view_is) c.requires.ready)
    (subst (λ (s : HunterState). IsSoundMemo (data_in c.args.bundle.now) (brackets_of (patterns_of s.hunted)) c.args.memo.now) (sym c.self.view_is) c.requires.right)

pub returns-clause-right : goal.returns-clause-right
returns-clause-right c =
    let before : HunterState = record { hunted = c.self.inside.hunted.now; engine = c.self.inside.engine; hit_summaries = c.self.inside.hit_summaries.items } in
    subst (λ (s : HunterState). IsSoundMemo (data_in c.args.bundle.now) (brackets_of (patterns_of s.hunted)) c.take.new.memo) c.self.view_is
    (right-hunted before (data_in c.args.bundle.now) c.take.new.memo (subst IsReadyHunter (sym c.self.view_is) c.requires.ready) c.in-Ok.ensures.right)

pub end_of-requires : goal.end_of-requires
end_of-requires c is =
    let ready = subst IsReadyHunter (sym c.self.view_is) c.requires.ready in
    let ended = c.in-Err.ensures.ended.0 (ap Err is) in
    let runs = ready.hunts.engine.runs in cc

pub returns-in-Err-clause-end : goal.returns-in-Err-clause-end
returns-in-Err-clause-end c =
    let row = engine_row c.args.observation.now (data_in c.args.bundle.now) in
    let before : HunterState = record { hunted = c.self.inside.hunted.now; engine = c.self.inside.engine; hit_summaries = c.self.inside.hit_summaries.items } in
    let ready : IsReadyHunter before = subst IsReadyHunter (sym c.self.view_is) c.requires.ready in
    subst (λ (s : HunterState). EndsAtHuntedRow row s c.end_of.result) c.self.view_is
    (subst (EndsAtHuntedRow row before) (sym c.end_of.ensures)
    (ends-engine row before c.in-Err.refusal (λ is. let ended = c.in-Err.ensures.ended.0 (ap Err is) in let runs = ready.hunts.engine.runs in cc)
    (λ rows represents place number retained_limit is. c.in-Err.ensures.over_limit rows represents place number retained_limit (ap Err is))))

pub count_all-requires-clause-inside : goal.count_all-requires-clause-inside
count_all-requires-clause-inside c =
    let row = engine_row c.args.observation.now (data_in c.args.bundle.now) in
    let before : HunterState = record { hunted = c.self.inside.hunted.now; engine = c.self.inside.engine; hit_summaries = c.self.inside.hit_summaries.items } in
    let ready : IsReadyHunter before = subst IsReadyHunter (sym c.self.view_is) c.requires.ready in
    let all = hits-inside before (ready.rows ++ row ∷ []) c.in-Ok.hits ready.hunts.patterns (c.in-Ok.ensures.reports ready.rows ready.hunts.engine) in
    subst (λ (hits : List Hit). All (λ hit. hit.hunted < length c.self.inside.hit_summaries.items) hits) (sym c.as_slice.ensures)
    (subst (λ (n : ℕ). All (λ hit. hit.hunted < n) c.in-Ok.hits) (sym ready.hunts.count) all)

pub count_all-requires-clause-order : goal.count_all-requires-clause-order
count_all-requires-clause-order c =
    let before : HunterState = record { hunted = c.self.inside.hunted.now; engine = c.self.inside.engine; hit_summaries = c.self.inside.hit_summaries.items } in
    let ready : IsReadyHunter before = subst IsReadyHunter (sym c.self.view_is) c.requires.ready in
    seen-before before ready.rows ready.hits ready.hunts c.args.observation.now.last
    (subst (λ (s : HunterState). ¬ (Falls s.engine.last c.args.observation.now.last)) (sym c.self.view_is) c.requires.order)

pub returns-clause-row : goal.returns-clause-row
returns-clause-row c =
    let row = engine_row c.args.observation.now (data_in c.args.bundle.now) in
    let last = c.args.observation.now.last in
    let before : HunterState = record { hunted = c.self.inside.hunted.now; engine = c.self.inside.engine; hit_summaries = c.self.inside.hit_summaries.items } in
    let ready : IsReadyHunter before = subst IsReadyHunter (sym c.self.view_is) c.requires.ready in
    let noted = λ (hits : List Hit). all_noted last hits c.self.inside.hit_summaries.items in
    let after : c.count_all.new.self ≡ record { hunted = c.self.inside.hunted.now; engine = c.take.new.self; hit_summaries = all_noted last c.in-Ok.hits c.self.inside.hit_summaries.items } =
    c.count_all.ensures ∙ ap (λ (hits : List Hit). let s : HunterState = record { hunted = c.self.inside.hunted.now; engine = c.take.new.self; hit_summaries = all_noted last hits c.self.inside.hit_summaries.items } in s) c.as_slice.ensures in
    subst (λ (s : HunterState). TakesHuntRow row s c.count_all.new.self c.in-Ok.hits) c.self.view_is
    (subst (λ (s : HunterState). TakesHuntRow row before s c.in-Ok.hits) (sym after)
    (takes-row c.one_log.ensures before c.take.new.self row c.in-Ok.hits ready c.in-Ok.ensures.kept.0 c.in-Ok.ensures.kept.1 c.in-Ok.ensures.represents c.in-Ok.ensures.reports))
