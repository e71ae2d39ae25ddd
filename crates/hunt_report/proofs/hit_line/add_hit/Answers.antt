use Rattle.std.proofs.Common.{◌≡◌, ◌++◌, ◌∙◌, ℕ, List, subst}
use Rattle.flow_edges.specs.Flow.{WritesPrefix}
use Rattle.match_run.proofs.PendingLemmas.{fails_so}
use Rattle.match_run.specs.Buffered.{IsBuffered}
use Rattle.hunt_report.specs.Lines.{hit_line}
use Rattle.hunt_report.proofs.LinesLemmas.{line_at, kind_at}
use Rattle.hunt_report.proofs.hit_line.add_hit.Goals as goal

pub hit_line-requires : goal.hit_line-requires
hit_line-requires g c =
    kind_at c.args.hunted.now c.args.hit.now.hunted c.index-hunted-place.result c.requires.inside c.index-hunted-place.is c.requires.kinds

pub returns-in_err-line-clause-err : goal.returns-in_err-line-clause-err
returns-in_err-line-clause-err g c before first way =
    fails_so c.from_residual.result (c.parts_are_buffered.ensures.prefix before c.args.pending.now (hit_line c.args.hunted.now c.args.hit.now) first _ way)

pub returns-in_err-add-clause-err : goal.returns-in_err-add-clause-err
returns-in_err-add-clause-err g c before first way =
    let line = line_at c.args.hunted.now c.args.hit.now c.index-hunted-place.result c.requires.inside c.index-hunted-place.is in
    let bytes : c.as_bytes.result.now ≡ hit_line c.args.hunted.now c.args.hit.now = c.as_bytes.ensures.value ∙ c.as_str.ensures.value ∙ c.in_ok-line.ensures ∙ line in
    fails_so c.from_residual-in_err-add.result
    (subst (λ (t : List ℕ). WritesPrefix (before ++ t) first (g.O.Sink.written c.add.new.output)) bytes (c.in_err-add.ensures.err before first way))

pub returns-clause-ok : goal.returns-clause-ok
returns-clause-ok g c before first way =
    let line = line_at c.args.hunted.now c.args.hit.now c.index-hunted-place.result c.requires.inside c.index-hunted-place.is in
    let bytes : c.as_bytes.result.now ≡ hit_line c.args.hunted.now c.args.hit.now = c.as_bytes.ensures.value ∙ c.as_str.ensures.value ∙ c.in_ok-line.ensures ∙ line in
    subst (λ (t : List ℕ). IsBuffered (before ++ t) c.add.new.self first (g.O.Sink.written c.add.new.output)) bytes (c.in_ok-add.ensures.ok before first way)
