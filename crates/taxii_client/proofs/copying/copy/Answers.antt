use Rattle.std.proofs.Common.{◌≡◌, ℕ, ◌+◌, List, Option, Ok, refl, sym, ap, subst, ◌∙◌, arith}
use Rattle.stix_json.specs.declared.entry.Entry.{Entry}
use Rattle.taxii_client.specs.Environment.{DialView, link_view}
use Rattle.taxii_client.specs.Pulls.{PullState, Answers}
use Rattle.taxii_client.specs.Absorbing.{LacksDatesForPage}
use Rattle.taxii_client.specs.declared.totals.Totals.{Totals}
use Rattle.taxii_client.specs.Copying.{Copying}
use Rattle.taxii_client.specs.Filling.{copy_environment}
use Rattle.taxii_client.proofs.CopyLemmas.{CopiesSoFar, copy_start, copy_done, copy_again, copy_lost, copy_stops, copy_short, copy_more, same_pull, page_readable}
use Rattle.taxii_client.proofs.copying.copy.Goals as goal

pub attempts-init : goal.attempts-init
attempts-init g c =
    let view = link_view g.D.Link.Source.left g.D.Link.Sink.written g.D.Link.Source.faults g.D.Link.Sink.faults in
    let asked : Copying = record { target = c.args.target.now; file = c.args.file.now; tries = c.args.tries } in
    let start = copy_environment (g.D.Dial.observable c.args.dial.now) (g.D.Dial.faults c.args.dial.now) (g.K.Keeper.kept c.args.keeper.now) (g.C.Clock.moments c.args.clock.now) in
    let here = copy_environment (g.D.Dial.observable c.args.dial.now) (g.D.Dial.faults c.args.dial.now) (g.K.Keeper.kept c.open.new.keeper) (g.C.Clock.moments c.args.clock.now) in
    record {
      so = subst (λ (p : PullState). CopiesSoFar view asked start here p c.in-Ok.mirror 0 c.new-totals.result) (sym c.new-pull.ensures)
          (copy_start view asked start here c.in-Ok.mirror c.new-totals.result (c.pulls_continue.ensures.no_link c.args.target.now (g.D.Dial.observable c.args.dial.now))
          refl refl c.in-Ok.ensures.ok c.in-Ok.ensures.collection c.requires.tries c.new-totals.ensures);
      pages = ap (λ (t : Totals). t.pages) c.new-totals.ensures ∙ sym (ap (λ (p : PullState). p.pages) c.new-pull.ensures);
      added = omega (arith, ap (λ (t : Totals). t.added) c.new-totals.ensures);
      present = omega (arith, ap (λ (t : Totals). t.present) c.new-totals.ensures);
      skipped = omega (arith, ap (λ (t : Totals). t.skipped) c.new-totals.ensures);
      quiet = c.in-Ok.ensures.causes.quiet (λ is. absurd (cc is));
    }

pub returns-in-Ok-None-clause-copies : goal.returns-in-Ok-None-clause-copies
returns-in-Ok-None-clause-copies g c =
    let view = link_view g.D.Link.Source.left g.D.Link.Sink.written g.D.Link.Source.faults g.D.Link.Sink.faults in
    let asked : Copying = record { target = c.args.target.now; file = c.args.file.now; tries = c.args.tries } in
    let start = copy_environment (g.D.Dial.observable c.args.dial.now) (g.D.Dial.faults c.args.dial.now) (g.K.Keeper.kept c.args.keeper.now) (g.C.Clock.moments c.args.clock.now) in
    let now = copy_environment (g.D.Dial.observable c.attempts.dial) (g.D.Dial.faults c.attempts.dial) (g.K.Keeper.kept c.attempts.keeper) (g.C.Clock.moments c.attempts.clock) in
    let later : DialView _ = record { observable = g.D.Dial.observable c.next_page.new.dial; faults = g.D.Dial.faults c.next_page.new.dial } in
    copy_done view asked c.pulls_continue.ensures.links start now c.attempts.pull c.attempts.mirror c.attempts.lost c.attempts.totals c.attempts.invariant.so
    c.next_page.new.self later
    (subst (λ (o : Option (List Entry)). Answers view c.attempts.pull c.next_page.new.self now.dial later (Ok o)) c.in-Ok-None.field-0-is c.in-Ok-None.ensures)

pub returns-in-Some-clause-copies : goal.returns-in-Some-clause-copies
returns-in-Some-clause-copies g c =
    let view = link_view g.D.Link.Source.left g.D.Link.Sink.written g.D.Link.Source.faults g.D.Link.Sink.faults in
    let asked : Copying = record { target = c.args.target.now; file = c.args.file.now; tries = c.args.tries } in
    let start = copy_environment (g.D.Dial.observable c.args.dial.now) (g.D.Dial.faults c.args.dial.now) (g.K.Keeper.kept c.args.keeper.now) (g.C.Clock.moments c.args.clock.now) in
    let now = copy_environment (g.D.Dial.observable c.attempts.dial) (g.D.Dial.faults c.attempts.dial) (g.K.Keeper.kept c.attempts.keeper) (g.C.Clock.moments c.attempts.clock) in
    let later : DialView _ = record { observable = g.D.Dial.observable c.next_page.new.dial; faults = g.D.Dial.faults c.next_page.new.dial } in
    copy_stops view asked c.pulls_continue.ensures.links start now c.attempts.pull c.attempts.mirror c.attempts.lost c.attempts.totals c.attempts.invariant.so
    c.in-Err-next_page.end c.in-Some.stop c.next_page.new.self later c.in-Err-next_page.ensures (sym c.stop_for.ensures ∙ c.in-Some.is)

pub returns-then-lost-tries-clause-copies : goal.returns-then-lost-tries-clause-copies
returns-then-lost-tries-clause-copies g c =
    let view = link_view g.D.Link.Source.left g.D.Link.Sink.written g.D.Link.Source.faults g.D.Link.Sink.faults in
    let asked : Copying = record { target = c.args.target.now; file = c.args.file.now; tries = c.args.tries } in
    let start = copy_environment (g.D.Dial.observable c.args.dial.now) (g.D.Dial.faults c.args.dial.now) (g.K.Keeper.kept c.args.keeper.now) (g.C.Clock.moments c.args.clock.now) in
    let now = copy_environment (g.D.Dial.observable c.attempts.dial) (g.D.Dial.faults c.attempts.dial) (g.K.Keeper.kept c.attempts.keeper) (g.C.Clock.moments c.attempts.clock) in
    let later : DialView _ = record { observable = g.D.Dial.observable c.next_page.new.dial; faults = g.D.Dial.faults c.next_page.new.dial } in
    copy_lost view asked c.pulls_continue.ensures.links start now c.attempts.pull c.attempts.mirror c.attempts.lost c.attempts.totals c.attempts.invariant.so
    c.in-Err-next_page.end c.next_page.new.self later c.in-Err-next_page.ensures (sym c.stop_for.ensures ∙ c.in_default.is) c.if-lost-tries.true

pub attempts-preserved-in-Err-next_page : goal.attempts-preserved-in-Err-next_page
attempts-preserved-in-Err-next_page g c =
    let view = link_view g.D.Link.Source.left g.D.Link.Sink.written g.D.Link.Source.faults g.D.Link.Sink.faults in
    let asked : Copying = record { target = c.args.target.now; file = c.args.file.now; tries = c.args.tries } in
    let start = copy_environment (g.D.Dial.observable c.args.dial.now) (g.D.Dial.faults c.args.dial.now) (g.K.Keeper.kept c.args.keeper.now) (g.C.Clock.moments c.args.clock.now) in
    let now = copy_environment (g.D.Dial.observable c.attempts.dial) (g.D.Dial.faults c.attempts.dial) (g.K.Keeper.kept c.attempts.keeper) (g.C.Clock.moments c.attempts.clock) in
    let later : DialView _ = record { observable = g.D.Dial.observable c.next_page.new.dial; faults = g.D.Dial.faults c.next_page.new.dial } in
    let same = same_pull view asked c.pulls_continue.ensures.links start now c.attempts.pull c.attempts.mirror c.attempts.lost c.attempts.totals c.attempts.invariant.so
    c.in-Err-next_page.end c.next_page.new.self later c.in-Err-next_page.ensures in
    let pages : c.next_page.new.self.pages ≡ c.attempts.pull.pages = ap (λ (p : PullState). p.pages) same in
    record {
      so = copy_again view asked c.pulls_continue.ensures.links start now c.attempts.pull c.attempts.mirror c.attempts.lost c.attempts.totals c.attempts.invariant.so
          c.in-Err-next_page.end c.next_page.new.self later c.in-Err-next_page.ensures (sym c.stop_for.ensures ∙ c.in_default.is) c.if-lost-tries.false;
      pages = c.attempts.invariant.pages ∙ sym pages;
      added = omega (arith, c.attempts.invariant.added, pages);
      present = omega (arith, c.attempts.invariant.present, pages);
      skipped = omega (arith, c.attempts.invariant.skipped, pages);
      quiet = c.attempts.invariant.quiet;
    }

pub absorb-requires-clause-readable : goal.absorb-requires-clause-readable
absorb-requires-clause-readable g c =
    let view = link_view g.D.Link.Source.left g.D.Link.Sink.written g.D.Link.Source.faults g.D.Link.Sink.faults in
    let now = copy_environment (g.D.Dial.observable c.attempts.dial) (g.D.Dial.faults c.attempts.dial) (g.K.Keeper.kept c.attempts.keeper) (g.C.Clock.moments c.attempts.clock) in
    let later : DialView _ = record { observable = g.D.Dial.observable c.next_page.new.dial; faults = g.D.Dial.faults c.next_page.new.dial } in
    let gives = subst (λ (o : Option (List Entry)). Answers view c.attempts.pull c.next_page.new.self now.dial later (Ok o)) c.in-Ok-Some.field-0-is c.in-Ok-Some.ensures in
    page_readable view c.attempts.pull c.next_page.new.self now.dial later c.in-Ok-Some.entries gives

pub attempts-preserved : goal.attempts-preserved
attempts-preserved g c =
    let view = link_view g.D.Link.Source.left g.D.Link.Sink.written g.D.Link.Source.faults g.D.Link.Sink.faults in
    let asked : Copying = record { target = c.args.target.now; file = c.args.file.now; tries = c.args.tries } in
    let start = copy_environment (g.D.Dial.observable c.args.dial.now) (g.D.Dial.faults c.args.dial.now) (g.K.Keeper.kept c.args.keeper.now) (g.C.Clock.moments c.args.clock.now) in
    let now = copy_environment (g.D.Dial.observable c.attempts.dial) (g.D.Dial.faults c.attempts.dial) (g.K.Keeper.kept c.attempts.keeper) (g.C.Clock.moments c.attempts.clock) in
    let later : DialView _ = record { observable = g.D.Dial.observable c.next_page.new.dial; faults = g.D.Dial.faults c.next_page.new.dial } in
    let gives = subst (λ (o : Option (List Entry)). Answers view c.attempts.pull c.next_page.new.self now.dial later (Ok o)) c.in-Ok-Some.field-0-is c.in-Ok-Some.ensures in
    let pages : c.next_page.new.self.pages ≡ c.attempts.pull.pages + 1 = ap (λ (p : PullState). p.pages) gives.after_is in
    let counted : c.add.new.self.pages ≡ c.attempts.totals.pages + 1 = ap (λ (t : Totals). t.pages) c.add.ensures.sums in
    record {
      so = copy_more view asked c.pulls_continue.ensures.links start now c.attempts.pull c.attempts.mirror c.attempts.lost c.attempts.totals c.attempts.invariant.so
          c.pages_continue.ensures.next c.next_page.new.self later c.in-Ok-Some.entries (g.K.Keeper.kept c.absorb.new.keeper) (g.C.Clock.moments c.now-moment.new.self)
          c.now-moment.result c.in-Ok-absorb.tally c.absorb.new.self c.add.new.self gives c.now-moment.ensures.next c.now-moment.ensures.continues
          c.in-Ok-absorb.ensures.agrees c.in-Ok-absorb.ensures.name c.in-Ok-absorb.ensures.collection c.in-Ok-absorb.ensures.ok c.add.ensures.sums;
      pages = omega (arith, counted, pages, c.attempts.invariant.pages);
      added = omega (arith, c.add.ensures.few_added, pages, c.attempts.invariant.added);
      present = omega (arith, c.add.ensures.few_present, pages, c.attempts.invariant.present);
      skipped = omega (arith, c.add.ensures.few_skipped, pages, c.attempts.invariant.skipped);
      quiet = c.in-Ok-absorb.ensures.causes.quiet (λ is. absurd (cc is)) ∙ c.attempts.invariant.quiet;
    }

pub returns-in-Err-absorb-clause-copies : goal.returns-in-Err-absorb-clause-copies
returns-in-Err-absorb-clause-copies g c =
    let view = link_view g.D.Link.Source.left g.D.Link.Sink.written g.D.Link.Source.faults g.D.Link.Sink.faults in
    let asked : Copying = record { target = c.args.target.now; file = c.args.file.now; tries = c.args.tries } in
    let start = copy_environment (g.D.Dial.observable c.args.dial.now) (g.D.Dial.faults c.args.dial.now) (g.K.Keeper.kept c.args.keeper.now) (g.C.Clock.moments c.args.clock.now) in
    let now = copy_environment (g.D.Dial.observable c.attempts.dial) (g.D.Dial.faults c.attempts.dial) (g.K.Keeper.kept c.attempts.keeper) (g.C.Clock.moments c.attempts.clock) in
    let later : DialView _ = record { observable = g.D.Dial.observable c.next_page.new.dial; faults = g.D.Dial.faults c.next_page.new.dial } in
    let gives = subst (λ (o : Option (List Entry)). Answers view c.attempts.pull c.next_page.new.self now.dial later (Ok o)) c.in-Ok-Some.field-0-is c.in-Ok-Some.ensures in
    copy_short view asked c.pulls_continue.ensures.links start now c.attempts.pull c.attempts.mirror c.attempts.lost c.attempts.totals c.attempts.invariant.so
    c.next_page.new.self later c.in-Ok-Some.entries (g.K.Keeper.kept c.absorb.new.keeper) (g.C.Clock.moments c.now-moment.new.self)
    c.now-moment.result c.in-Err-absorb.refusal c.absorb.new.self gives c.now-moment.ensures.next c.now-moment.ensures.continues
    c.in-Err-absorb.ensures.err c.in-Err-absorb.ensures.agrees c.in-Err-absorb.ensures.name
    (λ used. subst (λ (n : ℕ). LacksDatesForPage n c.in-Ok-Some.entries c.attempts.mirror.store) c.attempts.invariant.so.collection_is (c.in-Err-absorb.ensures.dates used))
