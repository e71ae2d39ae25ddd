use Rattle.std.proofs.Common.{◌≡◌, ℕ, ◌+◌, List, Option, Ok, refl, sym, ap, subst, ◌∙◌, arith}
use Rattle.std.specs.Prelude.{All}
use Rattle.flow_edges.specs.Flow.{written_with, WritesPrefix}
use Rattle.stix_json.specs.declared.entry.Entry.{Entry}
use Rattle.taxii_client.specs.Environment.{DialView, link_view}
use Rattle.taxii_client.specs.Pulls.{PullState, Answers}
use Rattle.taxii_client.specs.Telling.{told_of, bad_in, IsWritableEntry}
use Rattle.command_pull.specs.Pulling.{pull_environment, StopsWriting}
use Rattle.command_pull.proofs.RunLemmas.{RunsSo, run-start, run-more, run-cut, run-end, page-writable}
use Rattle.command_pull.proofs.pulling.pull_all.Goals as goal

pub pages-init : goal.pages-init
pages-init g c =
    let view = link_view g.D.Link.Source.left g.D.Link.Sink.written g.D.Link.Source.faults g.D.Link.Sink.faults in
    let start = pull_environment (g.D.Dial.observable c.args.dial.now) (g.D.Dial.faults c.args.dial.now) (g.O.Sink.written c.args.output.now) in
    record {
      runs = subst (λ (s : PullState). RunsSo view c.args.target.now start start s 0) (sym c.new-pull.ensures)
          (run-start _ view c.args.target.now start (c.pulls_continue.ensures.no_link c.args.target.now (g.D.Dial.observable c.args.dial.now)));
      few = omega arith;
      quiet = refl;
    }

pub returns-in-Err-clause-end : goal.returns-in-Err-clause-end
returns-in-Err-clause-end g c =
    run-end _ (link_view g.D.Link.Source.left g.D.Link.Sink.written g.D.Link.Source.faults g.D.Link.Sink.faults) c.args.target.now
    (pull_environment (g.D.Dial.observable c.args.dial.now) (g.D.Dial.faults c.args.dial.now) (g.O.Sink.written c.args.output.now))
    c.pulls_continue.ensures.pages c.pulls_continue.ensures.links
    (pull_environment (g.D.Dial.observable c.pages.dial) (g.D.Dial.faults c.pages.dial) (g.O.Sink.written c.pages.output)) c.pages.pull c.pages.skipped c.pages.invariant.runs
    c.in-Err.end c.next_page.new.self (record { observable = g.D.Dial.observable c.next_page.new.dial; faults = g.D.Dial.faults c.next_page.new.dial }) c.in-Err.ensures

pub write_page-requires : goal.write_page-requires
write_page-requires g c =
    let view = link_view g.D.Link.Source.left g.D.Link.Sink.written g.D.Link.Source.faults g.D.Link.Sink.faults in
    let dial : DialView _ = record { observable = g.D.Dial.observable c.pages.dial; faults = g.D.Dial.faults c.pages.dial } in
    let later : DialView _ = record { observable = g.D.Dial.observable c.next_page.new.dial; faults = g.D.Dial.faults c.next_page.new.dial } in
    let gives = subst (λ (o : Option (List Entry)). Answers view c.pages.pull c.next_page.new.self dial later (Ok o)) c.in-Ok-Some.field-0-is c.in-Ok-Some.ensures in
    subst (All IsWritableEntry) (sym c.as_slice-in-pages.ensures) (page-writable view c.pages.pull c.next_page.new.self dial later c.in-Ok-Some.entries gives)

pub returns-in-Err-write_page-clause-end : goal.returns-in-Err-write_page-clause-end
returns-in-Err-write_page-clause-end g c =
    let view = link_view g.D.Link.Source.left g.D.Link.Sink.written g.D.Link.Source.faults g.D.Link.Sink.faults in
    let dial : DialView _ = record { observable = g.D.Dial.observable c.pages.dial; faults = g.D.Dial.faults c.pages.dial } in
    let later : DialView _ = record { observable = g.D.Dial.observable c.next_page.new.dial; faults = g.D.Dial.faults c.next_page.new.dial } in
    let gives = subst (λ (o : Option (List Entry)). Answers view c.pages.pull c.next_page.new.self dial later (Ok o)) c.in-Ok-Some.field-0-is c.in-Ok-Some.ensures in
    let start = pull_environment (g.D.Dial.observable c.args.dial.now) (g.D.Dial.faults c.args.dial.now) (g.O.Sink.written c.args.output.now) in
    let now = pull_environment (g.D.Dial.observable c.pages.dial) (g.D.Dial.faults c.pages.dial) (g.O.Sink.written c.pages.output) in
    let after = pull_environment (g.D.Dial.observable c.next_page.new.dial) (g.D.Dial.faults c.next_page.new.dial) (g.O.Sink.written c.write_page.new.output) in
    let entries = c.in-Ok-Some.entries in
    let count : c.count_bad.result ≡ bad_in entries = c.count_bad.ensures ∙ ap bad_in c.as_slice.ensures in
    subst (λ (n : ℕ). StopsWriting view c.args.target.now start after (c.pages.skipped + n)) (sym count)
    (run-cut _ view c.args.target.now start c.pulls_continue.ensures.pages c.pulls_continue.ensures.links now c.pages.pull c.pages.skipped c.pages.invariant.runs
    c.next_page.new.self later (g.O.Sink.written c.write_page.new.output) entries gives
    (subst (λ (e : List Entry). WritesPrefix (told_of e) (g.O.Sink.written c.pages.output) (g.O.Sink.written c.write_page.new.output)) c.as_slice-in-pages.ensures
    c.in-Err-write_page.ensures.err))

pub pages-preserved : goal.pages-preserved
pages-preserved g c =
    let view = link_view g.D.Link.Source.left g.D.Link.Sink.written g.D.Link.Source.faults g.D.Link.Sink.faults in
    let dial : DialView _ = record { observable = g.D.Dial.observable c.pages.dial; faults = g.D.Dial.faults c.pages.dial } in
    let later : DialView _ = record { observable = g.D.Dial.observable c.next_page.new.dial; faults = g.D.Dial.faults c.next_page.new.dial } in
    let gives = subst (λ (o : Option (List Entry)). Answers view c.pages.pull c.next_page.new.self dial later (Ok o)) c.in-Ok-Some.field-0-is c.in-Ok-Some.ensures in
    let start = pull_environment (g.D.Dial.observable c.args.dial.now) (g.D.Dial.faults c.args.dial.now) (g.O.Sink.written c.args.output.now) in
    let now = pull_environment (g.D.Dial.observable c.pages.dial) (g.D.Dial.faults c.pages.dial) (g.O.Sink.written c.pages.output) in
    let after = pull_environment (g.D.Dial.observable c.next_page.new.dial) (g.D.Dial.faults c.next_page.new.dial) (g.O.Sink.written c.write_page.new.output) in
    let entries = c.in-Ok-Some.entries in
    let count : c.count_bad.result ≡ bad_in entries = c.count_bad.ensures ∙ ap bad_in c.as_slice.ensures in
    let pages : c.next_page.new.self.pages ≡ c.pages.pull.pages + 1 = ap (λ (s : PullState). s.pages) gives.after_is in
    record {
      runs = subst (λ (n : ℕ). RunsSo view c.args.target.now start after c.next_page.new.self (c.pages.skipped + n)) (sym count)
          (run-more _ view c.args.target.now start c.pulls_continue.ensures.pages c.pulls_continue.ensures.links now c.pages.pull c.pages.skipped c.pages.invariant.runs
          c.next_page.new.self later (g.O.Sink.written c.write_page.new.output) entries gives
          (subst (λ (e : List Entry). g.O.Sink.written c.write_page.new.output ≡ written_with (told_of e) (g.O.Sink.written c.pages.output)) c.as_slice-in-pages.ensures
          c.in_default.ensures.ok));
      few = omega (arith, c.pages.invariant.few, c.count_bad.type_inv, pages);
      quiet = c.in_default.ensures.causes.quiet (λ failed. let is = c.in_default.is in cc) ∙ c.pages.invariant.quiet;
    }
