use Rattle.std.proofs.Common.{◌+◌, ◌++◌, ℕ, List, [], ◌∷◌, take, drop, append_assoc, take-append-drop, refl, sym, ap, subst, ◌∙◌}
use Rattle.std.proofs.lemmas.List.{append-nil}
use Rattle.flow_edges.specs.Flow.{WritesPrefix}
use Rattle.stix_bundles.specs.Objects.{data_in}
use Rattle.stix_bundles.specs.declared.observation.Observation.{Observation}
use Rattle.pattern_types.specs.PlainPattern.{plain_pattern}
use Rattle.match_comparisons.specs.Truths.{AreTruths}
use Rattle.match_run.proofs.PendingLemmas.{fails_so}
use Rattle.match_run.proofs.RowsLemmas.{found_in, truths_of, row_below, drop_here, take_here, all_here}
use Rattle.match_run.specs.Reading.{MayFollow}
use Rattle.match_run.specs.Buffered.{IsBuffered}
use Rattle.command_alerts.specs.Tasks.{IsOneLeaf}
use Rattle.command_alerts.specs.inner.Seeing.{AlerterState, Sees}
use Rattle.command_alerts.proofs.SeeingLemmas.{sees-none, sees-more, ready-after, follow-after, one-truth}
use Rattle.command_alerts.proofs.alerter.Alerter.report_all.Goals as goal

pub returns-in_err-truths-clause-part : goal.returns-in_err-truths-clause-part
returns-in_err-truths-clause-part g c =
    let objects = data_in c.args.batch.now.bundle in
    let written = g.O.Sink.written c.args.output.now in
    fails_so c.from_residual.result (record {
      text = [];
      sees = record { seen = []; later = c.args.batch.now.observations; observations_are = refl; after = c.args.self.now; sees = sees-none objects c.args.self.now };
      prefix = c.parts_are_buffered.ensures.prefix [] [] [] written written (c.parts_are_buffered.ensures.none written);
    })

pub loop-at-init : goal.loop-at-init
loop-at-init g c =
    let objects = data_in c.args.batch.now.bundle in
    let written = g.O.Sink.written c.args.output.now in record {
      ready = c.requires.ready;
      sees = record {
        text = [];
        sees = sees-none objects c.args.self.now;
        way = subst (λ (p : List ℕ). IsBuffered [] p written written) (sym c.requires.empty) (c.parts_are_buffered.ensures.none written);
      };
      follow = subst (λ (os : List Observation). MayFollow c.args.self.now.watch.last (c.args.self.now.watch.rows + 1) os) (sym c.as_slice-observations.ensures) c.requires.follow;
      quiet = refl;
    }

pub bounds-rows-at : goal.bounds-rows-at
bounds-rows-at g c =
    let objects = data_in c.args.batch.now.bundle in
    let items = c.as_slice-observations.result.now in
    let mine = c.self.inside.pattern.now in
    row_below objects (plain_pattern mine) items c.as_slice-rows.result.now c.loop-at.at c.index-observations-at.result
    (found_in objects mine items c.in_ok-truths.truths c.as_slice-rows.result.now c.as_slice-rows.ensures c.in_ok-truths.ensures)
    c.loop-at-test.true c.index-observations-at.is

pub holds_alone-holds-requires : goal.holds_alone-holds-requires
holds_alone-holds-requires g c =
    let objects = data_in c.args.batch.now.bundle in
    let items = c.as_slice-observations.result.now in
    let mine = c.self.inside.pattern.now in
    let o = c.index-observations-at.result in
    let own = truths_of objects mine mine items c.as_slice-rows.result.now c.loop-at.at o c.index-rows-at.result c.as_slice.result.now
    (found_in objects mine items c.in_ok-truths.truths c.as_slice-rows.result.now c.as_slice-rows.ensures c.in_ok-truths.ensures)
    c.loop-at-test.true c.index-observations-at.is c.index-rows-at.is c.as_slice.ensures refl in
    one-truth objects o.roots mine c.as_slice.result.now
    (subst (λ (s : AlerterState). IsOneLeaf s.pattern) (sym c.self.view_is) c.requires.ready.one) own

pub returns-in_err-text-clause-part : goal.returns-in_err-text-clause-part
returns-in_err-text-clause-part g c =
    let items = c.as_slice-observations.result.now in
    let first = g.O.Sink.written c.args.output.now in
    let written = g.O.Sink.written c.loop-at.output in
    let far = c.loop-at.invariant.sees in
    fails_so c.from_residual-in_err-text.result (record {
      text = far.text;
      sees = record {
        seen = take c.loop-at.at items;
        later = drop c.loop-at.at items;
        observations_are = sym (take-append-drop c.loop-at.at items ∙ c.as_slice-observations.ensures);
        after = c.loop-at.self;
        sees = far.sees;
      };
      prefix = subst (λ (t : List ℕ). WritesPrefix t first written) (append-nil far.text)
          (c.parts_are_buffered.ensures.prefix far.text c.loop-at.pending [] first written far.way);
    })

pub returns-in_err-add-clause-part : goal.returns-in_err-add-clause-part
returns-in_err-add-clause-part g c =
    let i = c.loop-at.at in
    let items = c.as_slice-observations.result.now in
    let objects = data_in c.args.batch.now.bundle in
    let mine = c.self.inside.pattern.now in
    let o = c.index-observations-at.result in
    let first = g.O.Sink.written c.args.output.now in
    let written = g.O.Sink.written c.add.new.output in
    let far = c.loop-at.invariant.sees in
    let holds = c.holds_alone-holds.result in
    let more = c.in_ok-text.text.items in
    let own = truths_of objects mine c.args.self.now.pattern items c.as_slice-rows.result.now i o c.index-rows-at.result c.as_slice.result.now
    (found_in objects mine items c.in_ok-truths.truths c.as_slice-rows.result.now c.as_slice-rows.ensures c.in_ok-truths.ensures)
    c.loop-at-test.true c.index-observations-at.is c.index-rows-at.is c.as_slice.ensures (ap (λ (s : AlerterState). s.pattern) c.self.view_is) in
    let are = subst (AreTruths objects o.roots (plain_pattern c.args.self.now.pattern)) c.holds_alone-holds.ensures own in
    fails_so c.from_residual-in_err-add.result (record {
      text = far.text ++ more;
      sees = record {
        seen = take i items ++ o ∷ [];
        later = drop (i + 1) items;
        observations_are = sym c.as_slice-observations.ensures ∙ all_here items i o c.loop-at-test.true c.index-observations-at.is
            ∙ sym (append_assoc (take i items) (o ∷ []) (drop (i + 1) items));
        after = c.reported_of.new.self;
        sees = sees-more c.alerts_persist.ensures objects (take i items) o holds c.args.self.now c.loop-at.self c.reported_of.new.self far.text more far.sees are c.in_ok-text.ensures;
      };
      prefix = subst (λ (t : List ℕ). WritesPrefix (far.text ++ t) first written) c.deref.ensures.value (c.in_err-add.ensures.err far.text first far.way);
    })

pub loop-at-preserved : goal.loop-at-preserved
loop-at-preserved g c =
    let i = c.loop-at.at in
    let items = c.as_slice-observations.result.now in
    let objects = data_in c.args.batch.now.bundle in
    let mine = c.self.inside.pattern.now in
    let o = c.index-observations-at.result in
    let before = c.args.self.now in
    let between = c.loop-at.self in
    let after = c.reported_of.new.self in
    let first = g.O.Sink.written c.args.output.now in
    let written = g.O.Sink.written c.add.new.output in
    let far = c.loop-at.invariant.sees in
    let holds = c.holds_alone-holds.result in
    let more = c.in_ok-text.text.items in
    let own = truths_of objects mine before.pattern items c.as_slice-rows.result.now i o c.index-rows-at.result c.as_slice.result.now
    (found_in objects mine items c.in_ok-truths.truths c.as_slice-rows.result.now c.as_slice-rows.ensures c.in_ok-truths.ensures)
    c.loop-at-test.true c.index-observations-at.is c.index-rows-at.is c.as_slice.ensures (ap (λ (s : AlerterState). s.pattern) c.self.view_is) in
    let are = subst (AreTruths objects o.roots (plain_pattern before.pattern)) c.holds_alone-holds.ensures own in
    let here = drop_here items i o c.loop-at-test.true c.index-observations-at.is in
    let seen = take_here items i o c.loop-at-test.true c.index-observations-at.is in
    let sees = subst (λ (os : List Observation). Sees objects os before after (far.text ++ more)) (sym seen)
    (sees-more c.alerts_persist.ensures objects (take i items) o holds before between after far.text more far.sees are c.in_ok-text.ensures) in
    let follow = subst (λ (os : List Observation). MayFollow between.watch.last (between.watch.rows + 1) os) here c.loop-at.invariant.follow in
    record {
      ready = ready-after objects (take (i + 1) items) before after (far.text ++ more) c.requires.ready sees;
      sees = record {
        text = far.text ++ more;
        sees = sees;
        way = subst (λ (t : List ℕ). IsBuffered (far.text ++ t) c.add.new.self first written) c.deref.ensures.value (c.in_ok-add.ensures.ok far.text first far.way);
      };
      follow = follow-after between after o holds more (drop (i + 1) items) c.loop-at.invariant.ready c.in_ok-text.ensures follow.3;
      quiet = c.in_ok-add.ensures.causes.quiet (λ failed. cc failed) ∙ c.loop-at.invariant.quiet;
    }
