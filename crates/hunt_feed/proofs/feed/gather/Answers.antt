use Rattle.std.proofs.Common.{rules, ◌≡◌, Result, Ok, Err, Option, Some, None, IfOk, IfSome, subst, ◌∙◌}
use Rattle.flow_lines.specs.Lines.{lines_start, lines_remaining}
use Rattle.stix_json.specs.declared.value.Json.{Json}
use Rattle.stix_json.specs.DataOf.{data_of}
use Rattle.hunt_feed.specs.declared.end.FeedEnd.{FeedEnd}
use Rattle.hunt_feed.specs.declared.end.FeedEnd.TheVariants as end
use Rattle.hunt_feed.specs.inner.Ends.{AnswersObject, MovesOn}
use Rattle.hunt_feed.proofs.FeedLemmas.{gathers_one, gathers_whole, feed_refused}
use Rattle.hunt_feed.proofs.feed.gather.Goals as goal

pub returns-in_err-object-clause-refused : goal.returns-in_err-object-clause-refused
returns-in_err-object-clause-refused g c line why is =
    let left = g.S.Source.left c.args.source.now in
    let ahead = lines_remaining c.objects.lines (g.S.Source.left c.objects.source) in
    let after = lines_remaining c.next_object.new.lines (g.S.Source.left c.next_object.new.source) in
    let so = c.objects.invariant.so in
    let found : c.next_object.result ≡ Err (end.Refused line why) = search rules in
    (so.objects, feed_refused left ahead c.objects.gathering so line why (subst (AnswersObject ahead after) found c.next_object.ensures.next))

pub returns-in_default-clause-whole : goal.returns-in_default-clause-whole
returns-in_default-clause-whole g c =
    let left = g.S.Source.left c.args.source.now in
    let ahead = lines_remaining c.objects.lines (g.S.Source.left c.objects.source) in
    let after = lines_remaining c.next_object.new.lines (g.S.Source.left c.next_object.new.source) in
    let so = c.objects.invariant.so in
    let found : c.next_object.result ≡ Ok None = search rules in
    (so.objects, gathers_whole left ahead c.objects.gathering so (subst (AnswersObject ahead after) found c.next_object.ensures.next))

pub objects-preserved : goal.objects-preserved
objects-preserved g c =
    let left = g.S.Source.left c.args.source.now in
    let ahead = lines_remaining c.objects.lines (g.S.Source.left c.objects.source) in
    let after = lines_remaining c.next_object.new.lines (g.S.Source.left c.next_object.new.source) in
    let so = c.objects.invariant.so in
    let object = data_of c.in-Some.object in
    let found : c.next_object.result ≡ Ok (Some c.in-Some.object) = search rules in
    let gives = subst (AnswersObject ahead after) found c.next_object.ensures.next in
    let moves = subst (λ (answer : Result (Option Json) FeedEnd). IfOk answer (λ next. IfSome next (λ _. MovesOn c.objects.lines c.next_object.new.lines)))
    found c.next_object.ensures.moves in
    record {
      unrefused = moves.unrefused;
      within = moves.within;
      so = gathers_one (lines_remaining lines_start left) ahead after c.objects.gathering c.add-added.new.gathering object gives so
          (c.in_ok-added.ensures so.objects so.gathers);
      quiet = c.next_object.ensures.causes.quiet (λ fault. absurd (cc)) ∙ c.objects.invariant.quiet;
    }
