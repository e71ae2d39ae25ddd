use Rattle.std.proofs.Common.{◌≡◌, List, [], ◌∷◌, ◌++◌, append_assoc, sym, ap, subst, ◌∙◌}
use Rattle.std.proofs.lemmas.Bool.{false≢true}
use Rattle.std.proofs.lemmas.List.{append-nil, nil_from_length}
use Rattle.hunt_feed.specs.declared.kept.Kept.{Kept}
use Rattle.hunt_feed.specs.Gathering.{Gathered}
use Rattle.hunt_feed.specs.inner.Hunting.{IsLast, IsValidIndicator, IsHuntAmong}
use Rattle.hunt_feed.proofs.HuntingLemmas.{Laws, next_of, whole_hunt, hunt_passed, hunt_judged}
use Rattle.hunt_feed.proofs.candidates.hunt_among.Goals as goal
use Rattle.hunt_feed.proofs.candidates.hunt_among.Goals.{else-is_last-via-then-is_last+else-is_valid, else-is_last-via-else-is_last}

pub loop-indicator-preserved-then-is_valid : goal.loop-indicator-preserved-then-is_valid
loop-indicator-preserved-then-is_valid c =
    let seen = c.loop-indicator.yielded in
    let kept = c.in-Some.indicator in
    let rest = c.next.new.self.rest.items in
    let are : c.args.kept.items ≡ (seen ++ kept ∷ []) ++ rest =
    c.loop-indicator.invariant.0 ∙ ap (λ ks. seen ++ ks) c.in-Some.ensures.steps.0 ∙ sym (append_assoc seen (kept ∷ []) rest) in
    let laws : Laws = record { one_id = c.one_id.ensures; one_meaning = c.one_meaning.ensures.one; one_timestamp = c.one_timestamp.ensures } in (
      are,
      λ objects count gathers.
          let gathered : Gathered = record { count = count; kept = c.args.kept.items; versions = c.args.versions.now.entries } in
          hunt_judged laws gathered objects c.args.moment seen rest kept c.loop-indicator.hunt c.classify.new.hunt gathers are (next_of gathered objects seen rest kept gathers are)
          (c.is_last.ensures.0 c.if-is_last.true) (c.is_valid.ensures.0 c.if-is_valid.true) c.in_ok-classify.ensures (c.loop-indicator.invariant.1 objects count gathers),
    )

pub loop-indicator-preserved : goal.loop-indicator-preserved
loop-indicator-preserved c =
    let seen = c.loop-indicator.yielded in
    let kept = c.in-Some.indicator in
    let rest = c.next.new.self.rest.items in
    let are : c.args.kept.items ≡ (seen ++ kept ∷ []) ++ rest =
    c.loop-indicator.invariant.0 ∙ ap (λ ks. seen ++ ks) c.in-Some.ensures.steps.0 ∙ sym (append_assoc seen (kept ∷ []) rest) in
    let laws : Laws = record { one_id = c.one_id.ensures; one_meaning = c.one_meaning.ensures.one; one_timestamp = c.one_timestamp.ensures } in
    let not : ¬ (IsLast c.args.versions.now.entries kept × IsValidIndicator c.args.moment kept) = elim c.else-is_last.branch [
      | else-is_last-via-then-is_last+else-is_valid w ↦ λ passes. false≢true (sym w.if-is_valid.false ∙ w.is_valid.ensures.1 passes.1)
      | else-is_last-via-else-is_last w ↦ λ passes. false≢true (sym w.if-is_last.false ∙ c.is_last.ensures.1 passes.0)
    ] in (
      are,
      λ objects count gathers.
          let gathered : Gathered = record { count = count; kept = c.args.kept.items; versions = c.args.versions.now.entries } in
          hunt_passed laws gathered objects c.args.moment seen kept c.loop-indicator.hunt gathers (next_of gathered objects seen rest kept gathers are) not
          (c.loop-indicator.invariant.1 objects count gathers),
    )

pub loop-indicator-preserved-else-is_last : goal.loop-indicator-preserved-else-is_last
loop-indicator-preserved-else-is_last c =
    let seen = c.loop-indicator.yielded in
    let kept = c.in-Some.indicator in
    let rest = c.next.new.self.rest.items in
    let are : c.args.kept.items ≡ (seen ++ kept ∷ []) ++ rest =
    c.loop-indicator.invariant.0 ∙ ap (λ ks. seen ++ ks) c.in-Some.ensures.steps.0 ∙ sym (append_assoc seen (kept ∷ []) rest) in
    let laws : Laws = record { one_id = c.one_id.ensures; one_meaning = c.one_meaning.ensures.one; one_timestamp = c.one_timestamp.ensures } in
    let not : ¬ (IsLast c.args.versions.now.entries kept × IsValidIndicator c.args.moment kept) = elim c.else-is_last.branch [
      | else-is_last-via-then-is_last+else-is_valid w ↦ λ passes. false≢true (sym w.if-is_valid.false ∙ w.is_valid.ensures.1 passes.1)
      | else-is_last-via-else-is_last w ↦ λ passes. false≢true (sym w.if-is_last.false ∙ c.is_last.ensures.1 passes.0)
    ] in (
      are,
      λ objects count gathers.
          let gathered : Gathered = record { count = count; kept = c.args.kept.items; versions = c.args.versions.now.entries } in
          hunt_passed laws gathered objects c.args.moment seen kept c.loop-indicator.hunt gathers (next_of gathered objects seen rest kept gathers are) not
          (c.loop-indicator.invariant.1 objects count gathers),
    )

pub returns : goal.returns
returns c = λ objects count gathers.
    let none : c.loop-indicator.indicator-iterator.rest.items ≡ [] =
    nil_from_length c.loop-indicator.indicator-iterator.rest.items (sym c.loop-indicator.indicator-iterator.rest.ok.0 ∙ c.in-None.ensures.steps.0) in
    let whole : c.args.kept.items ≡ c.loop-indicator.yielded =
    c.loop-indicator.invariant.0 ∙ ap (λ (ks : List Kept). c.loop-indicator.yielded ++ ks) none ∙ append-nil c.loop-indicator.yielded in
    let gathered : Gathered = record { count = count; kept = c.args.kept.items; versions = c.args.versions.now.entries } in
    whole_hunt gathered objects c.args.moment c.loop-indicator.hunt gathers
    (subst (λ (ks : List Kept). IsHuntAmong objects c.args.moment ks c.loop-indicator.hunt) (sym whole) (c.loop-indicator.invariant.1 objects count gathers))
