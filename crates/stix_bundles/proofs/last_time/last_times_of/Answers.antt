use Rattle.std.proofs.Common.{arith, ◌≡◌, ◌+◌, ◌<◌, List, length, Vec, Global, sym, ap, refl, subst, ◌∙◌}
use Rattle.std.proofs.lemmas.List.{length-map}
use Rattle.stix_json.specs.DataOf.{data_of}
use Rattle.stix_bundles.specs.declared.last_time.LastTime.{LastTime}
use Rattle.stix_bundles.specs.Objects.{data_in}
use Rattle.stix_bundles.specs.inner.LastTimes.{AreLastTimesBefore}
use Rattle.stix_bundles.proofs.LastTimesLemmas.{none_before, skip_at, push_at}
use Rattle.stix_bundles.proofs.last_time.last_times_of.Goals as goal
use Rattle.stix_bundles.proofs.last_time.last_times_of.Goals.{in-Some+in_ok-push, in_default}

pub loop-at-init : goal.loop-at-init
loop-at-init c =
    let ds = data_in c.args.objects.now in
    subst (λ (ms : List LastTime). AreLastTimesBefore ds 0 ms) (sym c.new-last_times.ensures.items) (none_before ds)

pub loop-at-preserved : goal.loop-at-preserved
loop-at-preserved c =
    let ds = data_in c.args.objects.now in
    let at = c.loop-at.at in
    let before = c.loop-at.last_times.items in
    let count = length-map c.args.objects.now data_of in
    let inside : at < length ds = omega arith in
    elim c.match-last_observed.branch [
      | in-Some+in_ok-push w ↦
          let m : LastTime = record { last = w.in-Some.last; at = at } in
          let now = ap (λ (v : Vec LastTime Global). v.items) w.last_times-is ∙ w.in_ok-push.ensures.items in
          subst (λ (ms : List LastTime). AreLastTimesBefore ds (at + 1) ms) (sym now) (push_at ds at before m refl w.in-Some.ensures.some c.loop-at.invariant)
      | in_default w ↦
          let now = ap (λ (v : Vec LastTime Global). v.items) w.last_times-is in
          subst (λ (ms : List LastTime). AreLastTimesBefore ds (at + 1) ms) (sym now) (skip_at ds at before inside w.in_default.ensures.none c.loop-at.invariant)
    ]

pub returns : goal.returns
returns c =
    let ds = data_in c.args.objects.now in
    let count = length-map c.args.objects.now data_of in
    let end : c.loop-at.at ≡ length ds = omega arith in
    subst (λ n. AreLastTimesBefore ds n c.loop-at.last_times.items) end c.loop-at.invariant
