use Rattle.std.proofs.Common.{◌↔◌, ◌<◌, List, [], ◌∷◌, reverse, sym, subst, refl}
use Rattle.serde_json.specs.Data.{Data}
use Rattle.stix_json.specs.DataOf.{data_of}
use Rattle.stix_bundles.specs.Objects.{data_in}
use Rattle.match_comparisons.specs.declared.frame.Frame.{Frame}
use Rattle.match_comparisons.specs.Remaining.{FollowsTaken}
use Rattle.match_comparisons.specs.inner.Frames.{LeftIn, HasFrameSpace, weight}
use Rattle.match_comparisons.proofs.LeftLemmas.{with_values, left_given, left_below}
use Rattle.match_comparisons.proofs.FitsLemmas.{fits_others, fits_below, falls_below}
use Rattle.match_comparisons.proofs.WalkLemmas.{no_items, pushed, pushed_twice}
use Rattle.match_comparisons.proofs.walk.visit.Goals as goal

pub returns-in_default-split_first-clause-some : goal.returns-in_default-split_first-clause-some
returns-in_default-split_first-clause-some c =
    let objects = data_in c.args.bundle.now in
    let frames = reverse c.args.frames.now.items in
    let is = pushed c.args.frames.now.items c.push.new.self.items (with_values c.args.frame c.in-Some.others) c.push.ensures.items in
    let no_steps = no_items c.args.frame.steps.now c.in_default-split_first.ensures.cases in
    let LeadsTo : List Frame → Type 0 = λ now.
    (values : List Data) → LeftIn objects (c.args.frame ∷ frames) values ↔ FollowsTaken (data_of c.in-Some.value.now ∷ []) (LeftIn objects now) values in
    subst LeadsTo (sym is) (left_given objects c.args.frame frames c.in-Some.value.now c.in-Some.others c.in-Some.ensures.cases.0 no_steps)

pub returns-in_default-split_first-clause-fits : goal.returns-in_default-split_first-clause-fits
returns-in_default-split_first-clause-fits c =
    let is = pushed c.args.frames.now.items c.push.new.self.items (with_values c.args.frame c.in-Some.others) c.push.ensures.items in
    subst HasFrameSpace (sym is) (fits_others c.args.frame (reverse c.args.frames.now.items) c.in-Some.value.now c.in-Some.others c.in-Some.ensures.cases.0 c.requires)

pub returns-clause-none : goal.returns-clause-none
returns-clause-none c =
    let objects = data_in c.args.bundle.now in
    let frames = reverse c.args.frames.now.items in
    let below : Frame = record { last = c.name_after.result; steps = c.in-Some-split_first.steps; values = c.selected.result } in
    let is = pushed_twice c.args.frames.now.items c.push.new.self.items c.push-2.new.self.items (with_values c.args.frame c.in-Some.others) below c.push.ensures.items c.push-2.ensures.items in
    let LeadsTo : List Frame → Type 0 = λ now. (values : List Data) → LeftIn objects (c.args.frame ∷ frames) values ↔ LeftIn objects now values in
    subst LeadsTo (sym is)
    (left_below c.one_meaning.ensures.one objects c.args.frame frames c.in-Some.value.now c.in-Some.others c.in-Some-split_first.step.now c.in-Some-split_first.steps.now below
    c.in-Some.ensures.cases.0 c.in-Some-split_first.ensures.cases.0 c.name_after.ensures refl c.selected.ensures.all)

pub returns-clause-fits : goal.returns-clause-fits
returns-clause-fits c =
    let below : Frame = record { last = c.name_after.result; steps = c.in-Some-split_first.steps; values = c.selected.result } in
    let is = pushed_twice c.args.frames.now.items c.push.new.self.items c.push-2.new.self.items (with_values c.args.frame c.in-Some.others) below c.push.ensures.items c.push-2.ensures.items in
    subst HasFrameSpace (sym is)
    (fits_below c.args.frame (reverse c.args.frames.now.items) c.in-Some.value.now c.in-Some.others c.in-Some-split_first.step.now c.in-Some-split_first.steps.now below
    c.in-Some.ensures.cases.0 c.in-Some-split_first.ensures.cases.0 refl c.selected.ensures.ordered c.requires)

pub returns-clause-falls : goal.returns-clause-falls
returns-clause-falls c =
    let frames = reverse c.args.frames.now.items in
    let below : Frame = record { last = c.name_after.result; steps = c.in-Some-split_first.steps; values = c.selected.result } in
    let is = pushed_twice c.args.frames.now.items c.push.new.self.items c.push-2.new.self.items (with_values c.args.frame c.in-Some.others) below c.push.ensures.items c.push-2.ensures.items in
    subst (λ (now : List Frame). weight now < weight (c.args.frame ∷ frames)) (sym is)
    (falls_below c.args.frame frames c.in-Some.value.now c.in-Some.others c.in-Some-split_first.step.now c.in-Some-split_first.steps.now below
    c.in-Some.ensures.cases.0 c.in-Some-split_first.ensures.cases.0 refl c.selected.ensures.counted)
