use Rattle.std.proofs.Common.{arith, List, reverse, subst, ap}
use Rattle.std.proofs.lemmas.Bool.{false≢true}
use Rattle.stix_bundles.specs.Objects.{data_in}
use Rattle.match_comparisons.specs.declared.frame.Frame.{Frame}
use Rattle.match_comparisons.specs.inner.Frames.{LeftIn, HasFrameSpace, weight}
use Rattle.match_comparisons.proofs.WalkLemmas.{pushed, none_there, Same, same_itself, same_through}
use Rattle.match_comparisons.proofs.walk.next_value.Goals as goal

pub loop-frame-init : goal.loop-frame-init
loop-frame-init c = (c.requires, omega arith, same_itself (LeftIn (data_in c.args.bundle.now) (reverse c.args.frames.now.items)))

pub visit-requires : goal.visit-requires
visit-requires c =
    let is = pushed c.pop.new.self.items c.loop-frame.frames.items c.in-Some.frame c.in-Some.ensures.items in
    subst HasFrameSpace is c.loop-frame.invariant.0

pub returns-in-Some-visit-clause-some : goal.returns-in-Some-visit-clause-some
returns-in-Some-visit-clause-some c =
    let objects = data_in c.args.bundle.now in
    let is = pushed c.pop.new.self.items c.loop-frame.frames.items c.in-Some.frame c.in-Some.ensures.items in
    let now = subst (λ (fs : List Frame). Same (LeftIn objects (reverse c.args.frames.now.items)) (LeftIn objects fs)) is c.loop-frame.invariant.2 in
    same_through now c.in-Some-visit.ensures.some

pub returns-in-Some-visit-clause-falls : goal.returns-in-Some-visit-clause-falls
returns-in-Some-visit-clause-falls c =
    let is = pushed c.pop.new.self.items c.loop-frame.frames.items c.in-Some.frame c.in-Some.ensures.items in
    omega (arith, ap weight is, c.loop-frame.invariant.1, c.in-Some-visit.ensures.falls)

pub loop-frame-smaller : goal.loop-frame-smaller
loop-frame-smaller c =
    let is = pushed c.pop.new.self.items c.loop-frame.frames.items c.in-Some.frame c.in-Some.ensures.items in
    omega (arith, ap weight is, c.visit.ensures.falls)

pub loop-frame-preserved : goal.loop-frame-preserved
loop-frame-preserved c =
    let objects = data_in c.args.bundle.now in
    let is = pushed c.pop.new.self.items c.loop-frame.frames.items c.in-Some.frame c.in-Some.ensures.items in
    let now = subst (λ (fs : List Frame). Same (LeftIn objects (reverse c.args.frames.now.items)) (LeftIn objects fs)) is c.loop-frame.invariant.2 in
    (c.visit.ensures.fits, omega (arith, ap weight is, c.loop-frame.invariant.1, c.visit.ensures.falls), same_through now c.in_default-visit.ensures.none)

pub returns-clause-none : goal.returns-clause-none
returns-clause-none c =
    let objects = data_in c.args.bundle.now in
    let none = none_there c.loop-frame.frames.items (λ some. false≢true (c.in_default.ensures.variant.1 some)) in
    subst (λ (fs : List Frame). Same (LeftIn objects (reverse c.args.frames.now.items)) (LeftIn objects (reverse fs))) none c.loop-frame.invariant.2
