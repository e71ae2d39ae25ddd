use Rattle.std.proofs.Common.{arith, ◌≡◌, length, subst, sym, ◌∙◌}
use Rattle.std.proofs.lemmas.Bool.{false≢true}
use Rattle.std.proofs.lemmas.List.{length-map}
use Rattle.stix_json.specs.DataOf.{data_of}
use Rattle.stix_bundles.specs.Objects.{data_in}
use Rattle.stix_bundles.specs.Bundle.{IsObject}
use Rattle.stix_bundles.proofs.ObjectsLemmas.{HoldsBefore, data_read, holds_before_more, holds_all}
use Rattle.stix_bundles.proofs.outline.first_no_object.Goals as goal

pub loop-at-init : goal.loop-at-init
loop-at-init c = λ n other less is. absurd (omega arith)

pub returns-then-not-is_object-clause-some : goal.returns-then-not-is_object-clause-some
returns-then-not-is_object-clause-some c = record {
  member = data_of c.index-objects-at.result;
  there = data_read c.args.objects.now c.loop-at.at c.index-objects-at.result c.loop-at-test.true c.index-objects-at.is;
  no_object = λ is. absurd (false≢true (sym c.if-not-is_object.true ∙ c.is_object.ensures.1 is));
  before = c.loop-at.invariant;
}

pub loop-at-preserved : goal.loop-at-preserved
loop-at-preserved c = holds_before_more IsObject (data_in c.args.objects.now) c.loop-at.at (data_of c.index-objects-at.result)
    (data_read c.args.objects.now c.loop-at.at c.index-objects-at.result c.loop-at-test.true c.index-objects-at.is) (c.is_object.ensures.0 c.if-not-is_object.false) c.loop-at.invariant

pub returns-clause-none : goal.returns-clause-none
returns-clause-none c =
    let last : c.loop-at.at ≡ length c.args.objects.now = omega arith in
    let all : c.loop-at.at ≡ length (data_in c.args.objects.now) = last ∙ sym (length-map c.args.objects.now data_of) in
    holds_all IsObject (data_in c.args.objects.now) (subst (HoldsBefore IsObject (data_in c.args.objects.now)) all c.loop-at.invariant)
