use Rattle.std.proofs.Common.{arith, length, ◌≤◌}
use Rattle.std.proofs.lemmas.Bool.{false≢true}
use Rattle.std.proofs.lemmas.List.{length-map}
use Rattle.std.proofs.Common.{sym, ◌∙◌}
use Rattle.stix_json.specs.DataOf.{data_of}
use Rattle.stix_bundles.specs.Objects.{data_in}
use Rattle.stix_bundles.proofs.ObjectsLemmas.{data_read}
use Rattle.stix_bundles.proofs.EmbedsLemmas.{first_embedding_at, none_embeds_more, none_embeds_all}
use Rattle.stix_bundles.proofs.observe.first_embedding.Goals as goal

pub loop-at-init : goal.loop-at-init
loop-at-init c = λ n less is. absurd (omega arith)

pub returns-then-embeds-clause-some : goal.returns-then-embeds-clause-some
returns-then-embeds-clause-some c =
    first_embedding_at (data_in c.args.objects.now) c.loop-at.at (data_of c.index-objects-at.result)
    (data_read c.args.objects.now c.loop-at.at c.index-objects-at.result c.loop-at-test.true c.index-objects-at.is) (c.embeds.ensures.0 c.if-embeds.true) c.loop-at.invariant

pub loop-at-preserved : goal.loop-at-preserved
loop-at-preserved c =
    none_embeds_more (data_in c.args.objects.now) c.loop-at.at (data_of c.index-objects-at.result)
    (data_read c.args.objects.now c.loop-at.at c.index-objects-at.result c.loop-at-test.true c.index-objects-at.is)
    (λ is. false≢true (sym c.if-embeds.false ∙ c.embeds.ensures.1 is)) c.loop-at.invariant

pub returns-clause-none : goal.returns-clause-none
returns-clause-none c =
    let count = length-map c.args.objects.now data_of in
    let past : length (data_in c.args.objects.now) ≤ c.loop-at.at = omega arith in
    none_embeds_all (data_in c.args.objects.now) c.loop-at.at past c.loop-at.invariant
