use Rattle.std.proofs.Common.{◌∙◌, sym}
use Rattle.std.proofs.lemmas.Bool.{false≢true}
use Rattle.stix_json.specs.DataOf.{data_of}
use Rattle.stix_versions.proofs.MarkingRuleLemmas.{none_there, some_there, empty_list, no_selectors, one_misses, nothing_breaks}
use Rattle.stix_versions.proofs.marking.broken_in_list.Goals as goal
use Rattle.stix_versions.proofs.marking.broken_in_list.Goals.{then-is_empty-via-then-is_empty, then-is_empty-via-else-is_empty+then-not-are_selectors}

pub returns-then-is_empty : goal.returns-then-is_empty
returns-then-is_empty c =
    let d = data_of c.args.object.now in
    let marking = data_of c.args.marking.now in
    let values = c.args.selectors.now in
    elim c.then-is_empty.branch [
      | then-is_empty-via-then-is_empty w ↦
          empty_list d marking values c.requires.named c.requires.listed (none_there values c.is_empty.result c.is_empty.ensures w.if-is_empty.true)
      | then-is_empty-via-else-is_empty+then-not-are_selectors w ↦
          no_selectors d marking values c.requires.named c.requires.listed (λ all. false≢true (sym w.if-not-are_selectors.true ∙ w.are_selectors.ensures.1 all))
    ]

pub returns-then-misses_one : goal.returns-then-misses_one
returns-then-misses_one c =
    one_misses (data_of c.args.object.now) (data_of c.args.marking.now) c.args.selectors.now c.requires.named c.requires.listed
    (some_there c.args.selectors.now c.is_empty.result c.is_empty.ensures c.if-is_empty.false) (c.are_selectors.ensures.0 c.if-not-are_selectors.false) (c.misses_one.ensures.0 c.if-misses_one.true)

pub returns : goal.returns
returns c =
    nothing_breaks (data_of c.args.object.now) (data_of c.args.marking.now) c.args.selectors.now c.requires.named c.requires.listed
    (some_there c.args.selectors.now c.is_empty.result c.is_empty.ensures c.if-is_empty.false) (c.are_selectors.ensures.0 c.if-not-are_selectors.false)
    (λ any. false≢true (sym c.if-misses_one.false ∙ c.misses_one.ensures.1 any))
