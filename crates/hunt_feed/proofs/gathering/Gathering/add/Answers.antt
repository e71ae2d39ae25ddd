use Rattle.std.proofs.Common.{◌++◌, ◌∷◌, [], sym, subst, ◌∙◌}
use Rattle.std.proofs.lemmas.Bool.{false≢true}
use Rattle.stix_json.specs.DataOf.{data_of}
use Rattle.hunt_feed.specs.Gathering.{Gathered, GathersFor}
use Rattle.hunt_feed.specs.inner.Adding.{IsIndicator}
use Rattle.hunt_feed.proofs.AddingLemmas.{Laws, counted, other_ids, added_other, added_indicator}
use Rattle.hunt_feed.proofs.gathering.Gathering.add.Goals as goal
use Rattle.hunt_feed.proofs.gathering.Gathering.add.Goals.{then-is_indicator+in_ok-add_indicator, else-is_indicator}

pub returns-clause-ok : goal.returns-clause-ok
returns-clause-ok c = λ objects gathers.
    let d = data_of c.args.object.now in
    let laws : Laws = record { one_id = c.one_id.ensures; one_modified = c.one_modified.ensures; one_meaning = c.one_meaning.ensures.one } in
    subst (λ (g : Gathered). GathersFor (counted g) (objects ++ d ∷ [])) (sym c.self.view_is)
    (elim c.if-is_indicator.branch [
      | then-is_indicator+in_ok-add_indicator w ↦
          subst (λ (g : Gathered). GathersFor (counted g) (objects ++ d ∷ [])) (sym w.self-is)
          (added_indicator laws c.args.self.now w.add_indicator.new.self objects d w.in_ok-add_indicator.ensures.ok gathers)
      | else-is_indicator w ↦
          subst (λ (g : Gathered). GathersFor (counted g) (objects ++ d ∷ [])) (sym w.self-is)
          (let no_indicator : ¬ IsIndicator d = (λ is. false≢true (sym w.if-is_indicator.false ∙ c.is_indicator.ensures.1 is)) in
          added_other c.args.self.now objects d
          (other_ids c.one_id.ensures d (c.no_breaks.ensures.named d c.requires.unbroken) no_indicator)
          no_indicator gathers)
    ])
