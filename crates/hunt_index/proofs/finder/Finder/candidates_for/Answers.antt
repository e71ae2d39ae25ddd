use Rattle.std.proofs.Common.{◌∙◌, List, sym, subst}
use Rattle.stix_bundles.specs.Objects.{data_in}
use Rattle.hunt_index.specs.declared.paths.Lookup.{Lookup}
use Rattle.hunt_index.specs.inner.Finding.{AreAsked, AreSeen}
use Rattle.hunt_index.proofs.PlacesLemmas.{finds_places}
use Rattle.hunt_index.proofs.finder.Finder.candidates_for.Goals as goal

pub returns : goal.returns
returns c =
    let objects = data_in c.args.bundle.now in
    let asked = subst (λ (l : List Lookup). AreAsked c.args.self.now objects c.args.roots.now l) (sym c.as_slice-2.ensures.value) c.in_ok-lookups.ensures.asks in
    let seen = subst (λ (l : List Lookup). AreSeen c.args.self.now.paths.items objects c.args.roots.now l) (sym c.as_slice-2.ensures.value) c.in_ok-lookups.ensures.seen in
    finds_places c.args.self.now objects c.args.roots.now c.as_slice-2.result.now c.in_ok-brackets_found.brackets_found.items c.add_found.new.brackets_found.items
    (c.in_ok-brackets_found.ensures.items ∙ c.as_slice.ensures.value) asked seen c.in_ok-add_found.ensures
