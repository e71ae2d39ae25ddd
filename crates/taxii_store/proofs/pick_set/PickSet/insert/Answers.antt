use Rattle.std.proofs.Common.{◌≡◌, ◌++◌, [], ◌∷◌, true, ℤ, w64, to_z, of_z, subst, sym, rules}
use Rattle.std.proofs.lemmas.Int.{to_z-of_z}
use Rattle.stix_ids.specs.declared.pick.Pick.{Pick}
use Rattle.stix_ids.specs.declared.pick.Pick.TheVariants.{At}
use Rattle.taxii_store.specs.declared.pick_set.PickSet.{PickSet}
use Rattle.taxii_store.specs.Picks.{HasPicks}
use Rattle.taxii_store.proofs.PickLemmas.{with_all, with_last, with_first}
use Rattle.taxii_store.proofs.pick_set.PickSet.insert.Goals as goal

pub returns-in-All : goal.returns-in-All
returns-in-All c = λ picks has.
    let old = c.args.self.now in
    let new : PickSet = record { all = true; last = old.last; first = old.first; versions = old.versions } in
    subst (λ (pick : Pick). HasPicks (picks ++ pick ∷ []) new) (sym c.in-All.is) (with_all picks old has)

pub returns-in-Last : goal.returns-in-Last
returns-in-Last c = λ picks has.
    let old = c.args.self.now in
    let new : PickSet = record { all = old.all; last = true; first = old.first; versions = old.versions } in
    subst (λ (pick : Pick). HasPicks (picks ++ pick ∷ []) new) (sym c.in-Last.is) (with_last picks old has)

pub returns-in-First : goal.returns-in-First
returns-in-First c = λ picks has.
    let old = c.args.self.now in
    let new : PickSet = record { all = old.all; last = old.last; first = true; versions = old.versions } in
    subst (λ (pick : Pick). HasPicks (picks ++ pick ∷ []) new) (sym c.in-First.is) (with_first picks old has)

pub returns-in_ok-insert_version-in-At : goal.returns-in_ok-insert_version-in-At
returns-in_ok-insert_version-in-At c = λ picks has.
    let same : to_z w64 (of_z w64 c.in-At.version) ≡ c.in-At.version = to_z-of_z w64 c.in-At.version (search rules) in
    subst (λ (pick : Pick). HasPicks (picks ++ pick ∷ []) c.insert_version.new.self) (sym c.in-At.is)
    (subst (λ (v : ℤ). HasPicks (picks ++ At v ∷ []) c.insert_version.new.self) same (c.in_ok-insert_version-in-At.ensures picks has))
