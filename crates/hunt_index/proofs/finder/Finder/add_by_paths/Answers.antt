use Rattle.std.proofs.Common.{◌≡◌, ℕ, List, [], take, get_or, sym, subst}
use Rattle.std.specs.Prelude.{Contains}
use Rattle.std.specs.Borrow.{Bor}
use Rattle.std.proofs.lemmas.List.{take_more}
use Rattle.stix_json.specs.DataOf.{data_of}
use Rattle.stix_bundles.specs.Objects.{data_in}
use Rattle.match_comparisons.proofs.ContainsLemmas.{take_whole}
use Rattle.std.proofs.lemmas.List.Elements.{Contains-get_or}
use Rattle.hunt_index.specs.inner.Indexed.{IsSeenFrom}
use Rattle.hunt_index.specs.inner.Finding.{AskByPaths, IsSeenBy}
use Rattle.hunt_index.proofs.LookupLemmas.{keeps_through, paths_next, only_through, only_weaker, seen_by}
use Rattle.hunt_index.proofs.finder.Finder.add_by_paths.Goals as goal

pub loop-number-preserved : goal.loop-number-preserved
loop-number-preserved c =
    let paths = c.args.self.now.paths.items in
    let objects = data_in c.args.bundle.now in
    let from = data_of c.args.object.now in
    let numbers = c.args.paths.now in
    let i = c.loop-number.number-index in
    let none : Bor (List ℕ) × ℕ = (record { ref_ptr = (0, 0); now = [] }, 0) in
    let old = c.loop-number.lookups.items in
    let new = c.add_by_path.new.lookups.items in (
      keeps_through c.args.lookups.now.items old new c.loop-number.invariant.0 c.in_ok-add_by_path.ensures.keeps,
      subst (λ (l : List (Bor (List ℕ) × ℕ)). AskByPaths paths objects from l new) (sym (take_more numbers i none c.loop-number-test.true))
          (paths_next paths objects from (take i numbers) (get_or numbers i none) old new c.loop-number.invariant.1 c.in_ok-add_by_path.ensures.keeps c.in_ok-add_by_path.ensures.asks),
      only_through (IsSeenBy paths objects from numbers) c.args.lookups.now.items old new c.loop-number.invariant.2
          (only_weaker (λ lookup. (lookup.path ≡ (get_or numbers i none).1) × IsSeenFrom paths objects from lookup) (IsSeenBy paths objects from numbers) old new
          (seen_by paths objects from numbers (get_or numbers i none) (Contains-get_or numbers i none c.loop-number-test.true)) c.in_ok-add_by_path.ensures.only),
    )

pub returns-clause-asks : goal.returns-clause-asks
returns-clause-asks c = λ entry has.
    c.loop-number.invariant.1 entry
    (subst (λ (l : List (Bor (List ℕ) × ℕ)). Contains l entry) (sym (take_whole c.args.paths.now c.loop-number.number-index c.loop-number-test.false)) has)
