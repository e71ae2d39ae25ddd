use Rattle.std.proofs.Common.{List, ℕ, take, get_or, sym, subst}
use Rattle.std.specs.Prelude.{Contains}
use Rattle.std.proofs.lemmas.List.{take_more}
use Rattle.stix_bundles.specs.Objects.{data_in}
use Rattle.match_comparisons.proofs.ContainsLemmas.{take_whole}
use Rattle.std.proofs.lemmas.List.Elements.{Contains-get_or}
use Rattle.hunt_index.specs.inner.Finding.{AreAsked}
use Rattle.hunt_index.proofs.LookupLemmas.{roots_next, seen_next}
use Rattle.hunt_index.proofs.finder.Finder.lookups.Goals as goal

pub loop-root-preserved : goal.loop-root-preserved
loop-root-preserved c =
    let roots = c.args.roots.now in
    let i = c.loop-root.root-index in (
      subst (λ (l : List ℕ). AreAsked c.args.self.now (data_in c.args.bundle.now) l c.add_lookups.new.lookups.items) (sym (take_more roots i 0 c.loop-root-test.true))
          (roots_next c.args.self.now (data_in c.args.bundle.now) (take i roots) (get_or roots i 0) c.loop-root.lookups.items c.add_lookups.new.lookups.items c.loop-root.invariant.0
          c.in_ok-add_lookups.ensures.keeps c.in_ok-add_lookups.ensures.asks),
      seen_next c.args.self.now.paths.items (data_in c.args.bundle.now) roots (get_or roots i 0) c.loop-root.lookups.items c.add_lookups.new.lookups.items
          (Contains-get_or roots i 0 c.loop-root-test.true) c.loop-root.invariant.1 c.in_ok-add_lookups.ensures.only,
    )

pub returns-clause-asks : goal.returns-clause-asks
returns-clause-asks c = λ root has lookup leads.
    c.dedup_lookups.ensures.keeps lookup
    (c.loop-root.invariant.0 root (subst (λ (l : List ℕ). Contains l root) (sym (take_whole c.args.roots.now c.loop-root.root-index c.loop-root-test.false)) has) lookup leads)

pub returns-clause-seen : goal.returns-clause-seen
returns-clause-seen c = λ lookup has. c.loop-root.invariant.1 lookup (c.dedup_lookups.ensures.only lookup has)
