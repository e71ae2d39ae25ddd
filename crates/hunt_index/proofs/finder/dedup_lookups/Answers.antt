use Rattle.std.proofs.Common.{List, sym, subst}
use Rattle.std.specs.Prelude.{Contains}
use Rattle.std.proofs.lemmas.List.Filters.{dedup_is}
use Rattle.std.proofs.lemmas.List.Kept.{Any-dedup, Contains-from_dedup}
use Rattle.std.proofs.lemmas.List.Sorted.{Contains-permutation, IsPermutation-sym}
use Rattle.hunt_index.specs.declared.paths.Lookup.{Lookup}
use Rattle.hunt_index.specs.contracts.paths.LookupEq.TheImpl.Laws.{laws-law}
use Rattle.hunt_index.proofs.KeyLemmas.{alike_equal}
use Rattle.hunt_index.proofs.LookupLemmas.{alike_through}
use Rattle.hunt_index.proofs.finder.dedup_lookups.Goals as goal

pub returns-clause-keeps : goal.returns-clause-keeps
returns-clause-keeps c = λ lookup looked.
    let sorted = c.sort_unstable.new.self.items in
    let moved = Contains-permutation c.args.lookups.items sorted looked.found c.sort_unstable.ensures.permutation looked.among in
    let kept = Any-dedup laws-law sorted looked.found moved in
    let is = dedup_is _ _ _ c.dedup.ensures.filtered in
    record {
      found = kept.1;
      among = subst (λ (l : List Lookup). Contains l kept.1) (sym is) (kept.0, kept.2, kept.3);
      alike = alike_through lookup looked.found kept.1 looked.alike (alike_equal looked.found kept.1 kept.4);
    }

pub returns-clause-only : goal.returns-clause-only
returns-clause-only c = λ lookup has.
    let is = dedup_is _ _ _ c.dedup.ensures.filtered in
    Contains-permutation _ _ lookup (IsPermutation-sym _ _ c.sort_unstable.ensures.permutation) (Contains-from_dedup _ _ lookup (rw is at has))
