use Rattle.std.proofs.Common.{arith, List, ℕ, length, sym, subst}
use Rattle.std.specs.Prelude.{All}
use Rattle.std.specs.List.Sorted.{IsPermutation}
use Rattle.std.proofs.lemmas.List.Elements.{All-nil}
use Rattle.hunt_index.specs.declared.postings.Posting.{Posting}
use Rattle.hunt_index.specs.declared.paths.Lookup.{Lookup}
use Rattle.hunt_index.specs.inner.Paths.{IsOfPosting}
use Rattle.hunt_index.proofs.PathsLemmas.{all_filed}
use Rattle.hunt_index.proofs.paths.group_by_path.Goals as goal

pub returns : goal.returns
returns c =
    let lent = c.as_slice.result.now in
    let moved = subst (λ (postings : List Posting). IsPermutation c.args.postings.items postings) (sym c.as_slice.ensures.value) c.sort_unstable_by.ensures.permutation in
    all_filed c.args.postings.items lent (length lent) c.add_each.new.self moved (omega arith) c.in_ok-add_each.ensures

pub add_each-requires : goal.add_each-requires
add_each-requires c = record {
  each = λ k posting below there. absurd (omega (arith, below));
  only = subst (λ (entries : List (Lookup × ℕ)). All (IsOfPosting c.new.result.items c.as_slice.result.now) entries) (sym c.in_ok-with_capacity.ensures.items) (All-nil (IsOfPosting c.new.result.items c.as_slice.result.now));
}
