use Rattle.std.proofs.Common.{List, ℕ, map, refl, sym, subst}
use Rattle.std.proofs.lemmas.List.{length-map}
use Rattle.hunt_index.specs.declared.index_key.IndexKey.{IndexKey}
use Rattle.hunt_index.specs.inner.Postings.{ArePostingsOf}
use Rattle.std.specs.Prelude.{All}
use Rattle.hunt_index.specs.inner.Indexed.{IsPathEntryOfKind}
use Rattle.hunt_index.specs.inner.Finding.{AreKinds}
use Rattle.hunt_index.proofs.FinderLemmas.{finds_all}
use Rattle.hunt_index.proofs.finder.Finder.new.Goals as goal

pub returns : goal.returns
returns c =
    let brackets = map (λ leaf. leaf.now) c.args.brackets.now in
    let postings = c.in_ok-postings.postings in
    let path_table = c.in_ok-path_table.path_table in
    let kinds = c.in_ok-kinds.kinds in
    let all_postings = subst (λ (n : ℕ). ArePostingsOf brackets n postings) (sym (length-map c.args.brackets.now (λ leaf. leaf.now))) c.in_ok-postings.ensures in
    let all_kinds = subst (λ (paths : List IndexKey). AreKinds paths kinds.items) c.as_slice.ensures.value c.in_ok-kinds.ensures.all in
    let only_kinds = subst (λ (paths : List IndexKey). All (IsPathEntryOfKind paths) kinds.items) c.as_slice.ensures.value c.in_ok-kinds.ensures.only in
    finds_all brackets postings path_table kinds.items (record { kinds = c.new.result; paths = path_table.paths; brackets_found = c.new-2.result; unindexed = postings.unindexed })
    all_postings c.in_ok-path_table.ensures all_kinds only_kinds c.new.ensures refl c.new-2.ensures refl
