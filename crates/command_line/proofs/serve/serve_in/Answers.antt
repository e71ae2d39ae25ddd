use Rattle.std.proofs.lemmas.Bool.{false≢true}
use Rattle.std.proofs.Common.{◌≡◌, ◌≤◌, List, [], ◌∷◌, length, map, Option, option_map, refl, sym, ap, ◌∙◌, subst, arith}
use Rattle.std.specs.Prelude.{nat_eq}
use Rattle.std.specs.List.{IsDistinct}
use Rattle.command_line.specs.CommandLines.{AreCollectionsOf, IsBase, IsFile, PlainCollection}
use Rattle.command_line.specs.Request.{plain_collection}
use Rattle.command_line.specs.declared.request.CollectionRequest.{CollectionRequest}
use Rattle.command_line.specs.inner.Forms.{collection_names}
use Rattle.command_line.specs.inner.Rows.{IsTextOrNone, parsed_rows, arguments_at}
use Rattle.command_line.proofs.CollectionLemmas.{same_collections}
use Rattle.command_line.proofs.DistinctLemmas.{ids, plain_ids}
use Rattle.command_line.proofs.HasLemmas.{Text}
use Rattle.command_line.proofs.serve.serve_in.Goals as goal
use Rattle.command_line.proofs.serve.serve_in.Goals.{then-is_empty-via-then-is_empty, then-is_empty-via-else-is_empty+then-not-do_all_differ}

pub returns-in_default-number_of-clause-none : goal.returns-in_default-number_of-clause-none
returns-in_default-number_of-clause-none c = λ service asked.
    let there = (c.number_of.ensures service.connections).1 asked.connections_is in
    let none = c.in_default-number_of.is in absurd (cc)

some_left : (collections : List CollectionRequest) → ¬ (collections ≡ []) → 1 ≤ length (map plain_collection collections)
some_left [] some = absurd (some refl)
some_left (asked ∷ collections) some = omega arith

none_left : (collections : List CollectionRequest) → collections ≡ [] → ¬ (1 ≤ length (map plain_collection collections))
none_left collections none some = let bad = rw none at some in absurd (omega arith)

pub returns-then-is_empty-clause-none : goal.returns-then-is_empty-clause-none
returns-then-is_empty-clause-none c = λ service asked.
    let found : AreCollectionsOf (arguments_at collection_names (parsed_rows c.args.values.now)) (map plain_collection c.in-Some-2.collections) = rw c.in-Some-2.is at c.in_ok-collections.ensures.some in
    let same = same_collections (arguments_at collection_names (parsed_rows c.args.values.now)) service.collections (map plain_collection c.in-Some-2.collections) asked.collections_are found in
    let differ : IsDistinct nat_eq (ids c.in-Some-2.collections)
    = subst (IsDistinct nat_eq) (ap (map (λ (collection : PlainCollection). collection.id)) same ∙ plain_ids c.in-Some-2.collections) asked.differ in
    elim c.then-is_empty.branch [
      | then-is_empty-via-then-is_empty w ↦ none_left c.in-Some-2.collections (c.is_empty.ensures.0 w.if-is_empty.true) (subst (λ (cs : List PlainCollection). 1 ≤ length cs) same asked.some)
      | then-is_empty-via-else-is_empty+then-not-do_all_differ w ↦
          let all = w.do_all_differ.ensures.1 (subst (λ (cs : List CollectionRequest). IsDistinct nat_eq (ids cs)) (sym w.as_slice.ensures) differ) in
          absurd (false≢true (sym w.if-not-do_all_differ.true ∙ all))
    ]

pub returns-clause-some : goal.returns-clause-some
returns-clause-some c =
    let rows = parsed_rows c.args.values.now in
    let store = option_map (λ file. file.now) c.in-Some-file_in.store in
    let base = option_map (λ url. url.now) c.in-Some-base_in.base in
    let found : AreCollectionsOf (arguments_at collection_names rows) (map plain_collection c.in-Some-2.collections) = rw c.in-Some-2.is at c.in_ok-collections.ensures.some in
    record {
      port_is = (c.port_in.ensures c.in-Some.port).0 c.in-Some.is;
      connections_is = (c.number_of.ensures c.in-Some-number_of.connections).0 c.in-Some-number_of.is;
      store_is = subst (λ (o : Option Text). IsTextOrNone IsFile o store) c.value_of.ensures ((c.file_in.ensures store).0 (ap (option_map (option_map (λ file. file.now))) c.in-Some-file_in.is));
      base_is = subst (λ (o : Option Text). IsTextOrNone IsBase o base) c.value_of-2.ensures ((c.base_in.ensures base).0 (ap (option_map (option_map (λ url. url.now))) c.in-Some-base_in.is));
      collections_are = found;
      some = some_left c.in-Some-2.collections (λ none. false≢true (sym c.if-is_empty.false ∙ c.is_empty.ensures.1 none));
      differ = subst (IsDistinct nat_eq) (sym (plain_ids c.in-Some-2.collections))
          (subst (λ (cs : List CollectionRequest). IsDistinct nat_eq (ids cs)) c.as_slice.ensures (c.do_all_differ.ensures.0 c.if-not-do_all_differ.false));
    }
