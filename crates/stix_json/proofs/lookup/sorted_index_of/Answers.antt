use Rattle.std.proofs.Common.{rules, ◌≡◌, nat_cmp}
use Rattle.std.specs.Cmp.Lexicographic.{slice_cmp}
use Rattle.std.proofs.lemmas.Fn.{always_returns_same}
use Rattle.stix_json.proofs.FieldsLemmas.{searched_found, searched_none}
use Rattle.stix_json.proofs.lookup.sorted_index_of.Goals as goal

pub returns-in-Ok-clause-some : goal.returns-in-Ok-clause-some
returns-in-Ok-clause-some c =
    let name = c.args.name.now in
    let position = c.binary_search_by.ensures.position (λ f. slice_cmp nat_cmp f.name name) (always_returns_same _ (λ a r. r ≡ slice_cmp nat_cmp a.0.now.name name) _ (λ a r q k. search rules)) in
    searched_found name c.args.fields.now c.binary_search_by.result c.in-Ok.at c.requires c.binary_search_by.ensures.bound position c.in-Ok.is

pub returns-in-Err-clause-none : goal.returns-in-Err-clause-none
returns-in-Err-clause-none c =
    let name = c.args.name.now in
    let position = c.binary_search_by.ensures.position (λ f. slice_cmp nat_cmp f.name name) (always_returns_same _ (λ a r. r ≡ slice_cmp nat_cmp a.0.now.name name) _ (λ a r q k. search rules)) in
    searched_none name c.args.fields.now c.binary_search_by.result _ c.requires position c.in-Err.is
