use Rattle.std.proofs.Common.{◌≡◌, ◌<◌, ◌≤◌, true, false, nat_lt, map, length, unwrap_or, slice_get, [], ℕ, List, Bor, Some, Option, option_map, ap, sym, ◌∙◌}
use Rattle.std.proofs.lemmas.Option.{slice_get-map, slice_get-get_or, slice_get_past}
use Rattle.flow_values.specs.inner.StandardNames.{standard_names}
use Rattle.flow_values.proofs.TestLemmas.{lt_from_test, le_from_test}
use Rattle.flow_values.proofs.name.standard_name_at.Goals as goal

abbrev text : Bor (List ℕ) → List ℕ
text name = name.now

found : (names : List (Bor (List ℕ))) (at index : ℕ) (wanted : Option (Bor (List ℕ))) → map text names ≡ standard_names → at ≡ index → slice_get names at ≡ wanted
    → unwrap_or (option_map text wanted) [] ≡ unwrap_or (slice_get standard_names index) []
found names at index wanted all same is =
    ap (λ (o : Option (Bor (List ℕ))). unwrap_or (option_map text o) []) (sym is) ∙ ap (λ (o : Option (List ℕ)). unwrap_or o []) (sym (slice_get-map text names at))
    ∙ ap (λ (texts : List (List ℕ)). unwrap_or (slice_get texts at) []) all ∙ ap (λ (n : ℕ). unwrap_or (slice_get standard_names n) []) same

pub returns-in-Some : goal.returns-in-Some
returns-in-Some c =
    let names = c.given.result.now in
    let name = c.in-Some.name.now in
    let test : true ≡ nat_lt c.from.result (length names) = c.in-Some.ensures.lookup.0 in
    let within : c.from.result < length names = lt_from_test c.from.result (length names) test in
    found names c.from.result c.args.index (Some name) c.given.ensures c.from.ensures
    (slice_get-get_or names c.from.result name within ∙ ap Some (sym c.in-Some.ensures.lookup.1))

pub returns-in-None : goal.returns-in-None
returns-in-None c =
    let names = c.given.result.now in
    let test : false ≡ nat_lt c.from.result (length names) = c.in-None.ensures.lookup.0 in
    let past : length names ≤ c.from.result = le_from_test c.from.result (length names) test in
    found names c.from.result c.args.index _ c.given.ensures c.from.ensures (slice_get_past names c.from.result past)
