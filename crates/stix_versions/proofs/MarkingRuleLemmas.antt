-- What the selectors of a marking break, where it names one marking or language well.
use Rattle.std.proofs.Common.{arith, ◌≡◌, ◌≢◌, ◌==◌, ℕ, Bool, true, false, length, List, [], ◌∷◌, map, Any, codes, refl, sym, ap, ◌∙◌}
use Rattle.std.proofs.lemmas.Bool.{true≢false}
use Rattle.std.proofs.lemmas.Bool.Decides.{nat_tests}
use Rattle.serde_json.specs.Data.{Data, string}
use Rattle.stix_json.specs.declared.value.Json.{Json}
use Rattle.stix_json.specs.DataOf.{data_of}
use Rattle.stix_bundles.specs.Objects.{data_in}
use Rattle.stix_versions.specs.declared.marking_break.MarkingRule.{MarkingRule}
use Rattle.stix_versions.specs.declared.marking_break.MarkingRule.TheVariants.{MarkingOrLang, BadMarkingRef, BadSelector, SelectorMissing}
use Rattle.stix_versions.specs.Markings.{HasSelectors, BreaksMarkingRule}
use Rattle.stix_versions.specs.inner.Selectors.{Misses, IsListAt, IsWellNamed}
use Rattle.stix_versions.proofs.SelectorsLemmas.{AllSelectorTexts, texts_are, lists_them, texts_of_all, all_of_texts, misses_of_any, any_of_misses}

pub none_there : (values : List Json) (empty : Bool) → empty ≡ (length values == 0) → empty ≡ true → values ≡ []
none_there [] empty is is_true = refl
none_there (value ∷ values) empty is is_true = absurd (grind (arith, nat_tests))

pub some_there : (values : List Json) (empty : Bool) → empty ≡ (length values == 0) → empty ≡ false → values ≢ []
some_there [] empty is is_false none = absurd (true≢false (sym is ∙ is_false))
some_there (value ∷ values) empty is is_false none = absurd cc

nothing_listed : (texts : List (List ℕ)) → ◌≡◌ {A = List Data} [] (map string texts) → texts ≡ []
nothing_listed [] is = refl
nothing_listed (text ∷ texts) is = absurd cc

pub empty_list : (d marking : Data) (values : List Json) → IsWellNamed marking → IsListAt (codes "selectors") marking (data_in values) → values ≡ [] → BreaksMarkingRule d marking BadSelector
empty_list d marking values named is none =
    (named.0, named.1, λ has. has.1.some (nothing_listed has.0 (sym (ap data_in none) ∙ texts_are marking (data_in values) is has.0 has.1)))

pub no_selectors : (d marking : Data) (values : List Json) → IsWellNamed marking → IsListAt (codes "selectors") marking (data_in values) → ¬ AllSelectorTexts values → BreaksMarkingRule d marking BadSelector
no_selectors d marking values named is not_all =
    (named.0, named.1, λ has. not_all (all_of_texts values has.0 (texts_are marking (data_in values) is has.0 has.1) has.2))

something_listed : (values : List Json) (texts : List (List ℕ)) → values ≢ [] → data_in values ≡ map string texts → texts ≢ []
something_listed [] texts some same none = some refl
something_listed (value ∷ values) texts some same none = absurd cc

has_them : (marking : Data) (values : List Json) → IsListAt (codes "selectors") marking (data_in values) → values ≢ [] → AllSelectorTexts values → HasSelectors marking
has_them marking values is some all =
    let found = texts_of_all values all in
    (found.0, lists_them marking (data_in values) is found.0 found.1 (something_listed values found.0 some found.1), found.2)

pub one_misses : (d marking : Data) (values : List Json) → IsWellNamed marking → IsListAt (codes "selectors") marking (data_in values) → values ≢ [] → AllSelectorTexts values
    → Any (λ (value : Json). Misses d (data_of value)) values → BreaksMarkingRule d marking SelectorMissing
one_misses d marking values named is some all any =
    let has = has_them marking values is some all in
    (named.0, named.1, has, misses_of_any d marking values has.0 has.1 (texts_are marking (data_in values) is has.0 has.1) any)

pub nothing_breaks : (d marking : Data) (values : List Json) → IsWellNamed marking → IsListAt (codes "selectors") marking (data_in values) → values ≢ [] → AllSelectorTexts values
    → ¬ Any (λ (value : Json). Misses d (data_of value)) values → (rule : MarkingRule) → ¬ BreaksMarkingRule d marking rule
nothing_breaks d marking values named is some all none MarkingOrLang breaks = breaks named.0
nothing_breaks d marking values named is some all none BadMarkingRef breaks = breaks.2 (named.1 breaks.1)
nothing_breaks d marking values named is some all none BadSelector breaks = breaks.2 (has_them marking values is some all)
nothing_breaks d marking values named is some all none SelectorMissing breaks = none (any_of_misses d marking values is breaks.3)
