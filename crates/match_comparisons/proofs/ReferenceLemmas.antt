-- What a name leads to, and that it leads to one value.
use Rattle.std.proofs.Common.{◌≡◌, ◌↔◌, ℕ, List, Option, Some, None, MatchOption, option_and_then, slice_get, sym, ap, subst, ◌∙◌, refl}
use Rattle.std.proofs.lemmas.Option.{none-some, same_Some}
use Rattle.serde_json.specs.Data.{Data, null, boolean, number, string, array, object}
use Rattle.serde_json.specs.Find.{get, as_str}
use Rattle.flow_values.specs.Answers.{FindsExactly}
use Rattle.stix_bundles.specs.Lookup.{ResolvesTo}
use Rattle.match_comparisons.specs.Selection.{IsReference, RefersTo, LeadsTo, by_property, by_reference}
use Rattle.match_comparisons.specs.inner.PropertyOf.{property_of}

-- a text means one place, or none
abbrev pub OneMeaning : Type 0
OneMeaning = (objects : List Data) (text : List ℕ) (first second : Option ℕ) → ResolvesTo objects text first → ResolvesTo objects text second → first ≡ second

-- what a value means, where it is a text
abbrev pub ValueMeans : List Data → Data → Option ℕ → Type 0
ValueMeans objects value place = MatchOption (as_str value) (place ≡ None) (λ text. ResolvesTo objects text place)

one_text : (value : Data) (first second : List ℕ) → as_str value ≡ Some first → as_str value ≡ Some second → first ≡ second
one_text value first second is also = same_Some first second (sym is ∙ also)

pub one_reference : OneMeaning → (objects : List Data) (last : Option (List ℕ)) (value : Data) (first second : ℕ)
    → RefersTo objects last value first → RefersTo objects last value second → first ≡ second
one_reference one objects last value first second is also =
    let text = one_text value is.text also.text is.is_text also.is_text in
    same_Some first second (one objects also.text (Some first) (Some second) (subst (λ t. ResolvesTo objects t (Some first)) text is.means) also.means)

means_at : (objects : List Data) (value : Data) (place : Option ℕ) (text : List ℕ) → as_str value ≡ Some text → ValueMeans objects value place → ResolvesTo objects text place
means_at objects value place text is means = subst (λ (o : Option (List ℕ)). MatchOption o (place ≡ None) (λ t. ResolvesTo objects t place)) is means

refers_by : (objects : List Data) (last : Option (List ℕ)) (value : Data) (at : ℕ) (text : Option (List ℕ)) → as_str value ≡ text
    → IsReference last → MatchOption text (Some at ≡ None) (λ t. ResolvesTo objects t (Some at)) → RefersTo objects last value at
refers_by objects last value at None is named means = absurd (none-some at (sym means))
refers_by objects last value at (Some text) is named means = record { named = named; text = text; is_text = is; means = means }

-- the place that a value means is the one that it refers to
pub refers_exactly : OneMeaning → (objects : List Data) (last : Option (List ℕ)) (value : Data) (place : Option ℕ) → IsReference last
    → ValueMeans objects value place → FindsExactly (RefersTo objects last value) place
refers_exactly one objects last value None named means = λ at is.
    none-some at (one objects is.text None (Some at) (means_at objects value None is.text is.is_text means) is.means)
refers_exactly one objects last value (Some at) named means = refers_by objects last value at (as_str value) refl named means

-- a value with that property is no text
no_property : (name : List ℕ) (value found : Data) (text : List ℕ) → get name value ≡ Some found → as_str value ≡ Some text → ⊥
no_property name null found text has is = none-some text is
no_property name (boolean b) found text has is = none-some text is
no_property name (number n) found text has is = none-some text is
no_property name (string s) found text has is = none-some found has
no_property name (array ds) found text has is = none-some text is
no_property name (object ms) found text has is = none-some text is

-- a name leads to one value
pub one_lead : OneMeaning → (objects : List Data) (last : Option (List ℕ)) (name : List ℕ) (value first second : Data)
    → LeadsTo objects last name value first → LeadsTo objects last name value second → first ≡ second
one_lead one objects last name value first second (by_property has) (by_property also) = same_Some first second (sym has ∙ also)
one_lead one objects last name value first second (by_property has) (by_reference is there also) = absurd (no_property name value first is.text has is.is_text)
one_lead one objects last name value first second (by_reference is there has) (by_property also) = absurd (no_property name value second is.text also is.is_text)
one_lead one objects last name value first second (by_reference {at = a} {object = o} is there has) (by_reference {at = b} {object = p} refers stands also) =
    let place = one_reference one objects last value a b is refers in
    let same = same_Some o p (sym there ∙ ap (slice_get objects) place ∙ stands) in
    same_Some first second (sym has ∙ ap (get name) same ∙ also)

-- what leads from a reference to the object at a place leads to a property of that object
leads_through : OneMeaning → (objects : List Data) (last : Option (List ℕ)) (name : List ℕ) (value : Data) (at : ℕ) (found : Data)
    → get name value ≡ None → RefersTo objects last value at → LeadsTo objects last name value found → property_of objects name at ≡ Some found
leads_through one objects last name value at found without refers (by_property has) = absurd (none-some found (sym without ∙ has))
leads_through one objects last name value at found without refers (by_reference {at = a} is there has) =
    let place = one_reference one objects last value at a refers is in
    ap (property_of objects name) place ∙ ap (option_and_then (get name)) there ∙ has

leads_in : (objects : List Data) (last : Option (List ℕ)) (name : List ℕ) (value : Data) (at : ℕ) (meant found : Data)
    → slice_get objects at ≡ Some meant → get name meant ≡ Some found → RefersTo objects last value at → LeadsTo objects last name value found
leads_in objects last name value at meant found there has refers = by_reference refers there has

leads_at : OneMeaning → (objects : List Data) (last : Option (List ℕ)) (name : List ℕ) (value : Data) (at : ℕ)
    → get name value ≡ None → RefersTo objects last value at → (there : Option Data) → slice_get objects at ≡ there
    → (found : Option Data) → option_and_then (get name) there ≡ found → FindsExactly (LeadsTo objects last name value) found
leads_at one objects last name value at without refers there is None none = λ found leads.
    none-some found (sym none ∙ ap (option_and_then (get name)) (sym is) ∙ leads_through one objects last name value at found without refers leads)
leads_at one objects last name value at without refers None is (Some found) has = absurd (none-some found has)
leads_at one objects last name value at without refers (Some meant) is (Some found) has = leads_in objects last name value at meant found is has refers

-- without the property it is that of the object at the place that the value refers to
pub leads_exactly : OneMeaning → (objects : List Data) (last : Option (List ℕ)) (name : List ℕ) (value : Data) (place : Option ℕ)
    → get name value ≡ None → FindsExactly (RefersTo objects last value) place
    → FindsExactly (LeadsTo objects last name value) (option_and_then (property_of objects name) place)
leads_exactly one objects last name value None without refers = λ found leads. elim leads [
  | by_property has ↦ none-some found (sym without ∙ has)
  | by_reference {at = a} is there has ↦ refers a is
]
leads_exactly one objects last name value (Some at) without refers =
    leads_at one objects last name value at without refers (slice_get objects at) refl (property_of objects name at) refl

-- a text has no property
text_alone : (name : List ℕ) (value : Data) (text : List ℕ) (own : Option Data) → get name value ≡ own → as_str value ≡ Some text → own ≡ None
text_alone name value text None has is = refl
text_alone name value text (Some found) has is = absurd (no_property name value found text has is)

own_lead : (objects : List Data) (name : List ℕ) (meant found : Data) → LeadsTo objects None name meant found → get name meant ≡ Some found
own_lead objects name meant found (by_property has) = has
own_lead objects name meant found (by_reference is there has) = absurd is.named

-- from a reference a name leads where it leads from the object
pub same_lead : OneMeaning → (objects : List Data) (last : Option (List ℕ)) (value meant : Data) (at : ℕ) (name : List ℕ)
    → RefersTo objects last value at → slice_get objects at ≡ Some meant
    → (found : Data) → LeadsTo objects last name value found ↔ LeadsTo objects None name meant found
same_lead one objects last value meant at name refers there found =
    let without : get name value ≡ None = text_alone name value refers.text (get name value) refl refers.is_text in (
      λ leads.
          by_property (sym (ap (option_and_then (get name)) there) ∙ leads_through one objects last name value at found without refers leads),
      λ leads. leads_in objects last name value at meant found there (own_lead objects name meant found leads) refers,
    )
