-- Granular markings (STIX 2.1, section 7.2.3): each names a marking or a language, and the properties of its object that
-- it marks.
use Rattle.std.specs.Prelude.{◌≡◌, ◌≢◌, ◌⊎◌, ℕ, ◌+◌, List, [], ◌∷◌, ◌++◌, map, Option, Some, None, IsSome, codes, Contains, option_to_list, MatchOption}
use Rattle.serde_json.specs.Data.{Data, Items, string}
use Rattle.serde_json.specs.Find.{get, as_array}
use Rattle.stix_ids.specs.declared.id.Id.{Id}
use Rattle.stix_ids.specs.Identifier.{IsTextOfId}
use Rattle.stix_json.specs.Properties.{property_text}
use Rattle.stix_bundles.specs.Bundle.{items_in_order}
use Rattle.stix_versions.specs.declared.marking_break.MarkingRule.{MarkingRule}
use Rattle.stix_versions.specs.declared.marking_break.MarkingRule.TheVariants.{MarkingOrLang, BadMarkingRef, BadSelector, SelectorMissing}
use Rattle.stix_versions.specs.declared.marking_break.MarkingBreak.{MarkingBreak}
use Rattle.stix_versions.specs.Selector.{SelectorPart, IsSelector, value_at}

-- the property is present
abbrev pub HasProperty : List ℕ → Data → Type 0
HasProperty name d = IsSome (get name d)

-- exactly one of `marking_ref` and `lang` is present
abbrev pub HasOne : Data → Type 0
HasOne marking = (HasProperty (codes "marking_ref") marking × (¬ HasProperty (codes "lang") marking)) ⊎ ((¬ HasProperty (codes "marking_ref") marking) × HasProperty (codes "lang") marking)

-- `marking_ref` is the text of a marking-definition's identifier
abbrev pub RefersToMarking : Data → Type 0
RefersToMarking marking = (text : List ℕ) × (id : Id) × (property_text (codes "marking_ref") marking ≡ Some text) × IsTextOfId text id × (id.kind ≡ codes "marking-definition")

-- the texts are selectors
abbrev pub AreSelectors : List (List ℕ) → Type 0
AreSelectors [] = Unit {0}
AreSelectors (text ∷ texts) = ((parts : List SelectorPart) × IsSelector text parts) × AreSelectors texts

-- `selectors` is a list of these texts, one or more
pub record ListsSelectors (marking : Data) (texts : List (List ℕ)) : Type 0 where
  pub value : Data
  pub items : Items
  pub there : get (codes "selectors") marking ≡ Some value
  pub list : as_array value ≡ Some items
  pub texts_are : items_in_order items ≡ map string texts
  pub some : texts ≢ []

-- `selectors` is a list of one or more selectors
abbrev pub HasSelectors : Data → Type 0
HasSelectors marking = (texts : List (List ℕ)) × ListsSelectors marking texts × AreSelectors texts

-- one of the selectors selects nothing in the object
pub record MissesOne (object marking : Data) : Type 0 where
  pub texts : List (List ℕ)
  pub lists : ListsSelectors marking texts
  pub text : List ℕ
  pub one : Contains texts text
  pub parts : List SelectorPart
  pub selector : IsSelector text parts
  pub missing : value_at parts object ≡ None

-- the rule applies to a marking of the object, and none before it does
abbrev pub BreaksMarkingRule : Data → Data → MarkingRule → Type 0
BreaksMarkingRule d marking MarkingOrLang = ¬ HasOne marking
BreaksMarkingRule d marking BadMarkingRef = HasOne marking × HasProperty (codes "marking_ref") marking × (¬ RefersToMarking marking)
BreaksMarkingRule d marking BadSelector = HasOne marking × (HasProperty (codes "marking_ref") marking → RefersToMarking marking) × (¬ HasSelectors marking)
BreaksMarkingRule d marking SelectorMissing = HasOne marking × (HasProperty (codes "marking_ref") marking → RefersToMarking marking) × HasSelectors marking × MissesOne d marking

-- the rule that a marking breaks, or none
abbrev pub IsBreakOf : Data → Data → Option MarkingRule → Type 0
IsBreakOf d marking found = MatchOption found ((rule : MarkingRule) → ¬ BreaksMarkingRule d marking rule) (BreaksMarkingRule d marking)

-- a violation by a marking of an object, with both positions
abbrev pub break_of_marking : ℕ → ℕ → MarkingRule → MarkingBreak
break_of_marking place at rule = record { object = place; marking = at; rule = rule }

-- the violations of the markings of an object, from a position on
abbrev pub AreBreaksOfMarkings : ℕ → Data → ℕ → List Data → List MarkingBreak → Type 0
AreBreaksOfMarkings place d at [] breaks = breaks ≡ []
AreBreaksOfMarkings place d at (marking ∷ markings) breaks = (found : Option MarkingRule) × (rest : List MarkingBreak)
    × IsBreakOf d marking found × AreBreaksOfMarkings place d (at + 1) markings rest
    × (breaks ≡ map (break_of_marking place at) (option_to_list found) ++ rest)

-- the granular markings of an object: none if the property is absent or isn't a list
abbrev pub AreMarkings : Data → List Data → Type 0
AreMarkings d markings = MatchOption (get (codes "granular_markings") d) (markings ≡ []) (λ value. MatchOption (as_array value) (markings ≡ []) (λ items. markings ≡ items_in_order items))

-- the violations of the objects from a position on, object by object
abbrev pub AreMarkingBreaksFrom : ℕ → List Data → List MarkingBreak → Type 0
AreMarkingBreaksFrom place [] breaks = breaks ≡ []
AreMarkingBreaksFrom place (d ∷ ds) breaks = (markings : List Data) × (own rest : List MarkingBreak)
    × AreMarkings d markings × AreBreaksOfMarkings place d 0 markings own × AreMarkingBreaksFrom (place + 1) ds rest
    × (breaks ≡ own ++ rest)

-- all violations by granular markings in a bundle
abbrev pub AreMarkingBreaks : List Data → List MarkingBreak → Type 0
AreMarkingBreaks objects = AreMarkingBreaksFrom 0 objects
