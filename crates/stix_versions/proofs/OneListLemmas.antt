-- Objects have one list of breaks.
use Rattle.std.proofs.Common.{◌≡◌, inl, inr, ℕ, ◌+◌, List, [], ◌∷◌, ◌++◌, map, Option, Some, None, MatchOption, option_to_list, codes, refl, sym, ap, subst, ◌∙◌}
use Rattle.serde_json.specs.Data.{Data, Items}
use Rattle.serde_json.specs.Find.{get, as_array}
use Rattle.stix_bundles.specs.Bundle.{items_in_order}
use Rattle.stix_versions.specs.declared.version_break.VersionRule.{VersionRule}
use Rattle.stix_versions.specs.declared.version_break.VersionBreak.{VersionBreak}
use Rattle.stix_versions.specs.declared.marking_break.MarkingRule.{MarkingRule}
use Rattle.stix_versions.specs.declared.marking_break.MarkingRule.TheVariants.{MarkingOrLang, BadMarkingRef, BadSelector, SelectorMissing}
use Rattle.stix_versions.specs.declared.marking_break.MarkingBreak.{MarkingBreak}
use Rattle.stix_versions.specs.Versions.{AreBroken, AreVersionBreaksFrom, rules_reported, break_of_version, BreaksVersionRule}
use Rattle.stix_versions.specs.Markings as markings

broken_once : (P : VersionRule → Type 0) (rules a b : List VersionRule) → AreBroken P rules a → AreBroken P rules b → a ≡ b
broken_once P [] a b x y = x ∙ sym y
broken_once P (r ∷ rs) a b (inl x) (inl y) = x.1.2 ∙ ap (λ (l : List VersionRule). r ∷ l) (broken_once P rs x.1.0 y.1.0 x.1.1 y.1.1) ∙ sym y.1.2
broken_once P (r ∷ rs) a b (inl x) (inr y) = absurd (y.0 x.0)
broken_once P (r ∷ rs) a b (inr x) (inl y) = absurd (x.0 y.0)
broken_once P (r ∷ rs) a b (inr x) (inr y) = broken_once P rs a b x.1 y.1

pub versions_once : (objects : List Data) (at : ℕ) (ds : List Data) (a b : List VersionBreak) → AreVersionBreaksFrom objects at ds a → AreVersionBreaksFrom objects at ds b → a ≡ b
versions_once objects at [] a b x y = x ∙ sym y
versions_once objects at (d ∷ ds) a b x y =
    let own = broken_once (BreaksVersionRule objects at) rules_reported x.0 y.0 x.2 y.2 in
    let rest = versions_once objects (at + 1) ds x.1 y.1 x.3 y.3 in
    x.4 ∙ ap (λ (l : List VersionRule). map (break_of_version at) l ++ x.1) own ∙ ap (λ (l : List VersionBreak). map (break_of_version at) y.0 ++ l) rest ∙ sym y.4

-- a marking breaks one rule at most
one_rule : (d m : Data) (r s : MarkingRule) → markings.BreaksMarkingRule d m r → markings.BreaksMarkingRule d m s → r ≡ s
one_rule d m MarkingOrLang MarkingOrLang x y = refl
one_rule d m MarkingOrLang BadMarkingRef x y = absurd (x y.0)
one_rule d m MarkingOrLang BadSelector x y = absurd (x y.0)
one_rule d m MarkingOrLang SelectorMissing x y = absurd (x y.0)
one_rule d m BadMarkingRef MarkingOrLang x y = absurd (y x.0)
one_rule d m BadMarkingRef BadMarkingRef x y = refl
one_rule d m BadMarkingRef BadSelector x y = absurd (x.2 (y.1 x.1))
one_rule d m BadMarkingRef SelectorMissing x y = absurd (x.2 (y.1 x.1))
one_rule d m BadSelector MarkingOrLang x y = absurd (y x.0)
one_rule d m BadSelector BadMarkingRef x y = absurd (y.2 (x.1 y.1))
one_rule d m BadSelector BadSelector x y = refl
one_rule d m BadSelector SelectorMissing x y = absurd (x.2 y.2)
one_rule d m SelectorMissing MarkingOrLang x y = absurd (y x.0)
one_rule d m SelectorMissing BadMarkingRef x y = absurd (y.2 (x.1 y.1))
one_rule d m SelectorMissing BadSelector x y = absurd (y.2 x.2)
one_rule d m SelectorMissing SelectorMissing x y = refl

one_break : (d m : Data) (a b : Option MarkingRule) → markings.IsBreakOf d m a → markings.IsBreakOf d m b → a ≡ b
one_break d m None None x y = refl
one_break d m None (Some s) x y = absurd (x s y)
one_break d m (Some r) None x y = absurd (y r x)
one_break d m (Some r) (Some s) x y = ap Some (one_rule d m r s x y)

own_once : (place : ℕ) (d : Data) (at : ℕ) (ms : List Data) (a b : List MarkingBreak) → markings.AreBreaksOfMarkings place d at ms a → markings.AreBreaksOfMarkings place d at ms b → a ≡ b
own_once place d at [] a b x y = x ∙ sym y
own_once place d at (m ∷ ms) a b x y =
    let found = one_break d m x.0 y.0 x.2 y.2 in
    let rest = own_once place d (at + 1) ms x.1 y.1 x.3 y.3 in
    x.4 ∙ ap (λ (o : Option MarkingRule). map (markings.break_of_marking place at) (option_to_list o) ++ x.1) found ∙ ap (λ (l : List MarkingBreak). map (markings.break_of_marking place at) (option_to_list y.0) ++ l) rest ∙ sym y.4

listed_once : (items : Option Items) (a b : List Data) → MatchOption items (a ≡ []) (λ x. a ≡ items_in_order x) → MatchOption items (b ≡ []) (λ x. b ≡ items_in_order x) → a ≡ b
listed_once None a b x y = x ∙ sym y
listed_once (Some items) a b x y = x ∙ sym y

found_once : (value : Option Data) (a b : List Data) → MatchOption value (a ≡ []) (λ v. MatchOption (as_array v) (a ≡ []) (λ x. a ≡ items_in_order x)) → MatchOption value (b ≡ []) (λ v. MatchOption (as_array v) (b ≡ []) (λ x. b ≡ items_in_order x)) → a ≡ b
found_once None a b x y = x ∙ sym y
found_once (Some v) a b x y = listed_once (as_array v) a b x y

pub markings_once : (place : ℕ) (ds : List Data) (a b : List MarkingBreak) → markings.AreMarkingBreaksFrom place ds a → markings.AreMarkingBreaksFrom place ds b → a ≡ b
markings_once place [] a b x y = x ∙ sym y
markings_once place (d ∷ ds) a b x y =
    let ms = found_once (get (codes "granular_markings") d) x.0 y.0 x.3 y.3 in
    let own = own_once place d 0 y.0 x.1 y.1 (subst (λ (l : List Data). markings.AreBreaksOfMarkings place d 0 l x.1) ms x.4) y.4 in
    let rest = markings_once (place + 1) ds x.2 y.2 x.5 y.5 in
    x.6 ∙ ap (λ (l : List MarkingBreak). l ++ x.2) own ∙ ap (λ (l : List MarkingBreak). y.1 ++ l) rest ∙ sym y.6
