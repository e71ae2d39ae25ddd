-- The members that some fields are, from those of each step.
use Rattle.std.proofs.Common.{◌≡◌, ℕ, List, [], ◌∷◌, ◌++◌, refl, sym, ap, subst, ◌∙◌}
use Rattle.serde_json.specs.Data.{Data, member, no_members}
use Rattle.stix_json.specs.DataOf.{Member, members_of}
use Rattle.stix_json.specs.Ordered.{MembersAreOrdered}
use Rattle.taxii_bodies.specs.Page.{list_before}
use Rattle.taxii_bodies.specs.inner.Members.{list_member}

-- one member, added to none
pub one_ordered : (none one : List Member) (m : Member) → none ≡ [] → one ≡ none ++ m ∷ [] → MembersAreOrdered (members_of (m ∷ []))
    → MembersAreOrdered (members_of one)
one_ordered none one m empty is ordered = subst (λ (ms : List Member). MembersAreOrdered (members_of ms)) (sym (is ∙ ap (λ ms. ms ++ m ∷ []) empty)) ordered

before_list : (m : Member) (name : List ℕ) (values : List Data) → members_of (m ∷ list_member name values) ≡ member m.name m.value (list_before name values no_members)
before_list m name [] = refl
before_list m name (value ∷ values) = refl

-- one member, and a list after it where that isn't empty
pub with_list : (none one two : List Member) (m : Member) (name : List ℕ) (values : List Data) → none ≡ [] → one ≡ none ++ m ∷ [] → two ≡ one ++ list_member name values
    → members_of two ≡ member m.name m.value (list_before name values no_members)
with_list none one two m name values empty first second =
    ap members_of (second ∙ ap (λ ms. ms ++ list_member name values) (first ∙ ap (λ ms. ms ++ m ∷ []) empty)) ∙ before_list m name values
