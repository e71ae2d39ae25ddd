-- What a query asks of a row: a set answers for the list that it was made of.
use Rattle.std.proofs.Common.{◌≡◌, ℕ, List, Bool, Option, Some, None, IsTrue, ◌↔◌, subst}
use Rattle.std.specs.List.{Contains}
use Rattle.std.specs.Option.{IfSome}
use Rattle.stix_ids.specs.declared.id.Id.{Id}
use Rattle.taxii_store.specs.declared.text_set.TextSet.{TextSet}
use Rattle.taxii_store.specs.declared.id_set.IdSet.{IdSet}
use Rattle.taxii_store.specs.inner.Sets.{HasIds}
use Rattle.taxii_store.specs.inner.Asking.{IsSetOf, HasTextsWhere, HasIdsWhere}

pub kind_asked : (texts : Option (List (List ℕ))) (kinds : Option TextSet) (set : TextSet) (kind : List ℕ) (found : Bool) → kinds ≡ Some set
    → ((texts : List (List ℕ)) → IsSetOf texts set → IsTrue found ↔ Contains texts kind) → HasTextsWhere texts kinds → IsTrue found ↔ IfSome texts (λ texts. Contains texts kind)
kind_asked None kinds set kind found is tells asked = absurd (subst (HasTextsWhere None) is asked)
kind_asked (Some texts) kinds set kind found is tells asked = tells texts (subst (HasTextsWhere (Some texts)) is asked)

-- a set that is asked stays that of its texts
pub kinds_kept : (texts : Option (List (List ℕ))) (kinds : Option TextSet) (set after : TextSet) → kinds ≡ Some set
    → ((texts : List (List ℕ)) → IsSetOf texts set → IsSetOf texts after) → HasTextsWhere texts kinds → HasTextsWhere texts (Some after)
kinds_kept None kinds set after is keeps asked = absurd (subst (HasTextsWhere None) is asked)
kinds_kept (Some texts) kinds set after is keeps asked = keeps texts (subst (HasTextsWhere (Some texts)) is asked)

pub id_asked : (named : Option (List Id)) (ids : Option IdSet) (set : IdSet) (id : Id) (found : Bool) → ids ≡ Some set
    → ((named : List Id) → HasIds named set.ids.items → IsTrue found ↔ Contains named id) → HasIdsWhere named ids → IsTrue found ↔ IfSome named (λ named. Contains named id)
id_asked None ids set id found is tells asked = absurd (subst (HasIdsWhere None) is asked)
id_asked (Some named) ids set id found is tells asked = tells named (subst (HasIdsWhere (Some named)) is asked)
