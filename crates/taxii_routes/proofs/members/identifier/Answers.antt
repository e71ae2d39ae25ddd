use Rattle.std.proofs.Common.{◌≡◌, ◌≢◌, ◌⊎◌, inl, inr, ℕ, List, Result, Ok, Err, sym, ◌∙◌}
use Rattle.stix_ids.specs.declared.id.Id.{Id}
use Rattle.stix_ids.specs.declared.refusal.IdRefusal.{IdRefusal}
use Rattle.stix_ids.specs.declared.refusal.IdRefusal.TheVariants.{BadUuid, BadKind, NoMemory}
use Rattle.stix_ids.specs.Identifier.{IsTextOfId}
use Rattle.taxii_routes.proofs.members.identifier.Goals as goal

-- a text that was refused for what it is, is no identifier's
no_identifier : (text : List ℕ) (e bad : IdRefusal) → e ≡ bad → bad ≢ NoMemory
    → ((id : Id) → IsTextOfId text id → (◌≡◌ {A = Result Id IdRefusal} (Err e) (Ok id)) ⊎ (◌≡◌ {A = Result Id IdRefusal} (Err e) (Err NoMemory))) → (id : Id) → ¬ IsTextOfId text id
no_identifier text e bad same other named id is = go (named id is)
  where
    go : (◌≡◌ {A = Result Id IdRefusal} (Err e) (Ok id)) ⊎ (◌≡◌ {A = Result Id IdRefusal} (Err e) (Err NoMemory)) → ⊥
    go (inl read) = cc
    go (inr none) = other (let none_is : e ≡ NoMemory = cc in sym same ∙ none_is)

uuid_is : BadUuid ≢ NoMemory
uuid_is e = cc

kind_is : (at : ℕ) → BadKind at ≢ NoMemory
kind_is at e = cc

pub returns-in-Err-BadUuid : goal.returns-in-Err-BadUuid
returns-in-Err-BadUuid c = no_identifier c.args.member.now c.in-Err-BadUuid.field-0 BadUuid c.in-Err-BadUuid.field-0-is uuid_is c.in-Err-BadUuid.ensures.named

pub returns-in-Err-BadKind : goal.returns-in-Err-BadKind
returns-in-Err-BadKind c =
    no_identifier c.args.member.now c.in-Err-BadKind.field-0 (BadKind c.in-Err-BadKind.field-0-0) c.in-Err-BadKind.field-0-is (kind_is c.in-Err-BadKind.field-0-0) c.in-Err-BadKind.ensures.named
