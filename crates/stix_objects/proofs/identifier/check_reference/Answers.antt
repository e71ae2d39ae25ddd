use Rattle.std.proofs.Common.{◌≡◌, ℕ, List, map, Some, None, Bor, bytes_eq, true, false, refl, sym, ◌∙◌}
use Rattle.serde_json.specs.Find.{as_str}
use Rattle.stix_ids.specs.PartsOf.{id_of}
use Rattle.stix_json.specs.DataOf.{data_of}
use Rattle.stix_objects.specs.declared.rule.Rule.TheVariants.{BadId, BadReference}
use Rattle.stix_objects.specs.Types.{is_among}
use Rattle.stix_objects.specs.Singles.{ChecksReference}
use Rattle.stix_objects.proofs.ListLemmas.{any_map}
use Rattle.stix_objects.proofs.CheckingLemmas.{of_kind}
use Rattle.stix_objects.proofs.IdentifierLemmas.{names_none, refers_not}
use Rattle.stix_objects.proofs.identifier.check_reference.Goals as goal

abbrev any_text : List (Bor (List ℕ)) → List (List ℕ)
any_text kinds = map (λ kind. kind.now) kinds

pub returns-in_default-identifier_of : goal.returns-in_default-identifier_of
returns-in_default-identifier_of c =
    of_kind (as_str (data_of c.args.value.now)) c.in-Some.text.now (ChecksReference (any_text c.args.kinds.now)) (Some BadId) c.in-Some.ensures
    (Some BadId, (names_none c.in-Some.text.now c.in_default-identifier_of.ensures.only, refl), refl)

pub returns-then-contains : goal.returns-then-contains
returns-then-contains c =
    let id = id_of c.in-Some-identifier_of.parts in
    let among : is_among id.kind (any_text c.args.kinds.now) ≡ true =
    sym (any_map (λ known. bytes_eq known id.kind) (λ (kind : Bor (List ℕ)). kind.now) c.args.kinds.now) ∙ sym c.contains.ensures.value ∙ c.if-contains.true in
    of_kind (as_str (data_of c.args.value.now)) c.in-Some.text.now (ChecksReference (any_text c.args.kinds.now)) None c.in-Some.ensures
    (None, (id, c.in-Some-identifier_of.ensures.some), (id, c.in-Some-identifier_of.ensures.some, among))

pub returns-else-contains : goal.returns-else-contains
returns-else-contains c =
    let id = id_of c.in-Some-identifier_of.parts in
    let out : is_among id.kind (any_text c.args.kinds.now) ≡ false =
    sym (any_map (λ known. bytes_eq known id.kind) (λ (kind : Bor (List ℕ)). kind.now) c.args.kinds.now) ∙ sym c.contains.ensures.value ∙ c.if-contains.false in
    of_kind (as_str (data_of c.args.value.now)) c.in-Some.text.now (ChecksReference (any_text c.args.kinds.now)) (Some BadReference) c.in-Some.ensures
    (None, (id, c.in-Some-identifier_of.ensures.some), (refers_not c.in-Some.text.now id (any_text c.args.kinds.now) c.in-Some-identifier_of.ensures.only out, refl))
