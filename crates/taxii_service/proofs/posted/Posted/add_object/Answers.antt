use Rattle.std.proofs.Common.{◌≡◌, Option, None, IfSome, refl, subst}
use Rattle.stix_json.specs.DataOf.{data_of}
use Rattle.stix_json.specs.Refusal.{data_refusal}
use Rattle.taxii_rows.specs.declared.described.Described.{Described}
use Rattle.taxii_rows.specs.Described.{Describes}
use Rattle.taxii_store.specs.Planned.{IsSound}
use Rattle.taxii_service.proofs.NamedLemmas.{named_has_id}
use Rattle.taxii_service.proofs.posted.Posted.add_object.Goals as goal

pub unreachable-requires : goal.unreachable-requires
unreachable-requires c =
    let d = data_of c.args.object.now in
    let has = named_has_id d (c.no_breaks.ensures.named d c.requires.unbroken) in
    let none = subst (Describes d) c.in_default.is c.in_ok-described.ensures.described in
    none has.0 has.1

pub returns : goal.returns
returns c =
    let d = data_of c.args.object.now in
    let described = subst (Describes d) c.in-Some.is c.in_ok-described.ensures.described in
    let sound = subst (λ (found : Option Described). IfSome found (λ one. data_refusal d ≡ None → IsSound one)) c.in-Some.is c.in_ok-described.ensures.sound in
    record {
      object = c.in-Some.described;
      kept = (c.requires.unbroken, described);
      sound = sound c.requires.taken.0;
      objects = c.in_ok-push.ensures.items;
      failures = refl;
      count = refl;
    }
