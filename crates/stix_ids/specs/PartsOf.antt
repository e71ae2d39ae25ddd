-- The identifier of an `IdRef`.
use Rattle.stix_ids.specs.declared.id.Id.{Id}
use Rattle.stix_ids.specs.declared.parts.IdRef.{IdRef}

-- the owned identifier with these parts
abbrev pub id_of : IdRef → Id
id_of parts = record { kind = parts.kind.now; number = parts.number }
