use Rattle.stix_ids.specs.PartsOf.{id_of}
use Rattle.stix_json.specs.DataOf.{data_of}
use Rattle.taxii_rows.specs.declared.described.Described.{Described}
use Rattle.taxii_rows.proofs.SoundLemmas.{named_as, described_is_sound}
use Rattle.taxii_rows.proofs.described.describe.Goals as goal

pub returns-in_err-kind-clause-unnamed : goal.returns-in_err-kind-clause-unnamed
returns-in_err-kind-clause-unnamed c = λ unnamed. absurd (unnamed (id_of c.in-Some.parts) c.in-Some.ensures)

pub returns-in_err-body-clause-unnamed : goal.returns-in_err-body-clause-unnamed
returns-in_err-body-clause-unnamed c = λ unnamed. absurd (unnamed (id_of c.in-Some.parts) c.in-Some.ensures)

pub returns-clause-unnamed : goal.returns-clause-unnamed
returns-clause-unnamed c = λ unnamed. absurd (unnamed (id_of c.in-Some.parts) c.in-Some.ensures)

pub returns-clause-sound : goal.returns-clause-sound
returns-clause-sound c = λ good date collection.
    let object = data_of c.args.object.now in
    let id = id_of c.in-Some.parts in
    let kept : Described = record { id = record { kind = c.in_ok-kind.kind; number = id.number }; version = c.version_of.result; body = c.in_ok-body.body } in
    described_is_sound c.args.object.now kept date collection
    (record {
      id = named_as object id c.in_ok-kind.kind c.in_ok-kind.ensures c.in-Some.ensures;
      version = c.version_of.ensures;
      body = c.in_ok-body.ensures.text;
    })
    (c.in_ok-body.ensures.reads_back good)
