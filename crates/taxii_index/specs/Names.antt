-- Names of objects and of their texts: 64 bits of SipHash-1-3, which first reads a secret that
-- clients who send objects do not know. Each row found under a name is compared with the object
-- itself, so nothing depends on distinct names.
use Rattle.std.specs.Prelude.{ℕ, List, [], ◌∷◌}
use Rattle.std.specs.Int.{w128, to_le_bytes}
use Rattle.std.specs.Hash.DefaultHasher as sip
use Rattle.std.specs.declared.hash.DefaultHasher.{DefaultHasher}
use Rattle.stix_ids.specs.declared.id.Id.{Id}

-- the identifier of a number and a kind
abbrev pub id_of_number : ℕ → List ℕ → Id
id_of_number number kind = record { kind = kind; number = number }

-- a hasher that has read the secret and an object's identity: the collection, the UUID and the type
unfoldable pub fed_with : ℕ → ℕ → Id → DefaultHasher
fed_with secret collection id = sip.write (sip.write (sip.write (sip.write sip.initial (to_le_bytes w128 secret)) (to_le_bytes w128 collection)) (to_le_bytes w128 id.number)) id.kind

-- the name of an object of a collection
unfoldable pub name_of : ℕ → ℕ → Id → ℕ
name_of secret collection id = sip.finish (fed_with secret collection id)

-- the name of a text of it; no kind has a zero byte
unfoldable pub text_name_of : ℕ → ℕ → Id → List ℕ → ℕ
text_name_of secret collection id body = sip.finish (sip.write (sip.write (fed_with secret collection id) (0 ∷ [])) body)
