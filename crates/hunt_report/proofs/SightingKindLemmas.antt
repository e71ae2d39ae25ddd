-- The kind of a sighting.
use Rattle.std.proofs.Common.{arith, rules, inl, [], ◌∷◌}
use Rattle.std.specs.Prelude.{All, codes}
use Rattle.std.specs.Char.{IsAsciiLowercase}
use Rattle.std.proofs.lemmas.List.Elements.{All-nil, All-cons, All-weaker, All-get_or}
use Rattle.stix_ids.specs.Kind.{IsKindByte, IsKind}

letters : All IsAsciiLowercase (codes "sighting")
letters = All-cons IsAsciiLowercase 115 (105 ∷ 103 ∷ 104 ∷ 116 ∷ 105 ∷ 110 ∷ 103 ∷ []) (search rules) (All-cons IsAsciiLowercase 105 (103 ∷ 104 ∷ 116 ∷ 105 ∷ 110 ∷ 103 ∷ []) (search rules) (All-cons IsAsciiLowercase 103 (104 ∷ 116 ∷ 105 ∷ 110 ∷ 103 ∷ []) (search rules) (All-cons IsAsciiLowercase 104 (116 ∷ 105 ∷ 110 ∷ 103 ∷ []) (search rules) (All-cons IsAsciiLowercase 116 (105 ∷ 110 ∷ 103 ∷ []) (search rules) (All-cons IsAsciiLowercase 105 (110 ∷ 103 ∷ []) (search rules) (All-cons IsAsciiLowercase 110 (103 ∷ []) (search rules) (All-cons IsAsciiLowercase 103 ([]) (search rules) (All-nil IsAsciiLowercase))))))))

pub sighting_kind : IsKind (codes "sighting")
sighting_kind = record {
  long = search rules;
  bytes = All-weaker IsAsciiLowercase IsKindByte (λ byte low. inl low) (codes "sighting") letters;
  hyphens = λ at below is.
      let low = All-get_or IsAsciiLowercase (codes "sighting") at 0 (omega (arith, below)) letters in
      absurd (omega (arith, low.0, low.1, is));
}
