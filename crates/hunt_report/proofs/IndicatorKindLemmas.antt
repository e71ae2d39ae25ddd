-- The kind of an indicator's identifier.
use Rattle.std.proofs.Common.{List, arith, rules, inl, [], ◌∷◌, sym, subst}
use Rattle.std.specs.Prelude.{All, codes, slice_index_or}
use Rattle.std.specs.Char.{IsAsciiLowercase}
use Rattle.std.proofs.lemmas.List.Elements.{All-nil, All-cons, All-weaker, All-get_or}
use Rattle.stix_ids.specs.Kind.{IsKindByte, IsKind}
use Rattle.hunt_feed.specs.declared.hunted.Hunted.{Hunted}
use Rattle.hunt_report.specs.Hunting.{IsHuntable}

letters : All IsAsciiLowercase (codes "indicator")
letters = All-cons IsAsciiLowercase 105 (110 ∷ 100 ∷ 105 ∷ 99 ∷ 97 ∷ 116 ∷ 111 ∷ 114 ∷ []) (search rules)
    (All-cons IsAsciiLowercase 110 (100 ∷ 105 ∷ 99 ∷ 97 ∷ 116 ∷ 111 ∷ 114 ∷ []) (search rules)
    (All-cons IsAsciiLowercase 100 (105 ∷ 99 ∷ 97 ∷ 116 ∷ 111 ∷ 114 ∷ []) (search rules)
    (All-cons IsAsciiLowercase 105 (99 ∷ 97 ∷ 116 ∷ 111 ∷ 114 ∷ []) (search rules)
    (All-cons IsAsciiLowercase 99 (97 ∷ 116 ∷ 111 ∷ 114 ∷ []) (search rules)
    (All-cons IsAsciiLowercase 97 (116 ∷ 111 ∷ 114 ∷ []) (search rules)
    (All-cons IsAsciiLowercase 116 (111 ∷ 114 ∷ []) (search rules)
    (All-cons IsAsciiLowercase 111 (114 ∷ []) (search rules)
    (All-cons IsAsciiLowercase 114 [] (search rules)
    (All-nil IsAsciiLowercase)))))))))

pub indicator_kind : IsKind (codes "indicator")
indicator_kind = record {
  long = search rules;
  bytes = All-weaker IsAsciiLowercase IsKindByte (λ byte low. inl low) (codes "indicator") letters;
  hyphens = λ at below is.
      let low = All-get_or IsAsciiLowercase (codes "indicator") at 0 (omega (arith, below)) letters in
      absurd (omega (arith, low.0, low.1, is));
}

pub kind_of : (indicator : Hunted) → IsHuntable indicator → IsKind indicator.id.kind
kind_of indicator is = subst IsKind (sym is.kind) indicator_kind

pub kinds : (hunted : List Hunted) → All IsHuntable hunted → All (λ h. IsKind h.id.kind) hunted
kinds hunted all = λ k x inside. kind_of (slice_index_or hunted k x) (all k x inside)
