-- For private clauses: adding properties.
use Rattle.std.specs.Prelude.{◌≡◌, ℕ, List, [], ◌∷◌, ◌++◌}
use Rattle.stix_json.specs.DataOf.{Member}
use Rattle.hunt_report.specs.Sightings.{text_member}

-- a text that satisfies Fact was added
pub record AddsText (Fact : List ℕ → Type 0) (name : List ℕ) (old new : List Member) : Type 0 where
  pub text : List ℕ
  pub fact : Fact text
  pub is : new ≡ old ++ text_member name text ∷ []
