-- The first observed-data that holds its objects itself, by a walk over the places.
use Rattle.std.proofs.Common.{arith, ◌≡◌, inl, inr, ◌+◌, ◌<◌, ◌≤◌, ℕ, List, length, Some, slice_get, sym, ap, subst, ◌∙◌}
use Rattle.std.proofs.lemmas.Bool.{cases_lt}
use Rattle.std.proofs.lemmas.Option.{slice_get_within}
use Rattle.serde_json.specs.Data.{Data}
use Rattle.stix_bundles.specs.Observations.{Embeds, EmbedsAt, IsFirstEmbedding, NoneEmbeds}
use Rattle.stix_bundles.proofs.ObjectsLemmas.{same_some}

pub first_embedding_at : (ds : List Data) (at : ℕ) (d : Data) → slice_get ds at ≡ Some d → Embeds d → ((n : ℕ) → n < at → ¬ EmbedsAt ds n) → IsFirstEmbedding ds at
first_embedding_at ds at d there embeds before = record { embeds = record { object = d; there = there; embeds = embeds }; before = before }

pub none_embeds_more : (ds : List Data) (at : ℕ) (d : Data) → slice_get ds at ≡ Some d → ¬ Embeds d → ((n : ℕ) → n < at → ¬ EmbedsAt ds n)
    → (n : ℕ) → n < at + 1 → ¬ EmbedsAt ds n
none_embeds_more ds at d there not before n less is =
    elim (cases_lt n at) [
      | inl earlier ↦ before n earlier is
      | inr not_earlier ↦
          let here : n ≡ at = omega arith in
          not (subst Embeds (same_some is.object d (sym is.there ∙ ap (slice_get ds) here ∙ there)) is.embeds)
    ]

pub none_embeds_all : (ds : List Data) (at : ℕ) → length ds ≤ at → ((n : ℕ) → n < at → ¬ EmbedsAt ds n) → NoneEmbeds ds
none_embeds_all ds at past before = λ n is.
    let inside = slice_get_within ds n is.object is.there in
    before n (omega arith) is
