use Rattle.std.proofs.Common.{◌≡◌, ◌∙◌, ℕ, pos, List, [], ◌∷◌, ◌++◌, ap, subst}
use Rattle.std.specs.Prelude.{codes}
use Rattle.serde_json.specs.Data.{number, object}
use Rattle.serde_json.specs.Find.{of_integer}
use Rattle.stix_ids.specs.Identifier.{IsCanonicalIdText}
use Rattle.stix_json.specs.DataOf.{Member, members_of}
use Rattle.hunt_report.specs.Sightings.{text_member, sighting_data}
use Rattle.hunt_report.proofs.object.object_of.Goals as goal

-- one member more
step : (old new members : List Member) (member : Member) → new ≡ old ++ member ∷ [] → old ≡ members → new ≡ members ++ member ∷ []
step old new members member is same = is ∙ ap (λ (l : List Member). l ++ member ∷ []) same

pub returns : goal.returns
returns c =
    let created = c.in_ok-add_version.ensures in
    let first = c.in_ok-add_time.ensures in
    let id = c.in_ok-add_id.ensures in
    let last = c.in_ok-add_time-2.ensures in
    let modified = c.in_ok-add_version-2.ensures in
    let of = c.in_ok-add_id-2.ensures in
    let count : Member = record { name = codes "count"; value = number (of_integer (pos c.count_of.result)) } in
    let m1 = step _ _ [] count c.in_ok-add_count.ensures c.new-fields.ensures in
    let m2 = step _ _ _ (text_member (codes "created") created.text) created.is m1 in
    let m3 = step _ _ _ (text_member (codes "first_seen") first.text) first.is m2 in
    let m4 = step _ _ _ (text_member (codes "id") id.text) id.is m3 in
    let m5 = step _ _ _ (text_member (codes "last_seen") last.text) last.is m4 in
    let m6 = step _ _ _ (text_member (codes "modified") modified.text) modified.is m5 in
    let m7 = step _ _ _ (text_member (codes "sighting_of_ref") of.text) of.is m6 in
    let m8 = step _ _ _ (text_member (codes "spec_version") (codes "2.1")) c.in_ok-add_word.ensures m7 in
    let m9 = step _ _ _ (text_member (codes "type") (codes "sighting")) c.in_ok-add_word-2.ensures m8 in
    let whole = c.into_object.ensures ∙ ap (λ (ms : List Member). object (members_of ms)) m9 in
    record {
      created = created.text;
      created_is = created.fact;
      instant = c.modified_at-modified.result;
      modified_at = c.modified_at-modified.ensures.modified;
      modified = modified.text;
      modified_is = modified.fact;
      first = first.text;
      first_is = first.fact;
      last = last.text;
      last_is = last.fact;
      id = id.text;
      id_is = subst (λ (kind : List ℕ). IsCanonicalIdText id.text (record { kind = kind; number = c.args.seen.now.indicator.now.number })) c.in_ok-kind.ensures id.fact;
      of = of.text;
      of_is = of.fact;
      is = whole ∙ ap (λ (n : ℕ). sighting_data n created.text first.text id.text last.text modified.text of.text) c.count_of.ensures;
    }
