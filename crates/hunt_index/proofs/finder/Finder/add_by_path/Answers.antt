use Rattle.std.proofs.Common.{◌≡◌, ◌∙◌, List, [], ◌∷◌, Some, None, length, slice_get, refl, sym, ap, subst}
use Rattle.std.specs.Prelude.{Contains}
use Rattle.std.proofs.lemmas.Option.{same_Some, none-some, slice_get_read}
use Rattle.std.proofs.lemmas.List.Elements.{Contains-append_left, Contains-push}
use Rattle.stix_json.specs.DataOf.{data_of}
use Rattle.stix_bundles.specs.Objects.{data_in}
use Rattle.hunt_index.specs.declared.index_key.IndexKey.{IndexKey}
use Rattle.hunt_index.specs.declared.key.Key.{Key}
use Rattle.hunt_index.specs.declared.key.Key.TheVariants.{Any}
use Rattle.hunt_index.specs.declared.paths.Lookup.{Lookup}
use Rattle.hunt_index.specs.inner.Indexed.{IsSeenFrom}
use Rattle.hunt_index.proofs.LookupLemmas.{asks_value, keeps_more, keeps_through, only_more, only_through, seen_value}
use Rattle.hunt_index.proofs.finder.Finder.add_by_path.Goals as goal

pub returns-in_ok-push-2-clause-asks : goal.returns-in_ok-push-2-clause-asks
returns-in_ok-push-2-clause-asks c =
    let paths = c.args.self.now.paths.items in
    let number = c.args.path in
    let index_key = c.in-Some.index_key.now in
    let key = c.in-Some-key_in.key in
    let there : Some index_key ≡ slice_get paths number =
    sym (slice_get_read c.deref.result.now (length c.deref.result.now) number index_key refl c.in-Some.ensures.lookup.3.0 c.in-Some.ensures.lookup.1)
    ∙ ap (λ (l : List IndexKey). slice_get l number) c.deref.ensures.value in
    let any : Lookup = record { path = number; key = Any } in
    let own : Lookup = record { path = number; key = key } in
    let first = subst (λ (l : List Lookup). Contains l any) (sym c.in_ok-push.ensures.items) (Contains-push c.args.lookups.now.items any) in
    let has_any = subst (λ (l : List Lookup). Contains l any) (sym c.in_ok-push-2.ensures.items) (Contains-append_left c.push.new.self.items (own ∷ []) any first) in
    let has_own = subst (λ (l : List Lookup). Contains l own) (sym c.in_ok-push-2.ensures.items) (Contains-push c.push.new.self.items own) in
    asks_value paths (data_in c.args.bundle.now) (data_of c.args.object.now) number index_key there c.push-in-Some-key_in.new.self.items (data_of c.in-Some-value_at_path.value.now) (Some key)
    c.in-Some-value_at_path.ensures.all c.in-Some-key_in.ensures.asked has_any
    (λ other is. subst (λ (k : Key). Contains c.push-in-Some-key_in.new.self.items (record { path = number; key = k })) (same_Some key other is) has_own)

pub returns-in_default-key_in-clause-asks : goal.returns-in_default-key_in-clause-asks
returns-in_default-key_in-clause-asks c =
    let paths = c.args.self.now.paths.items in
    let number = c.args.path in
    let index_key = c.in-Some.index_key.now in
    let there : Some index_key ≡ slice_get paths number =
    sym (slice_get_read c.deref.result.now (length c.deref.result.now) number index_key refl c.in-Some.ensures.lookup.3.0 c.in-Some.ensures.lookup.1)
    ∙ ap (λ (l : List IndexKey). slice_get l number) c.deref.ensures.value in
    let any : Lookup = record { path = number; key = Any } in
    let has_any = subst (λ (l : List Lookup). Contains l any) (sym c.in_ok-push.ensures.items) (Contains-push c.args.lookups.now.items any) in
    asks_value paths (data_in c.args.bundle.now) (data_of c.args.object.now) number index_key there c.push.new.self.items (data_of c.in-Some-value_at_path.value.now) None
    c.in-Some-value_at_path.ensures.all c.in_default-key_in.ensures.asked has_any (λ other is. absurd (none-some other is))

pub returns-in_ok-push-2-clause-only : goal.returns-in_ok-push-2-clause-only
returns-in_ok-push-2-clause-only c =
    let paths = c.args.self.now.paths.items in
    let objects = data_in c.args.bundle.now in
    let from = data_of c.args.object.now in
    let number = c.args.path in
    let index_key = c.in-Some.index_key.now in
    let key = c.in-Some-key_in.key in
    let value = data_of c.in-Some-value_at_path.value.now in
    let there : Some index_key ≡ slice_get paths number =
    sym (slice_get_read c.deref.result.now (length c.deref.result.now) number index_key refl c.in-Some.ensures.lookup.3.0 c.in-Some.ensures.lookup.1)
    ∙ ap (λ (l : List IndexKey). slice_get l number) c.deref.ensures.value in
    let Own = λ (lookup : Lookup). (lookup.path ≡ number) × IsSeenFrom paths objects from lookup in
    let reached = c.in-Some-value_at_path.ensures.reached in
    only_through Own c.args.lookups.now.items c.push.new.self.items c.push-in-Some-key_in.new.self.items
    (only_more Own c.args.lookups.now.items c.push.new.self.items (record { path = number; key = Any }) c.in_ok-push.ensures.items
    (seen_value paths objects from number index_key Any value there reached tt))
    (only_more Own c.push.new.self.items c.push-in-Some-key_in.new.self.items (record { path = number; key = key }) c.in_ok-push-2.ensures.items
    (seen_value paths objects from number index_key key value there reached c.in-Some-key_in.ensures.fits))

pub returns-in_default-key_in-clause-only : goal.returns-in_default-key_in-clause-only
returns-in_default-key_in-clause-only c =
    let paths = c.args.self.now.paths.items in
    let objects = data_in c.args.bundle.now in
    let from = data_of c.args.object.now in
    let number = c.args.path in
    let index_key = c.in-Some.index_key.now in
    let there : Some index_key ≡ slice_get paths number =
    sym (slice_get_read c.deref.result.now (length c.deref.result.now) number index_key refl c.in-Some.ensures.lookup.3.0 c.in-Some.ensures.lookup.1)
    ∙ ap (λ (l : List IndexKey). slice_get l number) c.deref.ensures.value in
    let Own = λ (lookup : Lookup). (lookup.path ≡ number) × IsSeenFrom paths objects from lookup in
    only_more Own c.args.lookups.now.items c.push.new.self.items (record { path = number; key = Any }) c.in_ok-push.ensures.items
    (seen_value paths objects from number index_key Any (data_of c.in-Some-value_at_path.value.now) there c.in-Some-value_at_path.ensures.reached tt)

pub returns-in_ok-push-2-clause-keeps : goal.returns-in_ok-push-2-clause-keeps
returns-in_ok-push-2-clause-keeps c =
    let old = c.args.lookups.now.items in
    let mid = c.push.new.self.items in
    let new = c.push-in-Some-key_in.new.self.items in
    let any : Lookup = record { path = c.args.path; key = Any } in
    let own : Lookup = record { path = c.args.path; key = c.in-Some-key_in.key } in
    keeps_through old mid new (keeps_more old mid (any ∷ []) c.in_ok-push.ensures.items) (keeps_more mid new (own ∷ []) c.in_ok-push-2.ensures.items)

pub returns-in_default-key_in-clause-keeps : goal.returns-in_default-key_in-clause-keeps
returns-in_default-key_in-clause-keeps c =
    let any : Lookup = record { path = c.args.path; key = Any } in
    keeps_more c.args.lookups.now.items c.push.new.self.items (any ∷ []) c.in_ok-push.ensures.items
