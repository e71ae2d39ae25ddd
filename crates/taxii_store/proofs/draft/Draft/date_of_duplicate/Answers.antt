use Rattle.std.proofs.Common.{◌∙◌, ap, subst, option_map}
use Rattle.taxii_rows.specs.declared.stored_row.StoredRow.{StoredRow}
use Rattle.taxii_rows.specs.SoundRow.{IsSoundState}
use Rattle.taxii_rows.specs.StoreState.{StoreState}
use Rattle.taxii_index.specs.Presence.{duplicate_of}
use Rattle.taxii_store.proofs.DraftLemmas.{date_held, date_added, date_known}
use Rattle.taxii_store.proofs.draft.Draft.date_of_duplicate.Goals as goal

pub returns-in-Some-clause-date : goal.returns-in-Some-clause-date
returns-in-Some-clause-date c =
    let found = c.date_held-held.ensures ∙ ap (λ (state : StoreState). option_map (λ (row : StoredRow). row.date) (duplicate_of c.args.collection c.args.object.now state.rows)) c.library.view_is in
    date_held c.args.collection c.args.object.now c.args.library.now.rows c.args.self.now.added c.date_held-held.result _ found c.in-Some.is

pub returns-in-Some-clause-known : goal.returns-in-Some-clause-known
returns-in-Some-clause-known c =
    let sound = subst IsSoundState c.library.view_is c.library.invariant in
    let found = c.date_held-held.ensures ∙ ap (λ (state : StoreState). option_map (λ (row : StoredRow). row.date) (duplicate_of c.args.collection c.args.object.now state.rows)) c.library.view_is in
    date_known c.args.library.now c.args.collection c.args.object.now c.args.self.now.outcomes c.args.self.now.added c.date_held-held.result
    sound.marked sound.last c.requires
    (date_held c.args.collection c.args.object.now c.args.library.now.rows c.args.self.now.added c.date_held-held.result _ found c.in-Some.is)

pub returns-in-None-clause-date : goal.returns-in-None-clause-date
returns-in-None-clause-date c =
    let found = c.date_held-held.ensures ∙ ap (λ (state : StoreState). option_map (λ (row : StoredRow). row.date) (duplicate_of c.args.collection c.args.object.now state.rows)) c.library.view_is in
    date_added c.args.collection c.args.object.now c.args.library.now.rows c.args.self.now.added c.date_held-held.result c.date_added.result found c.date_added.ensures c.in-None.is

pub returns-in-None-clause-known : goal.returns-in-None-clause-known
returns-in-None-clause-known c =
    let sound = subst IsSoundState c.library.view_is c.library.invariant in
    let found = c.date_held-held.ensures ∙ ap (λ (state : StoreState). option_map (λ (row : StoredRow). row.date) (duplicate_of c.args.collection c.args.object.now state.rows)) c.library.view_is in
    date_known c.args.library.now c.args.collection c.args.object.now c.args.self.now.outcomes c.args.self.now.added c.date_added.result
    sound.marked sound.last c.requires
    (date_added c.args.collection c.args.object.now c.args.library.now.rows c.args.self.now.added c.date_held-held.result c.date_added.result found c.date_added.ensures c.in-None.is)
