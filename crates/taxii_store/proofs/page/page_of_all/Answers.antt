use Rattle.std.proofs.Common.{ℕ, List, [], ◌∷◌, ◌++◌, map, Bor, Vec, IsTrue, option_map, sym, ap, subst, ◌∙◌}
use Rattle.std.proofs.lemmas.List.{length-map, map-append, take_all}
use Rattle.std.specs.declared.alloc.Global.{Global}
use Rattle.stix_ids.specs.declared.id.Id.{Id}
use Rattle.taxii_rows.specs.declared.stored_row.StoredRow.{StoredRow}
use Rattle.taxii_store.specs.Page.{FitsPage}
use Rattle.taxii_store.proofs.FitLemmas.{none_fit, IsCountOf, none_counted, one_counted, fits_more, room_found}
use Rattle.taxii_store.proofs.PageLemmas.{meeting, meeting_none, meeting_more, meeting_same, page_whole, page_full, chosen_own}
use Rattle.taxii_store.proofs.ChosenLemmas.{chosen_behind, candidate_can}
use Rattle.taxii_store.proofs.page.page_of_all.Goals.{then-meets+else-not-has_room+in_ok-push, else-meets}
use Rattle.taxii_store.proofs.page.page_of_all.Goals as goal

pub loop-row-init : goal.loop-row-init
loop-row-init c =
    let query = c.args.query.now in
    let none = ap (map (λ (row : Bor StoredRow). row.now)) c.new-rows.ensures.items in (
      none ∙ meeting_none c.args.library.now.rows c.args.collection (option_map (λ (id : Bor Id). id.now) c.args.only) query,
      subst (FitsPage query) (sym none) (none_fit query),
      c.in_ok-asked.ensures,
      subst (IsCountOf 0) (sym none) none_counted,
    )

pub meets-requires : goal.meets-requires
meets-requires c = record {
  there = chosen_own c.args.library.now.rows c.args.collection (option_map (λ (id : Bor Id). id.now) c.args.only) c.args.query.now c.candidates-later.result.now c.loop-row.row-index c.row-item.result
      (chosen_behind c.args.library.now.rows c.args.collection (option_map (λ (id : Bor Id). id.now) c.args.only) c.args.query.now c.candidates-later.result.now c.candidates-later.ensures.ascend c.candidates-later.ensures.candidates) c.loop-row-test.true c.row-item.is;
}

pub returns-then-not-has_room : goal.returns-then-not-has_room
returns-then-not-has_room c =
    let rows = c.args.library.now.rows in
    let only = option_map (λ (id : Bor Id). id.now) c.args.only in
    let query = c.args.query.now in
    let later = c.candidates-later.result.now in
    let row = c.row-item.result in
    let now = λ (row : Bor StoredRow). row.now in
    let page = map now c.loop-row.rows.items in
    let taken = c.bytes_with-taken.result in
    let many = c.len.ensures ∙ c.loop-row.rows.ok.0 ∙ sym (length-map c.loop-row.rows.items now) in
    let counted = one_counted page row c.loop-row.bytes taken c.loop-row.invariant.3 c.bytes_with-taken.ensures in
    let meets = (c.meets.ensures.meets c.args.collection only query c.loop-row.invariant.2 (candidate_can query rows later c.loop-row.row-index row c.candidates-later.ensures.candidates c.loop-row-test.true c.row-item.is)).0 c.if-meets.true in
    page_full rows c.args.collection only query later page c.loop-row.row-index row
    (chosen_behind rows c.args.collection only query later c.candidates-later.ensures.ascend c.candidates-later.ensures.candidates) c.loop-row-test.true c.row-item.is meets c.loop-row.invariant.0 c.loop-row.invariant.1
    (λ fits.
    let room = c.has_room.ensures.1 (room_found query page row c.len.result c.page_size-size.result taken many c.page_size-size.ensures counted fits) in
    let wrong = subst IsTrue c.if-not-has_room.true room in absurd (cc wrong))

pub loop-row-preserved : goal.loop-row-preserved
loop-row-preserved c =
    let rows = c.args.library.now.rows in
    let only = option_map (λ (id : Bor Id). id.now) c.args.only in
    let query = c.args.query.now in
    let later = c.candidates-later.result.now in
    let i = c.loop-row.row-index in
    let row = c.row-item.result in
    let asks = c.meets.ensures.same c.args.collection only query c.loop-row.invariant.2 in
    let tells = c.meets.ensures.meets c.args.collection only query c.loop-row.invariant.2 (candidate_can query rows later i row c.candidates-later.ensures.candidates c.loop-row-test.true c.row-item.is) in
    let now = λ (row : Bor StoredRow). row.now in
    let page = map now c.loop-row.rows.items in
    elim c.if-meets.branch [
      | then-meets+else-not-has_room+in_ok-push w ↦
          let pushed = ap (λ (v : Vec (Bor StoredRow) Global). v.items) w.rows-is ∙ w.in_ok-push.ensures.items in
          let grown = ap (map now) pushed ∙ map-append now c.loop-row.rows.items (_ ∷ []) in
          let taken = w.bytes_with-taken.result in
          let many = w.len.ensures ∙ c.loop-row.rows.ok.0 ∙ sym (length-map c.loop-row.rows.items now) in
          let counted = one_counted page row c.loop-row.bytes taken c.loop-row.invariant.3 w.bytes_with-taken.ensures in
          let fits = fits_more query page row w.len.result c.page_size-size.result taken many c.page_size-size.ensures counted (w.has_room.ensures.0 w.if-not-has_room.false) in (
            grown ∙ ap (λ (xs : List StoredRow). xs ++ row ∷ []) c.loop-row.invariant.0
                ∙ sym (meeting_more rows c.args.collection only query later i row c.loop-row-test.true c.row-item.is (tells.0 w.if-meets.true)),
            subst (FitsPage query) (sym grown) fits,
            asks,
            subst (λ (n : ℕ). IsCountOf n (map now c.if-meets.rows.items)) (sym w.bytes-is) (subst (IsCountOf taken) (sym grown) counted),
          )
      | else-meets w ↦
          let kept = ap (map now) (ap (λ (v : Vec (Bor StoredRow) Global). v.items) w.rows-is) in (
            kept ∙ c.loop-row.invariant.0
                ∙ sym (meeting_same rows c.args.collection only query later i row c.loop-row-test.true c.row-item.is
                (λ meets. let wrong = subst IsTrue w.if-meets.false (tells.1 meets) in absurd (cc wrong))),
            subst (FitsPage query) (sym kept) c.loop-row.invariant.1,
            asks,
            subst (λ (n : ℕ). IsCountOf n (map now c.if-meets.rows.items)) (sym w.bytes-is) (subst (IsCountOf c.loop-row.bytes) (sym kept) c.loop-row.invariant.3),
          )
    ]

pub returns : goal.returns
returns c =
    page_whole c.args.library.now.rows c.args.collection (option_map (λ (id : Bor Id). id.now) c.args.only) c.args.query.now c.candidates-later.result.now
    (map (λ (row : Bor StoredRow). row.now) c.loop-row.rows.items)
    (chosen_behind c.args.library.now.rows c.args.collection (option_map (λ (id : Bor Id). id.now) c.args.only) c.args.query.now c.candidates-later.result.now c.candidates-later.ensures.ascend c.candidates-later.ensures.candidates)
    (c.loop-row.invariant.0 ∙ ap (meeting c.args.library.now.rows c.args.collection (option_map (λ (id : Bor Id). id.now) c.args.only) c.args.query.now)
    (take_all c.loop-row.row-index c.candidates-later.result.now c.loop-row-test.false))
    c.loop-row.invariant.1
