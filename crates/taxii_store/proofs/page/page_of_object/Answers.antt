use Rattle.std.proofs.Common.{ℕ, List, [], ◌∷◌, ◌++◌, map, Bor, Vec, IsTrue, Some, sym, ap, subst, ◌∙◌, arith}
use Rattle.std.proofs.lemmas.List.{length-map, map-append, take_all}
use Rattle.std.specs.declared.alloc.Global.{Global}
use Rattle.taxii_rows.specs.declared.stored_row.StoredRow.{StoredRow}
use Rattle.taxii_index.specs.Index.{AreRowsOf}
use Rattle.taxii_index.proofs.ListLemmas.{lent_at}
use Rattle.taxii_store.specs.Meeting.{MeetsQuery}
use Rattle.taxii_store.specs.inner.Asking.{AsksOfCollection}
use Rattle.taxii_store.specs.Page.{FitsPage}
use Rattle.taxii_store.proofs.FitLemmas.{none_fit, IsCountOf, none_counted, one_counted, fits_more, room_found}
use Rattle.taxii_store.proofs.PageLemmas.{meeting, meeting_none, meeting_more, meeting_same, page_whole, page_full, chosen_own}
use Rattle.taxii_store.proofs.ChosenLemmas.{chosen_of_object, none_chosen, own_can, own_never}
use Rattle.taxii_store.proofs.page.page_of_object.Goals.{then-row-after+then-meets+else-not-has_room+in_ok-push, else-row-after, else-row-after-via-then-row-after+else-meets, else-row-after-via-else-row-after}
use Rattle.taxii_store.proofs.page.page_of_object.Goals as goal

pub returns-then-not-asks_for_version : goal.returns-then-not-asks_for_version
returns-then-not-asks_for_version c =
    let rows = c.args.library.now.rows in
    let only = Some c.args.id.now in
    let query = c.args.query.now in
    let now = λ (row : Bor StoredRow). row.now in
    page_whole rows c.args.collection only query [] (map now c.new-rows.result.items)
    (none_chosen rows c.args.collection only query (λ version. let wrong = subst IsTrue c.if-not-asks_for_version.true (c.asks_for_version.ensures.1 version) in absurd (cc wrong)))
    (ap (map now) c.new-rows.ensures.items ∙ meeting_none rows c.args.collection only query)
    (subst (FitsPage query) (sym (ap (map now) c.new-rows.ensures.items)) (none_fit query))

pub loop-row-init : goal.loop-row-init
loop-row-init c =
    let query = c.args.query.now in
    let none = ap (map (λ (row : Bor StoredRow). row.now)) c.new-rows.ensures.items in (
      none ∙ meeting_none c.args.library.now.rows c.args.collection (Some c.args.id.now) query,
      subst (FitsPage query) (sym none) (none_fit query),
      c.in_ok-asked.ensures,
      subst (IsCountOf 0) (sym none) none_counted,
    )

pub meets-requires : goal.meets-requires
meets-requires c =
    let rows = c.args.library.now.rows in
    let id = c.args.id.now in
    let lent = c.as_slice-row-items.result.now in
    let walked = map (λ (row : Bor StoredRow). row.now) lent in
    let are = subst (λ (lent : List (Bor StoredRow)). AreRowsOf c.args.collection id rows (map (λ row. row.now) lent)) (sym c.as_slice-row-items.ensures.value) c.in_ok-own.ensures in
    let here = lent_at lent c.loop-row.row-index c.row-item.result c.loop-row-test.true c.row-item.is in record {
      there = chosen_own rows c.args.collection (Some id) c.args.query.now walked c.loop-row.row-index c.row-item.result.now
          (chosen_of_object rows c.args.collection id c.args.query.now walked are) here.0 here.1;
    }

pub returns-then-not-has_room : goal.returns-then-not-has_room
returns-then-not-has_room c =
    let rows = c.args.library.now.rows in
    let collection = c.args.collection in
    let id = c.args.id.now in
    let query = c.args.query.now in
    let i = c.loop-row.row-index in
    let row = c.row-item.result.now in
    let lent = c.as_slice-row-items.result.now in
    let now = λ (row : Bor StoredRow). row.now in
    let walked = map now lent in
    let are = subst (λ (lent : List (Bor StoredRow)). AreRowsOf collection id rows (map (λ row. row.now) lent)) (sym c.as_slice-row-items.ensures.value) c.in_ok-own.ensures in
    let here = lent_at lent i c.row-item.result c.loop-row-test.true c.row-item.is in
    let version = c.asks_for_version.ensures.0 c.if-not-asks_for_version.false in
    let can = own_can query c.cursor-after.result walked i row are.ascend here.0 here.1 c.cursor-after.ensures version c.if-row-after.true in
    let meets = (c.meets.ensures.meets collection (Some id) query c.loop-row.invariant.2 can).0 c.if-meets.true in
    let page = map now c.loop-row.rows.items in
    let taken = c.bytes_with-taken.result in
    let many = c.len.ensures ∙ c.loop-row.rows.ok.0 ∙ sym (length-map c.loop-row.rows.items now) in
    let counted = one_counted page row c.loop-row.bytes taken c.loop-row.invariant.3 c.bytes_with-taken.ensures in
    page_full rows collection (Some id) query walked page i row
    (chosen_of_object rows collection id query walked are) here.0 here.1 meets c.loop-row.invariant.0 c.loop-row.invariant.1
    (λ fits.
    let room = c.has_room.ensures.1 (room_found query page row c.len.result c.page_size-size.result taken many c.page_size-size.ensures counted fits) in
    let wrong = subst IsTrue c.if-not-has_room.true room in absurd (cc wrong))

pub loop-row-preserved : goal.loop-row-preserved
loop-row-preserved c =
    let rows = c.args.library.now.rows in
    let collection = c.args.collection in
    let id = c.args.id.now in
    let query = c.args.query.now in
    let after = c.cursor-after.result in
    let i = c.loop-row.row-index in
    let row = c.row-item.result.now in
    let lent = c.as_slice-row-items.result.now in
    let now = λ (row : Bor StoredRow). row.now in
    let walked = map now lent in
    let are = subst (λ (lent : List (Bor StoredRow)). AreRowsOf collection id rows (map (λ row. row.now) lent)) (sym c.as_slice-row-items.ensures.value) c.in_ok-own.ensures in
    let here = lent_at lent i c.row-item.result c.loop-row-test.true c.row-item.is in
    let version = c.asks_for_version.ensures.0 c.if-not-asks_for_version.false in
    let page = map now c.loop-row.rows.items in
    elim c.if-row-after.branch [
      | then-row-after+then-meets+else-not-has_room+in_ok-push w ↦
          let can = own_can query after walked i row are.ascend here.0 here.1 c.cursor-after.ensures version w.if-row-after.true in
          let meets = (w.meets.ensures.meets collection (Some id) query c.loop-row.invariant.2 can).0 w.if-meets.true in
          let pushed = ap (λ (v : Vec (Bor StoredRow) Global). v.items) w.rows-is ∙ w.in_ok-push.ensures.items in
          let grown = ap (map now) pushed ∙ map-append now c.loop-row.rows.items (_ ∷ []) in
          let taken = w.bytes_with-taken.result in
          let many = w.len.ensures ∙ c.loop-row.rows.ok.0 ∙ sym (length-map c.loop-row.rows.items now) in
          let counted = one_counted page row c.loop-row.bytes taken c.loop-row.invariant.3 w.bytes_with-taken.ensures in
          let fits = fits_more query page row w.len.result c.page_size-size.result taken many c.page_size-size.ensures counted (w.has_room.ensures.0 w.if-not-has_room.false) in (
            grown ∙ ap (λ (xs : List StoredRow). xs ++ row ∷ []) c.loop-row.invariant.0
                ∙ sym (meeting_more rows collection (Some id) query walked i row here.0 here.1 meets),
            subst (FitsPage query) (sym grown) fits,
            subst (AsksOfCollection collection (Some id) query) (sym w.asked-is) (w.meets.ensures.same collection (Some id) query c.loop-row.invariant.2),
            subst (λ (n : ℕ). IsCountOf n (map now c.if-row-after.rows.items)) (sym w.bytes-is) (subst (IsCountOf taken) (sym grown) counted),
          )
      | else-row-after w ↦
          let kept = ap (map now) (ap (λ (v : Vec (Bor StoredRow) Global). v.items) w.rows-is) in
          let observable : (¬ MeetsQuery rows collection (Some id) query row) × AsksOfCollection collection (Some id) query c.if-row-after.asked = elim w.else-row-after.branch [
            | else-row-after-via-then-row-after+else-meets v ↦
                let can = own_can query after walked i row are.ascend here.0 here.1 c.cursor-after.ensures version v.if-row-after.true in (
                  λ meets. let wrong = subst IsTrue v.if-meets.false ((v.meets.ensures.meets collection (Some id) query c.loop-row.invariant.2 can).1 meets) in absurd (cc wrong),
                  subst (AsksOfCollection collection (Some id) query) (sym (w.asked-is ∙ v.asked-is)) (v.meets.ensures.same collection (Some id) query c.loop-row.invariant.2),
                )
            | else-row-after-via-else-row-after v ↦ (
              own_never rows collection (Some id) query after walked i row are.ascend here.0 here.1 c.cursor-after.ensures v.if-row-after.false,
              subst (AsksOfCollection collection (Some id) query) (sym (w.asked-is ∙ v.asked-is)) c.loop-row.invariant.2,
            )
          ] in (
            kept ∙ c.loop-row.invariant.0 ∙ sym (meeting_same rows collection (Some id) query walked i row here.0 here.1 observable.0),
            subst (FitsPage query) (sym kept) c.loop-row.invariant.1,
            observable.1,
            subst (λ (n : ℕ). IsCountOf n (map now c.if-row-after.rows.items)) (sym w.bytes-is) (subst (IsCountOf c.loop-row.bytes) (sym kept) c.loop-row.invariant.3),
          )
    ]

pub returns : goal.returns
returns c =
    let rows = c.args.library.now.rows in
    let collection = c.args.collection in
    let id = c.args.id.now in
    let query = c.args.query.now in
    let lent = c.as_slice-row-items.result.now in
    let now = λ (row : Bor StoredRow). row.now in
    let walked = map now lent in
    let are = subst (λ (lent : List (Bor StoredRow)). AreRowsOf collection id rows (map (λ row. row.now) lent)) (sym c.as_slice-row-items.ensures.value) c.in_ok-own.ensures in
    page_whole rows collection (Some id) query walked (map now c.loop-row.rows.items) (chosen_of_object rows collection id query walked are)
    (c.loop-row.invariant.0 ∙ ap (meeting rows collection (Some id) query) (take_all c.loop-row.row-index walked (omega (arith, c.loop-row-test.false, length-map lent now))))
    c.loop-row.invariant.1
