-- What additions and deletions leave of a store: its rows, and such as were added past its watermark.
use Rattle.std.proofs.Common.{◌⊎◌, inl, inr, ◌+◌, ◌<◌, ◌≤◌, List, [], ◌∷◌, sym, ap, subst, arith}
use Rattle.std.specs.Prelude.{not}
use Rattle.std.specs.List.{Contains}
use Rattle.std.proofs.lemmas.List.Elements.{All-filter, All-contains, All-contains_itself, Contains-append_cases}
use Rattle.taxii_rows.specs.declared.stored_row.StoredRow.{StoredRow}
use Rattle.taxii_rows.specs.StoreState.{StoreState}
use Rattle.taxii_rows.specs.Keeper.{without, is_date_in}
use Rattle.taxii_store.specs.History.{IsStoreAddition, IsDeletion, Becomes, IsHistory}
use Rattle.taxii_store.proofs.RowsLemmas.{least}

-- the watermark doesn't fall, and each row is one of those before or is past their watermark
pub record Later (state after : StoreState) : Type 0 where
  pub watermark : state.watermark ≤ after.watermark
  pub rows : (r : StoredRow) → Contains after.rows r → Contains state.rows r ⊎ (state.watermark < r.date)

pub later_itself : (state : StoreState) → Later state state
later_itself state = record { watermark = omega arith; rows = λ r h. inl h }

pub later_both : (a b c : StoreState) → Later a b → Later b c → Later a c
later_both a b c first second = record {
  watermark = omega (arith, first.watermark, second.watermark);
  rows = λ r h. elim (second.rows r h) [
    | inl there ↦ first.rows r there
    | inr past ↦ inr (omega (arith, past, first.watermark))
  ];
}

added : (state after : StoreState) → IsStoreAddition state after → Later state after
added state after step = record { watermark = step.watermark; rows = rows }
  where
    rows : (r : StoredRow) → Contains after.rows r → Contains state.rows r ⊎ (state.watermark < r.date)
    rows r h = elim (Contains-append_cases state.rows step.rows r (subst (λ (s : StoreState). Contains s.rows r) step.after_is h)) [
      | inl there ↦ inl there
      | inr new ↦ let past = least (state.watermark + 1) step.rows r step.ascend new in inr (omega (arith, past))
    ]

deleted : (state after : StoreState) → IsDeletion state after → Later state after
deleted state after step = record { watermark = watermark; rows = rows }
  where
    watermark : state.watermark ≤ after.watermark
    watermark = let same = ap (λ (s : StoreState). s.watermark) step.after_is in omega (arith, same)

    rows : (r : StoredRow) → Contains after.rows r → Contains state.rows r ⊎ (state.watermark < r.date)
    rows r h = inl (All-contains (Contains state.rows) (without step.dates state).rows r
        (All-filter (λ (row : StoredRow). not (is_date_in step.dates row.date)) (Contains state.rows) state.rows (All-contains_itself state.rows))
        (subst (λ (s : StoreState). Contains s.rows r) step.after_is h))

becomes : (state : StoreState) (states : List StoreState) (after : StoreState) → Becomes state states after → Later state after
becomes state [] after h = subst (λ (s : StoreState). Later state s) (sym h) (later_itself state)
becomes state (next ∷ states) after h = later_both state next after (one h.0) (becomes next states after h.1)
  where
    one : IsStoreAddition state next ⊎ IsDeletion state next → Later state next
    one (inl step) = added state next step
    one (inr step) = deleted state next step

pub history : (state after : StoreState) → IsHistory state after → Later state after
history state after h = becomes state h.0 after h.1
