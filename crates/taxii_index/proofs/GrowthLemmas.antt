-- Rows to which later ones are added: the ones in front, and the date of the last.
use Rattle.std.proofs.Common.{◌≡◌, ℕ, ◌+◌, ◌<◌, List, [], ◌∷◌, ◌++◌, inl, inr, sym, ap, ◌∙◌, subst, arith}
use Rattle.std.specs.List.{Contains}
use Rattle.std.proofs.lemmas.List.{append_assoc}
use Rattle.std.proofs.lemmas.List.Elements.{All-weaker, All-contains_itself, Contains-push}
use Rattle.taxii_rows.specs.declared.stored_row.StoredRow.{StoredRow}
use Rattle.taxii_rows.specs.StoreState.{dates_of, AscendFrom}
use Rattle.taxii_index.specs.Index.{IsAbsent}
use Rattle.taxii_index.proofs.ListLemmas.{nothing, cons_cases}
use Rattle.taxii_index.proofs.RowLemmas.{least_row}

pub ascend_front : (least : ℕ) (rows more : List StoredRow) → AscendFrom least (dates_of (rows ++ more)) → AscendFrom least (dates_of rows)
ascend_front least [] more ascend = tt
ascend_front least (row ∷ rows) more ascend = (ascend.0, ascend_front (row.date + 1) rows more ascend.1)

earlier : (least : ℕ) (rows : List StoredRow) (last : StoredRow) (row : StoredRow) → AscendFrom least (dates_of (rows ++ last ∷ [])) → Contains rows row → row.date < last.date
earlier least [] last row ascend here = absurd (nothing row here)
earlier least (one ∷ rows) last row ascend here = elim (cons_cases one row rows here) [
  | inl same ↦ omega (arith, ap (λ (r : StoredRow). r.date) same, least_row (one.date + 1) (rows ++ last ∷ []) last ascend.1 (Contains-push rows last))
  | inr rest ↦ earlier (one.date + 1) rows last row ascend.1 rest
]

-- no row in front has the last one's date
pub absent_before : (rows : List StoredRow) (last : StoredRow) → AscendFrom 1 (dates_of (rows ++ last ∷ [])) → IsAbsent last.date rows
absent_before rows last ascend =
    All-weaker (Contains rows) (λ (row : StoredRow). ¬ (row.date ≡ last.date)) (λ row here same. let before : row.date < last.date = earlier 1 rows last row ascend here in omega arith) rows
    (All-contains_itself rows)

-- the next of the rows that are added is later than those before it
pub next_later : (rows more rest : List StoredRow) (row : StoredRow) (all now : List StoredRow) → AscendFrom 1 (dates_of (rows ++ all)) → all ≡ more ++ (row ∷ rest)
    → now ≡ rows ++ more → AscendFrom 1 (dates_of (now ++ row ∷ []))
next_later rows more rest row all now ascend is so_far =
    let whole : rows ++ all ≡ (now ++ row ∷ []) ++ rest =
    ap (λ (xs : List StoredRow). rows ++ xs) is ∙ sym (append_assoc rows more (row ∷ rest)) ∙ ap (λ (xs : List StoredRow). xs ++ (row ∷ rest)) (sym so_far)
    ∙ sym (append_assoc now (row ∷ []) rest) in
    ascend_front 1 (now ++ row ∷ []) rest (subst (λ (xs : List StoredRow). AscendFrom 1 (dates_of xs)) whole ascend)
