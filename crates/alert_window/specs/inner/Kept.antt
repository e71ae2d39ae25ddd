-- For private clauses: the kept rows.
use Rattle.std.specs.Prelude.{ℕ, ℤ, ◌<ℤ◌, IsSomeAnd, List, [], ◌∷◌, length, Option, Some, None, nat_lt, if◌then◌else◌}
use Rattle.match_bindings.specs.Span.{later_by}
use Rattle.alert_window.specs.declared.matching_row.MatchingRow.{MatchingRow}

-- the last n of a list
abbrev pub keep : {X : Type 0} → ℕ → List X → List X
keep n [] = []
keep n (x ∷ xs) = if nat_lt (length xs) n then x ∷ xs else keep n xs

-- the first time of the first row, where there are n rows
abbrev pub earliest_if_full : ℕ → List MatchingRow → Option ℤ
earliest_if_full n [] = None
earliest_if_full n (row ∷ rows) = if nat_lt (length (row ∷ rows)) n then None else Some row.first

-- n rows are kept, and they and the row with these times began less than x seconds before its end
abbrev pub IsCountReached : ℕ → ℕ → List MatchingRow → ℤ → ℤ → Type 0
IsCountReached n x kept first last = IsSomeAnd (earliest_if_full n kept) (λ e. last <ℤ later_by x e) × (last <ℤ later_by x first)
