-- The summary of the absorbed pages.
use Rattle.std.specs.Prelude.{ℕ, List, ◌++◌, codes, decimal}
use Rattle.taxii_client.specs.declared.totals.Totals.{Totals}

-- pages P added A present B skipped S
abbrev pub counts_text : List ℕ → List ℕ → List ℕ → List ℕ → List ℕ
counts_text pages added present skipped =
    codes "pages " ++ (pages ++ (codes " added " ++ (added ++ (codes " present " ++ (present ++ (codes " skipped " ++ (skipped ++ codes "\n")))))))

abbrev pub mirror_summary : Totals → List ℕ
mirror_summary totals = counts_text (decimal totals.pages) (decimal totals.added) (decimal totals.present) (decimal totals.skipped)
