-- The sums of the tallies of pages that were absorbed.
use Rattle.std.specs.Prelude.{◌+◌, List, length, sum_by}
use Rattle.taxii_client.specs.Absorbing.{Absorbed}
use Rattle.taxii_client.specs.declared.tally.Tally.{Tally}
use Rattle.taxii_client.specs.declared.totals.Totals.{Totals}

-- how many pages there are, and the sums of their tallies
abbrev pub totals_of : List Absorbed → Totals
totals_of absorbed = record {
  pages = length absorbed;
  added = sum_by (λ page. page.tally.added) absorbed;
  present = sum_by (λ page. page.tally.present) absorbed;
  skipped = sum_by (λ page. page.tally.skipped) absorbed;
}

-- one more page
abbrev pub with_tally : Tally → Totals → Totals
with_tally tally totals = record {
  pages = totals.pages + 1;
  added = totals.added + tally.added;
  present = totals.present + tally.present;
  skipped = totals.skipped + tally.skipped;
}
