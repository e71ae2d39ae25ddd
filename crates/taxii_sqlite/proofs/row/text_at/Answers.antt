-- The text of a `String` is UTF-8.
use Rattle.std.proofs.Common.{rules}
use Rattle.std.proofs.lemmas.Str.{IsUtf8-string_bytes}
use Rattle.taxii_sqlite.proofs.row.text_at.Goals as goal

pub returns-clause-ok : goal.returns-clause-ok
returns-clause-ok c = (search rules, rw c.from_string.ensures (IsUtf8-string_bytes c.in_ok-text.text))
