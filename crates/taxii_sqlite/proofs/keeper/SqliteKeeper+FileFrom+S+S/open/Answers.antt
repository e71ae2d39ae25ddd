-- The path is empty.
use Rattle.std.proofs.Common.{◌≡◌, ℕ, List, [], ◌∷◌, length, rules, arith, refl}
use Rattle.taxii_sqlite.proofs.keeper.SqliteKeeper+FileFrom+S+S.open.Goals as goal

none_in : (path : List ℕ) → length path ≡ 0 → path ≡ []
none_in [] is = refl
none_in (byte ∷ path) is = absurd (omega (arith, is))

pub returns-then-is_empty-clause-ready : goal.returns-then-is_empty-clause-ready
returns-then-is_empty-clause-ready g c = none_in c.args.path.now (search rules)
