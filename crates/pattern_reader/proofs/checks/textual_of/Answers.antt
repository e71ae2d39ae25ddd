use Rattle.std.proofs.Common.{inl, inr}
use Rattle.pattern_reader.proofs.CheckLemmas.{no_address}
use Rattle.pattern_reader.proofs.checks.textual_of.Goals as goal

pub returns-in-None : goal.returns-in-None
returns-in-None c = no_address c.args.text.now c.args.operator c.args.token c.in-Some.words c.one_meaning.ensures.string (inl c.in-Subset.is) (rw c.in-Some.is at c.in_ok-words.ensures) (rw c.in-None.is at c.address_of.ensures)

pub returns-in-None-address_of : goal.returns-in-None-address_of
returns-in-None-address_of c = no_address c.args.text.now c.args.operator c.args.token c.in-Some.words c.one_meaning.ensures.string (inr c.in-Superset.is) (rw c.in-Some.is at c.in_ok-words.ensures) (rw c.in-None-address_of.is at c.address_of-in-Superset.ensures)
