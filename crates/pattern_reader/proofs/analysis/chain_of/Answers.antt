use Rattle.pattern_reader.proofs.ChainLemmas.{begun, all_begun, any_begun}
use Rattle.pattern_reader.proofs.analysis.chain_of.Goals as goal

pub returns-clause-all : goal.returns-clause-all
returns-clause-all c = λ text p n h. record { at = h.at; roots = h.roots; parts = begun text p _ (all_begun text p n) _ _ _ c.new.ensures c.in_ok-parts.ensures h.leaf }

pub returns-clause-any : goal.returns-clause-any
returns-clause-any c = λ text p n h. record { at = h.at; roots = h.roots; parts = begun text p _ (any_begun text p n) _ _ _ c.new.ensures c.in_ok-parts.ensures h.leaf }
