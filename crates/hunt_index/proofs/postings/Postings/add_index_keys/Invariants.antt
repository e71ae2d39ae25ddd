use Rattle.std.proofs.Common.{◌≡◌, ◌++◌, map, take}
use Rattle.hunt_index.proofs.PostingsLemmas.{posting_of}
use Rattle.hunt_index.proofs.postings.Postings.add_index_keys.Given as goal

abbrev pub invariant-loop-index_key : goal.invariant-loop-index_key
invariant-loop-index_key l = (l.self.indexed.items ≡ l.fn.self.indexed.items ++ map (posting_of l.fn.bracket) (take l.index_key-index l.index_keys)) × (l.self.unindexed ≡ l.fn.self.unindexed)
