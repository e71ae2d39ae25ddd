use Rattle.std.proofs.Common.{rules, ◌≡◌, w64, to_z, of_z}
use Rattle.std.proofs.lemmas.Int.{to_z-of_z}
use Rattle.stix_json.specs.DataOf.{data_of}
use Rattle.match_comparisons.proofs.CompareLemmas.{bytes_compare}
use Rattle.match_comparisons.proofs.compare.compared.Goals as goal

pub returns-in-Integer : goal.returns-in-Integer
returns-in-Integer c =
    let same : to_z w64 (of_z w64 c.in-Integer.whole) ≡ c.in-Integer.whole = to_z-of_z w64 c.in-Integer.whole (search rules) in
    λ last stands. rw c.in-Integer.is (rw same at (c.compared_whole.ensures last))

pub returns-in-String : goal.returns-in-String
returns-in-String c = λ last stands. rw c.in-String.is (rw c.as_str.ensures at (c.compared_words.ensures last))

pub returns-in-Boolean : goal.returns-in-Boolean
returns-in-Boolean c = λ last stands. rw c.in-Boolean.is (c.compared_truth.ensures last)

pub returns-in-Timestamp : goal.returns-in-Timestamp
returns-in-Timestamp c = λ last stands. rw c.in-Timestamp.is (c.compared_instant.ensures last)

pub returns-in-Hex : goal.returns-in-Hex
returns-in-Hex c = λ last stands.
    rw c.in-Hex.is (bytes_compare last (data_of c.args.value.now) c.args.own.now _ c.compared_bytes.result stands (rw c.as_slice.ensures at c.compared_bytes.ensures))

pub returns-in-Binary : goal.returns-in-Binary
returns-in-Binary c = λ last stands.
    rw c.in-Binary.is (bytes_compare last (data_of c.args.value.now) c.args.own.now _ c.compared_bytes-in-Binary.result stands (rw c.as_slice-in-Binary.ensures at c.compared_bytes-in-Binary.ensures))
