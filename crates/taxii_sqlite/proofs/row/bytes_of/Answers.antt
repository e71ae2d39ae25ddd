-- What 16 bytes were written from is read from them.
use Rattle.std.proofs.Common.{sym, ◌∙◌, ap}
use Rattle.std.specs.Int.{w128, from_be_bytes}
use Rattle.uuid.proofs.OrderLemmas.{from_be_bytes-to_be_bytes_16}
use Rattle.taxii_sqlite.proofs.row.bytes_of.Goals as goal

pub returns : goal.returns
returns c = sym (ap (from_be_bytes w128) c.to_be_bytes.ensures ∙ from_be_bytes-to_be_bytes_16 c.args.number c.ranges.number.fits)
