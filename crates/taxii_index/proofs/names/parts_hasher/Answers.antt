use Rattle.std.proofs.Common.{◌≡◌}
use Rattle.std.specs.Int.{w128, to_le_bytes}
use Rattle.std.specs.Hash.DefaultHasher as sip
use Rattle.taxii_index.specs.Names.{fed_with}
use Rattle.taxii_index.proofs.names.parts_hasher.Goals as goal

pub returns : goal.returns
unfolding fed_with
returns c =
    let secret : c.write.new.self ≡ sip.write sip.initial (to_le_bytes w128 c.args.secret) = cc in
    let collection : c.write-2.new.self ≡ sip.write c.write.new.self (to_le_bytes w128 c.args.collection) = cc in
    let number : c.write-3.new.self ≡ sip.write c.write-2.new.self (to_le_bytes w128 c.args.number) = cc in
    let kind : c.write-4.new.self ≡ sip.write c.write-3.new.self c.args.kind.now = cc in
    cc
