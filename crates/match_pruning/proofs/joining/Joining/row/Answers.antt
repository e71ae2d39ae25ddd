use Rattle.std.proofs.Common.{◌<◌, length, rules}
use Rattle.match_pruning.proofs.joining.Joining.row.Goals as goal

pub places-requires : goal.places-requires
places-requires c =
    let some : 0 < length c.args.skip_index.now.keys.items = search rules in
    record { levels = (c.requires.candidates some).levels }
