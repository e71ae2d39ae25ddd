use Rattle.std.proofs.Common.{◌≡◌, take}
use Rattle.std.specs.List.{flat_map}
use Rattle.command_check.specs.CheckEndings.{version_line}
use Rattle.command_check.proofs.verdict_text.versions_text.Given as goal

abbrev pub invariant-loop-broken : goal.invariant-loop-broken
invariant-loop-broken l = l.text ≡ flat_map version_line (take l.broken-index l.versions)
