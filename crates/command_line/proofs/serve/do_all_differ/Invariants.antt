use Rattle.std.proofs.Common.{◌↔◌, drop}
use Rattle.std.specs.Prelude.{nat_eq}
use Rattle.std.specs.List.{IsDistinct}
use Rattle.command_line.proofs.DistinctLemmas.{ids}
use Rattle.command_line.proofs.serve.do_all_differ.Given as goal

abbrev pub invariant-loop-place : goal.invariant-loop-place
invariant-loop-place l = IsDistinct nat_eq (ids l.collections) ↔ IsDistinct nat_eq (ids (drop l.place l.collections))
