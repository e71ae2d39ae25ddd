use Rattle.std.proofs.Common.{◌-◌, length, take, drop, None, refl}
use Rattle.command_line.specs.CommandLines.{argument_texts}
use Rattle.command_peer.proofs.ArgumentLemmas.{four_arguments}
use Rattle.command_pull.proofs.arguments.read_request.Goals as goal

pub returns-clause-some : goal.returns-clause-some
returns-clause-some c = record {
  host = c.as_str.result.now;
  port = c.as_str-2.result.now;
  root = c.as_str-3.result.now;
  collection = c.as_str-4.result.now;
  more = argument_texts (take (length c.args.arguments.now - 4) (drop 4 c.args.arguments.now));
  arguments_are =
      four_arguments c.args.arguments.now c.host-item.result c.port-item.result c.root-item.result c.collection-item.result _ _ _ _ c.in-len4-up.len_at_least
      c.host-item.is c.port-item.is c.root-item.is c.collection-item.is c.as_str.ensures.value c.as_str-2.ensures.value c.as_str-3.ensures.value c.as_str-4.ensures.value;
  target_is = c.in_ok-peer.ensures.some c.in_ok-limit.limit None;
  limit_is = c.in_ok-limit.ensures.some;
  all = refl;
}
