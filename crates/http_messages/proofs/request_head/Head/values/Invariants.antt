use Rattle.std.proofs.Common.{◌≡◌, take, map}
use Rattle.httparse.specs.Spans.{header_bytes}
use Rattle.http_messages.specs.Fields.{values_among}
use Rattle.http_messages.proofs.request_head.Head.values.Given as goal

abbrev pub invariant-loop-span : goal.invariant-loop-span
invariant-loop-span l =
    map (λ value. value.now) l.found.items ≡ values_among l.name (map (header_bytes l.self-inside.bytes.now) (take l.span-index l.self-inside.spans.now))
