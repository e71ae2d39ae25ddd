use Rattle.std.proofs.Common.{◌≡◌, ◌+◌, ◌-◌, ◌^◌, ◌<◌, ◌++◌, length}
use Rattle.stix_times.specs.Digits.{digits_text}
use Rattle.stix_times.proofs.line.Line.push_digits.Given as goal

abbrev pub invariant-loop-offset : goal.invariant-loop-offset
invariant-loop-offset l = record {
  length : length l.self ≡ length l.initial.self + l._offset;
  text : l.self ++ digits_text (l.fn.fraction.digits - l._offset) l.rest ≡ l.initial.self ++ digits_text l.fn.fraction.digits l.fn.fraction.value;
  scale : l.scale ≡ 10 ^ (l.fn.fraction.digits - l._offset);
  rest : l.rest < l.scale;
}
