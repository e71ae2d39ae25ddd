-- A new engine has its tables, and stands for no rows.
use Rattle.std.proofs.Common.{rules, ◌∙◌, refl, sym, ap, [], map}
use Rattle.std.proofs.lemmas.List.{length-map}
use Rattle.hunt_engine.proofs.EvaluateLemmas.{clear_repeated}
use Rattle.hunt_engine.proofs.engine.Engine.new.Goals as goal

pub invariant_of-result : goal.invariant_of-result
invariant_of-result c = record {
  table = c.in_ok-brackets.ensures.table;
  sound = c.in_ok-brackets.ensures.sound;
  brackets_are = c.in_ok-brackets.ensures.leaves;
  index_is = c.in_ok-index.ensures ∙ ap (map (λ leaf. leaf.now)) c.as_slice-2.ensures.value;
  lazy_matchers_are = c.in_ok-lazy_matchers.ensures.count;
  marks_are = search rules;
  clear = λ runs. clear_repeated c.len.result c.in_ok-marks.marks.items (c.in_ok-marks.ensures.items_if_clones_equal (search rules));
}

pub returns-clause-represents : goal.returns-clause-represents
returns-clause-represents c = record {
  runs = refl;
  rows_are = refl;
  last_is = refl;
  count = c.in_ok-lazy_matchers.ensures.count ∙ sym (length-map c.args.hunted.now (λ h. h.pattern));
  each = λ position p lazy_matcher at there. ([], tt, c.in_ok-lazy_matchers.ensures.each position p lazy_matcher at there);
}
