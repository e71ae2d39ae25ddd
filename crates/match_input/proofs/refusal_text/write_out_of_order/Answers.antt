use Rattle.std.proofs.Common.{take, refl}
use Rattle.std.proofs.lemmas.Result.{on_err_weaker}
use Rattle.match_input.proofs.refusal_text.write_out_of_order.Goals as goal

pub returns-clause-text : goal.returns-clause-text
returns-clause-text g c =
    let before = take c.write-last_length.result c.write-last_length.new.out in
    let after = take c.write-now_length.result c.write-now_length.new.out in
    (_, (_, (before, after, c.write-last_length.ensures.text, c.write-now_length.ensures.text, refl), refl), rw c.format-line.ensures.text at c.write_times.ensures.text)

pub returns-clause-part : goal.returns-clause-part
returns-clause-part g c =
    let before = take c.write-last_length.result c.write-last_length.new.out in
    let after = take c.write-now_length.result c.write-now_length.new.out in
    on_err_weaker c.write_times.result (λ part. (_, (_, (before, after, c.write-last_length.ensures.text, c.write-now_length.ensures.text, refl), refl), part))
    (rw c.format-line.ensures.text at c.write_times.ensures.part)
