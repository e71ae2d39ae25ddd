use Rattle.std.proofs.Common.{◌≡◌, ◌++◌, flat_map, ap, sym, ◌∙◌, rules}
use Rattle.std.proofs.lemmas.Bool.{false≢true}
use Rattle.pattern_lexer.specs.Values.{escaped}
use Rattle.pattern_lexer.proofs.UnescapedLemmas.{parts, no_parts, none_in, one_more, all_read, none_escaped, quote_before, quote_after}
use Rattle.pattern_lexer.proofs.unescape.unescaped.Goals as goal

pub returns-in_default-escaped_first : goal.returns-in_default-escaped_first
returns-in_default-escaped_first c =
    let text = c.args.text.now in
    let rest = c.loop-plain.rest.now in
    let cut = parts rest c.in-Some.plain c.in-Some.after c.in-Some.ensures.cases in
    let e = c.loop-plain.invariant.so_far ∙ ap (λ l. flat_map escaped c.loop-plain.words ++ l) cut.0 in
    none_escaped text c.loop-plain.words c.in-Some.plain.now c.in-Some.after.now e cut.1 c.in_default-escaped_first.ensures.none

pub returns-then-has_quote : goal.returns-then-has_quote
returns-then-has_quote c =
    let text = c.args.text.now in
    let rest = c.loop-plain.rest.now in
    let cut = parts rest c.in-Some.plain c.in-Some.after c.in-Some.ensures.cases in
    let e = c.loop-plain.invariant.so_far ∙ ap (λ l. flat_map escaped c.loop-plain.words ++ l) cut.0 in
    quote_before text c.loop-plain.words c.in-Some.plain.now c.in-Some.after.now e cut.1 (c.has_quote.ensures.0 c.if-has_quote.true)

pub returns-then-has_quote-2 : goal.returns-then-has_quote-2
returns-then-has_quote-2 c =
    quote_after c.args.text.now c.loop-plain.words c.loop-plain.rest.now c.loop-plain.invariant.so_far (no_parts c.loop-plain.rest.now c.in_default.ensures.cases) (c.has_quote-2.ensures.0 c.if-has_quote-2.true)

pub loop-plain-preserved : goal.loop-plain-preserved
loop-plain-preserved c =
    let text = c.args.text.now in
    let rest = c.loop-plain.rest.now in
    let plain = c.in-Some.plain.now in
    let after = c.in-Some.after.now in
    let special = c.in-Some-escaped_first.special.now in
    let more = c.in-Some-escaped_first.more.now in
    let cut = parts rest c.in-Some.plain c.in-Some.after c.in-Some.ensures.cases in
    let e = c.loop-plain.invariant.so_far ∙ ap (λ l. flat_map escaped c.loop-plain.words ++ l) cut.0 in
    let quiet = none_in 39 plain (λ has. false≢true (sym c.if-has_quote.false ∙ c.has_quote.ensures.1 has)) in
    let h = one_more text c.loop-plain.words plain after special more e quiet cut.1 c.in-Some-escaped_first.ensures.some in
    let w : c.push-in-Some.new.self ≡ (c.loop-plain.words ++ plain) ++ special = c.in_ok-push-2.ensures.ok ∙ ap (λ l. l ++ special) c.in_ok-push.ensures.ok in
    record {
      so_far = h ∙ ap (λ l. flat_map escaped l ++ more) (sym w);
      utf8 = search rules;
    }

pub returns : goal.returns
returns c =
    let text = c.args.text.now in
    let rest = c.loop-plain.rest.now in
    let quiet = none_in 39 rest (λ has. false≢true (sym c.if-has_quote-2.false ∙ c.has_quote-2.ensures.1 has)) in
    all_read text c.loop-plain.words rest c.loop-plain.invariant.so_far quiet (no_parts rest c.in_default.ensures.cases)
    ∙ ap (λ l. flat_map escaped l) (sym c.in_ok-push-3.ensures.ok)
