-- The test, kind by kind, and the loop over the parts of a Many.
use Rattle.std.proofs.Common.{rules, ◌≡◌, ◌+◌, ◌∙◌, refl, sym, ap, length, map, ◌≤◌, ◌<◌, get_or, take, Some, None}
use Rattle.std.specs.Prelude.{slice_get, true, ◌&&◌, nat_lt}
use Rattle.std.proofs.lemmas.List.{length-map}
use Rattle.pattern_types.specs.Leaves.{leaves}
use Rattle.match_bindings.specs.NumberedPattern.{numbered_from}
use Rattle.match_bindings.specs.BindTree.{tree_of, many_of, disjoint, greatest}
use Rattle.match_bindings.specs.Log.{observed_in}
use Rattle.match_bindings.specs.Test.{is_binding, are_repeats}
use Rattle.match_bindings.specs.declared.span.Span.{Span}
use Rattle.match_bindings.specs.inner.Candidates.{verified, span_if, span_of, joined_span, admits}
use Rattle.match_bindings.proofs.BindTreeLemmas.{tree_many}
use Rattle.match_bindings.proofs.IsBindingTestLemmas.{either_many, no_pair, no_ordered_pair, no_span, left_fails, right_fails, sides_pass, wrong_count, starts_well, starts_badly, first_span, next_chain, goes_well, passed, failed}
use Rattle.match_bindings.proofs.check.+verify.Goals as goal

pub verify-returns-in-Many : goal.verify-returns-in-Many
verify-returns-in-Many t c =
    let e = c.in-Either.is in let f = c.in-Many.is in
    let g = tree_many c.in-Many.field-0 in
    rw (e, f, g, either_many) refl

pub verify-returns-in-Both : goal.verify-returns-in-Both
verify-returns-in-Both t c = rw (c.in-Both.is, ← c.deref.ensures, ← c.deref-in-Both.ensures) (c.verify_sides.ensures.both refl)

pub verify-returns-in-Then : goal.verify-returns-in-Then
verify-returns-in-Then t c = rw (c.in-Then.is, ← c.deref-in-Then.ensures, ← c.deref-in-Then-2.ensures) (c.verify_sides-in-Then.ensures.ordered refl)

pub verify_sides-returns-in_err-first-clause-both : goal.verify_sides-returns-in_err-first-clause-both
verify_sides-returns-in_err-first-clause-both t c =
    let o = observed_in c.args.log.now in
    let p = numbered_from c.args.leaf c.args.left.now in
    let q = numbered_from (c.args.leaf + leaves c.args.left.now) c.args.right.now in
    let x = tree_of c.args.bind.now in
    λ _. c.from_residual.ensures ∙ no_span _ (span_of o x) (no_pair o p q x c.in_err-first.ensures.none)

pub verify_sides-returns-in_err-first_span-clause-both : goal.verify_sides-returns-in_err-first_span-clause-both
verify_sides-returns-in_err-first_span-clause-both t c =
    let o = observed_in c.args.log.now in
    let p = numbered_from c.args.leaf c.args.left.now in
    let q = numbered_from (c.args.leaf + leaves c.args.left.now) c.args.right.now in
    let x = tree_of c.args.bind.now in
    let a = tree_of c.in_ok-first.first.now in
    let b = tree_of c.in_ok-first.second.now in
    λ _. c.from_residual-in_err-first_span.ensures ∙ no_span _ (span_of o x) (left_fails o p q a b x c.in_ok-first.ensures.some (sym {b = verified o p a} c.verify.ensures ∙ c.in_err-first_span.was)).0

pub verify_sides-returns-in_err-second_span-clause-both : goal.verify_sides-returns-in_err-second_span-clause-both
verify_sides-returns-in_err-second_span-clause-both t c =
    let o = observed_in c.args.log.now in
    let p = numbered_from c.args.leaf c.args.left.now in
    let q = numbered_from (c.args.leaf + leaves c.args.left.now) c.args.right.now in
    let x = tree_of c.args.bind.now in
    let a = tree_of c.in_ok-first.first.now in
    let b = tree_of c.in_ok-first.second.now in
    let first : verified o p a ≡ Some c.in_ok-first_span.first_span = sym {b = verified o p a} c.verify.ensures ∙ c.in_ok-first_span.was in
    let second : verified o q b ≡ None = search rules in
    λ _. c.from_residual-in_err-second_span.ensures ∙ no_span _ (span_of o x) (right_fails o p q a b x c.in_ok-first_span.first_span c.in_ok-first.ensures.some first second).0

pub verify_sides-returns-clause-both : goal.verify_sides-returns-clause-both
verify_sides-returns-clause-both t c =
    let o = observed_in c.args.log.now in
    let p = numbered_from c.args.leaf c.args.left.now in
    let q = numbered_from (c.args.leaf + leaves c.args.left.now) c.args.right.now in
    let x = tree_of c.args.bind.now in
    let a = tree_of c.in_ok-first.first.now in
    let b = tree_of c.in_ok-first.second.now in
    let s = c.in_ok-first_span.first_span in
    let r = c.in_ok-second_span.second_span in
    let first : verified o p a ≡ Some s = sym {b = verified o p a} c.verify.ensures ∙ c.in_ok-first_span.was in
    let second : verified o q b ≡ Some r = search rules in
    λ e. c.joined.ensures ∙ ap (λ j. span_if (admits j s r && c.are_disjoint-apart.result) (joined_span s r)) e
    ∙ (sides_pass o p q a b x s r c.are_disjoint-apart.result c.in_ok-first.ensures.some first second c.are_disjoint-apart.ensures).0

pub verify_sides-returns-in_err-first-clause-ordered : goal.verify_sides-returns-in_err-first-clause-ordered
verify_sides-returns-in_err-first-clause-ordered t c =
    let o = observed_in c.args.log.now in
    let p = numbered_from c.args.leaf c.args.left.now in
    let q = numbered_from (c.args.leaf + leaves c.args.left.now) c.args.right.now in
    let x = tree_of c.args.bind.now in
    λ _. c.from_residual.ensures ∙ no_span _ (span_of o x) (no_ordered_pair o p q x c.in_err-first.ensures.none)

pub verify_sides-returns-in_err-first_span-clause-ordered : goal.verify_sides-returns-in_err-first_span-clause-ordered
verify_sides-returns-in_err-first_span-clause-ordered t c =
    let o = observed_in c.args.log.now in
    let p = numbered_from c.args.leaf c.args.left.now in
    let q = numbered_from (c.args.leaf + leaves c.args.left.now) c.args.right.now in
    let x = tree_of c.args.bind.now in
    let a = tree_of c.in_ok-first.first.now in
    let b = tree_of c.in_ok-first.second.now in
    λ _. c.from_residual-in_err-first_span.ensures ∙ no_span _ (span_of o x) (left_fails o p q a b x c.in_ok-first.ensures.some (sym {b = verified o p a} c.verify.ensures ∙ c.in_err-first_span.was)).1

pub verify_sides-returns-in_err-second_span-clause-ordered : goal.verify_sides-returns-in_err-second_span-clause-ordered
verify_sides-returns-in_err-second_span-clause-ordered t c =
    let o = observed_in c.args.log.now in
    let p = numbered_from c.args.leaf c.args.left.now in
    let q = numbered_from (c.args.leaf + leaves c.args.left.now) c.args.right.now in
    let x = tree_of c.args.bind.now in
    let a = tree_of c.in_ok-first.first.now in
    let b = tree_of c.in_ok-first.second.now in
    let first : verified o p a ≡ Some c.in_ok-first_span.first_span = sym {b = verified o p a} c.verify.ensures ∙ c.in_ok-first_span.was in
    let second : verified o q b ≡ None = search rules in
    λ _. c.from_residual-in_err-second_span.ensures ∙ no_span _ (span_of o x) (right_fails o p q a b x c.in_ok-first_span.first_span c.in_ok-first.ensures.some first second).1

pub verify_sides-returns-clause-ordered : goal.verify_sides-returns-clause-ordered
verify_sides-returns-clause-ordered t c =
    let o = observed_in c.args.log.now in
    let p = numbered_from c.args.leaf c.args.left.now in
    let q = numbered_from (c.args.leaf + leaves c.args.left.now) c.args.right.now in
    let x = tree_of c.args.bind.now in
    let a = tree_of c.in_ok-first.first.now in
    let b = tree_of c.in_ok-first.second.now in
    let s = c.in_ok-first_span.first_span in
    let r = c.in_ok-second_span.second_span in
    let first : verified o p a ≡ Some s = sym {b = verified o p a} c.verify.ensures ∙ c.in_ok-first_span.was in
    let second : verified o q b ≡ Some r = search rules in
    λ e. c.joined.ensures ∙ ap (λ j. span_if (admits j s r && c.are_disjoint-apart.result) (joined_span s r)) e
    ∙ (sides_pass o p q a b x s r c.are_disjoint-apart.result c.in_ok-first.ensures.some first second c.are_disjoint-apart.ensures).1

pub verify_repeats-returns-then-parts-count : goal.verify_repeats-returns-then-parts-count
verify_repeats-returns-then-parts-count t c =
    let xs = map tree_of c.args.parts.now in
    let long : length xs ≡ length c.args.parts.now = length-map c.args.parts.now tree_of in
    let f = is_binding (observed_in c.args.log.now) (numbered_from c.args.leaf c.args.pattern.now) in
    sym (ap (λ b. span_if b (span_of (observed_in c.args.log.now) (many_of xs))) (wrong_count f c.args.count xs (λ e. c.if-parts-count.true (sym long ∙ e))))

pub verify_repeats-returns-in_err-span : goal.verify_repeats-returns-in_err-span
verify_repeats-returns-in_err-span t c =
    let o = observed_in c.args.log.now in
    let f = is_binding o (numbered_from c.args.leaf c.args.pattern.now) in
    let x = c.in_ok-first.field-0.now in
    let got : slice_get c.args.parts.now 0 ≡ Some x = search rules in
    let long : length c.args.parts.now ≡ c.args.count = search rules in
    let none : span_if (f (tree_of x)) (span_of o (tree_of x)) ≡ None = search rules in
    let answer : c.from_residual-in_err-span.result ≡ None = search rules in
    let bad = starts_badly f c.args.parts.now c.args.count x got long (failed (f (tree_of x)) (span_of o (tree_of x)) none) in
    answer ∙ sym (ap (λ b. span_if b (span_of o (many_of (map tree_of c.args.parts.now)))) bad)

pub verify_repeats-loop-at-init : goal.verify_repeats-loop-at-init
verify_repeats-loop-at-init t c =
    let o = observed_in c.args.log.now in
    let f = is_binding o (numbered_from c.args.leaf c.args.pattern.now) in
    let x = c.in_ok-first.field-0.now in
    let got : slice_get c.args.parts.now 0 ≡ Some x = search rules in
    let long : length c.args.parts.now ≡ c.args.count = search rules in
    let some : span_if (f (tree_of x)) (span_of o (tree_of x)) ≡ Some c.in_ok-span.span = search rules in
    let parts = passed (f (tree_of x)) (span_of o (tree_of x)) c.in_ok-span.span some in
    record {
      rest = starts_well f c.args.parts.now c.args.count x got long parts.0;
      span = sym parts.1 ∙ first_span o c.args.parts.now x got;
    }

pub verify_repeats-loop-at-preserved : goal.verify_repeats-loop-at-preserved
verify_repeats-loop-at-preserved t c =
    let o = observed_in c.args.log.now in
    let f = is_binding o (numbered_from c.args.leaf c.args.pattern.now) in
    let parts = c.args.parts.now in
    let at = c.loop-at.at in
    let x = c.index-parts-at.result in
    let m = many_of (map tree_of (take at parts)) in
    let span = c.loop-at.span in
    let next = c.in_ok-next.next in
    let low : 1 ≤ at = search rules in
    let high : at < length parts = search rules in
    let here : get_or parts at x ≡ x = search rules in
    let some : span_if (f (tree_of x)) (span_of o (tree_of x)) ≡ Some next = search rules in
    let apart : c.all_disjoint-apart.result ≡ disjoint m (tree_of x) = search rules in
    let both : span_if (nat_lt span.greatest next.greatest && c.all_disjoint-apart.result) (joined_span span next) ≡ Some c.in_ok-span-2.span = search rules in
    let one = passed (f (tree_of x)) (span_of o (tree_of x)) next some in
    let two = passed (nat_lt span.greatest next.greatest && c.all_disjoint-apart.result) (joined_span span next) c.in_ok-span-2.span both in
    let test : (nat_lt (greatest m) (greatest (tree_of x)) && disjoint m (tree_of x)) ≡ true
    = ap (λ b. nat_lt (greatest m) (greatest (tree_of x)) && b) (sym apart)
    ∙ ap (λ (s : Span). nat_lt s.greatest (greatest (tree_of x)) && c.all_disjoint-apart.result) (sym c.loop-at.invariant.span)
    ∙ ap (λ (s : Span). nat_lt span.greatest s.greatest && c.all_disjoint-apart.result) one.1
    ∙ two.0 in
    record {
      rest = goes_well f parts at x (are_repeats f c.args.count (many_of (map tree_of parts))) low high here c.loop-at.invariant.rest one.0 test;
      span = sym two.1
          ∙ ap (λ (s : Span). joined_span s next) c.loop-at.invariant.span
          ∙ ap (λ (s : Span). joined_span (span_of o m) s) (sym one.1)
          ∙ ap (span_of o) (sym (next_chain parts at x low high here));
    }
