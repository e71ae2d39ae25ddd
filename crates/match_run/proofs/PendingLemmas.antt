-- Lines on their way to the output: so much of them is written, and the rest is pending.
use Rattle.std.proofs.Common.{◌≡◌, ℕ, suc, ◌+◌, ◌≤◌, ◌<◌, List, [], ◌∷◌, ◌++◌, length, take, drop, Option, None, Some, Result, Ok, Err, OnOk, OnErr, refl, subst, sym, ap, ◌∙◌, append_assoc, length-append, arith, map, get_or, drop-cons}
use Rattle.std.proofs.lemmas.List.{append-nil, map-append, take-append-le, drop-append-le, take-append-drop, length-drop, length-take-le}
use Rattle.std.proofs.Math.Seq.{take-length, drop-length, take-add}
use Rattle.flow_edges.specs.Flow.{written_with, WritesPrefix}
use Rattle.std.proofs.lemmas.Grind.{flat_map-append}
use Rattle.match_bindings.specs.declared.bind.Bind.{Bind}
use Rattle.match_bindings.specs.BindTree.{tree_of}
use Rattle.match_bindings.specs.Line.{line_text}
use Rattle.match_run.specs.Listing.{listing_text}
use Rattle.match_run.specs.inner.Rows.{IsPartBuffered}

pub written_with-nil : (w : Option (List ℕ)) → w ≡ written_with [] w
written_with-nil None = refl
written_with-nil (Some bytes) = ap Some (sym (append-nil bytes))

pub written_with-both : (a b : List ℕ) (w : Option (List ℕ)) → written_with b (written_with a w) ≡ written_with (a ++ b) w
written_with-both a b None = refl
written_with-both a b (Some bytes) = ap Some (append_assoc bytes a b)

-- nothing is on its way yet
pub way-start : (w : Option (List ℕ)) → IsPartBuffered [] [] w w
way-start w = record { count = 0; within = omega arith; written_is = written_with-nil w; pending_is = refl }

-- more text comes, which is pending
pub way-more : (text more pending : List ℕ) (first written : Option (List ℕ)) → IsPartBuffered text pending first written
    → IsPartBuffered (text ++ more) (pending ++ more) first written
way-more text more pending first written way = record {
  count = way.count;
  within = omega (arith, way.within, length-append text more);
  written_is = way.written_is ∙ ap (λ (t : List ℕ). written_with t first) (sym (take-append-le way.count text more way.within));
  pending_is = ap (λ (t : List ℕ). t ++ more) way.pending_is ∙ sym (drop-append-le way.count text more way.within);
}

-- what is pending is written
written_all : (text pending : List ℕ) (first written after : Option (List ℕ)) → IsPartBuffered text pending first written
    → after ≡ written_with pending written → after ≡ written_with text first
written_all text pending first written after way is =
    is ∙ ap (λ (t : List ℕ). written_with t written) way.pending_is ∙ ap (written_with (drop way.count text)) way.written_is
    ∙ written_with-both (take way.count text) (drop way.count text) first
    ∙ ap (λ (t : List ℕ). written_with t first) (take-append-drop way.count text)

pub way-written : (text pending : List ℕ) (first written after : Option (List ℕ)) → IsPartBuffered text pending first written
    → after ≡ written_with pending written → after ≡ written_with text first
way-written = written_all

pub way-flushed : (text pending : List ℕ) (first written after : Option (List ℕ)) → IsPartBuffered text pending first written
    → after ≡ written_with pending written → IsPartBuffered text [] first after
way-flushed text pending first written after way is = record {
  count = length text;
  within = omega arith;
  written_is = written_all text pending first written after way is ∙ ap (λ (t : List ℕ). written_with t first) (sym (take-length text));
  pending_is = sym (drop-length text);
}

-- of what is pending a prefix is written
pub way-cut : (text pending : List ℕ) (first written after : Option (List ℕ)) → IsPartBuffered text pending first written
    → WritesPrefix pending written after → WritesPrefix text first after
way-cut text pending first written after way (n, within, is) = (
  way.count + n,
  omega (arith, within, way.within, ap length way.pending_is, length-drop way.count text),
  is ∙ ap (λ (t : List ℕ). written_with (take n t) written) way.pending_is ∙ ap (written_with (take n (drop way.count text))) way.written_is
      ∙ written_with-both (take way.count text) (take n (drop way.count text)) first
      ∙ ap (λ (t : List ℕ). written_with t first) (sym (take-add way.count n text)),
)

-- nothing more is written
pub way-stopped : (text pending : List ℕ) (first written : Option (List ℕ)) → IsPartBuffered text pending first written → WritesPrefix text first written
way-stopped text pending first written way = (way.count, way.within, way.written_is)

-- a prefix of a text is one of a longer text
pub prefix-more : (text more : List ℕ) (first written : Option (List ℕ)) → WritesPrefix text first written → WritesPrefix (text ++ more) first written
prefix-more text more first written (n, within, is) = (
  n,
  omega (arith, within, length-append text more),
  is ∙ ap (λ (t : List ℕ). written_with t first) (sym (take-append-le n text more within)),
)

-- ---- a line more

pub on_ok : {T E P Q : Type 0} (answer : Result T E) → (P → Q) → OnOk answer P → OnOk answer Q
on_ok (Ok value) each fact = each fact
on_ok (Err refusal) each fact = tt

pub fails_so : {T E P : Type 0} (answer : Result T E) → P → OnErr answer P
fails_so (Ok value) fact = tt
fails_so (Err refusal) fact = fact

on_err : {T E P Q : Type 0} (answer : Result T E) → (P → Q) → OnErr answer P → OnErr answer Q
on_err (Ok value) each fact = tt
on_err (Err refusal) each fact = each fact

module _ (text line pending held : List ℕ) (first written after : Option (List ℕ)) (way : IsPartBuffered text pending first written)
    (is : held ≡ pending ++ line) where
  pub way-line : IsPartBuffered (text ++ line) held first written
  way-line = subst (λ (p : List ℕ). IsPartBuffered (text ++ line) p first written) (sym is) (way-more text line pending first written way)

  pub way-line-written : {T E : Type 0} (rest : List ℕ) (answer : Result T E) → OnOk answer ((rest ≡ []) × (after ≡ written_with held written))
      → OnOk answer (IsPartBuffered (text ++ line) rest first after)
  way-line-written rest answer fact = on_ok answer (λ done. subst (λ (p : List ℕ). IsPartBuffered (text ++ line) p first after) (sym done.0)
      (way-flushed (text ++ line) held first written after way-line done.1)) fact

  pub way-line-cut : {T E : Type 0} (answer : Result T E) → OnErr answer (WritesPrefix held written after) → OnErr answer (WritesPrefix (text ++ line) first after)
  way-line-cut answer fact = on_err answer (λ cut. way-cut (text ++ line) held first written after way-line cut) fact

-- ---- the lines of binds, of which one is added

pub lines-cut : (binds : List Bind) (i : ℕ) (bind : Bind) → i < length binds → bind ≡ get_or binds i bind
    → listing_text (map tree_of binds) ≡ (listing_text (map tree_of (take i binds)) ++ line_text (tree_of bind)) ++ listing_text (map tree_of (drop (i + 1) binds))
lines-cut binds i bind within is =
    let lines = λ (bs : List Bind). listing_text (map tree_of bs) in
    let next : suc i ≡ i + 1 = omega arith in
    let rest : drop i binds ≡ bind ∷ drop (i + 1) binds = drop-cons binds i bind within ∙ ap (λ (b : Bind). b ∷ drop (suc i) binds) (sym is) ∙ ap (λ (n : ℕ). bind ∷ drop n binds) next in
    ap lines (sym (take-append-drop i binds) ∙ ap (λ (r : List Bind). take i binds ++ r) rest)
    ∙ lines-append (take i binds) (bind ∷ drop (i + 1) binds)
    ∙ sym (append_assoc (lines (take i binds)) (line_text (tree_of bind)) (lines (drop (i + 1) binds)))
  where
    lines-append : (xs ys : List Bind) → listing_text (map tree_of (xs ++ ys)) ≡ listing_text (map tree_of xs) ++ listing_text (map tree_of ys)
    lines-append xs ys = ap listing_text (map-append tree_of xs ys) ∙ flat_map-append line_text (map tree_of xs) (map tree_of ys)

-- a prefix of the lines up to one of them is a prefix of all
pub cut-of-all : (text : List ℕ) (binds : List Bind) (i : ℕ) (bind : Bind) (first written : Option (List ℕ)) → i < length binds → bind ≡ get_or binds i bind
    → WritesPrefix ((text ++ listing_text (map tree_of (take i binds))) ++ line_text (tree_of bind)) first written
    → WritesPrefix (text ++ listing_text (map tree_of binds)) first written
cut-of-all text binds i bind first written within is prefix =
    let before = listing_text (map tree_of (take i binds)) in
    let line = line_text (tree_of bind) in
    let rest = listing_text (map tree_of (drop (i + 1) binds)) in
    subst (λ (t : List ℕ). WritesPrefix t first written)
    (ap (λ (t : List ℕ). t ++ rest) (append_assoc text before line) ∙ append_assoc text (before ++ line) rest
    ∙ ap (λ (t : List ℕ). text ++ t) (sym (lines-cut binds i bind within is)))
    (prefix-more ((text ++ before) ++ line) rest first written prefix)
