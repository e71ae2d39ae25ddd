-- Media types cut at their first semicolon.
use Rattle.std.proofs.Common.{◌≡◌, ◌↔◌, ℕ, false, List, [], length, take, drop, get_or, Some, None, codes, sym, ap, subst, ◌∙◌, arith}
use Rattle.std.specs.Prelude.{All}
use Rattle.std.specs.List.{slice_split, position_or_len}
use Rattle.std.proofs.lemmas.Bool.{ne_eqb}
use Rattle.std.proofs.lemmas.List.{take_all}
use Rattle.std.proofs.lemmas.List.Elements.{All-nil, All-from_get_or}
use Rattle.std.proofs.lemmas.List.Splits.{slice_split_none, slice_split_first}
use Rattle.std.proofs.lemmas.Str.Pattern.{IsSplitOnceResult, split_parts, split_once_first}
use denote.Ref.{Bor}
use Rattle.taxii_routes.specs.MediaType.{IsNamedRange, is_semicolon, range_of, parameters_of, NamesNoOtherVersion, IsTaxii}

-- ---- at a semicolon

pub range_some : (text : List ℕ) (cut : Bor (List ℕ) × Bor (List ℕ)) → IsSplitOnceResult 59 text (Some cut) → cut.0.now ≡ range_of text
range_some text cut is = (split_once_first 59 text (Some cut) is (omega arith)).1

pub range_none : (text : List ℕ) → IsSplitOnceResult 59 text None → text ≡ range_of text
range_none text is =
    let end : position_or_len is_semicolon text ≡ length text = split_once_first 59 text None is (omega arith) in
    sym (ap (λ n. take n text) end ∙ take_all (length text) text (omega arith))

parameters_some : (text : List ℕ) (cut : Bor (List ℕ) × Bor (List ℕ)) → IsSplitOnceResult 59 text (Some cut) → parameters_of text ≡ slice_split is_semicolon cut.1.now
parameters_some text cut is =
    let at = split_once_first 59 text (Some cut) is (omega arith) in
    ap (drop 1) (slice_split_first is_semicolon text 0 at.0) ∙ ap (slice_split is_semicolon) (sym at.2)

parameters_none : (text : List ℕ) → IsSplitOnceResult 59 text None → parameters_of text ≡ []
parameters_none text is =
    let free = split_parts 59 text None is (omega arith) in
    ap (drop 1) (slice_split_none is_semicolon text (All-from_get_or (λ b. is_semicolon b ≡ false) text 0 (λ i inside. ne_eqb (get_or text i 0) 59 (free i inside))))

pub taxii_some : (text : List ℕ) (cut : Bor (List ℕ) × Bor (List ℕ)) → IsSplitOnceResult 59 text (Some cut)
    → IsTaxii text ↔ (IsNamedRange (codes "application/taxii+json") cut.0.now × All NamesNoOtherVersion (slice_split is_semicolon cut.1.now))
taxii_some text cut is =
    let range = range_some text cut is in
    let parameters = parameters_some text cut is in (
      λ taxii. (subst (IsNamedRange (codes "application/taxii+json")) (sym range) taxii.name, subst (All NamesNoOtherVersion) parameters taxii.version),
      λ (name, version). record { name = subst (IsNamedRange (codes "application/taxii+json")) range name; version = subst (All NamesNoOtherVersion) (sym parameters) version },
    )

pub taxii_none : (text : List ℕ) → IsSplitOnceResult 59 text None → IsTaxii text ↔ IsNamedRange (codes "application/taxii+json") text
taxii_none text is =
    let range = range_none text is in
    let parameters = parameters_none text is in (
      λ taxii. subst (IsNamedRange (codes "application/taxii+json")) (sym range) taxii.name,
      λ name. record { name = subst (IsNamedRange (codes "application/taxii+json")) range name; version = subst (All NamesNoOtherVersion) (sym parameters) (All-nil NamesNoOtherVersion) },
    )
