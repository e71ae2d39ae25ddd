-- The breaks of versions, object by object.
use Rattle.std.proofs.Common.{arith, ◌≡◌, ◌↔◌, inl, inr, ℕ, zero, suc, ◌+◌, ◌<◌, List, [], ◌∷◌, ◌++◌, length, map, take, Bool, true, false, IsTrue, append-nil, append_assoc, refl, sym, ap, subst, ◌∙◌, slice_get, Some}
use Rattle.std.proofs.lemmas.Bool.{false≢true}
use Rattle.std.proofs.lemmas.Option.{get_or_from_slice_get}
use Rattle.std.proofs.lemmas.List.{take_more, take_all, length-take-le}
use Rattle.serde_json.specs.Data.{Data}
use Rattle.stix_versions.specs.declared.version_break.VersionRule.{VersionRule}
use Rattle.stix_versions.specs.declared.version_break.VersionRule.TheVariants.{CreatedChanged, AfterRevoked, SameVersionTwice}
use Rattle.stix_versions.specs.declared.version_break.VersionBreak.{VersionBreak}
use Rattle.stix_versions.specs.Versions.{BreaksVersionRule, AreBroken, rules_reported, break_of_version, AreVersionBreaksFrom}
use Rattle.stix_versions.specs.inner.Version.{IsNoVersion}
use Rattle.stix_versions.specs.inner.History.{violation_if}

-- one object more
pub breaks_more : (objects : List Data) (at : ℕ) (xs : List Data) (x : Data) (breaks : List VersionBreak) (own : List VersionRule)
    → AreVersionBreaksFrom objects at xs breaks → AreBroken (BreaksVersionRule objects (at + length xs)) rules_reported own
    → AreVersionBreaksFrom objects at (xs ++ x ∷ []) (breaks ++ map (break_of_version (at + length xs)) own)
breaks_more objects at [] x breaks own none is =
    let place : at + 0 ≡ at = omega arith in
    let here : map (break_of_version (at + 0)) own ≡ map (break_of_version at) own = ap (λ n. map (break_of_version n) own) place in (
      own,
      [],
      subst (λ n. AreBroken (BreaksVersionRule objects n) rules_reported own) place is,
      refl,
      ap (λ bs. bs ++ map (break_of_version (at + 0)) own) none ∙ here ∙ sym (append-nil (map (break_of_version at) own)),
    )
breaks_more objects at (y ∷ ys) x breaks own all is =
    let first = all.0 in
    let rest = all.1 in
    let place : at + length (y ∷ ys) ≡ at + 1 + length ys = omega arith in
    let here : map (break_of_version (at + length (y ∷ ys))) own ≡ map (break_of_version (at + 1 + length ys)) own = ap (λ n. map (break_of_version n) own) place in (
      first,
      rest ++ map (break_of_version (at + 1 + length ys)) own,
      all.2,
      breaks_more objects (at + 1) ys x rest own all.3 (subst (λ n. AreBroken (BreaksVersionRule objects n) rules_reported own) place is),
      ap (λ bs. bs ++ map (break_of_version (at + length (y ∷ ys))) own) all.4 ∙ ap (λ bs. (map (break_of_version at) first ++ rest) ++ bs) here
          ∙ append_assoc (map (break_of_version at) first) rest (map (break_of_version (at + 1 + length ys)) own),
    )

-- an object is at the place
there_is : (objects : List Data) (at : ℕ) → at < length objects → (d : Data) × (slice_get objects at ≡ Some d)
there_is [] at inside = absurd (omega arith)
there_is (d ∷ ds) zero inside = (d, refl)
there_is (d ∷ ds) (suc at) inside = there_is ds at (omega arith)

-- the same in a loop over the objects
pub breaks_at : (objects : List Data) (at : ℕ) (breaks : List VersionBreak) (own : List VersionRule) → at < length objects
    → AreVersionBreaksFrom objects 0 (take at objects) breaks → AreBroken (BreaksVersionRule objects at) rules_reported own
    → AreVersionBreaksFrom objects 0 (take (at + 1) objects) (breaks ++ map (break_of_version at) own)
breaks_at objects at breaks own inside all broken =
    let it = there_is objects at inside in
    let x = it.0 in
    let grown : take (at + 1) objects ≡ take at objects ++ x ∷ [] =
    take_more objects at x inside ∙ ap (λ y. take at objects ++ y ∷ []) (get_or_from_slice_get objects at x x it.1) in
    let taken : length (take at objects) ≡ at = length-take-le at objects (omega arith) in
    let count : 0 + length (take at objects) ≡ at = omega arith in
    let more = breaks_more objects 0 (take at objects) x breaks own all (subst (λ n. AreBroken (BreaksVersionRule objects n) rules_reported own) (sym count) broken) in
    subst (λ (ys : List Data). AreVersionBreaksFrom objects 0 ys (breaks ++ map (break_of_version at) own)) (sym grown)
    (subst (λ n. AreVersionBreaksFrom objects 0 (take at objects ++ x ∷ []) (breaks ++ map (break_of_version n) own)) count more)

pub breaks_of_all : (objects : List Data) (at : ℕ) (breaks : List VersionBreak) → at ≡ length objects → AreVersionBreaksFrom objects 0 (take at objects) breaks
    → AreVersionBreaksFrom objects 0 objects breaks
breaks_of_all objects at breaks end is = subst (λ (xs : List Data). AreVersionBreaksFrom objects 0 xs breaks) (take_all at objects (omega arith)) is

-- no version breaks no rule
pub none_broken : (objects : List Data) (at : ℕ) → IsNoVersion objects at → AreBroken (BreaksVersionRule objects at) rules_reported []
none_broken objects at none =
    let not = λ (r : VersionRule) (b : BreaksVersionRule objects at r). none b.id b.created b.modified b.object b.version in
    inr (not CreatedChanged, inr (not AfterRevoked, inr (not SameVersionTwice, refl)))

-- the rules of a list that are broken, where tests tell
abbrev pub so : Bool → VersionRule → List VersionRule
so true r = r ∷ []
so false r = []

one_more : (IsBroken : VersionRule → Type 0) (rule : VersionRule) (rules rest : List VersionRule) (told : Bool) → (IsTrue told ↔ IsBroken rule)
    → AreBroken IsBroken rules rest → AreBroken IsBroken (rule ∷ rules) (so told rule ++ rest)
one_more IsBroken rule rules rest true told is = inl (told.0 refl, (rest, is, refl))
one_more IsBroken rule rules rest false told is = inr (λ broken. false≢true (told.1 broken), is)

pub broken_where : (IsBroken : VersionRule → Type 0) (changed after twice : Bool) → (IsTrue changed ↔ IsBroken CreatedChanged)
    → (IsTrue after ↔ IsBroken AfterRevoked) → (IsTrue twice ↔ IsBroken SameVersionTwice)
    → AreBroken IsBroken rules_reported (so changed CreatedChanged ++ (so after AfterRevoked ++ (so twice SameVersionTwice ++ [])))
broken_where IsBroken changed after twice first second third =
    one_more IsBroken CreatedChanged (AfterRevoked ∷ SameVersionTwice ∷ []) (so after AfterRevoked ++ (so twice SameVersionTwice ++ [])) changed first
    (one_more IsBroken AfterRevoked (SameVersionTwice ∷ []) (so twice SameVersionTwice ++ []) after second
    (one_more IsBroken SameVersionTwice [] [] twice third refl))

mapped : (at : ℕ) (changed after twice : Bool) → violation_if changed (break_of_version at CreatedChanged) ++ (violation_if after (break_of_version at AfterRevoked) ++ violation_if twice (break_of_version at SameVersionTwice))
    ≡ map (break_of_version at) (so changed CreatedChanged ++ (so after AfterRevoked ++ (so twice SameVersionTwice ++ [])))
mapped at true true true = refl
mapped at true true false = refl
mapped at true false true = refl
mapped at true false false = refl
mapped at false true true = refl
mapped at false true false = refl
mapped at false false true = refl
mapped at false false false = refl

pub told_where : (at : ℕ) (found one two three : List VersionBreak) (changed after twice : Bool) → one ≡ found ++ violation_if changed (break_of_version at CreatedChanged)
    → two ≡ one ++ violation_if after (break_of_version at AfterRevoked) → three ≡ two ++ violation_if twice (break_of_version at SameVersionTwice)
    → three ≡ found ++ map (break_of_version at) (so changed CreatedChanged ++ (so after AfterRevoked ++ (so twice SameVersionTwice ++ [])))
told_where at found one two three changed after twice first second third =
    let a = violation_if changed (break_of_version at CreatedChanged) in
    let b = violation_if after (break_of_version at AfterRevoked) in
    let c = violation_if twice (break_of_version at SameVersionTwice) in
    third ∙ ap (λ bs. bs ++ c) (second ∙ ap (λ bs. bs ++ b) first) ∙ append_assoc (found ++ a) b c ∙ append_assoc found a (b ++ c)
    ∙ ap (λ bs. found ++ bs) (mapped at changed after twice)
