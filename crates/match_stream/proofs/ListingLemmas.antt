-- The answers to the rows of a log, one after another, are its listing.
use Rattle.std.proofs.Common.{◌≡◌, ℕ, suc, ◌≤◌, ◌<◌, List, [], ◌∷◌, ◌++◌, length, refl, sym, ◌∙◌, ap, subst, arith, append_assoc, append-nil}
use Rattle.std.specs.Prelude.{true, ◌&&◌, not, nat_eq, nat_lt, ◌↔◌}
use Rattle.std.specs.Ordering.{nat_cmp}
use Rattle.std.specs.declared.cmp.Ordering.TheVariants.{Less}
use Rattle.std.proofs.lemmas.Bool.{and_parts, eqb-true, lt-ltb}
use Rattle.match_bindings.specs.declared.log_entry.LogEntry.{LogEntry}
use Rattle.match_bindings.specs.NumberedPattern.{NumberedPattern}
use Rattle.match_bindings.specs.BindTree.{BindTree, has, greatest}
use Rattle.match_bindings.specs.Log.{Observed, observed_in}
use Rattle.match_bindings.specs.Test.{is_binding}
use Rattle.match_bindings.specs.Once.{bit, is_same_tree, count, Exactly}
use Rattle.match_bindings.specs.Flat.{comes_before, Ascends}
use Rattle.match_bindings.specs.Listing.{IsListing}
use Rattle.match_stream.specs.Answer.{IsAnswer, AnswersAfter, AreAnswers, joined_answers}
use Rattle.match_bindings.proofs.OnceLemmas.{same_self, count_append}
use Rattle.match_pruning.proofs.NumberLemmas.{greatest_binding}
use Rattle.match_stream.proofs.StoreLemmas.{bit_positive, sum_bits}
use Rattle.match_stream.proofs.LastingLemmas.{lasting}
use Rattle.match_stream.proofs.LogLemmas.{holds_inside, length_more, continues, nothing}
use Rattle.match_stream.proofs.ShapeLemmas.{Rule}
use Rattle.match_stream.proofs.AnswerLemmas.{ends_at}
use Rattle.match_stream.proofs.CountLemmas.{answer_counts}

-- a listing is what passes the test, each once, ascending
abbrev pub ByTest : Type 0
ByTest = (o : Observed) (p : NumberedPattern) (xs : List BindTree) → IsListing o p xs ↔ (Exactly (is_binding o p) xs × Ascends xs)

-- what has the lesser greatest number comes first
pub lesser_first : (x y : BindTree) → greatest x < greatest y → comes_before x y ≡ true
lesser_first x y h =
    let yes_it_is : nat_lt (greatest x) (greatest y) ≡ true = lt-ltb (greatest x) (greatest y) h in
    let less : nat_cmp (greatest x) (greatest y) ≡ Less = rw yes_it_is refl in
    rw less refl

pub ascends_append : (xs ys : List BindTree) → Ascends xs → Ascends ys → ((x y : BindTree) → 0 < count x xs → 0 < count y ys → comes_before x y ≡ true) → Ascends (xs ++ ys)
ascends_append [] ys hx hy h = hy
ascends_append (x ∷ []) [] hx hy h = tt
ascends_append (x ∷ []) (y ∷ ys) hx hy h =
    let me : is_same_tree x x ≡ true = same_self x in let you : is_same_tree y y ≡ true = same_self y in
    (h x y (rw me (omega arith)) (rw you (omega arith)), hy)
ascends_append (x ∷ z ∷ xs) ys hx hy h = (hx.0, ascends_append (z ∷ xs) ys hx.1 hy (λ a b ka kb. h a b (omega (arith, ka)) kb))

-- one row more
listing_more : Rule → ByTest → (p : NumberedPattern) (log : List LogEntry) (r : LogEntry) (xs ys : List BindTree) → IsListing (observed_in log) p xs → IsAnswer p (log ++ r ∷ []) ys →
    IsListing (observed_in (log ++ r ∷ [])) p (xs ++ ys)
listing_more rule test p log r xs ys hx hy = (test (observed_in (log ++ r ∷ [])) p (xs ++ ys)).1 (exactly, ascends_append xs ys old.1 hy.ascends before) where
  old : Exactly (is_binding (observed_in log) p) xs × Ascends xs
  old = (test (observed_in log) p xs).0 hx

  long : length (log ++ r ∷ []) ≡ suc (length log)
  long = length_more log r

  counted : (k i : ℕ) → (observed_in (log ++ r ∷ [])).holds k i ≡ true → i ≤ suc (length log)
  counted k i h = let within_log : i ≤ length (log ++ r ∷ []) = holds_inside (log ++ r ∷ []) k i h in omega (arith, long)

  new : (x : BindTree) → count x ys ≡ bit (is_binding (observed_in (log ++ r ∷ [])) p x && nat_eq (greatest x) (suc (length log)))
  new x = answer_counts rule p (log ++ r ∷ []) ys hy x ∙ ap (λ n. bit (is_binding (observed_in (log ++ r ∷ [])) p x && nat_eq (greatest x) n)) long

  exactly : (x : BindTree) → count x (xs ++ ys) ≡ bit (is_binding (observed_in (log ++ r ∷ [])) p x)
  exactly x =
      let one : count x xs ≡ bit (is_binding (observed_in (log ++ r ∷ [])) p x && not (has (suc (length log)) x)) =
      old.0 x ∙ ap bit (lasting (observed_in log) (observed_in (log ++ r ∷ [])) (suc (length log)) (continues log r) p x) in
      let two : count x ys ≡ bit (is_binding (observed_in (log ++ r ∷ [])) p x && has (suc (length log)) x) =
      new x ∙ ap bit (sym (ends_at (observed_in (log ++ r ∷ [])) (suc (length log)) counted p x)) in
      count_append x xs ys ∙ (rw (one, two) (sum_bits (is_binding (observed_in (log ++ r ∷ [])) p x) (has (suc (length log)) x)))

  before : (x y : BindTree) → 0 < count x xs → 0 < count y ys → comes_before x y ≡ true
  before x y kx ky =
      let b : is_binding (observed_in log) p x ≡ true = bit_positive (is_binding (observed_in log) p x) (count x xs) (old.0 x) kx in
      let low : greatest x ≤ length log = greatest_binding (observed_in log) (length log) (holds_inside log) p x b in
      let e = bit_positive (is_binding (observed_in (log ++ r ∷ [])) p y && nat_eq (greatest y) (suc (length log))) (count y ys) (new y) ky in
      let last : greatest y ≡ suc (length log) = eqb-true (greatest y) (suc (length log)) (and_parts (is_binding (observed_in (log ++ r ∷ [])) p y) (nat_eq (greatest y) (suc (length log))) e).1 in
      lesser_first x y (omega arith)

listing_after : Rule → ByTest → (p : NumberedPattern) (before log : List LogEntry) (answers : List (List BindTree)) (xs : List BindTree) →
    IsListing (observed_in before) p xs → AnswersAfter p before log answers → IsListing (observed_in (before ++ log)) p (xs ++ joined_answers answers)
listing_after rule test p before [] [] xs h k =
    subst (λ (log : List LogEntry). IsListing (observed_in log) p (xs ++ [])) (sym (append-nil before))
    (subst (λ (ys : List BindTree). IsListing (observed_in before) p ys) (sym (append-nil xs)) h)
listing_after rule test p before (r ∷ log) (ys ∷ answers) xs h k =
    subst (λ (l : List LogEntry). IsListing (observed_in l) p (xs ++ (ys ++ joined_answers answers))) (append_assoc before (r ∷ []) log)
    (subst (λ (zs : List BindTree). IsListing (observed_in ((before ++ r ∷ []) ++ log)) p zs) (append_assoc xs ys (joined_answers answers))
    (listing_after rule test p (before ++ r ∷ []) log answers (xs ++ ys) (listing_more rule test p before r xs ys h k.0) k.1))
listing_after rule test p before [] (ys ∷ answers) xs h k = absurd k
listing_after rule test p before (r ∷ log) [] xs h k = absurd k

pub answers_listed : Rule → ByTest → (p : NumberedPattern) (log : List LogEntry) (answers : List (List BindTree)) → AreAnswers p log answers → IsListing (observed_in log) p (joined_answers answers)
answers_listed rule test p log answers h =
    listing_after rule test p [] log answers [] ((test (observed_in []) p []).1 (λ x. (let no = nothing p x in rw no refl), tt)) h
