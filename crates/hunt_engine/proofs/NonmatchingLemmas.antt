-- A row at which no bracket of a pattern holds: nothing ends there, and what is retained was retained before.
use Rattle.std.proofs.Common.{◌≡◌, ℕ, suc, ◌+◌, ◌≤◌, ◌<◌, ℤ, ◌≤ℤ◌, List, [], ◌∷◌, ◌++◌, length, refl, sym, ◌∙◌, ap, subst, arith}
use Rattle.std.specs.Prelude.{Bool, true, false, ◌&&◌, not, nat_eq, map}
use Rattle.std.proofs.lemmas.Bool.{eqb-true, eq-eqb, and_parts}
use Rattle.match_bindings.specs.declared.log_entry.LogEntry.{LogEntry}
use Rattle.match_bindings.specs.NumberedPattern.{NumberedPattern, Repeats}
use Rattle.match_bindings.specs.BindTree.{BindTree, has, greatest}
use Rattle.match_bindings.specs.Log.{Observed, IsInOrder, observed_in, truth}
use Rattle.match_bindings.specs.Span.{earliest, latest}
use Rattle.match_bindings.specs.Test.{is_binding}
use Rattle.match_bindings.specs.Once.{is_same_tree, count}
use Rattle.match_bindings.proofs.OnceLemmas.{same_self}
use Rattle.match_pruning.specs.Stores.{StorePart, a_side, a_level, Store, stores_of}
use Rattle.match_pruning.specs.PartialMatchTree.{PartialMatchTree, partial_match_of}
use Rattle.match_stream.specs.RetainedPart.{MayHold, HoldsRetained, AreRetained, time_of, held_count}
use Rattle.match_stream.specs.Answer.{IsAnswer, IsWithinLimit}
use Rattle.match_stream.specs.Passing.{IsNonmatching}
use Rattle.match_pruning.specs.inner.Retains.{retains}
use Rattle.match_pruning.specs.inner.Steps.{kept}
use Rattle.match_stream.proofs.StoreLemmas.{AreHeld, held_same, exactly_same, bit_positive, kept_law}
use Rattle.match_stream.proofs.LastingLemmas.{Continues, SameTimes, same_times, lasting}
use Rattle.match_stream.proofs.LogLemmas.{get_seam, holds_inside, length_more, continues, time_new, nothing}
use Rattle.match_stream.proofs.ShapeLemmas.{Rule, to_held, from_held}
use Rattle.match_stream.proofs.AnswerLemmas.{ends_at}
use Rattle.match_stream.proofs.CountLemmas.{may_hold, may_rule}

-- ---- where nothing is a binding

holds_none : Rule → (o : Observed) (now : ℤ) (store : Store) → ((q : NumberedPattern) (x : BindTree) → is_binding o q x ≡ false) → HoldsRetained o now store []
holds_none rule o now store none = record {
  times = refl;
  each_once = λ x retained. absurd (no store.part x retained.0);
  no_other = λ x _. refl;
} where
  no : (part : StorePart) (x : BindTree) → MayHold o part x → ⊥
  no (a_side p) x m = let yes_it_is : is_binding o p x ≡ true = (rule o p x).1 m in let it_isnt = none p x in cc
  no (a_level p j) x m = let yes_it_is : is_binding o (Repeats p j) x ≡ true = (rule o (Repeats p j) x).1 m in let it_isnt = none (Repeats p j) x in cc

abbrev no_contents : List Store → List (List PartialMatchTree)
no_contents [] = []
no_contents (store ∷ stores) = [] ∷ no_contents stores

nothing_retained : Rule → (o : Observed) (now : ℤ) → ((q : NumberedPattern) (x : BindTree) → is_binding o q x ≡ false) → (stores : List Store) →
    AreRetained o now stores (no_contents stores) × (held_count (no_contents stores) ≡ 0)
nothing_retained rule o now none [] = (tt, refl)
nothing_retained rule o now none (store ∷ stores) =
    let rest = nothing_retained rule o now none stores in let count : held_count (no_contents stores) ≡ 0 = rest.1 in
    ((holds_none rule o now store none, rest.0), (let e : 0 + held_count (no_contents stores) ≡ 0 = omega (arith, count) in e))

-- without bindings there is room under every retained limit
pub within_limit_without : Rule → (p : NumberedPattern) (log : List LogEntry) (retained_limit : ℕ) → ((q : NumberedPattern) (x : BindTree) → is_binding (observed_in log) q x ≡ false) → IsWithinLimit p log retained_limit
within_limit_without rule p log retained_limit none =
    let retained = nothing_retained rule (observed_in log) (time_of log) none (stores_of p) in (
      0,
      record {
        contents = no_contents (stores_of p);
        answer = [];
        retained = retained.0;
        ending = record {
          each_once = λ x e. absurd (let yes_it_is : is_binding (observed_in log) p x ≡ true = (rule (observed_in log) p x).1 e.0 in let it_isnt = none p x in cc);
          no_other = λ x _. refl;
          ascends = tt;
        };
        sum = sym retained.1 ∙ (let e : held_count (no_contents (stores_of p)) ≡ held_count (no_contents (stores_of p)) + 0 = omega arith in e);
      },
      omega arith,
    )

pub within_limit_at_first : Rule → (p : NumberedPattern) (retained_limit : ℕ) → IsWithinLimit p [] retained_limit
within_limit_at_first rule p retained_limit = within_limit_without rule p [] retained_limit nothing

-- ---- a nonmatching row

-- nothing holds at it
nonmatching_holds : (log : List LogEntry) (r : LogEntry) → IsNonmatching r → (k : ℕ) → (observed_in (log ++ r ∷ [])).holds k (suc (length log)) ≡ false
nonmatching_holds log r nonmatching k = ap (λ z. truth z k) (get_seam log r) ∙ nonmatching k

and_is : (b : Bool) → b ≡ (b && true)
and_is true = refl
and_is false = refl

-- so that the longer log goes on in itself
continues_itself : (o : Observed) (n : ℕ) → ((k : ℕ) → o.holds k n ≡ false) → Continues o o n
continues_itself o n none = record { holds = holds; first = λ k i h. refl; last = λ k i h. refl } where
  by : (k i : ℕ) (b : Bool) → nat_eq n i ≡ b → o.holds k i ≡ (o.holds k i && not (nat_eq n i))
  by k i true e = let at : n ≡ i = eqb-true n i e in let no : o.holds k i ≡ false = ap (o.holds k) (sym at) ∙ none k in rw (no) refl
  by k i false e = rw e (and_is (o.holds k i))

  holds : (k i : ℕ) → o.holds k i ≡ (o.holds k i && not (nat_eq n i))
  holds k i = by k i (nat_eq n i) refl

-- no binding has its number
not_new : (log : List LogEntry) (r : LogEntry) → IsNonmatching r → (p : NumberedPattern) (x : BindTree) → is_binding (observed_in (log ++ r ∷ [])) p x ≡ true → has (suc (length log)) x ≡ false
not_new log r nonmatching p x h = by (has (suc (length log)) x) refl where
  by : (b : Bool) → has (suc (length log)) x ≡ b → has (suc (length log)) x ≡ false
  by false e = e
  by true e = absurd (
      let o = observed_in (log ++ r ∷ []) in
      let same_log : is_binding o p x ≡ (is_binding o p x && not (has (suc (length log)) x)) = lasting o o (suc (length log)) (continues_itself o (suc (length log)) (nonmatching_holds log r nonmatching)) p x in
      let k : is_binding o p x ≡ (true && not true) = same_log ∙ ap (λ z. z && not (has (suc (length log)) x)) h ∙ ap (λ z. true && not z) e in
      let no : true ≡ false = sym h ∙ k in cc)

-- and the bindings are those of before
same_bindings : (log : List LogEntry) (r : LogEntry) → IsNonmatching r → (p : NumberedPattern) (x : BindTree) → is_binding (observed_in log) p x ≡ is_binding (observed_in (log ++ r ∷ [])) p x
same_bindings log r nonmatching p x =
    lasting (observed_in log) (observed_in (log ++ r ∷ [])) (suc (length log)) (continues log r) p x
    ∙ sym (lasting (observed_in (log ++ r ∷ [])) (observed_in (log ++ r ∷ [])) (suc (length log)) (continues_itself (observed_in (log ++ r ∷ [])) (suc (length log)) (nonmatching_holds log r nonmatching)) p x)

-- nothing ends there
pub nonmatching_answer : Rule → (p : NumberedPattern) (log : List LogEntry) (r : LogEntry) → IsNonmatching r → IsAnswer p (log ++ r ∷ []) []
nonmatching_answer rule p log r nonmatching = record {
  each_once = λ x e. absurd (no x ((rule (observed_in (log ++ r ∷ [])) p x).1 e.0) e.1);
  no_other = λ x _. refl;
  ascends = tt;
} where
  no : (x : BindTree) → is_binding (observed_in (log ++ r ∷ [])) p x ≡ true → greatest x ≡ length (log ++ r ∷ []) → ⊥
  no x b e =
      let o = observed_in (log ++ r ∷ []) in
      let more = length_more log r in
      let at : nat_eq (greatest x) (suc (length log)) ≡ true = eq-eqb (greatest x) (suc (length log)) (e ∙ more) in
      let both : (is_binding o p x && has (suc (length log)) x) ≡ (is_binding o p x && nat_eq (greatest x) (suc (length log))) = ends_at o (suc (length log)) (λ k i h. subst (λ (m : ℕ). i ≤ m) more (holds_inside (log ++ r ∷ []) k i h)) p x in
      let it_isnt : has (suc (length log)) x ≡ false = not_new log r nonmatching p x b in
      let k : (true && false) ≡ (true && true) = sym (ap (λ z. z && has (suc (length log)) x) b ∙ ap (λ z. true && z) it_isnt) ∙ both ∙ ap (λ z. z && nat_eq (greatest x) (suc (length log))) b ∙ ap (λ z. true && z) at in
      let no : false ≡ true = k in cc

-- ---- what is retained

map_same : (f g : BindTree → PartialMatchTree) (xs : List BindTree) → ((x : BindTree) → 0 < count x xs → f x ≡ g x) → map f xs ≡ map g xs
map_same f g [] h = refl
map_same f g (x ∷ xs) h =
    let me : is_same_tree x x ≡ true = same_self x in
    let one : f x ≡ g x = h x (rw me (omega arith)) in
    let rest : map f xs ≡ map g xs = map_same f g xs (λ y k. h y (omega (arith, k))) in
    cc

same_hold : (o o' : Observed) (x : BindTree) → SameTimes o o' x → partial_match_of o x ≡ partial_match_of o' x
same_hold o o' x e = ap (λ z. record { tree = x; earliest = z; latest = latest o.last x }) e.0 ∙ ap (λ z. record { tree = x; earliest = earliest o'.first x; latest = z }) e.1

one_bits : (p c c' : Bool) → (p ≡ true → c ≡ c') → (p && c) ≡ (p && c')
one_bits false c c' h = refl
one_bits true c c' h = h refl

drop_bits : (b h l : Bool) → (b ≡ true → h ≡ false) → ((b && l) && not h) ≡ (b && l)
drop_bits false h l k = refl
drop_bits true h l k = rw (k refl) (sym (and_is l))

-- what a store may partial_match_of are the bindings of a pattern
abbrev part_pattern : StorePart → NumberedPattern
part_pattern (a_side p) = p
part_pattern (a_level p j) = Repeats p j

may_is : (o : Observed) (part : StorePart) (x : BindTree) → may_hold o part x ≡ is_binding o (part_pattern part) x
may_is o (a_side p) x = refl
may_is o (a_level p j) x = refl

-- a store holds for the longer log what it matching and what still lives
module _ (rule : Rule) (log : List LogEntry) (r : LogEntry) (nonmatching : IsNonmatching r) (store : Store) where
  abbrev o : Observed
  o = observed_in log

  abbrev o' : Observed
  o' = observed_in (log ++ r ∷ [])

  abbrev n : ℕ
  n = suc (length log)

  abbrev q : NumberedPattern
  q = part_pattern store.part

  abbrev early : BindTree → Bool
  early x = retains store.window (earliest o.first x) (time_of log)

  abbrev early' : BindTree → Bool
  early' x = retains store.window (earliest o'.first x) (time_of log)

  abbrev late : BindTree → Bool
  late x = retains store.window (earliest o'.first x) r.last

  may_times : (x : BindTree) → may_hold o store.part x ≡ true → SameTimes o o' x
  may_times x h = same_times o o' n (continues log r) q x (sym (may_is o store.part x) ∙ h)

  same_bits : (x : BindTree) → (may_hold o store.part x && early x) ≡ ((is_binding o' q x && not (has n x)) && early' x)
  same_bits x =
      one_bits (may_hold o store.part x) (early x) (early' x) (λ h. ap (λ z. retains store.window z (time_of log)) (may_times x h).0)
      ∙ ap (λ z. z && early' x) (may_is o store.part x ∙ lasting o o' n (continues log r) q x)

  longer : (matching : List PartialMatchTree) → AreHeld o (λ x. may_hold o store.part x && early x) matching → AreHeld o' (λ x. (is_binding o' q x && not (has n x)) && early' x) matching
  longer matching (xs, is, each) = (
    xs,
    is ∙ map_same (partial_match_of o) (partial_match_of o') xs (λ x k. same_hold o o' x (may_times x (and_parts _ _ (bit_positive (may_hold o store.part x && early x) (count x xs) (each x) k)).0)),
    exactly_same (λ x. may_hold o store.part x && early x) (λ x. (is_binding o' q x && not (has n x)) && early' x) xs same_bits each,
  )

  late_bits : (x : BindTree) → ((is_binding o' q x && late x) && not (has n x)) ≡ (may_hold o' store.part x && late x)
  late_bits x = drop_bits (is_binding o' q x) (has n x) (late x) (not_new log r nonmatching q x) ∙ ap (λ z. z && late x) (sym (may_is o' store.part x))

  nonmatching_store : time_of log ≤ℤ r.last → (matching : List PartialMatchTree) → HoldsRetained o (time_of log) store matching → HoldsRetained o' r.last store (kept store.window r.last matching)
  nonmatching_store order matching retained =
      from_held o' r.last store (may_hold o' store.part) (may_rule rule o' store.part) (kept store.window r.last matching)
      (held_same o' (λ x. (is_binding o' q x && late x) && not (has n x)) (λ x. may_hold o' store.part x && late x) (kept store.window r.last matching) late_bits
      (kept_law o' store.window (time_of log) r.last n (is_binding o' q) matching order
      (longer matching (to_held o (time_of log) store (may_hold o store.part) (may_rule rule o store.part) matching retained))))

abbrev kept_in : ℤ → List Store → List (List PartialMatchTree) → List (List PartialMatchTree)
kept_in t (store ∷ stores) (matching ∷ contents) = kept store.window t matching ∷ kept_in t stores contents
kept_in t _ _ = []

nonmatching_stores : Rule → (log : List LogEntry) (r : LogEntry) → IsNonmatching r → time_of log ≤ℤ r.last → (stores : List Store) (contents : List (List PartialMatchTree)) →
    AreRetained (observed_in log) (time_of log) stores contents → AreRetained (observed_in (log ++ r ∷ [])) r.last stores (kept_in r.last stores contents)
nonmatching_stores rule log r nonmatching order [] [] retained = tt
nonmatching_stores rule log r nonmatching order (store ∷ stores) (matching ∷ contents) retained =
    (nonmatching_store rule log r nonmatching store order matching retained.0, nonmatching_stores rule log r nonmatching order stores contents retained.1)
nonmatching_stores rule log r nonmatching order [] (matching ∷ contents) retained = absurd retained
nonmatching_stores rule log r nonmatching order (store ∷ stores) [] retained = absurd retained

-- and that is no more
fewer_kept : (store : Store) (t : ℤ) (matching : List PartialMatchTree) → length (kept store.window t matching) ≤ length matching
fewer_kept store t [] = omega arith
fewer_kept store t (x ∷ matching) = by (retains store.window x.earliest t) refl (fewer_kept store t matching) where
  by : (b : Bool) → retains store.window x.earliest t ≡ b → length (kept store.window t matching) ≤ length matching → length (kept store.window t (x ∷ matching)) ≤ length (x ∷ matching)
  by true e rest = rw e (omega (arith, rest))
  by false e rest = rw e (omega (arith, rest))

fewer_in : (t : ℤ) (stores : List Store) (contents : List (List PartialMatchTree)) → held_count (kept_in t stores contents) ≤ held_count contents
fewer_in t [] [] = omega arith
fewer_in t [] (matching ∷ contents) = omega arith
fewer_in t (store ∷ stores) [] = omega arith
fewer_in t (store ∷ stores) (matching ∷ contents) = let one = fewer_kept store t matching in let rest = fewer_in t stores contents in omega (arith, one, rest)

nonmatching_count : Rule → (p : NumberedPattern) (log : List LogEntry) (r : LogEntry) (retained_limit : ℕ) → IsNonmatching r → time_of log ≤ℤ r.last → IsWithinLimit p log retained_limit → IsWithinLimit p (log ++ r ∷ []) retained_limit
nonmatching_count rule p log r retained_limit nonmatching order (n, retained_count, at_most) =
    let contents = kept_in r.last (stores_of p) retained_count.contents in
    let fewer = fewer_in r.last (stores_of p) retained_count.contents in
    let sum = retained_count.sum in (
      held_count contents,
      record {
        contents = contents;
        answer = [];
        retained = subst (λ (t : ℤ). AreRetained (observed_in (log ++ r ∷ [])) t (stores_of p) contents) (sym (time_new log r)) (nonmatching_stores rule log r nonmatching order (stores_of p) retained_count.contents retained_count.retained);
        ending = nonmatching_answer rule p log r nonmatching;
        sum = omega arith;
      },
      omega (arith, fewer, sum, at_most),
    )

-- no row is later than the next one
time_before : (log : List LogEntry) (x r : LogEntry) → IsInOrder (x ∷ log ++ r ∷ []) → time_of (x ∷ log) ≤ℤ r.last
time_before [] x r h = h.1
time_before (y ∷ log) x r h = time_before log y r h.2

-- a nonmatching row leaves room where there was room
pub nonmatching_within_limit : Rule → (p : NumberedPattern) (log : List LogEntry) (r : LogEntry) (retained_limit : ℕ) → IsNonmatching r → IsInOrder (log ++ r ∷ []) → IsWithinLimit p log retained_limit → IsWithinLimit p (log ++ r ∷ []) retained_limit
nonmatching_within_limit rule p [] r retained_limit nonmatching order within_limit = within_limit_without rule p (r ∷ []) retained_limit (λ q x. sym (same_bindings [] r nonmatching q x) ∙ nothing q x)
nonmatching_within_limit rule p (x ∷ log) r retained_limit nonmatching order within_limit = nonmatching_count rule p (x ∷ log) r retained_limit nonmatching (time_before log x r order) within_limit
