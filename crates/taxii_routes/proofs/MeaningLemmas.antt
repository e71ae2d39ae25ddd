-- What a value means is one thing.
use Rattle.std.proofs.Common.{◌≡◌, ◌≢◌, ℕ, ◌≤◌, ℤ, pos, ◌*ℤ◌, List, [], ◌∷◌, length, Option, Some, None, codes, refl, sym, ap, subst, ◌∙◌, arith}
use Rattle.std.proofs.lemmas.Int.{ints}
use Rattle.std.specs.List.{AllZip}
use Rattle.stix_times.specs.Reading as time
use Rattle.stix_times.proofs.LawLemmas.{one_instant}
use Rattle.stix_times.proofs.ShapeLemmas.{text_of_long}
use Rattle.stix_ids.specs.declared.pick.Pick.{Pick}
use Rattle.stix_ids.specs.Identifier as identifier
use Rattle.stix_ids.proofs.IdLemmas.{one_identifier}
use Rattle.taxii_routes.specs.declared.param.Param.{Param}
use Rattle.taxii_routes.specs.declared.param.Param.TheVariants.{AddedAfter, Limit, Next, MatchId, MatchType, MatchVersion, MatchSpec}
use Rattle.taxii_routes.specs.Value.{IsLimit, IsNextCursor, AreValueTexts, IsTextOfMicros, IsPickText, Meaning, IsParameterValue, value_members}
use Rattle.taxii_routes.specs.Query.{AskFor}

pub one_zip : {A B : Type 0} (R : A → B → Type 0) → ((x : A) (y z : B) → R x y → R x z → y ≡ z)
    → (xs : List A) (ys zs : List B) → AllZip R xs ys → AllZip R xs zs → ys ≡ zs
one_zip R one [] [] [] p q = refl
one_zip R one [] [] (z ∷ zs) p q = absurd q
one_zip R one [] (y ∷ ys) zs p q = absurd p
one_zip R one (x ∷ xs) [] zs p q = absurd p
one_zip R one (x ∷ xs) (y ∷ ys) [] p q = absurd q
one_zip R one (x ∷ xs) (y ∷ ys) (z ∷ zs) p q = ap (λ a. a ∷ ys) (one x y z p.0 q.0) ∙ ap (λ rest. z ∷ rest) (one_zip R one xs ys zs p.1 q.1)

-- a timestamp is longer than a word
pub long_time : (text : List ℕ) (instant : ℤ) → time.IsTextOfInstant text instant → 20 ≤ length text
long_time text instant (t, spells, exact) = subst (λ s. 20 ≤ length s) (sym spells.spelling) (text_of_long t)

no_word : (text word : List ℕ) (micros : ℤ) → length word ≤ 5 → text ≡ word → ¬ IsTextOfMicros text micros
no_word text word micros short is named =
    let long = long_time text (pos 1000 *ℤ micros) named in
    let same = ap length is in
    omega arith

pub one_micros : (text : List ℕ) (a b : ℤ) → IsTextOfMicros text a → IsTextOfMicros text b → a ≡ b
one_micros text a b p q = let same = one_instant text (pos 1000 *ℤ a) (pos 1000 *ℤ b) p q in omega (arith, ints)

apart : (text a b : List ℕ) → length a ≢ length b → text ≡ a → text ≡ b → ⊥
apart text a b differ p q = differ (ap length (sym p ∙ q))

pub one_pick : (text : List ℕ) (p q : Pick) → IsPickText text p → IsPickText text q → p ≡ q
one_pick text Pick.Last Pick.Last p q = refl
one_pick text Pick.Last Pick.First p q = absurd (apart text (codes "last") (codes "first") (λ e. omega arith) p q)
one_pick text Pick.Last Pick.All p q = absurd (apart text (codes "last") (codes "all") (λ e. omega arith) p q)
one_pick text Pick.Last (Pick.At b) p q = absurd (no_word text (codes "last") b (omega arith) p q)
one_pick text Pick.First Pick.Last p q = absurd (apart text (codes "first") (codes "last") (λ e. omega arith) p q)
one_pick text Pick.First Pick.First p q = refl
one_pick text Pick.First Pick.All p q = absurd (apart text (codes "first") (codes "all") (λ e. omega arith) p q)
one_pick text Pick.First (Pick.At b) p q = absurd (no_word text (codes "first") b (omega arith) p q)
one_pick text Pick.All Pick.Last p q = absurd (apart text (codes "all") (codes "last") (λ e. omega arith) p q)
one_pick text Pick.All Pick.First p q = absurd (apart text (codes "all") (codes "first") (λ e. omega arith) p q)
one_pick text Pick.All Pick.All p q = refl
one_pick text Pick.All (Pick.At b) p q = absurd (no_word text (codes "all") b (omega arith) p q)
one_pick text (Pick.At a) Pick.Last p q = absurd (no_word text (codes "last") a (omega arith) q p)
one_pick text (Pick.At a) Pick.First p q = absurd (no_word text (codes "first") a (omega arith) q p)
one_pick text (Pick.At a) Pick.All p q = absurd (no_word text (codes "all") a (omega arith) q p)
one_pick text (Pick.At a) (Pick.At b) p q = ap Pick.At (one_micros text a b p q)

one_limit : (value : List ℕ) (m n : ℕ) → IsLimit value m → IsLimit value n → m ≡ n
one_limit value m n p q = p.number ∙ sym q.number

one_next : (value : List ℕ) (m n : ℕ) → IsNextCursor value m → IsNextCursor value n → m ≡ n
one_next value m n p q = p.number ∙ sym q.number

one_list : (value : List ℕ) (m n : List (List ℕ)) → AreValueTexts value m → AreValueTexts value n → m ≡ n
one_list value m n p q = p.all ∙ sym q.all

pub one_meaning : (param : Param) (value : List ℕ) (m n : Meaning param) → IsParameterValue param value m → IsParameterValue param value n → m ≡ n
one_meaning AddedAfter value m n p q = one_instant value m n p q
one_meaning Limit value m n p q = one_limit value m n p q
one_meaning Next value m n p q = one_next value m n p q
one_meaning MatchId value m n p q = one_zip identifier.IsTextOfId one_identifier (value_members value) m n p q
one_meaning MatchType value m n p q = one_list value m n p q
one_meaning MatchVersion value m n p q = one_zip IsPickText one_pick (value_members value) m n p q
one_meaning MatchSpec value m n p q = one_list value m n p q

pub one_wanted : (param : Param) (values : List (List ℕ)) (x y : Option (Meaning param)) → AskFor param values x → AskFor param values y → x ≡ y
one_wanted param [] x y p q = p ∙ sym q
one_wanted param (value ∷ []) None y p q = absurd p
one_wanted param (value ∷ []) (Some m) None p q = absurd q
one_wanted param (value ∷ []) (Some m) (Some n) p q = ap Some (one_meaning param value m n p q)
one_wanted param (value ∷ other ∷ values) x y p q = absurd p
