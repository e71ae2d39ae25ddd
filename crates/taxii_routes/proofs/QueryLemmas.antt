-- Queries a pair at a time, and that pairs ask for one query or are refused in one way.
use Rattle.std.proofs.Common.{◌≡◌, ◌≢◌, ◌⊎◌, inl, inr, ℕ, Bool, true, false, cond, List, [], ◌∷◌, ◌++◌, map, filter, Option, Some, None, codes, bytes_eq, refl, sym, ap, subst, ◌∙◌, append-nil}
use Rattle.std.specs.Prelude.{IsSomeAnd}
use Rattle.std.proofs.lemmas.Bool.{cond-true, cond-false, false≢true}
use Rattle.std.proofs.lemmas.List.{map-append}
use Rattle.std.proofs.lemmas.List.Elements.{filter-append}
use Rattle.std.proofs.lemmas.Slice.Eq.{bytes_eq-Decides}
use Rattle.taxii_routes.specs.declared.param.Param.{Param}
use Rattle.taxii_routes.specs.declared.param.Param.TheVariants.{AddedAfter, Limit, Next, MatchId, MatchType, MatchVersion, MatchSpec}
use Rattle.taxii_routes.specs.declared.query.Query.{Query}
use Rattle.taxii_routes.specs.declared.refusal.QueryRefusal.{QueryRefusal}
use Rattle.taxii_routes.specs.declared.refusal.QueryRefusal.TheVariants.{BadValue, Repeated, NoMemory}
use Rattle.taxii_routes.specs.Param.{param_name}
use Rattle.taxii_routes.specs.Value.{Meaning, IsParameterValue, HasMeaning}
use Rattle.taxii_routes.specs.Query.{Pair, parameter_values, asked, AskFor, IsQueryOf, IsBadPairAfter, IsRefusedQuery}
use Rattle.taxii_routes.specs.inner.Step.{AddsParameter, CannotAddParameter}
use Rattle.taxii_routes.proofs.MeaningLemmas.{one_wanted}
use Rattle.taxii_routes.proofs.FieldLemmas.{asked-put, asked-put_other}

-- ---- names

-- the parameter that a text names
abbrev param_of : List ℕ → Option Param
param_of text =
    cond (bytes_eq text (codes "added_after")) (Some AddedAfter)
    (cond (bytes_eq text (codes "limit")) (Some Limit)
    (cond (bytes_eq text (codes "next")) (Some Next)
    (cond (bytes_eq text (codes "match[id]")) (Some MatchId)
    (cond (bytes_eq text (codes "match[type]")) (Some MatchType)
    (cond (bytes_eq text (codes "match[version]")) (Some MatchVersion)
    (cond (bytes_eq text (codes "match[spec_version]")) (Some MatchSpec) None))))))

param_of-name : (param : Param) → param_of (param_name param) ≡ Some param
param_of-name AddedAfter = refl
param_of-name Limit = refl
param_of-name Next = refl
param_of-name MatchId = refl
param_of-name MatchType = refl
param_of-name MatchVersion = refl
param_of-name MatchSpec = refl

same_some : (a b : Param) → Some a ≡ Some b → a ≡ b
same_some a b e = cc

-- two parameters have two names
pub one_param : (a b : Param) → param_name a ≡ param_name b → a ≡ b
one_param a b same = same_some a b (sym (param_of-name a) ∙ ap param_of same ∙ param_of-name b)

-- ---- values of a name

values_of-append : (name : List ℕ) (xs ys : List Pair) → parameter_values name (xs ++ ys) ≡ parameter_values name xs ++ parameter_values name ys
values_of-append name xs ys =
    ap (map (λ (pair : Pair). pair.1)) (filter-append (λ (pair : Pair). bytes_eq pair.0 name) xs ys)
    ∙ map-append (λ (pair : Pair). pair.1) (filter (λ (pair : Pair). bytes_eq pair.0 name) xs) (filter (λ (pair : Pair). bytes_eq pair.0 name) ys)

values_of-hit : (name : List ℕ) (pair : Pair) (rest : List Pair) → pair.0 ≡ name → parameter_values name (pair ∷ rest) ≡ pair.1 ∷ parameter_values name rest
values_of-hit name pair rest same =
    ap (map (λ (pair : Pair). pair.1)) (cond-true _ _ _ ((bytes_eq-Decides pair.0 name).1 same))

values_of-miss : (name : List ℕ) (pair : Pair) (rest : List Pair) → bytes_eq pair.0 name ≡ false → parameter_values name (pair ∷ rest) ≡ parameter_values name rest
values_of-miss name pair rest other =
    ap (map (λ (pair : Pair). pair.1)) (cond-false _ _ _ other)

-- ---- what the values ask for

nothing_asked : (param : Param) (values : List (List ℕ)) (slot : Option (Meaning param)) → slot ≡ None → AskFor param values slot → values ≡ []
nothing_asked param [] slot none asks = refl
nothing_asked param (value ∷ []) None none asks = absurd asks
nothing_asked param (value ∷ []) (Some m) none asks = absurd cc
nothing_asked param (value ∷ other ∷ values) slot none asks = absurd asks

too_many : (param : Param) (values more : List (List ℕ)) (value : List ℕ) (slot : Option (Meaning param)) → values ≢ [] → ¬ AskFor param (values ++ value ∷ more) slot
too_many param [] more value slot some asks = some refl
too_many param (first ∷ []) more value slot some asks = asks
too_many param (first ∷ second ∷ values) more value slot some asks = asks

no_meaning : (param : Param) (more : List (List ℕ)) (value : List ℕ) (slot : Option (Meaning param)) → ¬ HasMeaning param value → ¬ AskFor param (value ∷ more) slot
no_meaning param [] value None bad asks = asks
no_meaning param [] value (Some m) bad asks = bad (m, asks)
no_meaning param (other ∷ more) value slot bad asks = asks

-- ---- one pair more

-- a pair of another name changes nothing
pub query_passes : (before : List Pair) (pair : Pair) (query : Query) → ((param : Param) → ¬ (pair.0 ≡ param_name param)) → IsQueryOf before query
    → IsQueryOf (before ++ pair ∷ []) query
query_passes before pair query other asks = λ param. go param (bytes_eq pair.0 (param_name param)) refl
  where
    go : (param : Param) (v : Bool) → bytes_eq pair.0 (param_name param) ≡ v → AskFor param (parameter_values (param_name param) (before ++ pair ∷ [])) (asked param query)
    go param true e = absurd (other param ((bytes_eq-Decides pair.0 (param_name param)).0 e))
    go param false e =
        subst (λ vs. AskFor param vs (asked param query))
        (sym (values_of-append (param_name param) before (pair ∷ []) ∙ ap (λ vs. parameter_values (param_name param) before ++ vs) (values_of-miss (param_name param) pair [] e) ∙ append-nil (parameter_values (param_name param) before)))
        (asks param)

-- a pair of a parameter adds what its value means
pub query_grows : (before : List Pair) (pair : Pair) (param : Param) (old new : Query) → pair.0 ≡ param_name param → AddsParameter param pair.1 old new → IsQueryOf before old
    → IsQueryOf (before ++ pair ∷ []) new
query_grows before pair param old new named adds asks = λ other. go other (bytes_eq pair.0 (param_name other)) refl
  where
    none : parameter_values (param_name param) before ≡ []
    none = nothing_asked param (parameter_values (param_name param) before) (asked param old) adds.before (asks param)

    here : AskFor param (parameter_values (param_name param) (before ++ pair ∷ [])) (asked param new)
    here =
        subst (λ vs. AskFor param vs (asked param new))
        (sym (values_of-append (param_name param) before (pair ∷ []) ∙ ap (λ vs. vs ++ parameter_values (param_name param) (pair ∷ [])) none ∙ values_of-hit (param_name param) pair [] named))
        (subst (λ w. IsSomeAnd w (λ meaning. IsParameterValue param pair.1 meaning)) (sym (ap (asked param) adds.change ∙ asked-put param (Some adds.meaning) old)) adds.means)

    go : (other : Param) (v : Bool) → bytes_eq pair.0 (param_name other) ≡ v → AskFor other (parameter_values (param_name other) (before ++ pair ∷ [])) (asked other new)
    go other true e =
        let same : param ≡ other = one_param param other (sym named ∙ (bytes_eq-Decides pair.0 (param_name other)).0 e) in
        subst (λ p. AskFor p (parameter_values (param_name p) (before ++ pair ∷ [])) (asked p new)) same here
    go other false e =
        let differs : other ≢ param = λ same. false≢true (sym e ∙ (bytes_eq-Decides pair.0 (param_name other)).1 (named ∙ ap param_name (sym same))) in
        subst (λ w. AskFor other (parameter_values (param_name other) (before ++ pair ∷ [])) w) (sym (ap (asked other) adds.change ∙ asked-put_other param other (Some adds.meaning) old differs))
        (subst (λ vs. AskFor other vs (asked other old))
        (sym (values_of-append (param_name other) before (pair ∷ []) ∙ ap (λ vs. parameter_values (param_name other) before ++ vs) (values_of-miss (param_name other) pair [] e) ∙ append-nil (parameter_values (param_name other) before)))
        (asks other))

-- why a pair can't be added is what is wrong with it
pub query_stops : (before : List Pair) (pair : Pair) (param : Param) (old : Query) (refusal : QueryRefusal) → pair.0 ≡ param_name param → IsQueryOf before old
    → CannotAddParameter param pair.1 old refusal → (refusal ≡ NoMemory) ⊎ IsBadPairAfter before pair refusal
query_stops before pair param old (Repeated name) named asks cannot = inr (
  named ∙ ap param_name (sym cannot.0),
  λ none. cannot.1 (subst (λ vs. AskFor param vs (asked param old)) (ap (λ n. parameter_values n before) (sym named) ∙ none) (asks param)),
)
query_stops before pair param old (BadValue name) named asks cannot = inr (
  named ∙ ap param_name (sym cannot.0),
  ap (λ n. parameter_values n before) named ∙ nothing_asked param (parameter_values (param_name param) before) (asked param old) cannot.1 (asks param),
  subst (λ p. ¬ HasMeaning p pair.1) (sym cannot.0) cannot.2,
)
query_stops before pair param old NoMemory named asks cannot = inl refl

-- ---- laws

-- no query has a bad pair
pub bad_in_none : (before after : List Pair) (pair : Pair) (refusal : QueryRefusal) (query : Query) → IsBadPairAfter before pair refusal → ¬ IsQueryOf (before ++ pair ∷ after) query
bad_in_none before after pair (Repeated param) query bad asks =
    too_many param (parameter_values (param_name param) before) (parameter_values (param_name param) after) pair.1 (asked param query)
    (λ none. bad.1 (ap (λ n. parameter_values n before) bad.0 ∙ none))
    (subst (λ vs. AskFor param vs (asked param query))
    (values_of-append (param_name param) before (pair ∷ after) ∙ ap (λ vs. parameter_values (param_name param) before ++ vs) (values_of-hit (param_name param) pair after bad.0))
    (asks param))
bad_in_none before after pair (BadValue param) query bad asks =
    no_meaning param (parameter_values (param_name param) after) pair.1 (asked param query) bad.2
    (subst (λ vs. AskFor param vs (asked param query))
    (values_of-append (param_name param) before (pair ∷ after) ∙ ap (λ vs. vs ++ parameter_values (param_name param) (pair ∷ after)) (ap (λ n. parameter_values n before) (sym bad.0) ∙ bad.1)
    ∙ values_of-hit (param_name param) pair after bad.0)
    (asks param))
bad_in_none before after pair NoMemory query bad asks = bad

pub never_both : (pairs : List Pair) (query : Query) (refusal : QueryRefusal) → IsQueryOf pairs query → ¬ IsRefusedQuery pairs refusal
never_both pairs query refusal asks refused =
    bad_in_none refused.before refused.after refused.pair refusal query refused.bad (subst (λ ps. IsQueryOf ps query) refused.spelling asks)

same_query : (a b : Query) → a.added_after ≡ b.added_after → a.limit ≡ b.limit → a.next ≡ b.next → a.ids ≡ b.ids → a.kinds ≡ b.kinds → a.picks ≡ b.picks → a.specs ≡ b.specs → a ≡ b
same_query a b e1 e2 e3 e4 e5 e6 e7 =
    λ i. record { added_after = e1 i; limit = e2 i; next = e3 i; ids = e4 i; kinds = e5 i; picks = e6 i; specs = e7 i }

pub one_query : (pairs : List Pair) (a b : Query) → IsQueryOf pairs a → IsQueryOf pairs b → a ≡ b
one_query pairs a b p q = same_query a b (one AddedAfter) (one Limit) (one Next) (one MatchId) (one MatchType) (one MatchVersion) (one MatchSpec)
  where
    one : (param : Param) → asked param a ≡ asked param b
    one param = one_wanted param (parameter_values (param_name param) pairs) (asked param a) (asked param b) (p param) (q param)

-- where two cuts of one list stand to each other: at one place, or one before the other
abbrev Seams : List Pair → Pair → List Pair → Pair → Type 0
Seams xs x ys y = ((xs ≡ ys) × (x ≡ y)) ⊎ (((m : List Pair) × (ys ≡ xs ++ x ∷ m)) ⊎ ((m : List Pair) × (xs ≡ ys ++ y ∷ m)))

seams : (xs ys ps qs : List Pair) (x y : Pair) → xs ++ x ∷ ps ≡ ys ++ y ∷ qs → Seams xs x ys y
seams [] [] ps qs x y e = inl (refl, head x y ps qs e)
  where
    head : (a b : Pair) (s t : List Pair) → a ∷ s ≡ b ∷ t → a ≡ b
    head a b s t e = cc
seams [] (b ∷ ys) ps qs x y e = inr (inl (ys, ap (λ a. a ∷ ys) (head b x (ys ++ y ∷ qs) ps (sym e))))
  where
    head : (a b : Pair) (s t : List Pair) → a ∷ s ≡ b ∷ t → a ≡ b
    head a b s t e = cc
seams (a ∷ xs) [] ps qs x y e = inr (inr (xs, ap (λ c. c ∷ xs) (head a y (xs ++ x ∷ ps) qs e)))
  where
    head : (a b : Pair) (s t : List Pair) → a ∷ s ≡ b ∷ t → a ≡ b
    head a b s t e = cc
seams (a ∷ xs) (b ∷ ys) ps qs x y e = go (seams xs ys ps qs x y (tail a b (xs ++ x ∷ ps) (ys ++ y ∷ qs) e))
  where
    head : (a b : Pair) (s t : List Pair) → a ∷ s ≡ b ∷ t → a ≡ b
    head a b s t e = cc

    tail : (a b : Pair) (s t : List Pair) → a ∷ s ≡ b ∷ t → s ≡ t
    tail a b s t e = cc

    first : a ≡ b
    first = head a b (xs ++ x ∷ ps) (ys ++ y ∷ qs) e

    go : Seams xs x ys y → Seams (a ∷ xs) x (b ∷ ys) y
    go (inl same) = inl (ap (λ c. c ∷ xs) first ∙ ap (λ zs. b ∷ zs) same.0, same.1)
    go (inr (inl later)) = inr (inl (later.0, ap (λ c. c ∷ ys) (sym first) ∙ ap (λ zs. a ∷ zs) later.1))
    go (inr (inr later)) = inr (inr (later.0, ap (λ c. c ∷ xs) first ∙ ap (λ zs. b ∷ zs) later.1))

one_bad : (before : List Pair) (pair : Pair) (a b : QueryRefusal) → IsBadPairAfter before pair a → IsBadPairAfter before pair b → a ≡ b
one_bad before pair (Repeated a) (Repeated b) p q = ap Repeated (one_param a b (sym p.0 ∙ q.0))
one_bad before pair (Repeated a) (BadValue b) p q = absurd (p.1 q.1)
one_bad before pair (Repeated a) NoMemory p q = absurd q
one_bad before pair (BadValue a) (Repeated b) p q = absurd (q.1 p.1)
one_bad before pair (BadValue a) (BadValue b) p q = ap BadValue (one_param a b (sym p.0 ∙ q.0))
one_bad before pair (BadValue a) NoMemory p q = absurd q
one_bad before pair NoMemory b p q = absurd p

pub one_refusal : (pairs : List Pair) (a b : QueryRefusal) → IsRefusedQuery pairs a → IsRefusedQuery pairs b → a ≡ b
one_refusal pairs a b p q = go (seams p.before q.before p.after q.after p.pair q.pair (sym p.spelling ∙ q.spelling))
  where
    go : Seams p.before p.pair q.before q.pair → a ≡ b
    go (inl same) = one_bad q.before q.pair a b (subst (λ ps. IsBadPairAfter ps q.pair a) same.0 (subst (λ x. IsBadPairAfter p.before x a) same.1 p.bad)) q.bad
    go (inr (inl later)) = absurd (bad_in_none p.before later.0 p.pair a q.fine.0 p.bad (subst (λ ps. IsQueryOf ps q.fine.0) later.1 q.fine.1))
    go (inr (inr later)) = absurd (bad_in_none q.before later.0 q.pair b p.fine.0 q.bad (subst (λ ps. IsQueryOf ps p.fine.0) later.1 p.fine.1))
