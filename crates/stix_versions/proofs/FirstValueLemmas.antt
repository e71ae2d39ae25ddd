-- What is kept of the values at the places before a place, one place more.
use Rattle.std.proofs.Common.{arith, ◌≡◌, ◌↔◌, inl, inr, ◌+◌, ◌||◌, ℕ, Bool, true, false, not, IsTrue, sym, ap, refl, subst, ◌∙◌}
use Rattle.std.proofs.lemmas.Bool.{cases_lt, cases_Bool, false≢true}
use Rattle.stix_versions.specs.inner.Version.{NoneBefore, HasOther, IsFirstValue}

pub none_more : (V : Type 0) (Has : ℕ → V → Type 0) (n : ℕ) → NoneBefore V Has n → ((v : V) → ¬ Has n v) → NoneBefore V Has (n + 1)
none_more V Has n none not_here = λ place value less has.
    elim (cases_lt place n) [
      | inl before ↦ none place value before has
      | inr not_before ↦ let here : place ≡ n = omega arith in not_here value (subst (λ (p : ℕ). Has p value) here has)
    ]

other_more : (V : Type 0) (Has : ℕ → V → Type 0) (n : ℕ) (value : V) → HasOther V Has n value → HasOther V Has (n + 1) value
other_more V Has n value is =
    let before = is.before in
    record { place = is.place; other = is.other; before = omega arith; has = is.has; differs = is.differs }

-- the place has none: what is kept stays
pub kept_beside : (V : Type 0) (Has : ℕ → V → Type 0) (n : ℕ) (value : V) (differs : Bool) → IsFirstValue V Has n value differs → ((v : V) → ¬ Has n v)
    → IsFirstValue V Has (n + 1) value differs
kept_beside V Has n value differs is not_here =
    let before = is.before in record {
      place = is.place;
      before = omega arith;
      has = is.has;
      same = λ not_so other another less has. elim (cases_lt other n) [
        | inl earlier ↦ is.same not_so other another earlier has
        | inr not_earlier ↦ let here : other ≡ n = omega arith in absurd (not_here another (subst (λ (p : ℕ). Has p another) here has))
      ];
      different = λ yes. other_more V Has n value (is.different yes);
    }

-- the place is the first that has one
pub kept_first : (V : Type 0) (Has : ℕ → V → Type 0) (n : ℕ) (value : V) → ((v w : V) → Has n v → Has n w → v ≡ w) → NoneBefore V Has n → Has n value
    → IsFirstValue V Has (n + 1) value false
kept_first V Has n value one none has = record {
  place = n;
  before = omega arith;
  has = has;
  same = λ not_so other another less its. elim (cases_lt other n) [
    | inl earlier ↦ absurd (none other another earlier its)
    | inr not_earlier ↦ let here : other ≡ n = omega arith in one another value (subst (λ (p : ℕ). Has p another) here its) has
  ];
  different = λ yes. absurd (false≢true yes);
}

pub none_other : (V : Type 0) (Has : ℕ → V → Type 0) (n : ℕ) (value : V) → NoneBefore V Has n → ¬ HasOther V Has n value
none_other V Has n value none is = none is.place is.other is.before is.has

-- whether one of the places before has another value than this
or_false : (a b : Bool) → (a || b) ≡ false → (a ≡ false) × (b ≡ false)
or_false true b is = absurd (false≢true (sym is))
or_false false b is = (refl, is)

pub other_told : (V : Type 0) (Has : ℕ → V → Type 0) (n : ℕ) (value first : V) (differs same : Bool) → (IsTrue same ↔ (first ≡ value))
    → IsFirstValue V Has n first differs → IsTrue (differs || not same) ↔ HasOther V Has n value
other_told V Has n value first differs same told kept = (
  λ yes. elim (cases_Bool same) [
    | inl is_same ↦
        let one = told.0 is_same in
        elim (cases_Bool differs) [
          | inl does ↦ subst (λ (v : V). HasOther V Has n v) one (kept.different does)
          | inr not_so ↦ absurd cc
        ]
    | inr is_not ↦ record {
      place = kept.place;
      other = first;
      before = kept.before;
      has = kept.has;
      differs = λ one. false≢true (sym is_not ∙ told.1 one);
    }
  ],
  λ is. elim (cases_Bool (differs || not same)) [
    | inl so ↦ so
    | inr not_so ↦
        let both = or_false differs (not same) not_so in
        elim (cases_Bool same) [
          | inl is_same ↦ absurd (is.differs (kept.same both.0 is.place is.other is.before is.has ∙ told.0 is_same))
          | inr is_not ↦ absurd (false≢true (sym both.1 ∙ ap not is_not))
        ]
  ],
)

-- the place has one too
pub kept_next : (V : Type 0) (Has : ℕ → V → Type 0) (n : ℕ) (value first : V) (differs same : Bool) → ((v w : V) → Has n v → Has n w → v ≡ w)
    → (IsTrue same ↔ (first ≡ value)) → Has n value → IsFirstValue V Has n first differs → IsFirstValue V Has (n + 1) first (differs || not same)
kept_next V Has n value first differs same one told has kept =
    let before = kept.before in record {
      place = kept.place;
      before = omega arith;
      has = kept.has;
      same = λ not_so other another less its.
          let both = or_false differs (not same) not_so in
          elim (cases_lt other n) [
            | inl earlier ↦ kept.same both.0 other another earlier its
            | inr not_earlier ↦
                let here : other ≡ n = omega arith in
                elim (cases_Bool same) [
                  | inl is_same ↦ one another value (subst (λ (p : ℕ). Has p another) here its) has ∙ sym (told.0 is_same)
                  | inr is_not ↦ absurd (false≢true (sym both.1 ∙ ap not is_not))
                ]
          ];
      different = λ yes. elim (cases_Bool differs) [
        | inl does ↦ other_more V Has n first (kept.different does)
        | inr does_not ↦ elim (cases_Bool same) [
          | inl is_same ↦ absurd cc
          | inr is_not ↦ record {
            place = n;
            other = value;
            before = omega arith;
            has = has;
            differs = λ is. false≢true (sym is_not ∙ told.1 (sym is));
          }
        ]
      ];
    }
