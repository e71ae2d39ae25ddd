-- Rows that are read one after the other: how far a store is read, and what is after that.
use Rattle.std.proofs.Common.{◌≡◌, ◌⊎◌, inl, inr, ℕ, ◌+◌, ◌<◌, ◌≤◌, List, [], ◌∷◌, ◌++◌, All, Bool, true, false, cond, Option, Some, None, IfSome, MatchOption, refl, sym, ap, subst, ◌∙◌, append_assoc, arith}
use Rattle.std.specs.Prelude.{nat_lt, find}
use Rattle.std.specs.List.{Contains}
use Rattle.std.specs.Option.{option_or}
use Rattle.std.proofs.lemmas.Bool.{ltb-true, ltb-false, lt-ltb, le-ltb}
use Rattle.std.proofs.lemmas.List.{append-nil}
use Rattle.std.proofs.lemmas.List.Elements.{All-nil, All-cons, All-append, All-head, All-tail, All-weaker, All-contains, Contains-append_left, Contains-append_cases, Contains-push}
use Rattle.std.proofs.lemmas.List.Folds.{find-append}
use Rattle.taxii_rows.specs.declared.stored_row.StoredRow.{StoredRow}
use Rattle.taxii_rows.specs.declared.stored_row.TheConstants.{LAST_DATE}
use Rattle.taxii_rows.specs.StoreState.{StoreState, dates_of, AscendFrom}
use Rattle.taxii_rows.specs.Keeper.{row_after}
use Rattle.taxii_store.specs.declared.load_refusal.LoadRefusal.{LoadRefusal}
use Rattle.taxii_store.specs.declared.load_refusal.LoadRefusal.TheVariants.{KeeperFault, BadRow, NoMemory as OutOfMemory}
use Rattle.taxii_store.specs.Loading.{IsFitRow, IsBadAfter}
use Rattle.taxii_store.specs.inner.Reading.{IsBadNext}

-- rows that were read, up to that date
pub record AreGood (watermark after : ℕ) (rows : List StoredRow) : Type 0 where
  pub ascend : AscendFrom 1 (dates_of rows)
  pub upto : All (λ row. row.date ≤ after) rows
  pub fit : All (IsFitRow watermark) rows
  pub last : after ≤ LAST_DATE
  pub ends : (after ≡ 0) ⊎ ((row : StoredRow) × Contains rows row × (row.date ≡ after))

-- they are all rows of the store up to that date
pub record IsReadTo (state : StoreState) (rows : List StoredRow) (after : ℕ) : Type 0 where
  pub rest : List StoredRow
  pub split : state.rows ≡ rows ++ rest
  pub behind : AscendFrom (after + 1) (dates_of rest)

ascend_pushed : (least after : ℕ) (rows : List StoredRow) (row : StoredRow) → least ≤ after + 1 → AscendFrom least (dates_of rows) → All (λ one. one.date ≤ after) rows
    → after < row.date → AscendFrom least (dates_of (rows ++ row ∷ []))
ascend_pushed least after [] row from ascend upto later = (omega (arith, later), tt)
ascend_pushed least after (first ∷ rows) row from ascend upto later =
    let here = All-head (λ one. one.date ≤ after) first rows upto in
    (ascend.0, ascend_pushed (first.date + 1) after rows row (omega (arith, here)) ascend.1 (All-tail (λ one. one.date ≤ after) first rows upto) later)

pub good_pushed : (watermark after : ℕ) (rows : List StoredRow) (row : StoredRow) → AreGood watermark after rows → after < row.date → IsFitRow watermark row
    → AreGood watermark row.date (rows ++ row ∷ [])
good_pushed watermark after rows row good later fit =
    let Upto = λ (one : StoredRow). one.date ≤ row.date in record {
      ascend = ascend_pushed 1 after rows row (omega arith) good.ascend good.upto later;
      upto = All-append Upto rows (row ∷ [])
          (All-weaker (λ one. one.date ≤ after) Upto (λ one within. omega (arith, within, later)) rows good.upto)
          (All-cons Upto row [] (omega arith) (All-nil Upto));
      fit = All-append (IsFitRow watermark) rows (row ∷ []) good.fit (All-cons (IsFitRow watermark) row [] fit (All-nil (IsFitRow watermark)));
      last = fit.last;
      ends = inr (row, Contains-push rows row, refl);
    }

-- ---- the row after a date

none_up_to : (after : ℕ) (rows : List StoredRow) → All (λ row. row.date ≤ after) rows → row_after after rows ≡ None
none_up_to after [] upto = refl
none_up_to after (row ∷ rows) upto =
    let here = All-head (λ one. one.date ≤ after) row rows upto in
    ap (λ (b : Bool). cond b (Some row) (row_after after rows)) (le-ltb after row.date here)
    ∙ none_up_to after rows (All-tail (λ one. one.date ≤ after) row rows upto)

abbrev first_of : List StoredRow → Option StoredRow
first_of [] = None
first_of (row ∷ rows) = Some row

first_behind : (after : ℕ) (rest : List StoredRow) → AscendFrom (after + 1) (dates_of rest) → row_after after rest ≡ first_of rest
first_behind after [] ascend = refl
first_behind after (row ∷ rest) ascend =
    ap (λ (b : Bool). cond b (Some row) (row_after after rest)) (lt-ltb after row.date (omega (arith, ascend.0)))

next_is : (state : StoreState) (watermark after : ℕ) (rows : List StoredRow) → AreGood watermark after rows → (read : IsReadTo state rows after)
    → row_after after state.rows ≡ first_of read.rest
next_is state watermark after rows good read =
    ap (row_after after) read.split ∙ find-append (λ row. nat_lt after row.date) rows read.rest
    ∙ ap (λ (found : Option StoredRow). option_or found (row_after after read.rest)) (none_up_to after rows good.upto)
    ∙ first_behind after read.rest read.behind

pub read_pushed : (state : StoreState) (watermark after : ℕ) (rows : List StoredRow) (row : StoredRow) → AreGood watermark after rows → IsReadTo state rows after
    → Some row ≡ row_after after state.rows → IsReadTo state (rows ++ row ∷ []) row.date
read_pushed state watermark after rows row good read found = go read.rest read.split read.behind (found ∙ next_is state watermark after rows good read)
  where
    go : (rest : List StoredRow) → state.rows ≡ rows ++ rest → AscendFrom (after + 1) (dates_of rest) → Some row ≡ first_of rest
        → IsReadTo state (rows ++ row ∷ []) row.date
    go [] split behind is = absurd (cc)
    go (first ∷ rest) split behind is =
        let same : row ≡ first = cc in record {
          rest = rest;
          split = split ∙ ap (λ (one : StoredRow). rows ++ one ∷ rest) (sym same) ∙ sym (append_assoc rows (row ∷ []) rest);
          behind = subst (λ (one : StoredRow). AscendFrom (one.date + 1) (dates_of rest)) (sym same) behind.1;
        }

pub read_whole : (state : StoreState) (watermark after : ℕ) (rows : List StoredRow) → AreGood watermark after rows → IsReadTo state rows after
    → None ≡ row_after after state.rows → rows ≡ state.rows
read_whole state watermark after rows good read found = go read.rest read.split (found ∙ next_is state watermark after rows good read)
  where
    go : (rest : List StoredRow) → state.rows ≡ rows ++ rest → None ≡ first_of rest → rows ≡ state.rows
    go [] split is = sym (split ∙ append-nil rows)
    go (first ∷ rest) split is = absurd (cc)

later_than : (least : ℕ) (rows : List StoredRow) (row : StoredRow) → AscendFrom least (dates_of rows) → Contains rows row → least ≤ row.date
later_than least rows row ascend there = All-contains (λ one. least ≤ one.date) rows row (all least rows ascend) there
  where
    all : (n : ℕ) (rs : List StoredRow) → AscendFrom n (dates_of rs) → All (λ one. n ≤ one.date) rs
    all n [] up = All-nil (λ (one : StoredRow). n ≤ one.date)
    all n (r ∷ rs) up = All-cons (λ one. n ≤ one.date) r rs up.0
        (All-weaker (λ one. r.date + 1 ≤ one.date) (λ one. n ≤ one.date) (λ one within. omega (arith, within, up.0)) rs (all (r.date + 1) rs up.1))

pub bad_after : (state : StoreState) (after : ℕ) (rows : List StoredRow) → AreGood state.watermark after rows → IsReadTo state rows after
    → IsBadNext state after → IsBadAfter state after
bad_after state after rows good read bad = record {
  before = record {
    fit = λ row there upto. elim (Contains-append_cases rows read.rest row (subst (λ (all : List StoredRow). Contains all row) read.split there)) [
      | inl held ↦ All-contains (IsFitRow state.watermark) rows row good.fit held
      | inr behind ↦ absurd (omega (arith, upto, later_than (after + 1) read.rest row read.behind behind))
    ];
    ends = elim good.ends [
      | inl start ↦ inl start
      | inr last ↦ inr (last.0, subst (λ (all : List StoredRow). Contains all last.0) (sym read.split) (Contains-append_left rows read.rest last.0 last.1), last.2)
    ];
  };
  bad = bad;
}

-- ---- a row that doesn't fit

passes : (test : StoredRow → Bool) (rows : List StoredRow) → IfSome (find test rows) (λ row. test row ≡ true)
passes test [] = tt
passes test (row ∷ rows) = go (test row) refl (passes test rows)
  where
    go : (b : Bool) → test row ≡ b → IfSome (find test rows) (λ one. test one ≡ true) → IfSome (cond b (Some row) (find test rows)) (λ one. test one ≡ true)
    go true is rest = is
    go false is rest = rest

pub bad_next : (state : StoreState) (after watermark : ℕ) (found : Option StoredRow) → state.watermark ≡ watermark → found ≡ row_after after state.rows
    → ¬ MatchOption found (watermark ≤ LAST_DATE) (λ row. (after < row.date) × IsFitRow watermark row) → IsBadNext state after
bad_next state after watermark found same is unfit =
    go (row_after after state.rows) (passes (λ row. nat_lt after row.date) state.rows)
    (subst (λ (m : ℕ). ¬ MatchOption (row_after after state.rows) (m ≤ LAST_DATE) (λ row. (after < row.date) × IsFitRow m row)) (sym same)
    (subst (λ (f : Option StoredRow). ¬ MatchOption f (watermark ≤ LAST_DATE) (λ row. (after < row.date) × IsFitRow watermark row)) is unfit))
  where
    go : (f : Option StoredRow) → IfSome f (λ row. nat_lt after row.date ≡ true)
        → ¬ MatchOption f (state.watermark ≤ LAST_DATE) (λ row. (after < row.date) × IsFitRow state.watermark row)
        → MatchOption f (LAST_DATE < state.watermark) (λ row. ¬ IsFitRow state.watermark row)
    go (Some row) later never = λ fit. never (ltb-true after row.date later, fit)
    go None later never = either (nat_lt LAST_DATE state.watermark) refl
      where
        either : (b : Bool) → nat_lt LAST_DATE state.watermark ≡ b → LAST_DATE < state.watermark
        either true is = ltb-true LAST_DATE state.watermark is
        either false is = absurd (never (ltb-false LAST_DATE state.watermark is))

pub if_both : (observable : Option StoreState) (P Q R : StoreState → Type 0) → ((state : StoreState) → P state → Q state → R state) → IfSome observable P → IfSome observable Q → IfSome observable R
if_both (Some state) P Q R both p q = both state p q
if_both None P Q R both p q = tt

-- ---- refusals

abbrev after_of : LoadRefusal → ℕ
after_of KeeperFault = 0
after_of (BadRow after) = after
after_of OutOfMemory = 0

pub one_after : (first second : ℕ) → BadRow first ≡ BadRow second → second ≡ first
one_after first second same = sym (ap after_of same)

-- a told state that isn't whole makes the row after the rows that were read bad
pub bad_told : (observable : Option StoreState) (watermark after at : ℕ) (rows : List StoredRow)
    → IfSome observable (λ state. (state.watermark ≡ watermark) × AscendFrom 1 (dates_of state.rows)) → AreGood watermark after rows → IfSome observable (λ state. IsReadTo state rows after)
    → at ≡ after → IfSome observable (λ state. IsBadNext state after) → IfSome observable (λ state. IsBadAfter state at)
bad_told None watermark after at rows marked good read here bad = tt
bad_told (Some state) watermark after at rows marked good read here bad =
    subst (IsBadAfter state) (sym here)
    (bad_after state after rows (subst (λ (m : ℕ). AreGood m after rows) (sym marked.0) good) read bad)
