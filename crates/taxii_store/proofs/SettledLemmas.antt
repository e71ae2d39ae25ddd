-- Whether a row meets a query is settled: each question that is asked of it has an answer.
use Rattle.std.proofs.Common.{◌≡◌, ◌⊎◌, inl, inr, ℕ, zero, suc, ◌*◌, ◌<◌, ◌≤◌, ℤ, pos, ◌<ℤ◌, List, [], ◌∷◌, Bool, true, false, Option, Some, None, IfSome, Decides, Any, bytes_eq, codes, refl, sym, ap, subst, ◌∙◌, arith}
use Rattle.std.specs.List.{Contains}
use Rattle.std.specs.Ordering.{int_eq}
use Rattle.std.specs.Cmp.Lexicographic.{bytes_decides}
use Rattle.std.proofs.lemmas.Bool.{false≢true, cases_eq, cases_lt}
use Rattle.std.proofs.lemmas.Bool.Decides.{Decides-int_eq}
use Rattle.std.proofs.lemmas.Int.{ints, by_lt_z}
use Rattle.stix_ids.specs.declared.id.Id.{Id}
use Rattle.stix_ids.specs.declared.pick.Pick.{Pick}
use Rattle.stix_ids.specs.declared.pick.Pick.TheVariants.{Last, First, All as AllOfThem, At}
use Rattle.taxii_rows.specs.declared.stored_row.StoredRow.{StoredRow}
use Rattle.taxii_rows.specs.Identity.{is_row_of}
use Rattle.taxii_rows.specs.Picking.{IsNotBefore, ForItsRows, IsPickedBy}
use Rattle.taxii_routes.specs.declared.query.Query.{Query}
use Rattle.taxii_store.specs.Meeting.{MeetsQuery, IsAskedFor, picks_of}

abbrev pub Settled : Type 0 → Type 0
Settled P = P ⊎ ¬ P

-- ---- answers out of answers

from_test : {P : Type 0} (r : Bool) → Decides r P → Settled P
from_test true d = inl (d.0 refl)
from_test false d = inr (λ p. absurd (false≢true (d.1 p)))

both : {P Q : Type 0} → Settled P → Settled Q → Settled (P × Q)
both (inl p) (inl q) = inl (p, q)
both (inl p) (inr n) = inr (λ h. n h.1)
both (inr n) q = inr (λ h. n h.0)

either : {P Q : Type 0} → Settled P → Settled Q → Settled (P ⊎ Q)
either (inl p) q = inl (inl p)
either (inr n) (inl q) = inl (inr q)
either (inr n) (inr m) = inr (λ h. elim h [ inl p ↦ n p | inr q ↦ m q ])

follows : {P Q : Type 0} → Settled P → Settled Q → Settled (P → Q)
follows p (inl q) = inl (λ _. q)
follows (inl p) (inr n) = inr (λ f. n (f p))
follows (inr n) (inr m) = inl (λ p. absurd (n p))

alike : {P Q : Type 0} → (P → Q) → (Q → P) → Settled P → Settled Q
alike to from (inl p) = inl (to p)
alike to from (inr n) = inr (λ q. n (from q))

if_some : {X : Type 0} (P : X → Type 0) → ((x : X) → Settled (P x)) → (o : Option X) → Settled (IfSome o P)
if_some P each None = inl tt
if_some P each (Some x) = each x

-- ---- numbers, texts and identifiers

same_bool : (a b : Bool) → Settled (a ≡ b)
same_bool true true = inl refl
same_bool true false = inr (λ e. false≢true (sym e))
same_bool false true = inr (λ e. false≢true e)
same_bool false false = inl refl

same_int : (a b : ℤ) → Settled (a ≡ b)
same_int a b = from_test (int_eq a b) (Decides-int_eq a b)

same_bytes : (a b : List ℕ) → Settled (a ≡ b)
same_bytes a b = from_test (bytes_eq a b) (bytes_decides a b)

less : (a b : ℕ) → Settled (a < b)
less a b = elim (cases_lt a b) [ inl h ↦ inl h | inr h ↦ inr (λ lt. omega (arith, lt, h)) ]

at_most : (a b : ℕ) → Settled (a ≤ b)
at_most a b = elim (cases_lt b a) [ inl h ↦ inr (λ le. omega (arith, le, h)) | inr h ↦ inl h ]

less_int : (a b : ℤ) → Settled (a <ℤ b)
less_int a b = by_lt_z a b (λ h. inl h) (λ h. inr (λ lt. omega (arith, ints)))

abbrev id_of : List ℕ → ℕ → Id
id_of kind number = record { kind = kind; number = number }

same_id : (a b : Id) → Settled (a ≡ b)
same_id a b = alike (λ h. one h.0 h.1) (λ e. (ap (λ (id : Id). id.kind) e, ap (λ (id : Id). id.number) e)) (both (same_bytes a.kind b.kind) (cases_eq a.number b.number))
  where
    one : a.kind ≡ b.kind → a.number ≡ b.number → a ≡ b
    one kind number = ap (λ (k : List ℕ). id_of k a.number) kind ∙ ap (λ (n : ℕ). id_of b.kind n) number

-- ---- of lists

pub cons_cases : {X : Type 0} (x : X) (xs : List X) (y : X) → Contains (x ∷ xs) y → (x ≡ y) ⊎ Contains xs y
cons_cases x xs y (zero, within, is) = inl is
cons_cases x xs y (suc k, within, is) = inr (k, omega (arith, within), is)

in_list : {X : Type 0} → ((a b : X) → Settled (a ≡ b)) → (xs : List X) (y : X) → Settled (Contains xs y)
in_list same [] y = inr (λ h. omega (arith, h.1))
in_list same (x ∷ xs) y = alike to (cons_cases x xs y) (either (same x y) (in_list same xs y))
  where
    to : (x ≡ y) ⊎ Contains xs y → Contains (x ∷ xs) y
    to (inl is) = (zero, omega arith, is)
    to (inr (k, within, is)) = (suc k, omega (arith, within), is)

each_of : {X : Type 0} (P : X → Type 0) → ((x : X) → Settled (P x)) → (xs : List X) → Settled ((x : X) → Contains xs x → P x)
each_of P each [] = inl (λ x h. absurd (omega (arith, h.1)))
each_of P each (x ∷ xs) = alike to from (both (each x) (each_of P each xs))
  where
    to : P x × ((y : _) → Contains xs y → P y) → (y : _) → Contains (x ∷ xs) y → P y
    to h y there = elim (cons_cases x xs y there) [ inl is ↦ subst P is h.0 | inr rest ↦ h.1 y rest ]

    from : ((y : _) → Contains (x ∷ xs) y → P y) → P x × ((y : _) → Contains xs y → P y)
    from h = (h x (zero, omega arith, refl), λ y there. h y (suc there.0, omega (arith, there.1), there.2))

some_of : {X : Type 0} (P : X → Type 0) → ((x : X) → Settled (P x)) → (xs : List X) → Settled (Any P xs)
some_of P each [] = inr (λ h. omega (arith, h.2))
some_of P each (x ∷ xs) = alike to from (either (each x) (some_of P each xs))
  where
    to : P x ⊎ Any P xs → Any P (x ∷ xs)
    to (inl p) = (zero, x, omega arith, refl, p)
    to (inr (k, y, within, is, p)) = (suc k, y, omega (arith, within), is, p)

    from : Any P (x ∷ xs) → P x ⊎ Any P xs
    from (zero, y, within, is, p) = inl (subst P (sym is) p)
    from (suc k, y, within, is, p) = inr (k, y, omega (arith, within), is, p)

-- ---- of rows

not_before : (row other : StoredRow) → Settled (IsNotBefore row other)
not_before row other =
    either (less_int other.version row.version) (both (same_int other.version row.version) (at_most other.date row.date))

for_its_rows : (Rule : StoredRow → Type 0) → ((other : StoredRow) → Settled (Rule other)) → (rows : List StoredRow) (row : StoredRow) → Settled (ForItsRows Rule rows row)
for_its_rows Rule each rows row =
    each_of (λ other. is_row_of row.collection row.id other ≡ true → Rule other)
    (λ other. follows (same_bool (is_row_of row.collection row.id other) true) (each other)) rows

picked_by : (rows : List StoredRow) (row : StoredRow) (pick : Pick) → Settled (IsPickedBy pick rows row)
picked_by rows row Last = for_its_rows (IsNotBefore row) (not_before row) rows row
picked_by rows row First = for_its_rows (λ other. IsNotBefore other row) (λ other. not_before other row) rows row
picked_by rows row AllOfThem = inl tt
picked_by rows row (At version) = same_int row.version version

asked_for : (collection : ℕ) (only : Option Id) (query : Query) (row : StoredRow) → Settled (IsAskedFor collection only query row)
asked_for collection only query row = alike
    (λ (its, (one, (added, (next, (ids, (kinds, specs)))))). record { its = its; one = one; added = added; next = next; ids = ids; kinds = kinds; specs = specs })
    (λ asked. (asked.its, (asked.one, (asked.added, (asked.next, (asked.ids, (asked.kinds, asked.specs)))))))
    (both (cases_eq row.collection collection)
    (both (if_some (λ id. row.id ≡ id) (same_id row.id) only)
    (both (if_some (λ instant. instant <ℤ pos (1000 * row.date)) (λ instant. less_int instant (pos (1000 * row.date))) query.added_after)
    (both (if_some (λ date. date < row.date) (λ date. less date row.date) query.next)
    (both (if_some (λ ids. Contains ids row.id) (λ ids. in_list same_id ids row.id) query.ids)
    (both (if_some (λ kinds. Contains kinds row.id.kind) (λ kinds. in_list same_bytes kinds row.id.kind) query.kinds)
    (if_some (λ specs. Contains specs (codes "2.1")) (λ specs. in_list same_bytes specs (codes "2.1")) query.specs)))))))

pub settled_meets : (rows : List StoredRow) (collection : ℕ) (only : Option Id) (query : Query) (row : StoredRow) → Settled (MeetsQuery rows collection only query row)
settled_meets rows collection only query row = alike
    (λ h. record { asked = h.0; picked = h.1 }) (λ meets. (meets.asked, meets.picked))
    (both (asked_for collection only query row) (some_of (λ pick. IsPickedBy pick rows row) (picked_by rows row) (picks_of query)))
