-- Sets of names: a name alone, of either, of both, none.
use Rattle.std.proofs.Common.{◌≡◌, ◌↔◌, ◌⊎◌, inl, inr, ℕ, Bool, true, false, ◌&&◌, ◌||◌, List, [], ◌∷◌, length, refl, ap, ◌∙◌, arith, rules, Bor}
use Rattle.std.specs.BTreeSet.{BTreeSet, contains}
use Rattle.std.specs.BTreeMap.{is_at}
use Rattle.std.specs.Ordering.{nat_cmp, is_eq, eq_by_cmp}
use Rattle.std.specs.Set.{is_member}
use Rattle.std.specs.List.{list_any}
use Rattle.std.specs.Cmp.Lexicographic.{slice_cmp}
use Rattle.std.specs.Prelude.{cond}
use Rattle.std.proofs.lemmas.Map.Text.{is_eq-slice_cmp}
use Rattle.std.proofs.lemmas.Slice.Eq.{bytes_eq-Decides}
use Rattle.pattern_reader.specs.Roots.{HasName}

or_is : (a b c : Bool) → c ≡ (a || b) → (c ≡ true) ↔ ((a ≡ true) ⊎ (b ≡ true))
or_is a b c e = grind arith

and_is : (a b c : Bool) → c ≡ (a && b) → (c ≡ true) ↔ ((a ≡ true) × (b ≡ true))
and_is a b c e = grind arith

same_text : (xs ys : List ℕ) → (is_eq (slice_cmp nat_cmp xs ys) ≡ true) ↔ (xs ≡ ys)
same_text xs ys = rw is_eq-slice_cmp (search (rules, bytes_eq-Decides))

pub common_names : (l r n : BTreeSet (Bor (List ℕ))) (ks : List (Bor (List ℕ))) → ((q : Bor (List ℕ)) → is_member (eq_by_cmp (λ x y. slice_cmp nat_cmp x.now y.now)) ks q ≡ (is_member (eq_by_cmp (λ x y. slice_cmp nat_cmp x.now y.now)) l.keys q && is_member (eq_by_cmp (λ x y. slice_cmp nat_cmp x.now y.now)) r.keys q)) → ((q : Bor (List ℕ)) → contains (λ x y. slice_cmp nat_cmp x.now y.now) n q ≡ is_member (eq_by_cmp (λ x y. slice_cmp nat_cmp x.now y.now)) ks q) → (name : List ℕ) → HasName n name ↔ (HasName l name × HasName r name)
common_names l r n ks h g name = and_is _ _ _ (g (record { ref_ptr = (0, 0); now = name }) ∙ h (record { ref_ptr = (0, 0); now = name }))

pub joined_names : (l r n : BTreeSet (Bor (List ℕ))) → ((q : Bor (List ℕ)) → is_member (eq_by_cmp (λ x y. slice_cmp nat_cmp x.now y.now)) n.keys q ≡ (is_member (eq_by_cmp (λ x y. slice_cmp nat_cmp x.now y.now)) l.keys q || is_member (eq_by_cmp (λ x y. slice_cmp nat_cmp x.now y.now)) r.keys q)) → (name : List ℕ) → HasName n name ↔ (HasName l name ⊎ HasName r name)
joined_names l r n h name = or_is _ _ _ (h (record { ref_ptr = (0, 0); now = name }))

alone_is : (b : Bool) (c : Bool) (xs ys : List ℕ) → (b ≡ true) ↔ (xs ≡ ys) → c ≡ cond b true false → (c ≡ true) ↔ (ys ≡ xs)
alone_is b c xs ys h e = grind arith

none_in : (ks : List (Bor (List ℕ))) (q : List ℕ) → ks ≡ [] → list_any (λ k. is_eq (slice_cmp nat_cmp q k.now)) ks ≡ false
none_in ks q e = rw e refl

pub alone_name : (name : Bor (List ℕ)) (o n : BTreeSet (Bor (List ℕ))) → o.keys ≡ [] → ((q : Bor (List ℕ)) → contains (λ x y. slice_cmp nat_cmp x.now y.now) n q ≡ cond (is_at (λ y. slice_cmp nat_cmp name.now y.now) q) true (contains (λ x y. slice_cmp nat_cmp x.now y.now) o q)) → (other : List ℕ) → HasName n other ↔ (other ≡ name.now)
alone_name name o n e h other = alone_is _ _ name.now other (same_text name.now other) (h (record { ref_ptr = (0, 0); now = other }) ∙ ap (cond (is_eq (slice_cmp nat_cmp name.now other)) true) (none_in o.keys other e))

none_keys : (ks : List (Bor (List ℕ))) (r : Bool) → (r ≡ true) ↔ (length ks ≡ 0) → r ≡ true → (name : List ℕ) → ¬ (list_any (λ k. is_eq (slice_cmp nat_cmp name k.now)) ks ≡ true)
none_keys [] r h g name e = absurd (cc)
none_keys (k ∷ ks) r h g name e = let z = h.0 g in absurd (omega (arith, z))

some_keys : (ks : List (Bor (List ℕ))) (r : Bool) → (r ≡ true) ↔ (length ks ≡ 0) → r ≡ false → (name : List ℕ) × (list_any (λ k. is_eq (slice_cmp nat_cmp name k.now)) ks ≡ true)
some_keys [] r h g = let z = h.1 refl in absurd (cc)
some_keys (k ∷ ks) r h g = (k.now, rw ((same_text k.now k.now).1 refl) refl)

pub no_names : (s : BTreeSet (Bor (List ℕ))) (r : Bool) → (r ≡ true) ↔ (length s.keys ≡ 0) → r ≡ true → (name : List ℕ) → ¬ HasName s name
no_names s r h = none_keys s.keys r h

pub some_name : (s : BTreeSet (Bor (List ℕ))) (r : Bool) → (r ≡ true) ↔ (length s.keys ≡ 0) → r ≡ false → (name : List ℕ) × HasName s name
some_name s r h = some_keys s.keys r h

-- what is the same as the same, as both, or as either
pub same_as : {A B C : Type 0} → (A ↔ B) → (B ↔ C) → A ↔ C
same_as a b = (λ x. b.0 (a.0 x), λ x. a.1 (b.1 x))

pub same_both : {A B C P Q : Type 0} → (A ↔ (B × C)) → (B ↔ P) → (C ↔ Q) → A ↔ (P × Q)
same_both a b c = (λ x. let y = a.0 x in (b.0 y.0, c.0 y.1), λ x. a.1 (b.1 x.0, c.1 x.1))

pub same_either : {A B C P Q : Type 0} → (A ↔ (B ⊎ C)) → (B ↔ P) → (C ↔ Q) → A ↔ (P ⊎ Q)
same_either a b c = (λ x. elim (a.0 x) [ inl y ↦ inl (b.0 y) | inr y ↦ inr (c.0 y) ], λ x. elim x [ inl y ↦ a.1 (inl (b.1 y)) | inr y ↦ a.1 (inr (c.1 y)) ])
