-- An index after a place was put for an identifier, as its maps hold it.
use Rattle.std.proofs.Common.{arith, ◌≡◌, ◌==◌, ◌&&◌, inl, inr, ℕ, List, [], Option, Some, None, Bool, false, cond, bytes_eq, option_and_then, Global, String, sym, ap, ◌∙◌}
use Rattle.std.specs.Ordering.{nat_cmp, is_eq}
use Rattle.std.specs.declared.collections.BTreeMap.{BTreeMap}
use Rattle.std.specs.BTreeMap.{get, get_by_text, is_at}
use Rattle.std.specs.Map.{lookup}
use Rattle.std.proofs.lemmas.Bool.{cases_Bool}
use Rattle.std.proofs.lemmas.Bool.Decides.{nat_tests}
use Rattle.std.proofs.lemmas.Slice.Eq.{bytes_eq-Decides}
use Rattle.stix_ids.specs.declared.id.Id.{Id}
use Rattle.stix_bundles.specs.inner.Index.{position_of, same_id, PutsPosition}

is_eq-nat_cmp : (a b : ℕ) → is_eq (nat_cmp a b) ≡ (a == b)
is_eq-nat_cmp a b = grind (arith, nat_tests)

abbrev Numbers : Type 0
Numbers = BTreeMap ℕ ℕ Global

abbrev Kinds : Type 0
Kinds = BTreeMap (String Global) Numbers Global

-- in a map of kinds, the numbers of a kind are now these, which were those before but for one number
pub put_in_kinds : (before after : Kinds) (id : Id) (at : ℕ) (old new : Numbers)
    → ((q : ℕ) → option_and_then (λ (numbers : Numbers). get nat_cmp numbers q) (get_by_text before id.kind) ≡ get nat_cmp old q)
    → ((q : ℕ) → get nat_cmp new q ≡ cond (is_eq (nat_cmp id.number q)) (Some at) (get nat_cmp old q))
    → ((cs : List ℕ) → get_by_text after cs ≡ cond (bytes_eq id.kind cs) (Some new) (get_by_text before cs))
    → PutsPosition (record { kinds = before }) (record { kinds = after }) id at
put_in_kinds before after id at old new known inner outer = λ other.
    elim (cases_Bool (bytes_eq id.kind other.kind)) [
      | inl kinds ↦
          let one : id.kind ≡ other.kind = (bytes_eq-Decides id.kind other.kind).0 kinds in
          let found : get_by_text after other.kind ≡ Some new = outer other.kind ∙ ap (λ (b : Bool). cond b (Some new) (get_by_text before other.kind)) kinds in
          let now : position_of (record { kinds = after }) other ≡ get nat_cmp new other.number =
          ap (λ (o : Option Numbers). option_and_then (λ (numbers : Numbers). get nat_cmp numbers other.number) o) found in
          let was : position_of (record { kinds = before }) other ≡ get nat_cmp old other.number =
          ap (λ (kind : List ℕ). option_and_then (λ (numbers : Numbers). get nat_cmp numbers other.number) (get_by_text before kind)) (sym one) ∙ known other.number in
          let test : same_id id other ≡ (id.number == other.number) = ap (λ b. b && (id.number == other.number)) kinds in
          now ∙ inner other.number ∙ ap (λ (b : Bool). cond b (Some at) (get nat_cmp old other.number)) (is_eq-nat_cmp id.number other.number ∙ sym test)
          ∙ ap (λ (o : Option ℕ). cond (same_id id other) (Some at) o) (sym was)
      | inr kinds ↦
          let found : get_by_text after other.kind ≡ get_by_text before other.kind =
          outer other.kind ∙ ap (λ (b : Bool). cond b (Some new) (get_by_text before other.kind)) kinds in
          let now : position_of (record { kinds = after }) other ≡ position_of (record { kinds = before }) other =
          ap (λ (o : Option Numbers). option_and_then (λ (numbers : Numbers). get nat_cmp numbers other.number) o) found in
          let test : same_id id other ≡ false = ap (λ b. b && (id.number == other.number)) kinds in
          now ∙ ap (λ (b : Bool). cond b (Some at) (position_of (record { kinds = before }) other)) (sym test)
    ]

-- a kind that the map has: its numbers were written
pub put_known : (before after : Kinds) (id : Id) (at : ℕ) (old new : Numbers) → Some old ≡ get_by_text before id.kind
    → ((q : ℕ) → get nat_cmp new q ≡ cond (is_eq (nat_cmp id.number q)) (Some at) (get nat_cmp old q))
    → ((cs : List ℕ) → get_by_text after cs ≡ cond (bytes_eq id.kind cs) (Some new) (get_by_text before cs))
    → PutsPosition (record { kinds = before }) (record { kinds = after }) id at
put_known before after id at old new known inner outer =
    put_in_kinds before after id at old new (λ q. ap (λ (o : Option Numbers). option_and_then (λ (numbers : Numbers). get nat_cmp numbers q) o) (sym known)) inner outer

-- a kind that it lacks: the kind was added, with these numbers
pub put_unknown : (before lent after : Kinds) (id : Id) (at : ℕ) (kind : List ℕ) (empty new : Numbers) → lent ≡ before → None ≡ get_by_text before id.kind
    → kind ≡ id.kind → empty.entries ≡ []
    → ((q : ℕ) → get nat_cmp new q ≡ cond (is_eq (nat_cmp id.number q)) (Some at) (get nat_cmp empty q))
    → ((cs : List ℕ) → get_by_text after cs ≡ cond (bytes_eq kind cs) (Some new) (get_by_text lent cs))
    → PutsPosition (record { kinds = before }) (record { kinds = after }) id at
put_unknown before lent after id at kind empty new same lacks is none inner outer =
    put_in_kinds before after id at empty new
    (λ q.
    ap (λ (o : Option Numbers). option_and_then (λ (numbers : Numbers). get nat_cmp numbers q) o) (sym lacks)
    ∙ ap (λ (es : List (ℕ × ℕ)). lookup (is_at (nat_cmp q)) es) (sym none))
    inner
    (λ cs. outer cs ∙ ap (λ (bs : List ℕ). cond (bytes_eq bs cs) (Some new) (get_by_text lent cs)) is
    ∙ ap (λ (m : Kinds). cond (bytes_eq id.kind cs) (Some new) (get_by_text m cs)) same)
