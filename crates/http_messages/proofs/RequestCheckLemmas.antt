-- Which of the conditions of a head decides, and what a session keeps.
use Rattle.std.proofs.Common.{rules, ◌≡◌, ℕ, ◌+◌, ◌<◌, ◌≤◌, Bool, true, false, ◌||◌, not, ◌==◌, if◌then◌else◌, codes, map, Bor, List, [], ◌++◌, length, take, drop, inl, inr, length-take, length-append, length-drop, Option, Some, None, refl, sym, ap, subst, ◌∙◌, arith, nat_lt}
use Rattle.std.specs.List.{list_all}
use Rattle.std.specs.Str.{is_utf8}
use Rattle.std.proofs.lemmas.List.{append-nil}
use Rattle.std.proofs.lemmas.Bool.Decides.{Decides-eqb}
use Rattle.http_messages.specs.declared.request_refusal.Refusal.{Refusal}
use Rattle.http_messages.specs.declared.request_refusal.Refusal.TheVariants.{BadRequest, LengthRequired, BodyTooLarge, TransferCoding}
use Rattle.http_messages.specs.Fields.{HeadParts, values, first_length, states, body_length, has_bad_host, has_bad_text, has_bad_text_in, has_coding, has_bad_length, lacks_length}
use Rattle.http_messages.specs.declared.frame.Frame.TheVariants.{More}
use Rattle.http_messages.specs.declared.frame.TheConstants.{MAX_HEAD}
use Rattle.http_messages.specs.Frames.{head_refusal, AcceptsHead, IsFirstFrame}
use Rattle.http_messages.specs.inner.Searching.{IsMore, Needs}
use Rattle.http_messages.proofs.ValueLemmas.{all_of}
use Rattle.http_messages.proofs.FrameLemmas.{needs_body}

-- the first of the conditions that holds
abbrev pick : Bool → Bool → Bool → Bool → Bool → Bool → Option Refusal
pick host text coding bad lacks large =
    if host || text then Some BadRequest
    else if coding then Some TransferCoding
    else if bad then Some BadRequest
    else if lacks then Some LengthRequired
    else if large then Some BodyTooLarge
    else None

-- ---- the values that are read as texts

not_false : (x : Bool) → not x ≡ false → x ≡ true
not_false true is = refl
not_false false is = absurd (cc is)

or_false : (a b c : Bool) → a || b || c ≡ false → (a ≡ false) × (b ≡ false) × (c ≡ false)
or_false false false false is = (refl, refl, refl)
or_false false false true is = absurd (cc is)
or_false false true c is = absurd (cc is)
or_false true b c is = absurd (cc is)

-- where no text is bad, each value is UTF-8
pub record AreTexts (h : HeadParts) : Type 0 where
  pub accept : list_all is_utf8 (values (codes "accept") h) ≡ true
  pub content_type : list_all is_utf8 (values (codes "content-type") h) ≡ true

pub are_texts : (h : HeadParts) → has_bad_text h ≡ false → AreTexts h
are_texts h fine =
    let each = or_false (has_bad_text_in (codes "accept") h) (has_bad_text_in (codes "content-type") h) (has_bad_text_in (codes "connection") h) fine in
    record { accept = not_false _ each.0; content_type = not_false _ each.1 }

-- ---- what the functions of a head answer

pub bad_length : (n : ℕ) (a : Bool) (xs ys : List (Bor (List ℕ))) (zs : List (List ℕ)) → map (λ (x : Bor (List ℕ)). x.now) xs ≡ zs → map (λ (x : Bor (List ℕ)). x.now) ys ≡ zs
    → n ≡ first_length (map (λ (x : Bor (List ℕ)). x.now) xs) → a ≡ list_all (λ (x : Bor (List ℕ)). states n x.now) ys
    → not a ≡ not (list_all (states (first_length zs)) zs)
bad_length n a xs ys zs same again number all =
    ap not (all ∙ all_of (states n) ys zs again ∙ ap (λ (k : ℕ). list_all (states k) zs) (number ∙ ap first_length same))

pub close_old : (m n : ℕ) (q r : Bool) → n ≡ m → n ≡ 0 → r ≡ (n == 0) → r ≡ ((m == 0) || q)
close_old m n q r same old is =
    let zero : m ≡ 0 = sym same ∙ old in
    rw zero (is ∙ ap (λ (k : ℕ). k == 0) old)

pub close_new : (m : ℕ) (q a r : Bool) → (m ≡ 0 → ⊥) → a ≡ q → r ≡ a → r ≡ ((m == 0) || q)
close_new m q a r new asks is = by_test (m == 0) refl
  where
    by_test : (t : Bool) → (m == 0) ≡ t → r ≡ ((m == 0) || q)
    by_test true same = absurd (new ((Decides-eqb m 0).0 same))
    by_test false other = rw other (is ∙ asks)

-- what is found where the body isn't whole
pub needs_more : (g : ℕ) (bytes : List ℕ) (s e n : ℕ) (parts : HeadParts) → AcceptsHead g bytes s e parts → n ≡ body_length parts → length bytes < e + n
    → IsMore g bytes × Needs g bytes (e + n)
needs_more g bytes s e n parts accepts size short = (
  inr (record { start = s; end = e; parts = parts; accepts = accepts; short = subst (λ (k : ℕ). length bytes < e + k) size short }),
  subst (λ (k : ℕ). Needs g bytes (e + k)) (sym size) (needs_body g bytes s e parts accepts),
)

-- a slice of a list that is lent and given back leaves as much room
pub same_room : {S : Type 0} (lent items : List S) (len most : ℕ) → len ≡ length items → most ≤ length items → most ≤ length (take len (lent ++ drop (length lent) items))
same_room {S} lent items len most all room =
    omega (arith, length-take len (lent ++ drop (length lent) items), length-append lent (drop (length lent) items), length-drop (length lent) items)

-- where a session waits for more, more is needed
pub needs_now : (greatest : ℕ) (bytes : List ℕ) (needed : ℕ) → Needs greatest bytes needed → length bytes < needed → IsMore greatest bytes
needs_now greatest bytes needed needs short =
    subst (IsMore greatest) (append-nil bytes) (needs [] (omega (arith, ap length (append-nil bytes))))

-- ---- how much may be needed

no_large : (a b c d e f : Bool) → pick a b c d e f ≡ None → f ≡ false
no_large a b c d e false is = refl
no_large true b c d e true is = absurd (cc is)
no_large false true c d e true is = absurd (cc is)
no_large false false true d e true is = absurd (cc is)
no_large false false false true e true is = absurd (cc is)
no_large false false false false true true is = absurd (cc is)
no_large false false false false false true is = absurd (cc is)

not_lt : (n m : ℕ) → nat_lt n m ≡ false → m ≤ n
not_lt n m is = Prim.search rules

small_body : (g : ℕ) (h : HeadParts) → head_refusal g h ≡ None → body_length h ≤ g
small_body g h fine = not_lt g (body_length h) (no_large (has_bad_host h) (has_bad_text h) (has_coding h) (has_bad_length h) (lacks_length h) (nat_lt g (body_length h)) fine)

pub few_bytes : (greatest : ℕ) (bytes rest : List ℕ) → IsFirstFrame greatest bytes More rest → length bytes < MAX_HEAD + greatest
few_bytes greatest bytes rest (inl head, same) = let room = head.room in omega (arith, room)
few_bytes greatest bytes rest (inr body, same) =
    let small = small_body greatest body.parts body.accepts.fine in omega (arith, small, body.short, body.accepts.head.fits)
