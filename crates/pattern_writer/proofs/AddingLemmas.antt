-- Texts that are added one after another.
use Rattle.std.proofs.Common.{◌≡◌, ℕ, ◌+◌, ◌<◌, List, [], ◌∷◌, ◌++◌, length, get_or, take, refl, sym, ◌∙◌, ap, append_assoc, append-nil, if◌then◌else◌, ◌==◌, arith, Result, Ok, Err, OnOk}
use Rattle.std.proofs.lemmas.Grind.{flat_map-append, common_steps}
use Rattle.std.proofs.lemmas.List.{take_more}
use Rattle.std.proofs.lemmas.List.{length-take}
use Rattle.std.proofs.lemmas.Bool.Decides.{nat_tests}
use Rattle.std.proofs.lemmas.Slice.Zip.{all_zipped_more, AllZip-long}
use Rattle.pattern_writer.specs.Parts.{IsAfterText, AreSides, joined_texts, AreJoined, AppendsText}

pub two_added : (old mid new a b : List ℕ) → mid ≡ old ++ a → new ≡ mid ++ b → new ≡ old ++ (a ++ b)
two_added old mid new a b e f = f ∙ ap (λ (x : List ℕ). x ++ b) e ∙ append_assoc old a b

pub adds_after : (IsText : List ℕ → Type 0) (lead old mid new : List ℕ) → mid ≡ old ++ lead → AppendsText IsText mid new → AppendsText (IsAfterText lead IsText) old new
adds_after IsText lead old mid new e h = (lead ++ h.0, (h.0, h.1, refl), two_added old mid new lead h.0 e h.2)

pub adds_sides : (IsLeft IsRight : List ℕ → Type 0) (between old left mid new : List ℕ) → AppendsText IsLeft old left → mid ≡ left ++ between → AppendsText IsRight mid new → AppendsText (AreSides IsLeft between IsRight) old new
adds_sides IsLeft IsRight between old left mid new h e k =
    (h.0 ++ between ++ k.0, (h.0, k.0, h.1, k.1, refl), two_added old mid new (h.0 ++ between) k.0 (two_added old left mid h.0 between h.2 e) k.2)

joined_more : (between : List ℕ) (texts : List (List ℕ)) (text : List ℕ) → joined_texts between (texts ++ text ∷ []) ≡ joined_texts between texts ++ ((if length texts == 0 then [] else between) ++ text)
joined_more between [] text = append-nil text
joined_more between (x ∷ texts) text = grind (arith, nat_tests, common_steps, flat_map-append (λ (y : List ℕ). between ++ y) texts (text ∷ []))

no_lead : (i : ℕ) (mid : List ℕ) → mid ≡ mid ++ (if i == 0 then [] else [])
no_lead i mid = grind (arith, nat_tests, common_steps)

-- one more text, with what stands before it
pub adds_more : {A : Type 0} (R : A → List ℕ → Type 0) (between : List ℕ) (xs : List A) (x : A) (i : ℕ) (old mid lead new : List ℕ) → length xs ≡ i → AppendsText (AreJoined between R xs) old mid → lead ≡ mid ++ (if i == 0 then [] else between) → AppendsText (R x) lead new → AppendsText (AreJoined between R (xs ++ x ∷ [])) old new
adds_more R between xs x i old mid lead new n h e k =
    let texts = h.1.0 in
    let count : length texts ≡ i = AllZip-long R xs texts h.1.1 ∙ n in
    let more : joined_texts between (texts ++ k.0 ∷ []) ≡ joined_texts between texts ++ ((if i == 0 then [] else between) ++ k.0) = rw (← count) (joined_more between texts k.0) in
    let f : new ≡ mid ++ ((if i == 0 then [] else between) ++ k.0) = two_added mid lead new (if i == 0 then [] else between) k.0 e k.2 in
    let g : mid ≡ old ++ joined_texts between texts = h.2 ∙ ap (λ (y : List ℕ). old ++ y) h.1.2 in
    (joined_texts between (texts ++ k.0 ∷ []), (texts ++ k.0 ∷ [], all_zipped_more R xs texts x k.0 h.1.1 k.1, refl), two_added old mid new (joined_texts between texts) ((if i == 0 then [] else between) ++ k.0) g f ∙ ap (λ (y : List ℕ). old ++ y) (sym more))

front_length : {A : Type 0} (xs : List A) (i : ℕ) → i < length xs → length (take i xs) ≡ i
front_length xs i b = omega (arith, length-take i xs)

-- the same in a loop over a list
pub adds_next : {A : Type 0} (R : A → List ℕ → Type 0) (between : List ℕ) (xs : List A) (i : ℕ) (d : A) (old mid lead new : List ℕ) → i < length xs → AppendsText (AreJoined between R (take i xs)) old mid → lead ≡ mid ++ (if i == 0 then [] else between) → AppendsText (R (get_or xs i d)) lead new → AppendsText (AreJoined between R (take (i + 1) xs)) old new
adds_next R between xs i d old mid lead new b h e k = rw (take_more xs i d b) (adds_more R between (take i xs) (get_or xs i d) i old mid lead new (front_length xs i b) h e k)

-- the same of what a call adds last, where it returned Ok
pub ok_after : {T E : Type 0} (r : Result T E) (IsText : List ℕ → Type 0) (lead old mid new : List ℕ) → mid ≡ old ++ lead → OnOk r (AppendsText IsText mid new) → OnOk r (AppendsText (IsAfterText lead IsText) old new)
ok_after (Ok x) IsText lead old mid new e h = adds_after IsText lead old mid new e h
ok_after (Err x) IsText lead old mid new e h = h

pub ok_sides : {T E : Type 0} (r : Result T E) (IsLeft IsRight : List ℕ → Type 0) (between old left mid new : List ℕ) → AppendsText IsLeft old left → mid ≡ left ++ between → OnOk r (AppendsText IsRight mid new) → OnOk r (AppendsText (AreSides IsLeft between IsRight) old new)
ok_sides (Ok x) IsLeft IsRight between old left mid new h e k = adds_sides IsLeft IsRight between old left mid new h e k
ok_sides (Err x) IsLeft IsRight between old left mid new h e k = k

-- nothing stands between
pub adds_next_bare : {A : Type 0} (R : A → List ℕ → Type 0) (xs : List A) (i : ℕ) (d : A) (old mid new : List ℕ) → i < length xs → AppendsText (AreJoined [] R (take i xs)) old mid → AppendsText (R (get_or xs i d)) mid new → AppendsText (AreJoined [] R (take (i + 1) xs)) old new
adds_next_bare R xs i d old mid new b h k = adds_next R [] xs i d old mid mid new b h (no_lead i mid) k
