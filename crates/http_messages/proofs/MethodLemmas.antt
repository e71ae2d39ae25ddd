-- The names of the methods that a resource takes are short tokens, so `http` reads them without memory.
use Rattle.std.proofs.Common.{◌≡◌, ℕ, ◌≤◌, true, false, List, length, codes, refl, sym, subst, arith}
use Rattle.std.specs.Prelude.{bytes_eq, All, IsTrue}
use Rattle.std.specs.List.{list_all}
use Rattle.std.proofs.lemmas.Bool.Decides.{Decides-by_and}
use Rattle.std.proofs.lemmas.Bool.{false_from_ne_true}
use Rattle.std.proofs.lemmas.Slice.Eq.{bytes_eq-Decides}
use Rattle.http.specs.Token.{is_token_byte, IsToken}
use Rattle.http_messages.specs.declared.method.Method.TheVariants.{Other}
use Rattle.http_messages.specs.Fields.{method_of}

-- a token that `http` reads without memory
abbrev pub IsShortToken : List ℕ → Type 0
IsShortToken name = IsToken name × (length name ≤ 15)

all_marks : (name : List ℕ) → list_all is_token_byte name ≡ true → All (λ b. IsTrue (is_token_byte b)) name
all_marks name = (Decides-by_and is_token_byte (λ b. IsTrue (is_token_byte b)) (list_all is_token_byte) (λ b. (λ h. h, λ h. h)) refl (λ _ _. refl) name).0

unlike : (name known : List ℕ) → ¬ (IsShortToken name) → IsShortToken known → bytes_eq name known ≡ false
unlike name known none is =
    false_from_ne_true (bytes_eq name known) (λ same. none (subst IsShortToken (sym ((bytes_eq-Decides name known).0 same)) is))

get_is : IsShortToken (codes "GET")
unfolding is_token_byte
get_is = ((omega arith, all_marks (codes "GET") refl), omega arith)

head_is : IsShortToken (codes "HEAD")
unfolding is_token_byte
head_is = ((omega arith, all_marks (codes "HEAD") refl), omega arith)

post_is : IsShortToken (codes "POST")
unfolding is_token_byte
post_is = ((omega arith, all_marks (codes "POST") refl), omega arith)

delete_is : IsShortToken (codes "DELETE")
unfolding is_token_byte
delete_is = ((omega arith, all_marks (codes "DELETE") refl), omega arith)

-- what is no short token names another method
pub other_method : (name : List ℕ) → ¬ (IsShortToken name) → Other ≡ method_of name
other_method name none =
    rw (unlike name _ none get_is, unlike name _ none head_is, unlike name _ none post_is, unlike name _ none delete_is) refl
