-- The text of an address holds no slash, so a text can be cut at its first slash in one way.
use Rattle.std.proofs.Common.{◌≡◌, ◌≢◌, ℕ, suc, ◌<◌, inl, inr, List, [], ◌∷◌, ◌++◌, length, map, decimal, All, get_or, refl, sym, subst, arith}
use Rattle.std.specs.List.{AllByRecursion, join_with_byte}
use Rattle.std.specs.Char.{digit_value}
use Rattle.std.specs.Str.Parse.{AllDigits}
use Rattle.std.proofs.lemmas.Fmt.{decimal_is_IsNumeral}
use Rattle.std.proofs.lemmas.List.Elements.{All-head, All-tail}
use Rattle.pattern_types.specs.Ipv4.{IsIpv4Text}
use Rattle.pattern_types.specs.Ipv6.{AreGroups, IsGroupsText, IsEndText, IsShortened, IsIpv6Text}
use Rattle.pattern_types.specs.Slash.{HasNoSlash}

no_slash-append : (xs ys : List ℕ) → HasNoSlash xs → HasNoSlash ys → HasNoSlash (xs ++ ys)
no_slash-append [] ys first second = second
no_slash-append (x ∷ xs) ys first second = (first.0, no_slash-append xs ys first.1 second)

no_slash_digits : (radix : ℕ) (digits : List ℕ) → radix < 17 → AllDigits radix digits → HasNoSlash digits
no_slash_digits radix [] small all = tt
no_slash_digits radix (c ∷ digits) small all = (
  λ slash. let value : digit_value 47 < radix = subst (λ d. digit_value d < radix) slash all.0 in omega arith,
  no_slash_digits radix digits small all.1,
)

no_slash_joined : (byte : ℕ) (texts : List (List ℕ)) → byte ≢ 47 → AllByRecursion HasNoSlash texts → HasNoSlash (join_with_byte byte texts)
no_slash_joined byte [] other clear = tt
no_slash_joined byte (text ∷ []) other clear = clear.0
no_slash_joined byte (text ∷ next ∷ texts) other clear =
    no_slash-append text _ clear.0 (other, no_slash_joined byte (next ∷ texts) other clear.1)

clear_decimals : (parts : List ℕ) → All (λ part. part < 256) parts → AllByRecursion HasNoSlash (map decimal parts)
clear_decimals [] small = tt
clear_decimals (part ∷ parts) small =
    let below = All-head (λ part. part < 256) part parts small in (
      no_slash_digits 10 (decimal part) (omega arith) (decimal_is_IsNumeral part (omega arith)).0.1,
      clear_decimals parts (All-tail (λ part. part < 256) part parts small),
    )

clear_groups : (texts : List (List ℕ)) (groups : List ℕ) → AreGroups texts groups → AllByRecursion HasNoSlash texts
clear_groups [] groups each = tt
clear_groups (text ∷ texts) [] each = absurd each
clear_groups (text ∷ texts) (group ∷ groups) each =
    (no_slash_digits 16 text (omega arith) each.0.digits.1, clear_groups texts groups each.1)

clear_more : (texts : List (List ℕ)) (last : List ℕ) → AllByRecursion HasNoSlash texts → HasNoSlash last → AllByRecursion HasNoSlash (texts ++ last ∷ [])
clear_more [] last clear more = (more, tt)
clear_more (text ∷ texts) last clear more = (clear.0, clear_more texts last clear.1 more)

same_text : (xs ys : List ℕ) → xs ≡ ys → HasNoSlash ys → HasNoSlash xs
same_text xs ys same clear = subst HasNoSlash (sym same) clear

pub no_slash_ipv4 : (text : List ℕ) (number : ℕ) → IsIpv4Text text number → HasNoSlash text
no_slash_ipv4 text number ipv4 =
    same_text text _ ipv4.spelled (no_slash_joined 46 (map decimal ipv4.parts) (omega arith) (clear_decimals ipv4.parts ipv4.small))

no_slash_groups : (text groups : List ℕ) → IsGroupsText text groups → HasNoSlash text
no_slash_groups text groups is_text =
    same_text text _ is_text.spelled (no_slash_joined 58 is_text.texts (omega arith) (clear_groups is_text.texts groups is_text.each))

no_slash_end : (text groups : List ℕ) → IsEndText text groups → HasNoSlash text
no_slash_end text groups (inl is_text) = no_slash_groups text groups is_text
no_slash_end text groups (inr is_text) =
    let front = clear_groups is_text.texts is_text.front is_text.each in
    same_text text _ is_text.spelled (no_slash_joined 58 (is_text.texts ++ is_text.last ∷ []) (omega arith) (clear_more is_text.texts is_text.last front (no_slash_ipv4 is_text.last is_text.number is_text.ipv4)))

no_slash_shortened : (text groups : List ℕ) → IsShortened text groups → HasNoSlash text
no_slash_shortened text groups short =
    let colons : HasNoSlash (58 ∷ 58 ∷ []) = (omega arith, (omega arith, tt)) in
    let front = no_slash-append short.left_text (58 ∷ 58 ∷ []) (no_slash_groups short.left_text short.left short.left_groups) colons in
    same_text text _ short.spelled (no_slash-append (short.left_text ++ 58 ∷ 58 ∷ []) short.right_text front (no_slash_end short.right_text short.right short.right_groups))

pub no_slash_ipv6 : (text : List ℕ) (number : ℕ) → IsIpv6Text text number → HasNoSlash text
no_slash_ipv6 text number ipv6 =
    elim ipv6.spelled [
      | inl whole ↦ no_slash_end text ipv6.groups whole
      | inr short ↦ no_slash_shortened text ipv6.groups short
    ]

-- one way to cut at the first slash
pub same_cut : (front front' back back' : List ℕ) → HasNoSlash front → HasNoSlash front' → front ++ 47 ∷ back ≡ front' ++ 47 ∷ back' → (front ≡ front') × (back ≡ back')
same_cut [] [] back back' clear clear' same = (refl, cc)
same_cut [] (x ∷ front') back back' clear clear' same = absurd (clear'.0 (cc))
same_cut (x ∷ front) [] back back' clear clear' same = absurd (clear.0 (cc))
same_cut (x ∷ front) (y ∷ front') back back' clear clear' same =
    let heads : x ≡ y = cc in
    let tails : front ++ 47 ∷ back ≡ front' ++ 47 ∷ back' = cc in
    let rest = same_cut front front' back back' clear.1 clear'.1 tails in
    (λ i. heads i ∷ rest.0 i, rest.1)

-- and none without one
pub no_cut : (front back : List ℕ) → HasNoSlash (front ++ 47 ∷ back) → ⊥
no_cut [] back clear = clear.0 refl
no_cut (x ∷ front) back clear = no_cut front back clear.1

pub no_slash_from_reads : (text : List ℕ) → ((i : ℕ) → i < length text → get_or text i 0 ≢ 47) → HasNoSlash text
no_slash_from_reads [] reads = tt
no_slash_from_reads (x ∷ text) reads =
    (reads 0 (omega arith), no_slash_from_reads text (λ i below. reads (suc i) (omega arith)))
