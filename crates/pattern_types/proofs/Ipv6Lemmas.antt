-- The text of an IPv6 address, here and in std, is one: std goes from group to group with the colon
-- before each, and here the texts of the groups are joined by colons.
use Rattle.std.proofs.Common.{◌≡◌, ℕ, ◌+◌, ◌-◌, ◌/◌, ◌%◌, ◌^◌, ◌⊎◌, inl, inr, Bool, true, false, List, [], ◌∷◌, ◌++◌, length, refl, sym, ap, ◌∙◌, subst, arith, length-append}
use Rattle.std.specs.Prelude.{IsTrue, replicate}
use Rattle.std.specs.List.{join_with_byte}
use Rattle.std.specs.Int.{w32, w128, from_be_bytes}
use Rattle.std.specs.Net.Addr.{octets_of}
use Rattle.std.specs.Net.Grammar.{IsGroupsAfter, IsGroups, IsColonHex, IsElided}
use Rattle.std.proofs.lemmas.List.{append-nil, length-replicate}
use Rattle.pattern_types.specs.Ipv4.{number_of, IsIpv4Text}
use Rattle.pattern_types.specs.Ipv6.{IsGroup, AreGroups, IsGroupsText, IsEndText, IsShortened, IsIpv6Text}
use Rattle.pattern_types.proofs.Ipv4Lemmas.{IsIpv4Text-from_std, octets_of_text, segments_halves}

-- the texts, the first after `lead` and each other after a colon
abbrev joined : List ℕ → List (List ℕ) → List ℕ
joined lead [] = []
joined lead (text ∷ texts) = lead ++ text ++ joined (58 ∷ []) texts

joined-is : (texts : List (List ℕ)) → joined [] texts ≡ join_with_byte 58 texts
joined-is [] = refl
joined-is (text ∷ []) = append-nil text
joined-is (text ∷ next ∷ texts) = ap (λ rest. text ++ 58 ∷ rest) (joined-is (next ∷ texts))

-- groups alone
to_groups : (ipv4 : Bool) (lead : List ℕ) (texts : List (List ℕ)) (groups : List ℕ) → AreGroups texts groups → IsGroupsAfter ipv4 lead (joined lead texts) groups
to_groups ipv4 lead [] [] each = refl
to_groups ipv4 lead [] (group ∷ groups) each = absurd each
to_groups ipv4 lead (text ∷ texts) [] each = absurd each
to_groups ipv4 lead (text ∷ texts) (group ∷ groups) each = inl (
  text,
  joined (58 ∷ []) texts,
  refl,
  ((each.0.digits, each.0.value), each.0.four_at_most),
  to_groups ipv4 (58 ∷ []) texts groups each.1,
)

-- and with an IPv4 address at the end
to_groups_ipv4 : (lead : List ℕ) (texts : List (List ℕ)) (front last : List ℕ) (number : ℕ) → AreGroups texts front → IsIpv4Text last number → IsGroupsAfter true lead (joined lead (texts ++ last ∷ [])) (front ++ number / 2 ^ 16 ∷ number % 2 ^ 16 ∷ [])
to_groups_ipv4 lead [] [] last number each ipv4 =
    let octets = octets_of_text last number ipv4 in
    inr (last, octets.octets, refl, append-nil (lead ++ last), octets.dotted, sym octets.halves)
to_groups_ipv4 lead [] (group ∷ front) last number each ipv4 = absurd each
to_groups_ipv4 lead (text ∷ texts) [] last number each ipv4 = absurd each
to_groups_ipv4 lead (text ∷ texts) (group ∷ front) last number each ipv4 = inl (
  text,
  joined (58 ∷ []) (texts ++ last ∷ []),
  refl,
  ((each.0.digits, each.0.value), each.0.four_at_most),
  to_groups_ipv4 (58 ∷ []) texts front last number each.1 ipv4,
)

-- what std reads after `lead`, in our words
record After (lead text groups : List ℕ) : Type 0 where
  texts : List (List ℕ)
  each : AreGroups texts groups
  spelled : text ≡ joined lead texts

record AfterIpv4 (lead text groups : List ℕ) : Type 0 where
  texts : List (List ℕ)
  front : List ℕ
  last : List ℕ
  number : ℕ
  each : AreGroups texts front
  ipv4 : IsIpv4Text last number
  spelled : text ≡ joined lead (texts ++ last ∷ [])
  value : groups ≡ front ++ number / 2 ^ 16 ∷ number % 2 ^ 16 ∷ []

one_more : (ipv4 : Bool) (lead group rest text : List ℕ) (value : ℕ) (groups : List ℕ) → text ≡ lead ++ group ++ rest → IsGroup group value → After (58 ∷ []) rest groups ⊎ (IsTrue ipv4 × AfterIpv4 (58 ∷ []) rest groups) → After lead text (value ∷ groups) ⊎ (IsTrue ipv4 × AfterIpv4 lead text (value ∷ groups))
one_more ipv4 lead group rest text value groups spelled is_group (inl after) = inl (record {
  texts = group ∷ after.texts;
  each = (is_group, after.each);
  spelled = spelled ∙ ap (λ tail. lead ++ group ++ tail) after.spelled;
})
one_more ipv4 lead group rest text value groups spelled is_group (inr after) = inr (
  after.0,
  record {
    texts = group ∷ after.1.texts;
    front = value ∷ after.1.front;
    last = after.1.last;
    number = after.1.number;
    each = (is_group, after.1.each);
    ipv4 = after.1.ipv4;
    spelled = spelled ∙ ap (λ tail. lead ++ group ++ tail) after.1.spelled;
    value = ap (λ tail. value ∷ tail) after.1.value;
  },
)

from_groups : (ipv4 : Bool) (lead text groups : List ℕ) → IsGroupsAfter ipv4 lead text groups → After lead text groups ⊎ (IsTrue ipv4 × AfterIpv4 lead text groups)
from_groups ipv4 lead text [] after = inl (record { texts = []; each = tt; spelled = after })
from_groups ipv4 lead text (value ∷ groups) (inl after) =
    one_more ipv4 lead after.0 after.1 text value groups after.2 (record { digits = after.3.0.0; four_at_most = after.3.1; value = after.3.0.1 }) (from_groups ipv4 (58 ∷ []) after.1 groups after.4)
from_groups ipv4 lead text (value ∷ groups) (inr after) = inr (
  after.2,
  record {
    texts = [];
    front = [];
    last = after.0;
    number = from_be_bytes w32 after.1;
    each = tt;
    ipv4 = IsIpv4Text-from_std after.0 after.1 after.4;
    spelled = after.3 ∙ sym (append-nil (lead ++ after.0));
    value = after.5 ∙ segments_halves after.0 after.1 after.4;
  },
)

-- the two definitions of groups, and of groups at the end
to_std : (ipv4 : Bool) (text groups : List ℕ) → IsGroupsText text groups → IsGroups ipv4 text groups
to_std ipv4 text groups is_text =
    let P : List ℕ → Type 0 = λ t. IsGroupsAfter ipv4 [] t groups in
    subst P (joined-is is_text.texts ∙ sym is_text.spelled) (to_groups ipv4 [] is_text.texts groups is_text.each)

end_to_std : (text groups : List ℕ) → IsEndText text groups → IsGroups true text groups
end_to_std text groups (inl is_text) = to_std true text groups is_text
end_to_std text groups (inr is_text) =
    let P : List ℕ → Type 0 = λ t. IsGroupsAfter true [] t groups in
    let whole = to_groups_ipv4 [] is_text.texts is_text.front is_text.last is_text.number is_text.each is_text.ipv4 in
    let Q : List ℕ → Type 0 = λ gs. IsGroupsAfter true [] (joined [] (is_text.texts ++ is_text.last ∷ [])) gs in
    subst P (joined-is (is_text.texts ++ is_text.last ∷ []) ∙ sym is_text.spelled) (subst Q (sym is_text.value) whole)

from_after : (text groups : List ℕ) → After [] text groups → IsGroupsText text groups
from_after text groups after = record {
  texts = after.texts;
  each = after.each;
  spelled = after.spelled ∙ joined-is after.texts;
}

from_std : (text groups : List ℕ) → IsGroups false text groups → IsGroupsText text groups
from_std text groups is_groups =
    elim (from_groups false [] text groups is_groups) [
      | inl after ↦ from_after text groups after
      | inr after ↦ cc (after.0)
    ]

end_from_std : (text groups : List ℕ) → IsGroups true text groups → IsEndText text groups
end_from_std text groups is_groups =
    elim (from_groups true [] text groups is_groups) [
      | inl after ↦ inl (from_after text groups after)
      | inr after ↦
          let ends = after.1 in
          inr (record {
            texts = ends.texts;
            front = ends.front;
            last = ends.last;
            number = ends.number;
            each = ends.each;
            ipv4 = ends.ipv4;
            spelled = ends.spelled ∙ joined-is (ends.texts ++ ends.last ∷ []);
            value = ends.value;
          })
    ]

-- how many groups there are round zeros
length_round : (left right : List ℕ) (between : ℕ) → length (left ++ replicate between 0 ++ right) ≡ length left + between + length right
length_round left right between = simp (length-append, length-replicate) refl

shortened_to_std : (text groups : List ℕ) → length groups ≡ 8 → IsShortened text groups → IsElided text groups
shortened_to_std text groups eight short =
    let count = length_round short.left short.right short.zeros in
    let whole : length short.left + short.zeros + length short.right ≡ 8 = sym count ∙ sym (ap length short.value) ∙ eight in
    let zeros_are : short.zeros ≡ 8 - length short.left - length short.right = omega arith in
    let some = short.some_zeros in
    record {
      head_text = short.left_text;
      tail_text = short.right_text;
      head = short.left;
      tail = short.right;
      spelled = short.spelled;
      head_groups = to_std false short.left_text short.left short.left_groups;
      tail_groups = end_to_std short.right_text short.right short.right_groups;
      room = omega arith;
      value = short.value ∙ ap (λ between. short.left ++ replicate between 0 ++ short.right) zeros_are;
    }

shortened_from_std : (text groups : List ℕ) → IsElided text groups → IsShortened text groups
shortened_from_std text groups elided = record {
  left_text = elided.head_text;
  right_text = elided.tail_text;
  left = elided.head;
  right = elided.tail;
  zeros = 8 - length elided.head - length elided.tail;
  some_zeros = omega (arith, elided.room);
  left_groups = from_std elided.head_text elided.head elided.head_groups;
  right_groups = end_from_std elided.tail_text elided.tail elided.tail_groups;
  spelled = elided.spelled;
  value = elided.value;
}

elided_eight : (text groups : List ℕ) → IsElided text groups → length groups ≡ 8
elided_eight text groups elided =
    ap length elided.value ∙ length_round elided.head elided.tail (8 - length elided.head - length elided.tail) ∙ omega (arith, elided.room)

-- the number of eight groups
eight_groups : (a b c d e f g h : ℕ) → from_be_bytes w128 (octets_of (a ∷ b ∷ c ∷ d ∷ e ∷ f ∷ g ∷ h ∷ [])) ≡ number_of (2 ^ 16) (a ∷ b ∷ c ∷ d ∷ e ∷ f ∷ g ∷ h ∷ [])
eight_groups a b c d e f g h = omega arith

segments_number : (groups : List ℕ) → length groups ≡ 8 → from_be_bytes w128 (octets_of groups) ≡ number_of (2 ^ 16) groups
segments_number (a ∷ b ∷ c ∷ d ∷ e ∷ f ∷ g ∷ h ∷ []) eight = eight_groups a b c d e f g h
segments_number (a ∷ b ∷ c ∷ d ∷ e ∷ f ∷ g ∷ h ∷ i ∷ more) eight = absurd (omega arith)
segments_number (a ∷ b ∷ c ∷ d ∷ e ∷ f ∷ g ∷ []) eight = absurd (omega arith)
segments_number (a ∷ b ∷ c ∷ d ∷ e ∷ f ∷ []) eight = absurd (omega arith)
segments_number (a ∷ b ∷ c ∷ d ∷ e ∷ []) eight = absurd (omega arith)
segments_number (a ∷ b ∷ c ∷ d ∷ []) eight = absurd (omega arith)
segments_number (a ∷ b ∷ c ∷ []) eight = absurd (omega arith)
segments_number (a ∷ b ∷ []) eight = absurd (omega arith)
segments_number (a ∷ []) eight = absurd (omega arith)
segments_number [] eight = absurd (omega arith)

-- the segments of a text of ours
pub record Segments (text : List ℕ) (number : ℕ) : Type 0 where
  pub segments : List ℕ
  pub colon_hex : IsColonHex text segments
  pub value : from_be_bytes w128 (octets_of segments) ≡ number

pub segments_of_text : (text : List ℕ) (number : ℕ) → IsIpv6Text text number → Segments text number
segments_of_text text number ipv6 = record {
  segments = ipv6.groups;
  colon_hex = elim ipv6.spelled [
    | inl whole ↦ inl (end_to_std text ipv6.groups whole, ipv6.eight)
    | inr short ↦ inr (shortened_to_std text ipv6.groups ipv6.eight short)
  ];
  value = segments_number ipv6.groups ipv6.eight ∙ sym ipv6.value;
}

pub IsIpv6Text-from_std : (text segments : List ℕ) → IsColonHex text segments → IsIpv6Text text (from_be_bytes w128 (octets_of segments))
IsIpv6Text-from_std text segments (inl whole) = record {
  groups = segments;
  eight = whole.1;
  spelled = inl (end_from_std text segments whole.0);
  value = segments_number segments whole.1;
}
IsIpv6Text-from_std text segments (inr elided) = record {
  groups = segments;
  eight = elided_eight text segments elided;
  spelled = inr (shortened_from_std text segments elided);
  value = segments_number segments (elided_eight text segments elided);
}
