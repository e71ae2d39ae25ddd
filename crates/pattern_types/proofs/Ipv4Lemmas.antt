-- The text of an IPv4 address, here and in std, is one.
use Rattle.std.proofs.Common.{◌≡◌, ℕ, ◌+◌, ◌*◌, ◌/◌, ◌%◌, ◌^◌, ◌<◌, List, [], ◌∷◌, length, map, decimal, All, refl, sym, ap, ◌∙◌, arith, append_assoc}
use Rattle.std.specs.Int.{w32, from_be_bytes}
use Rattle.std.specs.Net.Addr.{segments_of}
use Rattle.std.specs.Net.Text.{dotted_text}
use Rattle.std.specs.Net.Grammar.{IsDotted}
use Rattle.std.specs.List.{join_with_byte}
use Rattle.std.proofs.lemmas.List.Elements.{All-head, All-tail, All-cons, All-nil}
use Rattle.pattern_types.specs.Ipv4.{number_of, IsIpv4Text}

-- the number of four octets
bytes_number : (a b c d : ℕ) → from_be_bytes w32 (a ∷ b ∷ c ∷ d ∷ []) ≡ number_of 256 (a ∷ b ∷ c ∷ d ∷ [])
bytes_number a b c d = omega arith

joined : (a b c d : ℕ) → join_with_byte 46 (map decimal (a ∷ b ∷ c ∷ d ∷ [])) ≡ dotted_text a b c d
joined a b c d = sym (simp append_assoc)

all_four : (a b c d : ℕ) → a < 256 → b < 256 → c < 256 → d < 256 → All (λ part. part < 256) (a ∷ b ∷ c ∷ d ∷ [])
all_four a b c d ha hb hc hd =
    let P : ℕ → Type 0 = λ part. part < 256 in
    All-cons P a (b ∷ c ∷ d ∷ []) ha (All-cons P b (c ∷ d ∷ []) hb (All-cons P c (d ∷ []) hc (All-cons P d [] hd (All-nil P))))

pub IsIpv4Text-from_std : (text octets : List ℕ) → IsDotted text octets → IsIpv4Text text (from_be_bytes w32 octets)
IsIpv4Text-from_std text octets dotted = record {
  parts = dotted.a ∷ dotted.b ∷ dotted.c ∷ dotted.d ∷ [];
  four = refl;
  small = all_four dotted.a dotted.b dotted.c dotted.d dotted.fit.0 dotted.fit.1 dotted.fit.2 dotted.fit.3;
  spelled = dotted.spelled ∙ sym (joined dotted.a dotted.b dotted.c dotted.d);
  value = ap (from_be_bytes w32) dotted.value ∙ bytes_number dotted.a dotted.b dotted.c dotted.d;
}

-- the octets of a text of ours
pub record Octets (text : List ℕ) (number : ℕ) : Type 0 where
  pub octets : List ℕ
  pub dotted : IsDotted text octets
  pub value : from_be_bytes w32 octets ≡ number
  pub halves : segments_of octets ≡ number / 2 ^ 16 ∷ number % 2 ^ 16 ∷ []

-- the halves of a number of four octets
halves_of : (a b c d number : ℕ) → c < 256 → d < 256 → number ≡ number_of 256 (a ∷ b ∷ c ∷ d ∷ []) → ((a * 256 + b) ≡ number / 2 ^ 16) × ((c * 256 + d) ≡ number % 2 ^ 16)
halves_of a b c d number hc hd value = (omega arith, omega arith)

four_octets : (a b c d : ℕ) (text : List ℕ) (number : ℕ) → All (λ part. part < 256) (a ∷ b ∷ c ∷ d ∷ []) → text ≡ join_with_byte 46 (map decimal (a ∷ b ∷ c ∷ d ∷ [])) → number ≡ number_of 256 (a ∷ b ∷ c ∷ d ∷ []) → Octets text number
four_octets a b c d text number small spelled value =
    let P : ℕ → Type 0 = λ part. part < 256 in
    let small_b = All-tail P a (b ∷ c ∷ d ∷ []) small in
    let small_c = All-tail P b (c ∷ d ∷ []) small_b in
    let small_d = All-tail P c (d ∷ []) small_c in
    let hc = All-head P c (d ∷ []) small_c in
    let hd = All-head P d [] small_d in
    let halves = halves_of a b c d number hc hd value in
    record {
      octets = a ∷ b ∷ c ∷ d ∷ [];
      dotted = record {
        a = a;
        b = b;
        c = c;
        d = d;
        fit = (All-head P a (b ∷ c ∷ d ∷ []) small, All-head P b (c ∷ d ∷ []) small_b, hc, hd);
        value = refl;
        spelled = spelled ∙ joined a b c d;
      };
      value = bytes_number a b c d ∙ sym value;
      halves = λ i. halves.0 i ∷ halves.1 i ∷ [];
    }

four_parts : (parts text : List ℕ) (number : ℕ) → length parts ≡ 4 → All (λ part. part < 256) parts → text ≡ join_with_byte 46 (map decimal parts) → number ≡ number_of 256 parts → Octets text number
four_parts [] text number four small spelled value = absurd (omega arith)
four_parts (a ∷ []) text number four small spelled value = absurd (omega arith)
four_parts (a ∷ b ∷ []) text number four small spelled value = absurd (omega arith)
four_parts (a ∷ b ∷ c ∷ []) text number four small spelled value = absurd (omega arith)
four_parts (a ∷ b ∷ c ∷ d ∷ []) text number four small spelled value = four_octets a b c d text number small spelled value
four_parts (a ∷ b ∷ c ∷ d ∷ e ∷ parts) text number four small spelled value = absurd (omega arith)

pub octets_of_text : (text : List ℕ) (number : ℕ) → IsIpv4Text text number → Octets text number
octets_of_text text number ipv4 = four_parts ipv4.parts text number ipv4.four ipv4.small ipv4.spelled ipv4.value

-- and the halves that std reads are those of the number
pub segments_halves : (text octets : List ℕ) → IsDotted text octets → segments_of octets ≡ from_be_bytes w32 octets / 2 ^ 16 ∷ from_be_bytes w32 octets % 2 ^ 16 ∷ []
segments_halves text octets dotted =
    let a = dotted.a in
    let b = dotted.b in
    let c = dotted.c in
    let d = dotted.d in
    let halves = halves_of a b c d _ dotted.fit.2 dotted.fit.3 (ap (from_be_bytes w32) dotted.value ∙ bytes_number a b c d) in
    let both : (a * 256 + b) ∷ (c * 256 + d) ∷ [] ≡ from_be_bytes w32 octets / 2 ^ 16 ∷ from_be_bytes w32 octets % 2 ^ 16 ∷ [] = λ i. halves.0 i ∷ halves.1 i ∷ [] in
    ap segments_of dotted.value ∙ both
