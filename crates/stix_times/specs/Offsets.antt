-- The form of specs/Timestamp.antt byte by byte: which byte may stand at an offset, after which
-- byte. proofs/ShapeLemmas.antt and proofs/PrefixLemmas.antt prove that both definitions agree.
use Rattle.std.specs.Prelude.{ℕ, ◌+◌, ◌-◌, ◌*◌, Bool, false, ◌||◌, ◌==◌, nat_lt, if◌then◌else◌, List, [], ◌∷◌, length, take, drop, slice_index}
use Rattle.std.specs.Char.{IsAsciiDigit}
use Rattle.std.specs.Int.{is_in_range}
use Rattle.stix_times.specs.Timestamp.{Timestamp}

-- the least and the greatest byte that may stand at this offset before the fraction, after the byte
-- `before`
unfoldable pub bounds_at : ℕ → ℕ → ℕ × ℕ
bounds_at at before =
    if at == 4 || at == 7 then (45, 45)
    else (if at == 5 then (48, 49)
    else (if at == 6 then (if before == 48 then (49, 57) else (48, 50))
    else (if at == 8 then (48, 51)
    else (if at == 9 then (if before == 48 then (49, 57) else (if before == 51 then (48, 49) else (48, 57)))
    else (if at == 10 then (84, 84)
    else (if at == 11 then (48, 50)
    else (if at == 12 then (if before == 50 then (48, 51) else (48, 57))
    else (if at == 13 || at == 16 then (58, 58)
    else (if at == 14 || at == 17 then (48, 53)
    else (48, 57))))))))))

-- the byte may stand in the fraction or be the last
unfoldable pub fits_fraction : ℕ → ℕ → Bool
fits_fraction before byte =
    if before == 90 then false
    else (if before == 46 then is_in_range 48 57 byte
    else is_in_range 48 57 byte || byte == 90)

-- the byte may stand at this offset of a timestamp
unfoldable pub fits : ℕ → ℕ → ℕ → Bool
fits at before byte =
    if nat_lt at 19 then is_in_range (bounds_at at before).0 (bounds_at at before).1 byte
    else (if at == 19 then byte == 46 || byte == 90 else fits_fraction before byte)

-- the end of the longest run of fitting bytes from an offset on
abbrev pub fitting_end : ℕ → ℕ → List ℕ → ℕ
fitting_end at before [] = at
fitting_end at before (byte ∷ bytes) =
    if fits at before byte then fitting_end (at + 1) byte bytes else at

-- the end of the longest fitting prefix of a text, if the bytes before this offset fit
abbrev pub end_from : List ℕ → ℕ → ℕ
end_from text at = fitting_end at (slice_index text (at - 1)) (drop at text)

-- the bytes of the numbers are digits
pub record AreDigits (text : List ℕ) : Type 0 where
  pub digit_0 : IsAsciiDigit (slice_index text 0)
  pub digit_1 : IsAsciiDigit (slice_index text 1)
  pub digit_2 : IsAsciiDigit (slice_index text 2)
  pub digit_3 : IsAsciiDigit (slice_index text 3)
  pub digit_5 : IsAsciiDigit (slice_index text 5)
  pub digit_6 : IsAsciiDigit (slice_index text 6)
  pub digit_8 : IsAsciiDigit (slice_index text 8)
  pub digit_9 : IsAsciiDigit (slice_index text 9)
  pub digit_11 : IsAsciiDigit (slice_index text 11)
  pub digit_12 : IsAsciiDigit (slice_index text 12)
  pub digit_14 : IsAsciiDigit (slice_index text 14)
  pub digit_15 : IsAsciiDigit (slice_index text 15)
  pub digit_17 : IsAsciiDigit (slice_index text 17)
  pub digit_18 : IsAsciiDigit (slice_index text 18)

-- the number written by two digits
abbrev pub pair_at : List ℕ → ℕ → ℕ
pair_at text at = 10 * (slice_index text at - 48) + (slice_index text (at + 1) - 48)

-- the parts at their fixed offsets
unfoldable pub parts_at : List ℕ → Timestamp
parts_at text = record {
  year = 100 * pair_at text 0 + pair_at text 2;
  month = pair_at text 5;
  day = pair_at text 8;
  hour = pair_at text 11;
  minute = pair_at text 14;
  second = pair_at text 17;
  fraction = take (length text - 21) (drop 20 text);
}
