-- Texts of other encodings than UTF-8, as characters and as UTF-8.
use Rattle.std.specs.Prelude.{◌≡◌, ℕ, ◌+◌, ◌-◌, ◌*◌, ◌<◌, ◌≤◌, ◌==◌, ◌&&◌, nat_le}
use Rattle.std.specs.Prelude.{nat_lt, if◌then◌else◌, List, [], ◌∷◌, ◌++◌, drop, length, map}
use Rattle.std.specs.Prelude.{slice_index, encode_utf8_all}
use Rattle.std.specs.Char.Utf16.{utf16_lossy_chars}
use Rattle.phone_encodings.specs.declared.encoding.Encoding.{Encoding}
use Rattle.phone_encodings.specs.declared.encoding.Encoding.TheVariants as encoding
use Rattle.phone_encodings.specs.declared.encoding.Order.{Order}
use Rattle.phone_encodings.specs.declared.encoding.Order.TheVariants.{LowFirst, HighFirst}

-- Windows-1252 (the index of the WHATWG's standard of encodings): the characters of the bytes 128
-- to 159, of which five are the controls of their numbers
abbrev pub windows_1252_from_128 : List ℕ
windows_1252_from_128 =
    0x20AC ∷ 0x0081 ∷ 0x201A ∷ 0x0192 ∷ 0x201E ∷ 0x2026 ∷ 0x2020 ∷ 0x2021 ∷
    0x02C6 ∷ 0x2030 ∷ 0x0160 ∷ 0x2039 ∷ 0x0152 ∷ 0x008D ∷ 0x017D ∷ 0x008F ∷
    0x0090 ∷ 0x2018 ∷ 0x2019 ∷ 0x201C ∷ 0x201D ∷ 0x2022 ∷ 0x2013 ∷ 0x2014 ∷
    0x02DC ∷ 0x2122 ∷ 0x0161 ∷ 0x203A ∷ 0x0153 ∷ 0x009D ∷ 0x017E ∷ 0x0178 ∷ []

-- the character of a byte: of any other that of its number
abbrev pub windows_1252 : ℕ → ℕ
windows_1252 byte = if nat_le 128 byte && nat_lt byte 160
    then slice_index windows_1252_from_128 (byte - 128) else byte

-- UTF-16 (RFC 2781): the unit that two bytes are
abbrev pub unit : Order → ℕ → ℕ → ℕ
unit LowFirst a b = a + b * 256
unit HighFirst a b = a * 256 + b

-- the units of bytes; for a byte that is left over at the end U+FFFD stands
abbrev pub units : Order → List ℕ → List ℕ
units order [] = []
units order (a ∷ []) = 0xFFFD ∷ []
units order (a ∷ b ∷ bytes) = unit order a b ∷ units order bytes

-- the characters of bytes; for each surrogate that has no partner U+FFFD stands
abbrev pub utf_16 : Order → List ℕ → List ℕ
utf_16 order bytes = utf16_lossy_chars (units order bytes)

-- the order of bytes: the higher one first where the mark U+FEFF in front says so
abbrev pub marked_order : List ℕ → Order
marked_order (a ∷ b ∷ bytes) = if (a == 0xFE) && (b == 0xFF) then HighFirst else LowFirst
marked_order other = LowFirst

-- the characters of bytes in an encoding; a mark in front is one of them
abbrev pub characters : Encoding → List ℕ → List ℕ
characters encoding.Latin1 bytes = bytes
characters encoding.Windows1252 bytes = map windows_1252 bytes
characters encoding.Utf16 bytes = utf_16 (marked_order bytes) bytes
characters (encoding.Utf16In order) bytes = utf_16 order bytes

-- the same text in UTF-8
abbrev pub decoded : Encoding → List ℕ → List ℕ
decoded e bytes = encode_utf8_all (characters e bytes)

-- whatever comes after these bytes, their first character is this one, and takes so many of them
pub record IsFirst (e : Encoding) (bytes : List ℕ) (c n : ℕ) : Type 0 where
  pub some : 0 < n
  pub within : n ≤ length bytes
  pub begins : (more : List ℕ) →
      characters e (bytes ++ more) ≡ c ∷ characters e (drop n bytes ++ more)
