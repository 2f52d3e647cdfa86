-- Extensions, and readings of free text, put together from their parts.
use Rattle.std.proofs.Common.{◌≡◌, ℕ, ◌≤◌, Bool, true, ◌&&◌, nat_le, List, [], ◌∷◌, ◌++◌, length, codes, Some, None, Ok, refl}
use Rattle.std.proofs.lemmas.Bool.{and_parts, leb-true}
use Rattle.std.specs.List.{list_any, list_all}
use Rattle.ucd_table.proofs.TrieCheck.{all_below}
use Rattle.phone_chars.specs.Characters.{is_nd}
use Rattle.phone_parts.specs.Cores.{IsCore, is_start, is_last}
use Rattle.phone_parts.specs.Naturals
use Rattle.phone_parts.specs.Naturals.{IsNatural}
use Rattle.phone_parts.specs.Suffixes.{IsFew, IsSuffix, IsSomeSuffix, indicators, is_lead, is_mark, is_gap, is_sign, is_dash}
use Rattle.phone_parts.specs.Texts.{begins, ends, is_like}
use Rattle.phone_parts.specs.declared.suffix.Form.TheVariants.{Parameter, Indicated, NumberSign}
use Rattle.phone_parts.proofs.CoreRows.{no_mark, no_second}
use Rattle.phone_parts.proofs.Cores.{whole_core}
use Rattle.phone_parts.proofs.SuffixTests.{fails_at, no_suffix, no_suffix_before}

-- at most n characters, all of the set, as a test
abbrev pub are_few : (ℕ → Bool) → ℕ → List ℕ → Bool
are_few p n t = list_all p t && nat_le (length t) n

few : (p : ℕ → Bool) (n : ℕ) (t : List ℕ) → are_few p n t ≡ true → IsFew p n t
few p n t h = let parts = and_parts (list_all p t) (nat_le (length t) n) h in record { only = parts.0; few = leb-true (length t) n parts.1 }

-- an extension of each of the three forms, put together
pub indicated_of : (lead word mark gap d sign : List ℕ) → list_all is_lead lead ≡ true → list_any (is_like word) indicators ≡ true →
    are_few is_mark 1 mark ≡ true → list_all is_gap gap ≡ true → are_few is_nd 7 d ≡ true → are_few is_sign 1 sign ≡ true →
    IsSuffix (lead ++ (word ++ (mark ++ (gap ++ (d ++ sign))))) Indicated d
indicated_of lead word mark gap d sign leads announces marks gaps digits signs = record {
  lead = lead;
  rest = word ++ (mark ++ (gap ++ (d ++ sign)));
  whole = refl;
  leads = leads;
  announced = record {
    word = word;
    ending = mark ++ (gap ++ (d ++ sign));
    whole = refl;
    announces = announces;
    ends = record {
      mark = mark;
      gap = gap;
      sign = sign;
      whole = refl;
      marks = few is_mark 1 mark marks;
      gaps = gaps;
      digits = few is_nd 7 d digits;
      signs = few is_sign 1 sign signs;
    };
  };
}

pub parameter_of : (name d : List ℕ) → is_like name (codes ";ext=") ≡ true → are_few is_nd 7 d ≡ true → IsSuffix (name ++ d) Parameter d
parameter_of name d named digits = record { name = name; whole = refl; named = named; digits = few is_nd 7 d digits }

pub signed_of : (lead d : List ℕ) → list_all is_dash lead ≡ true → 1 ≤ length lead → are_few is_nd 5 d ≡ true → 1 ≤ length d →
    IsSuffix (lead ++ (d ++ 35 ∷ [])) NumberSign d
signed_of lead d leads some_lead digits some_digits =
    record { lead = lead; whole = refl; leads = leads; some_lead = some_lead; digits = few is_nd 5 d digits; some_digits = some_digits }

-- a text that is its own core
own_core : (text : List ℕ) → begins is_start text ≡ true → ends is_last text ≡ true → all_below (no_mark text) (length text) ≡ true → IsCore text text
own_core text starts last none = whole_core text starts last (no_second text none)

-- such a text without an extension
pub plain_of : (text : List ℕ) → begins is_start text ≡ true → ends is_last text ≡ true → all_below (no_mark text) (length text) ≡ true →
    all_below (fails_at text) (length text) ≡ true → IsNatural text (Ok (record { national = text; prefix = None; extension = None }))
plain_of text starts last none no_end = Naturals.plain text (own_core text starts last none) (no_suffix text no_end)

-- and one that is parted before its longest extension
pub parted_of : (national suffix d : List ℕ) → begins is_start (national ++ suffix) ≡ true → ends is_last (national ++ suffix) ≡ true →
    all_below (no_mark (national ++ suffix)) (length (national ++ suffix)) ≡ true → all_below (fails_at (national ++ suffix)) (length national) ≡ true →
    IsSomeSuffix suffix d → IsNatural (national ++ suffix) (Ok (record { national = national; prefix = None; extension = Some d }))
parted_of national suffix d starts last none no_longer extension =
    Naturals.extended (national ++ suffix) national d (own_core (national ++ suffix) starts last none)
    (record { suffix = suffix; whole = refl; is_suffix = extension; longest = no_suffix_before (national ++ suffix) (length national) no_longer })
