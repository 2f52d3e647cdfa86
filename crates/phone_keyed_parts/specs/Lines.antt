-- How the keys of a number are parted while it is keyed in: what stands in front of the national
-- digits, and these. After libphonenumber's formatter of a number as it is typed.
use Rattle.std.specs.Prelude.{ℕ, ◌==◌, ◌&&◌, ◌||◌, not, Bool, true, false, if◌then◌else◌}
use Rattle.std.specs.Prelude.{List, [], ◌∷◌, ◌++◌, drop, length, take, Option, Some}
use Rattle.std.specs.Prelude.{encode_utf8, unwrap_or}
use Rattle.std.specs.Fmt.{decimal}
use Rattle.std.specs.List.{slice_get}
use Rattle.std.specs.Option.{option_and_then, option_map_or}
use Rattle.std.specs.Str.{bytes_eq}
use Rattle.phone_values.specs.Ids.{name}
use Rattle.phone_values.specs.declared.country.Id.{Id}
use Rattle.phone_parts.specs.Texts.{is_front}
use Rattle.phone_plans.specs.CodeLookUps.{first_of, territories}
use Rattle.phone_records.specs.declared.loader.Metadata.{Metadata}
use Rattle.phone_territory.specs.Records.{code_of, id_of}
use Rattle.phone_pattern.specs.First.{front_end}

-- the territory whose layouts count, what stands before the national digits, these, the national
-- prefix that was taken off them, and whether the number is known to be whole: it has a sign, an
-- international prefix or a national prefix
pub record Line : Type 0 where
  pub territory : Option Metadata
  pub front : List ℕ
  pub national : List ℕ
  pub prefix : List ℕ
  pub is_whole : Bool

-- no keys yet, under a territory
abbrev pub no_keys : Option Metadata → Line
no_keys m = record { territory = m; front = []; national = []; prefix = []; is_whole = false }

-- this byte stands in a text behind n others
abbrev pub is_at : ℕ → ℕ → List ℕ → Bool
is_at n byte text = option_map_or (λ b. b == byte) (slice_get text n) false

-- keys that begin with a plus sign
abbrev pub has_plus : List ℕ → Bool
has_plus keys = is_at 0 43 keys

-- where a calling code may begin: after a plus sign, else after the territory's international
-- prefix
abbrev pub sign_end : Option Metadata → List ℕ → Option ℕ
sign_end m keys = if has_plus keys then Some 1
    else option_and_then (λ p. front_end p keys)
    (option_and_then (λ (t : Metadata). t.international_prefix) m)

-- a space follows an international prefix, nothing a plus sign
abbrev pub gap_behind_sign : List ℕ → List ℕ
gap_behind_sign keys = if has_plus keys then [] else 32 ∷ []

-- the keys parted there
abbrev pub after_sign : ℕ → List ℕ → Line → Line
after_sign end keys l = record l {
  front = take end keys ++ gap_behind_sign keys;
  national = drop end keys;
  is_whole = true;
}

-- a territory has the hint's id
abbrev pub is_hinted : Option Id → Metadata → Bool
is_hinted hint m = option_map_or (λ id. bytes_eq (id_of m) (name id)) hint false

-- the territory behind a calling code: the first of the code; where that is the hint's, the
-- territory stays what it was
abbrev pub territory_behind : List Metadata → Option Id → ℕ → Option Metadata → Option Metadata
territory_behind db hint code before = option_map_or
    (λ m. if is_hinted hint m then before else Some m) (first_of (territories code db)) before

-- a calling code in front of the national digits goes to what stands before them, with a space
-- behind; no national prefix is known any more
abbrev pub after_code : List Metadata → Option Id → ℕ → Line → Line
after_code db hint code l = record l {
  territory = territory_behind db hint code l.territory;
  front = l.front ++ (take (length (decimal code)) l.national ++ 32 ∷ []);
  national = drop (length (decimal code)) l.national;
  prefix = [];
}

-- in a territory of the code 1, a 1 in front of another digit than 0 and 1 is the national prefix
abbrev pub has_trunk_one : Metadata → List ℕ → Bool
has_trunk_one m digits = (code_of m == 1) &&
    (is_at 0 49 digits && (not (is_at 1 48 digits) && not (is_at 1 49 digits)))

-- how long a prefix is, where there is one and digits begin with it
abbrev pub plain_length : Option (List ℕ) → List ℕ → ℕ
plain_length prefix digits = option_map_or (λ p. if is_front p digits then length p else 0) prefix 0

-- how many digits in front are the national prefix that a territory's rules tell: a match of the
-- parsing pattern, or where there is none the prefix itself
abbrev pub told_length : Metadata → List ℕ → ℕ
told_length m digits = option_map_or (λ p. unwrap_or (front_end p digits) 0)
    m.national_prefix_for_parsing (plain_length m.national_prefix digits)

-- how many digits in front are the national prefix; 0 where there is none
abbrev pub prefix_length : Metadata → List ℕ → ℕ
prefix_length m digits = if has_trunk_one m digits then 1 else told_length m digits

-- the same under a territory, if there is one
abbrev pub prefix_length_in : Option Metadata → List ℕ → ℕ
prefix_length_in m digits = option_map_or (λ t. prefix_length t digits) m 0

-- the national prefix in front of the national digits
abbrev pub prefix_of : Line → List ℕ
prefix_of l = take (prefix_length_in l.territory l.national) l.national

-- only that of the code 1 has a space behind
abbrev pub gap_in : Option Metadata → List ℕ → List ℕ
gap_in m digits = if option_map_or (λ t. has_trunk_one t digits) m false then 32 ∷ [] else []

-- the national prefix, of n digits, goes to what stands before the national digits; this one is
-- kept
abbrev pub without_prefix : ℕ → List ℕ → Line → Line
without_prefix n kept l = if n == 0 then record l { prefix = kept } else record l {
  front = l.front ++ (take n l.national ++ gap_in l.territory l.national);
  national = drop n l.national;
  prefix = kept;
  is_whole = true;
}

-- the national prefix in front of the national digits is taken off, and kept
abbrev pub with_prefix_off : Line → Line
with_prefix_off l = without_prefix (prefix_length_in l.territory l.national) (prefix_of l) l

-- a text stands somewhere in another
abbrev pub stands_in : List ℕ → List ℕ → Bool
stands_in p [] = is_front p []
stands_in p (c ∷ cs) = is_front p (c ∷ cs) || stands_in p cs

-- what comes before the last place where a text stands in another; nothing where it doesn't
abbrev pub before_last : List ℕ → List ℕ → List ℕ
before_last p [] = []
before_last p (c ∷ cs) = if stands_in p cs then c ∷ before_last p cs else []

-- the national prefix that was taken off is put back
abbrev pub with_prefix_back : Line → Line
with_prefix_back l = if length l.prefix == 0 then l else record l {
  front = before_last l.prefix l.front;
  national = l.prefix ++ l.national;
}

-- the national prefix is put back, and the one that is in front then taken off; the first stays the
-- one that is kept
abbrev pub with_longer_prefix : Line → Line
with_longer_prefix l =
    let whole = with_prefix_back l in
    without_prefix (prefix_length_in whole.territory whole.national) l.prefix whole

-- that is another one
abbrev pub has_longer_prefix : Line → Bool
has_longer_prefix l = not (bytes_eq (prefix_of (with_prefix_back l)) l.prefix)

-- a space is put behind what stands in front of the national digits
abbrev pub with_space : Line → Line
with_space l = record l { front = l.front ++ 32 ∷ [] }

-- a key is put down: a digit comes to the national ones
abbrev pub with_key : ℕ → Line → Line
with_key k l = if k == 43 then l else record l { national = l.national ++ encode_utf8 k }
