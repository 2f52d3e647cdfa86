-- Places by text and by calling code.
use Rattle.std.specs.Prelude.{◌≡◌, ◌<◌, ◌≤◌, ℕ, ◌==◌, nat_lt, Bool, true, false, List, length}
use Rattle.std.specs.Prelude.{Option, option_map}
use Rattle.std.specs.Prelude.{slice_index_or}
use Rattle.std.specs.Cmp.Lexicographic.{slice_cmp}
use Rattle.std.specs.List.{find}
use Rattle.std.specs.List.Sorted.{IsPartitionPoint}
use Rattle.std.specs.Ordering.{nat_cmp}
use Rattle.std.specs.declared.cmp.Ordering.TheVariants.{Less}
use Rattle.std.specs.Str.{bytes_eq}
use Rattle.std.specs.String.{string_bytes}
use Rattle.phone_index.specs.declared.grouped.Coded.{Coded}
use Rattle.phone_index.specs.declared.sorted.Named.{Named}

-- it has this calling code
abbrev pub has_code : ℕ → Coded → Bool
has_code code e = e.code == code

-- the entries of lesser codes are those before place i
abbrev pub IsStart : List Coded → ℕ → ℕ → Type 0
IsStart es code i = (i ≤ length es) ×
    IsPartitionPoint (λ (e : Coded). nat_lt e.code code ≡ true)
    (λ (e : Coded). nat_lt e.code code ≡ false) es i

-- for each code from 0 on that place
abbrev pub AreStarts : List Coded → List ℕ → Type 0
AreStarts es starts = (code : ℕ) → code < length starts →
    IsStart es code (slice_index_or starts code 0)

-- its text
abbrev pub text_of : Named → List ℕ
text_of e = string_bytes e.text

-- it has this text
abbrev pub has_text : List ℕ → Named → Bool
has_text text e = bytes_eq (text_of e) text

-- the place that the first of this text has
abbrev pub place_of : List ℕ → List Named → Option ℕ
place_of text es = option_map (λ e. e.place) (find (has_text text) es)

-- each text is below those after it, byte by byte
abbrev pub Rises : List Named → Type 0
Rises es = (i j : ℕ) (d : Named) → i < j → j < length es →
    slice_cmp nat_cmp (text_of (slice_index_or es i d)) (text_of (slice_index_or es j d)) ≡ Less
