-- The texts that name no region, each with how many records have it.
use Rattle.std.specs.Prelude.{◌≡◌, ◌==◌, ◌&&◌, ◌+◌, ℕ, Bool, true, false, List, String, length}
use Rattle.std.specs.Prelude.{None, Some, bytes_eq, codes, nat_le, string_bytes, string_eq}
use Rattle.std.specs.Prelude.{unwrap_or}
use Rattle.std.specs.Map.{lookup}
use Rattle.std.specs.declared.alloc.Global.{Global}
use Rattle.indexmap.specs.IndexMap.{insert_entry}
use Rattle.phone_csv.specs.Feeds.{counted}
use Rattle.phone_csv.specs.Formats.{Record}
use Rattle.phone_table.specs.Counts.{has_refusal}
use Rattle.phone_table.specs.Regions.{RegionText}
use Rattle.phone_table.specs.declared.header.Columns.{Columns}

-- texts, each once, with their counts
abbrev pub Texts : Type 0
Texts = List (String Global × ℕ)

-- how many records have a text
abbrev pub count_of : Texts → List ℕ → ℕ
count_of texts text = unwrap_or (lookup (λ k. bytes_eq text (string_bytes k)) texts) 0

-- a text isn't there, and a hundred others are
abbrev pub is_full : Texts → List ℕ → Bool
is_full texts text = (count_of texts text == 0) && nat_le 100 (length texts)

-- one more record has a text: its count is one more; where it isn't there yet it comes last, with a
-- count of 1, unless a hundred others are there
pub data IsNoted (old : Texts) (text : List ℕ) : Texts → Type 0 where
  once_more : (key : String Global) → is_full old text ≡ false → string_bytes key ≡ text →
      IsNoted old text (insert_entry string_eq old key (counted (count_of old text + 1)))
  full : is_full old text ≡ true → IsNoted old text old

-- what is noted of a row: the text by which it names its region, where it is refused since that
-- names none; nothing else
pub data NotesRow (columns : Columns) (row : Record) (old : Texts) : Texts → Type 0 where
  known : has_refusal (codes "unknown region") row ≡ false → NotesRow columns row old old
  no_text : has_refusal (codes "unknown region") row ≡ true → RegionText row columns.region None →
      NotesRow columns row old old
  noted : (text : List ℕ) (new : Texts) → has_refusal (codes "unknown region") row ≡ true →
      RegionText row columns.region (Some text) → IsNoted old text new →
      NotesRow columns row old new
