-- A summary as a JSON object.
use Rattle.std.specs.Prelude.{ℕ, List, codes, fold, string_bytes, String}
use Rattle.std.specs.declared.alloc.Global.{Global}
use Rattle.serde_json.specs.Data.{Data, Members, no_members, number, object, put, unsigned}
use Rattle.phone_table.specs.Tallies.{Counted}
use Rattle.phone_table.specs.declared.summary.Summary.{Summary}

-- members, and a text with its count
abbrev pub with_count : Members → String Global × ℕ → Members
with_count ms entry = put (string_bytes entry.0) (number (unsigned entry.1)) ms

-- the members of texts with their counts
abbrev pub members_of : List (String Global × ℕ) → Members
members_of entries = fold with_count no_members entries

-- texts with their counts, as an object
abbrev pub tally_object : Counted → Data
tally_object tally = object (members_of tally.entries)

-- a summary, as an object of objects
abbrev pub summary_object : Summary → Data
summary_object s = object (
    put (codes "suspicions") (tally_object s.suspicions) (
    put (codes "refusals") (tally_object s.refusals) (
    put (codes "regions") (tally_object s.regions) (
    put (codes "types") (tally_object s.kinds) no_members))))
