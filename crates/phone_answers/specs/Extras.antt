-- The columns that are asked for beside the answer's, and what they tell of a record.
use Rattle.std.specs.Prelude.{◌≡◌, ◌⊎◌, ◌&&◌, ◌||◌, not, Bool, true, false, ℕ, List, [], ◌∷◌}
use Rattle.std.specs.Prelude.{if◌then◌else◌, Option, None, Some, is_some, unwrap_or}
use Rattle.std.specs.Borrow.{Bor}
use Rattle.std.specs.List.{AllByRecursion, Contains, list_any}
use Rattle.std.specs.Option.{option_copied, option_map_or}
use Rattle.std.specs.Str.{IsUtf8}
use Rattle.phone_values.specs.Ids.{name}
use Rattle.phone_values.specs.Numbers.{text_of}
use Rattle.phone_values.specs.declared.country.Id.{Id}
use Rattle.phone_values.specs.declared.kind.«Type».{«Type»}
use Rattle.phone_values.specs.declared.kind.«Type».TheVariants.{Unknown}
use Rattle.phone_values.specs.declared.reading.Reading.{Reading}
use Rattle.phone_csv.specs.Formats.{Record}
use Rattle.phone_plans.specs.Records.{last_with}
use Rattle.phone_records.specs.declared.loader.Metadata.{Metadata}
use Rattle.phone_prefixes.specs.Tables.{Entry, IsLongest, NoneBegins}
use Rattle.phone_languages.specs.Told.{IsTold as IsTextTold}
use Rattle.phone_places.specs.Maps.{code_digits, digits_of, has_carrier, is_first, is_geographical}
use Rattle.phone_places.specs.Areas.{IsOther, behind_token}
use Rattle.phone_doubts.specs.Doubts.{IsDoubted}
use Rattle.phone_engine.specs.Facts.{kind_by, region_by}
use Rattle.phone_values.specs.declared.rules.Rules.{Rules}
use Rattle.phone_answers.specs.declared.extra.Extra.{Extra}
use Rattle.phone_answers.specs.declared.extra.Told.{Told}
use Rattle.phone_answers.specs.declared.extra.Told.TheVariants.{Area, Carrier, Doubts, Prefix}
use Rattle.phone_answers.specs.declared.extra.Told.TheVariants.{Part, Split, TimeZones}
use Rattle.phone_answers.specs.Parts.{part_told}
use Rattle.phone_answers.specs.Splits.{IsSplit}
use Rattle.phone_answers.specs.declared.split.Shown.{Shown}
use Rattle.phone_answers.specs.declared.split.Which.{Which}

-- a number is of unknown kind
abbrev pub is_unknown : «Type» → Bool
is_unknown Unknown = true
is_unknown other = false

-- a mobile number of a region can be kept when the carrier changes, by the region's last record
abbrev pub is_portable : List Metadata → Option Id → Bool
is_portable db None = false
is_portable db (Some region) =
    option_map_or (λ m. m.mobile_number_portable) (last_with (name region) db) false

-- the digits by which the time zones of a number of this kind are looked up: none of unknown kind;
-- those of its calling code, where it belongs to no place in its country
abbrev pub zone_digits : «Type» → Reading → Option (List ℕ)
zone_digits kind n = if is_unknown kind then None
    else Some (if is_geographical kind n.code.value then digits_of n else code_digits n)

-- a text is that of the longest prefix that begins the digits; empty where none does, and where
-- there are no digits
abbrev pub IsFound : List Entry → Option (List ℕ) → List ℕ → Type 0
IsFound entries None text = text ≡ []
IsFound entries (Some digits) text = ((prefix : List ℕ) ×
    IsLongest entries digits (record { prefix = prefix; text = text })) ⊎
    (NoneBegins entries digits × (text ≡ []))

-- the entries of a column's table; none where it has no table
abbrev pub entries_in : Option (Bor (List Entry)) → List Entry
entries_in None = []
entries_in (Some table) = table.now

-- a text is what a column's tables have for digits in its locale: its language's, with the English
-- one behind it
abbrev pub IsSpoken : Extra → (digits text : List ℕ) → Type 0
IsSpoken c digits text =
    IsTextTold c.locale.now (option_copied c.own) (option_copied c.table) digits text

-- a text is the area of a number in a column's locale: that of the number which is read behind
-- Argentina's mobile token, where there is one
abbrev pub IsAreaIn : List Metadata → Extra → Reading → List ℕ → Type 0
IsAreaIn db c n text = (m : Option Reading) ×
    IsOther db (behind_token n.code.value (text_of n.national)) m ×
    IsSpoken c (digits_of (unwrap_or m n)) text

-- a text is so where this holds; else it is empty
abbrev pub IsIf : Bool → (List ℕ → Type 0) → List ℕ → Type 0
IsIf true IsSo text = IsSo text
IsIf false IsSo text = text ≡ []

-- a text is what the tables of a column tell of a number of this kind and region: nothing where no
-- table tells the column
abbrev pub IsOfTables : List Metadata → Extra → Told → «Type» → Option Id → Reading → List ℕ →
    Type 0
IsOfTables db c Prefix kind region n text = IsFound (entries_in c.table) (Some (digits_of n)) text
IsOfTables db c TimeZones kind region n text =
    IsFound (entries_in c.table) (zone_digits kind n) text
IsOfTables db c (Carrier owner) kind region n text =
    IsIf (has_carrier kind && (is_first owner || not (is_portable db region)))
    (IsSpoken c (digits_of n)) text
IsOfTables db c Area kind region n text =
    IsIf (is_geographical kind n.code.value) (IsAreaIn db c n) text
IsOfTables db c other kind region n text = text ≡ []

-- the part of a number that a column tells; none where a table tells
abbrev pub part_of : Rules → List Metadata → Told → Reading → Option (List ℕ)
part_of rules db (Part part) n = Some (part_told rules db part n)
part_of rules db other n = None

-- a text is this part; without one it is so
abbrev pub IsPartOr : Option (List ℕ) → (List ℕ → Type 0) → List ℕ → Type 0
IsPartOr (Some part) IsSo text = text ≡ part
IsPartOr None IsSo text = IsSo text

-- what is told of a field that was read under a hint, where it was: nothing where it has no number
abbrev pub IsToldBy : Rules → List Metadata → (under : Option (Option Id)) → (field : List ℕ) →
    Option Reading → Extra → List ℕ → Type 0
IsToldBy rules db under field None c text = text ≡ []
IsToldBy rules db under field (Some n) c text = IsPartOr (part_of rules db c.told n)
    (IsOfTables db c c.told (kind_by rules db n) (region_by rules db n) n) text

-- the words of what is suspicious about such a field; nothing where it wasn't read, or its bytes
-- are no text
abbrev pub IsSuspicion : Rules → List Metadata → (under : Option (Option Id)) →
    (field : List ℕ) → Option Reading → List ℕ → Type 0
IsSuspicion rules db None field number text = text ≡ []
IsSuspicion rules db (Some hint) field number text =
    (IsUtf8 field × IsDoubted rules db hint field number text) ⊎
    (¬ (IsUtf8 field) × (text ≡ []))

-- a column tells what is suspicious
abbrev pub tells_doubts : Told → Bool
tells_doubts Doubts = true
tells_doubts told = false

-- what a column tells of one of two numbers, where it tells of such, and of which
abbrev pub split_in : Told → Option (Which × Shown)
split_in (Split which shown) = Some (which, shown)
split_in told = None

-- a column tells something of such a field itself, whether or not a number was read
abbrev pub tells_of_field : Told → Bool
tells_of_field told = tells_doubts told || is_some (split_in told)

-- what a column tells of such a field: one of two numbers in it, or something of the number
abbrev pub IsToldBeside : Option (Which × Shown) → Rules → List Metadata →
    (under : Option (Option Id)) → (field : List ℕ) → Option Reading → Extra → List ℕ → Type 0
IsToldBeside (Some (which, shown)) rules db under field number column text =
    IsSplit rules db under field which shown text
IsToldBeside None rules db under field number column text =
    IsToldBy rules db under field number column text

-- the same, or what is suspicious
abbrev pub IsToldIf : Bool → Rules → List Metadata → (under : Option (Option Id)) →
    (field : List ℕ) → Option Reading → Extra → List ℕ → Type 0
IsToldIf true rules db under field number column text =
    IsSuspicion rules db under field number text
IsToldIf false rules db under field number column text =
    IsToldBeside (split_in column.told) rules db under field number column text

-- what a column tells of such a field
abbrev pub IsTold : Rules → List Metadata → (under : Option (Option Id)) → (field : List ℕ) →
    Option Reading → Extra → List ℕ → Type 0
IsTold rules db under field number column text =
    IsToldIf (tells_doubts column.told) rules db under field number column text

-- some column tells something of the field itself
abbrev pub ask_fields : List Extra → Bool
ask_fields extra = list_any (λ (column : Extra). tells_of_field column.told) extra

-- what columns tell, in their order
pub data AreTold (rules : Rules) (db : List Metadata) (under : Option (Option Id))
    (field : List ℕ) (number : Option Reading) : List Extra → Record → Type 0 where
  none : AreTold rules db under field number [] []
  next : (column : Extra) (columns : List Extra) (text : List ℕ) (texts : Record) →
      IsTold rules db under field number column text →
      AreTold rules db under field number columns texts →
      AreTold rules db under field number (column ∷ columns) (text ∷ texts)

-- entries of one prefix have one text
abbrev pub HaveOneText : List Entry → Type 0
HaveOneText entries = (a b : Entry) → Contains entries a → Contains entries b →
    a.prefix ≡ b.prefix → a.text ≡ b.text

-- so have those of each column's tables
abbrev pub EachHasOneText : List Extra → Type 0
EachHasOneText extra = AllByRecursion (λ (column : Extra).
    HaveOneText (entries_in column.table) × HaveOneText (entries_in column.own)) extra
