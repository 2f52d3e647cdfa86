-- What is open behind the handle of an atlas, of which tables it was made, and how it is lent.
use Rattle.std.specs.Prelude.{◌≡◌, ◌⊎◌, ◌==◌, ◌-◌, ℕ, Bool, true, if◌then◌else◌, List, [], ◌∷◌}
use Rattle.std.specs.Prelude.{◌++◌, Option, None, Some, IsUtf8, length, map, slice_get}
use Rattle.std.specs.Option.{option_copied, option_map_or}
use denote.RawPtr.{null_ptr, InBlock}
use Rattle.phone_c_base.specs.PrefixTables.{IsTableClosed, IsTableOpen}
use Rattle.phone_c_base.specs.declared.table.PrefixTable.{PrefixTable}
use Rattle.phone_c_base.specs.declared.status.TheConstants.{LINE_NO_TAB, MEMORY, NOT_UTF8}
use Rattle.phone_languages.specs.Locales.{normalized}
use Rattle.phone_languages.specs.NameTables.{IsFirstFault, IsTable}
use Rattle.phone_languages.specs.declared.atlas.Atlas as lent
use Rattle.phone_languages.specs.declared.fault.LineFault.{LineFault}
use Rattle.phone_prefixes.specs.Tables.{Entry}
use Rattle.phone_c.specs.declared.places.handle.AtlasHandle.{AtlasHandle}
use Rattle.phone_c.specs.declared.places.owned.OwnedAtlas.{OwnedAtlas}
use Rattle.phone_c.specs.declared.places.owned.OwnedTexts.{OwnedTexts}

-- nothing is open: the pointer is null
abbrev pub IsAtlasClosed : AtlasHandle → Type 0
IsAtlasClosed h = h.at ≡ null_ptr

-- this atlas is open, at a block of memory
abbrev pub IsAtlasOpen : AtlasHandle → OwnedAtlas → Type 0
IsAtlasOpen h atlas = InBlock h.at × (h.held ≡ atlas)

-- the handle is as it was: closed, or the same atlas is open behind it
abbrev pub IsAtlasKept : (before after : AtlasHandle) → Type 0
IsAtlasKept before after = (IsAtlasClosed before → IsAtlasClosed after) ×
    (¬ (IsAtlasClosed before) → IsAtlasOpen after before.held)

-- the entries of the table that is open behind a handle; none where it is closed
abbrev pub AreEntriesOf : PrefixTable → Option (List Entry) → Type 0
AreEntriesOf t None = IsTableClosed t
AreEntriesOf t (Some entries) = IsTableOpen t entries

-- these are the texts of two handles, a language's and English's
abbrev pub AreTextsOf : (own english : PrefixTable) → OwnedTexts → Type 0
AreTextsOf own english texts = AreEntriesOf own texts.own × AreEntriesOf english texts.english

-- a text is empty, or a line feed is its last byte
abbrev pub is_ended : List ℕ → Bool
is_ended text = option_map_or (λ b. b == 10) (slice_get text (length text - 1)) true

-- a text with a line feed at its end, if it isn't empty: the last line may lack its own
abbrev pub ended : List ℕ → List ℕ
ended text = if is_ended text then text else text ++ 10 ∷ []

-- the atlas of a locale that is written so, whose names of regions are the lines of this text
abbrev pub IsAtlasOf : (locale names : List ℕ) → OwnedAtlas → Type 0
IsAtlasOf locale names atlas =
    (atlas.locale ≡ normalized locale) × IsTable (ended names) atlas.names

-- such an atlas is open
abbrev pub IsAtlasOpenOf : (locale names : List ℕ) → AtlasHandle → Type 0
IsAtlasOpenOf locale names h = InBlock h.at × IsAtlasOf locale names h.held

-- the names are refused, and the status says why: for memory; they aren't UTF-8; or the line of
-- this number is the first that has no tab
abbrev pub AreNamesRefused : (names : List ℕ) → (line status : ℕ) → Type 0
AreNamesRefused names line status = ((status ≡ MEMORY) × (line ≡ 0)) ⊎
    ((status ≡ NOT_UTF8) × (line ≡ 0) × ¬ (IsUtf8 (ended names))) ⊎
    ((status ≡ LINE_NO_TAB) × ((what : LineFault) × IsFirstFault (ended names) line what))

-- the atlas is refused: its locale isn't UTF-8, or its names are refused, or memory is
abbrev pub IsAtlasRefused : (locale names : List ℕ) → (line status : ℕ) → Type 0
IsAtlasRefused locale names line status =
    ((status ≡ NOT_UTF8) × (line ≡ 0) × ¬ (IsUtf8 locale)) ⊎ AreNamesRefused names line status

-- tables as they are lent to be asked, with one table of names
pub record IsLentOf (held : OwnedAtlas) (atlas : lent.Atlas) : Type 0 where
  pub locale : atlas.locale.now ≡ held.locale
  pub areas : option_copied atlas.areas.own ≡ held.areas.own
  pub english_areas : option_copied atlas.areas.english ≡ held.areas.english
  pub carriers : option_copied atlas.carriers.own ≡ held.carriers.own
  pub english_carriers : option_copied atlas.carriers.english ≡ held.carriers.english
  pub names : map (λ t. t.now) atlas.names.now ≡ held.names ∷ []
