-- Tables of the names of regions, and the region of a name.
use Rattle.std.specs.Prelude.{◌≡◌, ◌≢◌, ◌<◌, ◌+◌, ℕ, Bool, List, [], ◌∷◌, ◌++◌, length}
use Rattle.std.specs.Prelude.{Option, None, option_map, slice_index, slice_index_or, string_bytes}
use Rattle.std.specs.Prelude.{⊤}
use Rattle.std.specs.Cmp.Lexicographic.{slice_cmp}
use Rattle.std.specs.List.{find}
use Rattle.std.specs.Ordering.{nat_cmp}
use Rattle.std.specs.Str.{IsUtf8, bytes_eq}
use Rattle.std.specs.declared.cmp.Ordering.TheVariants.{Less}
use Rattle.phone_values.specs.Ids.{id_of, name}
use Rattle.phone_values.specs.declared.country.Id.{Id}
use Rattle.phone_places.specs.declared.countries.Entry.{Entry}
use Rattle.phone_places.specs.declared.fault.CountriesError.{CountriesError}
use Rattle.phone_places.specs.declared.fault.CountriesError.TheVariants as error
use Rattle.phone_places.specs.declared.fault.LineFault.{LineFault}
use Rattle.phone_places.specs.declared.fault.LineFault.TheVariants as fault

-- the name of an entry
abbrev pub name_of : Entry → List ℕ
name_of e = string_bytes e.name

-- an entry has this name
abbrev pub has_name : List ℕ → Entry → Bool
has_name text e = bytes_eq (name_of e) text

-- the region that a table has for a name
abbrev pub region_in : List Entry → List ℕ → Option Id
region_in entries text = option_map (λ e. e.id) (find (has_name text) entries)

-- no byte of a text is this one
abbrev pub Lacks : ℕ → List ℕ → Type 0
Lacks c text = (i : ℕ) → i < length text → slice_index text i ≢ c

-- a line has this name and this region: the name, a tab, and the region's id
pub record IsLine (line text : List ℕ) (id : Id) : Type 0 where
  pub whole : line ≡ text ++ 9 ∷ name id
  pub first_tab : Lacks 9 text
  pub unbroken : Lacks 10 line

-- the name of an entry is below another, byte by byte
abbrev pub IsBelow : List ℕ → Entry → Type 0
IsBelow text e = slice_cmp nat_cmp (name_of e) text ≡ Less

-- each name is below those after it
abbrev pub Rises : List Entry → Type 0
Rises es = (i j : ℕ) (d : Entry) → i < j → j < length es →
    IsBelow (name_of (slice_index_or es j d)) (slice_index_or es i d)

-- a name is above those of the entries
abbrev pub IsAbove : List Entry → List ℕ → Type 0
IsAbove es text = (i : ℕ) (d : Entry) → i < length es → IsBelow text (slice_index_or es i d)

-- a line is one more entry's, whose name is above those before it
pub record IsOneMore (entries : List Entry) (line : List ℕ) (all : List Entry) : Type 0 where
  pub entry : Entry
  pub is_line : IsLine line (name_of entry) entry.id
  pub above : IsAbove entries (name_of entry)
  pub whole : all ≡ entries ++ entry ∷ []

-- bytes are the lines of entries, each ended by a line feed; each name is above those before it
pub data IsTable : List ℕ → List Entry → Type 0 where
  none : IsTable [] []
  next : (bytes line : List ℕ) (entries all : List Entry) → IsTable bytes entries →
      IsOneMore entries line all → IsTable (bytes ++ line ++ 10 ∷ []) all

-- a line is no entry's, and this is wrong with it
pub data IsNoLine : List ℕ → LineFault → Type 0 where
  no_tab : (line : List ℕ) → Lacks 9 line → IsNoLine line fault.NoTab
  no_id : (line front text : List ℕ) → line ≡ front ++ 9 ∷ text → Lacks 9 front →
      id_of text ≡ None → IsNoLine line fault.NoId

-- what comes after the lines of these entries doesn't begin with one more, and this is wrong
pub data IsFault (entries : List Entry) (rest : List ℕ) : LineFault → Type 0 where
  no_end : 0 < length rest → Lacks 10 rest → IsFault entries rest fault.NoEnd
  no_line : (line after : List ℕ) (what : LineFault) → rest ≡ line ++ 10 ∷ after →
      Lacks 10 line → IsNoLine line what → IsFault entries rest what
  not_above : (line after text : List ℕ) (id : Id) → rest ≡ line ++ 10 ∷ after →
      IsLine line text id → ¬ (IsAbove entries text) → IsFault entries rest fault.NotAbove

-- a text is refused as what comes after the lines of these entries
abbrev pub RefusesNext : List Entry → List ℕ → CountriesError → Type 0
RefusesNext entries text error.NotUtf8 = ⊥
RefusesNext entries text (error.Line number what) =
    (number ≡ length entries + 1) × IsFault entries text what
RefusesNext entries text error.Memory = ⊤

-- the first lines are those of entries, and what follows can't come after them
pub record IsFirstFault (bytes : List ℕ) (number : ℕ) (what : LineFault) : Type 0 where
  pub before : List ℕ
  pub rest : List ℕ
  pub entries : List Entry
  pub whole : bytes ≡ before ++ rest
  pub table : IsTable before entries
  pub counted : number ≡ length entries + 1
  pub fault : IsFault entries rest what

-- these bytes are refused
abbrev pub Refuses : List ℕ → CountriesError → Type 0
Refuses bytes error.NotUtf8 = ¬ (IsUtf8 bytes)
Refuses bytes (error.Line number what) = IsFirstFault bytes number what
Refuses bytes error.Memory = ⊤
