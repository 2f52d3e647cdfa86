-- Rows of a table that is worked out from a pattern's tree, and what they tell.
use Rattle.std.specs.Prelude.{◌≡◌, ◌∷◌, [], ◌≤◌, ◌<◌, ◌+◌, ◌-◌, ◌++◌, ℕ, Bool, true, false, List}
use Rattle.std.specs.Prelude.{length, Option, Some, None, IfSome, drop, nat_lt, if◌then◌else◌}
use Rattle.std.specs.Prelude.{option_map, slice_index}
use Rattle.std.specs.Option.{option_or}
use Rattle.regex_hir.specs.Re.{Re, Rest, Trace, accept, attempt}
use Rattle.phone_automaton.specs.Digits.{AreDigits, HasRows, end_by, or_here, place_of}

-- at most a thousand rows, of which the first leads nowhere
pub record AreRows (cells : List ℕ) : Type 0 where
  pub rows : HasRows cells
  pub few : length cells ≤ 11000
  pub nowhere : (k : ℕ) → k < 11 → slice_index cells k ≡ 0

-- rows came behind those that there were
abbrev pub Grows : List ℕ → List ℕ → Type 0
Grows old new = (more : List ℕ) × (new ≡ old ++ more)

-- a row begins at the place
abbrev pub IsPlace : List ℕ → ℕ → Type 0
IsPlace cells place = place + 11 ≤ length cells

-- each cell of a row leads to a row of these
abbrev pub LeadInto : List ℕ → List ℕ → Type 0
LeadInto cells row = (k : ℕ) → k < 11 → IsPlace cells (place_of (slice_index row k))

-- where a match ends that takes a cell's step at a position, before these digits or at the end
abbrev pub by_cell : List ℕ → ℕ → ℕ → Option (List ℕ) → Option ℕ
by_cell cells cell at None = or_here cell at None
by_cell cells cell at (Some rest) = or_here cell at (end_by cells (place_of cell) (at + 1) rest)

-- a cell stands for two: its step gives what the first one's gives, or else the second one's
abbrev pub IsEitherCell : List ℕ → ℕ → ℕ → ℕ → Type 0
IsEitherCell cells cell a b =
    (at : ℕ) (rest : Option (List ℕ)) → IfSome rest AreDigits →
    by_cell cells cell at rest ≡ option_or (by_cell cells a at rest) (by_cell cells b at rest)

-- a row stands for two
abbrev pub IsEither : List ℕ → ℕ → ℕ → ℕ → Type 0
IsEither cells place a b =
    (at : ℕ) (rest : List ℕ) → AreDigits rest →
    end_by cells place at rest ≡ option_or (end_by cells a at rest) (end_by cells b at rest)

-- the cells of a row stand for those of two
abbrev pub AreEither : List ℕ → List ℕ → List ℕ → List ℕ → Type 0
AreEither cells row a b =
    (c : ℕ) → c < 11 →
    IsEitherCell cells (slice_index row c) (slice_index a c) (slice_index b c)

-- they stand for going on and for leaving, of which a greedy row prefers the first
abbrev pub AreChoice : List ℕ → List ℕ → List ℕ → List ℕ → Bool → Type 0
AreChoice cells row more leave true = AreEither cells row more leave
AreChoice cells row more leave false = AreEither cells row leave more

-- where a match ends that goes on from a row with these cells, at a position, before these digits
abbrev pub by_row : List ℕ → List ℕ → ℕ → List ℕ → Option ℕ
by_row cells row at [] = by_cell cells (slice_index row 10) at None
by_row cells row at (b ∷ bs) = by_cell cells (slice_index row (b - 48)) at (Some bs)

-- from each position of a text the row at a place tells where the match ends that goes on as k says
abbrev pub RowTells : List ℕ → ℕ → List ℕ → Rest → Type 0
RowTells cells place hay k =
    (p : ℕ) → p ≤ length hay →
    end_by cells place p (drop p hay) ≡ option_map (λ (t : Trace). t.end) (k p)

-- a row with these cells tells it
abbrev pub CellsTell : List ℕ → List ℕ → List ℕ → Rest → Type 0
CellsTell cells row hay k =
    (p : ℕ) → p ≤ length hay →
    by_row cells row p (drop p hay) ≡ option_map (λ (t : Trace). t.end) (k p)

-- over digits the row at a place says that a match ends here
abbrev pub TellsAccept : List ℕ → ℕ → Type 0
TellsAccept cells place = (hay : List ℕ) → AreDigits hay → RowTells cells place hay accept

-- over digits the row at a place tells of the tree, and of what follows it by the next row
abbrev pub TellsBefore : List ℕ → ℕ → ℕ → Re → Type 0
TellsBefore cells place next re =
    (hay : List ℕ) → AreDigits hay → (k : Rest) → RowTells cells next hay k →
    RowTells cells place hay (attempt hay re k)

-- and so does a row with these cells, which lead to rows of the table
pub record GivesBefore (cells row : List ℕ) (next : ℕ) (re : Re) : Type 0 where
  pub lead : LeadInto cells row
  pub tell : (hay : List ℕ) → AreDigits hay → (k : Rest) → RowTells cells next hay k →
      CellsTell cells row hay (attempt hay re k)

-- a row has this cell for the digits that pass, and leads nowhere otherwise
abbrev pub IsStep : List ℕ → ℕ → (ℕ → Bool) → Type 0
IsStep row cell test =
    ((c : ℕ) → c < 10 → slice_index row c ≡ (if test (48 + c) then cell else 0)) ×
    (slice_index row 10 ≡ 0)

-- the cells of the first row
abbrev pub none : List ℕ
none = 0 ∷ 0 ∷ 0 ∷ 0 ∷ 0 ∷ 0 ∷ 0 ∷ 0 ∷ 0 ∷ 0 ∷ 0 ∷ []

-- a cell where its row is moved two rows on: what it leads to is moved too, but for the first row
abbrev pub moved : ℕ → ℕ
moved cell = if nat_lt cell 2 then cell else cell + 44
