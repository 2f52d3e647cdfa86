-- Which places of a text match, by what a judge accepts and a limit of tries: as libphonenumber
-- searches. Texts are lists of characters. A place is told by what stands before it in the text,
-- and its own text.
use Rattle.std.specs.Prelude.{◌≡◌, ℕ, suc, ◌<◌, ◌+◌, ◌-◌, ◌==◌, nat_lt, ◌||◌, ◌&&◌, not}
use Rattle.std.specs.Prelude.{Bool, true, false, if◌then◌else◌, List, [], ◌∷◌, ◌++◌, length, drop}
use Rattle.std.specs.Prelude.{map, Option, None, Some}
use Rattle.std.specs.Option.{option_to_list}
use Rattle.phone_matches_text.specs.Candidates.{candidate_at, from_candidate}
use Rattle.phone_matches_text.specs.Dates.{is_dated}
use Rattle.phone_matches_text.specs.Pieces.{ArePieces, Piece}
use Rattle.phone_matches_text.specs.Shapes.{before_end}

-- what a judge accepts: a piece by what stands before it, its own text, and what follows it; and as
-- what
abbrev pub Accepts : Type 0 → Type 1
Accepts N = (before piece after : List ℕ) → N → Type 0

-- a place that matches, and as what
abbrev pub Matched : Type 0 → Type 0
Matched N = Piece × N

-- what follows a place of a text
abbrev pub behind : List ℕ → Piece → List ℕ
behind text p = drop (length p.0 + length p.1) text

-- what stands at a place is accepted as this
abbrev pub IsAccepted : {N : Type 0} → Accepts N → List ℕ → Piece → N → Type 0
IsAccepted accepts text p n = accepts p.0 p.1 (behind text p) n

-- it is accepted as nothing
abbrev pub IsRefused : {N : Type 0} → Accepts N → List ℕ → Piece → Type 0
IsRefused {N = N} accepts text p = (n : N) → ¬ (IsAccepted accepts text p n)

-- the place of the first candidate in an end of a text
abbrev pub candidate_in : (text rest : List ℕ) → Piece
candidate_in text rest =
    (before_end text (from_candidate rest), candidate_at (from_candidate rest))

-- a piece of what stands behind this in the text, as a place of the text
abbrev pub placed : List ℕ → Piece → Piece
placed before p = (before ++ p.0, p.1)

-- nothing stands before a piece
abbrev pub is_front : Piece → Bool
is_front p = length p.0 == 0

-- which pieces of a candidate are tried: each costs a try, and none is tried when none is left, but
-- for the one right behind a front of the candidate, which is tried wherever the front is
abbrev pub tried : (behind_front : Bool) → (tries : ℕ) → List Piece → List Piece
tried behind_front tries [] = []
tried behind_front tries (p ∷ ps) =
    if behind_front || nat_lt 0 tries
    then p ∷ tried (not behind_front && is_front p) (tries - 1) ps else []

-- the first of these places that is accepted, and how many before it aren't
pub data IsFirst {N : Type 0} (accepts : Accepts N) (text : List ℕ) :
    List Piece → Option (Matched N) → ℕ → Type 0 where
  none : IsFirst accepts text [] None 0
  here : (p : Piece) (others : List Piece) (n : N) → IsAccepted accepts text p n →
      IsFirst accepts text (p ∷ others) (Some (p, n)) 0
  later : (p : Piece) (others : List Piece) (found : Option (Matched N)) (failed : ℕ) →
      IsRefused accepts text p → IsFirst accepts text others found failed →
      IsFirst accepts text (p ∷ others) found (suc failed)

-- the tries that are left where so many pieces were refused; a candidate without match costs one
abbrev pub left_of : {N : Type 0} → (tries failed : ℕ) → Option (Matched N) → ℕ
left_of tries failed None = tries - failed - 1
left_of tries failed (Some m) = tries - failed

-- so it is with a candidate's pieces: the first of those that are tried is found, or none, and so
-- many tries are then left
pub record IsParted {N : Type 0} (accepts : Accepts N) (text : List ℕ) (c : Piece) (tries : ℕ)
    (found : Option (Matched N)) (left : ℕ) : Type 0 where
  pub pieces : List Piece
  pub failed : ℕ
  pub parts : ArePieces c.1 pieces
  pub first : IsFirst accepts text (map (placed c.0) (tried false tries pieces)) found failed
  pub remains : left ≡ left_of tries failed found

-- what matches at a candidate, and the tries that are then left: nothing of a date or time; the
-- candidate; else a piece of it, or nothing
pub data IsTried {N : Type 0} (accepts : Accepts N) (text : List ℕ) (c : Piece) (tries : ℕ) :
    Option (Matched N) → ℕ → Type 0 where
  dated : is_dated c.1 (behind text c) ≡ true → IsTried accepts text c tries None (tries - 1)
  whole : (n : N) → is_dated c.1 (behind text c) ≡ false → IsAccepted accepts text c n →
      IsTried accepts text c tries (Some (c, n)) tries
  parted : (found : Option (Matched N)) (left : ℕ) → is_dated c.1 (behind text c) ≡ false →
      IsRefused accepts text c → IsParted accepts text c tries found left →
      IsTried accepts text c tries found left

-- behind which place the search goes on: the match, or else the candidate
abbrev pub passed : {N : Type 0} → Piece → Option (Matched N) → Piece
passed c None = c
passed c (Some m) = m.0

-- what matches at the first candidate in an end of a text, the tries that are then left, and the
-- end of the text from which the search goes on
pub record IsStep {N : Type 0} (accepts : Accepts N) (text : List ℕ) (tries : ℕ) (rest : List ℕ)
    (found : Option (Matched N)) (left : ℕ) (on : List ℕ) : Type 0 where
  pub there : ¬ (from_candidate rest ≡ [])
  pub tried : IsTried accepts text (candidate_in text rest) tries found left
  pub goes_on : on ≡ behind text (passed (candidate_in text rest) found)

-- the matches in an end of a text, in their order: none without tries, or where no candidate is;
-- else what matches at the first candidate, and the matches behind that
pub data AreMatches {N : Type 0} (accepts : Accepts N) (text : List ℕ) :
    (tries : ℕ) → (rest : List ℕ) → List (Matched N) → Type 0 where
  spent : (rest : List ℕ) → AreMatches accepts text 0 rest []
  none : (tries : ℕ) (rest : List ℕ) → from_candidate rest ≡ [] →
      AreMatches accepts text tries rest []
  next : (tries : ℕ) (rest : List ℕ) (found : Option (Matched N)) (left : ℕ) (on : List ℕ)
      (others : List (Matched N)) → 0 < tries → IsStep accepts text tries rest found left on →
      AreMatches accepts text left on others →
      AreMatches accepts text tries rest (option_to_list found ++ others)
