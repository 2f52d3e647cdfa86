-- The pieces of a candidate that are tried one by one where the candidate itself is no number. A
-- piece is told by what stands before it in the candidate, and its own text.
use Rattle.std.specs.Prelude.{◌≡◌, ℕ, ◌==◌, ◌||◌, ◌&&◌, not, Bool, true, false}
use Rattle.std.specs.Prelude.{if◌then◌else◌, List, [], ◌∷◌, ◌++◌, drop}
use Rattle.std.specs.List.{list_any}
use Rattle.phone_chars.specs.Cuts.{after_front}
use Rattle.phone_parts.specs.Cores.{is_last}
use Rattle.phone_matches_text.specs.Sets.{is_in}
use Rattle.phone_matches_text.specs.Shapes.{Test, always, before_end, from_first, one, some}
use Rattle.phone_matches_text.specs.declared.sets.Set.{Set}
use Rattle.phone_matches_text.specs.declared.sets.Set.TheVariants as set
use Rattle.phone_matches_text.specs.declared.pieces.Sign.{Sign}
use Rattle.phone_matches_text.specs.declared.pieces.Sign.TheVariants as sign

-- what stands before a piece, and the piece
abbrev pub Piece : Type 0
Piece = List ℕ × List ℕ

-- the text without its longest end of characters in which no number ends
abbrev pub trimmed : List ℕ → List ℕ
trimmed [] = []
trimmed (c ∷ cs) = if list_any is_last (c ∷ cs) then c ∷ trimmed cs else []

-- some character
abbrev pub is_some : Test
is_some [] = false
is_some (c ∷ cs) = true

-- a character follows that isn't of the set
abbrev pub goes_on : Set → Test
goes_on stop [] = false
goes_on stop (c ∷ cs) = not (is_in stop c)

-- what follows spaces; the last character before one of the set, or before the end, isn't passed
abbrev pub after_spaces : Set → List ℕ → List ℕ
after_spaces stop [] = []
after_spaces stop (c ∷ cs) =
    if is_in set.Space c && goes_on stop cs then after_spaces stop cs else c ∷ cs

-- a character of a set begins the text
abbrev pub begins_one : Set → Test
begins_one s t = one (is_in s) always t

-- a sign begins here: slashes; a round bracket; a hyphen beside a space, and something behind them;
-- a wide dash, and something behind it; full stops, and something behind them; spaces, and
-- something behind them
abbrev pub begins_sign : Sign → Test
begins_sign sign.Slashes t = begins_one set.Slash t
begins_sign sign.Bracket t = begins_one set.Round t
begins_sign sign.SpacedHyphen t =
    one (is_in set.Space) (one (is_in set.Hyphen) is_some) t ||
    one (is_in set.Hyphen) (one (is_in set.Space) is_some) t
begins_sign sign.WideDash t = one (is_in set.WideDash) is_some t
begins_sign sign.Dots t = some (is_in set.Dot) is_some t
begins_sign sign.Spaces t = some (is_in set.Space) is_some t

-- where the piece begins: behind the sign and the spaces that follow it, but a bracket is the
-- piece's own
abbrev pub behind_sign : Sign → List ℕ → List ℕ
behind_sign sign.Slashes t = after_front (is_in set.Slash) t
behind_sign sign.Bracket t = t
behind_sign sign.SpacedHyphen t = after_spaces set.Nothing (drop 2 t)
behind_sign sign.WideDash t = after_spaces set.Nothing (drop 1 t)
behind_sign sign.Dots t = after_spaces set.Dot (after_front (is_in set.Dot) t)
behind_sign sign.Spaces t = after_front (is_in set.Space) t

-- the text from its first character of a set on
abbrev pub from_one : Set → List ℕ → List ℕ
from_one s t = from_first (begins_one s) t

-- what follows a piece: after slashes, hyphens and dashes it is all of the rest; else the next sign
-- ends it
abbrev pub behind_piece : Sign → List ℕ → List ℕ
behind_piece sign.Slashes t = []
behind_piece sign.Bracket t = from_one set.Round (drop 1 t)
behind_piece sign.SpacedHyphen t = []
behind_piece sign.WideDash t = []
behind_piece sign.Dots t = from_one set.Dot t
behind_piece sign.Spaces t = from_one set.Space t

-- the text from the first place of a sign on
abbrev pub from_sign : Sign → List ℕ → List ℕ
from_sign s t = from_first (begins_sign s) t

-- the piece of a text between two of its ends, the first from the piece on, the second behind it,
-- without the end in which no number ends
abbrev pub piece_between : (text from behind : List ℕ) → Piece
piece_between text from behind = (before_end text from, trimmed (before_end from behind))

-- the next piece by a sign: it begins behind the sign's first place, and the last text follows it
pub record IsNextCut (s : Sign) (text from behind : List ℕ) : Type 0 where
  pub there : ¬ (from_sign s text ≡ [])
  pub begins : from ≡ behind_sign s (from_sign s text)
  pub ends : behind ≡ behind_piece s from

-- the pieces by a sign from an end of the text on: one behind each
pub data AreCuts (s : Sign) (text : List ℕ) : List ℕ → List Piece → Type 0 where
  no_cut : (rest : List ℕ) → from_sign s rest ≡ [] → AreCuts s text rest []
  cut : (rest from behind : List ℕ) (others : List Piece) → IsNextCut s rest from behind →
      AreCuts s text behind others → AreCuts s text rest (piece_between text from behind ∷ others)

-- all pieces by a sign: what stands before its first place, and then those
pub data ArePiecesBy (s : Sign) (text : List ℕ) : List Piece → Type 0 where
  no_piece : from_sign s text ≡ [] → ArePiecesBy s text []
  headed : (others : List Piece) → ¬ (from_sign s text ≡ []) → AreCuts s text text others →
      ArePiecesBy s text (piece_between text text (from_sign s text) ∷ others)

-- the pieces by these signs, one sign's after another's
pub data AreAllPieces (text : List ℕ) : List Sign → List Piece → Type 0 where
  no_sign : AreAllPieces text [] []
  each : (s : Sign) (others : List Sign) (ps more : List Piece) → ArePiecesBy s text ps →
      AreAllPieces text others more → AreAllPieces text (s ∷ others) (ps ++ more)

-- a piece stands in a text: the text is what stands before it, then the piece, then something
pub record StandsIn (text : List ℕ) (piece : Piece) : Type 0 where
  pub after : List ℕ
  pub whole : text ≡ piece.0 ++ (piece.1 ++ after)

-- the signs in their order
abbrev pub signs : List Sign
signs = sign.Slashes ∷ sign.Bracket ∷ sign.SpacedHyphen ∷ sign.WideDash ∷ sign.Dots ∷ sign.Spaces ∷
    []

-- the pieces of a candidate
abbrev pub ArePieces : List ℕ → List Piece → Type 0
ArePieces text pieces = AreAllPieces text signs pieces
