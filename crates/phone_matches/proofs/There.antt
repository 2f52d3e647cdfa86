-- A text has a list of matches, where it is known of each place whether it is accepted, and no empty
-- place is.
use Rattle.std.proofs.Common.{◌≡◌, ◌⊎◌, inl, inr, ℕ, zero, suc, ◌+◌, ◌-◌, ◌≤◌, ◌<◌, Bool, true, false, List, [], ◌∷◌, ◌++◌, length, map, Option, None, Some, refl, arith}
use Rattle.std.proofs.lemmas.List.{length-drop}
use Rattle.std.specs.Option.{option_to_list}
use Rattle.phone_matches_text.proofs.Shorter.{cut_shorter}
use Rattle.phone_matches_text.specs.Candidates
use Rattle.phone_matches_text.specs.Candidates.{candidate_at, from_candidate}
use Rattle.phone_matches_text.specs.Dates.{is_dated}
use Rattle.phone_matches_text.specs.Pieces
use Rattle.phone_matches_text.specs.Pieces.{AreAllPieces, AreCuts, ArePieces, ArePiecesBy, Piece, behind_piece, behind_sign, from_sign, signs}
use Rattle.phone_matches_text.specs.declared.pieces.Sign.{Sign}
use Rattle.phone_matches.proofs.Accepted.{tried_accepted}
use Rattle.phone_matches.proofs.Orders.{first_shorter, from_length, tried_behind}
use Rattle.phone_matches.specs.Searches
use Rattle.phone_matches.specs.Searches.{Accepts, AreMatches, IsAccepted, IsFirst, IsParted, IsRefused, IsStep, IsTried, Matched, behind, candidate_in, left_of, passed, placed, tried}

is_empty : (t : List ℕ) → (t ≡ []) ⊎ (¬ (t ≡ []))
is_empty [] = inl refl
is_empty (c ∷ cs) = inr (λ e. cc)

-- the pieces of a text by a sign, of an end of at most n characters
abbrev CutsThere : Sign → List ℕ → List ℕ → Type 0
CutsThere s text rest = (ps : List Piece) × AreCuts s text rest ps

cuts_next : (s : Sign) (text rest : List ℕ) (n : ℕ) → length rest ≤ suc n → ((r : List ℕ) → length r ≤ n → CutsThere s text r) →
    (from_sign s rest ≡ []) ⊎ (¬ (from_sign s rest ≡ [])) → CutsThere s text rest
cuts_next s text rest n h later (inl e) = ([], Pieces.no_cut rest e)
cuts_next s text rest n h later (inr some) =
    let from = behind_sign s (from_sign s rest) in
    let l = cut_shorter s rest some in
    let others = later (behind_piece s from) (omega (arith, l, h)) in
    (Pieces.piece_between text from (behind_piece s from) ∷ others.0, Pieces.cut rest from (behind_piece s from) others.0 (record { there = some; begins = refl; ends = refl }) others.1)

cuts_last : (s : Sign) (text rest : List ℕ) → length rest ≤ 0 → (from_sign s rest ≡ []) ⊎ (¬ (from_sign s rest ≡ [])) → CutsThere s text rest
cuts_last s text rest h (inl e) = ([], Pieces.no_cut rest e)
cuts_last s text rest h (inr some) = absurd (let l = cut_shorter s rest some in omega (arith, l, h))

cuts_there : (s : Sign) (text : List ℕ) (n : ℕ) (rest : List ℕ) → length rest ≤ n → CutsThere s text rest
cuts_there s text zero rest h = cuts_last s text rest h (is_empty (from_sign s rest))
cuts_there s text (suc n) rest h = cuts_next s text rest n h (cuts_there s text n) (is_empty (from_sign s rest))

pieces_by_there : (s : Sign) (text : List ℕ) → (ps : List Piece) × ArePiecesBy s text ps
pieces_by_there s text = by_sign (is_empty (from_sign s text))
  where
    by_sign : (from_sign s text ≡ []) ⊎ (¬ (from_sign s text ≡ [])) → (ps : List Piece) × ArePiecesBy s text ps
    by_sign (inl e) = ([], Pieces.no_piece e)
    by_sign (inr some) =
        let others = cuts_there s text (length text) text (omega arith) in
        (Pieces.piece_between text text (from_sign s text) ∷ others.0, Pieces.headed others.0 some others.1)

all_pieces_there : (text : List ℕ) (ss : List Sign) → (ps : List Piece) × AreAllPieces text ss ps
all_pieces_there text [] = ([], Pieces.no_sign)
all_pieces_there text (s ∷ ss) =
    let here = pieces_by_there s text in
    let more = all_pieces_there text ss in
    (here.0 ++ more.0, Pieces.each s ss here.0 more.0 here.1 more.1)

pub pieces_there : (text : List ℕ) → (ps : List Piece) × ArePieces text ps
pieces_there text = all_pieces_there text signs

some_length : (t : List ℕ) → ¬ (t ≡ []) → 0 < length t
some_length [] some = absurd (some refl)
some_length (c ∷ cs) some = omega arith

module _ {N : Type 0} (accepts : Accepts N) (text : List ℕ) where
  -- a place is accepted as something, or is refused
  abbrev pub Told : Piece → Type 0
  Told p = ((n : N) × IsAccepted accepts text p n) ⊎ IsRefused accepts text p

  module _ (told : (p : Piece) → Told p) (some : (p : Piece) (n : N) → IsAccepted accepts text p n → ¬ (p.1 ≡ [])) where
    -- what is found among places
    abbrev FirstThere : List Piece → Type 0
    FirstThere ps = (found : Option (Matched N)) × (failed : ℕ) × IsFirst accepts text ps found failed

    first_next : (p : Piece) (ps : List Piece) → FirstThere ps → Told p → FirstThere (p ∷ ps)
    first_next p ps others (inl (n, h)) = (Some (p, n), 0, Searches.here p ps n h)
    first_next p ps others (inr refused) =
        (others.0, suc others.1, Searches.later p ps others.0 others.1 refused others.2)

    first_there : (ps : List Piece) → FirstThere ps
    first_there [] = (None, 0, Searches.none)
    first_there (p ∷ ps) = first_next p ps (first_there ps) (told p)

    -- what is found at a candidate
    abbrev TriedThere : Piece → ℕ → Type 0
    TriedThere c tries = (found : Option (Matched N)) × (left : ℕ) × IsTried accepts text c tries found left

    tried_by : (c : Piece) (tries : ℕ) (b : Bool) → is_dated c.1 (behind text c) ≡ b → Told c → TriedThere c tries
    tried_by c tries true d t = (None, tries - 1, Searches.dated d)
    tried_by c tries false d (inl (n, h)) = (Some (c, n), tries, Searches.whole n d h)
    tried_by c tries false d (inr refused) =
        let pieces = pieces_there c.1 in
        let first = first_there (map (placed c.0) (tried false tries pieces.0)) in
        let parts : IsParted accepts text c tries first.0 (left_of tries first.1 first.0) = record {
          pieces = pieces.0;
          failed = first.1;
          parts = pieces.1;
          first = first.2;
          remains = refl;
        } in
        (first.0, left_of tries first.1 first.0, Searches.parted first.0 (left_of tries first.1 first.0) d refused parts)

    tried_there : (c : Piece) (tries : ℕ) → TriedThere c tries
    tried_there c tries = tried_by c tries (is_dated c.1 (behind text c)) refl (told c)

    candidate_some : (t : List ℕ) → ¬ (t ≡ []) → 0 < length (candidate_at t)
    candidate_some [] there = absurd (there refl)
    candidate_some (c ∷ cs) there = omega arith

    -- behind what was found, or the candidate, less is left than before it
    passed_more : (c : Piece) (tries : ℕ) (found : Option (Matched N)) (left : ℕ) → IsTried accepts text c tries found left → 0 < length c.1 →
        length c.0 < length (passed c found).0 + length (passed c found).1
    passed_more c tries None left h there = omega (arith, there)
    passed_more c tries (Some m) left h there =
        let b = tried_behind accepts text c tries (Some m) left h in
        let s = some_length m.0.1 (some m.0 m.1 (tried_accepted accepts text c tries (Some m) left h)) in
        omega (arith, b, s)

    -- the matches of an end of the text of at most n characters
    abbrev MatchesThere : ℕ → List ℕ → Type 0
    MatchesThere tries rest = (all : List (Matched N)) × AreMatches accepts text tries rest all

    matches_next : (n tries : ℕ) (rest : List ℕ) → 0 < tries → length rest ≤ suc n → length rest ≤ length text →
        ((t : ℕ) (r : List ℕ) → length r ≤ n → length r ≤ length text → MatchesThere t r) →
        (from_candidate rest ≡ []) ⊎ (¬ (from_candidate rest ≡ [])) → MatchesThere tries rest
    matches_next n tries rest left h short later (inl e) = ([], Searches.none tries rest e)
    matches_next n tries rest left h short later (inr there) =
        let c = candidate_in text rest in
        let t = tried_there c tries in
        let p = passed c t.0 in
        let on = behind text p in
        let l = length-drop (length p.0 + length p.1) text in
        let f = from_length accepts text rest short in
        let s = first_shorter Candidates.begins_candidate rest in
        let m = passed_more c tries t.0 t.1 t.2 (candidate_some (from_candidate rest) there) in
        let others = later t.1 on (omega (arith, l, f, s, m, h, short)) (omega (arith, l)) in
        let step : IsStep accepts text tries rest t.0 t.1 on = record { there = there; tried = t.2; goes_on = refl } in
        (option_to_list t.0 ++ others.0, Searches.next tries rest t.0 t.1 on others.0 left step others.1)

    matches_last : (tries : ℕ) (rest : List ℕ) → length rest ≤ 0 → (from_candidate rest ≡ []) ⊎ (¬ (from_candidate rest ≡ [])) →
        MatchesThere tries rest
    matches_last tries rest h (inl e) = ([], Searches.none tries rest e)
    matches_last tries rest h (inr there) =
        absurd (let l = first_shorter Candidates.begins_candidate rest in let s = some_length (from_candidate rest) there in omega (arith, l, s, h))

    matches_from : (n tries : ℕ) (rest : List ℕ) → length rest ≤ n → length rest ≤ length text → MatchesThere tries rest
    matches_from n zero rest h short = ([], Searches.spent rest)
    matches_from zero (suc tries) rest h short = matches_last (suc tries) rest h (is_empty (from_candidate rest))
    matches_from (suc n) (suc tries) rest h short =
        matches_next n (suc tries) rest (omega arith) h short (matches_from n) (is_empty (from_candidate rest))

    -- a text has matches
    pub matches_there : (tries : ℕ) → (all : List (Matched N)) × AreMatches accepts text tries text all
    matches_there tries = matches_from (length text) tries text (omega arith) (omega arith)
