-- The pieces that a loop has put so far.
use Rattle.std.proofs.Common.{◌≡◌, ℕ, zero, suc, ◌<◌, ◌≤◌, true, false, List, [], ◌∷◌, ◌++◌, Result, Ok, Err, OnOk, length, drop, get_or, append_assoc, append-nil, refl, ap, sym, subst, ◌∙◌, arith, true≢false}
use Rattle.std.proofs.lemmas.List.{map-append}
use Rattle.std.specs.List.{AllByRecursion}
use Rattle.phone_matches_text.specs.Lent.{told_piece, told_pieces}
use Rattle.phone_matches_text.specs.declared.pieces.Piece.{Piece as Lent}
use Rattle.phone_matches_text.specs.Pieces
use Rattle.phone_matches_text.specs.Pieces.{AreAllPieces, AreCuts, ArePiecesBy, IsNextCut, Piece, is_some, piece_between}
use Rattle.phone_matches_text.specs.declared.pieces.Sign.{Sign}

pub none_of : (t : List ℕ) → is_some t ≡ false → t ≡ []
none_of [] h = refl
none_of (c ∷ cs) h = absurd (true≢false h)

pub some_of : (t : List ℕ) → is_some t ≡ true → ¬ (t ≡ [])
some_of [] h e = true≢false (sym h)
some_of (c ∷ cs) h e = cc

pub on_ok : {A E : Type 0} (r : Result A E) (P Q : Type 0) → (P → Q) → OnOk r P → OnOk r Q
on_ok (Ok x) P Q f h = f h
on_ok (Err e) P Q f h = h

pub all_push : {X : Type 0} (P : X → Type 0) (xs : List X) (x : X) → AllByRecursion P xs → P x → AllByRecursion P (xs ++ x ∷ [])
all_push P [] x h p = (p, tt)
all_push P (y ∷ ys) x h p = (h.0, all_push P ys x h.1 p)

pub cuts_more : (s : Sign) (text rest from behind : List ℕ) (done : List Piece) (p : Piece) →
    ((more : List Piece) → AreCuts s text rest more → AreCuts s text text (done ++ more)) →
    IsNextCut s rest from behind → p ≡ piece_between text from behind →
    (more : List Piece) → AreCuts s text behind more → AreCuts s text text ((done ++ p ∷ []) ++ more)
cuts_more s text rest from behind done p so_far next same more h =
    subst (AreCuts s text text) (ap (λ (q : Piece). done ++ q ∷ more) (sym same) ∙ sym (append_assoc done (p ∷ []) more))
    (so_far (piece_between text from behind ∷ more) (Pieces.cut rest from behind more next h))

pub cuts_end : (s : Sign) (text rest : List ℕ) (done : List Piece) →
    ((more : List Piece) → AreCuts s text rest more → AreCuts s text text (done ++ more)) →
    Pieces.from_sign s rest ≡ [] → AreCuts s text text done
cuts_end s text rest done so_far none =
    subst (AreCuts s text text) (append-nil done) (so_far [] (Pieces.no_cut rest none))

pub drop_get : {X : Type 0} (xs : List X) (i : ℕ) (other : X) → i < length xs → drop i xs ≡ get_or xs i other ∷ drop (suc i) xs
drop_get [] i other less = absurd (omega arith)
drop_get (x ∷ xs) zero other less = refl
drop_get (x ∷ xs) (suc i) other less = drop_get xs i other (omega arith)

pub each_more : (text : List ℕ) (signs : List Sign) (i j : ℕ) (other : Sign) (done ps : List Piece) →
    ((more : List Piece) → AreAllPieces text (drop i signs) more → AreAllPieces text signs (done ++ more)) →
    i < length signs → j ≡ suc i → ArePiecesBy (get_or signs i other) text ps →
    (more : List Piece) → AreAllPieces text (drop j signs) more → AreAllPieces text signs ((done ++ ps) ++ more)
each_more text signs i j other done ps so_far less next by more h =
    subst (AreAllPieces text signs) (sym (append_assoc done ps more))
    (so_far (ps ++ more) (subst (λ (r : List Sign). AreAllPieces text r (ps ++ more)) (sym (drop_get signs i other less))
    (Pieces.each (get_or signs i other) (drop (suc i) signs) ps more by
    (subst (λ k. AreAllPieces text (drop k signs) more) next h))))

drop_rest : {X : Type 0} (xs : List X) (i : ℕ) → length xs ≤ i → drop i xs ≡ []
drop_rest [] zero h = refl
drop_rest [] (suc i) h = refl
drop_rest (x ∷ xs) zero h = absurd (omega arith)
drop_rest (x ∷ xs) (suc i) h = drop_rest xs i (omega arith)

pub each_end : (text : List ℕ) (signs : List Sign) (i : ℕ) (done : List Piece) →
    ((more : List Piece) → AreAllPieces text (drop i signs) more → AreAllPieces text signs (done ++ more)) →
    length signs ≤ i → AreAllPieces text signs done
each_end text signs i done so_far all =
    subst (AreAllPieces text signs) (append-nil done)
    (so_far [] (subst (λ (r : List Sign). AreAllPieces text r []) (sym (drop_rest signs i all)) Pieces.no_sign))

pub headed_told : (old new mid : List Lent) (p : Lent) (more : List Piece) (q : Piece) → mid ≡ old ++ p ∷ [] → told_piece p ≡ q →
    told_pieces new ≡ told_pieces mid ++ more → told_pieces new ≡ told_pieces old ++ q ∷ more
headed_told old new mid p more q pushed same told =
    told ∙ ap (λ t. t ++ more) (ap told_pieces pushed ∙ map-append told_piece old (p ∷ []))
    ∙ append_assoc (told_pieces old) (told_piece p ∷ []) more ∙ ap (λ (r : Piece). told_pieces old ++ r ∷ more) same
