-- A candidate has one list of pieces.
use Rattle.std.proofs.Common.{◌≡◌, ℕ, List, [], ◌∷◌, ◌++◌, refl, ap, ap₂, sym, subst, ◌∙◌}
use Rattle.phone_matches_text.specs.Pieces
use Rattle.phone_matches_text.specs.Pieces.{AreAllPieces, AreCuts, ArePiecesBy, Piece, behind_piece, from_sign, piece_between}
use Rattle.phone_matches_text.specs.declared.pieces.Sign.{Sign}

pub cuts_same : (s : Sign) (text rest : List ℕ) (a b : List Piece) → AreCuts s text rest a → AreCuts s text rest b → a ≡ b
cuts_same s text rest a b (Pieces.no_cut r h) (Pieces.no_cut q g) = refl
cuts_same s text rest a b (Pieces.no_cut r h) (Pieces.cut q from behind others next more) = absurd (next.there h)
cuts_same s text rest a b (Pieces.cut r from behind others next more) (Pieces.no_cut q g) = absurd (next.there g)
cuts_same s text rest a b (Pieces.cut r from behind others next more) (Pieces.cut q from₁ behind₁ others₁ next₁ more₁) =
    let begins : from ≡ from₁ = next.begins ∙ sym next₁.begins in
    let ends : behind ≡ behind₁ = next.ends ∙ ap (behind_piece s) begins ∙ sym next₁.ends in
    ap₂ (λ (p : Piece) (ps : List Piece). p ∷ ps) (ap₂ (piece_between text) begins ends)
    (cuts_same s text behind others others₁ more (subst (λ t. AreCuts s text t others₁) (sym ends) more₁))

by_same : (s : Sign) (text : List ℕ) (a b : List Piece) → ArePiecesBy s text a → ArePiecesBy s text b → a ≡ b
by_same s text a b (Pieces.no_piece h) (Pieces.no_piece g) = refl
by_same s text a b (Pieces.no_piece h) (Pieces.headed others some more) = absurd (some h)
by_same s text a b (Pieces.headed others some more) (Pieces.no_piece g) = absurd (some g)
by_same s text a b (Pieces.headed others some more) (Pieces.headed others₁ some₁ more₁) =
    ap (λ (ps : List Piece). piece_between text text (from_sign s text) ∷ ps) (cuts_same s text text others others₁ more more₁)

pub pieces_same : (text : List ℕ) (signs : List Sign) (a b : List Piece) → AreAllPieces text signs a → AreAllPieces text signs b → a ≡ b
pieces_same text signs a b Pieces.no_sign Pieces.no_sign = refl
pieces_same text signs a b (Pieces.each s others ps more by h) (Pieces.each s₁ others₁ ps₁ more₁ by₁ h₁) =
    ap₂ (λ (p q : List Piece). p ++ q) (by_same s text ps ps₁ by by₁) (pieces_same text others more more₁ h h₁)
