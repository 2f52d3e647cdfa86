-- The report on bytes that are cut behind a line feed.
use Rattle.std.proofs.Common.{◌≡◌, inl, inr, ℕ, List, [], ◌∷◌, ◌++◌, refl, append_assoc}
use Rattle.std.proofs.lemmas.List.{append-nil}
use Rattle.phone_lines.specs.Lines.{AreCut, last_line}
use Rattle.phone_lines.specs.LineReports.{AreAnswers, Gives, IsReport}
use Rattle.phone_lines.specs.LineReports.AreAnswers.{none, next}
use Rattle.phone_lines.proofs.CutLemmas.{AreCut-ended, AreCut-nothing, AreCut-then, cut_of, same_cut}
use Rattle.headline_examples.specs.Parts.{EndsLine}

-- behind a line feed nothing is left of a line
nothing_left : (front : List ℕ) (lines : List (List ℕ)) (last : List ℕ) → EndsLine front → AreCut front lines last → last ≡ []
nothing_left front lines last (inl e) cut = let empty : AreCut front [] [] = rw e AreCut-nothing in (same_cut cut empty).1
nothing_left front lines last (inr (text, e)) cut =
    let c = cut_of text in
    let ended : AreCut front (c.lines ++ c.last ∷ []) [] = rw e (AreCut-ended text c.lines c.last 10 c.are refl) in (same_cut cut ended).1

-- the answers to lines, and to others behind them
AreAnswers-append : (gives : Gives) (lines others : List (List ℕ)) (a b : List ℕ) → AreAnswers gives lines a → AreAnswers gives others b →
    AreAnswers gives (lines ++ others) (a ++ b)
AreAnswers-append gives _ others _ b none h = h
AreAnswers-append gives _ others _ b (next line answer lines answers g rest) h =
    rw append_assoc (next line answer (lines ++ others) (answers ++ b) g (AreAnswers-append gives lines others answers b rest h))

-- the reports on bytes up to a line feed, and on those behind it
pub IsReport-append : (gives : Gives) (front rest out_front out_rest : List ℕ) → EndsLine front → IsReport gives front out_front →
    IsReport gives rest out_rest → IsReport gives (front ++ rest) (out_front ++ out_rest)
IsReport-append gives front rest a b ends (lines, (ended, last, cut, all), are) (others, (ended', last', cut', all'), are') =
    let empty : last ≡ [] = nothing_left front ended last ends cut in
    let same : lines ++ others ≡ (ended ++ ended') ++ last_line last' = rw (all, all', empty, append-nil, append_assoc) refl in (
      lines ++ others,
      (ended ++ ended', last', AreCut-then front rest ended ended' last last' cut (rw empty cut'), same),
      AreAnswers-append gives lines others a b are are',
    )
