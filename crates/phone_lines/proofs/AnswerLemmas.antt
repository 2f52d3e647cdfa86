-- Lines and their answers: that there are some, and no others.
use Rattle.std.proofs.Common.{◌≡◌, ℕ, List, [], ◌∷◌, ◌++◌, refl, sym, ap₂, ◌∙◌, append_assoc, subst}
use Rattle.phone_lines.specs.Lines.{AreLines, last_line, without_return}
use Rattle.phone_lines.specs.LineReports.{AreAnswers, Gives, HasAnAnswer, HasOneAnswer, IsReport}
use Rattle.phone_lines.specs.LineReports.AreAnswers.{none, next}
use Rattle.phone_lines.proofs.CutLemmas.{cut_of, same_cut}

-- bytes have lines
pub some_lines : (bytes : List ℕ) → (lines : List (List ℕ)) × AreLines bytes lines
some_lines bytes = let c = cut_of bytes in (c.lines ++ last_line c.last, (c.lines, c.last, c.are, refl))

-- in one way alone
pub same_lines : (bytes : List ℕ) (lines others : List (List ℕ)) → AreLines bytes lines → AreLines bytes others → lines ≡ others
same_lines bytes lines others (front, last, cut, all) (front', last', cut', all') =
    let same = same_cut cut cut' in all ∙ ap₂ (λ x y. x ++ last_line y) same.0 same.1 ∙ sym all'

-- the answers to lines, and to one more
pub AreAnswers-then : (gives : Gives) (lines : List (List ℕ)) (answers line answer : List ℕ) → AreAnswers gives lines answers →
    gives (without_return line) answer → AreAnswers gives (lines ++ line ∷ []) (answers ++ (answer ++ 10 ∷ []))
AreAnswers-then gives _ _ line answer none h = next line answer [] [] h none
AreAnswers-then gives _ _ line answer (next l a ls others g rest) h =
    rw append_assoc (next l a (ls ++ line ∷ []) (others ++ (answer ++ 10 ∷ [])) g (AreAnswers-then gives ls others line answer rest h))

some_answers : (gives : Gives) → HasAnAnswer gives → (lines : List (List ℕ)) → (answers : List ℕ) × AreAnswers gives lines answers
some_answers gives some [] = ([], none)
some_answers gives some (line ∷ lines) =
    let a = some (without_return line) in
    let rest = some_answers gives some lines in
    (a.0 ++ 10 ∷ rest.0, next line a.0 lines rest.0 a.1 rest.1)

same_answers : (gives : Gives) → HasOneAnswer gives → (lines : List (List ℕ)) (a b : List ℕ) → AreAnswers gives lines a → AreAnswers gives lines b → a ≡ b
same_answers gives one _ _ _ none none = refl
same_answers gives one _ _ _ (next l x ls a g rest) (next _ y _ b g' rest') =
    ap₂ (λ u v. u ++ 10 ∷ v) (one _ x y g g') (same_answers gives one ls a b rest rest')

-- those to some first lines begin those to all, and those to the other lines come behind them
pub answers_after : (gives : Gives) → HasOneAnswer gives → (first others : List (List ℕ)) (whole report : List ℕ) → AreAnswers gives first whole →
    AreAnswers gives (first ++ others) report → (rest : List ℕ) × (report ≡ whole ++ rest) × AreAnswers gives others rest
answers_after gives one _ others _ report none all = (report, refl, all)
answers_after gives one _ others _ _ (next l a ls whole g are) (next _ b _ report g' all) =
    let r = answers_after gives one ls others whole report are all in
    (r.0, rw append_assoc (ap₂ (λ x y. x ++ 10 ∷ y) (one _ b a g' g) r.1), r.2)

-- bytes have a report
pub some_report : (gives : Gives) → HasAnAnswer gives → (bytes : List ℕ) → (report : List ℕ) × IsReport gives bytes report
some_report gives some bytes = let lines = some_lines bytes in let a = some_answers gives some lines.0 in (a.0, (lines.0, lines.1, a.1))

-- and at most one
pub same_report : (gives : Gives) → HasOneAnswer gives → (bytes a b : List ℕ) → IsReport gives bytes a → IsReport gives bytes b → a ≡ b
same_report gives one bytes a b (lines, are, answers) (others, are', answers') =
    same_answers gives one lines a b answers (subst (λ t. AreAnswers gives t b) (same_lines bytes others lines are' are) answers')
