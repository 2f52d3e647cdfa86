-- How far a run is after some more bytes, or after the sink has taken more.
use Rattle.std.proofs.Common.{◌≡◌, ℕ, List, [], ◌∷◌, ◌++◌, Option, Some, None, ap, ◌∙◌, append_assoc, subst}
use Rattle.phone_device.specs.Passing.{Holds, Takes}
use Rattle.phone_lines.specs.Lines.{without_return}
use Rattle.phone_lines.specs.LineReports.{AreAnswers, Gives, TakesA}
use Rattle.phone_lines.specs.Runs.{IsSoFar}
use Rattle.phone_lines.proofs.AnswerLemmas.{AreAnswers-then}
use Rattle.phone_lines.proofs.CutLemmas.{AreCut-ended, AreCut-grown}

-- a byte that is no line feed
pub IsSoFar-grown : (gives : Gives) (bytes line answers : List ℕ) (x : ℕ) → IsSoFar gives bytes line answers → (x ≡ 10 → ⊥) →
    IsSoFar gives (bytes ++ x ∷ []) (line ++ x ∷ []) answers
IsSoFar-grown gives bytes line answers x s isnt =
    record { lines = s.lines; cut = AreCut-grown bytes s.lines line x s.cut isnt; answered = s.answered }

answered : (gives : Gives) (bytes line written held answer : List ℕ) (s : IsSoFar gives bytes line (written ++ held)) → gives (without_return line) answer →
    AreAnswers gives (s.lines ++ line ∷ []) (written ++ (held ++ (answer ++ 10 ∷ [])))
answered gives bytes line written held answer s given =
    rw (← append_assoc written held (answer ++ 10 ∷ [])) (AreAnswers-then gives s.lines (written ++ held) line answer s.answered given)

-- a line feed, and the answer to the line that it ends
pub IsSoFar-ended : (gives : Gives) (bytes line written held answer : List ℕ) (x : ℕ) → IsSoFar gives bytes line (written ++ held) → x ≡ 10 →
    gives (without_return line) answer → IsSoFar gives (bytes ++ x ∷ []) [] (written ++ (held ++ (answer ++ 10 ∷ [])))
IsSoFar-ended gives bytes line written held answer x s is given = record {
  lines = s.lines ++ line ∷ [];
  cut = AreCut-ended bytes s.lines line x s.cut is;
  answered = answered gives bytes line written held answer s given;
}

-- what is taken one after the other is taken together
pub takes_then : (a b c : Option (List ℕ)) (x y : List ℕ) → Takes a x b → Takes b y c → Takes a (x ++ y) c
takes_then None b c x y p q = subst (λ b. Takes b y c) p q
takes_then (Some all) b c x y p q = let e : Takes (Some (all ++ x)) y c = subst (λ b. Takes b y c) p q in e ∙ ap (λ t. Some t) (append_assoc all x y)

-- what holds with what was held back before, and with what is held back now
pub Holds-on : {P Q : List ℕ → Type 0} {held held' : List ℕ} {before after : Option (List ℕ)} →
    ((written : List ℕ) → P (written ++ held) → Q (written ++ held')) → Holds P held before after → Holds Q held' before after
Holds-on on h = record { written = h.written; taken = h.taken; text = on h.written h.text }

-- the sink took some of what was held back
pub Holds-handed : {P : List ℕ → Type 0} {held : List ℕ} {before middle : Option (List ℕ)} (more held' : List ℕ) (after : Option (List ℕ)) →
    Holds P held before middle → held ≡ more ++ held' → Takes middle more after → Holds P held' before after
Holds-handed {P} {held} {before} {middle} more held' after h e t = record {
  written = h.written ++ more;
  taken = takes_then before middle after h.written more h.taken t;
  text = rw (append_assoc, ← e) h.text;
}

-- or all of it
pub Holds-out : {P : List ℕ → Type 0} {held : List ℕ} {before middle : Option (List ℕ)} (after : Option (List ℕ)) → Holds P held before middle →
    Takes middle held after → TakesA P before after
Holds-out {P} {held} {before} {middle} after h t = (h.written ++ held, h.text, takes_then before middle after h.written held h.taken t)
