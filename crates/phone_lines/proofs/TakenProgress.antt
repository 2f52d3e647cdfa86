-- How far a run over lines is that are taken in their turn, after some more bytes, or once it stops.
use Rattle.std.proofs.Common.{◌≡◌, ◌==◌, inl, inr, ℕ, false, length, List, [], ◌∷◌, ◌++◌, Option, refl, sym, ap, ◌∙◌, append_assoc}
use Rattle.std.proofs.lemmas.List.{append-nil}
use Rattle.phone_device.specs.Passing.{Holds, IsAtEnd, TakesFront}
use Rattle.phone_device.proofs.PassingLemmas.{TakenSoFar-all, TakenSoFar-nothing}
use Rattle.phone_lines.specs.Lines.{IsUnbroken, last_line, without_return}
use Rattle.phone_lines.specs.Taken.{AreTaken, Begins, BreaksOff, Gives, IsReport, IsReportOnFirst, IsReportSoFar}
use Rattle.phone_lines.specs.Taken.AreTaken.{begun, next}
use Rattle.phone_lines.specs.Runs.{IsTakenSoFar, Stands}
use Rattle.phone_lines.proofs.CutLemmas.{AreCut-ended, AreCut-lengthened, AreCut-nothing, AreCut-then, cut_of}
use Rattle.phone_lines.proofs.Progress.{takes_then}

one_line : (line : List ℕ) → (length line == 0) ≡ false → last_line line ≡ line ∷ []
one_line [] some = absurd (cc)
one_line (c ∷ cs) some = refl

module _ {Kept : Type 0} (begins : Begins Kept) (gives : Gives Kept) (first : Kept) where
  -- bytes without a line feed
  pub IsTakenSoFar-lengthened : (bytes line : List ℕ) (kept : Kept) (answers more : List ℕ) → IsTakenSoFar begins gives first bytes line kept answers →
      IsUnbroken more → IsTakenSoFar begins gives first (bytes ++ more) (line ++ more) kept answers
  IsTakenSoFar-lengthened bytes line kept answers more s unbroken =
      record { lines = s.lines; cut = AreCut-lengthened bytes s.lines line more s.cut unbroken; taken = s.taken }

  taken_too : (lines : List (List ℕ)) (written held line answer : List ℕ) (kept last : Kept) → AreTaken begins gives first lines (written ++ held) kept →
      gives kept (without_return line) answer last → AreTaken begins gives first (lines ++ line ∷ []) (written ++ (held ++ answer)) last
  taken_too lines written held line answer kept last are given =
      rw (← append_assoc written held answer) (next lines (written ++ held) kept line answer last are given)

  -- the rest of a line, a line feed, and the answer to the line
  pub IsTakenSoFar-line : (bytes line rest written held answer : List ℕ) (kept last : Kept) →
      IsTakenSoFar begins gives first bytes line kept (written ++ held) → IsUnbroken rest → gives kept (without_return (line ++ rest)) answer last →
      IsTakenSoFar begins gives first (bytes ++ (rest ++ 10 ∷ [])) [] last (written ++ (held ++ answer))
  IsTakenSoFar-line bytes line rest written held answer kept last s unbroken given = record {
    lines = s.lines ++ (line ++ rest) ∷ [];
    cut = rw (← append_assoc bytes rest (10 ∷ []))
        (AreCut-ended (bytes ++ rest) s.lines (line ++ rest) 10 (AreCut-lengthened bytes s.lines line rest s.cut unbroken) refl);
    taken = taken_too s.lines written held (line ++ rest) answer kept last s.taken given;
  }

  -- what stands after the last line feed is a line where it has a byte, and was answered
  pub IsTakenSoFar-last : (bytes line written held answer : List ℕ) (kept last : Kept) → (length line == 0) ≡ false →
      gives kept (without_return line) answer last → IsTakenSoFar begins gives first bytes line kept (written ++ held) →
      IsReport begins gives first bytes last (written ++ (held ++ answer))
  IsTakenSoFar-last bytes line written held answer kept last some given s =
      (s.lines ++ line ∷ [], (s.lines, line, s.cut, rw (one_line line some)), taken_too s.lines written held line answer kept last s.taken given)

  -- where a run stops before the rest of the bytes, what it has answered is the report on some first lines
  pub IsTakenSoFar-first : (bytes rest all line : List ℕ) (kept : Kept) (text : List ℕ) → bytes ++ rest ≡ all →
      IsTakenSoFar begins gives first bytes line kept text → IsReportOnFirst begins gives first all text
  IsTakenSoFar-first bytes rest all line kept text e s =
      let c = cut_of (line ++ rest) in
      (s.lines, c.lines, c.last, rw (← e) (AreCut-then bytes rest s.lines c.lines line c.last s.cut c.are), inr (kept, s.taken))

  -- only what stands in front was told yet
  pub Stands-begun : (a : Option (List ℕ)) (head : List ℕ) (kept : Kept) → begins first head kept → Stands begins gives first [] [] kept head a a
  Stands-begun a head kept b = record {
    written = [];
    taken = TakenSoFar-all a a [] [] refl (TakenSoFar-nothing a []);
    text = record { lines = []; cut = AreCut-nothing; taken = begun head kept b };
  }

  -- not even that
  pub Holds-unbegun : (a : Option (List ℕ)) (held : List ℕ) → held ≡ [] → Holds (IsReportOnFirst begins gives first []) held a a
  Holds-unbegun a held none = record {
    written = [];
    taken = TakenSoFar-all a a [] [] refl (TakenSoFar-nothing a []);
    text = ([], [], [], AreCut-nothing, inl none);
  }

  -- the report on the lines that a line feed ends, or on all, is one on some first lines
  pub IsReportOnFirst-so_far : (to_come : Option (List ℕ)) (bytes text : List ℕ) → IsReportOnFirst begins gives first bytes text →
      IsReportSoFar begins gives first to_come bytes text
  IsReportOnFirst-so_far to_come bytes text (some, others, piece, cut, are) = (some, others, (some ++ others, piece, cut, inl refl), are)

  pub IsReport-so_far : (to_come : Option (List ℕ)) (bytes : List ℕ) (last : Kept) (text : List ℕ) → IsAtEnd to_come →
      IsReport begins gives first bytes last text → IsReportSoFar begins gives first to_come bytes text
  IsReport-so_far to_come bytes last text end (lines, (front, piece, cut, all), are) =
      (lines, [], (front, piece, cut, inr (end, append-nil lines ∙ all)), inr (last, are))

  -- the sink took a beginning of what was held back, and failed then
  pub Holds-breaks : {P : List ℕ → Type 0} {held : List ℕ} {before middle after : Option (List ℕ)} (to_come : Option (List ℕ)) (bytes : List ℕ) →
      ((text : List ℕ) → P text → IsReportSoFar begins gives first to_come bytes text) → Holds P held before middle → TakesFront middle held after →
      BreaksOff begins gives first to_come bytes before after
  Holds-breaks {P} {held} {before} {middle} {after} to_come bytes on h f = (
    h.written ++ held,
    on (h.written ++ held) h.text,
    record {
      front = h.written ++ f.front;
      rest = f.rest;
      whole = ap (λ t. h.written ++ t) f.whole ∙ sym (append_assoc h.written f.front f.rest);
      taken = takes_then before middle after h.written f.front h.taken f.taken;
    },
  )
