-- The records of a text are those that the kit reads it as.
use Rattle.std.proofs.Common.{◌≡◌, Bool, Some, None, ℕ, List, [], ◌∷◌, ◌++◌, true, false, refl, ap, ◌∙◌}
use Rattle.std.proofs.lemmas.List.{append-nil}
use Rattle.csv.specs.Machine.{Read, ends_at_end, next_record}
use Rattle.csv.specs.Reading.{AreRecords, Reached, records_next}
use Rattle.csv.specs.declared.parser.Config.{Config}
use Rattle.csv.specs.declared.parser.State.{State}
use Rattle.csv.specs.declared.parser.State.TheVariants as st
use Rattle.phone_csv.specs.Formats.{Record, reading}
use Rattle.phone_csv.specs.Records.{AreCut}
use Rattle.phone_csv.specs.Records.AreCut.{none, next}
use Rattle.phone_csv.specs.RecordReports.{AreAll}
use Rattle.phone_csv.proofs.Progress.{feeds_rest, feeds_then}

-- the records that are ended are reached
reached : (d : ℕ) (start state : State) (bytes rest : List ℕ) (records : List Record) → AreCut d start bytes records state rest →
    Reached (reading d) start bytes records state rest
unfolding Reached
reached d start state bytes rest records (none s r) = (refl, refl)
reached d start state bytes rest records (next b m a part more r fields others is cut) = (
  (fields, m, more),
  feeds_then (reading d) start m [] fields [] is.0 part more true is.1,
  refl,
  reached d m state more rest others cut,
)

-- and one more
reached-then : (cfg : Config) (s s2 : State) (xs ys : List ℕ) (rs : List Record) (p : Read) → Reached cfg s xs rs s2 ys → next_record cfg s2 [] [] ys ≡ Some p →
    Reached cfg s xs (rs ++ p.0 ∷ []) p.1 p.2
unfolding Reached
reached-then cfg s s2 xs ys [] p h e = (p, rw (h.0, h.1) e, refl, (refl, refl))
reached-then cfg s s2 xs ys (r ∷ rs) p h e = (h.0, h.1, h.2, reached-then cfg h.0.1 s2 h.0.2 ys rs p h.3 e)

-- what the end of a text leaves
at_end : (cfg : Config) (s : State) (f : Record) (p : List ℕ) → ends_at_end s ≡ true → next_record cfg s f p [] ≡ Some (f ++ p ∷ [], st.StartRecord, [])
unfolding next_record
at_end cfg s f p e = rw e refl

at_no_end : (cfg : Config) (s : State) (f : Record) (p : List ℕ) → ends_at_end s ≡ false → next_record cfg s f p [] ≡ None
unfolding next_record
at_no_end cfg s f p e = rw e refl

pub AreAll-records : (d : ℕ) (start : State) (bytes : List ℕ) (all : List Record) → AreAll d start bytes all → AreRecords (reading d) start bytes all
AreAll-records d start bytes all (records, state, rest, cut, (after, fields, field, fed, closed), is) = by (ends_at_end after) refl
  where
    on : next_record (reading d) state [] [] rest ≡ next_record (reading d) after fields field []
    on = feeds_rest (reading d) state after [] fields [] field rest fed

    by : (b : Bool) → ends_at_end after ≡ b → AreRecords (reading d) start bytes all
    by true e =
        let some = on ∙ at_end (reading d) after fields field e in
        let all_is = is ∙ ap (λ r. records ++ records_next (λ _ _. []) r) some in (
          st.StartRecord,
          [],
          rw all_is (reached-then (reading d) start state bytes rest records (fields ++ field ∷ [], st.StartRecord, []) (reached d start state bytes rest records cut) some),
          at_no_end (reading d) st.StartRecord [] [] refl,
        )
    by false e =
        let gone = on ∙ at_no_end (reading d) after fields field e in
        let all_is = is ∙ ap (λ r. records ++ records_next (λ _ _. []) r) gone ∙ append-nil records in
        (state, rest, rw all_is (reached d start state bytes rest records cut), gone)
