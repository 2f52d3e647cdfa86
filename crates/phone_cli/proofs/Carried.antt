-- Answers to inputs, told by a part of what is kept.
use Rattle.std.proofs.Common.{◌≡◌, ◌⊎◌, ⊎_elim, inl, inr, ℕ, List, Option, None, Some, Result, Ok}
use Rattle.std.proofs.Common.{Err, ap, refl, subst, sym, ◌∙◌}
use Rattle.std.specs.Prelude.{Bool, ⊤, false, is_none, is_some, not, true}
use Rattle.phone_commands.specs.EncodedJobs.{ActsIn, ActsOn, ActsUnmarked, Asked, as_text}
use Rattle.phone_commands.specs.EncodedJobs.ActsUnmarked.{answered, unread, utf_16}
use Rattle.phone_commands.specs.Inputs.{AreAnswered, InputsEnd, IsAnswered, Name}
use Rattle.phone_commands.specs.Inputs.{failed_in}
use Rattle.phone_commands.specs.Inputs.AreAnswered.{next, none}
use Rattle.phone_commands.specs.Inputs.InputsEnd.{failed, whole}
use Rattle.phone_commands.specs.Inputs.IsAnswered.{file, standard, unopened}
use Rattle.phone_commands.specs.Jobs.{TakesLines, ended}
use Rattle.phone_commands.specs.declared.inputs.Failure.{Failure}
use Rattle.phone_commands.specs.declared.jobs.JobError.{JobError}
use Rattle.phone_encodings.specs.declared.encoding.Encoding.{Encoding}
use Rattle.phone_lines.specs.Ends.{Devices}
use Rattle.phone_lines.specs.Lines.{without_return}
use Rattle.phone_lines.specs.Taken as taken
use Rattle.phone_lines.specs.Taken.{AreTaken}
use Rattle.phone_lines.specs.Taken.AreTaken.{begun as taken_begun, next as taken_next}
use Rattle.phone_lines.specs.TakenEnds.{EndsBy}
use Rattle.phone_lines.specs.TakenEnds.EndsBy.{input_failed, no_memory, output_failed}
use Rattle.phone_lines.specs.TakenEnds.EndsBy.{whole as taken_whole}
use Rattle.phone_lines.specs.declared.blocks.RunError.{RunError}
use Rattle.phone_lines.specs.declared.blocks.RunError.TheVariants as lines
use Rattle.phone_cli.specs.Commands.{AnswersInputs}
use Rattle.phone_cli.specs.Commands.AnswersInputs.{named, standard as of_standard}

-- inputs that are answered are so by a part of what is kept, where each input is, as long as
-- something holds of what is kept that an input leaves
module _ {A B : Type 0} (acts : A → Devices → Devices → A → Result ⊤ JobError → Type 0)
    (parts : B → Devices → Devices → B → Result ⊤ JobError → Type 0) (part : A → B)
    (holds : A → Type 0)
    (step : (a : A) (before after : Devices) (b : A) (end : Result ⊤ JobError) → holds a →
    acts a before after b end → parts (part a) before after (part b) end ×
    (end ≡ Ok tt → holds b)) where
  one : (name : Name) (a : A) (before after : Devices) (b : A) (end : Result ⊤ Failure) →
      holds a → IsAnswered acts name a before after b end →
      IsAnswered parts name (part a) before after (part b) end
  one name a before after b _ h (standard end is act) =
      standard end is (step a before after b end h act).0
  one name a before after b _ h (file end faults not act same faulted) =
      file end faults not (step a _ _ b end h act).0 same faulted
  one name a before after b _ h (unopened not same kept) = unopened not same (ap part kept)

  ended_well : (name : Name) (end : Result ⊤ JobError) → failed_in name end ≡ Ok tt → end ≡ Ok tt
  ended_well name (Ok done) e = refl
  ended_well name (Err error) e = absurd (cc)

  holds_after : (name : Name) (a : A) (before after : Devices) (b : A) (end : Result ⊤ Failure) →
      holds a → IsAnswered acts name a before after b end → end ≡ Ok tt → holds b
  holds_after name a before after b _ h (standard end is act) e =
      (step a before after b end h act).1 (ended_well name end e)
  holds_after name a before after b _ h (file end faults not act same faulted) e =
      (step a _ _ b end h act).1 (ended_well name end e)
  holds_after name a before after b _ h (unopened not same kept) e = absurd (cc)

  all : (a : A) (before : Devices) (names : List Name) (after : Devices) (b : A) → holds a →
      AreAnswered acts a before names after b →
      AreAnswered parts (part a) before names after (part b) × holds b
  all a before _ _ _ h none = (none, h)
  all a before _ _ _ h (next names between kept name after last front is) =
      let f = all a before names between kept h front in (
        next names between (part kept) name after (part last) f.0
            (one name kept between after last (Ok tt) f.1 is),
        holds_after name kept between after last (Ok tt) f.1 is refl,
      )

  ends : (names : List Name) (a : A) (before after : Devices) (b : A) (end : Result ⊤ Failure) →
      holds a → InputsEnd acts names a before after b end →
      InputsEnd parts names (part a) before after (part b) end
  ends names a before after b _ h (whole are) = whole (all a before names after b h are).0
  ends names a before after b _ h (failed front rest name between kept failure e are is) =
      let f = all a before front between kept h are in
      failed front rest name between (part kept) failure e f.0
      (one name kept between after b (Err failure) f.1 is)

  pub answers_by : (names : List Name) (a : A) (before after : Devices) (b : A)
      (end : Result ⊤ Failure) → holds a → AnswersInputs acts names a before after b end →
      AnswersInputs parts names (part a) before after (part b) end
  answers_by names a before after b end h (of_standard name empty is act) =
      of_standard name empty is (one name a before after b end h act)
  answers_by names a before after b end h (named some act) =
      named some (ends names a before after b end h act)

  -- so are those that don't begin with the mark of UTF-16
  unmarked : (a : A) (before after : Devices) (b : A) (end : Result ⊤ JobError) → holds a →
      ActsUnmarked acts a before after b end →
      ActsUnmarked parts (part a) before after (part b) end × (end ≡ Ok tt → holds b)
  unmarked a before after b _ h (answered end clear act) =
      let s = step a before after b end h act in (answered end clear s.0, s.1)
  unmarked a before after b _ h (utf_16 mark same kept) =
      (utf_16 mark same (ap part kept), λ e. absurd (cc))
  unmarked a before after b _ h (unread fault kept) =
      (unread fault (ap part kept), λ e. absurd (cc))

  -- and those in an encoding
  encoded : (e : Option Encoding) (a : A) (before after : Devices) (b : A)
      (end : Result ⊤ JobError) → holds a → ActsIn e acts a before after b end →
      ActsIn e parts (part a) before after (part b) end × (end ≡ Ok tt → holds b)
  encoded None a before after b end h act = unmarked a before after b end h act
  encoded (Some e) a before after b end h act =
      let s = step a (as_text e before)
      (record after { to_come = act.0; source_faults = act.1 }) b end h act.2 in
      ((act.0, act.1, s.0), s.1)

-- the same of inputs in an encoding
module _ {A B : Type 0} (acts : A → Devices → Devices → A → Result ⊤ JobError → Type 0)
    (parts : B → Devices → Devices → B → Result ⊤ JobError → Type 0) (part : A → B)
    (holds : A → Type 0)
    (step : (a : A) (before after : Devices) (b : A) (end : Result ⊤ JobError) → holds a →
    acts a before after b end → parts (part a) before after (part b) end ×
    (end ≡ Ok tt → holds b)) where
  pub answers_in : (e : Option Encoding) (names : List Name) (a : A) (before after : Devices)
      (b : A) (end : Result ⊤ Failure) → holds a →
      AnswersInputs (ActsIn e acts) names a before after b end →
      AnswersInputs (ActsIn e parts) names (part a) before after (part b) end
  answers_in e = answers_by (ActsIn e acts) (ActsIn e parts) part holds
      (encoded acts parts part holds step e)

-- what is asked where there is none
pub asks_by : (e : Option Encoding) (asks : Bool) → is_some e ≡ not asks → asks ≡ is_none e
asks_by None true h = refl
asks_by None false h = absurd (cc)
asks_by (Some e) false h = refl
asks_by (Some e) true h = absurd (cc)

-- inputs in an encoding, which are asked for the mark of UTF-16 where none is named
module _ {A B : Type 0} (named : A → Option Encoding) (own : A → B)
    (acts : B → Devices → Devices → B → Result ⊤ JobError → Type 0) where
  abbrev pub In : A → Devices → Devices → A → Result ⊤ JobError → Type 0
  In a before after b end = ActsOn (named a) acts (own a) before after (own b) end ×
      (named b ≡ named a)

  one_in : (e : Option Encoding) (a : A) (before after : Devices) (b : A)
      (end : Result ⊤ JobError) → named a ≡ e → In a before after b end →
      ActsOn e acts (own a) before after (own b) end × (named b ≡ e)
  one_in e a before after b end h act = (
    subst (λ x. ActsOn x acts (own a) before after (own b) end) h act.0,
    act.1 ∙ h,
  )

  asked_in : (e : Option Encoding) (a : A) (before after : Devices) (b : A)
      (end : Result ⊤ JobError) → named a ≡ e →
      Asked (is_none e) In a before after b end →
      ActsIn e acts (own a) before after (own b) end × (end ≡ Ok tt → named b ≡ e)
  asked_in None a before after b _ h (answered end clear act) =
      let s = one_in None a before after b end h act in (answered end clear s.0, λ _. s.1)
  asked_in None a before after b _ h (utf_16 mark same kept) =
      (utf_16 mark same (ap own kept), λ e. absurd (cc))
  asked_in None a before after b _ h (unread fault kept) =
      (unread fault (ap own kept), λ e. absurd (cc))
  asked_in (Some e) a before after b end h act =
      let s = one_in (Some e) a before after b end h act in (s.0, λ _. s.1)

  pub answers_asked : (e : Option Encoding) (names : List Name) (a : A) (before after : Devices)
      (b : A) (end : Result ⊤ Failure) → named a ≡ e →
      AnswersInputs (Asked (is_none e) In) names a before after b end →
      AnswersInputs (ActsIn e acts) names (own a) before after (own b) end
  answers_asked e names a before after b end h =
      answers_by (Asked (is_none e) In) (ActsIn e acts) own (λ k. named k ≡ e) (asked_in e)
      names a before after b end h

-- lines that are taken are so by a part of what is kept, where each line is, as long as something
-- holds of what is kept that a line leaves
module _ {A B : Type 0} (begins : A → List ℕ → A → Type 0)
    (gives : A → List ℕ → List ℕ → A → Type 0) (part_begins : B → List ℕ → B → Type 0)
    (part_gives : B → List ℕ → List ℕ → B → Type 0) (part : A → B) (holds : A → Type 0)
    (begun : (a : A) (head : List ℕ) (b : A) → holds a → begins a head b →
    part_begins (part a) head (part b) × holds b)
    (given : (a : A) (line answer : List ℕ) (b : A) → holds a → gives a line answer b →
    part_gives (part a) line answer (part b) × holds b) where
  lines_taken : (a : A) (lines : List (List ℕ)) (text : List ℕ) (b : A) → holds a →
      AreTaken begins gives a lines text b →
      AreTaken part_begins part_gives (part a) lines text (part b) × holds b
  lines_taken a _ _ _ h (taken_begun head kept is) =
      let s = begun a head kept h is in (taken_begun head (part kept) s.0, s.1)
  lines_taken a _ _ _ h (taken_next lines answers kept line answer last are is) =
      let f = lines_taken a lines answers kept h are in
      let s = given kept (without_return line) answer last f.1 is in (
        taken_next lines answers (part kept) line answer (part last) f.0 s.0,
        s.1,
      )

  some_taken : (a : A) (lines : List (List ℕ)) (text : List ℕ) → holds a →
      taken.AreAnswered begins gives a lines text →
      taken.AreAnswered part_begins part_gives (part a) lines text
  some_taken a lines text h which =
      ⊎_elim (λ e. inl e) (λ s. inr (part s.0, (lines_taken a lines text s.0 h s.1).0)) which

  end_by : (a : A) (before after : Devices) (b : A) (end : Result ⊤ RunError) → holds a →
      EndsBy begins gives a before after b end →
      EndsBy part_begins part_gives (part a) before after (part b) end ×
      (end ≡ Ok tt → holds b)
  end_by a before after b _ h (taken_whole w) =
      let r = lines_taken a w.report.1.0 w.report.0 b h w.report.1.2 in (
        taken_whole record {
          bytes = w.bytes;
          read = w.read;
          end = w.end;
          report = (w.report.0, (w.report.1.0, w.report.1.1, r.0), w.report.2);
          handed_on = w.handed_on;
          no_source_fault = w.no_source_fault;
          no_sink_fault = w.no_sink_fault;
        },
        λ _. r.1,
      )
  end_by a before after b _ h (input_failed w) =
      let r = w.report.1 in (
        input_failed record {
          bytes = w.bytes;
          read = w.read;
          cause = w.cause;
          report = (
            w.report.0,
            (r.0, r.1, r.2, (lines_taken a r.0 w.report.0 b h r.3).0),
            w.report.2,
          );
          handed_on = w.handed_on;
          no_sink_fault = w.no_sink_fault;
        },
        λ e. absurd (cc),
      )
  end_by a before after b _ h (output_failed w) =
      let r = w.beginning.1 in (
        output_failed record {
          bytes = w.bytes;
          read = w.read;
          beginning = (
            w.beginning.0,
            (r.0, r.1, r.2, some_taken a r.0 w.beginning.0 h r.3),
            w.beginning.2,
          );
          sink_fault = w.sink_fault;
        },
        λ e. absurd (cc),
      )
  end_by a before after b _ h (no_memory w) =
      let r = w.report.1 in (
        no_memory record {
          bytes = w.bytes;
          read = w.read;
          report = (
            w.report.0,
            (r.0, r.1, r.2, r.3, some_taken a r.0 w.report.0 h r.4),
            w.report.2,
          );
          handed_on = w.handed_on;
          no_source_fault = w.no_source_fault;
          no_sink_fault = w.no_sink_fault;
        },
        λ e. absurd (cc),
      )

  went_well : (end : Result ⊤ RunError) → ended end ≡ Ok tt → end ≡ Ok tt
  went_well (Ok done) e = refl
  went_well (Err lines.Input) e = absurd (cc)
  went_well (Err lines.Output) e = absurd (cc)
  went_well (Err lines.Memory) e = absurd (cc)

  pub lines_by : (a : A) (before after : Devices) (b : A) (end : Result ⊤ JobError) → holds a →
      TakesLines begins gives a before after b end →
      TakesLines part_begins part_gives (part a) before after (part b) end ×
      (end ≡ Ok tt → holds b)
  lines_by a before after b end h (run, is, e) =
      let s = end_by a before after b run h is in
      ((run, s.0, e), λ well. s.1 (went_well run (sym e ∙ well)))
