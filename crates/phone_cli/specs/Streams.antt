-- The streams of the program, as its contracts see them.
use Rattle.std.specs.Prelude.{◌≡◌, ℕ, ◌+◌, List, [], ◌∷◌, ◌++◌, Option, codes, flat_map, ⊤}
use Rattle.std.specs.Prelude.{MatchResult, Result}
use Rattle.phone_device.specs.Passing.{Takes, TakesFront, untold}
use Rattle.phone_engine.specs.Programs.{IsTold}
use Rattle.phone_lines.specs.Ends.{Devices}
use Rattle.phone_words.specs.Rows.{Lent}

-- the source and the sink of the program, the bytes that its sink for errors took, where that tells
-- them, and how often this has failed
pub record Streams : Type 0 where
  pub devices : Devices
  pub told : Option (List ℕ)
  pub told_faults : ℕ

-- the streams as a contract sees them
abbrev pub streams : Devices → Option (List ℕ) → ℕ → Streams
streams devices told told_faults = record {
  devices = devices;
  told = told;
  told_faults = told_faults;
}

-- some texts, one after the other
abbrev pub joined : List Lent → List ℕ
joined texts = flat_map (λ (t : Lent). t.now) texts

-- the line that the program tells by a text: its name, the text and a line feed
abbrev pub line_of : List ℕ → List ℕ
line_of text = codes "phone: " ++ (text ++ 10 ∷ [])

-- of some text a line was told, as `IsTold` has it
abbrev pub IsSomeTold : Option (List ℕ) → ℕ → Option (List ℕ) → ℕ → Type 0
IsSomeTold taken faults taken_then faults_then =
    (text : List ℕ) × IsTold taken faults (line_of text) taken_then faults_then

-- of this text a line was told: the sink for errors took it whole, or failed once and took a
-- beginning of it
abbrev pub Says : List ℕ → Streams → Streams → Type 0
Says text before after =
    IsTold before.told before.told_faults (line_of text) after.told after.told_faults

-- how the writing of bytes ends, by the bytes that the sink took and how often it failed, before
-- and after: all were taken, without a failure; or the sink failed once, and took a beginning of
-- them
abbrev pub Writes : {E : Type 0} → List ℕ → Option (List ℕ) → ℕ → Option (List ℕ) → ℕ →
    Result ⊤ E → Type 0
Writes bytes taken faults taken_then faults_then end = MatchResult end
    (λ _. Takes taken bytes taken_then × (faults_then ≡ faults))
    (λ _. TakesFront taken bytes taken_then × (faults_then ≡ faults + 1))

-- nothing was read and nothing written
abbrev pub IsIdle : Streams → Streams → Type 0
IsIdle before after = after.devices ≡ before.devices

-- nothing was read and nothing written, and of this text a line was told
pub record Refuses (text : List ℕ) (before after : Streams) : Type 0 where
  pub idle : IsIdle before after
  pub said : Says text before after

-- the same of some text
abbrev pub RefusesBySome : Streams → Streams → Type 0
RefusesBySome before after = (text : List ℕ) × Refuses text before after

-- these devices, but that the sink is a file, which tells nothing of its bytes, has failed so
-- often, and has so many writes that no flush has handed on
abbrev pub into_file : Devices → ℕ → ℕ → Devices
into_file d faults unflushed = record {
  to_come = d.to_come;
  source_faults = d.source_faults;
  taken = untold;
  sink_faults = faults;
  unflushed = unflushed;
}

-- a sink has taken these devices' bytes, has failed as often, and holds back as many writes
pub record IsSinkKept (before after : Devices) : Type 0 where
  pub taken : after.taken ≡ before.taken
  pub faults : after.sink_faults ≡ before.sink_faults
  pub unflushed : after.unflushed ≡ before.unflushed
