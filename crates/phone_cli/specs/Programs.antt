-- What the program does by its words.
use Rattle.std.specs.Prelude.{ℕ, List, codes}
use Rattle.phone_words.specs.Calls.{IsCall, IsNoCall}
use Rattle.phone_words.specs.declared.call.Call.{Call}
use Rattle.phone_words.specs.declared.parts.WordError.{WordError}
use Rattle.phone_cli.specs.Answers.{Answers}
use Rattle.phone_cli.specs.Statuses.{status_of_words}
use Rattle.phone_cli.specs.Streams.{Refuses, RefusesBySome, Streams}

-- what the program does by its words, and its status: where they are no call, it reads and writes
-- nothing, tells that, and ends with 2; with 1 where there was no memory for them; else it does as
-- the call asks
pub data Acts (words : List (List ℕ)) (before after : Streams) (idle : Type 0) :
    ℕ → Type 0 where
  no_memory : idle → Refuses (codes "out of memory") before after →
      Acts words before after idle 1
  no_call : (e : WordError) → IsNoCall words e → idle → RefusesBySome before after →
      Acts words before after idle (status_of_words e.why)
  called : (c : Call) → (status : ℕ) → IsCall words c → Answers c before after status →
      Acts words before after idle status
