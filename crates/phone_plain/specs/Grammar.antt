-- The grammar of patterns under flag x, at places of a pattern whose groups have no name.
use Rattle.std.specs.Prelude.{ℕ, ◌+◌, true, List, None, replicate}
use Rattle.regex_syntax.specs.declared.Config.{Config}
use Rattle.regex_syntax.specs.Grammar.{Names, Place}
use Rattle.regex_syntax.specs.Verdict.{default_config}
use Rattle.phone_plain.specs.declared.cursor.Cursor.{Cursor}

-- the options of a pattern under flag x
abbrev pub verbose : Config
verbose = record default_config { flags = record default_config.flags { ignore_whitespace = true } }

-- the names of the match and of so many groups: none has one
abbrev pub unnamed : ℕ → Names
unnamed groups = replicate (groups + 1) None

-- after so many groups, with this text left
abbrev pub place_at : ℕ → List ℕ → Place
place_at groups text = record { config = verbose; names = unnamed groups; text = text }

-- where reading stands, in the grammar's words
abbrev pub place : Cursor → Place
place at = place_at at.groups at.rest.now
