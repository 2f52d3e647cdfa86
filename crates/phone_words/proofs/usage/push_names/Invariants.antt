use Rattle.std.proofs.Common.{◌≡◌, ◌++◌, drop, string_bytes}
use Rattle.phone_words.specs.Help.{names_text}
use Rattle.phone_words.specs.Rows.{texts_of}
use Rattle.phone_words.proofs.usage.push_names.Given as goal

abbrev pub invariant-loop-name : goal.invariant-loop-name
invariant-loop-name l =
    string_bytes l.text ++ names_text (texts_of (drop l.name-index l.names)) ≡
    string_bytes l.initial.text ++ names_text (texts_of l.names)
