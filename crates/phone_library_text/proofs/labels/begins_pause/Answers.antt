use Rattle.std.proofs.Common.{sym, ap, ◌∙◌}
use Rattle.std.proofs.lemmas.Str.{chars-nil}
use Rattle.std.specs.Str.{chars}
use Rattle.phone_chars.specs.Characters.{is_one_of}
use Rattle.phone_library_text.specs.Announcements.{pauses}
use Rattle.phone_library_text.specs.Scans.{follows_some, pause_starts}
use Rattle.phone_library_text.proofs.Searches.{no_pause}
use Rattle.phone_library_text.proofs.labels.begins_pause.Goals as goal

pub returns-in_default : goal.returns-in_default
returns-in_default c = sym (ap (λ t. follows_some pauses (chars t)) c.in_default.ensures.cut ∙ ap (follows_some pauses) chars-nil)

pub returns-then-not-starts_pause : goal.returns-then-not-starts_pause
returns-then-not-starts_pause c =
    sym (ap (follows_some pauses) c.in-Some.ensures.read
    ∙ no_pause c.in-Some.c _ (ap (is_one_of pause_starts) (sym c.fold.ensures) ∙ sym c.starts_pause.ensures ∙ c.if-not-starts_pause.true))
