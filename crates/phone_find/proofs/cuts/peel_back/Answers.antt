use Rattle.std.proofs.Common.{◌∙◌, ap, reverse, ◌∷◌, []}
use Rattle.std.proofs.lemmas.List.{reverse-append}
use Rattle.std.proofs.lemmas.Str.{chars-nil}
use Rattle.std.specs.Str.{chars}
use Rattle.phone_find.proofs.cuts.peel_back.Goals as goal

pub returns-in-Some-clause-read : goal.returns-in-Some-clause-read
returns-in-Some-clause-read c =
    ap reverse c.in-Some.ensures.read ∙ reverse-append (chars c.in-Some.rest.now) (c.in-Some.c ∷ [])

pub returns-in-None-clause-read : goal.returns-in-None-clause-read
returns-in-None-clause-read c = ap (λ t. reverse (chars t)) c.in-None.ensures.cut ∙ ap reverse chars-nil
