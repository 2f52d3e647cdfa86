use Rattle.std.proofs.Common.{◌∷◌, [], List, ℕ, Option, Some, None, MatchOption, Bor, IsUtf8, rules, arith}
use Rattle.std.specs.Str.{chars}
use Rattle.phone_parts.specs.Suffixes.{IsAnnounced, IsEnding}
use Rattle.phone_parts.proofs.Endings.{after_announced, announced_of, not_announced}
use Rattle.phone_parts.proofs.Slices.{within}
use Rattle.phone_parts.proofs.suffix.after_word.Goals as goal

pub returns-clause-read : goal.returns-clause-read
returns-clause-read c = at c.ending.result c.ending.ensures.read
  where
    at : (o : Option (Bor (List ℕ))) → MatchOption o ((d : List ℕ) → ¬ (IsEnding (chars c.in_ok-rest.rest.now) d)) (λ d. IsEnding (chars c.in_ok-rest.rest.now) (chars d.now)) →
        MatchOption o ((d : List ℕ) → ¬ (IsAnnounced (chars c.args.word.now ∷ []) (chars c.args.text.now) d)) (λ d. IsAnnounced (chars c.args.word.now ∷ []) (chars c.args.text.now) (chars d.now))
    at None h = λ d a. h d (after_announced _ _ _ d c.in_ok-rest.ensures.read a)
    at (Some d) h = announced_of _ _ _ _ c.in_ok-rest.ensures.read h

pub returns-in_err-rest-clause-read : goal.returns-in_err-rest-clause-read
returns-in_err-rest-clause-read c = rw c.from_residual.ensures (λ d a. not_announced _ _ d c.in_err-rest.ensures.read a)

pub returns-clause-slice : goal.returns-clause-slice
returns-clause-slice c =
    let e = c.in_ok-rest.ensures.end in
    within c.args.text.now e.0 c.in_ok-rest.rest.now e.1 c.ending.result c.ending.ensures.slice

pub returns-then-rest-limit-clause-read : goal.returns-then-rest-limit-clause-read
returns-then-rest-limit-clause-read c = λ d a.
    let e = c.in_ok-rest.ensures.end in
    let is_text : IsUtf8 c.in_ok-rest.rest.now = search rules in
    let le = (c.requires e.0 c.in_ok-rest.rest.now e.1 is_text).0 (d, after_announced _ _ _ d c.in_ok-rest.ensures.read a) in
    absurd (omega (arith, le, c.if-rest-limit.true))
