use Rattle.std.proofs.Common.{◌≡◌, ℕ, List, Option, Some, None, MatchOption, Bor, ◌∷◌, subst, ap, ◌∙◌}
use Rattle.std.proofs.lemmas.Str.{chars-nil}
use Rattle.std.specs.List.{filter}
use Rattle.std.specs.Str.{chars}
use Rattle.phone_chars.specs.Characters.{same_fold}
use Rattle.phone_parts.specs.Suffixes.{IsAnnounced, indicators}
use Rattle.phone_parts.specs.Texts.{begins}
use Rattle.phone_parts.proofs.FirstLetters.{announced_from, announced_kept}
use Rattle.phone_parts.proofs.Starts.{not_announced_nil}
use Rattle.phone_parts.proofs.suffix.announced_digits.Goals as goal

pub returns-in_err-c-clause-read : goal.returns-in_err-c-clause-read
returns-in_err-c-clause-read c =
    rw c.from_residual.ensures (λ d h. not_announced_nil d (subst (λ t. IsAnnounced indicators t d) (ap chars c.in_err-c.ensures.cut ∙ chars-nil) h))

-- what is found after one of the words that begin so, is found after one of all
found : (x : ℕ) (text rest : List ℕ) → text ≡ x ∷ rest → (o : Option (Bor (List ℕ))) →
    MatchOption o ((d : List ℕ) → ¬ (IsAnnounced (filter (λ w. begins (same_fold x) w) indicators) text d)) (λ d. IsAnnounced (filter (λ w. begins (same_fold x) w) indicators) text (chars d.now)) →
    MatchOption o ((d : List ℕ) → ¬ (IsAnnounced indicators text d)) (λ d. IsAnnounced indicators text (chars d.now))
found x text rest e None h = λ d a. h d (announced_from x text rest d e a)
found x text rest e (Some d) h = announced_kept (λ w. begins (same_fold x) w) indicators text (chars d.now) h

pub returns-clause-read : goal.returns-clause-read
returns-clause-read c =
    let text = chars c.args.text.now in
    let result = c.after_some_word.result in
    found c.in_ok-c.c text _ c.in_ok-c.ensures.read result
    (subst (λ ws. MatchOption result ((d : List ℕ) → ¬ (IsAnnounced ws text d)) (λ d. IsAnnounced ws text (chars d.now))) c.indicators_from.ensures c.after_some_word.ensures.read)
