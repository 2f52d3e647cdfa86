use Rattle.std.proofs.Common.{◌≡◌, ℕ, ◌==◌, ◌&&◌, false, List, [], ◌∷◌, Some, None, refl, ap, sym, ◌∙◌}
use Rattle.std.proofs.lemmas.Str.{IsUtf8-past_char}
use Rattle.std.specs.Str.{chars}
use Rattle.std.specs.Str.Pattern.{FindsCharPrefix}
use Rattle.phone_chars.proofs.Trims.{after_front-trimmed}
use Rattle.phone_chars.specs.Characters.{is_one_of}
use Rattle.phone_chars.specs.Cuts.{after_front}
use Rattle.phone_parts.specs.Cores.{begins_second_number}
use Rattle.phone_parts.specs.Texts.{begins}
use Rattle.phone_parts.proofs.Patterns.{IsPastOne, FindsListed, one_char, one_listed, strip-begins}
use Rattle.phone_parts.proofs.helper.is_second_number.Goals as goal

slashes : List ℕ
slashes = 47 ∷ 92 ∷ []

pub returns-in-Some : goal.returns-in-Some
unfolding slashes
returns-in-Some c =
    let text = c.args.text.now in
    let after = c.in-Some.after.now in
    let one : IsPastOne (is_one_of slashes) text after =
    strip-begins (is_one_of slashes) (FindsListed slashes) (one_listed slashes) text (Some c.in-Some.after) c.utf8.text c.in-Some.ensures.cases in
    let rest = c.trim_start_matches.result.now in
    let unspaced : chars rest ≡ after_front (λ d. d == 32) (chars after) =
    (after_front-trimmed (λ d. d == 32) (FindsCharPrefix 32) (one_char 32) after rest (IsUtf8-past_char text after one.c c.utf8.text one.cut) c.trim_start_matches.ensures.matches).1 in
    c.begins_with.ensures ∙ ap (begins (λ d. d == 120)) unspaced
    ∙ sym (ap begins_second_number one.read ∙ ap (λ b. b && begins (λ d. d == 120) (after_front (λ d. d == 32) (chars after))) one.member)

pub returns-in-None : goal.returns-in-None
unfolding slashes
returns-in-None c =
    let text = c.args.text.now in
    sym (no_slash (chars text) (strip-begins (is_one_of slashes) (FindsListed slashes) (one_listed slashes) text None c.utf8.text c.in-None.ensures.cases))
  where
    no_slash : (cs : List ℕ) → begins (is_one_of slashes) cs ≡ false → begins_second_number cs ≡ false
    no_slash [] e = refl
    no_slash (x ∷ xs) e = ap (λ b. b && begins (λ d. d == 120) (after_front (λ d. d == 32) xs)) e
