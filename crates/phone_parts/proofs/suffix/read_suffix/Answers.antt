use Rattle.std.proofs.Common.{ℕ, List, Bor, Option, None, Some, MatchOption, true≢false, sym, ◌∙◌}
use Rattle.std.specs.Str.{chars}
use Rattle.phone_parts.specs.Suffixes.{IsSuffix, IsSomeSuffix, IsParameter, IsIndicated, IsNumberSigned}
use Rattle.phone_parts.specs.declared.suffix.Form.{Form}
use Rattle.phone_parts.specs.declared.suffix.Form.TheVariants.{Parameter, Indicated, NumberSign}
use Rattle.phone_parts.proofs.Starts.{suffix_begins}
use Rattle.phone_parts.proofs.suffix.read_suffix.Goals as goal

pub returns-then-not-begins_suffix-clause-read : goal.returns-then-not-begins_suffix-clause-read
returns-then-not-begins_suffix-clause-read c = λ f d h.
    true≢false (sym (suffix_begins (chars c.args.text.now) f d h) ∙ sym c.begins_suffix.ensures ∙ c.if-not-begins_suffix.true)

pub returns-in-Some-indicated_unless-clause-read : goal.returns-in-Some-indicated_unless-clause-read
returns-in-Some-indicated_unless-clause-read c = (Indicated, c.in-Some-indicated_unless.ensures.read)

-- a text of neither of the first two forms is an extension only by its number sign
number_sign_left : (text : List ℕ) (found : Option (Bor (List ℕ))) →
    ((d : List ℕ) → ¬ (IsParameter text d)) → ((d : List ℕ) → ¬ (IsIndicated text d)) →
    MatchOption found ((d : List ℕ) → ¬ (IsNumberSigned text d))
    (λ d. IsNumberSigned text (chars d.now)) →
    MatchOption found ((f : Form) (d : List ℕ) → ¬ (IsSuffix text f d))
    (λ d. IsSomeSuffix text (chars d.now))
number_sign_left text (Some digits) parameter indicated h = (NumberSign, h)
number_sign_left text None parameter indicated h = none
  where
    none : (f : Form) (d : List ℕ) → ¬ (IsSuffix text f d)
    none Parameter d k = parameter d k
    none Indicated d k = indicated d k
    none NumberSign d k = h d k

pub returns-clause-read : goal.returns-clause-read
returns-clause-read c =
    number_sign_left (chars c.args.text.now) c.number_signed.result c.in_default.ensures.read
    c.in_default-indicated_unless.ensures.read c.number_signed.ensures.read
