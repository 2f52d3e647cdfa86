use Rattle.std.proofs.Common.{◌≡◌, ◌==◌, ℕ, List, [], ◌∷◌, None, eqb-true, refl, ap, sym, ◌∙◌, arith}
use Rattle.std.proofs.lemmas.Bool.{cond-false, false_from_ne_true}
use Rattle.std.proofs.lemmas.Str.Pattern.{strip_prefix_char}
use Rattle.phone_chars.specs.Cuts.{after_front}
use Rattle.phone_read.proofs.trims.without_zeros.Goals as goal

-- a text that doesn't begin with a zero keeps all of its front
no_zero : (text : List ℕ) → ((rest : List ℕ) → ¬ (text ≡ 48 ∷ rest)) → after_front (λ d. d == 48) text ≡ text
no_zero [] none = refl
no_zero (c ∷ cs) none = cond-false _ _ _ (false_from_ne_true (c == 48) (λ t. none cs (ap (λ x. x ∷ cs) (eqb-true c 48 t))))

pub returns : goal.returns
returns c =
    sym (c.loop-after.invariant.1 ∙ no_zero c.loop-after.rest.now (strip_prefix_char 48 c.loop-after.rest.now None c.in_default.ensures.cases (omega arith)))
