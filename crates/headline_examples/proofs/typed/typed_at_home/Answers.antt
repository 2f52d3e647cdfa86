use Rattle.std.proofs.Common.{◌≡◌, ◌++◌, ◌||◌, [], ℕ, List, filter, None, codes, refl, ap, ◌∙◌}
use Rattle.std.specs.Fmt.{digits}
use Rattle.phone_values.specs.Ids.{name}
use Rattle.phone_read.specs.Strips.{step}
use Rattle.phone_typed.specs.Keys.{is_key, shows}
use Rattle.phone_typed.specs.Printed.{national_keys}
use Rattle.phone_typed.specs.Typed.{is_short}
use Rattle.phone_values.specs.declared.mode.Mode.TheVariants.{National}
use Rattle.phone_print.specs.Texts.{laid_out}
use Rattle.headline_examples.proofs.Laid.{halves_whole, spaced_laid}
use Rattle.headline_examples.specs.Samples.{am_by_anexo, layout, number}
use Rattle.headline_examples.proofs.typed.typed_at_home.Goals as goal

-- the national layout is the international one
laid_is : laid_out am_by_anexo National None (number 374 0 123456 None) ≡ codes "123 456"
laid_is = spaced_laid (codes "AM") 374 (codes " anexo ") None

keys_are : national_keys am_by_anexo (number 374 0 123456 None) ≡ codes "123456"
keys_are = ap (λ (t : List ℕ). filter is_key (t ++ [])) laid_is

pub returns : goal.returns
unfolding digits name
returns c = record {
  territory = refl;
  first_key = 49;
  other_keys = codes "23456";
  keys = keys_are;
  no_sign = refl;
  left = ap (λ (ks : List ℕ). (step am_by_anexo ks None).national) keys_are;
  plain = record {
    no_extension = refl;
    no_carrier = refl;
    layout = layout (codes "(\\d{3})(\\d{3})") (codes "$1 $2");
    first = refl;
    whole = halves_whole;
    shown = ap (shows (national_keys am_by_anexo (number 374 0 123456 None))) laid_is
        ∙ ap (λ (ks : List ℕ). shows ks (codes "123 456")) keys_are;
    long_enough = ap (λ (ks : List ℕ). is_short (codes "123456") || is_short ks) keys_are;
  };
}
