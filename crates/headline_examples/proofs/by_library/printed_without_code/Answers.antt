use Rattle.std.proofs.Common.{◌≡◌, ◌≤◌, ◌++◌, [], ℕ, List, length, leb-true, ltb-true, IsUtf8}
use Rattle.std.proofs.Common.{None, codes, refl, ap, inl, sym, subst}
use Rattle.std.specs.Fmt.{digits}
use Rattle.std.specs.Str.{chars}
use Rattle.phone_values.specs.Ids.{name}
use Rattle.phone_values.specs.declared.mode.Mode.TheVariants.{National}
use Rattle.phone_library_text.specs.Written.{most_characters}
use Rattle.phone_print.specs.Texts.{laid_out_by}
use Rattle.phone_values.specs.declared.rules.Rules.{Rules}
use Rattle.phone_read.specs.Strips.{Stripped}
use Rattle.phonenumber.proofs.BackTexts.{IsUtf8-low}
use Rattle.phone_library_laws.specs.Layouts.{IsLaidOut, is_quiet}
use Rattle.phone_library_laws.specs.Plain.{IsDialledInside}
use Rattle.headline_examples.proofs.Kept.{stripped_kept}
use Rattle.headline_examples.proofs.Laid.{spaced_laid_by}
use Rattle.headline_examples.specs.Samples.{am_by_anexo, number}
use Rattle.headline_examples.proofs.by_library.printed_without_code.Goals as goal

-- the national layout is the international one
laid_is : (rules : Rules) → codes "123 456" ≡ laid_out_by rules am_by_anexo National None (number 374 0 123456 None)
laid_is rules = sym (spaced_laid_by rules (codes "AM") 374 (codes " anexo ") None)

quietly : IsLaidOut is_quiet (chars (codes "123 456")) (codes "123456")
unfolding chars
quietly = record { only = refl; same = refl; last = refl }

few : length (chars (codes "123 456" ++ [])) ≤ most_characters
unfolding chars
few = leb-true _ 250 refl

inside : IsDialledInside am_by_anexo (number 374 0 123456 None) (codes "123456")
unfolding digits
inside = record {
  code = refl;
  no_prefix = refl;
  no_code = refl;
  left = ap (λ (s : Stripped). s.national) (stripped_kept am_by_anexo (codes "123456") refl);
  held = (ltb-true _ _ refl, ltb-true _ _ refl);
  long_enough = leb-true 2 _ refl;
  short_enough = leb-true _ 17 refl;
}

pub returns : goal.returns
unfolding digits name
returns c = record {
  national = λ rules. record {
    layout = record {
      territory = am_by_anexo;
      first = refl;
      utf8 = subst IsUtf8 (laid_is rules) (IsUtf8-low (codes "123 456") refl);
      digits = codes "123456";
      laid = subst (λ t. IsLaidOut is_quiet (chars t) (codes "123456")) (laid_is rules) quietly;
      enough = inl (leb-true 3 _ refl);
      announced = tt;
      few = subst (λ (t : List ℕ). length (chars (t ++ [])) ≤ most_characters) (laid_is rules) few;
    };
    dialled = inside;
  };
  hinted = refl;
}
