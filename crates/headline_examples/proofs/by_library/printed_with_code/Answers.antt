use Rattle.std.proofs.Common.{◌≡◌, ◌≤◌, ◌++◌, ◌∷◌, length, encode_utf8_all, leb-true}
use Rattle.std.proofs.Common.{None, Some, codes, decimal, refl, sym, subst}
use Rattle.std.specs.Char.{encode_utf8}
use Rattle.std.specs.Fmt.{digits}
use Rattle.std.specs.Str.{chars}
use Rattle.phone_chars.specs.Characters.{is_separator}
use Rattle.phone_values.specs.declared.mode.Mode.TheVariants.{Rfc3966}
use Rattle.phone_library_text.specs.Written.{most_characters}
use Rattle.phone_print.specs.Texts.{hyphenated, laid_out_by}
use Rattle.phone_values.specs.declared.rules.Rules.{Rules}
use Rattle.phone_library_laws.specs.Layouts.{IsLaidOut}
use Rattle.phone_library_laws.specs.Plain.{IsLaidRfc3966}
use Rattle.headline_examples.proofs.Laid.{nz_laid_rfc3966}
use Rattle.headline_examples.proofs.NewZealand.{five, nz_laid_plainly, nz_plain}
use Rattle.headline_examples.specs.Samples.{db_b, extended, nz}
use Rattle.headline_examples.proofs.by_library.printed_with_code.Goals as goal

laid_apart : (rules : Rules) → codes "3 331 6005" ≡ laid_out_by rules nz Rfc3966 None extended
laid_apart rules = sym (nz_laid_rfc3966 rules (Some (codes "5")))

apart : IsLaidOut is_separator (chars (codes "3 331 6005")) (codes "33316005")
unfolding chars
apart = record { only = refl; same = refl; last = refl }

few_apart : length (chars (codes "tel:+" ++ (decimal 64 ++ 45 ∷
    (encode_utf8_all (hyphenated (chars (codes "3 331 6005"))) ++ codes ";ext=5")))) ≤ most_characters
unfolding chars digits encode_utf8
few_apart = leb-true _ 250 refl

laid_rfc3966 : (rules : Rules) → IsLaidRfc3966 rules db_b extended
unfolding digits
laid_rfc3966 rules = record {
  territory = nz;
  first = refl;
  laid = subst (λ t. IsLaidOut is_separator (chars t) (codes "33316005")) (laid_apart rules) apart;
  few = subst (λ t. length (chars (codes "tel:+" ++ (decimal 64 ++ 45 ∷
      (encode_utf8_all (hyphenated (chars t)) ++ codes ";ext=5")))) ≤ most_characters) (laid_apart rules) few_apart;
}

pub returns : goal.returns
returns c = record {
  international = nz_plain;
  laid = nz_laid_plainly;
  rfc3966 = λ rules. record { layout = laid_rfc3966 rules; parameter = five };
  laid_rfc3966 = laid_rfc3966;
  parameter = five;
}
