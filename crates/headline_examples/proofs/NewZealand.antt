-- A number of New Zealand is settled, and with an extension its international text is plain.
use Rattle.std.proofs.Common.{◌≡◌, ◌≤◌, ◌++◌, ◌∷◌, ◌&&◌, true, ℕ, List, Option, length, leb-true, ltb-true, IsUtf8}
use Rattle.std.proofs.Common.{None, Some, codes, decimal, refl, ap, sym, subst}
use Rattle.std.specs.Fmt.{digits}
use Rattle.std.specs.Str.{chars}
use Rattle.phone_values.specs.declared.mode.Mode.TheVariants.{International}
use Rattle.phone_library_text.specs.Written.{most_characters}
use Rattle.phone_plans.specs.CodeLookUps.{begins}
use Rattle.phone_print.specs.Texts.{laid_out_by}
use Rattle.phone_values.specs.declared.rules.Rules.{Rules}
use Rattle.phone_parts.proofs.PrintedInternational.{digit_nd}
use Rattle.phonenumber.proofs.BackTexts.{IsUtf8-low}
use Rattle.phone_library_laws.proofs.Prefixes.{announced_by_default}
use Rattle.phone_library_laws.specs.Announced.{IsParameterIfAny}
use Rattle.phone_library_laws.specs.Layouts.{IsLaidOut, is_quiet}
use Rattle.phone_library_laws.specs.Plain.{IsLaidInternational, IsPlainInternational}
use Rattle.phone_library_laws.specs.Again.{IsSettled}
use Rattle.headline_examples.proofs.Kept.{stripped_kept}
use Rattle.headline_examples.proofs.Laid.{nz_laid_by}
use Rattle.headline_examples.specs.Samples.{db_b, extended, number, nz}

pub nz_settled : (e : Option (List ℕ)) → IsSettled db_b (number 64 0 33316005 e)
unfolding digits begins
nz_settled e = record {
  prefix_free = refl;
  listed = refl;
  some_code = leb-true 1 _ refl;
  short_code = leb-true _ 999 refl;
  held = (ltb-true _ _ refl, ltb-true _ _ refl);
  long_enough = leb-true 2 _ refl;
  short_enough = leb-true _ 17 refl;
  idle = stripped_kept nz (codes "33316005") refl;
}

-- the extension 5
pub five : IsParameterIfAny (Some (codes "5"))
unfolding chars
five = (
  record {
    utf8 = IsUtf8-low (codes "5") refl;
    digits = ap (λ b. b && true) (digit_nd 53 refl);
    some = leb-true 1 _ refl;
  },
  leb-true _ 20 refl,
)

-- the text of the layout
laid_is : (rules : Rules) → codes "3 331 6005" ≡ laid_out_by rules nz International None extended
laid_is rules = sym (nz_laid_by rules (Some (codes "5")))

quietly : IsLaidOut is_quiet (chars (codes "3 331 6005")) (codes "33316005")
unfolding chars
quietly = record { only = refl; same = refl; last = refl }

few : length (chars (43 ∷ (decimal 64 ++ 32 ∷ (codes "3 331 6005" ++ codes " ext. 5")))) ≤ most_characters
unfolding chars digits
few = leb-true _ 250 refl

pub nz_laid_plainly : (rules : Rules) → IsLaidInternational rules db_b extended
unfolding digits
nz_laid_plainly rules = record {
  territory = nz;
  first = refl;
  utf8 = subst IsUtf8 (laid_is rules) (IsUtf8-low (codes "3 331 6005") refl);
  laid = subst (λ t. IsLaidOut is_quiet (chars t) (codes "33316005")) (laid_is rules) quietly;
  few = subst (λ t. length (chars (43 ∷ (decimal 64 ++ 32 ∷ (t ++ codes " ext. 5")))) ≤ most_characters)
      (laid_is rules) few;
}

pub nz_plain : (rules : Rules) → IsPlainInternational rules db_b extended
unfolding nz_laid_plainly
nz_plain rules = record {
  layout = nz_laid_plainly rules;
  announced = announced_by_default nz (Some (codes "5")) refl five;
}
