use Rattle.std.proofs.Common.{[], refl, codes, arith}
use Rattle.phone_chars.proofs.ViableRows.{not_viable}
use Rattle.phone_chars.proofs.laws.not_viable_rows.Goals as goal

pub returns : goal.returns
returns c = record {
  nothing = not_viable [] (λ e. omega (arith, e)) refl;
  one = not_viable (codes "1") (λ e. omega (arith, e)) refl;
  plus_between = not_viable (codes "1+1+1") (λ e. omega (arith, e)) refl;
  plus_after = not_viable (codes "80+0") (λ e. omega (arith, e)) refl;
  two_and_letters = not_viable (codes "08-PIZZA") (λ e. omega (arith, e)) refl;
  early_letter = not_viable (codes "08-P1ZZA") (λ e. omega (arith, e)) refl;
  one_and_letters = not_viable (codes "8-PIZZA") (λ e. omega (arith, e)) refl;
  date = not_viable (codes "12. March") (λ e. omega (arith, e)) refl;
  address = not_viable (codes "1110@gmail.com") (λ e. omega (arith, e)) refl;
}
