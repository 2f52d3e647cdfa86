use Rattle.std.proofs.Common.{inl, inr, refl, codes}
use Rattle.phone_chars.proofs.Signed.{signed_of_walk}
use Rattle.phone_chars.proofs.laws.viable_rows.Goals as goal

pub returns : goal.returns
returns c = record {
  two = inl (record { two = refl; digits = refl });
  three = inr (signed_of_walk (codes "111") refl);
  word = inr (signed_of_walk (codes "0800-4-pizza") refl);
  capitals = inr (signed_of_walk (codes "0800-4-PIZZA") refl);
  signed = inr (signed_of_walk (codes "+64 3 331 6005") refl);
  between = inr (signed_of_walk (codes "1x2x3") refl);
}
