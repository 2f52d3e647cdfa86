use Rattle.phone_book.proofs.KeyLemmas.{key_parts, key_same}
use Rattle.phone_book.proofs.laws.one_key.Goals as goal

pub returns : goal.returns
returns c a b ha hb = (key_parts a b ha hb, λ e. key_same a b e.0 e.1)
