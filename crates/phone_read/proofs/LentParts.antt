-- What stays lent where a step of reading leaves prefix and carrier as they were.
use Rattle.std.proofs.Common.{◌≡◌, ℕ, List, false, inl, Option, None, Some, option_map, IfSome, refl, ap, sym, subst}
use Rattle.std.specs.Cow.{cow_str_bytes, IsBorrowedStr}
use Rattle.std.specs.Str.{chars}
use Rattle.phone_chars.specs.Norm.{norm}
use Rattle.phone_parts.specs.Parts.{parts_of}
use Rattle.phone_parts.specs.declared.number.Number.{Number as Parts}
use Rattle.phone_read.specs.Lent.{KeepsLent}

-- where the reader gave no prefix there is none
pub none_before : {X : Type 0} (text : X → List ℕ) (x : Option X) (p : Option (List ℕ)) → option_map text x ≡ option_map norm p → p ≡ None → x ≡ None
none_before text None p e none = refl
none_before text (Some x) None e none = cc
none_before text (Some x) (Some p) e none = cc

-- the same of a number's prefix
pub no_prefix : (n r : Parts) → option_map cow_str_bytes r.prefix ≡ option_map norm (parts_of n).prefix → n.prefix ≡ None → r.prefix ≡ None
no_prefix n r read none = none_before cow_str_bytes r.prefix (parts_of n).prefix read (ap (option_map (λ p. chars (cow_str_bytes p))) none)

pub keeps_lent : (n r : Parts) → IsBorrowedStr r.national → option_map cow_str_bytes r.prefix ≡ option_map norm (parts_of n).prefix → r.carrier ≡ n.carrier →
    KeepsLent n false r
keeps_lent n r lent read carrier = record {
  national = λ same. lent;
  prefix = λ none other. subst (λ o. IfSome o (λ p. IsBorrowedStr p)) (sym (no_prefix n r read none)) tt;
  carrier = inl carrier;
}
