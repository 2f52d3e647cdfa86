-- Rules, leniencies and kinds by their numbers, and ids by their bytes.
use Rattle.std.proofs.Common.{◌≡◌, ℕ, zero, suc, ◌<◌, ◌==◌, nat_eq, nat_le, true, Option, None, Some}
use Rattle.std.proofs.Common.{IfSome, length, refl, subst, arith, leb-true}
use Rattle.std.proofs.lemmas.Bool.{eqb-true}
use Rattle.std.specs.Str.{bytes_eq}
use Rattle.phone_values.proofs.Finds.{IfSome-find}
use Rattle.phone_values.proofs.Texts.{id_of-name}
use Rattle.phone_values.specs.Ids.{id_of, name}
use Rattle.phone_values.specs.declared.country.Id.{Id}
use Rattle.phone_values.specs.declared.country.TheConstants.{ALL}
use Rattle.phone_values.specs.declared.kind.«Type».{«Type»}
use Rattle.phone_values.specs.declared.kind.«Type».TheVariants.{FixedLine, Mobile}
use Rattle.phone_values.specs.declared.kind.«Type».TheVariants.{FixedLineOrMobile}
use Rattle.phone_values.specs.declared.kind.«Type».TheVariants.{TollFree, PremiumRate, SharedCost}
use Rattle.phone_values.specs.declared.kind.«Type».TheVariants.{PersonalNumber, Voip, Pager, Uan}
use Rattle.phone_values.specs.declared.kind.«Type».TheVariants.{Emergency, Voicemail, ShortCode}
use Rattle.phone_values.specs.declared.kind.«Type».TheVariants.{StandardRate, Carrier}
use Rattle.phone_values.specs.declared.kind.«Type».TheVariants.{NoInternational, Unknown}
use Rattle.phone_values.specs.declared.rules.Rules.{Rules}
use Rattle.phone_values.specs.declared.rules.Rules.TheVariants.{Library, Crate}
use Rattle.phone_find.specs.declared.leniency.Leniency.{Leniency}
use Rattle.phone_find.specs.declared.leniency.Leniency.TheVariants.{Possible, Valid}
use Rattle.phone_c_base.specs.Answers.{kind_number}
use Rattle.phone_c_base.specs.Found.{leniency_number}
use Rattle.phone_c_base.specs.Kinds.{kind_of}
use Rattle.phone_c_base.specs.Rules.{rules_number}
use Rattle.phone_values.specs.declared.named.TheConstants.{KINDS}

pub one_of_rules : (q r : Rules) → rules_number q ≡ rules_number r → q ≡ r
one_of_rules Library Library e = refl
one_of_rules Library Crate e = cc
one_of_rules Crate Library e = cc
one_of_rules Crate Crate e = refl

pub one_leniency : (a b : Leniency) → leniency_number a ≡ leniency_number b → a ≡ b
one_leniency Possible Possible e = refl
one_leniency Possible Valid e = cc
one_leniency Valid Possible e = cc
one_leniency Valid Valid e = refl

pub kind_back : (k : «Type») → kind_of (kind_number k) ≡ Some k
unfolding kind_of
kind_back FixedLine = refl
kind_back Mobile = refl
kind_back FixedLineOrMobile = refl
kind_back TollFree = refl
kind_back PremiumRate = refl
kind_back SharedCost = refl
kind_back PersonalNumber = refl
kind_back Voip = refl
kind_back Pager = refl
kind_back Uan = refl
kind_back Emergency = refl
kind_back Voicemail = refl
kind_back ShortCode = refl
kind_back StandardRate = refl
kind_back Carrier = refl
kind_back NoInternational = refl
kind_back Unknown = refl

-- what has a number has one up to 16
numbered : (n : ℕ) → IfSome (kind_of n) (λ k. ((kind_number k == n) ≡ true) × (nat_le (kind_number k) 16 ≡ true))
unfolding kind_of
numbered n = IfSome-find (λ k. kind_number k == n) (λ k. nat_le (kind_number k) 16) KINDS refl

above : (n : ℕ) → 16 < n → kind_of n ≡ None
above n more = at (kind_of n) (numbered n)
  where
    at : (o : Option «Type») → IfSome o (λ k. ((kind_number k == n) ≡ true) × (nat_le (kind_number k) 16 ≡ true)) → o ≡ None
    at None h = refl
    at (Some k) h =
        let same = eqb-true (kind_number k) n h.0 in
        let few = leb-true (kind_number k) 16 h.1 in
        absurd (omega (arith, same, few, more))

-- a number up to 16 is a kind's
below : (n : ℕ) → kind_of n ≡ None → 16 < n
unfolding kind_of
below zero e = cc
below (suc zero) e = cc
below (suc (suc zero)) e = cc
below (suc (suc (suc zero))) e = cc
below (suc (suc (suc (suc zero)))) e = cc
below (suc (suc (suc (suc (suc zero))))) e = cc
below (suc (suc (suc (suc (suc (suc zero)))))) e = cc
below (suc (suc (suc (suc (suc (suc (suc zero))))))) e = cc
below (suc (suc (suc (suc (suc (suc (suc (suc zero)))))))) e = cc
below (suc (suc (suc (suc (suc (suc (suc (suc (suc zero))))))))) e = cc
below (suc (suc (suc (suc (suc (suc (suc (suc (suc (suc zero)))))))))) e = cc
below (suc (suc (suc (suc (suc (suc (suc (suc (suc (suc (suc zero))))))))))) e = cc
below (suc (suc (suc (suc (suc (suc (suc (suc (suc (suc (suc (suc zero)))))))))))) e = cc
below (suc (suc (suc (suc (suc (suc (suc (suc (suc (suc (suc (suc (suc zero))))))))))))) e = cc
below (suc (suc (suc (suc (suc (suc (suc (suc (suc (suc (suc (suc (suc (suc zero)))))))))))))) e = cc
below (suc (suc (suc (suc (suc (suc (suc (suc (suc (suc (suc (suc (suc (suc (suc zero))))))))))))))) e = cc
below (suc (suc (suc (suc (suc (suc (suc (suc (suc (suc (suc (suc (suc (suc (suc (suc zero)))))))))))))))) e = cc
below (suc (suc (suc (suc (suc (suc (suc (suc (suc (suc (suc (suc (suc (suc (suc (suc (suc n))))))))))))))))) e = omega arith

pub no_kind : (n : ℕ) → (kind_of n ≡ None → 16 < n) × (16 < n → kind_of n ≡ None)
no_kind n = (below n, above n)

pub two_bytes : (id : Id) → length (name id) ≡ 2
unfolding id_of name
two_bytes id =
    let found : IfSome (id_of (name id)) (λ i. (bytes_eq (name i) (name id) ≡ true) × (nat_eq (length (name i)) 2 ≡ true)) =
    IfSome-find (λ i. bytes_eq (name i) (name id)) (λ i. nat_eq (length (name i)) 2) ALL refl in
    eqb-true (length (name id)) 2 (subst (λ o. IfSome o (λ i. (bytes_eq (name i) (name id) ≡ true) × (nat_eq (length (name i)) 2 ≡ true))) (id_of-name id) found).1
