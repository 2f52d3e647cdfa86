-- The printed texts of a number that is read back are one number.
use Rattle.std.proofs.Common.{ℕ, if◌then◌else◌, List, Option, Ok, sym, subst, ◌∙◌, arith}
use Rattle.phone_records.specs.declared.loader.Metadata.{Metadata}
use Rattle.phone_values.specs.declared.reading.Reading.{Reading}
use Rattle.phonenumber.specs.RoundTrips.{IsReadAs}
use Rattle.phonenumber.specs.Plain.{IsPlainE164, IsPlainInternational, IsPlainRfc3966}
use Rattle.phone_values.specs.declared.rules.Rules.TheVariants.{Crate}
use Rattle.phone_engine.proofs.Taken.{read_alike}
use Rattle.phone_engine.specs.Sameness.{IsAnswer, is_one_extension}
use Rattle.phone_engine.specs.declared.sameness.Sameness.TheVariants.{Exact, Number}

-- two texts that are read as one number, with these extensions
pub back_alike : (db : List Metadata) (s t : List ℕ) (n : Reading) (e f : Option (List ℕ)) → IsReadAs db s n e → IsReadAs db t n f →
    IsAnswer Crate db s t (Ok (if is_one_extension e f then Exact else Number))
back_alike db s t n e f (m, read, same) (k, also, alike) =
    let answer = read_alike Crate db s t m k read also (same.code ∙ sym alike.code) (same.national ∙ sym alike.national) in
    subst (λ (x : Option (List ℕ)). IsAnswer Crate db s t (Ok (if is_one_extension x f then Exact else Number))) same.extension
    (subst (λ (x : Option (List ℕ)). IsAnswer Crate db s t (Ok (if is_one_extension m.extension x then Exact else Number))) alike.extension answer)

-- what is plain for the other texts is plain for the E.164 text
pub e164_of_rfc3966 : (db : List Metadata) (n : Reading) → IsPlainRfc3966 db n → IsPlainE164 db n
e164_of_rfc3966 db n p = (
  p.territory,
  record {
    listed = p.plain.listed;
    not_zero = p.plain.not_zero;
    long_enough = omega (arith, p.plain.long_enough);
    short_enough = p.plain.short_enough;
  },
)

pub e164_of_international : (db : List Metadata) (n : Reading) → IsPlainInternational db n → IsPlainE164 db n
e164_of_international db n p = (p.territory, p.plain)
