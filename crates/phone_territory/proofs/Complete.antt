-- A record that lacks nothing has each value that it must have.
use Rattle.std.proofs.Common.{◌≡◌, List, [], ◌∷◌, map, Option, None, Some, refl, sym}
use Rattle.std.proofs.lemmas.Option.{none-some}
use Rattle.std.specs.List.{AllByRecursion}
use Rattle.std.specs.Option.{IsSome}
use Rattle.phone_territory.specs.Kinds.{AreWhole}
use Rattle.phone_records.specs.Kinds.{kinds_of}
use Rattle.phone_records.specs.Missing.{first_given, missing_if_none, missing_in, missing_in_descriptor, missing_in_format, descriptors_of, lacks_of}
use Rattle.phone_records.specs.declared.loader.Metadata.{Metadata}
use Rattle.phone_records.specs.declared.missing.Missing.{Missing}

pub first_given-none : {X : Type 0} (xs : List (Option X)) → first_given xs ≡ None → AllByRecursion (λ x. x ≡ None) xs
first_given-none [] e = tt
first_given-none (None ∷ xs) e = (refl, first_given-none xs e)
first_given-none (Some x ∷ xs) e = absurd (none-some x (sym e))

pub given : {X : Type 0} (lack : Missing) (o : Option X) → missing_if_none lack o ≡ None → IsSome o
given lack (Some x) e = refl
given lack None e = absurd (none-some lack (sym e))

-- what a complete record has
pub record HasAll (m : Metadata) : Type 0 where
  pub general : IsSome m.general
  pub kinds : AllByRecursion (λ d. d ≡ None) (map missing_in_descriptor (descriptors_of m))
  pub id : IsSome m.id
  pub country_code : IsSome m.country_code
  pub formats : first_given (map missing_in_format m.formats) ≡ None
  pub international_formats : first_given (map missing_in_format m.international_formats) ≡ None

pub has_all : (m : Metadata) → missing_in m ≡ None → HasAll m
unfolding missing_in
has_all m e =
    let h = first_given-none (lacks_of m) e in
    record {
      general = given _ m.general h.0;
      kinds = first_given-none (map missing_in_descriptor (descriptors_of m)) h.1.0;
      id = given _ m.id h.1.1.0;
      country_code = given _ m.country_code h.1.1.1.0;
      formats = h.1.1.1.1.0;
      international_formats = h.1.1.1.1.1.0;
    }

-- a list that lacks nothing: neither does its first, nor do the others
pub first_given-cons : {X : Type 0} (a : Option X) (rest : List (Option X)) → first_given (a ∷ rest) ≡ None → (a ≡ None) × (first_given rest ≡ None)
first_given-cons None rest e = (refl, e)
first_given-cons (Some x) rest e = absurd (none-some x (sym e))

-- none of the sixteen descriptors of a complete record lacks its pattern
pub whole_kinds : (m : Metadata) → HasAll m → AreWhole (kinds_of m).0 × AreWhole (kinds_of m).1 × AreWhole (kinds_of m).2 × AreWhole (kinds_of m).3
whole_kinds m h =
    let k = h.kinds in
    let l = k.1.1.1.1 in
    let n = l.1.1.1.1 in
    let o = n.1.1.1.1 in (
      (k.0, k.1.0, k.1.1.0, k.1.1.1.0),
      (l.0, l.1.0, l.1.1.0, l.1.1.1.0),
      (n.0, n.1.0, n.1.1.0, n.1.1.1.0),
      (o.0, o.1.0, o.1.1.0, o.1.1.1.0),
    )
