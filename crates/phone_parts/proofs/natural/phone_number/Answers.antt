use Rattle.std.proofs.Common.{◌≡◌, List, ℕ, Option, None, Ok, ap, sym, subst}
use Rattle.std.specs.Str.{chars}
use Rattle.phone_parts.specs.Naturals
use Rattle.phone_parts.specs.Parts.{Parts, parts_of}
use Rattle.phone_parts.specs.Naturals.{IsNatural}
use Rattle.phone_parts.proofs.Slices.{slice_of_slice, slice_from_front}
use Rattle.phone_parts.proofs.natural.phone_number.Goals as goal

pub returns-in_default-clause-read : goal.returns-in_default-clause-read
returns-in_default-clause-read c = Naturals.nothing c.in_default.ensures.core

made : List ℕ → Option (List ℕ) → Option (List ℕ) → Parts
made n p e = record { national = n; prefix = p; extension = e }

pub returns-in_default-find_suffix-clause-read : goal.returns-in_default-find_suffix-clause-read
unfolding made
returns-in_default-find_suffix-clause-read c =
    let text = chars c.args.text.now in
    let core = chars c.in-Some.core.now in
    let same : made core None None ≡ parts_of c.of.result =
    rw (c.of.ensures.no_prefix, c.of.ensures.no_extension) (ap (λ n. made n None None) (sym (ap chars c.of.ensures.national))) in
    subst (λ p. IsNatural text (Ok p)) same (Naturals.plain core c.in-Some.ensures.core c.in_default-find_suffix.ensures.read)

pub returns-clause-read : goal.returns-clause-read
returns-clause-read c =
    let text = chars c.args.text.now in
    let core = chars c.in-Some.core.now in
    let national = chars c.in-Some-find_suffix.national.now in
    let extension = chars c.in-Some-find_suffix.extension.now in
    subst (λ p. IsNatural text (Ok p)) (sym c.with_extension.ensures.parts)
    (Naturals.extended core national extension c.in-Some.ensures.core c.in-Some-find_suffix.ensures.read)

pub returns-clause-lent : goal.returns-clause-lent
returns-clause-lent c =
    let v = c.in-Some-find_suffix.ensures.front in
    let core = c.in-Some.ensures.slice in
    c.with_extension.ensures.lent c.args.text.now
    (slice_of_slice _ _ _ core (slice_from_front _ c.in-Some-find_suffix.national.now v.0 v.1))
    (slice_of_slice _ _ _ core c.in-Some-find_suffix.ensures.slice)
