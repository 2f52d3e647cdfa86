use Rattle.std.proofs.Common.{◌≡◌, ◌∷◌, ◌++◌, [], true, false, length, slice_get, Some, ap, refl, sym, subst, ◌∙◌}
use Rattle.std.proofs.lemmas.List.{length-map}
use Rattle.std.specs.Map.{values_of}
use Rattle.phone_plans.specs.CodeLookUps.{is_listed}
use Rattle.phone_values.specs.declared.reading.Reading.{Reading}
use Rattle.phone_book.specs.Books.{AreKept}
use Rattle.phone_book.specs.Firsts.{firsts, is_among}
use Rattle.phone_book.proofs.Keyed.{after-new, found-same, some_from}
use Rattle.phone_book.proofs.book.Book.place.Goals as goal

pub returns-in-Some-clause-placed : goal.returns-in-Some-clause-placed
returns-in-Some-clause-placed c =
    let n : Reading = c.args.number in
    let listed = subst (λ b. is_listed n.code.value b.database ≡ true) (sym c.self.view_is) c.requires in
    let found = some_from _ c.in-Some.ensures.found in (
      found.0,
      subst (λ b. slice_get b.entries c.in-Some.n ≡ Some found.0) c.self.view_is (c.in-Some.ensures.value ∙ found.1),
      found-same c.key.ensures c.self.inside.database c.self.invariant.0 n listed c.national-national.ensures.bounded c.in_ok-key.key c.in_ok-key.ensures
          c.self.inside.entries.entries found.0 c.self.invariant.2 found.1,
      refl,
    )

pub invariant_of-self : goal.invariant_of-self
invariant_of-self c =
    let n : Reading = c.args.number in
    let listed = subst (λ b. is_listed n.code.value b.database ≡ true) (sym c.self.view_is) c.requires in
    let after = after-new c.key.ensures c.self.inside.database c.self.invariant.0 n listed c.national-national.ensures.bounded c.in_ok-key.key c.in_ok-key.ensures
    c.self.inside.entries c.insert.new.self.entries c.self.invariant.2 c.self.invariant.1 c.in-Ok.ensures.entries c.in_default.ensures.found in
    (c.self.invariant.0, after.all_first, after.kept)

pub returns-in-Ok-clause-placed : goal.returns-in-Ok-clause-placed
returns-in-Ok-clause-placed c =
    let n : Reading = c.args.number in
    let listed = subst (λ b. is_listed n.code.value b.database ≡ true) (sym c.self.view_is) c.requires in
    let after = after-new c.key.ensures c.self.inside.database c.self.invariant.0 n listed c.national-national.ensures.bounded c.in_ok-key.key c.in_ok-key.ensures
    c.self.inside.entries c.insert.new.self.entries c.self.invariant.2 c.self.invariant.1 c.in-Ok.ensures.entries c.in_default.ensures.found in (
      subst (λ b. is_among n b.entries ≡ false) c.self.view_is after.fresh,
      c.len-n.ensures.len ∙ sym (length-map c.self.inside.entries.entries (λ p. p.1)) ∙ ap (λ b. length b.entries) c.self.view_is,
      after.numbers ∙ ap (λ b. b.entries ++ n ∷ []) c.self.view_is,
    )

pub invariant_of-self-2 : goal.invariant_of-self-2
invariant_of-self-2 c =
    let es = c.insert.new.self.entries in
    let kept : (firsts (values_of es) ≡ values_of es) × AreKept c.self.inside.database es =
    subst (λ xs. (firsts (values_of xs) ≡ values_of xs) × AreKept c.self.inside.database xs) (sym c.in-Err.ensures.err)
    (c.self.invariant.1, c.self.invariant.2) in
    (c.self.invariant.0, kept.0, kept.1)
