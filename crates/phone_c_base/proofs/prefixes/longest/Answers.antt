use Rattle.std.proofs.Common.{◌≡◌, ℕ, List, rules, refl, sym, subst}
use Rattle.phone_prefixes.specs.Tables.{NoneBegins}
use Rattle.phone_c_base.proofs.LongestFound.{found_begins, given}
use Rattle.phone_c_base.proofs.prefixes.longest.Goals as goal

pub returns-in-Some-clause-none : goal.returns-in-Some-clause-none
returns-in-Some-clause-none c =
    let same : c.in-Ok.digits.now ≡ c.args.digits.now = search rules in
    λ _. (
      λ is. absurd (given _ c.give_entry.ensures.status is),
      λ none. absurd (found_begins _ _ _ c.in-Some.ensures (subst (λ (ds : List ℕ). NoneBegins c.args.prefixes.now ds) (sym same) none)),
    )

pub returns-in-None-clause-none : goal.returns-in-None-clause-none
returns-in-None-clause-none c =
    let same : c.in-Ok.digits.now ≡ c.args.digits.now = search rules in
    λ _. (λ _. subst (λ (ds : List ℕ). NoneBegins c.args.prefixes.now ds) same c.in-None.ensures, λ _. refl)
