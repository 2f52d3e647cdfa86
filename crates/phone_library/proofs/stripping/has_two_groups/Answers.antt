use Rattle.std.proofs.Common.{◌≡◌, ◌-◌, ℕ, ⊎_elim, length, nat_le, nat_lt, arith, ap, sym, ◌∙◌}
use Rattle.std.proofs.lemmas.Bool.{cases_lt, le-leb, le-ltb, lt-leb, lt-ltb}
use Rattle.phone_territory.specs.First.{names_in}
use Rattle.phone_library.proofs.stripping.has_two_groups.Goals as goal

-- group 0 is the match
past_match : (n : ℕ) → nat_lt 2 n ≡ nat_le 2 (n - 1)
past_match n =
    ⊎_elim (λ more. lt-ltb 2 n more ∙ sym (le-leb 2 (n - 1) (omega (arith, more))))
    (λ few. le-ltb 2 n few ∙ sym (lt-leb 2 (n - 1) (omega (arith, few)))) (cases_lt 2 n)

pub returns : goal.returns
returns c = ap (nat_lt 2) c.captures_len.ensures ∙ past_match (length (names_in c.args.pattern.now))
