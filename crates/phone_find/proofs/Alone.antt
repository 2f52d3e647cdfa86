-- A piece that is accepted, in whose bounds each accepted one lies, is found alone.
use Rattle.std.proofs.Common.{◌≡◌, ℕ, ◌≤◌, List, [], ◌∷◌, refl, ap, sym, subst, ◌∙◌, arith}
use Rattle.phone_find.specs.Founds
use Rattle.phone_find.specs.Founds.{Accepts, AreFound, Stands}
use Rattle.phone_find.specs.declared.search.Found.{Found}

pub same_found : {N : Type 0} (f g : Found N) → g.start ≡ f.start → g.end ≡ f.end →
    g.number ≡ f.number → g ≡ f
same_found f g a b c =
    ap (λ i. record { start = i; end = g.end; number = g.number }) a
    ∙ ap (λ i. record { start = f.start; end = i; number = g.number }) b
    ∙ ap (λ n. record { start = f.start; end = f.end; number = n }) c

module _ {N : Type 0} (accepts : Accepts N) (text : List ℕ) (f : Found N) (stands : Stands accepts
    text f)
    (inside : (g : Found N) → Stands accepts text g → (f.start ≤ g.start) × (g.end ≤ f.end))
    (one : (n : N) → accepts f.start f.end n → n ≡ f.number) where
  none_behind : (from : ℕ) (others : List (Found N)) → f.end ≤ from →
      AreFound accepts text from others → others ≡ []
  none_behind from others late (Founds.none _ h) = refl
  none_behind from others late (Founds.next _ g rest first later) =
      let within = inside g first.stands in absurd (omega (
        arith,
        within.1,
        late,
        first.behind,
        first.stands.some,
      ))

  pub alone : (all : List (Found N)) → AreFound accepts text 0 all → all ≡ f ∷ []
  alone all (Founds.none _ h) = absurd (h f stands (omega arith))
  alone all (Founds.next _ g rest first later) =
      let within = inside g first.stands in
      let early = first.first f stands (omega arith) in
      let start : g.start ≡ f.start = omega (arith, within.0, early) in
      let long = first.longest f stands (sym start) in
      let end : g.end ≡ f.end = omega (arith, within.1, long) in
      let accepted = subst (λ i. accepts i f.end g.number) start (subst (λ i. accepts g.start i
      g.number) end first.stands.accepted) in
      ap (λ h. h ∷ rest) (same_found f g start end (one g.number accepted))
      ∙ ap (λ hs. f ∷ hs) (none_behind g.end rest (omega (arith, end)) later)
