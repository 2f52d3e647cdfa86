-- What is decided: it holds, or it doesn't.
use Rattle.std.proofs.Common.{◌≡◌, ◌⊎◌, inl, inr, ⊎_elim, ◌≤◌, ◌<◌, ℕ, zero, suc, Bool, true, false, List, [], ◌∷◌, ◌++◌, length, drop, refl, ap, sym, subst, true≢false, arith}
use Rattle.std.proofs.lemmas.Bool.{cases_lt}

abbrev pub Decided : Type 0 → Type 0
Decided A = A ⊎ (¬ A)

pub decided_as : (A B : Type 0) → (A → B) → (B → A) → Decided A → Decided B
decided_as A B to back (inl a) = inl (to a)
decided_as A B to back (inr not) = inr (λ b. not (back b))

pub decided_true : (b : Bool) → Decided (b ≡ true)
decided_true true = inl refl
decided_true false = inr (λ e. true≢false (sym e))

pub decided_le : (m n : ℕ) → Decided (m ≤ n)
decided_le m n = ⊎_elim (λ (less : n < m). inr (λ (le : m ≤ n). omega (arith, less, le))) (λ (le : m ≤ n). inl le) (cases_lt n m)

pub decided_both : (A B : Type 0) → Decided A → Decided B → Decided (A × B)
decided_both A B (inl a) (inl b) = inl (a, b)
decided_both A B (inl a) (inr not) = inr (λ p. not p.1)
decided_both A B (inr not) d = inr (λ p. not p.0)

pub decided_one : (A B : Type 0) → Decided A → Decided B → Decided (A ⊎ B)
decided_one A B (inl a) d = inl (inl a)
decided_one A B (inr not) (inl b) = inl (inr b)
decided_one A B (inr not) (inr neither) = inr (λ s. ⊎_elim not neither s)

-- a text in two parts
pub record IsInTwo (P : List ℕ → List ℕ → Type 0) (t : List ℕ) : Type 0 where
  pub front : List ℕ
  pub back : List ℕ
  pub whole : t ≡ front ++ back
  pub parts : P front back

-- where it is decided of each two parts, it is decided whether there are such
pub decided_in_two : (P : List ℕ → List ℕ → Type 0) → ((a b : List ℕ) → Decided (P a b)) → (t : List ℕ) → Decided (IsInTwo P t)
decided_in_two P told [] = decided_as (P [] []) (IsInTwo P [])
    (λ p. record { front = []; back = []; whole = refl; parts = p }) (λ two. empty two.front two.back two.whole two.parts) (told [] [])
  where
    empty : (a b : List ℕ) → [] ≡ a ++ b → P a b → P [] []
    empty [] [] e p = p
    empty [] (y ∷ b) e p = absurd (cc)
    empty (x ∷ a) b e p = absurd (cc)
decided_in_two P told (c ∷ cs) = decided_as (P [] (c ∷ cs) ⊎ IsInTwo (λ a b. P (c ∷ a) b) cs) (IsInTwo P (c ∷ cs)) to (λ two. back two.front two.back two.whole two.parts)
    (decided_one (P [] (c ∷ cs)) (IsInTwo (λ a b. P (c ∷ a) b) cs) (told [] (c ∷ cs)) (decided_in_two (λ a b. P (c ∷ a) b) (λ a b. told (c ∷ a) b) cs))
  where
    to : P [] (c ∷ cs) ⊎ IsInTwo (λ a b. P (c ∷ a) b) cs → IsInTwo P (c ∷ cs)
    to (inl p) = record { front = []; back = c ∷ cs; whole = refl; parts = p }
    to (inr two) = record { front = c ∷ two.front; back = two.back; whole = ap (λ t. c ∷ t) two.whole; parts = two.parts }

    back : (a b : List ℕ) → c ∷ cs ≡ a ++ b → P a b → P [] (c ∷ cs) ⊎ IsInTwo (λ a b. P (c ∷ a) b) cs
    back [] b e p = inl (subst (P []) (sym e) p)
    back (x ∷ a) b e p =
        let heads : c ≡ x = cc in
        let tails : cs ≡ a ++ b = cc in
        inr (record { front = a; back = b; whole = tails; parts = subst (λ y. P (y ∷ a) b) (sym heads) p })

-- the longest end that holds of a text, or that none does
pub record IsLongestEnd (P : List ℕ → Type 0) (t : List ℕ) : Type 0 where
  pub before : List ℕ
  pub end : List ℕ
  pub whole : t ≡ before ++ end
  pub holds : P end
  pub longest : (k : ℕ) → k < length before → ¬ (P (drop k t))

pub longest_end : (P : List ℕ → Type 0) → ((t : List ℕ) → Decided (P t)) → (t : List ℕ) → IsLongestEnd P t ⊎ ((k : ℕ) → ¬ (P (drop k t)))
longest_end P told [] = at (told [])
  where
    none : ¬ (P []) → (k : ℕ) → ¬ (P (drop k []))
    none not zero = not
    none not (suc k) = not

    at : Decided (P []) → IsLongestEnd P [] ⊎ ((k : ℕ) → ¬ (P (drop k [])))
    at (inl p) = inl (record { before = []; end = []; whole = refl; holds = p; longest = λ k less. absurd (omega (arith, less)) })
    at (inr not) = inr (none not)
longest_end P told (c ∷ cs) = at (told (c ∷ cs)) (longest_end P told cs)
  where
    none : ¬ (P (c ∷ cs)) → ((k : ℕ) → ¬ (P (drop k cs))) → (k : ℕ) → ¬ (P (drop k (c ∷ cs)))
    none not later zero = not
    none not later (suc k) = later k

    sooner : (n : ℕ) → ¬ (P (c ∷ cs)) → ((k : ℕ) → k < n → ¬ (P (drop k cs))) → (k : ℕ) → k < suc n → ¬ (P (drop k (c ∷ cs)))
    sooner n not later zero less = not
    sooner n not later (suc k) less = later k (omega (arith, less))

    at : Decided (P (c ∷ cs)) → IsLongestEnd P cs ⊎ ((k : ℕ) → ¬ (P (drop k cs))) → IsLongestEnd P (c ∷ cs) ⊎ ((k : ℕ) → ¬ (P (drop k (c ∷ cs))))
    at (inl p) later = inl (record { before = []; end = c ∷ cs; whole = refl; holds = p; longest = λ k less. absurd (omega (arith, less)) })
    at (inr not) (inl l) = inl (record {
      before = c ∷ l.before;
      end = l.end;
      whole = ap (λ t. c ∷ t) l.whole;
      holds = l.holds;
      longest = sooner (length l.before) not l.longest;
    })
    at (inr not) (inr later) = inr (none not later)
