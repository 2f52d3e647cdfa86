-- What answers say of the texts that they give.
use Rattle.std.proofs.Common.{◌≡◌, ◌⊎◌, inl, inr, ℕ, List, Bool, false, Result, Ok, Err, IfOk, OnOk, [], ◌∷◌, ◌==◌, ne_eqb, refl, ap, sym, subst, ◌∙◌}
use Rattle.std.proofs.lemmas.Bool.{cond-false}
use Rattle.phone_values.specs.declared.error.ParseError.{ParseError}
use Rattle.phone_values.specs.declared.error.ParseError.TheVariants.{Memory}
use Rattle.phone_values.specs.declared.reading.Reading.{Reading}
use Rattle.phone_read.proofs.Results.{ok_again}
use Rattle.phone_dialling.specs.Texts.{signless}

-- a text of which something holds
pub told_so : {X E : Type 0} (bytes : X → List ℕ) (P : List ℕ → Type 0) (t : List ℕ) (x : Result X E) → P t →
    IfOk x (λ s. bytes s ≡ t) → IfOk x (λ s. P (bytes s))
told_so bytes P t x h f = ok_again x _ _ (λ s e. subst P (sym e) h) f

-- memory was refused
abbrev pub IsMemory : Result Reading ParseError → Type 0
IsMemory r = r ≡ Err Memory

refusal : ParseError → Result Reading ParseError → ParseError
refusal d (Ok n) = d
refusal d (Err e) = e

memory_alone : (e : ParseError) → IsMemory (Err e) → e ≡ Memory
unfolding refusal
memory_alone e h = ap (refusal e) h

-- an answer to what a text is read as
abbrev pub IsAnswerTo : (Result Reading ParseError → Type 0) → (Result Reading ParseError → Bool) → Bool → Type 0
IsAnswerTo Reads answer b = (r : Result Reading ParseError) × Reads r × (b ≡ answer r)

module _ {E : Type 0} (Reads : Result Reading ParseError → Type 0) (answer : Result Reading ParseError → Bool) where
  pub read_so : (n : Reading) (x : Result Bool E) → IsMemory (Ok n) ⊎ Reads (Ok n) → IfOk x (λ b. b ≡ answer (Ok n)) → IfOk x (IsAnswerTo Reads answer)
  read_so n x (inl e) f = cc
  read_so n x (inr h) f = ok_again x _ _ (λ b e. (Ok n, h, e)) f

  pub refused_so : (e : ParseError) (x : Result Bool E) → answer (Err e) ≡ false → IsMemory (Err e) ⊎ Reads (Err e) →
      IfOk x (λ b. b ≡ false) → OnOk x (¬ (e ≡ Memory)) → IfOk x (IsAnswerTo Reads answer)
  refused_so e (Ok b) none (inl f) g no_memory = absurd (no_memory (memory_alone e f))
  refused_so e (Ok b) none (inr h) g no_memory = (Err e, h, g ∙ sym none)
  refused_so e (Err d) none h g no_memory = g

-- a text with a plus sign, and one without
pub behind_plus : (t rest : List ℕ) → t ≡ 43 ∷ rest → rest ≡ signless t
behind_plus t rest e = sym (ap signless e)

pub no_plus : (t : List ℕ) → ((rest : List ℕ) → ¬ (t ≡ 43 ∷ rest)) → t ≡ signless t
no_plus [] h = refl
no_plus (c ∷ cs) h = sym (cond-false (c == 43) cs (c ∷ cs) (ne_eqb c 43 (λ e. h cs (ap (λ d. d ∷ cs) e))))
