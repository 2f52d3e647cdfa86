-- Bytes that pass one after the other, and what is known at the end of all of them.
use Rattle.std.proofs.Common.{◌≡◌, ℕ, ◌+◌, ◌-◌, List, [], ◌++◌, take, drop, length, Option, Some, None, Result, Ok, Err, append_assoc, subst, sym, ap, ap₂, ◌∙◌, refl, arith, ne_eqb}
use Rattle.std.specs.Prelude.{OnErr}
use Rattle.std.proofs.Math.Seq.{take-append_seam, take-length}
use Rattle.std.proofs.lemmas.List.{append-nil, drop-drop, length-drop, take-append-drop}
use Rattle.phone_device.specs.Passing.{Passes, IsAll, IsAtEnd, Takes, TakesFront, faults_of_write}

-- nothing has passed yet
pub Passes-nothing : (a : Option (List ℕ)) → Passes a [] a
Passes-nothing None = refl
Passes-nothing (Some all) = (all, refl, refl)

after_some : (all x y middle : List ℕ) (c : Option (List ℕ)) → all ≡ x ++ middle → Passes (Some middle) y c → Passes (Some all) (x ++ y) c
after_some all x y middle c e q = (q.0, e ∙ ap (λ t. x ++ t) q.1 ∙ sym (append_assoc x y q.0), q.2)

-- what passes one after the other passes together
pub Passes-then : (a b c : Option (List ℕ)) (x y : List ℕ) → Passes a x b → Passes b y c → Passes a (x ++ y) c
Passes-then None b c x y p q = subst (λ b. Passes b y c) p q
Passes-then (Some all) b c x y p q = after_some all x y p.0 c p.1 (subst (λ b. Passes b y c) p.2 q)

all_some : (all x rest : List ℕ) → all ≡ x ++ rest → IsAtEnd (Some rest) → x ≡ all
all_some all x rest e h = sym (e ∙ ap (λ t. x ++ t) (sym h) ∙ append-nil x)

-- what passed is all, where none are to come after it
pub Passes-all : (a b : Option (List ℕ)) (x : List ℕ) → Passes a x b → IsAtEnd b → IsAll a x
Passes-all None b x p h = tt
Passes-all (Some all) b x p h = all_some all x p.0 p.1 (subst IsAtEnd p.2 h)

-- where none are to come, none are to come after nothing has passed
pub IsAtEnd-after : (a b : Option (List ℕ)) → Passes a [] b → IsAtEnd a → IsAtEnd b
IsAtEnd-after None b p h = subst IsAtEnd (sym p) h
IsAtEnd-after (Some all) b p h = subst IsAtEnd (sym p.2) (h ∙ p.1)

-- what was taken so far of these bytes, where this is still to be written
pub record TakenSoFar (before : Option (List ℕ)) (bytes rest : List ℕ) (after : Option (List ℕ)) : Type 0 where
  pub front : List ℕ
  pub whole : bytes ≡ front ++ rest
  pub taken : Takes before front after

takes_nothing : (a : Option (List ℕ)) → Takes a [] a
takes_nothing None = refl
takes_nothing (Some all) = ap (λ t. Some t) (sym (append-nil all))

takes_then : (a b c : Option (List ℕ)) (x y : List ℕ) → Takes a x b → Takes b y c → Takes a (x ++ y) c
takes_then None b c x y p q = subst (λ b. Takes b y c) p q
takes_then (Some all) b c x y p q = let e : Takes (Some (all ++ x)) y c = subst (λ b. Takes b y c) p q in e ∙ ap (λ t. Some t) (append_assoc all x y)

-- nothing was taken yet
pub TakenSoFar-nothing : (a : Option (List ℕ)) (bytes : List ℕ) → TakenSoFar a bytes bytes a
TakenSoFar-nothing a bytes = record { front = []; whole = refl; taken = takes_nothing a }

-- a write took n more bytes
pub TakenSoFar-then : (a b c : Option (List ℕ)) (bytes rest : List ℕ) (n : ℕ) →
    TakenSoFar a bytes rest b → Takes b (take n rest) c → TakenSoFar a bytes (drop n rest) c
TakenSoFar-then a b c bytes rest n s t = record {
  front = s.front ++ take n rest;
  whole = s.whole ∙ ap (λ r. s.front ++ r) (sym (take-append-drop n rest)) ∙ sym (append_assoc s.front (take n rest) (drop n rest));
  taken = takes_then a b c s.front (take n rest) s.taken t;
}

-- all was taken, where nothing is still to be written
pub TakenSoFar-all : (a b : Option (List ℕ)) (bytes rest : List ℕ) → rest ≡ [] → TakenSoFar a bytes rest b → Takes a bytes b
TakenSoFar-all a b bytes rest e s =
    subst (λ x. Takes a x b) (sym (s.whole ∙ ap (λ r. s.front ++ r) e ∙ append-nil s.front)) s.taken

-- a beginning was taken
pub TakenSoFar-front : (a b : Option (List ℕ)) (bytes rest : List ℕ) → TakenSoFar a bytes rest b → TakesFront a bytes b
TakenSoFar-front a b bytes rest s = record { front = s.front; rest = rest; whole = s.whole; taken = s.taken }

-- a write that took some bytes is no fault
no_fault : (n : ℕ) (bytes : List ℕ) → (n ≡ 0 → ⊥) → faults_of_write n bytes ≡ 0
no_fault n bytes some = rw (ne_eqb n 0 some)

pub same_after : (first before after n : ℕ) (bytes : List ℕ) → after ≡ before + faults_of_write n bytes → (n ≡ 0 → ⊥) → before ≡ first → after ≡ first
same_after first before after n bytes counted some same = omega (arith, counted, no_fault n bytes some, same)

-- what is left of a list from a place on ends where the list does
pub to_end : (p : ℕ) (xs : List ℕ) → take (length xs - p) (drop p xs) ≡ drop p xs
to_end p xs = subst (λ k. take k (drop p xs) ≡ drop p xs) (length-drop p xs) (take-length (drop p xs))

-- what was copied from the front of the rest, and what is still to come
pub passed_on : (items copied tail : List ℕ) (p n : ℕ) → copied ≡ take n (drop p items) → length copied ≡ n →
    drop p items ≡ take n (copied ++ tail) ++ drop (p + n) items
passed_on items copied tail p n e len =
    let seam : take n (copied ++ tail) ≡ copied = subst (λ k. take k (copied ++ tail) ≡ copied) len (take-append_seam copied tail) in
    sym (take-append-drop n (drop p items)) ∙ ap₂ (λ a b. a ++ b) (sym (seam ∙ e)) (drop-drop n p items)

-- what holds anyway holds of a refusal
pub on_err : {T E : Type 0} (r : Result T E) (P : Type 0) → P → OnErr r P
on_err (Ok x) P p = tt
on_err (Err e) P p = p
