-- Bytes that are written one after the other.
use Rattle.std.proofs.Common.{◌≡◌, ℕ, ◌+◌, List, [], ◌∷◌, ◌++◌, Option, None, Some, Result, Ok, Err}
use Rattle.std.proofs.Common.{append_assoc, ap, arith, drop, get_or, length, refl, subst, suc, sym}
use Rattle.std.proofs.Common.{take, zero, ◌<◌, ◌∙◌, inl, inr}
use Rattle.std.specs.Prelude.{IsErr, MatchResult, OnErr, OnOk, flat_map, ⊤}
use Rattle.std.proofs.lemmas.List.{append-nil}
use Rattle.phone_device.specs.Passing.{Takes, TakesFront}
use Rattle.phone_engine.specs.Programs.{IsTold}
use Rattle.phone_lines.specs.Ends.{seen}
use Rattle.phone_cli.specs.Abouts.{Tells}
use Rattle.phone_cli.specs.Abouts.Tells.{broken_off, whole}
use Rattle.phone_cli.specs.Streams.{Writes}

takes_nothing : (a : Option (List ℕ)) → Takes a [] a
takes_nothing None = refl
takes_nothing (Some all) = ap (λ t. Some t) (sym (append-nil all))

-- what is taken in two parts
pub takes_then : (a b c : Option (List ℕ)) (x y : List ℕ) → Takes a x b → Takes b y c →
    Takes a (x ++ y) c
takes_then None b c x y p q = subst (λ b. Takes b y c) p q
takes_then (Some all) b c x y p q =
    let e : Takes (Some (all ++ x)) y c = subst (λ b. Takes b y c) p q in
    e ∙ ap (λ t. Some t) (append_assoc all x y)

-- a beginning of what is still to be written, behind what was taken
front_then : (a b c : Option (List ℕ)) (x y : List ℕ) → Takes a x b → TakesFront b y c →
    TakesFront a (x ++ y) c
front_then a b c x y t f = record {
  front = x ++ f.front;
  rest = f.rest;
  whole = ap (λ r. x ++ r) f.whole ∙ sym (append_assoc x f.front f.rest);
  taken = takes_then a b c x f.front t f.taken;
}

-- a beginning of bytes, where more were to be written
front_more : (a b : Option (List ℕ)) (x y : List ℕ) → TakesFront a x b → TakesFront a (x ++ y) b
front_more a b x y f = record {
  front = f.front;
  rest = f.rest ++ y;
  whole = ap (λ r. r ++ y) f.whole ∙ append_assoc f.front f.rest y;
  taken = f.taken;
}

-- all bytes were taken, without a failure
abbrev pub AreWritten : List ℕ → Option (List ℕ) → ℕ → Option (List ℕ) → ℕ → Type 0
AreWritten x a m b n = Takes a x b × (n ≡ m)

-- the sink failed once, and took a beginning of the bytes
abbrev pub AreBroken : List ℕ → Option (List ℕ) → ℕ → Option (List ℕ) → ℕ → Type 0
AreBroken x a m b n = TakesFront a x b × (n ≡ m + 1)

-- nothing was written
pub none_written : (a : Option (List ℕ)) (n : ℕ) → AreWritten [] a n a n
none_written a n = (takes_nothing a, refl)

-- what was written behind what was written
pub written_then : (x y : List ℕ) (a b c : Option (List ℕ)) (m n k : ℕ) →
    AreWritten x a m b n → AreWritten y b n c k → AreWritten (x ++ y) a m c k
written_then x y a b c m n k p q = (takes_then a b c x y p.0 q.0, q.1 ∙ p.1)

-- what was broken off behind what was written
pub broken_then : (x y : List ℕ) (a b c : Option (List ℕ)) (m n k : ℕ) →
    AreWritten x a m b n → AreBroken y b n c k → AreBroken (x ++ y) a m c k
broken_then x y a b c m n k p q =
    (front_then a b c x y p.0 q.0, q.1 ∙ ap (λ i. i + 1) p.1)

-- what was broken off, where more was to be written
pub broken_more : (x y : List ℕ) (a b : Option (List ℕ)) (m n : ℕ) → AreBroken x a m b n →
    AreBroken (x ++ y) a m b n
broken_more x y a b m n w = (front_more a b x y w.0, w.1)

-- items that are written one after the other: those before a place, the one there, the others
joined_at : {X : Type 0} (f : X → List ℕ) (xs : List X) (i : ℕ) (d : X) → i < length xs →
    flat_map f xs ≡ flat_map f (take i xs) ++ (f (get_or xs i d) ++ flat_map f (drop (suc i) xs))
joined_at f [] i d h = absurd (omega arith)
joined_at f (x ∷ xs) zero d h = refl
joined_at f (x ∷ xs) (suc i) d h =
    ap (λ t. f x ++ t) (joined_at f xs i d (omega arith)) ∙
    sym (append_assoc (f x) (flat_map f (take i xs))
    (f (get_or xs i d) ++ flat_map f (drop (suc i) xs)))

-- what was broken off in the item at a place, behind those before it
pub broken_at : {X : Type 0} (f : X → List ℕ) (xs : List X) (i : ℕ) (d : X)
    (a b c : Option (List ℕ)) (m n k : ℕ) → i < length xs →
    AreWritten (flat_map f (take i xs)) a m b n → AreBroken (f (get_or xs i d)) b n c k →
    AreBroken (flat_map f xs) a m c k
broken_at f xs i d a b c m n k h p q =
    subst (λ t. AreBroken t a m c k) (sym (joined_at f xs i d h))
    (broken_then (flat_map f (take i xs)) (f (get_or xs i d) ++ flat_map f (drop (suc i) xs))
    a b c m n k p
    (broken_more (f (get_or xs i d)) (flat_map f (drop (suc i) xs)) b c n k q))

-- a write that failed
pub writes_broken : {E : Type 0} (x : List ℕ) (a b : Option (List ℕ)) (m n : ℕ)
    (end : Result ⊤ E) → IsErr end → AreBroken x a m b n → Writes x a m b n end
writes_broken x a b m n (Ok v) is w = absurd (cc)
writes_broken x a b m n (Err e) is w = w

-- a write of all bytes, by its four clauses
pub writes_all : {E : Type 0} (x : List ℕ) (a b : Option (List ℕ)) (m n : ℕ) (end : Result ⊤ E) →
    OnOk end (Takes a x b) → OnOk end (n ≡ m) → OnErr end (TakesFront a x b) →
    OnErr end (n ≡ m + 1) → Writes x a m b n end
writes_all x a b m n (Ok v) t e f g = (t, e)
writes_all x a b m n (Err v) t e f g = (f, g)

-- a write behind what was written
pub writes_then : {E : Type 0} (x y : List ℕ) (a b c : Option (List ℕ)) (m n k : ℕ)
    (end : Result ⊤ E) → AreWritten x a m b n → Writes y b n c k end →
    Writes (x ++ y) a m c k end
writes_then x y a b c m n k (Ok v) p q = written_then x y a b c m n k p q
writes_then x y a b c m n k (Err v) p q = broken_then x y a b c m n k p q

-- a failed flush behind what was written leaves a beginning of it
pub writes_unflushed : {E : Type 0} (x : List ℕ) (a b c : Option (List ℕ)) (m n k : ℕ)
    (end : Result ⊤ E) → AreWritten x a m b n → c ≡ b → OnOk end (k ≡ n) →
    OnErr end (k ≡ n + 1) → Writes x a m c k end
writes_unflushed x a b c m n k (Ok v) p same e g =
    (subst (λ o. Takes a x o) (sym same) p.0, e ∙ p.1)
writes_unflushed x a b c m n k (Err v) p same e g = (
  record {
    front = x;
    rest = [];
    whole = sym (append-nil x);
    taken = subst (λ o. Takes a x o) (sym same) p.0;
  },
  g ∙ ap (λ i. i + 1) p.1,
)

-- a line that was written is told, or a beginning of it
pub told_of : {E : Type 0} (line : List ℕ) (a b : Option (List ℕ)) (m n : ℕ) (end : Result ⊤ E) →
    Writes line a m b n end → IsTold a m line b n
told_of line a b m n (Ok v) w = inl w
told_of line a b m n (Err v) w = inr w

-- a text that the program tells of itself, by how its writing ended
pub tells_of : {E : Type 0} (text : List ℕ) (to_come : Option (List ℕ)) (reads : ℕ)
    (a b : Option (List ℕ)) (m n u v : ℕ) (end : Result ⊤ E) (status : ℕ) →
    Writes text a m b n end → OnOk end (v ≡ 0) →
    MatchResult end (λ _. status ≡ 0) (λ _. status ≡ 1) →
    Tells text (seen to_come reads a m u) (seen to_come reads b n v) status
tells_of text to_come reads a b m n u v (Ok x) status w flushed is =
    subst (λ s. Tells text (seen to_come reads a m u) (seen to_come reads b n v) s) (sym is)
    (whole record {
      unread = record { to_come = refl; faults = refl };
      taken = w.0;
      handed_on = flushed;
      no_fault = w.1;
    })
tells_of text to_come reads a b m n u v (Err e) status w flushed is =
    subst (λ s. Tells text (seen to_come reads a m u) (seen to_come reads b n v) s) (sym is)
    (broken_off record {
      unread = record { to_come = refl; faults = refl };
      taken = w.0;
      fault = w.1;
    })
