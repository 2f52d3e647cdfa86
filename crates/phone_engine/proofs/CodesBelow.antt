-- One more calling code is looked at.
use Rattle.std.proofs.Common.{◌≡◌, ◌+◌, ◌++◌, ◌∷◌, [], ℕ, List, cond, true, false, filter, map, refl, sym, ap, ◌∙◌, arith}
use Rattle.std.proofs.lemmas.List.{append-nil}
use Rattle.std.proofs.lemmas.List.FromFn.{filter_of_map_range_with_len_more}
use Rattle.std.specs.List.{range_with_len}
use Rattle.phone_plans.specs.CodeLookUps.{is_listed}
use Rattle.phone_records.specs.declared.loader.Metadata.{Metadata}
use Rattle.phone_engine.specs.Listed.{codes_below}

pub none : (db : List Metadata) → codes_below db 0 ≡ []
unfolding codes_below
none db = refl

same : (xs : List ℕ) → map (λ x. x) xs ≡ xs
same [] = refl
same (x ∷ xs) = ap (λ ys. x ∷ ys) (same xs)

one_more : (db : List Metadata) (n : ℕ) →
    codes_below db (n + 1) ≡ codes_below db n ++ cond (is_listed n db) (n ∷ []) []
unfolding codes_below
one_more db n =
    let p = λ (code : ℕ). is_listed code db in
    sym (ap (filter p) (same (range_with_len 0 (n + 1)))) ∙
    (filter_of_map_range_with_len_more p (λ x. x) 0 n n (omega arith) ∙
    ap (λ xs. filter p xs ++ cond (p n) (n ∷ []) []) (same (range_with_len 0 n)))

pub with_listed : (db : List Metadata) (n : ℕ) → is_listed n db ≡ true →
    codes_below db (n + 1) ≡ codes_below db n ++ n ∷ []
with_listed db n is = one_more db n ∙ ap (λ b. codes_below db n ++ cond b (n ∷ []) []) is

pub without_listed : (db : List Metadata) (n : ℕ) → is_listed n db ≡ false →
    codes_below db (n + 1) ≡ codes_below db n
without_listed db n is =
    one_more db n ∙ (ap (λ b. codes_below db n ++ cond b (n ∷ []) []) is ∙ append-nil (codes_below db n))
