use Rattle.std.proofs.Common.{◌≡◌, ◌++◌, ◌∙◌, Bor, List, [], ◌∷◌, Option, None, Some, Result, Ok, Err, IfOk, ap, filter, map, option_map, refl, reverse, subst}
use Rattle.phone_plans.specs.CodeLookUps.{if_any, is_main_of, is_other_of}
use Rattle.phone_records.specs.declared.loader.Metadata.{Metadata}
use Rattle.phone_plans.proofs.CodeLemmas.{territories-parts}
use Rattle.phone_plans.proofs.plans.Plans.by_code.Goals as goal

mapped_any : {X Y : Type 0} (f : X → Y) (xs : List X) → option_map (map f) (if_any xs) ≡ if_any (map f xs)
mapped_any f [] = refl
mapped_any f (x ∷ xs) = refl

mapped : {V X Y : Type 0} (items : V → List X) (f : X → Y) (o : Option V) → option_map (λ v. map f (items v)) o ≡ option_map (map f) (option_map items o)
mapped items f None = refl
mapped items f (Some v) = refl

-- a list that has something in it, seen through a function
seen : {V X Y E : Type 0} (items : V → List X) (f : X → Y) (xs : List X) (ys : List Y) (r : Result (Option V) E) → map f xs ≡ ys →
    IfOk r (λ all. option_map items all ≡ if_any xs) → IfOk r (λ all. option_map (λ v. map f (items v)) all ≡ if_any ys)
seen items f xs ys (Ok all) same h = mapped items f all ∙ ap (option_map (map f)) h ∙ mapped_any f xs ∙ ap if_any same
seen items f xs ys (Err e) same h = tt

pub returns : goal.returns
returns c =
    let now = λ (t : Bor Metadata). t.now in
    let code = c.args.code.now in
    let db = c.args.self.now in
    let mains = subst (λ r. IfOk r (λ v. map now v.items ≡ filter (is_main_of code) db)) c.in_ok-mains.ensures.made.0 c.mains.ensures in
    let others = subst (λ r. IfOk r (λ v. map now v.items ≡ filter (is_other_of code) db)) c.in_ok-mains.ensures.made.1 c.others.ensures in
    let first = c.in_ok-mains.mains.items in
    let last = c.in_ok-mains.others.items in
    let same = territories-parts now code db first (reverse first) last (reverse first ++ last) mains refl others refl in
    seen (λ v. v.items) now (reverse first ++ last) _ c.backwards_before.result same c.backwards_before.ensures
