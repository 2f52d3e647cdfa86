-- The search for a label among several.
use Rattle.std.proofs.Common.{◌≡◌, ℕ, zero, suc, ◌<◌, ◌≤◌, List, [], ◌∷◌, Option, None, Some, Bor, length, take, get_or, refl, ap, sym, ◌∙◌, arith}
use Rattle.std.proofs.lemmas.List.{take_all}
use Rattle.std.specs.Option.{option_or}
use Rattle.std.specs.Str.{chars}
use Rattle.phone_library_text.proofs.Tests.{texts_of}
use Rattle.phone_chars.specs.Cuts.{after_front}
use Rattle.phone_library_text.specs.Announcements.{signs, words}
use Rattle.phone_parts.specs.Suffixes.{is_lead}
use Rattle.phone_matches_text.specs.Extensions.{after_label, after_labelled, after_some_label}

or_none : (a b : Option (List ℕ)) → option_or a b ≡ None → (a ≡ None) × (b ≡ None)
or_none None b h = (refl, h)
or_none (Some x) b h = absurd (cc)

labels_next : (most : ℕ) (t : List ℕ) (ls : List (Bor (List ℕ))) (i : ℕ) (other : Bor (List ℕ)) →
    after_some_label most (texts_of (take i ls)) t ≡ None → after_label most t (chars (get_or ls i other).now) ≡ None →
    after_some_label most (texts_of (take (suc i) ls)) t ≡ None
labels_next most t [] i other none here = refl
labels_next most t (l ∷ ls) zero other none here = rw here refl
labels_next most t (l ∷ ls) (suc i) other none here =
    let parts = or_none (after_label most t (chars l.now)) (after_some_label most (texts_of (take i ls)) t) none in
    rw parts.0 (labels_next most t ls i other parts.1 here)

pub labels_more : (most : ℕ) (t : List ℕ) (ls : List (Bor (List ℕ))) (i j : ℕ) (other : Bor (List ℕ)) → j ≡ suc i →
    after_some_label most (texts_of (take i ls)) t ≡ None → after_label most t (chars (get_or ls i other).now) ≡ None →
    after_some_label most (texts_of (take j ls)) t ≡ None
labels_more most t ls i j other next none here =
    ap (λ k. after_some_label most (texts_of (take k ls)) t) next ∙ labels_next most t ls i other none here

pub labels_at : (most : ℕ) (t u : List ℕ) (ls : List (Bor (List ℕ))) (i : ℕ) (other : Bor (List ℕ)) → i < length ls →
    after_some_label most (texts_of (take i ls)) t ≡ None → after_label most t (chars (get_or ls i other).now) ≡ Some u →
    after_some_label most (texts_of ls) t ≡ Some u
labels_at most t u [] i other less none here = absurd (omega arith)
labels_at most t u (l ∷ ls) zero other less none here = rw here refl
labels_at most t u (l ∷ ls) (suc i) other less none here =
    let parts = or_none (after_label most t (chars l.now)) (after_some_label most (texts_of (take i ls)) t) none in
    rw parts.0 (labels_at most t u ls i other (omega arith) parts.1 here)

pub labels_none : (most : ℕ) (t : List ℕ) (ls : List (Bor (List ℕ))) (i : ℕ) → length ls ≤ i →
    after_some_label most (texts_of (take i ls)) t ≡ None → after_some_label most (texts_of ls) t ≡ None
labels_none most t ls i all none =
    ap (λ (k : List (Bor (List ℕ))). after_some_label most (texts_of k) t) (sym (take_all i ls all)) ∙ none

pub labelled_word : (t l x : List ℕ) → l ≡ after_front is_lead t → Some x ≡ after_some_label 20 words l → Some x ≡ after_labelled t
labelled_word t l x e h =
    ap (λ o. option_or o (after_some_label 9 signs (after_front is_lead t))) (h ∙ ap (λ k. after_some_label 20 words k) e)

pub labelled_sign : (t l : List ℕ) (x : Option (List ℕ)) → l ≡ after_front is_lead t → None ≡ after_some_label 20 words l →
    x ≡ after_some_label 9 signs l → x ≡ after_labelled t
labelled_sign t l x e none h =
    h ∙ ap (λ k. after_some_label 9 signs k) e
    ∙ ap (λ o. option_or o (after_some_label 9 signs (after_front is_lead t))) (none ∙ ap (λ k. after_some_label 20 words k) e)
