-- What one more text, and one more row, does to the counts.
use Rattle.std.proofs.Common.{◌≡◌, ℕ, ◌+◌, ◌-◌, ◌^◌, ◌<◌, Bool, true, false, cond, List, [], ◌∷◌, ◌++◌, Some, refl, sym, ap, subst, ◌∙◌, arith, unwrap_or, count_by, min, length, take, get_or, append_assoc}
use Rattle.std.specs.Prelude.{flat_map, map}
use Rattle.std.specs.Borrow.{Bor}
use Rattle.std.specs.BTreeMap.{get_by_text}
use Rattle.std.specs.Cmp.Lexicographic.{bytes_decides, nat_list_eq_equiv}
use Rattle.std.specs.Str.{IsUtf8, bytes_eq}
use Rattle.std.proofs.lemmas.Grind.{flat_map-append}
use Rattle.std.proofs.lemmas.List.{append-nil, map-append, take_more}
use Rattle.std.proofs.lemmas.List.Sums.{sum_by_push}
use Rattle.phone_table.specs.Summaries.{CountsRow, IsEmpty, IsSummary, Row, texts_in, words}
use Rattle.phone_table.specs.Tallies.{Counted, Counts, CountsMore, IsTally, is_text, times}
use Rattle.phone_table.specs.declared.summary.Summary.{Summary}

-- how many of some texts are this one
abbrev among : List ℕ → List (List ℕ) → ℕ
among text texts = count_by (is_text text) texts

one_more : (text word : List ℕ) (texts : List (List ℕ)) → among text (texts ++ word ∷ []) ≡ among text texts + cond (is_text text word) 1 0
one_more text word texts = sum_by_push _ texts word

no_text : (text : List ℕ) → is_text text [] ≡ false
no_text [] = refl
no_text (c ∷ cs) = refl

same_text : (text : List ℕ) (c : ℕ) (cs : List ℕ) → is_text text (c ∷ cs) ≡ bytes_eq (c ∷ cs) text
same_text [] c cs = refl
same_text (d ∷ ds) c cs = nat_list_eq_equiv.symm (d ∷ ds) (c ∷ cs)

-- a text is other than what is no text
other_text : (text word : List ℕ) → IsUtf8 text → ¬ (IsUtf8 word) → is_text text word ≡ false
other_text [] word is bad = refl
other_text (c ∷ cs) word is bad = by (bytes_eq (c ∷ cs) word) refl
  where
    by : (b : Bool) → bytes_eq (c ∷ cs) word ≡ b → b ≡ false
    by false e = refl
    by true e = absurd (bad (subst IsUtf8 ((bytes_decides (c ∷ cs) word).0 e) is))

-- the count of a text after another one, or the same, was counted
after_put : (before : Counted) (word text : List ℕ) (b : Bool) → bytes_eq word text ≡ b →
    unwrap_or (cond b (Some (min (times before word + 1) (2 ^ 64 - 1))) (get_by_text before text)) 0 ≡
    cond b (min (times before text + 1) (2 ^ 64 - 1)) (times before text)
after_put before word text true is = ap (λ t. min (times before t + 1) (2 ^ 64 - 1)) ((bytes_decides word text).0 is)
after_put before word text false is = refl

capped : (b : Bool) (n m : ℕ) → n ≡ min m (2 ^ 64 - 1) →
    cond b (min (n + 1) (2 ^ 64 - 1)) n ≡ min (m + cond b 1 0) (2 ^ 64 - 1)
capped true n m is = omega (arith, is)
capped false n m is = omega (arith, is)

pub counts_one : (before after : Counted) (word : List ℕ) → Counts before word after → CountsMore before (word ∷ []) after
counts_one before after [] counts texts known text is =
    rw (counts, one_more text [] texts, no_text text) (omega (arith, known text is))
counts_one before after (c ∷ cs) counts texts known text is =
    rw (one_more text (c ∷ cs) texts, same_text text c cs)
    (ap (λ o. unwrap_or o 0) (counts text) ∙ (after_put before (c ∷ cs) text (bytes_eq (c ∷ cs) text) refl ∙
    capped (bytes_eq (c ∷ cs) text) (times before text) (among text texts) (known text is)))

pub counts_no_text : (before : Counted) (word : List ℕ) → ¬ (IsUtf8 word) → CountsMore before (word ∷ []) before
counts_no_text before word bad texts known text is =
    rw (one_more text word texts, other_text text word is bad) (omega (arith, known text is))

pub counts_nothing : (before : Counted) → CountsMore before [] before
counts_nothing before texts known = subst (λ ts. IsTally ts before) (sym (append-nil texts)) known

counts_then : (first now after : Counted) (some more : List (List ℕ)) → CountsMore first some now → CountsMore now more after → CountsMore first (some ++ more) after
counts_then first now after some more h g texts known =
    subst (λ ts. IsTally ts after) (append_assoc texts some more) (g (texts ++ some) (h texts known))

-- a turn of the loop that counts each of some texts
pub counts_turn : (first now after : Counted) (texts : List (Bor (List ℕ))) (k : ℕ) (d : Bor (List ℕ)) → k < length texts →
    CountsMore first (texts_in (take k texts)) now → CountsMore now ((get_or texts k d).now ∷ []) after →
    CountsMore first (texts_in (take (k + 1) texts)) after
counts_turn first now after texts k d small h g =
    let x = get_or texts k d in
    subst (λ ts. CountsMore first ts after)
    (sym (ap texts_in (take_more texts k d small) ∙ map-append (λ (t : Bor (List ℕ)). t.now) (take k texts) (x ∷ [])))
    (counts_then first now after (texts_in (take k texts)) (x.now ∷ []) h g)

in_rows : (told : Row → List ℕ) (rows : List Row) (r : Row) (t : Counted) → IsTally (map told rows ++ told r ∷ []) t → IsTally (map told (rows ++ r ∷ [])) t
in_rows told rows r t h = subst (λ ts. IsTally ts t) (sym (map-append told rows (r ∷ []))) h

abbrev suspicion : Row → List (List ℕ)
suspicion r = words r.suspicion

words_in_rows : (rows : List Row) (r : Row) → flat_map suspicion rows ++ suspicion r ≡ flat_map suspicion (rows ++ r ∷ [])
words_in_rows rows r = sym (flat_map-append suspicion rows (r ∷ []) ∙ ap (λ ws. flat_map suspicion rows ++ ws) (append-nil (suspicion r)))

-- a summary of rows, and one row more
pub one_row : (before after : Summary) (r : Row) → CountsMore before.kinds (r.kind ∷ []) after.kinds → CountsMore before.regions (r.region ∷ []) after.regions →
    CountsMore before.refusals (r.refusal ∷ []) after.refusals → CountsMore before.suspicions (words r.suspicion) after.suspicions → CountsRow before r after
one_row before after r kinds regions refusals suspicions rows is = record {
  kinds = in_rows (λ (x : Row). x.kind) rows r after.kinds (kinds (map (λ (x : Row). x.kind) rows) is.kinds);
  regions = in_rows (λ (x : Row). x.region) rows r after.regions (regions (map (λ (x : Row). x.region) rows) is.regions);
  refusals = in_rows (λ (x : Row). x.refusal) rows r after.refusals (refusals (map (λ (x : Row). x.refusal) rows) is.refusals);
  suspicions = subst (λ ws. IsTally ws after.suspicions) (words_in_rows rows r) (suspicions (flat_map suspicion rows) is.suspicions);
}

pub empty_summary : (s : Summary) → IsEmpty s → IsSummary [] s
empty_summary s e = record {
  kinds = λ text is. omega (arith, e.kinds text);
  regions = λ text is. omega (arith, e.regions text);
  refusals = λ text is. omega (arith, e.refusals text);
  suspicions = λ text is. omega (arith, e.suspicions text);
}
