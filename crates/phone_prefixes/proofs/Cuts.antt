-- Where the parts of a line stand in the bytes.
use Rattle.std.proofs.Common.{◌≡◌, ℕ, ◌+◌, ◌-◌, ◌<◌, ◌≤◌, ◌==◌, Bool, true, false, cond, List, [], ◌∷◌, ◌++◌, length, take, drop, refl, ap, ap₂, sym, ◌∙◌, arith, length-append}
use Rattle.std.specs.List.{slice_range}
use Rattle.std.proofs.Math.Seq.{take-append_seam}
use Rattle.std.proofs.lemmas.List.{drop-drop, drop-take, length-drop, length-take, take-append-drop, take-append-le}
use Rattle.phone_lines.specs.Lines.{without_return}
use Rattle.phone_prefixes.specs.Spans.{entry_in, parted_at}
use Rattle.phone_prefixes.specs.Tables.{Entry}

-- what stands in front of a carriage return begins the line
return_front : (line : List ℕ) → (rest : List ℕ) × (line ≡ without_return line ++ rest)
return_front [] = ([], refl)
return_front (c ∷ []) = step (c == 13)
  where
    step : (b : Bool) → (rest : List ℕ) × (c ∷ [] ≡ cond b [] (c ∷ []) ++ rest)
    step true = (c ∷ [], refl)
    step false = ([], refl)
return_front (c ∷ d ∷ cs) = let r = return_front (d ∷ cs) in (r.0, ap (λ xs. c ∷ xs) r.1)

-- fewer of the first
pub take_fewer : (m n : ℕ) (xs : List ℕ) → m ≤ n → m ≤ length xs → take m (take n xs) ≡ take m xs
take_fewer m n xs less within = sym (take-append-le m (take n xs) (drop n xs) (omega (arith, length-take n xs, less, within))) ∙ ap (take m) (take-append-drop n xs)

module _ (bytes : List ℕ) (start end : ℕ) (order : start ≤ end) (inside : end ≤ length bytes) where
  abbrev from : List ℕ
  from = drop start bytes

  abbrev line : List ℕ
  line = without_return (slice_range bytes start end)

  pub line_length : length line ≤ end - start
  line_length =
      let r = return_front (slice_range bytes start end) in
      omega (arith, ap length r.1, length-append line r.0, length-take (end - start) from)

  within : length line ≤ length from
  within = omega (arith, line_length, length-drop start bytes, order, inside)

  line_is : line ≡ take (length line) from
  line_is =
      let r = return_front (slice_range bytes start end) in
      sym (take-append_seam line r.0) ∙ ap (take (length line)) (sym r.1) ∙ take_fewer (length line) (end - start) from line_length within

  -- the parts of the line stand there
  pub parts_stand : (tab : ℕ) → tab < length line → entry_in bytes (record { start = start; tab = start + tab; end = start + length line }) ≡ parted_at line tab
  parts_stand tab less = ap₂ (λ (a b : List ℕ). let e : Entry = record { prefix = a; text = b } in e) prefix text
    where
      prefix : slice_range bytes start (start + tab) ≡ take tab line
      prefix =
          let n : (start + tab) - start ≡ tab = omega arith in
          ap (λ k. take k from) n ∙ sym (take_fewer tab (length line) from (omega (arith, less)) (omega (arith, less, within))) ∙ ap (take tab) (sym line_is)

      text : slice_range bytes ((start + tab) + 1) (start + length line) ≡ drop (tab + 1) line
      text =
          let n : (start + length line) - ((start + tab) + 1) ≡ length line - (tab + 1) = omega arith in
          let m : (tab + 1) + (length line - (tab + 1)) ≡ length line = omega (arith, less) in
          let at : start + (tab + 1) ≡ (start + tab) + 1 = omega arith in
          ap₂ (λ k i. take k (drop i bytes)) n (sym at)
          ∙ ap (take (length line - (tab + 1))) (sym (drop-drop (tab + 1) start bytes))
          ∙ sym (drop-take (tab + 1) (length line - (tab + 1)) from)
          ∙ ap (λ k. drop (tab + 1) (take k from)) m
          ∙ ap (drop (tab + 1)) (sym line_is)
