-- A table of which the first lines were taken, and its end.
use Rattle.std.proofs.Common.{◌≡◌, ℕ, ◌+◌, ◌-◌, ◌<◌, ◌≤◌, List, [], ◌∷◌, ◌++◌, length, take, drop, get_or, refl, ap, ap₂, sym, subst, ◌∙◌, arith, append_assoc, append-nil, length-append, add-one, drop-cons}
use Rattle.std.specs.List.{slice_range}
use Rattle.std.proofs.Math.Seq.{take-add, take-append_seam}
use Rattle.std.proofs.lemmas.List.{length-drop, length-take, take-append-drop, take_rest}
use Rattle.std.proofs.lemmas.List.Folds.{drop_split}
use Rattle.phone_lines.specs.Lines.{last_line, without_return, AreCut, AreLines, IsUnbroken}
use Rattle.phone_lines.proofs.CutLemmas.{cut_of, AreCut-then}
use Rattle.phone_prefixes.specs.declared.fault.LineFault.{LineFault}
use Rattle.phone_prefixes.specs.declared.span.Span.{Span}
use Rattle.phone_prefixes.specs.declared.node.Node.{Node}
use Rattle.phone_prefixes.specs.declared.fault.PrefixesError.{PrefixesError}
use Rattle.phone_prefixes.specs.declared.fault.PrefixesError.TheVariants as error
use Rattle.phone_prefixes.specs.Refusals.{IsFault, IsFirstFault, Refuses, RefusesLine}
use Rattle.phone_prefixes.specs.Spans.{entries_in, IsLoaded}
use Rattle.phone_prefixes.specs.Loads.{IsSoFar}
use Rattle.phone_prefixes.specs.Tables.{AreEntries, Entry, IsOneMore, IsTable}
use Rattle.phone_prefixes.specs.Tables.AreEntries.{none, next}

pub so_far_none : (bytes : List ℕ) (spans : List Span) (nodes : List Node) → spans ≡ [] → IsLoaded bytes spans nodes → IsSoFar bytes 0 spans nodes
so_far_none bytes spans nodes e loaded = record {
  within = omega arith;
  loaded = loaded;
  lines = [];
  cut = record { whole = refl; unbroken = tt; last_unbroken = refl };
  are = subst (λ s. AreEntries [] (entries_in bytes s)) (sym e) none;
}

-- as many entries as lines
pub entries_count : (lines : List (List ℕ)) (entries : List Entry) → AreEntries lines entries → length entries ≡ length lines
entries_count _ _ none = refl
entries_count _ _ (next lines entries all line are more) =
    ap length more.all ∙ length-append entries (more.entry ∷ []) ∙ ap (λ n. n + 1) (entries_count lines entries are) ∙ sym (length-append lines (line ∷ []))

-- a line that a line feed ends
ended_line : (line : List ℕ) → IsUnbroken line → AreCut (line ++ 10 ∷ []) (line ∷ []) []
ended_line line h = record { whole = sym (append-nil _) ∙ ap (λ xs. xs ++ []) (sym (append-nil _)); unbroken = (h, tt); last_unbroken = refl }

module _ (bytes : List ℕ) (at end : ℕ) (spans : List Span) (nodes : List Node) (so_far : IsSoFar bytes at spans nodes) where
  abbrev line : List ℕ
  line = slice_range bytes at end

  module _ (order : at ≤ end) (inside : end < length bytes) (feed : get_or bytes end 0 ≡ 10) (unbroken : IsUnbroken line) where
    -- from the place on there are the line, its line feed and the others
    from : drop at bytes ≡ (line ++ 10 ∷ []) ++ drop (end + 1) bytes
    from =
        drop_split bytes at end order
        ∙ ap (λ xs. line ++ xs) (drop-cons bytes end 0 inside ∙ ap₂ (λ c n. c ∷ drop n bytes) feed (sym (add-one end)))
        ∙ sym (append_assoc line (10 ∷ []) (drop (end + 1) bytes))

    further : take (end + 1) bytes ≡ take at bytes ++ (line ++ 10 ∷ [])
    further =
        let ended : List ℕ = line ++ 10 ∷ [] in
        let n : end + 1 ≡ at + length ended = omega (arith, length-append line (10 ∷ []), length-take (end - at) (drop at bytes), length-drop at bytes, order, inside) in
        ap (λ k. take k bytes) n ∙ take-add at (length ended) bytes
        ∙ ap (λ xs. take at bytes ++ take (length ended) xs) from
        ∙ ap (λ xs. take at bytes ++ xs) (take-append_seam ended (drop (end + 1) bytes))

    pub so_far_next : (more : List Span) (after : List Node) → IsLoaded bytes more after → IsOneMore (entries_in bytes spans) (without_return line) (entries_in bytes more) → IsSoFar bytes (end + 1) more after
    so_far_next more after loaded one = record {
      within = omega (arith, inside);
      loaded = loaded;
      lines = so_far.lines ++ line ∷ [];
      cut = subst (λ xs. AreCut xs (so_far.lines ++ line ∷ []) []) (sym further)
          (AreCut-then (take at bytes) (line ++ 10 ∷ []) so_far.lines (line ∷ []) [] [] so_far.cut (ended_line line unbroken));
      are = next so_far.lines (entries_in bytes spans) (entries_in bytes more) line so_far.are one;
    }

    pub fault_next : (number : ℕ) (what : LineFault) → number ≡ length (entries_in bytes spans) + 1 → IsFault (entries_in bytes spans) (without_return line) what → IsFirstFault bytes number what
    fault_next number what e fault =
        let others = cut_of (drop (end + 1) bytes) in
        let rest : AreCut (drop at bytes) (line ∷ others.lines) others.last =
        subst (λ xs. AreCut xs (line ∷ others.lines) others.last) (sym from) (AreCut-then (line ++ 10 ∷ []) (drop (end + 1) bytes) (line ∷ []) others.lines [] others.last (ended_line line unbroken) others.are) in
        let all : AreCut bytes (so_far.lines ++ line ∷ others.lines) others.last =
        subst (λ xs. AreCut xs (so_far.lines ++ line ∷ others.lines) others.last) (take-append-drop at bytes) (AreCut-then (take at bytes) (drop at bytes) so_far.lines (line ∷ others.lines) [] others.last so_far.cut rest) in
        record {
          before = so_far.lines;
          line = line;
          after = others.lines ++ last_line others.last;
          lines = (so_far.lines ++ line ∷ others.lines, others.last, all, sym (append_assoc so_far.lines (line ∷ others.lines) (last_line others.last)));
          entries = entries_in bytes spans;
          are = so_far.are;
          counted = e ∙ ap (λ n. n + 1) (entries_count so_far.lines _ so_far.are);
          fault = fault;
        }

-- a line that is refused refuses the bytes
pub refuses_by : (bytes line : List ℕ) (entries : List Entry) (e : PrefixesError) → RefusesLine entries line e →
    ((number : ℕ) (what : LineFault) → number ≡ length entries + 1 → IsFault entries line what → IsFirstFault bytes number what) → Refuses bytes e
refuses_by bytes line entries (error.Line number what) h f = f number what h.0 h.1
refuses_by bytes line entries error.Source h f = h
refuses_by bytes line entries error.Memory h f = tt

module _ (bytes : List ℕ) (at : ℕ) (spans : List Span) (nodes : List Node) (so_far : IsSoFar bytes at spans nodes) (unbroken : IsUnbroken (drop at bytes)) where
  -- what stands after the last line feed
  last_cut : AreCut bytes so_far.lines (drop at bytes)
  last_cut = record {
    whole = sym (take-append-drop at bytes) ∙ ap (λ xs. xs ++ drop at bytes) (so_far.cut.whole ∙ append-nil _);
    unbroken = so_far.cut.unbroken;
    last_unbroken = unbroken;
  }

  nil_of : (xs : List ℕ) → length xs ≡ 0 → xs ≡ []
  nil_of [] e = refl
  nil_of (x ∷ xs) e = absurd (omega (arith, e))

  pub table_ends : length bytes ≤ at → IsTable bytes (entries_in bytes spans)
  table_ends past = (so_far.lines, (so_far.lines, drop at bytes, last_cut, sym (append-nil so_far.lines) ∙ ap (λ xs. so_far.lines ++ last_line xs) (sym (nil_of (drop at bytes) (omega (arith, length-drop at bytes, past))))), so_far.are)

  last_line_some : (xs : List ℕ) → 0 < length xs → last_line xs ≡ xs ∷ []
  last_line_some [] some = absurd (omega (arith, some))
  last_line_some (x ∷ xs) some = refl

  module _ (inside : at < length bytes) where
    abbrev last : List ℕ
    last = slice_range bytes at (length bytes)

    is_last : last ≡ drop at bytes
    is_last = take_rest bytes at

    lines : AreLines bytes (so_far.lines ++ last ∷ [])
    lines = (so_far.lines, drop at bytes, last_cut, ap (λ xs. so_far.lines ++ xs) (ap (λ x. x ∷ []) is_last ∙ sym (last_line_some (drop at bytes) (omega (arith, length-drop at bytes, inside)))))

    pub table_last : (more : List Span) → IsOneMore (entries_in bytes spans) (without_return last) (entries_in bytes more) → IsTable bytes (entries_in bytes more)
    table_last more one = (so_far.lines ++ last ∷ [], lines, next so_far.lines (entries_in bytes spans) (entries_in bytes more) last so_far.are one)

    pub fault_last : (number : ℕ) (what : LineFault) → number ≡ length (entries_in bytes spans) + 1 → IsFault (entries_in bytes spans) (without_return last) what → IsFirstFault bytes number what
    fault_last number what e fault = record {
      before = so_far.lines;
      line = last;
      after = [];
      lines = lines;
      entries = entries_in bytes spans;
      are = so_far.are;
      counted = e ∙ ap (λ n. n + 1) (entries_count so_far.lines _ so_far.are);
      fault = fault;
    }
