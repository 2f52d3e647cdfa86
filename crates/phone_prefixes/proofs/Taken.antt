-- What a line gives that is taken, and one that is refused.
use Rattle.std.proofs.Common.{◌≡◌, ℕ, ◌+◌, ◌<◌, ◌≤◌, List, [], ◌∷◌, ◌++◌, length, take, Option, Some, None, true, refl, ap, sym, subst, ◌∙◌, arith}
use Rattle.std.proofs.lemmas.Bool.{false≢true}
use Rattle.std.specs.Prelude.{IsSome}
use Rattle.std.specs.List.{slice_range}
use Rattle.phone_lines.specs.Lines.{without_return}
use Rattle.phone_prefixes.specs.declared.fault.LineFault.{LineFault}
use Rattle.phone_prefixes.specs.declared.fault.LineFault.TheVariants as fault
use Rattle.phone_prefixes.specs.declared.fault.PrefixesError.TheVariants as error
use Rattle.phone_prefixes.specs.declared.node.Node.{Node}
use Rattle.phone_prefixes.specs.declared.span.Span.{Span}
use Rattle.phone_prefixes.specs.Marks.{IsMarked}
use Rattle.phone_prefixes.specs.Nodes.{mark_of, IsTree}
use Rattle.phone_prefixes.specs.Refusals.{of_read, IsNoEntry, Refuses, RefusesLine}
use Rattle.phone_prefixes.specs.Refusals.IsFault.{no_entry, twice}
use Rattle.phone_prefixes.specs.Spans.{entries_in, entry_in, parted_at, IsLoaded, IsSpan}
use Rattle.phone_prefixes.specs.Tables.{is_prefix, Entry, IsEntry, IsOneMore}
use Rattle.std.specs.Str.{IsUtf8}
use Rattle.phone_device.specs.Passing.{IsAll}
use Rattle.phone_device.specs.declared.source.ReadError.{ReadError}
use Rattle.phone_device.specs.declared.source.ReadError.TheVariants as read
use Rattle.phone_prefixes.specs.declared.fault.PrefixesError.{PrefixesError}
use Rattle.phone_prefixes.proofs.Cuts.{line_length, parts_stand}
use Rattle.phone_prefixes.proofs.Entries.{counted, has_prefix, indexed_more, one_more}

module _ (bytes : List ℕ) (spans : List Span) (nodes : List Node) (loaded : IsLoaded bytes spans nodes) (line : List ℕ) (number : ℕ) (count : number ≡ length spans) where
  next_number : number + 1 ≡ length (entries_in bytes spans) + 1
  next_number = ap (λ n. n + 1) (count ∙ sym (counted bytes spans (mark_of nodes) loaded.indexed))

  -- a line that is no entry's
  pub refused_line : (what : LineFault) → IsNoEntry line what → RefusesLine (entries_in bytes spans) line (error.Line (number + 1) what)
  refused_line what h = (next_number, no_entry what h)

  -- a line whose prefix an earlier one has
  pub refused_twice : (tab : ℕ) → IsEntry line (parted_at line tab) → IsSome (mark_of nodes (take tab line)) → RefusesLine (entries_in bytes spans) line (error.Line (number + 1) fault.PrefixTwice)
  refused_twice tab entry some = by (mark_of nodes (take tab line)) refl some
    where
      by : (o : Option ℕ) → mark_of nodes (take tab line) ≡ o → IsSome o → RefusesLine (entries_in bytes spans) line (error.Line (number + 1) fault.PrefixTwice)
      by None e s = absurd (false≢true s)
      by (Some k) e s = (next_number, twice (parted_at line tab) entry (has_prefix bytes spans (mark_of nodes) loaded.indexed (take tab line) k e))

-- a line was taken
pub record IsTaken (bytes line : List ℕ) (spans more : List Span) (nodes : List Node) : Type 0 where
  pub loaded : IsLoaded bytes more nodes
  pub one : IsOneMore (entries_in bytes spans) line (entries_in bytes more)

module _ (bytes : List ℕ) (start end tab number : ℕ) (spans : List Span) (old new : List Node) (order : start ≤ end) (inside : end ≤ length bytes) (loaded : IsLoaded bytes spans old) (tree : IsTree new) (count : number ≡ length spans) where
  abbrev span_of : List ℕ → Span
  span_of line = record { start = start; tab = start + tab; end = start + length line }

  -- the line that stands there
  abbrev own : List ℕ
  own = without_return (slice_range bytes start end)

  taken_own : IsEntry own (parted_at own tab) → tab < length own → mark_of old (take tab own) ≡ None → IsMarked (mark_of old) (mark_of new) (take tab own) number → IsTaken bytes own spans (spans ++ span_of own ∷ []) new
  taken_own entry less free marked =
      let e : entry_in bytes (span_of own) ≡ parted_at own tab = parts_stand bytes start end order inside tab less in
      let prefix_e : (entry_in bytes (span_of own)).prefix ≡ take tab own = ap (λ (x : Entry). x.prefix) e in
      let is : IsSpan bytes (span_of own) = record {
        order = (omega arith, omega (arith, less), omega (arith, line_length bytes start end order inside, order, inside));
        prefix = subst (λ (x : Entry). is_prefix x.prefix ≡ true) (sym e) entry.prefix;
        text = subst (λ (x : Entry). IsUtf8 x.text) (sym e) entry.text;
      } in
      let none : mark_of old (entry_in bytes (span_of own)).prefix ≡ None = ap (mark_of old) prefix_e ∙ free in
      let has : IsMarked (mark_of old) (mark_of new) (entry_in bytes (span_of own)).prefix (length spans) =
      subst (λ n. IsMarked (mark_of old) (mark_of new) (entry_in bytes (span_of own)).prefix n) count (subst (λ t. IsMarked (mark_of old) (mark_of new) t number) (sym prefix_e) marked) in
      record {
        loaded = record { tree = tree; indexed = indexed_more bytes spans (mark_of old) loaded.indexed (span_of own) (mark_of new) is none has };
        one = one_more bytes spans (mark_of old) loaded.indexed (span_of own) (mark_of new) is none has own (subst (IsEntry own) (sym e) entry);
      }

  abbrev Takes : List Span → List ℕ → Type 0
  Takes more line = IsEntry line (parted_at line tab) → tab < length line → mark_of old (take tab line) ≡ None → IsMarked (mark_of old) (mark_of new) (take tab line) number →
      more ≡ spans ++ span_of line ∷ [] → IsTaken bytes own spans more new

  pub taken_line : (more : List Span) (line : List ℕ) → line ≡ own → Takes more line
  taken_line more line e = subst (Takes more) (sym e) (λ entry less free marked grew. subst (λ m. IsTaken bytes own spans m new) (sym grew) (taken_own entry less free marked))

-- some bytes are all that come
all_of : (to_come : Option (List ℕ)) → (bytes : List ℕ) × IsAll to_come bytes
all_of None = ([], tt)
all_of (Some all) = (all, refl)

-- a read that is refused
pub read_refused : (to_come : Option (List ℕ)) (refusal : ReadError) (e : PrefixesError) → e ≡ of_read refusal → (e ≡ error.Source → ⊥) → (bytes : List ℕ) × IsAll to_come bytes × Refuses bytes e
read_refused to_come read.Fault e is other = absurd (other is)
read_refused to_come read.Memory e is other = let all = all_of to_come in (all.0, all.1, subst (Refuses all.0) (sym is) tt)
