-- How parts add up to branches, and branches to a pattern.
use Rattle.std.proofs.Common.{◌≡◌, ◌≤◌, ◌<◌, ◌+◌, ◌*◌, ◌∙◌, ◌++◌, ◌||◌, ℕ, zero, suc, true, false, if◌then◌else◌, List, [], ◌∷◌, map, length, drop, max, not, ◌==◌, Option, Some, refl, sym, ap, arith, ne_eqb}
use Rattle.std.proofs.lemmas.Bool.Decides.{nat_tests}
use Rattle.std.proofs.lemmas.Bool.{false≢true}
use Rattle.std.proofs.lemmas.List.{map-append, length_push}
use Rattle.regex_hir.specs.declared.hir.Hir.{Hir}
use Rattle.regex_hir.specs.Meaning.{meaning, cat_all, alt_all}
use Rattle.regex_hir.specs.Re.{Re, empty, alt, byte_in}
use Rattle.regex_syntax.proofs.BranchLemmas.{join_after, join_parts_is, branch_ends, branch_goes, branches_go, join_ends, more_branches, more_parts}
use Rattle.regex_syntax.proofs.ReadingLemmas.{skip_from-nil}
use Rattle.regex_syntax.proofs.TreeLaws.{cat-empty, alt-fail, same_sym, cat_all-push, alt_all-push}
use Rattle.regex_syntax.specs.Brackets.{Nested, join}
use Rattle.regex_syntax.specs.Grammar.{Place, items, branches, group_count}
use Rattle.regex_syntax.specs.Reading.{Text, skip, first, is_at, is_empty, ◌>>=◌}
use Rattle.phone_automaton.proofs.Alike.{ascii_refl, cat_all_grown, alt_all_grown}
use Rattle.phone_automaton.specs.Ascii.{AsciiSame}
use Rattle.phone_plain.proofs.Counting.{apart_stays}
use Rattle.phone_plain.proofs.Parting.{of_same}
use Rattle.phone_plain.specs.Bytes.{begins, follows_part, starts_part, ends_branch}
use Rattle.phone_plain.specs.Grammar.{place}
use Rattle.phone_plain.specs.Reads.{IsRead, IsOther, left, choice, sequence, part}
use Rattle.phone_plain.specs.declared.cursor.Cursor.{Cursor}

pub alone_cat : (xs rest : List Hir) (x : Hir) → xs ≡ rest ++ x ∷ [] → length xs ≡ 1 → AsciiSame (meaning x) (cat_all (map meaning xs))
alone_cat xs [] x e one = rw e (of_same _ _ (same_sym (cat-empty (meaning x))))
alone_cat xs (y ∷ ys) x e one = absurd (let l : length xs ≡ length (y ∷ ys) + 1 = ap length e ∙ length_push (y ∷ ys) x in omega (arith, l, one))

pub alone_alt : (xs rest : List Hir) (x : Hir) → xs ≡ rest ++ x ∷ [] → length xs ≡ 1 → AsciiSame (meaning x) (alt_all (map meaning xs))
alone_alt xs [] x e one = rw e (of_same _ _ (same_sym (alt-fail (meaning x))))
alone_alt xs (y ∷ ys) x e one = absurd (let l : length xs ≡ length (y ∷ ys) + 1 = ap length e ∙ length_push (y ∷ ys) x in omega (arith, l, one))

-- the meanings of parts
abbrev values : List (Nested Re) → List Re
values = map (λ part. part.value)

groups_add : (a b c x y : ℕ) → max (a + 1) x ≡ b + 1 → max (b + 1) y ≡ c + 1 → max (a + 1) (max x y) ≡ c + 1
groups_add a b c x y p q = omega (arith, p, q)

-- parts one after another, from one place to another
pub record AreParts (from : Cursor) (hirs : List Hir) (to : Cursor) : Type 0 where
  pub parts : List (Nested Re)
  pub matches : AsciiSame (cat_all (map meaning hirs)) (cat_all (values parts))
  pub groups : max (from.groups + 1) (group_count (cat_all (values parts))) ≡ to.groups + 1
  pub goes_on : left to ≤ left from
  pub reads : (n : ℕ) → 2 * left from + 1 ≤ n → (m : ℕ) × (2 * left to + 1 ≤ m) × (sequence n (place from) ≡ join_after cat_all parts (items m (place to)))

pub no_parts : (at : Cursor) → AreParts at [] at
no_parts at = record {
  parts = [];
  matches = ascii_refl empty;
  groups = omega arith;
  goes_on = omega arith;
  reads = λ n le. (n, le, join_parts_is cat_all (items n (place at)));
}

cat_pushed : (hirs : List Hir) (parts : List (Nested Re)) (h : Hir) (p : Nested Re) → AsciiSame (cat_all (map meaning hirs)) (cat_all (values parts)) →
    AsciiSame (meaning h) p.value → AsciiSame (cat_all (map meaning (hirs ++ h ∷ []))) (cat_all (values (parts ++ p ∷ [])))
cat_pushed hirs parts h p all one =
    let xs = map-append meaning hirs (h ∷ []) in
    let ys = map-append (λ (q : Nested Re). q.value) parts (p ∷ []) in
    rw (xs, ys) (cat_all_grown (map meaning hirs) (values parts) (meaning h) p.value all one)

cat_groups : (parts : List (Nested Re)) (p : Nested Re) → group_count (cat_all (values (parts ++ p ∷ []))) ≡ max (group_count (cat_all (values parts))) (group_count p.value)
cat_groups parts p =
    let ys = map-append (λ (q : Nested Re). q.value) parts (p ∷ []) in rw ys ((cat_all-push (values parts) p.value).groups.count)

alt_pushed : (hirs : List Hir) (parts : List (Nested Re)) (h : Hir) (p : Nested Re) → AsciiSame (alt_all (map meaning hirs)) (alt_all (values parts)) →
    AsciiSame (meaning h) p.value → AsciiSame (alt_all (map meaning (hirs ++ h ∷ []))) (alt_all (values (parts ++ p ∷ [])))
alt_pushed hirs parts h p all one =
    let xs = map-append meaning hirs (h ∷ []) in
    let ys = map-append (λ (q : Nested Re). q.value) parts (p ∷ []) in
    rw (xs, ys) (alt_all_grown (map meaning hirs) (values parts) (meaning h) p.value all one)

alt_groups : (parts : List (Nested Re)) (p : Nested Re) → group_count (alt_all (values (parts ++ p ∷ []))) ≡ max (group_count (alt_all (values parts))) (group_count p.value)
alt_groups parts p =
    let ys = map-append (λ (q : Nested Re). q.value) parts (p ∷ []) in rw ys ((alt_all-push (values parts) p.value).groups.count)

start_is_apart : (c : ℕ) → starts_part c ≡ true → follows_part c ≡ true
start_is_apart c h = grind (arith, nat_tests)

start_goes_on : (c : ℕ) → starts_part c ≡ true → (c == 124 || c == 41) ≡ false
start_goes_on c h = grind (arith, nat_tests)

part_begins : (t : Text) → begins starts_part t ≡ true → (t ≡ skip true t) × ((is_empty t || is_at "|)" t) ≡ false)
unfolding first skip
part_begins [] h = absurd (false≢true h)
part_begins (c ∷ t) h =
    (sym (apart_stays (c ∷ t) (start_is_apart c h)), rw (ne_eqb (suc (length t)) 0 (omega arith)) (start_goes_on c h))

more_reads : (from mid to : Cursor) (parts : List (Nested Re)) (p : Nested Re) → begins starts_part mid.rest.now ≡ true → left to < left mid →
    ((n : ℕ) → 2 * left from + 1 ≤ n → (m : ℕ) × (2 * left mid + 1 ≤ m) × (sequence n (place from) ≡ join_after cat_all parts (items m (place mid)))) →
    ((n : ℕ) → 2 * left mid + 0 ≤ n → part n (place mid) ≡ Some (p, place to)) →
    (n : ℕ) → 2 * left from + 1 ≤ n → (m : ℕ) × (2 * left to + 1 ≤ m) × (sequence n (place from) ≡ join_after cat_all (parts ++ p ∷ []) (items m (place to)))
more_reads from mid to parts p starts shorter all one n le = go (all n le)
  where
    go : (m : ℕ) × (2 * left mid + 1 ≤ m) × (sequence n (place from) ≡ join_after cat_all parts (items m (place mid))) →
        (m : ℕ) × (2 * left to + 1 ≤ m) × (sequence n (place from) ≡ join_after cat_all (parts ++ p ∷ []) (items m (place to)))
    go (zero, enough, is) = absurd (omega (arith, enough))
    go (suc m, enough, is) =
        let begin = part_begins mid.rest.now starts in
        let here = one m (omega (arith, enough)) in (
          m,
          omega (arith, enough, shorter),
          is ∙ branch_goes (suc m) m parts (place mid) mid.rest.now refl begin.0 begin.1 ∙ ap (λ o. o >>= more_parts m parts) here,
        )

pub one_more : (from mid to : Cursor) (hirs : List Hir) (hir : Hir) → AreParts from hirs mid → begins starts_part mid.rest.now ≡ true →
    IsRead part 0 mid hir to → left to < left mid → AreParts from (hirs ++ hir ∷ []) to
one_more from mid to hirs hir all starts one shorter = record {
  parts = all.parts ++ one.part ∷ [];
  matches = cat_pushed hirs all.parts hir one.part all.matches one.stands.matches;
  groups = rw (cat_groups all.parts one.part) (groups_add from.groups mid.groups to.groups _ _ all.groups one.stands.groups);
  goes_on = omega (arith, all.goes_on, shorter);
  reads = more_reads from mid to all.parts one.part starts shorter all.reads one.reads;
}

bar_ends : (c : ℕ) → (c == 124 || c == 41) ≡ true → follows_part c ≡ true
bar_ends c h = grind (arith, nat_tests)

branch_end : (t : Text) → ends_branch t ≡ true → (t ≡ skip true t) × ((is_empty t || is_at "|)" t) ≡ true)
unfolding first skip
branch_end [] h = (sym (skip_from-nil false), refl)
branch_end (c ∷ t) h =
    (sym (apart_stays (c ∷ t) (bar_ends c h)), rw (ne_eqb (suc (length t)) 0 (omega arith)) h)

sequence_ends : (from to : Cursor) (parts : List (Nested Re)) → ends_branch to.rest.now ≡ true →
    ((n : ℕ) → 2 * left from + 1 ≤ n → (m : ℕ) × (2 * left to + 1 ≤ m) × (sequence n (place from) ≡ join_after cat_all parts (items m (place to)))) →
    (n : ℕ) → 2 * left from + 1 ≤ n → sequence n (place from) ≡ Some (join cat_all parts, place to)
sequence_ends from to parts ends all n le = go (all n le)
  where
    go : (m : ℕ) × (2 * left to + 1 ≤ m) × (sequence n (place from) ≡ join_after cat_all parts (items m (place to))) →
        sequence n (place from) ≡ Some (join cat_all parts, place to)
    go (zero, enough, is) = absurd (omega (arith, enough))
    go (suc m, enough, is) =
        let end = branch_end to.rest.now ends in is ∙ branch_ends (suc m) m parts (place to) to.rest.now refl end.0 end.1

pub whole_sequence : (from to : Cursor) (hirs : List Hir) (hir : Hir) → AreParts from hirs to → ends_branch to.rest.now ≡ true →
    AsciiSame (meaning hir) (cat_all (map meaning hirs)) → IsRead sequence 1 from hir to
whole_sequence from to hirs hir all ends same = record {
  part = join cat_all all.parts;
  stands = record { matches = λ hay ok. same hay ok ∙ all.matches hay ok; groups = all.groups };
  goes_on = all.goes_on;
  reads = sequence_ends from to all.parts ends all.reads;
}

-- what follows the branches that are read: the end, or a bar and more of them
abbrev others : ℕ → Cursor → Option (List (Nested Re) × Place)
others m to =
    if not (is_at "|" to.rest.now) then Some ([], place to) else branches m (record (place to) { text = drop 1 to.rest.now })

-- branches, from one place to another
pub record AreBranches (from : Cursor) (hirs : List Hir) (to : Cursor) : Type 0 where
  pub parts : List (Nested Re)
  pub matches : AsciiSame (alt_all (map meaning hirs)) (alt_all (values parts))
  pub groups : max (from.groups + 1) (group_count (alt_all (values parts))) ≡ to.groups + 1
  pub goes_on : left to ≤ left from
  pub reads : (n : ℕ) → 2 * left from + 2 ≤ n → (m : ℕ) × (2 * left to ≤ m) × (choice n (place from) ≡ join_after alt_all parts (others m to))

branch_read : (from to : Cursor) (earlier : List (Nested Re)) (p : Nested Re) →
    ((n : ℕ) → 2 * left from + 1 ≤ n → sequence n (place from) ≡ Some (p, place to)) → (n : ℕ) → 2 * left from + 2 ≤ suc n →
    join_after alt_all earlier (branches (suc n) (place from)) ≡ join_after alt_all (earlier ++ p ∷ []) (others n to)
branch_read from to earlier p one n le =
    branches_go (suc n) n earlier (place from) refl ∙ ap (λ o. o >>= more_branches n earlier) (one n (omega (arith, le)))

first_reads : (from to : Cursor) (p : Nested Re) → left to ≤ left from →
    ((n : ℕ) → 2 * left from + 1 ≤ n → sequence n (place from) ≡ Some (p, place to)) → (n : ℕ) → 2 * left from + 2 ≤ n →
    (m : ℕ) × (2 * left to ≤ m) × (choice n (place from) ≡ join_after alt_all (p ∷ []) (others m to))
first_reads from to p goes_on one zero le = absurd (omega (arith, le))
first_reads from to p goes_on one (suc n) le =
    (n, omega (arith, le, goes_on), join_parts_is alt_all (branches (suc n) (place from)) ∙ branch_read from to [] p one n le)

alone_groups : (a b : ℕ) (x : Re) → max (a + 1) (group_count x) ≡ b + 1 → max (a + 1) (group_count (alt x (byte_in []))) ≡ b + 1
alone_groups a b x h = omega (arith, h)

pub first_branch : (from to : Cursor) (hirs : List Hir) (hir : Hir) → hirs ≡ hir ∷ [] → IsRead sequence 1 from hir to → AreBranches from hirs to
first_branch from to hirs hir e one = record {
  parts = one.part ∷ [];
  matches = rw e (alt_pushed [] [] hir one.part (ascii_refl (byte_in [])) one.stands.matches);
  groups = alone_groups from.groups to.groups one.part.value one.stands.groups;
  goes_on = one.goes_on;
  reads = first_reads from to one.part one.goes_on one.reads;
}

other_reads : (from mid next to : Cursor) (parts : List (Nested Re)) (p : Nested Re) → mid.rest.now ≡ 124 ∷ next.rest.now → next.groups ≡ mid.groups →
    left to ≤ left next →
    ((n : ℕ) → 2 * left from + 2 ≤ n → (m : ℕ) × (2 * left mid ≤ m) × (choice n (place from) ≡ join_after alt_all parts (others m mid))) →
    ((n : ℕ) → 2 * left next + 1 ≤ n → sequence n (place next) ≡ Some (p, place to)) →
    (n : ℕ) → 2 * left from + 2 ≤ n → (m : ℕ) × (2 * left to ≤ m) × (choice n (place from) ≡ join_after alt_all (parts ++ p ∷ []) (others m to))
unfolding first
other_reads from mid next to parts p bar kept goes_on all one n le = go (all n le)
  where
    shorter : left next < left mid
    shorter = rw bar (omega arith)

    go : (m : ℕ) × (2 * left mid ≤ m) × (choice n (place from) ≡ join_after alt_all parts (others m mid)) →
        (m : ℕ) × (2 * left to ≤ m) × (choice n (place from) ≡ join_after alt_all (parts ++ p ∷ []) (others m to))
    go (zero, enough, is) = absurd (omega (arith, enough, shorter))
    go (suc m, enough, is) =
        let behind : others (suc m) mid ≡ branches (suc m) (place next) = rw (bar, kept) refl in
        (m, omega (arith, enough, shorter, goes_on), is ∙ ap (join_after alt_all parts) behind ∙ branch_read next to parts p one m (omega (arith, enough, shorter)))

pub another : (from mid to : Cursor) (hirs : List Hir) (hir : Hir) → AreBranches from hirs mid → IsOther mid hir to → AreBranches from (hirs ++ hir ∷ []) to
another from mid to hirs hir all other =
    let one = other.branch in
    let shorter : left other.next < left mid = rw other.bar (omega arith) in
    let kept : max (mid.groups + 1) (group_count one.part.value) ≡ to.groups + 1 = rw other.same_groups at one.stands.groups in record {
      parts = all.parts ++ one.part ∷ [];
      matches = alt_pushed hirs all.parts hir one.part all.matches one.stands.matches;
      groups = rw (alt_groups all.parts one.part) (groups_add from.groups mid.groups to.groups _ _ all.groups kept);
      goes_on = omega (arith, all.goes_on, one.goes_on, shorter);
      reads = other_reads from mid other.next to all.parts one.part other.bar other.same_groups one.goes_on all.reads one.reads;
    }

no_bar : (t : Text) → begins (λ c. c == 124) t ≡ false → is_at "|" t ≡ false
unfolding first
no_bar [] h = refl
no_bar (c ∷ t) h = h

choice_ends : (from to : Cursor) (parts : List (Nested Re)) → begins (λ c. c == 124) to.rest.now ≡ false →
    ((n : ℕ) → 2 * left from + 2 ≤ n → (m : ℕ) × (2 * left to ≤ m) × (choice n (place from) ≡ join_after alt_all parts (others m to))) →
    (n : ℕ) → 2 * left from + 2 ≤ n → choice n (place from) ≡ Some (join alt_all parts, place to)
choice_ends from to parts ends all n le = go (all n le)
  where
    go : (m : ℕ) × (2 * left to ≤ m) × (choice n (place from) ≡ join_after alt_all parts (others m to)) →
        choice n (place from) ≡ Some (join alt_all parts, place to)
    go (m, enough, is) =
        let end : others m to ≡ Some ([], place to) = rw (no_bar to.rest.now ends) refl in
        is ∙ ap (join_after alt_all parts) end ∙ join_ends alt_all parts (place to)

pub whole_choice : (from to : Cursor) (hirs : List Hir) (hir : Hir) → AreBranches from hirs to → begins (λ c. c == 124) to.rest.now ≡ false →
    AsciiSame (meaning hir) (alt_all (map meaning hirs)) → IsRead choice 2 from hir to
whole_choice from to hirs hir all ends same = record {
  part = join alt_all all.parts;
  stands = record { matches = λ hay ok. same hay ok ∙ all.matches hay ok; groups = all.groups };
  goes_on = all.goes_on;
  reads = choice_ends from to all.parts ends all.reads;
}
