-- Groups, parts with their operators, and whole patterns.
use Rattle.std.proofs.Common.{◌≡◌, ◌≤◌, ◌<◌, ◌+◌, ◌*◌, ◌∙◌, ◌++◌, ◌^◌, ℕ, zero, suc, Bool, true, false, if◌then◌else◌, List, [], ◌∷◌, replicate, max, Option, Some, None, refl, ap, arith, lt-ltb, nat_eq, add-one, get_or}
use Rattle.std.proofs.lemmas.Bool.Decides.{nat_tests}
use Rattle.std.proofs.lemmas.List.{replicate-append-replicate, length-replicate}
use Rattle.regex_hir.specs.declared.hir.Hir.{Hir}
use Rattle.regex_hir.specs.Meaning.{meaning}
use Rattle.regex_hir.specs.Re.{Re}
use Rattle.regex_syntax.specs.Brackets.{Nested}
use Rattle.regex_syntax.specs.Grammar.{item, group_count, has_group, opening, capture, set_flags, names_below, read}
use Rattle.regex_syntax.specs.Reading.{Text, skip, skip_from, first, is_at, begins as begins_word}
use Rattle.phone_automaton.proofs.Alike.{ascii_group}
use Rattle.phone_automaton.specs.Ascii.{AsciiSame}
use Rattle.phone_plain.proofs.Counting.{apart_stays}
use Rattle.phone_plain.specs.Bytes.{is_apart, follows_part}
use Rattle.phone_plain.specs.Counts.{Repeats}
use Rattle.phone_plain.specs.Grammar.{verbose, unnamed}
use Rattle.phone_plain.specs.Reads.{IsRead, IsUnit, IsOpening, in_group, left, choice, part}
use Rattle.phone_plain.specs.declared.cursor.Cursor.{Cursor}

no_mark : (c : ℕ) → follows_part c ≡ true → (nat_eq 63 c ≡ false) × (nat_eq c 63 ≡ false)
no_mark c h = (grind (arith, nat_tests), grind (arith, nat_tests))

apart_captures : (t : Text) → is_apart t ≡ true → (begins_word "?P<" t ≡ false) × (begins_word "?<" t ≡ false) × (is_at "?" t ≡ false)
unfolding first
apart_captures [] h = (refl, refl, refl)
apart_captures (c ∷ t) h = let n = no_mark c h in (rw (n.0) refl, rw (n.0) refl, n.1)

one_more_name : (g : ℕ) → unnamed g ++ None ∷ [] ≡ unnamed (g + 1)
one_more_name g = replicate-append-replicate (g + 1) 1 None

pub capture_opens : (from inside : Cursor) → from.rest.now ≡ 40 ∷ inside.rest.now → is_apart inside.rest.now ≡ true → inside.groups ≡ from.groups + 1 →
    from.groups + 1 < 2 ^ 32 → IsOpening from true inside
unfolding opening capture first skip
capture_opens from inside e apart more room =
    let tests = apart_captures inside.rest.now apart in record {
      starts = rw e refl;
      groups = more;
      goes_on = rw e (omega arith);
      reads = rw (e, apart_stays inside.rest.now apart, tests.0, tests.1, tests.2, length-replicate {A = Option (List ℕ)} (from.groups + 1) None, lt-ltb (from.groups + 1) (2 ^ 32) room, one_more_name from.groups, more) refl;
    }

pub plain_opens : (from inside : Cursor) (a b : Text) → from.rest.now ≡ 40 ∷ a → a ≡ 63 ∷ b → b ≡ 58 ∷ inside.rest.now → inside.groups ≡ from.groups →
    IsOpening from false inside
unfolding opening set_flags first skip skip_from
plain_opens from inside a b e f h kept = record {
  starts = rw e refl;
  groups = kept;
  goes_on = rw (e, f, h) (omega arith);
  reads = rw (e, f, h, kept) refl;
}

in_group_same : (captures : Bool) (k : ℕ) (a b : Re) → AsciiSame a b → AsciiSame (in_group captures k a) (in_group captures k b)
in_group_same true k a b p = ascii_group k a b p
in_group_same false k a b p = p

in_group_counts : (captures : Bool) (g k e : ℕ) (a : Re) → k ≡ (if captures then g + 1 else g) → max (k + 1) (group_count a) ≡ e + 1 →
    max (g + 1) (group_count (in_group captures k a)) ≡ e + 1
in_group_counts true g k e a is h = omega (arith, is, h)
in_group_counts false g k e a is h = omega (arith, is, h)

pub group_read : (from inside end to : Cursor) (captures : Bool) (sub hir : Hir) → IsOpening from captures inside → IsRead choice 2 inside sub end →
    end.rest.now ≡ 41 ∷ to.rest.now → to.groups ≡ end.groups → meaning hir ≡ in_group captures inside.groups (meaning sub) → IsUnit from hir to
unfolding item first
group_read from inside end to captures sub hir how inner close kept is =
    let shorter : left to < left end = rw close (omega arith) in record {
      part = record { value = in_group captures inside.groups inner.part.value; depth = inner.part.depth + 1 };
      stands = record {
        matches = rw is (in_group_same captures inside.groups (meaning sub) inner.part.value inner.stands.matches);
        groups = in_group_counts captures from.groups inside.groups to.groups inner.part.value how.groups (rw kept inner.stands.groups);
      };
      goes_on = omega (arith, shorter, inner.goes_on, how.goes_on);
      reads = λ n le. (let enough : 2 * left inside + 2 ≤ n = omega (arith, le, how.goes_on) in
          rw (how.starts, how.reads, inner.reads n enough, close, kept) refl);
    }

pub part_read : (from mid to : Cursor) (sub hir : Hir) → IsUnit from sub mid → Repeats sub mid hir to → IsRead part 0 from hir to
part_read from mid to sub hir unit again =
    let r = again unit.part unit.stands.matches in record {
      part = r.whole;
      stands = record { matches = r.matches; groups = rw (r.same_groups, r.kept) unit.stands.groups };
      goes_on = omega (arith, unit.goes_on, r.goes_on);
      reads = λ n le. unit.reads n (omega (arith, le)) ∙ r.reads;
    }

pub part_goes_on : (from mid to : Cursor) (sub hir : Hir) → IsUnit from sub mid → Repeats sub mid hir to → left to < left from
part_goes_on from mid to sub hir unit again =
    let r = again unit.part unit.stands.matches in omega (arith, unit.goes_on, r.goes_on)

none_there : (m n : ℕ) → get_or (replicate {A = Option (List ℕ)} m None) n None ≡ None
none_there zero n = refl
none_there (suc m) zero = refl
none_there (suc m) (suc n) = none_there m n

same_both : (b : Bool) (x : Option (List ℕ)) → x ≡ None → (if b then x else None) ≡ None
same_both true x e = e
same_both false x e = refl

no_names : (re : Re) (m n : ℕ) → names_below re (replicate m None) n ≡ replicate n None
unfolding names_below
no_names re m zero = refl
no_names re m (suc n) =
    rw (no_names re m n, same_both (has_group re n) _ (none_there m n)) (replicate-append-replicate n 1 None ∙ ap (λ k. replicate k None) (add-one n))

pub whole_read : (from to : Cursor) (hir : Hir) → IsRead choice 2 from hir to → from.groups ≡ 0 → to.rest.now ≡ [] →
    (whole : Nested Re) × (read verbose from.rest.now ≡ Some (whole, unnamed to.groups)) × AsciiSame (meaning hir) whole.value
unfolding read
whole_read from to hir all none end =
    let begin = rw none at (all.reads (2 * left from + 2) (omega arith)) in
    let count : max 1 (group_count all.part.value) ≡ to.groups + 1 = omega (arith, none, all.stands.groups) in
    (all.part, rw (begin, end, count, no_names all.part.value (to.groups + 1) (to.groups + 1)) refl, all.stands.matches)
