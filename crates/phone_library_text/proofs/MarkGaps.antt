-- A mark and a gap at the end of a text.
use Rattle.std.proofs.Common.{◌≡◌, ℕ, true, List, ◌++◌, ap, ◌∙◌}
use Rattle.std.specs.List.{list_all}
use Rattle.phone_parts.specs.Longest.{IsWithoutLongest}
use Rattle.phone_parts.specs.Suffixes.{IsFew, is_gap, is_mark}
use Rattle.phone_parts.proofs.Longest.{IsFollowed, HasEnds, few_ends, few_fronts, followed_ends, longest_as, run_ends, then_longest}
use Rattle.phone_library_text.specs.Scans.{IsMarkGap, is_mark_gap}
use Rattle.phone_library_text.proofs.Announced.{mark_gap_of, mark_gap_parts}

abbrev Marks : List ℕ → Type 0
Marks w = IsFew is_mark 1 w

abbrev Gaps : List ℕ → Type 0
Gaps w = list_all is_gap w ≡ true

to_parts : (w : List ℕ) → IsMarkGap w → IsFollowed Marks Gaps w
to_parts w h = let m = mark_gap_parts w h in record { front = m.mark; back = m.gap; whole = m.whole; first = m.marks; second = m.gaps }

of_parts : (w : List ℕ) → IsFollowed Marks Gaps w → IsMarkGap w
of_parts w h = ap is_mark_gap h.whole ∙ mark_gap_of h.front h.back h.first h.second

-- an end of such a text is one
pub mark_gap_ends : HasEnds IsMarkGap
mark_gap_ends a b h = of_parts b (followed_ends Marks Gaps (few_ends is_mark 1) (run_ends is_gap) a b (to_parts (a ++ b) h))

-- the longest gap, and before it perhaps a mark, make the longest
pub longest_mark_gap : (text gapless left : List ℕ) → IsWithoutLongest (λ w. list_all is_gap w ≡ true) text gapless →
    IsWithoutLongest (λ w. IsFew is_mark 1 w) gapless left → IsWithoutLongest IsMarkGap text left
longest_mark_gap text gapless left gap mark =
    longest_as (IsFollowed Marks Gaps) IsMarkGap text left of_parts to_parts (then_longest Marks Gaps text gapless left (few_fronts is_mark 1) gap mark)
