use Rattle.std.proofs.Common.{◌-◌, ◌≡◌, ◌<◌, ◌≤◌, ℕ, length, get_or, nat_cmp}
use Rattle.std.specs.Cmp.Lexicographic.{slice_cmp}
use Rattle.std.specs.declared.cmp.Ordering.TheVariants.{Less, Greater}
use Rattle.phone_index.specs.Orders.{text_of}
use Rattle.phone_index.specs.declared.sorted.Named.{Named}
use Rattle.phone_index.proofs.Halves.{StepsLeft}
use Rattle.phone_index.proofs.sorted.Sorted.find_in.Given as goal

abbrev pub invariant-loop-start : goal.invariant-loop-start
invariant-loop-start l = record {
  in_order : l.start ≤ l.end;
  within : l.end ≤ length l.self;
  below : (k : ℕ) (d : Named) → k < l.start → slice_cmp nat_cmp (text_of (get_or l.self k d)) l.text ≡ Less;
  above : (k : ℕ) (d : Named) → l.end ≤ k → k < length l.self → slice_cmp nat_cmp (text_of (get_or l.self k d)) l.text ≡ Greater;
  steps : StepsLeft (length l.self) (l.end - l.start) l.initial.steps l.steps;
}

abbrev pub decreases-loop-start : goal.decreases-loop-start
decreases-loop-start l = l.end - l.start
