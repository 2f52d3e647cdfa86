use Rattle.std.proofs.Common.{◌-◌, ◌≡◌, ◌<◌, ◌≤◌, ℕ, length, get_or, nat_cmp}
use Rattle.std.specs.Cmp.Lexicographic.{slice_cmp}
use Rattle.std.specs.declared.cmp.Ordering.TheVariants.{Less, Greater}
use Rattle.phone_places.specs.Tables.{name_of}
use Rattle.phone_places.specs.declared.countries.Entry.{Entry}
use Rattle.phone_places.proofs.countries.Countries.named.Given as goal

abbrev pub invariant-loop-start : goal.invariant-loop-start
invariant-loop-start l = record {
  in_order : l.start ≤ l.end;
  within : l.end ≤ length l.self;
  below : (k : ℕ) (d : Entry) → k < l.start → slice_cmp nat_cmp (name_of (get_or l.self k d)) l.name ≡ Less;
  above : (k : ℕ) (d : Entry) → l.end ≤ k → k < length l.self → slice_cmp nat_cmp (name_of (get_or l.self k d)) l.name ≡ Greater;
}

abbrev pub decreases-loop-start : goal.decreases-loop-start
decreases-loop-start l = l.end - l.start
