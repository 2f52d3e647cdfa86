use Rattle.std.proofs.Common.{◌≡◌, ◌<◌, ◌++◌, ℕ, List, [], length}
use Rattle.phone_encodings.specs.Encodings.{decoded}
use Rattle.phone_encodings.specs.declared.encoding.Encoding.TheVariants.{Utf16}
use Rattle.phone_encodings.proofs.decoded.decode.Given as goal

abbrev pub invariant-loop-c : goal.invariant-loop-c
invariant-loop-c l = record {
  to_come : (more : List ℕ) → l.text ++ decoded l.encoding (l.held ++ more) ≡
      l.initial.text ++ decoded l.encoding (l.initial.held ++ more);
  same : l.text ≡ [] → l.held ≡ l.initial.held;
  known : l.encoding ≡ Utf16 → length l.held < 2;
}

abbrev pub decreases-loop-c : goal.decreases-loop-c
decreases-loop-c l = length l.held
