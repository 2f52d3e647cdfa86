use Rattle.std.proofs.Common.{◌≡◌, [], length}
use Rattle.csv.specs.Records.{partial_of}
use Rattle.phone_csv.specs.Firsts.{IsFront}
use Rattle.phone_csv.specs.Runs.{OfRead}
use Rattle.phone_csv.proofs.front.Front.read.Given as goal

abbrev pub invariant-loop : goal.invariant-loop
invariant-loop g l = record {
  read_bytes : OfRead (g.S.ByteSource.to_come l.initial.source) (g.S.ByteSource.to_come l.source) (λ bytes.
      (length bytes ≡ l.counter) × IsFront l.self.mark bytes l.self.cutter);
  partial : partial_of l.self.cutter.fields ≡ [];
  same_format : l.self.cutter.format ≡ l.initial.self.cutter.format;
  same_faults : g.S.ByteSource.faults l.source ≡ g.S.ByteSource.faults l.initial.source;
}
