use Rattle.phonenumber.proofs.ThinReadings.{thin_reads, thin_reads_back}
use Rattle.phonenumber.proofs.laws.thin_readings.Goals as goal

pub returns : goal.returns
returns c db hint t r database text = (thin_reads db database hint t text r, thin_reads_back db database hint t text r)
