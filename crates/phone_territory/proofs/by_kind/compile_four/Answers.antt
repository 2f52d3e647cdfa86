use Rattle.phone_territory.specs.Refusals.{patterns_in_descriptor, with_four}
use Rattle.phone_territory.proofs.Refused.{still-read}
use Rattle.phone_territory.proofs.by_kind.compile_four.Goals as goal

pub returns-clause-read : goal.returns-clause-read
returns-clause-read g c ps p =
    let given = c.args.given in
    let fourth = c.zip_read-fourth.ensures.read (patterns_in_descriptor given.3) ps c.compile_descriptor.ensures.read p in
    let third = c.zip_read-third.ensures.read (patterns_in_descriptor given.2) _ c.compile_descriptor-2.ensures.read fourth in
    let second = c.zip_read-second.ensures.read (patterns_in_descriptor given.1) _ c.compile_descriptor-3.ensures.read third in
    let first = c.zip_read.ensures.read (patterns_in_descriptor given.0) _ c.compile_descriptor-4.ensures.read second in
    still-read (λ all. (all.0.0, (all.0.1, (all.0.2, (all.0.3, all.1))))) (with_four given ps) c.zip_read.result c.flat.result c.flat.ensures.made c.flat.ensures.refused first
