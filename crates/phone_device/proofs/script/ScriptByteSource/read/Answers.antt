use Rattle.std.proofs.Common.{◌≡◌, ◌+◌, take, drop, length, refl, ap, sym, ◌∙◌, arith}
use Rattle.std.proofs.lemmas.List.{length-take-le}
use Rattle.phone_device.specs.Scripts.{Scripted}
use Rattle.phone_device.proofs.PassingLemmas.{passed_on, to_end}
use Rattle.phone_device.proofs.script.ScriptByteSource.read.Goals as goal

pub returns-clause-passes : goal.returns-clause-passes
returns-clause-passes c =
    let n = c.min-n.result in
    let items = c.self.inside.bytes.items in
    let p = c.self.inside.passed in
    let copied : c.copy_from_slice.new.self ≡ take n (drop p items) =
    c.copy_from_slice.ensures.after ∙ ap (take n) (to_end p c.deref.result.now) ∙ ap (λ xs. take n (drop p xs)) c.deref.ensures.value in
    let long : length c.copy_from_slice.new.self ≡ n = c.copy_from_slice.ensures.len ∙ length-take-le n c.args.buf.now (omega (arith, c.min-n.ensures)) in (
      drop (p + n) items,
      sym (ap (λ (s : Scripted). s.rest) c.self.view_is) ∙ passed_on items c.copy_from_slice.new.self (drop n c.args.buf.now) p n copied long,
      refl,
    )
