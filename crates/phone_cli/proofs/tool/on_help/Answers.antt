use Rattle.std.proofs.Common.{inl, ◌≡◌, ◌∙◌}
use Rattle.phone_words.specs.Help.{help_text}
use Rattle.phone_cli.proofs.WriteLemmas.{tells_of}
use Rattle.phone_cli.proofs.tool.on_help.Goals as goal

pub returns : goal.returns
returns g c = λ to_come faults.
    let same : c.as_str.result.now ≡ help_text = c.as_str.ensures.value ∙ c.in-Ok.ensures in
    inl (tells_of help_text to_come faults _ _ _ _ _ _ c.write_text-end.result c.ended.result
    (rw same at c.write_text-end.ensures.written) c.write_text-end.ensures.handed_on
    c.ended.ensures)
