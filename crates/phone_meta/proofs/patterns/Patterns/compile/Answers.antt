use Rattle.std.proofs.Common.{rules}
use Rattle.phone_meta.proofs.patterns.Patterns.compile.Goals as goal

pub returns-in_err-international_prefix-clause-read : goal.returns-in_err-international_prefix-clause-read
returns-in_err-international_prefix-clause-read c =
    let layouts = c.zip_read-layouts.ensures.read _ _ c.compile_each-national.ensures.read c.compile_each.ensures.read in
    let texts = c.zip_read-texts.ensures.read _ _ c.compile_text-parsing.ensures.read (c.zip_read.ensures.read _ _ c.compile_text-leading.ensures.read layouts) in
    let h = c.in_err-international_prefix.ensures.read _ _ c.compile_text-dialled.ensures.read texts in
    search (rules, h)

pub returns-clause-read : goal.returns-clause-read
returns-clause-read c =
    let layouts = c.zip_read-layouts.ensures.read _ _ c.compile_each-national.ensures.read c.compile_each.ensures.read in
    let texts = c.zip_read-texts.ensures.read _ _ c.compile_text-parsing.ensures.read (c.zip_read.ensures.read _ _ c.compile_text-leading.ensures.read layouts) in
    c.in_ok-international_prefix.ensures.read _ _ c.compile_text-dialled.ensures.read texts
