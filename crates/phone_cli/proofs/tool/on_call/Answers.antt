use Rattle.std.proofs.Common.{inl, inr, refl, sym, ◌∙◌}
use Rattle.phone_cli.specs.Abouts.{regions_text, version_text}
use Rattle.phone_cli.specs.Answers.Answers.{help, ignored, no_help, reading, regions, version}
use Rattle.phone_cli.proofs.RunLemmas.{reads_by}
use Rattle.phone_cli.proofs.WriteLemmas.{tells_of}
use Rattle.phone_cli.proofs.tool.on_call.Goals as goal

pub returns-then-ignores_words : goal.returns-then-ignores_words
returns-then-ignores_words g c = let told = c.say.ensures.some in
    rw c.say.ensures.status (ignored (sym c.ignores_words.ensures ∙ c.if-ignores_words.true)
    (told.0, record { idle = refl; said = told.1 }))

pub returns-in-Help : goal.returns-in-Help
returns-in-Help g c = elim (c.on_help.ensures _ _) [
  | inl t ↦ help _ c.in-Help.is t
  | inr n ↦ rw n.0 (no_help c.in-Help.is n.1)
]

pub returns-in-Regions : goal.returns-in-Regions
returns-in-Regions g c = regions _ c.in-Regions.is
    (sym c.ignores_words.ensures ∙ c.if-ignores_words.false) (tells_of regions_text _ _
    _ _ _ _ _ _ c.write_regions-end.result c.ended.result c.write_regions-end.ensures.written
    c.write_regions-end.ensures.handed_on c.ended.ensures)

pub returns-in-Version : goal.returns-in-Version
returns-in-Version g c = let w = c.write_version-end.ensures.written in
    version _ w.0 c.in-Version.is (sym c.ignores_words.ensures ∙ c.if-ignores_words.false)
    w.1 (tells_of (version_text c.args.call.now.rules w.0) _ _
    _ _ _ _ _ _ c.write_version-end.result c.ended-in-Version.result w.2
    c.write_version-end.ensures.handed_on c.ended-in-Version.ensures)

pub returns-in_default : goal.returns-in_default
returns-in_default g c =
    let reads = reads_by _ c.in_default.not-Help c.in_default.not-Version
    c.in_default.not-Regions in reading _ reads (c.on_files.ensures reads)
