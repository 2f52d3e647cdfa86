-- What tells numbers apart.
use Rattle.std.specs.Prelude.{List, ℕ, ◌++◌}
use Rattle.phone_values.specs.declared.reading.Reading.{Reading}
use Rattle.phone_print.specs.Texts.{e164_text, extension_parameter}

-- the key of a number: its E.164 text, and its extension, where it has one, announced as in RFC
-- 3966, by `;ext=`
abbrev pub key_text : Reading → List ℕ
key_text n = e164_text n ++ extension_parameter n.extension
