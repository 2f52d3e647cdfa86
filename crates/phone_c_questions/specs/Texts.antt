-- What a text is as it is dialled, in a form that is given by its number.
use Rattle.std.specs.Prelude.{ℕ, List, encode_utf8_all}
use Rattle.phone_questions.specs.Letters.{diallable_only, digits_only, with_keys}
use Rattle.phone_c_questions.specs.declared.texts.Form.{Form}
use Rattle.phone_c_questions.specs.declared.texts.Form.TheVariants.{Diallable, Digits, Keys}

-- a form by its number
abbrev pub form_number : Form → ℕ
form_number Keys = 0
form_number Digits = 1
form_number Diallable = 2

-- the characters of a text in a form, as bytes
abbrev pub as_form : Form → List ℕ → List ℕ
as_form Keys t = encode_utf8_all (with_keys t)
as_form Digits t = digits_only t
as_form Diallable t = encode_utf8_all (diallable_only t)
