-- The rules by which our finder tells where a number may begin and end. The signs of a rule are
-- told in `Sets`, and how a rule fits a place in `Walks`: those before `^` are read from the place
-- outwards, so `:let^` is behind `tel:`.
use Rattle.std.specs.Prelude.{ℕ, List, [], ◌∷◌, codes}

-- what makes a link dial: `tel:`, `callto://`, `wa.me/`, `phone=`
unfoldable pub links : List (List ℕ)
links =
    codes ":let^" ∷ codes "//:otllac^" ∷ codes "/em.aw^" ∷ codes "=enohp^" ∷ []

-- a number doesn't begin behind a digit or a plus sign; behind money; at a digit, behind a digit
-- and what joins digits, behind a capital letter, an x that is no word's, a number sign, an equals
-- sign, or where a path goes on behind a slash; behind the first of two coordinates
unfoldable pub neighbours : List (List ℕ)
neighbours =
    codes "9^9" ∷ codes "9^<" ∷ codes "+^9" ∷ codes "+^<" ∷ codes "$^" ∷ codes "_$^" ∷
    codes "&9^9" ∷ codes "%^9" ∷ codes "x*^9" ∷ codes "#^9" ∷ codes "=^9" ∷ codes "/@^9" ∷
    codes "//^9" ∷ codes "_,999999.^" ∷ []

-- nor behind an area code, or another short part of a number, in brackets
unfoldable pub areas : List (List ℕ)
areas =
    codes ">9<^9" ∷ codes "_>9<^9" ∷ codes ">99<^9" ∷ codes "_>99<^9" ∷ codes ">999<^9" ∷
    codes "_>999<^9" ∷ codes ">9999<^9" ∷ codes "_>9999<^9" ∷ codes ">99999<^9" ∷
    codes "_>99999<^9" ∷ []

-- nor behind a calling code that a plus sign or two zeros lead
unfoldable pub codes_before : List (List ℕ)
codes_before =
    codes "-9+^" ∷ codes "-500!^" ∷ codes "--9+^" ∷ codes "--500!^" ∷ codes "-99+^" ∷
    codes "-9500!^" ∷ codes "--99+^" ∷ codes "--9500!^" ∷ codes "-999+^" ∷ codes "-99500!^" ∷
    codes "--999+^" ∷ codes "--99500!^" ∷ []

-- nor behind what begins an account number: two capital letters, two digits, groups of four
unfoldable pub accounts : List (List ℕ)
accounts =
    codes "_99%%^" ∷ codes "_9999_99%%^" ∷ codes "_9999_9999_99%%^" ∷
    codes "_9999_9999_9999_99%%^" ∷ codes "_9999_9999_9999_9999_99%%^" ∷
    codes "_9999_9999_9999_9999_9999_99%%^" ∷ []

-- nor inside the four groups of four digits of a card
unfoldable pub cards : List (List ℕ)
cards =
    codes "!^9999_9999_9999_9999!" ∷ codes "_9999!^9999_9999_9999!" ∷
    codes "_9999_9999!^9999_9999!" ∷ codes "_9999_9999_9999!^9999!" ∷ []

-- a number doesn't end before a digit; money, or a currency's letters; what joins digits and a
-- digit; cents; a slash and digits, but where these are a short first group, as another number's;
-- what announces an extension and a digit; behind the first of two coordinates
unfoldable pub followers : List (List ℕ)
followers =
    codes "^9" ∷ codes "^$" ∷ codes "^_$" ∷ codes "^_eur" ∷ codes "^_usd" ∷ codes "^&9" ∷
    codes "^&&9" ∷ codes "^,99!" ∷ codes "^/9?" ∷ codes "^/99?" ∷ codes "^/999?" ∷
    codes "^/9999?" ∷ codes "^/99999" ∷ codes "^x9" ∷ codes "^_x9" ∷ codes "^#9" ∷
    codes "^_#9" ∷ codes "^_~9" ∷ codes "999999.^,_" ∷ []

-- nor, where it ends in year, month and day, before a time
unfoldable pub stamps : List (List ℕ)
stamps =
    codes "93939993^t9" ∷ codes "93939993^_99:" ∷ codes "93939993^__99:" ∷ codes "93939993^_9:" ∷
    codes "93|939993^t9" ∷ codes "93|939993^_99:" ∷ codes "93|939993^__99:" ∷
    codes "93|939993^_9:" ∷ codes "9393|9993^t9" ∷ codes "9393|9993^_99:" ∷
    codes "9393|9993^__99:" ∷ codes "9393|9993^_9:" ∷ []

-- day, month and year, or month, day and year, with two or four digits of the year; or year, month
-- and day
unfoldable pub dates : List (List ℕ)
dates =
    codes "9|9|99?" ∷ codes "9|9|9999?" ∷ codes "9|39|99?" ∷ codes "9|39|9999?" ∷
    codes "39|9|99?" ∷ codes "39|9|9999?" ∷ codes "39|39|99?" ∷ codes "39|39|9999?" ∷
    codes "3999|9|9?" ∷ codes "3999|9|39?" ∷ codes "3999|39|9?" ∷ codes "3999|39|39?" ∷ []

-- what announces an extension: words, `x` in full width, signs, and pauses
unfoldable pub labels : List (List ℕ)
labels =
    codes "ext" ∷ codes "extn" ∷ codes "extension" ∷ codes "xt" ∷ codes "int" ∷ codes "anexo" ∷
    (0x434 ∷ 0x43E ∷ 0x431 ∷ []) ∷ (0xFF58 ∷ []) ∷ (0xFF45 ∷ 0xFF58 ∷ 0xFF54 ∷ []) ∷
    (0xFF58 ∷ 0xFF54 ∷ []) ∷ (0xFF49 ∷ 0xFF4E ∷ 0xFF54 ∷ []) ∷ codes "#" ∷ (0xFF03 ∷ []) ∷
    (0xFF5E ∷ []) ∷ codes ";ext=" ∷ codes ";" ∷ codes ",," ∷ []
