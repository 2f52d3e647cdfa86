-- Tables of prefixes: what is open behind the handle of one, why a text is none, and what is looked
-- up.
use Rattle.std.specs.Prelude.{◌≡◌, ℕ, List, length}
use denote.RawPtr.{null_ptr, InBlock}
use Rattle.phone_prefixes.specs.Refusals.{IsFirstFault}
use Rattle.phone_prefixes.specs.Tables.{Entry, IsLongest, IsTable}
use Rattle.phone_prefixes.specs.declared.fault.LineFault.{LineFault}
use Rattle.phone_prefixes.specs.declared.fault.LineFault.TheVariants.{Empty, NoTab, NoPrefix}
use Rattle.phone_prefixes.specs.declared.fault.LineFault.TheVariants.{NotUtf8, PrefixTwice}
use Rattle.phone_c_base.specs.declared.status.TheConstants.{LINE_EMPTY, LINE_NO_TAB, LINE_NO_PREFIX}
use Rattle.phone_c_base.specs.declared.status.TheConstants.{LINE_NOT_UTF8, LINE_TWICE}
use Rattle.phone_c_base.specs.declared.table.PrefixTable.{PrefixTable}

-- what is wrong with a line, by its number
abbrev pub fault_number : LineFault → ℕ
fault_number Empty = LINE_EMPTY
fault_number NoTab = LINE_NO_TAB
fault_number NoPrefix = LINE_NO_PREFIX
fault_number NotUtf8 = LINE_NOT_UTF8
fault_number PrefixTwice = LINE_TWICE

-- nothing is open: the pointer is null
abbrev pub IsTableClosed : PrefixTable → Type 0
IsTableClosed t = t.at ≡ null_ptr

-- the table of these entries is open, at a block of memory
abbrev pub IsTableOpen : PrefixTable → List Entry → Type 0
IsTableOpen t entries = InBlock t.at × (t.entries ≡ entries)

-- the table that a text is, is open
abbrev pub IsTableOpenedBy : List ℕ → PrefixTable → Type 0
IsTableOpenedBy text t = InBlock t.at × IsTable text t.entries

-- the handle is as it was: closed, or the same table is open behind it
abbrev pub IsTableKept : (before after : PrefixTable) → Type 0
IsTableKept before after = (IsTableClosed before → IsTableClosed after) ×
    (¬ (IsTableClosed before) → IsTableOpen after before.entries)

-- the line of this number is the first that is no entry's, and the status says what is wrong
abbrev pub IsLineRefusedAs : List ℕ → (line status : ℕ) → Type 0
IsLineRefusedAs text line status =
    (what : LineFault) × IsFirstFault text line what × (status ≡ fault_number what)

-- of the entries the one with the longest prefix that begins the digits has this text, and a prefix
-- of this length
abbrev pub IsTextOfLongest : List Entry → (digits text : List ℕ) → ℕ → Type 0
IsTextOfLongest entries digits text prefix_len = (entry : Entry) × IsLongest entries digits entry ×
    (text ≡ entry.text) × (prefix_len ≡ length entry.prefix)

-- it has this text
abbrev pub IsTextFor : List Entry → (digits text : List ℕ) → Type 0
IsTextFor entries digits text =
    (entry : Entry) × IsLongest entries digits entry × (text ≡ entry.text)
