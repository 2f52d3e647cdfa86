-- A sink that takes so many bytes and no more.
use Rattle.std.specs.Prelude.{ℕ, ◌==◌, Bool, true, false, List}
use Rattle.phone_device.specs.declared.limit.Then.{Then}
use Rattle.phone_device.specs.declared.limit.Then.TheVariants.{Fail, FlushFail, Zero}

-- what a sink with a limit holds: the bytes taken, how many it still takes, what it does then, its
-- faults so far, and how many writes no flush has handed on
pub record Limited : Type 0 where
  pub taken : List ℕ
  pub left : ℕ
  pub after : Then
  pub faults : ℕ
  pub unflushed : ℕ

-- a write fails where no room is left, in place of taking no bytes
abbrev pub is_refused : ℕ → Then → Bool
is_refused left Fail = left == 0
is_refused left FlushFail = left == 0
is_refused left Zero = false

-- a flush fails
abbrev pub is_flush_refused : Then → Bool
is_flush_refused Fail = false
is_flush_refused FlushFail = true
is_flush_refused Zero = false
