-- A sink that keeps its bytes in memory.
use Rattle.std.specs.Prelude.{ℕ, List}

-- what it holds: the bytes taken, its faults so far, and how many writes no flush has handed on
pub record Kept : Type 0 where
  pub taken : List ℕ
  pub faults : ℕ
  pub unflushed : ℕ
