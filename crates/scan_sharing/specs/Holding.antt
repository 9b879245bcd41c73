-- A holder of a shared request, as contracts see it.
use Rattle.std.specs.Prelude.{ℕ}

pub record Holding : Type 0 where
  pub id : ℕ
  pub number : ℕ

-- a ticket: the number of its shared source, and its holder there
pub record Ticketing : Type 0 where
  pub source : ℕ
  pub holder : Holding
