-- What contracts see of a limit and of its seats.
use Rattle.std.specs.Prelude.{ℕ, ◌+◌, ◌-◌, refl}
use Rattle.std.specs.Coded.{Coded, code_by, coded×, coded_ℕ}
use Rattle.atomic_table.specs.Seated.{TableId, table_id_coded}

-- which limit it is, and how many rows it grants
pub record Budget : Type 0 where
  pub table : TableId
  pub limit : ℕ

-- the limit of a seat, the rows that may still be claimed through it, those that were claimed, and those that were granted
pub record SeatState : Type 0 where
  pub budget : Budget
  pub room : ℕ
  pub claimed : ℕ
  pub granted : ℕ

-- a seat that may claim so many rows and has claimed none
abbrev pub seat_with : Budget → ℕ → SeatState
seat_with b room = record { budget = b; room = room; claimed = 0; granted = 0 }

-- the seat once so many rows were claimed through it, and so many of them granted
abbrev pub after_claim : ℕ → ℕ → SeatState → SeatState
after_claim rows granted s = record { budget = s.budget; room = s.room - rows; claimed = s.claimed + rows; granted = s.granted + granted }

-- the seat once so much of its room went to another
abbrev pub after_split : ℕ → SeatState → SeatState
after_split room s = record { budget = s.budget; room = s.room - room; claimed = s.claimed; granted = s.granted }

-- the first seat once the second was joined into it
abbrev pub after_join : SeatState → SeatState → SeatState
after_join s t = record { budget = s.budget; room = s.room + t.room; claimed = s.claimed + t.claimed; granted = s.granted + t.granted }

abbrev pub budget_code : Coded Budget
budget_code = code_by (TableId × ℕ) (coded× table_id_coded coded_ℕ) (λ b. (b.table, b.limit)) (λ p. record { table = p.0; limit = p.1 }) (λ _. refl)

abbrev pub seat_state_code : Coded SeatState
seat_state_code =
    code_by (Budget × (ℕ × (ℕ × ℕ))) (coded× budget_code (coded× coded_ℕ (coded× coded_ℕ coded_ℕ)))
    (λ s. (s.budget, (s.room, (s.claimed, s.granted))))
    (λ p. record { budget = p.0; room = p.1.0; claimed = p.1.1.0; granted = p.1.1.1 }) (λ _. refl)
