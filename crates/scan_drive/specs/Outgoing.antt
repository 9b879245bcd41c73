-- What is given and waits to be taken.
use Rattle.std.specs.Prelude.{List, refl}
use Rattle.std.specs.Coded.{Coded, code_by, coded_list}

-- chunks that wait, the first one first
pub record Outgoing (C : Type 0) : Type 0 where
  pub items : List C

-- how they are kept
abbrev pub outgoing_code : {C : Type 0} → Coded C → Coded (Outgoing C)
outgoing_code c = code_by (List _) (coded_list c) (λ o. o.items) (λ xs. record { items = xs }) (λ _. refl)
