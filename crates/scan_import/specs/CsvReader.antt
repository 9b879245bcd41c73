-- What a reader of CSV is between two records.
use Rattle.std.specs.Prelude.{◌≡◌, ℕ, List, Option, Some}
use Rattle.csv.specs.Reading.{Reached, Ready, default_config, source_of, strip_bom}
use Rattle.csv.specs.declared.parser.State.TheVariants as st
use Rattle.csv.specs.declared.reader.Reader.{Reader}
use Rattle.csv.specs.declared.reader.Trim.TheVariants as trim

-- it takes fields as they are, by the usual signs, and its next read is of one record
pub record IsPlain {R : Type 0} (reader : Reader R) : Type 0 where
  pub trims : reader.trim ≡ trim.None
  pub config : reader.config ≡ default_config
  pub ready : Ready reader

-- these records of a text were read, where the bytes are known
pub record WasRead {R : Type 0} (remaining : R → Option (List ℕ)) (bytes : List ℕ) (records : List (List (List ℕ))) (reader : Reader R) : Type 0 where
  pub left : List ℕ
  pub source : source_of remaining reader ≡ Some left
  pub reached : Reached default_config st.StartRecord (strip_bom bytes) records reader.state left
