-- What a program that reads a dump tells: what was there and what is there, its status, and the line on its fault.
use Rattle.std.specs.Prelude.{◌≡◌, ◌⊎◌, ℕ, ◌==◌, true, List, Option}
use Rattle.std.specs.List.{list_any}
use Rattle.ndc_port.specs.Bytes.{Appends, AppendsFront}
use Rattle.ndc_port.specs.Fault.{Rose}
use Rattle.ndc_dump_causes.specs.declared.error.DumpError.{DumpError}
use Rattle.ndc_dump_causes.specs.declared.error.DumpError.TheVariants as error
use Rattle.ndc_dump.specs.Faults.{dump_batch_line, dump_line}

-- the status is one of these
abbrev pub IsAmong : ℕ → List ℕ → Type 0
IsAmong status statuses = list_any (λ one. one == status) statuses ≡ true

-- what was there, and what is there, as a call saw it: the bytes left in the source, its faults, what out has, and its faults
pub record Streams : Type 0 where
  pub left : Option (List ℕ)
  pub source_faults : ℕ
  pub written : Option (List ℕ)
  pub out_faults : ℕ

-- the bytes were written whole, or a prefix of them, and then the count of faults rose
abbrev pub Tells : Option (List ℕ) → Option (List ℕ) → ℕ → ℕ → List ℕ → Type 0
Tells before after faults_before faults_after bytes =
    Appends before after bytes ⊎ (AppendsFront before after bytes × Rose faults_before faults_after)

-- the line by which the program of this name tells of a faulty dump was written, or a prefix of it and a fault came
abbrev pub TellsErrorAs : List ℕ → Option (List ℕ) → Option (List ℕ) → ℕ → ℕ → DumpError → Type 0
TellsErrorAs program before after faults_before faults_after (error.Line line cause) = Tells before after faults_before faults_after (dump_line program line cause)
TellsErrorAs program before after faults_before faults_after (error.Key key cause) = Tells before after faults_before faults_after (dump_batch_line program key cause)
TellsErrorAs program before after faults_before faults_after error.Memory = ⊥
