-- Inner: what a stream's answers mean, and how far reading and writing may have come.
use Rattle.std.specs.Prelude.{List, length, take, ℕ, zero, suc, ◌≤◌, ◌<◌, Option, Result, Ok, Err}
use Rattle.std.specs.Counts.{IsPrefixLen}
use Rattle.std.specs.IoError.{error_kind}
use Rattle.std.specs.Io.KnownBytes.{Keeps, Appends, Consumes, IsAtEnd}
use Rattle.std.specs.declared.io.Error.{Error}
use Rattle.std.specs.declared.io.ErrorKind.{ErrorKind}
use Rattle.std.specs.declared.io.ErrorKind.TheVariants as kind
use Rattle.streams.specs.declared.Moved.{Moved}
use Rattle.streams.specs.declared.Moved.TheVariants as moved

-- What a call that failed with this kind of error did: a signal came in between, or it failed for good.
abbrev pub failed_as : ErrorKind → Error → Result Moved Error
failed_as kind.Interrupted error = Ok moved.Interrupted
failed_as _ error = Err error

-- What a failed call did, by its error.
abbrev pub failed_by : Error → Result Moved Error
failed_by error = failed_as (error_kind error) error

-- What a call did: an answer above 0 counts bytes, 0 is none, and an error is a failure.
abbrev pub moved_by : Result ℕ Error → Result Moved Error
moved_by (Ok zero) = Ok moved.Nothing
moved_by (Ok (suc k)) = Ok (moved.Bytes (suc k))
moved_by (Err error) = failed_by error

-- The bytes of one call: at least one, and none behind the end of what was lent.
abbrev pub MovedOn : ℕ → Result Moved Error → Type 0
MovedOn long (Ok (moved.Bytes n)) = (0 < n) × (n ≤ long)
MovedOn long (Ok moved.Nothing) = Unit {0}
MovedOn long (Ok moved.Interrupted) = Unit {0}
MovedOn long (Err error) = Unit {0}

-- What was read stands at the buffer's start; of a failed reading nothing is said.
abbrev pub ReadInto : List ℕ → Result ℕ Error → Type 0
ReadInto buf (Ok n) = IsPrefixLen n buf
ReadInto buf (Err error) = Unit {0}

-- What one read took of a reader's bytes, where those are known: its bytes stand at the start of `rest`, none is the reader's end, and a call
-- that was interrupted or failed took none.
abbrev pub TookFrom : Option (List ℕ) → Option (List ℕ) → List ℕ → Result Moved Error → Type 0
TookFrom old new rest (Ok (moved.Bytes n)) = Consumes old new (take n rest)
TookFrom old new rest (Ok moved.Nothing) = Keeps old new × (0 < length rest → IsAtEnd new)
TookFrom old new rest (Ok moved.Interrupted) = Keeps old new
TookFrom old new rest (Err error) = Keeps old new

-- What one write put behind a writer's bytes, where those are known: the first bytes of `rest`, and none where it took none or failed.
abbrev pub PutTo : Option (List ℕ) → Option (List ℕ) → List ℕ → Result Moved Error → Type 0
PutTo old new rest (Ok (moved.Bytes n)) = Appends old new (take n rest)
PutTo old new rest (Ok moved.Nothing) = Keeps old new
PutTo old new rest (Ok moved.Interrupted) = Keeps old new
PutTo old new rest (Err error) = Keeps old new

-- What was read are the reader's next bytes, where those are known, and where the buffer has room for more the reader is at its end.
abbrev pub GivenBy : Option (List ℕ) → Option (List ℕ) → List ℕ → Result ℕ Error → Type 0
GivenBy old new buf (Ok n) = Consumes old new (take n buf) × (n < length buf → IsAtEnd new)
GivenBy old new buf (Err error) = Unit {0}

-- A writer's bytes, where those are known, have grown by some bytes, and lost none.
pub record Grew (old new : Option (List ℕ)) : Type 0 where
  pub added : List ℕ
  pub appended : Appends old new added
