-- A whole call of the program.
use Rattle.std.specs.Prelude.{ℕ, List}
use Rattle.gal_io.specs.Files.{FilesState}
use Rattle.gal_io.specs.Sink.{SinkState}
use Rattle.switch_ir.specs.Port.{PortState}

-- what a request works on, as it found it and as it left it
pub record Work : Type 0 where
  pub files : FilesState
  pub files_after : FilesState
  pub port : PortState
  pub port_after : PortState
  pub out : SinkState
  pub out_after : SinkState

abbrev pub work_of : FilesState → FilesState → PortState → PortState → SinkState → SinkState → Work
work_of f f' p p' o o' =
    record { files = f; files_after = f'; port = p; port_after = p'; out = o; out_after = o' }

-- what a call was given, and what it left
pub record Call : Type 0 where
  -- the words after the program's name
  pub words : List (List ℕ)
  pub work : Work
  pub err : SinkState
  pub err_after : SinkState
