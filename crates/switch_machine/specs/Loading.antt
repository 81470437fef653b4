-- The code that is loaded.
use Rattle.std.specs.Prelude.{Option}
use Rattle.std.specs.Option.{option_map}
use Rattle.switch_ir.specs.Code.{Code, code_of}
use Rattle.switch_machine.specs.declared.loaded.Loaded.{Loaded}

abbrev pub loaded_code : Loaded → Code
loaded_code l = code_of l.code

abbrev pub code_in : Option Loaded → Option Code
code_in loaded = option_map loaded_code loaded
