-- The exit code of each status.
use Rattle.std.specs.Prelude.{ℕ}
use Rattle.gallium_cli.specs.declared.status.Status.{Status}
use Rattle.gallium_cli.specs.declared.status.Status.TheVariants.{Done, Usage, Source, Limits, Exceeded, Split, Trace}
use Rattle.gallium_cli.specs.declared.status.Status.TheVariants.{Schedule, TooLong, ReadFault, WriteFault, SwitchFault}
use Rattle.gallium_cli.specs.declared.status.Status.TheVariants.{NoMemory, Pcap, Report, Audit, Chain}

abbrev pub code_of : Status → ℕ
code_of Done = 0
code_of Usage = 2
code_of Source = 3
code_of Limits = 4
code_of Exceeded = 5
code_of Split = 6
code_of Trace = 7
code_of Schedule = 8
code_of TooLong = 9
code_of ReadFault = 10
code_of WriteFault = 11
code_of SwitchFault = 12
code_of NoMemory = 13
code_of Chain = 14
code_of Pcap = 15
code_of Report = 16
code_of Audit = 17
