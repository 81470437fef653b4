-- A switch in memory as contracts see it, from its fields.
use Rattle.switch_machine.specs.declared.machine.ModelSwitch.{ModelSwitch}
use Rattle.switch_machine.specs.Counts.{counts_of}
use Rattle.switch_machine.specs.Loading.{code_in}
use Rattle.switch_machine.specs.Machine.{MachineState}
use Rattle.switch_machine.specs.UnderWay.{under_way}

abbrev pub machine_of : ModelSwitch → MachineState
machine_of m = record {
  code = code_in m.loaded;
  tables = m.tables;
  passes = under_way m.loaded;
  journal = m.journal;
  faults = m.faults;
  planned = m.planned.items;
  calls = counts_of m.calls;
}
