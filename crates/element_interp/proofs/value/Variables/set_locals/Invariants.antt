use Rattle.std.proofs.Common.{◌≡◌, drop}
use Rattle.element_lang.specs.Meaning.{bind_from}
use Rattle.element_interp.proofs.value.Variables.set_locals.Given as goal

abbrev pub invariant-loop-i : goal.invariant-loop-i
invariant-loop-i l = record {
  told : bind_from l.i (drop l.i l.into) l.values l.self.locals.items ≡ bind_from 0 l.into l.values l.initial.self.locals.items;
  fields : l.self.fields ≡ l.initial.self.fields;
}
