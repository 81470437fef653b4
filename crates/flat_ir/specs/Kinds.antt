-- Kinds of instructions, as a split sees them.
use Rattle.std.specs.Prelude.{ℕ, ◌==◌, Bool, true, false, not, ◌&&◌, ◌||◌, List, [], ◌∷◌}
use Rattle.gal_bits.specs.Operators.{operator_row}
use Rattle.flat_ir.specs.declared.program.ValueId.{ValueId}
use Rattle.flat_ir.specs.Program.{Program, Work, Step, operands}
use Rattle.flat_ir.specs.Program.Work.{const, field, apply, shift, select, byte, look, put, del}
use Rattle.state_store.specs.Kinds.{is_constant}

-- the switch has this kind of work
abbrev pub can_switch : Work → Bool
can_switch (apply op width args) = (operator_row op).on_switch
can_switch (byte index) = false
can_switch (put object keys values) = false
can_switch (del object keys) = false
can_switch _ = true

abbrev pub fits_switch : Step → Bool
fits_switch s = not s.looped && can_switch s.work

abbrev pub is_write : Work → Bool
is_write (put object keys values) = true
is_write (del object keys) = true
is_write _ = false

abbrev pub is_look : Work → Bool
is_look (look object keys) = true
is_look _ = false

-- it looks up a row of the object
abbrev pub looks_at : ℕ → Work → Bool
looks_at o (look object keys) = object == o
looks_at o _ = false

abbrev pub is_const : Work → Bool
is_const (const width number) = true
is_const _ = false

abbrev pub is_field : Work → Bool
is_field (field name) = true
is_field _ = false

-- what needs nothing but the code and the packet
abbrev pub is_input : Work → Bool
is_input work = is_const work || is_field work

-- a look in a map, a vector or an integer
abbrev pub is_mutable_look : Program → Work → Bool
is_mutable_look f (look object keys) = not (is_constant f.objects object)
is_mutable_look f _ = false

-- the operands that an instruction needs whatever their numbers: of a select, the condition alone
abbrev pub needed : Work → List ValueId
needed (select width cond first second) = cond ∷ []
needed (apply op width args) = args
needed (shift op width arg by) = arg ∷ []
needed (byte index) = index ∷ []
needed (look object keys) = keys
needed (put object keys values) = operands (put object keys values)
needed (del object keys) = keys
needed _ = []
