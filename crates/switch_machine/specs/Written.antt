-- Registers that a stage has written so far.
use Rattle.std.specs.Prelude.{◌≡◌, ◌<◌, ℕ, true, List, length, slice_index}
use Rattle.transfer_header.specs.Steps.{is_among}
use Rattle.switch_machine.specs.declared.written.Written.{Written}

-- each of these places has the stamp, if there is such a register
abbrev pub Marks : List ℕ → Written → Type 0
Marks places w = (p : ℕ) → is_among p places ≡ true → p < length w.stamps.items → slice_index w.stamps.items p ≡ w.stamp
