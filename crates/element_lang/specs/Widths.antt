-- How many bits wide values are.
use Rattle.std.specs.Prelude.{ℕ, List, map, slice_index}
use Rattle.packet_fields.specs.Table.{row}
use Rattle.element_lang.specs.Tree.{ExprTree, Tree}
use Rattle.element_lang.specs.Tree.ExprTree.{lit, local, field, byte, shift, apply}

-- the widths of the locals, by number
abbrev pub local_widths : Tree → List ℕ
local_widths m = map (λ l. l.width) m.locals

-- the width of an expression's value, where the locals have these widths
abbrev pub width_of : List ℕ → ExprTree → ℕ
width_of widths (lit value width) = width
width_of widths (local x) = slice_index widths x
width_of widths (field f) = (row f).width
width_of widths (byte index) = 8
width_of widths (shift op by arg) = width_of widths arg
width_of widths (apply op width args) = width
