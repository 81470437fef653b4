-- Changes that have the widths of an object.
use Rattle.std.specs.Prelude.{Bool, true, ◌&&◌}
use Rattle.state_store.specs.declared.object.ObjectDecl.{ObjectDecl}
use Rattle.state_store.specs.Kept.{have_widths}
use Rattle.writeback_table.specs.declared.command.To.{To}
use Rattle.writeback_table.specs.declared.command.To.TheVariants.{Value, Gone}
use Rattle.writeback_table.specs.declared.command.Update.{Update}

abbrev pub has_value_widths : ObjectDecl → To → Bool
has_value_widths d (Value values) = have_widths d.values values
has_value_widths d Gone = true

-- the change has a key and values of the object, in count and widths
abbrev pub fits_update : ObjectDecl → Update → Bool
fits_update d u = have_widths d.keys u.key && has_value_widths d u.to
