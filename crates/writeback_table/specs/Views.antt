-- What a pass sees of the tables that is under way while commands change them.
use Rattle.std.specs.Prelude.{Bool, false, not}
use Rattle.writeback_table.specs.declared.command.Command.{Command}
use Rattle.writeback_table.specs.declared.command.Command.TheVariants.{Stage, Main}

-- the command changes what a pass sees that entered with this bit: the main tables, or what is staged
abbrev pub disturbs : Bool → Command → Bool
disturbs bit (Stage update) = bit
disturbs bit (Main update) = not bit
disturbs bit _ = false
